-- The timed qualifiers by comparisons, a transition's sets by pairs, and its three tests.
use Prim.Native.Nat.{ℕ, ◌+◌}
use mathlib.Core.Bool.{Bool, true, false, ◌&&◌, not}
use mathlib.Core.Path.{◌≡◌, refl, sym, ap, ap₂, ◌∙◌}
use lib.Dec.{leb, eqb}
use native.Mathlib.Omega.{arith}
use borrow.Author.Tests.{ne_eqb, lt-leb, leb-true, leb-false}
use Rattle.sets.specs.Loops.{all, or_else}
use Rattle.sets.specs.Sets.{Apart, Below, union, beyond}
use Rattle.sets.proofs.Loops.{all_true, and_assoc, and_yes, and_no}
use Rattle.sets.proofs.Members.{apart-beyond}
use Rattle.fields.specs.Fields.{timed, longest, unless, signals_exist, transition_fits, steps_differ, transition_code}

-- both or neither
iff : Bool → Bool → Bool
iff true b = b
iff false b = not b

same_bool : (a b : Bool) → iff a b ≡ true → a ≡ b
unfolding iff
same_bool true true e = refl
same_bool false false e = refl
same_bool true false e = sym e
same_bool false true e = e

by-ranges : ℕ → Bool
by-ranges q = leb 3 q && leb q 8 && not (eqb q 5)

-- one test of the numbers up to 8, and none above is timed
pub timed-ranges : (q : ℕ) → leb 3 q && leb q 8 && not (eqb q 5) ≡ timed q
unfolding all by-ranges iff
timed-ranges q = go (leb q 8) refl
  where
    go : (b : Bool) → leb q 8 ≡ b → leb 3 q && leb q 8 && not (eqb q 5) ≡ timed q
    go true e = same_bool _ _ (all_true (λ k. iff (by-ranges k) (timed k)) 9 refl q (omega (arith, leb-true q 8 e)))
    go false e =
        let h = leb-false q 8 e in
        rw (lt-leb q 8 h, and_no (leb 3 q), ne_eqb q 3 (λ z. omega arith), ne_eqb q 4 (λ z. omega arith), ne_eqb q 6 (λ z. omega arith), ne_eqb q 7 (λ z. omega arith), ne_eqb q 8 (λ z. omega arith))

-- both sets of steps by one test, and both of signals
pub transition-pairs : (steps actions sources targets on off wait : ℕ)
    → Apart (union sources targets) (beyond steps) && Apart (union on off) (beyond (32 + actions)) && leb wait longest
    ≡ transition_fits steps actions sources targets on off wait
transition-pairs steps actions sources targets on off wait =
    ap (λ (x : Bool). x && leb wait longest)
    (ap₂ ◌&&◌ (apart-beyond sources targets steps) (apart-beyond on off (32 + actions))
    ∙ and_assoc (Below sources steps && Below targets steps) (signals_exist on actions) (signals_exist off actions))

-- ---- a transition that passes the tests of all three numbers has none

none-of-three : (a b c : Bool) → a && b && c ≡ eqb (or_else (unless a 5) (or_else (unless b 6) (unless c 7))) 0
none-of-three true true true = refl
none-of-three true true false = refl
none-of-three true false c = refl
none-of-three false b c = refl

by-numbers : (fits silent apart left reached : Bool) → fits && silent && apart && left && reached ≡ fits && (left && reached && apart) && silent
by-numbers false s a l r = refl
by-numbers true true true l r = and_yes (l && r) ∙ and_yes (l && r && true)
by-numbers true true false l r = rw (and_no (l && r))
by-numbers true false a l r = sym (and_no (l && r && a))

pub passes : (steps actions sources targets on off wait : ℕ)
    → transition_fits steps actions sources targets on off wait && Apart on off && Apart sources targets && not (eqb sources 0) && not (eqb targets 0)
    ≡ eqb (transition_code steps actions sources targets on off wait) 0
unfolding transition_code
passes steps actions sources targets on off wait =
    let fits = transition_fits steps actions sources targets on off wait in
    by-numbers fits (Apart on off) (Apart sources targets) (not (eqb sources 0)) (not (eqb targets 0)) ∙ none-of-three fits (steps_differ sources targets) (Apart on off)
