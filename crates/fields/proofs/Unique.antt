-- Two answers that one statement allows are equal, for each public function.
use Prim.Native.Nat.{ℕ, ◌<◌}
use mathlib.Core.Bool.{Bool}
use mathlib.Core.List.{List, [], ◌∷◌}
use mathlib.Core.Path.{◌≡◌, refl, sym, ap, ◌∙◌}
use native.Mathlib.Omega.{arith}
use lib.Dec.{eqb}
use lib.ListN.{get_or}
use Rattle.std.proofs.Common.{Result, Ok, Err}
use Rattle.refusals.specs.declared.Refusal.{Refusal}
use Rattle.refusals.specs.Refusals.{code_of}
use Rattle.refusals.proofs.Laws.{code-one}
use Rattle.sets.proofs.Unique.{one_answer}
use Rattle.fields.specs.Fields.{timed, kind_fits, step_fits, action_fits, transition_code, duration_fits, edition_fits, second}
use Rattle.fields.specs.Qualifiers.{byte_of, names}
use Rattle.fields.specs.declared.Qualifier.{Qualifier}
use Rattle.fields.specs.declared.Qualifier.TheVariants.{N, R, S, L, D, P, Sd, Ds, Sl, P1, P0}

-- the qualifiers in the order of their bytes
named : List Qualifier
named = N ∷ R ∷ S ∷ L ∷ D ∷ P ∷ Sd ∷ Ds ∷ Sl ∷ P1 ∷ P0 ∷ []

back : (q : Qualifier) → get_or named (byte_of q) N ≡ q
unfolding named
back N = refl
back R = refl
back S = refl
back L = refl
back D = refl
back P = refl
back Sd = refl
back Ds = refl
back Sl = refl
back P1 = refl
back P0 = refl

above : (q : Qualifier) → 10 < byte_of q → ⊥
above N h = omega arith
above R h = omega arith
above S h = omega arith
above L h = omega arith
above D h = omega arith
above P h = omega arith
above Sd h = omega arith
above Ds h = omega arith
above Sl h = omega arith
above P1 h = omega arith
above P0 h = omega arith

pub is-timed-unique : (q : ℕ) (r p : Bool) → r ≡ timed q → p ≡ timed q → r ≡ p
is-timed-unique q r p = one_answer

pub kind-fits-unique : (k before : ℕ) (r q : Bool) → r ≡ kind_fits k before → q ≡ kind_fits k before → r ≡ q
kind-fits-unique k before r q = one_answer

pub step-fits-unique : (i : ℕ) (r q : Bool) → r ≡ step_fits i → q ≡ step_fits i → r ≡ q
step-fits-unique i r q = one_answer

pub action-fits-unique : (o : ℕ) (r q : Bool) → r ≡ action_fits o → q ≡ action_fits o → r ≡ q
action-fits-unique o r q = one_answer

pub check-unique : (s a f g on off w : ℕ) (r q : Result (Unit {0}) Refusal) → code_of r ≡ transition_code s a f g on off w → code_of q ≡ transition_code s a f g on off w → r ≡ q
check-unique s a f g on off w r q e h = code-one r q (one_answer e h)

pub transition-passes-unique : (s a f g on off w : ℕ) (r q : Bool) → r ≡ eqb (transition_code s a f g on off w) 0 → q ≡ eqb (transition_code s a f g on off w) 0 → r ≡ q
transition-passes-unique s a f g on off w r q = one_answer

pub duration-fits-unique : (n d : ℕ) (r q : Bool) → r ≡ duration_fits n d → q ≡ duration_fits n d → r ≡ q
duration-fits-unique n d r q = one_answer

pub edition-fits-unique : (e : ℕ) (r q : Bool) → r ≡ edition_fits e → q ≡ edition_fits e → r ≡ q
edition-fits-unique e r q = one_answer

pub is-second-unique : (e : ℕ) (r q : Bool) → r ≡ second e → q ≡ second e → r ≡ q
is-second-unique e r q = one_answer

pub byte-unique : (q p : Qualifier) → byte_of q ≡ byte_of p → q ≡ p
byte-unique q p e = sym (back q) ∙ ap (λ n. get_or named n N) e ∙ back p

pub names-unique : (b : ℕ) (r q : Result Qualifier Refusal) → names b r → names b q → r ≡ q
names-unique b (Ok x) (Ok y) e f = ap Ok (byte-unique x y (e ∙ sym f))
names-unique b (Ok x) (Err y) e f = absurd (above x (rw e f.1))
names-unique b (Err x) (Ok y) e f = absurd (above y (rw f e.1))
names-unique b (Err x) (Err y) e f = ap Err (e.0 ∙ sym f.0)
