-- What stands at a place of the trace, in the words of the code and for whoever prints it.
use Prim.Native.Nat.{ℕ, suc, ◌+◌, ◌-◌, ◌*◌, ◌≤◌, ◌<◌}
use mathlib.Core.Bool.{Bool, true, false, cond}
use mathlib.Core.List.{List}
use mathlib.Core.Path.{◌≡◌, refl, sym, ap, ◌∙◌}
use native.Mathlib.Nat.{pos_of_ne-zero}
use native.Mathlib.Omega.{arith}
use lib.ListN.{length}
use lib.Dec.{eqb, leb, ltb}
use borrow.Author.Tests.{leb-true, ltb-true, le-leb, lt-leb, eq-eqb, ne_eqb, eqb-true}
use Rattle.sets.proofs.Loops.{and-true, and_no}
use Rattle.reader.specs.Numbers.{le_from}
use Rattle.reader.proofs.numbers.Laws.{whole}
use Rattle.trace.specs.Tracing.{kind_due, body_due, head_fits, record_fits, is_over, trace_number, record_at, call_at, clock_at, inputs_at}
use Rattle.trace.specs.Answer.{Call}
use Rattle.trace.specs.Answer.{Start, Cycle, End, Refused}

-- a body is due at each place
pub due : (at : ℕ) → (4 ≤ body_due at) × (body_due at ≤ 8)
due at = go (eqb at 0)
  where
    go : (b : Bool) → (4 ≤ cond b 4 8) × (cond b 4 8 ≤ 8)
    go true = (omega arith, omega arith)
    go false = (omega arith, omega arith)

-- a cut head reads as zeros, but it does not fit either way
pub head_read : (s : List ℕ) (at kind n : ℕ) (b : Bool) → kind ≡ le_from 2 s (at + 2) → n ≡ le_from 2 s at → b ≡ head_fits at (length s - at) kind n → b ≡ record_fits s at
head_read s at kind n b k l h = h ∙ rw (k, l) (go (leb (body_due at + 4) (length s - at)) refl)
  where
    go : (b : Bool) → leb (body_due at + 4) (length s - at) ≡ b → head_fits at (length s - at) (le_from 2 s (at + 2)) (le_from 2 s at) ≡ record_fits s at
    go true e =
        let h : body_due at + 4 ≤ length s - at = leb-true _ _ e in
        let d = due at in
        rw (whole 2 s at (omega arith), whole 2 s (at + 2) (omega arith))
    go false e = rw (e, and_no _, and_no _)

-- ---- the answer, branch by branch

pub over : (s : List ℕ) (at : ℕ) → length s ≤ at → (End ≡ call_at s at) × (0 ≡ trace_number s at)
unfolding call_at
over s at h = (rw (le-leb _ _ h), rw (le-leb _ _ h))

pub refuses : (s : List ℕ) (at : ℕ) → at < length s → record_fits s at ≡ false → (Refused ≡ call_at s at) × (16 ≡ trace_number s at)
unfolding call_at
refuses s at h e = (rw (lt-leb _ _ h, e), rw (lt-leb _ _ h, e))

pub starts : (s : List ℕ) (at clock : ℕ) → at < length s → record_fits s at ≡ true → at ≡ 0 → clock ≡ clock_at s at → (Start clock ≡ call_at s at) × (0 ≡ trace_number s at)
unfolding call_at
starts s at clock h e z q = (rw (lt-leb _ _ h, e, eq-eqb _ _ z, q), rw (lt-leb _ _ h, e))

pub cycles : (s : List ℕ) (at clock inputs : ℕ) → at < length s → record_fits s at ≡ true → (at ≡ 0 → ⊥) → clock ≡ clock_at s at → inputs ≡ inputs_at s at → (Cycle clock inputs ≡ call_at s at) × (0 ≡ trace_number s at)
unfolding call_at
cycles s at clock inputs h e z q p = (rw (lt-leb _ _ h, e, ne_eqb _ _ z, q, p), rw (lt-leb _ _ h, e))

-- ---- a record that fits is whole

pub room : (s : List ℕ) (at : ℕ) → record_fits s at ≡ true → (at < 65528) × (body_due at + 4 ≤ length s - at)
room s at e =
    let x = and-true _ (leb (body_due at + 4) (length s - at)) e in
    let y = and-true _ (eqb _ (body_due at)) x.0 in
    let z = and-true (ltb at 65528) (eqb _ (kind_due at)) y.0 in
    (ltb-true _ _ z.0, leb-true _ _ x.1)

pub first_body : (at : ℕ) → at ≡ 0 → body_due at ≡ 4
first_body at e = rw (eq-eqb _ _ e)

pub later-body : (at : ℕ) → (at ≡ 0 → ⊥) → body_due at ≡ 8
later-body at e = rw (ne_eqb _ _ e)

-- ---- how many bytes a call takes

abbrev bytes_of : Call → ℕ
bytes_of (Start clock) = 8
bytes_of (Cycle clock inputs) = 12
bytes_of End = 0
bytes_of Refused = 0

-- none, or those of the record that is due, which are there and begin in time
record Taken (s : List ℕ) (at : ℕ) : Type 0 where
  due : body_due at + 4 ≡ bytes_of (call_at s at)
  there : bytes_of (call_at s at) ≤ length s - at
  early : at < 65528

record-bytes : (s : List ℕ) (at : ℕ) → bytes_of (record_at s at) ≡ body_due at + 4
record-bytes s at = go (eqb at 0)
  where
    go : (b : Bool) → bytes_of (cond b (Start (clock_at s at)) (Cycle (clock_at s at) (inputs_at s at))) ≡ cond b 4 8 + 4
    go true = refl
    go false = refl

taken : (s : List ℕ) (at : ℕ) → (bytes_of (call_at s at) ≡ 0 → ⊥) → Taken s at
unfolding call_at
taken s at z = go (is_over s at) (record_fits s at) refl refl
  where
    go : (o f : Bool) → is_over s at ≡ o → record_fits s at ≡ f → Taken s at
    go true f e h = absurd (z (rw e))
    go false false e h = absurd (z (rw (e, h)))
    go false true e h =
        let b : bytes_of (call_at s at) ≡ body_due at + 4 = rw (e, h) (record-bytes s at) in
        let r = room s at h in
        record { due = sym b; there = omega (arith, b, r.1); early = r.0 }

first-due : (at : ℕ) → body_due at + 4 ≡ 8 → at ≡ 0
first-due at h = go (eqb at 0) refl
  where
    go : (b : Bool) → eqb at 0 ≡ b → at ≡ 0
    go true e = eqb-true at 0 e
    go false e = let q : body_due at ≡ 8 = rw e in absurd (omega arith)

later-due : (at : ℕ) → body_due at + 4 ≡ 12 → at ≡ 0 → ⊥
later-due at h e = let q = first_body at e in absurd (omega arith)

-- a record lies in the trace
pub start-there : (s : List ℕ) (at clock : ℕ) → call_at s at ≡ Start clock → at + 8 ≤ length s
start-there s at clock e =
    let b : bytes_of (call_at s at) ≡ 8 = ap bytes_of e in
    let t = taken s at (λ z. omega arith) in
    omega (arith, t.there)

pub cycle-there : (s : List ℕ) (at clock inputs : ℕ) → call_at s at ≡ Cycle clock inputs → at + 12 ≤ length s
cycle-there s at clock inputs e =
    let b : bytes_of (call_at s at) ≡ 12 = ap bytes_of e in
    let t = taken s at (λ z. omega arith) in
    omega (arith, t.there)

-- where the record behind call n stands, with fewer bytes left than before, and that it is not beyond byte 65,528
pub record Onward (s : List ℕ) (n at b more : ℕ) : Type 0 where
  pub place : at + b ≡ 12 * (n + 1) - 4
  pub fewer : length s - (at + b) < more
  pub early : at + b ≤ 65528

pub after-start : (s : List ℕ) (n at more clock : ℕ) → at ≡ 12 * n - 4 → length s - at < suc more → call_at s at ≡ Start clock → Onward s n at 8 more
after-start s n at more clock h l e =
    let b : bytes_of (call_at s at) ≡ 8 = ap bytes_of e in
    let t = taken s at (λ z. omega arith) in
    let z = first-due at (t.due ∙ b) in
    record { place = omega arith; fewer = omega (arith, t.there); early = omega arith }

pub after-cycle : (s : List ℕ) (n at more clock inputs : ℕ) → at ≡ 12 * n - 4 → length s - at < suc more → call_at s at ≡ Cycle clock inputs → Onward s n at 12 more
after-cycle s n at more clock inputs h l e =
    let b : bytes_of (call_at s at) ≡ 12 = ap bytes_of e in
    let t = taken s at (λ z. omega arith) in
    let q : 0 < at = pos_of_ne-zero (later-due at (t.due ∙ b)) in
    record { place = omega arith; fewer = omega (arith, t.there); early = omega (arith, t.early) }
