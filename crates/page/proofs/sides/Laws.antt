-- How long the steps of a set are in a line, and what stands beside them.
use Prim.Native.Nat.{ℕ, zero, suc, ◌+◌, ◌*◌, ◌/◌, ◌%◌, ◌≤◌, ◌<◌}
use mathlib.Core.Bool.{Bool, true, false, cond}
use mathlib.Core.List.{List, [], ◌∷◌, ◌++◌}
use mathlib.Core.Path.{◌≡◌, refl, ap}
use native.Mathlib.Numerals.{add-one}
use native.Mathlib.Omega.{arith}
use lib.Dec.{ltb}
use lib.ListN.{length, length-append}
use borrow.Author.Tests.{ltb-true, ltb-false}
use Rattle.sets.specs.Bytes.{Put}
use Rattle.sets.specs.Loops.{turns}
use Rattle.sets.specs.Sets.{has}
use Rattle.sets.proofs.Bytes.{put-put}
use Rattle.lines.specs.Lines.{text, digit, decimal}
use Rattle.lines.proofs.Laws.{decimal-one, decimal-last, named-short, Line}
use Rattle.tally.specs.Weighing.{weight_in}
use Rattle.page.specs.Sides.{joined, step_at, steps_in, side}

-- a number below 100 has two digits at most
decimal-two : (n : ℕ) → n < 100 → length (decimal n) ≤ 2
decimal-two n h = by (ltb n 10) refl
  where
    one : (m : ℕ) → m < 10 → length (decimal m) ≡ 1
    one m l = ap length (decimal-one 19 m l)

    by : (b : Bool) → ltb n 10 ≡ b → length (decimal n) ≤ 2
    by true e = omega (arith, one n (ltb-true n 10 e))
    by false e = omega (arith, ap length (decimal-last n (ltb-false n 10 e) (omega arith)), length-append (decimal (n / 10)) (digit (n % 10) ∷ []), one (n / 10) (omega arith))

-- with its space a step takes three bytes at most
step-short : (set k : ℕ) → k < 64 → length (step_at set k) ≤ 3
step-short set k h = by (has set k)
  where
    by : (b : Bool) → length (cond b (text " " ++ decimal k) []) ≤ 3
    by true = omega (arith, length-append (text " ") (decimal k), decimal-two k (omega arith))
    by false = omega arith

-- the steps before the k-th
pub passed-short : (set k : ℕ) → k ≤ 64 → length (joined (step_at set) k) ≤ 3 * k
unfolding turns
passed-short set zero h = omega arith
passed-short set (suc k) h = omega (arith, length-append (joined (step_at set) k) (step_at set k), passed-short set k (omega arith), step-short set k (omega arith))

pub steps-short : (set : ℕ) → length (steps_in set) ≤ 192
unfolding steps_in
steps-short set = passed-short set 64 (omega arith)

pub side-short : (name : List ℕ) (set : ℕ) (weights : List ℕ) → length (side name set weights) ≤ length name + 222
unfolding side
side-short name set weights =
    let w = text " weighing " ++ decimal (weight_in weights set) in
    omega (arith, length-append (name ++ steps_in set) w, length-append name (steps_in set), named-short (text " weighing ") (weight_in weights set), steps-short set)

-- the next step is put behind those before it
pub step-next : (e : List ℕ) (at set k : ℕ) {l m : List ℕ} {end next : ℕ} → Put e at (joined (step_at set) k) l end → Put l end (step_at set k) m next
    → end ≤ length e → Put e at (joined (step_at set) (k + 1)) m next
unfolding turns
step-next e at set k p q h = rw add-one (put-put e at (joined (step_at set) k) (step_at set k) p q h)

-- a side behind what a line has so far
pub line-side : {e t m : List ℕ} {i most : ℕ} → Line e t m i most → (name : List ℕ) (set : ℕ) (weights : List ℕ) {l : List ℕ} {j : ℕ} → Put m i (side name set weights) l j
    → most + (length name + 222) ≤ length e → Line e (t ++ side name set weights) l j (most + (length name + 222))
line-side {e} {t} {m} {i} p name set weights q h =
    let w = p.within in
    record { put = put-put e 0 t (side name set weights) p.put q (omega arith); within = omega (arith, q.1, side-short name set weights) }
