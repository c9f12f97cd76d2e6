-- A step's sum, the first that doesn't fit, and the answers in their order.
use Rattle.std.proofs.Common.{ℕ, zero, suc, ◌+◌, ◌≤◌, ◌<◌, Bool, true, false, List, length, get_or, Option, Some, None, eqb, ◌≡◌, refl, sym, ap, ◌∙◌, arith}
use Rattle.std.specs.List.{zip, AllWithin, HoldsAt}
use Rattle.std.specs.Option.{MatchOption}
use Rattle.std.proofs.lemmas.Slice.Zip.{get_or-zip, length-zip}
use borrow.Author.Tests.{le-leb, lt-leb, ne_eqb}
use Rattle.sets.specs.Loops.{all, first_code}
use Rattle.sets.proofs.Loops.{all_same, true-all, first-zero, zero-first, first_found}
use Rattle.fields.specs.Fields.{unless}
use Rattle.adding.specs.Answer.{place}
use Rattle.adding.specs.Adding.{sum_at, fits_at, unfit}

-- one more than the number of step k if its sum doesn't fit
abbrev code_at : List ℕ → List ℕ → ℕ → ℕ
code_at first second k = unless (fits_at first second k) (k + 1)

-- what is asked of two weights
abbrev pub Small : ℕ × ℕ → Type 0
Small p = p.0 + p.1 ≤ 65535

abbrev pub Large : ℕ × ℕ → Type 0
Large p = 65535 < p.0 + p.1

module _ (first second : List ℕ) (h : length first ≤ length second) where
  abbrev both : List (ℕ × ℕ)
  both = zip first second

  long : length both ≡ length first
  long = omega (arith, length-zip first second)

  small-code : (k : ℕ) → k < length first → Small (get_or both k (0, 0)) → code_at first second k ≡ 0
  small-code k l s =
      let at : get_or both k (0, 0) ≡ (get_or first k 0, get_or second k 0) = get_or-zip first second k (0, 0) l (omega arith) in
      rw (le-leb (sum_at first second k) 65535 (rw at at s))

  large-code : (k : ℕ) → k < length first → Large (get_or both k (0, 0)) → suc k ≡ code_at first second k
  large-code k l s =
      let at : get_or both k (0, 0) ≡ (get_or first k 0, get_or second k 0) = get_or-zip first second k (0, 0) l (omega arith) in
      rw (lt-leb (sum_at first second k) 65535 (rw at at s)) (omega arith)

  none-before : (i : ℕ) → i ≤ length first → AllWithin Small both 0 i → first_code (code_at first second) i ≡ 0
  none-before i l s = zero-first (code_at first second) i (true-all _ i (λ k m. rw (small-code k (omega arith) (s k (0, 0) (omega arith) m))))

  -- the first such two weights are those of the first step whose sum doesn't fit
  pub first-large : (r : Option ℕ)
      → MatchOption r (AllWithin Small both 0 (length both)) (λ i. (i < length both) × HoldsAt Large both i × AllWithin Small both 0 i)
      → r ≡ place (unfit (length first) first second)
  unfolding unfit
  first-large None s = ap place (sym (none-before (length first) (omega arith) (rw long at s)))
  first-large (Some i) s =
      let l : i < length first = omega (arith, s.0, long) in
      ap place (first_found (code_at first second) i (length first) (suc i) (none-before i (omega arith) s.2) l (large-code i l (s.1 (0, 0))) (λ z. omega arith))

-- where all fit none is too large
pub all_fit : (n : ℕ) (first second : List ℕ) → all (fits_at first second) n ≡ true → unfit n first second ≡ 0
unfolding unfit
all_fit n first second h = zero-first (code_at first second) n (all_same (λ k. eqb (code_at first second k) 0) (fits_at first second) n (λ k l. by k (fits_at first second k)) ∙ h)
  where
    by : (k : ℕ) (b : Bool) → eqb (unless b (k + 1)) 0 ≡ b
    by k true = refl
    by k false = ne_eqb (k + 1) 0 (λ z. omega arith)

-- and where none is, all fit
pub fit-all : (n : ℕ) (first second : List ℕ) → unfit n first second ≡ 0 → all (fits_at first second) n ≡ true
unfolding unfit
fit-all n first second z = true-all (fits_at first second) n (λ k l. by k (fits_at first second k) (first-zero (code_at first second) n z k l))
  where
    by : (k : ℕ) (b : Bool) → unless b (k + 1) ≡ 0 → b ≡ true
    by k true e = refl
    by k false e = absurd (omega arith)

pub no-place : (n : ℕ) → None ≡ place n → n ≡ 0
no-place zero e = refl
no-place (suc k) e = cc
