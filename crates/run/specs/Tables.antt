-- A table of n step counters or of action timers: `ms` is the milliseconds of one, and `of` the one of so many milliseconds.
use Rattle.std.specs.Prelude.{ℕ, List, Bool, cond, get_or}
use Rattle.sets.specs.Loops.{all, table}
use Rattle.sets.specs.Sets.{has}
use Rattle.run.specs.Run.{longer}
use Rattle.run.specs.Belongs.{count_fits}

-- each is 0 unless it is a member's, and none is too long
abbrev pub fit_in : {A : Type 0} → (A → ℕ) → (ℕ → A) → List A → ℕ → ℕ → Bool
fit_in ms of items set n = all (λ k. count_fits set k (ms (get_or items k (of 0)))) n

-- the members' grown, the others as they were
abbrev pub grown_in : {A : Type 0} → (A → ℕ) → (ℕ → A) → List A → ℕ → ℕ → ℕ → List A
grown_in ms of items set elapsed n =
    table (λ k. cond (has set k) (of (longer elapsed (ms (get_or items k (of 0))))) (get_or items k (of 0))) n

-- with 0 at what is gone
abbrev pub cleared_in : {A : Type 0} → (ℕ → A) → List A → ℕ → ℕ → List A
cleared_in of items gone n = table (λ k. cond (has gone k) (of 0) (get_or items k (of 0))) n
