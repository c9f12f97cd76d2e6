-- The entries of a table that do not fit.
use Rattle.std.proofs.Common.{ℕ, ◌≡◌, ◌+◌, ◌%◌, ◌^◌, ◌<◌, Bool, true, false, ◌&&◌, ◌||◌, not, cond, eqb, leb, List, length, get_or, refl, sym, ap, ◌∙◌, arith}
use Rattle.std.proofs.lemmas.List.{get_or_default}
use mir.Val.{bool_byte}
use borrow.Author.Tests.{eqb-true}
use Rattle.sets.specs.Loops.{table}
use Rattle.sets.specs.Sets.{has}
use Rattle.sets.proofs.Loops.{and-true, and_no, all_true, all_same, length-table, get_or-table, is-table}
use Rattle.sets.proofs.Members.{has-mod}
use Rattle.run.specs.Run.{longest, counter, timer, longer, longer_counter, longer_timer}
use Rattle.run.specs.Apart.{counts_of, times_of}
use Rattle.run.specs.Belongs.{count_fits, counters_fit, timers_fit}
use Rattle.run.specs.Tables.{fit_in, grown_in, cleared_in}
use Rattle.run.specs.declared.run.StepCounter.{StepCounter}
use Rattle.run.specs.declared.run.ActionTimer.{ActionTimer}

-- the milliseconds at a place
abbrev pub ms_at : {A : Type 0} → (A → ℕ) → (ℕ → A) → List A → ℕ → ℕ
ms_at ms of items k = ms (get_or items k (of 0))

-- what is read there
pub read-at : {A : Type 0} (ms : A → ℕ) (of : ℕ → A) {n k m : ℕ} (l : List A) (x : A) → k < n → length l ≡ n → m ≡ ms (get_or l k x) → m ≡ ms_at ms of l k
read-at ms of {n} {k} {m} l x h p q = q ∙ ap ms (get_or_default l k x (of 0) (omega (arith, p)))

-- ---- how many do not fit: as many as are not 0, without the members' that fit

abbrev pub one : Bool → ℕ
one b = cond b 1 0

pub as-one : (b : Bool) → bool_byte b ≡ one b
as-one true = refl
as-one false = refl

abbrev pub nonzero : ℕ → Bool
nonzero n = not (eqb n 0)

abbrev pub unfit : ℕ → ℕ → ℕ → Bool
unfit set k n = not (count_fits set k n)

-- a number that fits is 0 outside its set
pub outside : (set k n : ℕ) → count_fits set k n ≡ true → has set k ≡ false → n ≡ 0
outside set k n e h = eqb-true n 0 (rw h at (and-true (leb n longest) (has set k || eqb n 0) e).1)

zero-fits : (n : ℕ) → eqb n 0 ≡ true → leb n longest ≡ true
zero-fits n e = rw (eqb-true n 0 e)

module _ (set k n : ℕ) where
  pub unfit-outside : has set k ≡ false → one (nonzero n) ≡ one (unfit set k n)
  unfit-outside h = rw h (go (eqb n 0) (leb n longest) (zero-fits n))
    where
      go : (z l : Bool) → (z ≡ true → l ≡ true) → one (not z) ≡ one (not (l && z))
      go true l e = rw (e refl)
      go false l e = rw (and_no l)

  pub unfit-member : {b : Bool} {d : ℕ} → has set k ≡ true → b ≡ (nonzero n && leb n longest) → d ≡ one b → one (nonzero n) ≡ one (unfit set k n) + d
  unfit-member h p q = rw (h, q, p) (go (eqb n 0) (leb n longest) (zero-fits n))
    where
      go : (z l : Bool) → (z ≡ true → l ≡ true) → one (not z) ≡ one (not (l && true)) + one (not z && l)
      go true l e = rw (e refl)
      go false true e = refl
      go false false e = refl

-- ---- of a set of timers, what is below 32

pub fit-timers : (l : List ActionTimer) (set : ℕ) → fit_in (λ (t : ActionTimer). t.0) timer l (set % 2 ^ 32) 32 ≡ timers_fit l set
fit-timers l set = all_same _ _ 32 (λ k m. rw (has-mod 32 set k m))

-- ---- grown and cleared tables, by their numbers

same_table : (f h : ℕ → ℕ) (n : ℕ) → ((k : ℕ) → k < n → f k ≡ h k) → table f n ≡ table h n
same_table f h n e = is-table h n (table f n) 0 (length-table f n) (λ k m. get_or-table f n k 0 m ∙ e k m)

module _ {A : Type 0} (ms : A → ℕ) (of : ℕ → A) (kept : (m : ℕ) → ms (of m) ≡ m) (l : List A) (set n : ℕ) where
  -- of a table that fits, what is no member's is 0
  grown-numbers : (elapsed : ℕ) → fit_in ms of l set n ≡ true
      → table (λ k. ms_at ms of (grown_in ms of l set elapsed n) k) n ≡ table (λ k. cond (has set k) (longer elapsed (ms_at ms of l k)) 0) n
  grown-numbers elapsed fit =
      same_table _ _ n (λ k m. ap ms (get_or-table _ n k (of 0) m) ∙ go k (has set k) (outside set k (ms_at ms of l k) (all_true _ n fit k m)))
    where
      go : (k : ℕ) (b : Bool) → (b ≡ false → ms_at ms of l k ≡ 0) → ms (cond b (of (longer elapsed (ms_at ms of l k))) (get_or l k (of 0))) ≡ cond b (longer elapsed (ms_at ms of l k)) 0
      go k true f = kept (longer elapsed (ms_at ms of l k))
      go k false f = f refl

  cleared-numbers : table (λ k. ms_at ms of (cleared_in of l set n) k) n ≡ table (λ k. cond (has set k) 0 (get_or (table (λ j. ms_at ms of l j) n) k 0)) (length (table (λ j. ms_at ms of l j) n))
  cleared-numbers =
      rw (length-table (λ j. ms_at ms of l j) n)
      (same_table _ _ n (λ k m. ap ms (get_or-table _ n k (of 0) m) ∙ go k (has set k) (get_or-table (λ j. ms_at ms of l j) n k 0 m)))
    where
      go : (k : ℕ) (b : Bool) → get_or (table (λ j. ms_at ms of l j) n) k 0 ≡ ms_at ms of l k → ms (cond b (of 0) (get_or l k (of 0))) ≡ cond b 0 (get_or (table (λ j. ms_at ms of l j) n) k 0)
      go k true f = kept 0
      go k false f = sym f

pub counts-grown : (l : List StepCounter) (set elapsed : ℕ) → counters_fit l set ≡ true
    → counts_of (grown_in (λ (c : StepCounter). c.0) counter l set elapsed 64) ≡ table (λ k. cond (has set k) (longer_counter elapsed (get_or l k (counter 0))).0 0) 64
counts-grown l set elapsed fit = grown-numbers (λ (c : StepCounter). c.0) counter (λ m. refl) l set 64 elapsed fit

pub counts-cleared : (l : List StepCounter) (gone : ℕ)
    → counts_of (cleared_in counter l gone 64) ≡ table (λ k. cond (has gone k) 0 (get_or (counts_of l) k 0)) (length (counts_of l))
counts-cleared l gone = cleared-numbers (λ (c : StepCounter). c.0) counter (λ m. refl) l gone 64

-- of a set of timers, what is below 32
pub times-grown : (l : List ActionTimer) (set elapsed : ℕ) → timers_fit l set ≡ true
    → times_of (grown_in (λ (t : ActionTimer). t.0) timer l (set % 2 ^ 32) elapsed 32) ≡ table (λ k. cond (has set k) (longer_timer elapsed (get_or l k (timer 0))).0 0) 32
times-grown l set elapsed fit =
    grown-numbers (λ (t : ActionTimer). t.0) timer (λ m. refl) l (set % 2 ^ 32) 32 elapsed (fit-timers l set ∙ fit)
    ∙ same_table _ _ 32 (λ k m. rw (has-mod 32 set k m))

pub times-cleared : (l : List ActionTimer) (gone : ℕ)
    → times_of (cleared_in timer l gone 32) ≡ table (λ k. cond (has gone k) 0 (get_or (times_of l) k 0)) (length (times_of l))
times-cleared l gone = cleared-numbers (λ (t : ActionTimer). t.0) timer (λ m. refl) l gone 32
