-- What is proved of specs/Tally.antt.
use Rattle.std.specs.Prelude.{ℕ, ◌<◌, Bool, ◌&&◌, ◌||◌, ◌≡◌}
use Rattle.std.proofs.Math.Bool.{false, true, not}
use mathlib.Core.List.{List, [], ◌∷◌}
use Rattle.std.proofs.Math.Path.{refl, sym, ap}
use Rattle.std.proofs.Common.{◌∙◌}
use Rattle.sets.specs.Sets.{has}
use Rattle.sets.proofs.Loops.{or-true, or-false}
use Rattle.sets.proofs.Counts.{counted_same}
use Rattle.chart.specs.Held.{chart_code}
use Rattle.chart.specs.declared.chart.Chart.{Chart}
use Rattle.run.specs.declared.run.Run.{Run}
use Rattle.cycle.specs.Cycling.{start_of}
use Rattle.cycle.proofs.cycling.Kept.{start-belongs}
use Rattle.tally.specs.Tallying.{is_passed, is_failed, is_not_run, tally_of}
use Rattle.claims.specs.Runs.{Call, answer, after, begun}
use Rattle.claims.specs.Marks.{Unmarked}
use Rattle.claims.proofs.Tests.{tally-accepted}
use Rattle.claims.proofs.Marks.{only-good, neither, marks, start-passes, start-unmarked, after-belongs}
use Rattle.claims.specs.Tally.{ran_in, fine_in, ever, always, has_passed, has_failed, never_ran, tallied, Case}

-- ---- laws

-- a mark that each call sets if p holds of it is set after the calls if it was before or p held of some
set-by : (c : Chart) (mark : Run → Bool) (p : Run → Call → Bool) → ((r : Run) (x : Call) → mark (answer c r x).run ≡ (mark r || p r x))
    → (r : Run) (xs : List Call) → mark (after c r xs) ≡ (mark r || ever p c r xs)
unfolding after ever
set-by c mark p h r [] = sym (or-false (mark r))
set-by c mark p h r (x ∷ xs) =
    set-by c mark p h (answer c r x).run xs ∙ ap (λ (b : Bool). b || ever p c (answer c r x).run xs) (h r x) ∙ or-or (mark r) (p r x) (ever p c (answer c r x).run xs)
  where
    or-or : (a b d : Bool) → (a || b) || d ≡ (a || (b || d))
    or-or true b d = refl
    or-or false b d = refl

module _ (c : Chart) (p q : Run → Call → Bool) where
  -- where p held of some call, q held of it or did not
  either-ever : (r : Run) (xs : List Call) → ever p c r xs ≡ (ever (λ r x. p r x && q r x) c r xs || ever (λ r x. p r x && not (q r x)) c r xs)
  unfolding ever
  either-ever r [] = refl
  either-ever r (x ∷ xs) = ap (λ (b : Bool). p r x || b) (either-ever (answer c r x).run xs) ∙ go (p r x) (q r x) _ _
    where
      go : (a b d e : Bool) → (a || (d || e)) ≡ ((a && b || d) || (a && not b || e))
      go true true d e = refl
      go true false d e = sym (or-true d)
      go false b d e = refl

  -- q held of each of which p did, unless of some p held and q did not
  never-else : (r : Run) (xs : List Call) → always (λ r x. not (p r x) || q r x) c r xs ≡ not (ever (λ r x. p r x && not (q r x)) c r xs)
  unfolding ever always
  never-else r [] = refl
  never-else r (x ∷ xs) = ap (λ (b : Bool). (not (p r x) || q r x) && b) (never-else (answer c r x).run xs) ∙ go (p r x) (q r x) _
    where
      go : (a b d : Bool) → ((not a || b) && not d) ≡ not (a && not b || d)
      go true true d = refl
      go true false d = refl
      go false b d = refl

-- so it is from any run, if the chart passed and no mark of the case is set
from-unmarked : (c : Chart) → chart_code c ≡ 0 → (r : Run) (xs : List Call) (i : ℕ) → i < c.cases → Unmarked r i → Case c r xs i
from-unmarked c e r xs i l u =
    let good : has (after c r xs).good i ≡ ever (λ r x. ran_in c i r x && fine_in c i r x) c r xs
    = set-by c (λ r. has r.good i) (λ r x. ran_in c i r x && fine_in c i r x) (λ r x. (marks c e i l r x).good) r xs ∙ rw u.good in
    let bad : has (after c r xs).bad i ≡ has_failed c r xs i
    = set-by c (λ r. has r.bad i) (λ r x. ran_in c i r x && not (fine_in c i r x)) (λ r x. (marks c e i l r x).bad) r xs ∙ rw u.bad in
    let ran = either-ever c (ran_in c i) (fine_in c i) r xs in
    record { passed = only-good good bad ran (never-else c (ran_in c i) (fine_in c i) r xs); failed = bad; notrun = neither good bad ran }

-- after any calls from an accepted start
pub case-is : (c : Chart) (clock lent : ℕ) → (start_of c clock lent).code ≡ 0 → (xs : List Call) (i : ℕ) → i < c.cases → Case c (begun c clock lent) xs i
case-is c clock lent e xs i l = from-unmarked c (start-passes c clock lent e) (begun c clock lent) xs i l (start-unmarked c clock lent i)

-- the tally after any calls from an accepted start counts those cases
pub tally-counts : (c : Chart) (clock lent : ℕ) → (start_of c clock lent).code ≡ 0 → (xs : List Call)
    → tally_of c (after c (begun c clock lent) xs) ≡ tallied c (begun c clock lent) xs
tally-counts c clock lent e xs =
    let r = begun c clock lent in
    let m = after c r xs in
    let is = case-is c clock lent e xs in
    tally-accepted c m (start-passes c clock lent e) (after-belongs c r xs (start-belongs c clock lent e))
    ∙ rw (
      counted_same (is_passed m.good m.bad) (has_passed c r xs) c.cases (λ i l. (is i l).passed),
      counted_same (is_failed m.good m.bad) (has_failed c r xs) c.cases (λ i l. (is i l).failed),
      counted_same (is_not_run m.good m.bad) (never_ran c r xs) c.cases (λ i l. (is i l).notrun),
    )
