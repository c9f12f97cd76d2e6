-- What is proved of specs/Marks.antt.
use Rattle.std.specs.Prelude.{ℕ, zero, suc, ◌+◌, ◌<◌, Bool, true, false, ◌&&◌, ◌||◌, cond, List, [], ◌∷◌, ◌≡◌, refl, get_or, eqb, leb}
use Rattle.std.proofs.Math.Bool.{not}
use Rattle.std.proofs.Math.Path.{sym, ap}
use Rattle.std.proofs.Common.{◌∙◌, add-zero, arith, ne_eqb}
use Rattle.sets.specs.Loops.{some, summed, counted}
use Rattle.sets.specs.Sets.{has, union, collect}
use Rattle.sets.proofs.Loops.{or-true, or-false, none-some, else-zero}
use Rattle.sets.proofs.Members.{has-zero, has-collect}
use Rattle.sets.proofs.Below.{has-union}
use Rattle.fields.specs.Fields.{unless}
use Rattle.chart.specs.Held.{chart_code}
use Rattle.chart.specs.declared.chart.Chart.{Chart}
use Rattle.chart.proofs.held.Sound.{sound}
use Rattle.run.specs.Belongs.{belongs}
use Rattle.run.specs.declared.run.Run.{Run}
use Rattle.passes.specs.Moving.{signals_of, as_expected, marks_of}
use Rattle.cycle.specs.Cycling.{refused, start_of, counts_at, choice_of, cycled}
use Rattle.cycle.specs.Answer.{Cycled}
use Rattle.cycle.proofs.cycling.Kept.{cycle-keeps}
use Rattle.key.specs.Turning.{mark_of, marked, turned_as}
use Rattle.key.proofs.turning.Laws.{key-keeps}
use Rattle.claims.specs.Runs.{Call, cycle, turn, keyed, answer, inputs_of, after, begun, one}
use Rattle.claims.proofs.Runs.{each-answer, each_start}
use Rattle.claims.proofs.Moves.{choice-is}
use Rattle.claims.specs.Marks.{Unmarked}

-- ---- the marks x and y of a case, in terms of how its step was left: a at all, g with the signal as expected, b with it otherwise

-- the good mark alone is set if it was left, and each time (e) as expected
pub only-good : {x y g b a e : Bool} → x ≡ g → y ≡ b → a ≡ (g || b) → e ≡ not b → (x && not y) ≡ (a && e)
only-good {x} {y} {g} {b} p q s t = rw (p, q, s, t) (go g b)
  where
    go : (g b : Bool) → (g && not b) ≡ ((g || b) && not b)
    go true b = refl
    go false true = refl
    go false false = refl

-- no mark is set if it was not left
pub neither : {x y g b a : Bool} → x ≡ g → y ≡ b → a ≡ (g || b) → not (y || x && not y) ≡ not a
neither {x} {y} {g} {b} p q s = rw (p, q, s) (go g b)
  where
    go : (g b : Bool) → not (b || g && not b) ≡ not (g || b)
    go true true = refl
    go true false = refl
    go false true = refl
    go false false = refl

-- ---- loops

-- p holds of some number if not none are counted
some-counted : (p : ℕ → Bool) (n : ℕ) → some p n ≡ not (eqb (counted p n) 0)
unfolding some summed
some-counted p zero = refl
some-counted p (suc n) = go (p n) (some-counted p n)
  where
    go : (b : Bool) → some p n ≡ not (eqb (counted p n) 0) → (some p n || b) ≡ not (eqb (counted p n + cond b 1 0) 0)
    go true e = or-true (some p n) ∙ rw (ne_eqb (counted p n + 1) 0 (λ z. omega arith))
    go false e = or-false (some p n) ∙ e ∙ rw add-zero

-- where one is counted or none, by b, b tells whether p holds of some
pub some_is : (p : ℕ → Bool) (n : ℕ) (b : Bool) → counted p n ≡ one b → some p n ≡ b
some_is p n true e = some-counted p n ∙ rw e
some_is p n false e = some-counted p n ∙ rw e

-- ---- one call

module _ (c : Chart) (passes : chart_code c ≡ 0) (i : ℕ) (l : i < c.cases) where
  -- the case's step
  abbrev step : ℕ
  step = get_or c.casestep i 0

  -- among the taken, one has the case's step as a source
  abbrev ran : ℕ → Bool
  ran taken = some (λ t. has taken t && has (get_or c.sources t 0) step) c.transitions

  -- its signal is as expected
  abbrev fine : ℕ → Bool
  fine signals = as_expected (get_or c.signal i 0) (get_or c.expected i 0) signals

  -- both are numbers of 64-bit sets
  in_step : step < 64
  in_step = (sound c passes).casestep i l

  in-case : i < 64
  in-case = let s = (sound c passes).limits.cases in omega (arith, s, l)

  -- a step is marked left if one of the taken has it as a source
  left_is : (r : Run) (counts : List ℕ) (signals : ℕ) → ran (choice_of c r counts signals).taken ≡ has (choice_of c r counts signals).left step
  left_is r counts signals =
      some_is _ c.transitions (has (choice_of c r counts signals).left step)
      ((choice-is c r counts signals (sound c passes).limits.transitions).leaves step in_step)

  -- what a call adds to the case's marks: to one if its step was left with the signal as expected, to the other if with it otherwise
  pub record Marked (r : Run) (signals : ℕ) (o : Cycled) : Type 0 where
    pub good : has o.run.good i ≡ (has r.good i || ran o.taken && fine signals)
    pub bad : has o.run.bad i ≡ (has r.bad i || ran o.taken && not (fine signals))

  -- marks joined with those of the cases of which p holds
  added : (mark : ℕ) (p : ℕ → Bool) → has (union mark (collect p c.cases)) i ≡ (has mark i || p i)
  added mark p = has-union mark (collect p c.cases) i in-case ∙ ap (λ (b : Bool). has mark i || b) (has-collect p c.cases i l)

  -- so it is of an accepted call
  accepted-marks : (r : Run) (clock inputs : ℕ) → Marked r (signals_of inputs r.activity) (cycled c r clock inputs)
  unfolding marks_of
  accepted-marks r clock inputs =
      let signals = signals_of inputs r.activity in
      let e = sym (left_is r (counts_at r clock) signals) in
      record {
        good = added r.good _ ∙ ap (λ (b : Bool). has r.good i || b && fine signals) e;
        bad = added r.bad _ ∙ ap (λ (b : Bool). has r.bad i || b && not (fine signals)) e;
      }

  -- of one that takes no transition and leaves the marks as they are: a refused one, and the key
  still-marks : (r : Run) (signals : ℕ) (o : Cycled) → o.taken ≡ 0 → o.run.good ≡ r.good → o.run.bad ≡ r.bad → Marked r signals o
  still-marks r signals o n g b =
      let e : ran 0 ≡ false = none-some (λ t. has 0 t && has (get_or c.sources t 0) step) c.transitions (λ t l. ap (λ (b : Bool). b && has (get_or c.sources t 0) step) (has-zero t)) in
      record {
        good = rw (n, g) (sym (ap (λ (b : Bool). has r.good i || b && fine signals) e ∙ or-false (has r.good i)));
        bad = rw (n, b) (sym (ap (λ (b : Bool). has r.bad i || b && not (fine signals)) e ∙ or-false (has r.bad i)));
      }

  -- and so of any
  pub marks : (r : Run) (x : Call) → Marked r (signals_of (inputs_of x) r.activity) (answer c r x)
  marks r =
      each-answer (λ x o. Marked r (signals_of (inputs_of x) r.activity) o) c r
      (λ x e. accepted-marks r x.clock x.inputs)
      (λ held. still-marks r (signals_of 0 r.activity) (keyed (turned_as 0 (marked (mark_of held) r))) refl refl refl)
      (λ x code z. still-marks r (signals_of (inputs_of x) r.activity) (refused code r) refl refl refl)

-- ---- an accepted start, and the calls after it

-- its chart passed
pub start-passes : (c : Chart) (clock lent : ℕ) → (start_of c clock lent).code ≡ 0 → chart_code c ≡ 0
start-passes c clock lent =
    each_start (λ o. o.code ≡ 0 → chart_code c ≡ 0) c clock lent (λ e h. (else-zero (unless (leb 32 lent) 15) (chart_code c) e).1) (λ code z h. absurd (z h))

-- a start sets none
pub start-unmarked : (c : Chart) (clock lent i : ℕ) → Unmarked (begun c clock lent) i
start-unmarked c clock lent i =
    each_start (λ o. Unmarked o.run i) c clock lent (λ e. record { good = has-zero i; bad = has-zero i }) (λ code z. record { good = has-zero i; bad = has-zero i })

-- after any calls the run still belongs to the chart
pub after-belongs : (c : Chart) (r : Run) (xs : List Call) → belongs c r ≡ true → belongs c (after c r xs) ≡ true
unfolding after
after-belongs c r [] h = h
after-belongs c r (cycle x ∷ xs) h = after-belongs c (answer c r (cycle x)).run xs (cycle-keeps c r x.clock x.inputs x.lent h)
after-belongs c r (turn held ∷ xs) h = after-belongs c (answer c r (turn held)).run xs (key-keeps held c r h)
