-- What is proved of specs/Weights.antt.
use Rattle.std.specs.Prelude.{ℕ, zero, suc, ◌+◌, ◌*◌, ◌≤◌, ◌<◌, Bool, true, false, cond, ◌&&◌, ◌≡◌, length, get_or, eqb}
use mathlib.Core.List.{List, [], ◌∷◌}
use Rattle.std.proofs.Math.Path.{refl}
use Rattle.std.proofs.Common.{sym, ap, ap₂, ◌∙◌, arith, eqb-true}
use Rattle.std.proofs.lemmas.Bool.{eqb-false}
use Rattle.sets.specs.Loops.{summed}
use Rattle.sets.specs.Sets.{has}
use Rattle.sets.proofs.Loops.{else-zero, first-zero}
use Rattle.sets.proofs.Counts.{summed_same}
use Rattle.fields.specs.Fields.{unless}
use Rattle.chart.specs.Held.{chart_code}
use Rattle.chart.specs.declared.chart.Chart.{Chart}
use Rattle.run.specs.declared.run.Run.{Run}
use Rattle.cycle.specs.Cycling.{start_of}
use Rattle.cycle.specs.Answer.{Cycled}
use Rattle.tally.specs.Weighing.{weight, weight_in, balanced, unbalanced, unbalanced_in, weigh_code, refused, weigh_of}
use Rattle.tally.specs.Answer.{Weighed}
use Rattle.claims.specs.AtLeast.{AtLeast}
use Rattle.claims.proofs.AtLeast.{same, then, sum-ledger, times}
use Rattle.claims.specs.Fair.{Fair}
use Rattle.claims.proofs.Fair.{fair, begins}
use Rattle.claims.specs.Moves.{among}
use Rattle.claims.specs.Runs.{Call, answer, after, begun, one}
use Rattle.claims.proofs.Sums.{sum-split, sum-none, two-in-sum}
use Rattle.claims.specs.Weights.{Balanced, initial_weight, NeverRises, NeverTogether}

-- ---- one call

-- a set's weight over its first m steps
abbrev weight_to : ℕ → (ℕ → ℕ) → ℕ → ℕ
weight_to m w s = summed (λ k. cond (has s k) (w k) 0) m

-- the counts of the steps in the set s of transitions, each times its step's weight, come to the weights of the transitions
carried : (m : ℕ) (w : ℕ → ℕ) (l : List ℕ) (n s : ℕ) → summed (λ k. among l n s k * w k) m ≡ summed (λ t. cond (has s t) (weight_to m w (get_or l t 0)) 0) n
unfolding summed
carried m w l zero s = sum-none (λ k. 0 * w k) m (λ k q. omega arith)
carried m w l (suc n) s =
    sum-split (λ k. among l (suc n) s k * w k) (λ k. among l n s k * w k) (λ k. one (has s n && has (get_or l n 0) k) * w k) m (λ k q. omega arith)
    ∙ ap₂ ◌+◌ (carried m w l n s) (last (has s n))
  where
    part : (b : Bool) (x : ℕ) → one b * x ≡ cond b x 0
    part true x = omega arith
    part false x = omega arith

    last : (b : Bool) → summed (λ k. one (b && has (get_or l n 0) k) * w k) m ≡ cond b (weight_to m w (get_or l n 0)) 0
    last true = summed_same (λ k. one (has (get_or l n 0) k) * w k) (λ k. cond (has (get_or l n 0) k) (w k) 0) m (λ k q. part (has (get_or l n 0) k) (w k))
    last false = sum-none (λ k. 0 * w k) m (λ k q. omega arith)

module _ (c : Chart) (w : ℕ → ℕ) (b : Balanced c w) where
  -- in a balanced chart the transitions of a set carry away what they bring
  even : (s : ℕ) → summed (λ k. among c.targets c.transitions s k * w k) 64 ≡ summed (λ k. among c.sources c.transitions s k * w k) 64
  even s =
      carried 64 w c.targets c.transitions s
      ∙ summed_same (λ t. cond (has s t) (weight w (get_or c.targets t 0)) 0) (λ t. cond (has s t) (weight w (get_or c.sources t 0)) 0) c.transitions
      (λ t q. ap (λ (x : ℕ). cond (has s t) x 0) (sym (b t q)))
      ∙ sym (carried 64 w c.sources c.transitions s)

  -- the active steps weigh no more after than before, and the same in the first edition
  kept : (r : Run) (o : Cycled) → Fair c r o → AtLeast c.edition (weight w r.active) (weight w o.run.active)
  kept r o f = go (eqb o.code 0) refl
    where
      go : (q : Bool) → eqb o.code 0 ≡ q → AtLeast c.edition (weight w r.active) (weight w o.run.active)
      go true e =
          let x = sum-ledger (λ k. among c.targets c.transitions o.taken k * w k) (λ k. cond (has r.active k) (w k) 0)
          (λ k. among c.sources c.transitions o.taken k * w k) (λ k. cond (has o.run.active k) (w k) 0) 64
          (λ k l. times (has r.active k) (has o.run.active k) (among c.targets c.transitions o.taken k)
          (among c.sources c.transitions o.taken k) (w k) (f.accepted (eqb-true _ 0 e) k l)) in
          record { least = omega (arith, even o.taken, x.least); equal = λ q. omega (arith, even o.taken, x.equal q) }
      go false e = same (ap (λ (z : Run). weight w z.active) (sym (f.back (eqb-false _ 0 e))))

  -- over any calls
  never-rises-from : (r : Run) (xs : List Call) → AtLeast c.edition (weight w r.active) (weight w (after c r xs).active)
  unfolding after
  never-rises-from r [] = same refl
  never-rises-from r (x ∷ xs) = then (kept r (answer c r x) (fair c r x)) (never-rises-from (answer c r x).run xs)

-- two different steps of a set weigh no more than the set
two-weigh : (w : ℕ → ℕ) (s i j : ℕ) → i < 64 → j < 64 → (i ≡ j → ⊥) → has s i ≡ true → has s j ≡ true → w i + w j ≤ weight w s
two-weigh w s i j li lj d hi hj =
    omega (arith, two-in-sum (λ k. cond (has s k) (w k) 0) 64 i j li lj d, ap (λ (q : Bool). cond q (w i) 0) hi, ap (λ (q : Bool). cond q (w j) 0) hj)

-- ---- from an accepted start, over any calls

-- the active steps weigh what the initial ones did
pub weight-kept : (c : Chart) (clock lent : ℕ) → (start_of c clock lent).code ≡ 0 → c.edition ≡ 1 → (w : ℕ → ℕ) → Balanced c w → (xs : List Call)
    → weight w (after c (begun c clock lent) xs).active ≡ initial_weight c w
weight-kept c clock lent e first w b xs =
    sym ((never-rises-from c w b (begun c clock lent) xs).equal first) ∙ ap (λ (s : ℕ). weight w s) (begins c clock lent e).initial

-- in either edition, no more
pub never-rises : NeverRises
never-rises c clock lent e w b xs = omega (arith, (never-rises-from c w b (begun c clock lent) xs).least, ap (λ (s : ℕ). weight w s) (begins c clock lent e).initial)

-- two different steps that together weigh more are not both active
pub never-together : NeverTogether
never-together c clock lent e w b xs i j li lj d more hi hj =
    let few = (begins c clock lent e).few in
    omega (arith, never-rises c clock lent e w b xs, two-weigh w (after c (begun c clock lent) xs).active i j (omega arith) (omega arith) d hi hj)

-- ---- the weighing

-- an accepted one has passed its tests
accepted : (code transition : ℕ) (o : Weighed) → (cond (eqb code 0) o (refused code transition)).code ≡ 0
    → (code ≡ 0) × (cond (eqb code 0) o (refused code transition) ≡ o)
accepted code transition o = go (eqb code 0) refl
  where
    go : (b : Bool) → eqb code 0 ≡ b → (cond b o (refused code transition)).code ≡ 0 → (code ≡ 0) × (cond b o (refused code transition) ≡ o)
    go true e h = (eqb-true code 0 e, refl)
    go false e h = absurd (eqb-false code 0 e h)

-- no transition is the first unbalanced one
all-balanced : (n : ℕ) (sources targets weights : List ℕ) → unbalanced n sources targets weights ≡ 0 → (t : ℕ) → t < n
    → weight_in weights (get_or sources t 0) ≡ weight_in weights (get_or targets t 0)
unfolding unbalanced
all-balanced n sources targets weights e t l =
    go (balanced weights (get_or sources t 0) (get_or targets t 0)) refl (first-zero (λ t. unless (balanced weights (get_or sources t 0) (get_or targets t 0)) (t + 1)) n e t l)
  where
    go : (b : Bool) → balanced weights (get_or sources t 0) (get_or targets t 0) ≡ b → unless b (t + 1) ≡ 0
        → weight_in weights (get_or sources t 0) ≡ weight_in weights (get_or targets t 0)
    go true q h = eqb-true _ _ q
    go false q h = absurd (omega arith)

-- a test of two numbers that gives no number
pub unless-none : (a b n : ℕ) → unless (eqb a b) (suc n) ≡ 0 → a ≡ b
unless-none a b n = go (eqb a b) refl
  where
    go : (t : Bool) → eqb a b ≡ t → unless t (suc n) ≡ 0 → a ≡ b
    go true e h = eqb-true a b e
    go false e h = absurd (omega arith)

-- weights that the weighing accepts are balanced, and the total that it answers is what the initial steps weigh
pub weighed : (c : Chart) (weights : List ℕ) → (weigh_of c weights).code ≡ 0
    → Balanced c (λ k. get_or weights k 0) × ((weigh_of c weights).total ≡ initial_weight c (λ k. get_or weights k 0))
unfolding weight_in
weighed c weights h =
    let a = accepted (weigh_code c weights) _ _ h in
    let b = else-zero (chart_code c) _ a.0 in
    let d = else-zero (unless (eqb (length weights) c.steps) 13) _ b.1 in
    (all-balanced c.transitions c.sources c.targets weights (unless-none (unbalanced_in c weights) 0 13 d.1), ap (λ (o : Weighed). o.total) a.1)

-- so two different steps whose weights together exceed that total are not both active, from an accepted start over any calls
pub weighed-apart : (c : Chart) (weights : List ℕ) → (weigh_of c weights).code ≡ 0 → (clock lent : ℕ) → (start_of c clock lent).code ≡ 0 → (xs : List Call)
    → (i j : ℕ) → i < c.steps → j < c.steps → (i ≡ j → ⊥) → (weigh_of c weights).total < get_or weights i 0 + get_or weights j 0
    → has (after c (begun c clock lent) xs).active i ≡ true → has (after c (begun c clock lent) xs).active j ≡ true → ⊥
weighed-apart c weights h clock lent e xs i j li lj d more =
    let a = weighed c weights h in
    never-together c clock lent e (λ k. get_or weights k 0) a.0 xs i j li lj d (omega (arith, a.1))
