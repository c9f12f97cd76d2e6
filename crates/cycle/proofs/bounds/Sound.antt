-- A chart that passed its test does the same in every cycle as what a cycle takes of it.
use Prim.Native.Nat.{ℕ, zero, suc, ◌+◌, ◌<◌, min}
use mathlib.Core.List.{List, ◌++◌}
use mathlib.Core.Bool.{Bool, ◌&&◌, cond}
use mathlib.Core.Path.{◌≡◌, refl, ap, ap₂, ◌∙◌, fun_ext}
use native.Mathlib.Nat.{mod-eq_of_lt, min-eq_left, lt_of_lt_of_le}
use native.Mathlib.Omega.{arith}
use lib.IntN.{ℤ, pos}
use lib.ListN.{get_or, drop}
use lib.Dec.{eqb}
use Rattle.sets.specs.Loops.{table}
use Rattle.sets.specs.Sets.{has, union, named}
use Rattle.sets.proofs.Members.{collect-same, named-same}
use Rattle.chart.specs.declared.chart.Chart.{Chart}
use Rattle.chart.proofs.held.Sound.{Sound}
use Rattle.choice.specs.declared.Choice.{Choice}
use Rattle.acting.specs.Acting.{resets, sets, latches, wants, ripens, request_at, request_of, asked_by, asked, acted}
use Rattle.acting.specs.declared.Steps.{Steps}
use Rattle.acting.specs.declared.Request.{Request}
use Rattle.acting.specs.declared.Asked.{Asked}
use Rattle.acting.specs.declared.Acted.{Acted}
use Rattle.run.specs.declared.run.Run.{Run}
use Rattle.passes.specs.Choosing.{steps_of}
use Rattle.passes.specs.Moving.{good_at, bad_at, marks_of, signals_of}
use Rattle.passes.specs.Outputs.{first, drives, outputs_of}
use Rattle.cycle.specs.Bounds.{bounded}
use Rattle.passes.specs.Rests.{rests}
use Rattle.cycle.specs.Cycling.{accepted, acted_on, settled, counts_at, times_at, choice_of, reasons_in, marks_at, moved_by, cycled, outputs_after}
use Rattle.passes.specs.declared.moving.Marks.{Marks}
use Rattle.cycle.specs.Answer.{Cycled}
use Rattle.passes.proofs.rests.Laws.{rest_at}

-- ---- tables whose numbers are below the limit

-- the first n numbers are below m, so each is its own rest
own-rest : (m n : ℕ) (l : List ℕ) → ((k : ℕ) → k < n → get_or l k 0 < m) → (k : ℕ) → k < n → get_or (rests m l) k 0 ≡ get_or l k 0
own-rest m n l h k q = rest_at m l k ∙ mod-eq_of_lt (h k q)

-- the same requests of the same actions
pub asked-same : (x y : ℕ → Request) (f g : ℕ → ℕ) (n : ℕ) → ((b : ℕ) → b < n → x b ≡ y b) → ((b : ℕ) → b < n → f b ≡ g b) → asked_by x f n ≡ asked_by y g n
asked-same x y f g n h e = rw (by resets, by sets, by latches, by wants, by ripens)
  where
    by : (t : Request → Bool) → named (λ b. t (x b)) f n ≡ named (λ b. t (y b)) g n
    by t = named-same (λ b. t (x b)) (λ b. t (y b)) f g n (λ b l. ap t (h b l)) e

asked-rests : (n : ℕ) (step action qualifier duration counts times : List ℕ) (steps : Steps)
    → ((b : ℕ) → b < n → get_or step b 0 < 64) → ((b : ℕ) → b < n → get_or action b 0 < 32)
    → asked n (rests 64 step) (rests 32 action) qualifier duration counts times steps ≡ asked n step action qualifier duration counts times steps
unfolding asked
asked-rests n step action qualifier duration counts times steps h g =
    let s = own-rest 64 n step h in
    let a = own-rest 32 n action g in
    asked-same (request_of (rests 64 step) (rests 32 action) qualifier duration counts times steps) (request_of step action qualifier duration counts times steps) (λ b. get_or (rests 32 action) b 0) (λ b. get_or action b 0) n
    (λ b l. ap₂ (λ (i j : ℕ). request_at i (get_or qualifier b 0) (get_or duration b 0) (get_or counts i 0) (get_or times j 0) steps) (s b l) (a b l)) a

marks-rests : (n : ℕ) (step signal expected : List ℕ) (left signals : ℕ)
    → ((k : ℕ) → k < n → get_or step k 0 < 64) → ((k : ℕ) → k < n → get_or signal k 0 < 64)
    → marks_of n (rests 64 step) (rests 64 signal) expected left signals ≡ marks_of n step signal expected left signals
unfolding marks_of
marks-rests n step signal expected left signals h g =
    let s = own-rest 64 n step h in
    let a = own-rest 64 n signal g in
    rw (
      collect-same _ (λ k. good_at (get_or step k 0) (get_or signal k 0) (get_or expected k 0) left signals) n (λ k l. ap₂ (λ (i j : ℕ). good_at i j (get_or expected k 0) left signals) (s k l) (a k l)),
      collect-same _ (λ k. bad_at (get_or step k 0) (get_or signal k 0) (get_or expected k 0) left signals) n (λ k l. ap₂ (λ (i j : ℕ). bad_at i j (get_or expected k 0) left signals) (s k l) (a k l)),
    )

-- two tests that agree find the same first number
first_alike : {A : Type 0} (p q : ℕ → Bool) (v : ℕ → A) (d : A) (m a : ℕ) → ((k : ℕ) → k < a + m → p k ≡ q k) → first p v d m a ≡ first q v d m a
unfolding first
first_alike p q v d zero a h = refl
first_alike p q v d (suc m) a h = ap₂ (λ (t : Bool) x. cond t (v a) x) (h a (omega arith)) (first_alike p q v d m (suc a) (λ k l. h k (omega arith)))

outputs-rests : (n : ℕ) (output : List ℕ) (value : List ℤ) (activity : ℕ) → ((a : ℕ) → a < n → get_or output a 0 < 32)
    → outputs_of n (rests 32 output) value activity ≡ outputs_of n output value activity
unfolding outputs_of
outputs-rests n output value activity h =
    ap (λ (f : ℕ → ℤ). table f 32)
    (fun_ext (λ o. first_alike (drives (rests 32 output) activity o) (drives output activity o) (λ a. get_or value a (pos 0)) (pos 0) n 0
    (λ a l. ap (λ (i : ℕ). has activity a && eqb i o) (own-rest 32 n output h a (omega arith)))))

-- ---- a chart that passed its test

module _ (c : Chart) (s : Sound c) where
  pub acted-bounded : (counts times : List ℕ) (steps : Steps) (stored latched : ℕ) → acted_on (bounded c) counts times steps stored latched ≡ acted_on c counts times steps stored latched
  acted-bounded counts times steps stored latched =
      rw (min-eq_left s.limits.blocks)
      (ap (λ (x : Asked). acted x stored latched)
      (asked-rests c.blocks c.blockstep c.blockaction c.qualifier c.duration counts times steps (λ b l. lt_of_lt_of_le (s.blockstep b l) s.limits.steps) (λ b l. lt_of_lt_of_le (s.blockaction b l) s.limits.actions)))

  pub marks-bounded : (left signals : ℕ) → marks_at (bounded c) left signals ≡ marks_at c left signals
  marks-bounded left signals = rw (min-eq_left s.limits.cases) (marks-rests c.cases c.casestep c.signal c.expected left signals s.casestep s.signal)

  pub choice-bounded : (r : Run) (counts : List ℕ) (signals : ℕ) → choice_of (bounded c) r counts signals ≡ choice_of c r counts signals
  choice-bounded r counts signals = rw (min-eq_left s.limits.transitions)

  reasons-bounded : (r : Run) (counts : List ℕ) (signals : ℕ) → reasons_in (bounded c) r counts signals ≡ reasons_in c r counts signals
  reasons-bounded r counts signals = rw (min-eq_left s.limits.transitions)

  pub outputs-bounded : (activity : ℕ) → outputs_of (min c.actions 32) (rests 32 c.output) c.value activity ≡ outputs_of c.actions c.output c.value activity
  outputs-bounded activity = rw (min-eq_left s.limits.actions) (outputs-rests c.actions c.output c.value activity s.output)

  pub after-bounded : (o : Cycled) (out : List ℤ) → outputs_after (bounded c) o out ≡ outputs_after c o out
  after-bounded o out = ap (λ (l : List ℤ). cond (eqb o.code 0) (l ++ drop 32 out) out) (outputs-bounded o.run.activity)

  moved-bounded : (r : Run) (clock : ℕ) (counts times : List ℕ) (signals : ℕ) (ch : Choice)
      → moved_by (bounded c) r clock counts times signals ch ≡ moved_by c r clock counts times signals ch
  moved-bounded r clock counts times signals ch =
      ap₂ (λ (x : Acted) (m : Marks). settled clock counts times (steps_of r.active ch) x (union r.good m.good) (union r.bad m.bad) r.hold)
      (acted-bounded counts times (steps_of r.active ch) r.stored r.latched) (marks-bounded ch.left signals)

  -- so its cycle is the same
  pub cycled-bounded : (r : Run) (clock inputs : ℕ) → cycled (bounded c) r clock inputs ≡ cycled c r clock inputs
  cycled-bounded r clock inputs =
      let counts = counts_at r clock in
      let times = times_at r clock in
      let signals = signals_of inputs r.activity in
      ap₂ (λ (ch : Choice) (why : List ℕ). accepted ch.taken why (moved_by (bounded c) r clock counts times signals ch)) (choice-bounded r counts signals) (reasons-bounded r counts signals)
      ∙ ap (accepted (choice_of c r counts signals).taken (reasons_in c r counts signals)) (moved-bounded r clock counts times signals (choice_of c r counts signals))
