-- What a chart that passed the test is: what every part above may rely on.
use Prim.Native.Nat.{ℕ, ◌≤◌, ◌<◌}
use mathlib.Core.List.{List}
use mathlib.Core.Bool.{Bool, true, false, ◌&&◌, ◌||◌, not}
use mathlib.Core.Path.{◌≡◌, refl}
use lib.ListN.{get_or}
use lib.Dec.{leb, ltb, eqb}
use native.Mathlib.Nat.{lt_of_lt_of_le}
use native.Mathlib.Omega.{arith}
use borrow.Author.Tests.{leb-true, ltb-true, eqb-false, not-true}
use Rattle.sets.specs.Sets.{Below, Apart}
use Rattle.sets.proofs.Loops.{and-true, else-zero, first-zero}
use Rattle.fields.specs.Fields.{unless, signal_exists, signals_exist, transition_fits, steps_differ, transition_code, block_names, block_fits, case_fits, action_fits, timed, longest, edition_fits}
use Rattle.chart.specs.Held.{limits_fit, steps_code, actions_code, transitions_code, transition_code_at, blocks_code, block_fits_at, cases_code, case_fits_at, closing_code, held_code, chart_code}
use Rattle.chart.specs.declared.chart.Chart.{Chart}
use Rattle.chart.proofs.held.Laws.{Limits, limits}

pub record Sound (c : Chart) : Type 0 where
  pub limits : Limits c.steps c.actions c.transitions c.blocks c.cases
  pub output : (a : ℕ) → a < c.actions → get_or c.output a 0 < 32
  pub sources : (t : ℕ) → t < c.transitions → Below (get_or c.sources t 0) c.steps ≡ true
  pub some-source : (t : ℕ) → t < c.transitions → get_or c.sources t 0 ≡ 0 → ⊥
  pub targets : (t : ℕ) → t < c.transitions → Below (get_or c.targets t 0) c.steps ≡ true
  pub blockstep : (b : ℕ) → b < c.blocks → get_or c.blockstep b 0 < c.steps
  pub blockaction : (b : ℕ) → b < c.blocks → get_or c.blockaction b 0 < c.actions
  pub casestep : (k : ℕ) → k < c.cases → get_or c.casestep k 0 < 64
  pub signal : (k : ℕ) → k < c.cases → get_or c.signal k 0 < 64
  pub edition : edition_fits c.edition ≡ true

-- what "n unless t" tells
pub fits : (t : Bool) (n : ℕ) → (n ≡ 0 → ⊥) → unless t n ≡ 0 → t ≡ true
fits true n z e = refl
fits false n z e = absurd (z e)

transition-fits : (s a f g on off w : ℕ) → transition_fits s a f g on off w ≡ true → (Below f s ≡ true) × (Below g s ≡ true) × (w ≤ longest)
transition-fits s a f g on off w e =
    let x = and-true _ (leb w longest) e in
    let y = and-true _ (signals_exist off a) x.0 in
    let z = and-true _ (signals_exist on a) y.0 in
    let v = and-true (Below f s) (Below g s) z.0 in
    (v.0, v.1, leb-true _ _ x.1)

pub block-fits : (steps actions s a q d : ℕ) → block_fits steps actions s a q d ≡ true → (s < steps) × (a < actions) × (q ≤ 10) × (d ≤ longest)
block-fits steps actions s a q d e =
    let x = and-true (block_names steps actions s a q) (leb d longest && (timed q || eqb d 0)) e in
    let y = and-true (leb d longest) (timed q || eqb d 0) x.1 in
    let z = and-true (ltb s steps && ltb a actions) (leb q 10) x.0 in
    let v = and-true (ltb s steps) (ltb a actions) z.0 in
    (ltb-true _ _ v.0, ltb-true _ _ v.1, leb-true _ _ z.1, leb-true _ _ y.0)

pub case-fits : (steps actions step signal expected : ℕ) → case_fits steps actions step signal expected ≡ true → (step < steps) × (signal < 64) × (expected ≤ 1)
case-fits steps actions step signal expected e =
    let x = and-true _ (leb expected 1) e in
    let y = and-true _ (signal_exists signal actions) x.0 in
    let z = and-true (ltb step steps) (ltb signal 64) y.0 in
    (ltb-true _ _ z.0, ltb-true _ _ z.1, leb-true _ _ x.1)

pub transition-zero : (s a f g on off w : ℕ) → transition_code s a f g on off w ≡ 0 → (Below f s ≡ true) × (Below g s ≡ true) × (w ≤ longest)
unfolding transition_code
transition-zero s a f g on off w e =
    transition-fits s a f g on off w
    (fits (transition_fits s a f g on off w) 5 (λ z. omega arith) (else-zero (unless (transition_fits s a f g on off w) 5) _ e).0)

transition-source : (s a f g on off w : ℕ) → transition_code s a f g on off w ≡ 0 → f ≡ 0 → ⊥
unfolding transition_code
transition-source s a f g on off w e =
    let x = else-zero (unless (steps_differ f g) 6) _ (else-zero (unless (transition_fits s a f g on off w) 5) _ e).1 in
    let y = and-true (not (eqb f 0) && not (eqb g 0)) (Apart f g) (fits (steps_differ f g) 6 (λ z. omega arith) x.0) in
    eqb-false f 0 (not-true (eqb f 0) (and-true (not (eqb f 0)) (not (eqb g 0)) y.0).0)

-- the tables' numbers are all 0, and the closing one
pub record Zero (c : Chart) : Type 0 where
  pub limits : limits_fit c.steps c.actions c.transitions c.blocks c.cases ≡ true
  pub steps : steps_code c.steps c.initial ≡ 0
  pub actions : actions_code c.actions c.output ≡ 0
  pub transitions : transitions_code c.transitions c.steps c.actions c.sources c.targets c.on c.off c.wait ≡ 0
  pub blocks : blocks_code c.blocks c.steps c.actions c.blockstep c.blockaction c.qualifier c.duration ≡ 0
  pub cases : cases_code c.cases c.steps c.actions c.casestep c.signal c.expected ≡ 0
  pub edition : edition_fits c.edition ≡ true
  pub closing : closing_code c.steps c.blocks c.initial c.blockaction c.qualifier ≡ 0

pub is_zero : (c : Chart) → chart_code c ≡ 0 → Zero c
unfolding held_code
is_zero c e =
    let l = else-zero (unless (limits_fit c.steps c.actions c.transitions c.blocks c.cases) 4) _ e in
    let s = else-zero (steps_code c.steps c.initial) _ l.1 in
    let a = else-zero (actions_code c.actions c.output) _ s.1 in
    let t = else-zero (transitions_code c.transitions c.steps c.actions c.sources c.targets c.on c.off c.wait) _ a.1 in
    let b = else-zero (blocks_code c.blocks c.steps c.actions c.blockstep c.blockaction c.qualifier c.duration) _ t.1 in
    let k = else-zero (cases_code c.cases c.steps c.actions c.casestep c.signal c.expected) _ b.1 in
    let d = else-zero (unless (edition_fits c.edition) 5) _ k.1 in
    record {
      limits = fits _ 4 (λ z. omega arith) l.0;
      steps = s.0;
      actions = a.0;
      transitions = t.0;
      blocks = b.0;
      cases = k.0;
      edition = fits _ 5 (λ z. omega arith) d.0;
      closing = d.1;
    }

outputs-zero : (n : ℕ) (output : List ℕ) → actions_code n output ≡ 0 → (a : ℕ) → a < n → get_or output a 0 < 32
unfolding actions_code
outputs-zero n output e a h =
    let o : get_or output a 0 ≤ 31 = leb-true _ 31 (fits (action_fits (get_or output a 0)) 5 (λ z. omega arith) (first-zero (λ i. unless (action_fits (get_or output i 0)) 5) n e a h)) in omega arith

transitions-zero : (n s a : ℕ) (f g on off w : List ℕ) → transitions_code n s a f g on off w ≡ 0 → (t : ℕ) → t < n → (Below (get_or f t 0) s ≡ true) × (Below (get_or g t 0) s ≡ true) × (get_or w t 0 ≤ longest)
unfolding transitions_code
transitions-zero n s a f g on off w e t h = transition-zero s a _ _ _ _ _ (first-zero (transition_code_at s a f g on off w) n e t h)

sources-zero : (n s a : ℕ) (f g on off w : List ℕ) → transitions_code n s a f g on off w ≡ 0 → (t : ℕ) → t < n → get_or f t 0 ≡ 0 → ⊥
unfolding transitions_code
sources-zero n s a f g on off w e t h = transition-source s a (get_or f t 0) (get_or g t 0) (get_or on t 0) (get_or off t 0) (get_or w t 0) (first-zero (transition_code_at s a f g on off w) n e t h)

blocks-zero : (n s a : ℕ) (bs ba q d : List ℕ) → blocks_code n s a bs ba q d ≡ 0 → (b : ℕ) → b < n → (get_or bs b 0 < s) × (get_or ba b 0 < a) × (get_or q b 0 ≤ 10) × (get_or d b 0 ≤ longest)
unfolding blocks_code
blocks-zero n s a bs ba q d e b h =
    block-fits s a _ _ (get_or q b 0) (get_or d b 0) (fits (block_fits_at s a bs ba q d b) 5 (λ z. omega arith) (first-zero (λ i. unless (block_fits_at s a bs ba q d i) 5) n e b h))

cases_zero : (n s a : ℕ) (cs sg ex : List ℕ) → cases_code n s a cs sg ex ≡ 0 → (k : ℕ) → k < n → (get_or cs k 0 < s) × (get_or sg k 0 < 64) × (get_or ex k 0 ≤ 1)
unfolding cases_code
cases_zero n s a cs sg ex e k h =
    case-fits s a _ _ (get_or ex k 0) (fits (case_fits_at s a cs sg ex k) 5 (λ z. omega arith) (first-zero (λ i. unless (case_fits_at s a cs sg ex i) 5) n e k h))

pub sound : (c : Chart) → chart_code c ≡ 0 → Sound c
sound c e =
    let z = is_zero c e in
    let l = limits _ _ _ _ _ z.limits in
    record {
      limits = l;
      output = outputs-zero _ _ z.actions;
      sources = λ t h. (transitions-zero _ _ _ _ _ _ _ _ z.transitions t h).0;
      some-source = λ t h. sources-zero _ _ _ _ _ _ _ _ z.transitions t h;
      targets = λ t h. (transitions-zero _ _ _ _ _ _ _ _ z.transitions t h).1;
      blockstep = λ b h. (blocks-zero _ _ _ _ _ _ _ z.blocks b h).0;
      blockaction = λ b h. (blocks-zero _ _ _ _ _ _ _ z.blocks b h).1;
      casestep = λ k h. lt_of_lt_of_le (cases_zero _ _ _ _ _ _ z.cases k h).0 l.steps;
      signal = λ k h. (cases_zero _ _ _ _ _ _ z.cases k h).1;
      edition = z.edition;
    }
