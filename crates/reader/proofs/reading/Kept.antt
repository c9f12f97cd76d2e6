-- What reading keeps true of the chart it fills: its limits, its records' numbers, zeros beyond its counts, and how many bytes it took.
use Prim.Native.Nat.{ℕ, zero, suc, ◌+◌, ◌*◌, ◌≤◌, ◌<◌}
use mathlib.Core.List.{List}
use mathlib.Core.Bool.{Bool, true, false}
use mathlib.Core.Path.{◌≡◌, refl, ◌∙◌}
use lib.IntN.{ℤ, pos}
use lib.ListN.{length, get_or, set, replicate, length-set, length-replicate}
use lib.Seq.{get_or-set_same, get_or-set_other}
use native.Mathlib.Omega.{arith}
use lib.Dec.{ltb, eqb}
use borrow.Author.Tests.{eqb-true}
use Rattle.sets.specs.Loops.{first_code}
use Rattle.sets.proofs.Loops.{first-start, first-turn, first-same}
use Rattle.fields.specs.Fields.{unless, step_fits, action_fits, transition_code, block_fits, case_fits, edition_fits, second}
use Rattle.chart.specs.Held.{steps_code, actions_code, transitions_code, blocks_code, cases_code, step_fits_at, action_fits_at, transition_code_at, block_fits_at, case_fits_at}
use Rattle.chart.specs.Chart.{empty_chart, with_step, with_action, with_transition, with_block, with_case, with_edition}
use Rattle.chart.specs.declared.chart.Chart.{Chart}
use Rattle.chart.proofs.held.Laws.{Limits}
use Rattle.chart.proofs.held.Sound.{fits}
use Rattle.reader.specs.Reading.{number_in}
use Rattle.judging.specs.declared.Body.TheVariants.{Step, Action, Transition, Block, Case, Edition}
use Rattle.reader.proofs.reading.Laws.{room, limited-zero}

-- ---- a column: as long as its limit, with zeros from the count on

pub record Column {A : Type 0} (zero-value : A) (limit n : ℕ) (l : List A) : Type 0 where
  pub long : length l ≡ limit
  pub rest : (i : ℕ) → n ≤ i → get_or l i zero-value ≡ zero-value

module _ {A : Type 0} (d : A) where
  blank : (limit i : ℕ) → get_or (replicate limit d) i d ≡ d
  blank zero i = refl
  blank (suc n) zero = refl
  blank (suc n) (suc i) = blank n i

  column-start : (limit : ℕ) → Column d limit 0 (replicate limit d)
  column-start limit = record { long = length-replicate limit d; rest = λ i h. blank limit i }

  pub older : (l : List A) (n : ℕ) (v : A) (i : ℕ) → i < n → get_or (set l n v) i d ≡ get_or l i d
  older l n v i h = get_or-set_other l n i v d (λ e. omega arith)

  module _ (limit n : ℕ) (l : List A) (v : A) (c : Column d limit n l) (h : n < limit) where
    pub newest : get_or (set l n v) n d ≡ v
    newest = let e = c.long in get_or-set_same l n v d (omega arith)

    column-more : Column d limit (n + 1) (set l n v)
    column-more = record {
      long = length-set l n v ∙ c.long;
      rest = λ i k. get_or-set_other l n i v d (λ e. omega arith) ∙ c.rest i (omega arith);
    }

-- ---- the numbers of a table with one more record

-- the records before are as they were, and the new one's number is 0
more : (f g : ℕ → ℕ) (n : ℕ) → ((i : ℕ) → i < n → g i ≡ f i) → g n ≡ 0 → first_code f n ≡ 0 → first_code g (n + 1) ≡ 0
more f g n same new e = first-turn g n (first-same g f n same ∙ e) new

-- each table with one more record whose number is 0
module _ (n : ℕ) where
  steps-more : (l₁ : List ℕ) (v₁ : ℕ) → Column 0 64 n l₁ → n < 64
      → unless (step_fits v₁) 5 ≡ 0 → steps_code n l₁ ≡ 0 → steps_code (n + 1) (set l₁ n v₁) ≡ 0
  unfolding steps_code
  steps-more l₁ v₁ c₁ h z e =
      more (λ i. unless (step_fits_at l₁ i) 5) (λ i. unless (step_fits_at (set l₁ n v₁) i) 5) n
      (λ j k. rw (older 0 l₁ n v₁ j k))
      (rw (newest 0 64 n l₁ v₁ c₁ h) z) e

  actions-more : (l₁ : List ℕ) (v₁ : ℕ) → Column 0 32 n l₁ → n < 32
      → unless (action_fits v₁) 5 ≡ 0 → actions_code n l₁ ≡ 0 → actions_code (n + 1) (set l₁ n v₁) ≡ 0
  unfolding actions_code
  actions-more l₁ v₁ c₁ h z e =
      more (λ i. unless (action_fits_at l₁ i) 5) (λ i. unless (action_fits_at (set l₁ n v₁) i) 5) n
      (λ j k. rw (older 0 l₁ n v₁ j k))
      (rw (newest 0 32 n l₁ v₁ c₁ h) z) e

  transitions-more : (s a : ℕ) (l₁ l₂ l₃ l₄ l₅ : List ℕ) (v₁ v₂ v₃ v₄ v₅ : ℕ) → Column 0 64 n l₁ → Column 0 64 n l₂ → Column 0 64 n l₃ → Column 0 64 n l₄ → Column 0 64 n l₅ → n < 64
      → transition_code s a v₁ v₂ v₃ v₄ v₅ ≡ 0 → transitions_code n s a l₁ l₂ l₃ l₄ l₅ ≡ 0 → transitions_code (n + 1) s a (set l₁ n v₁) (set l₂ n v₂) (set l₃ n v₃) (set l₄ n v₄) (set l₅ n v₅) ≡ 0
  unfolding transitions_code
  transitions-more s a l₁ l₂ l₃ l₄ l₅ v₁ v₂ v₃ v₄ v₅ c₁ c₂ c₃ c₄ c₅ h z e =
      more (λ i. transition_code_at s a l₁ l₂ l₃ l₄ l₅ i) (λ i. transition_code_at s a (set l₁ n v₁) (set l₂ n v₂) (set l₃ n v₃) (set l₄ n v₄) (set l₅ n v₅) i) n
      (λ j k. rw (older 0 l₁ n v₁ j k, older 0 l₂ n v₂ j k, older 0 l₃ n v₃ j k, older 0 l₄ n v₄ j k, older 0 l₅ n v₅ j k))
      (rw (newest 0 64 n l₁ v₁ c₁ h, newest 0 64 n l₂ v₂ c₂ h, newest 0 64 n l₃ v₃ c₃ h, newest 0 64 n l₄ v₄ c₄ h, newest 0 64 n l₅ v₅ c₅ h) z) e

  blocks_more : (s a : ℕ) (l₁ l₂ l₃ l₄ : List ℕ) (v₁ v₂ v₃ v₄ : ℕ) → Column 0 256 n l₁ → Column 0 256 n l₂ → Column 0 256 n l₃ → Column 0 256 n l₄ → n < 256
      → unless (block_fits s a v₁ v₂ v₃ v₄) 5 ≡ 0 → blocks_code n s a l₁ l₂ l₃ l₄ ≡ 0 → blocks_code (n + 1) s a (set l₁ n v₁) (set l₂ n v₂) (set l₃ n v₃) (set l₄ n v₄) ≡ 0
  unfolding blocks_code
  blocks_more s a l₁ l₂ l₃ l₄ v₁ v₂ v₃ v₄ c₁ c₂ c₃ c₄ h z e =
      more (λ i. unless (block_fits_at s a l₁ l₂ l₃ l₄ i) 5) (λ i. unless (block_fits_at s a (set l₁ n v₁) (set l₂ n v₂) (set l₃ n v₃) (set l₄ n v₄) i) 5) n
      (λ j k. rw (older 0 l₁ n v₁ j k, older 0 l₂ n v₂ j k, older 0 l₃ n v₃ j k, older 0 l₄ n v₄ j k))
      (rw (newest 0 256 n l₁ v₁ c₁ h, newest 0 256 n l₂ v₂ c₂ h, newest 0 256 n l₃ v₃ c₃ h, newest 0 256 n l₄ v₄ c₄ h) z) e

  cases-more : (s a : ℕ) (l₁ l₂ l₃ : List ℕ) (v₁ v₂ v₃ : ℕ) → Column 0 64 n l₁ → Column 0 64 n l₂ → Column 0 64 n l₃ → n < 64
      → unless (case_fits s a v₁ v₂ v₃) 5 ≡ 0 → cases_code n s a l₁ l₂ l₃ ≡ 0 → cases_code (n + 1) s a (set l₁ n v₁) (set l₂ n v₂) (set l₃ n v₃) ≡ 0
  unfolding cases_code
  cases-more s a l₁ l₂ l₃ v₁ v₂ v₃ c₁ c₂ c₃ h z e =
      more (λ i. unless (case_fits_at s a l₁ l₂ l₃ i) 5) (λ i. unless (case_fits_at s a (set l₁ n v₁) (set l₂ n v₂) (set l₃ n v₃) i) 5) n
      (λ j k. rw (older 0 l₁ n v₁ j k, older 0 l₂ n v₂ j k, older 0 l₃ n v₃ j k))
      (rw (newest 0 64 n l₁ v₁ c₁ h, newest 0 64 n l₂ v₂ c₂ h, newest 0 64 n l₃ v₃ c₃ h) z) e

transitions-none : (n s a : ℕ) (l₁ l₂ l₃ l₄ l₅ : List ℕ) → n ≡ 0 → transitions_code n s a l₁ l₂ l₃ l₄ l₅ ≡ 0
unfolding transitions_code
transitions-none n s a l₁ l₂ l₃ l₄ l₅ e = rw e (first-start _)

blocks-none : (n s a : ℕ) (l₁ l₂ l₃ l₄ : List ℕ) → n ≡ 0 → blocks_code n s a l₁ l₂ l₃ l₄ ≡ 0
unfolding blocks_code
blocks-none n s a l₁ l₂ l₃ l₄ e = rw e (first-start _)

cases_none : (n s a : ℕ) (l₁ l₂ l₃ : List ℕ) → n ≡ 0 → cases_code n s a l₁ l₂ l₃ ≡ 0
unfolding cases_code
cases_none n s a l₁ l₂ l₃ e = rw e (first-start _)

-- an edition is one of the two, and its record says the second
pub one-or-two : (n : ℕ) → edition_fits n ≡ true → (1 ≤ n) × (n ≤ 2)
one-or-two n e = go (eqb n 1) refl
  where
    go : (t : Bool) → eqb n 1 ≡ t → (1 ≤ n) × (n ≤ 2)
    go true q = let z = eqb-true n 1 q in (omega arith, omega arith)
    go false q = let z = eqb-true n 2 (rw q at e) in (omega arith, omega arith)

pub is-second : (n : ℕ) → unless (second n) 5 ≡ 0 → n ≡ 2
is-second n e = eqb-true n 2 (fits (second n) 5 (λ z. omega arith) e)

-- ---- what is kept, after `at` bytes

pub record Kept (at before : ℕ) (c : Chart) : Type 0 where
  pub size : at + 5 ≡ 5 * c.steps + 9 * c.actions + 40 * c.transitions + 11 * c.blocks + 7 * c.cases + 5 * c.edition
  pub limits : Limits c.steps c.actions c.transitions c.blocks c.cases
  pub early : before ≤ 2 → (c.transitions ≡ 0) × (c.blocks ≡ 0) × (c.cases ≡ 0)
  pub steps-fine : steps_code c.steps c.initial ≡ 0
  pub actions-fine : actions_code c.actions c.output ≡ 0
  pub transitions-fine : transitions_code c.transitions c.steps c.actions c.sources c.targets c.on c.off c.wait ≡ 0
  pub blocks-fine : blocks_code c.blocks c.steps c.actions c.blockstep c.blockaction c.qualifier c.duration ≡ 0
  pub cases-fine : cases_code c.cases c.steps c.actions c.casestep c.signal c.expected ≡ 0
  pub edition-fine : edition_fits c.edition ≡ true
  pub initial : Column 0 64 c.steps c.initial
  pub output : Column 0 32 c.actions c.output
  pub value : Column (pos 0) 32 c.actions c.value
  pub sources : Column 0 64 c.transitions c.sources
  pub targets : Column 0 64 c.transitions c.targets
  pub on : Column 0 64 c.transitions c.on
  pub off : Column 0 64 c.transitions c.off
  pub wait : Column 0 64 c.transitions c.wait
  pub blockstep : Column 0 256 c.blocks c.blockstep
  pub blockaction : Column 0 256 c.blocks c.blockaction
  pub qualifier : Column 0 256 c.blocks c.qualifier
  pub duration : Column 0 256 c.blocks c.duration
  pub casestep : Column 0 64 c.cases c.casestep
  pub signal : Column 0 64 c.cases c.signal
  pub expected : Column 0 64 c.cases c.expected

pub kept-start : Kept 0 0 (empty_chart 1)
unfolding steps_code actions_code transitions_code blocks_code cases_code
kept-start = record {
  size = refl;
  limits = record { steps = omega arith; actions = omega arith; transitions = omega arith; blocks = omega arith; cases = omega arith };
  early = λ h. (refl, refl, refl);
  steps-fine = first-start _;
  actions-fine = first-start _;
  transitions-fine = first-start _;
  blocks-fine = first-start _;
  cases-fine = first-start _;
  edition-fine = refl;
  initial = column-start 0 64;
  output = column-start 0 32;
  value = column-start (pos 0) 32;
  sources = column-start 0 64;
  targets = column-start 0 64;
  on = column-start 0 64;
  off = column-start 0 64;
  wait = column-start 0 64;
  blockstep = column-start 0 256;
  blockaction = column-start 0 256;
  qualifier = column-start 0 256;
  duration = column-start 0 256;
  casestep = column-start 0 64;
  signal = column-start 0 64;
  expected = column-start 0 64;
}

module _ (at before : ℕ) (c : Chart) (h : Kept at before c) where
  pub kept_step : (v₁ : ℕ) → before ≤ 1 → number_in c (Step v₁) ≡ 0 → Kept (at + 4 + 1) 1 (with_step c v₁)
  kept_step v₁ b e =
      let r : c.steps < 64 = room c (Step v₁) e in
      let x : unless (step_fits v₁) 5 ≡ 0 = (limited-zero (ltb c.steps 64) (unless (step_fits v₁) 5) e).1 in
      let m = h.limits in
      let y = h.early (omega arith) in
      let s = h.size in
      record {
        size = omega arith;
        limits = record { steps = omega arith; actions = m.actions; transitions = m.transitions; blocks = m.blocks; cases = m.cases };
        early = λ z. y;
        steps-fine = steps-more c.steps c.initial v₁ h.initial r x h.steps-fine;
        actions-fine = h.actions-fine;
        transitions-fine = transitions-none _ _ _ _ _ _ _ _ y.0;
        blocks-fine = blocks-none _ _ _ _ _ _ _ y.1;
        cases-fine = cases_none _ _ _ _ _ _ y.2;
        edition-fine = h.edition-fine;
        initial = column-more 0 64 c.steps c.initial v₁ h.initial r;
        output = h.output;
        value = h.value;
        sources = h.sources;
        targets = h.targets;
        on = h.on;
        off = h.off;
        wait = h.wait;
        blockstep = h.blockstep;
        blockaction = h.blockaction;
        qualifier = h.qualifier;
        duration = h.duration;
        casestep = h.casestep;
        signal = h.signal;
        expected = h.expected;
      }

  pub kept-action : (v₁ : ℕ) (v₂ : ℤ) → before ≤ 2 → number_in c (Action v₁ v₂) ≡ 0 → Kept (at + 4 + 5) 2 (with_action c v₁ v₂)
  kept-action v₁ v₂ b e =
      let r : c.actions < 32 = room c (Action v₁ v₂) e in
      let x : unless (action_fits v₁) 5 ≡ 0 = (limited-zero (ltb c.actions 32) (unless (action_fits v₁) 5) e).1 in
      let m = h.limits in
      let y = h.early (omega arith) in
      let s = h.size in
      record {
        size = omega arith;
        limits = record { steps = m.steps; actions = omega arith; transitions = m.transitions; blocks = m.blocks; cases = m.cases };
        early = λ z. y;
        steps-fine = h.steps-fine;
        actions-fine = actions-more c.actions c.output v₁ h.output r x h.actions-fine;
        transitions-fine = transitions-none _ _ _ _ _ _ _ _ y.0;
        blocks-fine = blocks-none _ _ _ _ _ _ _ y.1;
        cases-fine = cases_none _ _ _ _ _ _ y.2;
        edition-fine = h.edition-fine;
        initial = h.initial;
        output = column-more 0 32 c.actions c.output v₁ h.output r;
        value = column-more (pos 0) 32 c.actions c.value v₂ h.value r;
        sources = h.sources;
        targets = h.targets;
        on = h.on;
        off = h.off;
        wait = h.wait;
        blockstep = h.blockstep;
        blockaction = h.blockaction;
        qualifier = h.qualifier;
        duration = h.duration;
        casestep = h.casestep;
        signal = h.signal;
        expected = h.expected;
      }

  pub kept-transition : (v₁ : ℕ) (v₂ : ℕ) (v₃ : ℕ) (v₄ : ℕ) (v₅ : ℕ) → before ≤ 3 → number_in c (Transition v₁ v₂ v₃ v₄ v₅) ≡ 0 → Kept (at + 4 + 36) 3 (with_transition c v₁ v₂ v₃ v₄ v₅)
  kept-transition v₁ v₂ v₃ v₄ v₅ b e =
      let r : c.transitions < 64 = room c (Transition v₁ v₂ v₃ v₄ v₅) e in
      let x : transition_code c.steps c.actions v₁ v₂ v₃ v₄ v₅ ≡ 0 = (limited-zero (ltb c.transitions 64) (transition_code c.steps c.actions v₁ v₂ v₃ v₄ v₅) e).1 in
      let m = h.limits in
      let s = h.size in
      record {
        size = omega arith;
        limits = record { steps = m.steps; actions = m.actions; transitions = omega arith; blocks = m.blocks; cases = m.cases };
        early = λ z. absurd (omega arith);
        steps-fine = h.steps-fine;
        actions-fine = h.actions-fine;
        transitions-fine = transitions-more c.transitions c.steps c.actions c.sources c.targets c.on c.off c.wait v₁ v₂ v₃ v₄ v₅ h.sources h.targets h.on h.off h.wait r x h.transitions-fine;
        blocks-fine = h.blocks-fine;
        cases-fine = h.cases-fine;
        edition-fine = h.edition-fine;
        initial = h.initial;
        output = h.output;
        value = h.value;
        sources = column-more 0 64 c.transitions c.sources v₁ h.sources r;
        targets = column-more 0 64 c.transitions c.targets v₂ h.targets r;
        on = column-more 0 64 c.transitions c.on v₃ h.on r;
        off = column-more 0 64 c.transitions c.off v₄ h.off r;
        wait = column-more 0 64 c.transitions c.wait v₅ h.wait r;
        blockstep = h.blockstep;
        blockaction = h.blockaction;
        qualifier = h.qualifier;
        duration = h.duration;
        casestep = h.casestep;
        signal = h.signal;
        expected = h.expected;
      }

  pub kept_block : (v₁ : ℕ) (v₂ : ℕ) (v₃ : ℕ) (v₄ : ℕ) → before ≤ 4 → number_in c (Block v₁ v₂ v₃ v₄) ≡ 0 → Kept (at + 4 + 7) 4 (with_block c v₁ v₂ v₃ v₄)
  kept_block v₁ v₂ v₃ v₄ b e =
      let r : c.blocks < 256 = room c (Block v₁ v₂ v₃ v₄) e in
      let x : unless (block_fits c.steps c.actions v₁ v₂ v₃ v₄) 5 ≡ 0 = (limited-zero (ltb c.blocks 256) (unless (block_fits c.steps c.actions v₁ v₂ v₃ v₄) 5) e).1 in
      let m = h.limits in
      let s = h.size in
      record {
        size = omega arith;
        limits = record { steps = m.steps; actions = m.actions; transitions = m.transitions; blocks = omega arith; cases = m.cases };
        early = λ z. absurd (omega arith);
        steps-fine = h.steps-fine;
        actions-fine = h.actions-fine;
        transitions-fine = h.transitions-fine;
        blocks-fine = blocks_more c.blocks c.steps c.actions c.blockstep c.blockaction c.qualifier c.duration v₁ v₂ v₃ v₄ h.blockstep h.blockaction h.qualifier h.duration r x h.blocks-fine;
        cases-fine = h.cases-fine;
        edition-fine = h.edition-fine;
        initial = h.initial;
        output = h.output;
        value = h.value;
        sources = h.sources;
        targets = h.targets;
        on = h.on;
        off = h.off;
        wait = h.wait;
        blockstep = column-more 0 256 c.blocks c.blockstep v₁ h.blockstep r;
        blockaction = column-more 0 256 c.blocks c.blockaction v₂ h.blockaction r;
        qualifier = column-more 0 256 c.blocks c.qualifier v₃ h.qualifier r;
        duration = column-more 0 256 c.blocks c.duration v₄ h.duration r;
        casestep = h.casestep;
        signal = h.signal;
        expected = h.expected;
      }

  pub kept_case : (v₁ : ℕ) (v₂ : ℕ) (v₃ : ℕ) → before ≤ 5 → number_in c (Case v₁ v₂ v₃) ≡ 0 → Kept (at + 4 + 3) 5 (with_case c v₁ v₂ v₃)
  kept_case v₁ v₂ v₃ b e =
      let r : c.cases < 64 = room c (Case v₁ v₂ v₃) e in
      let x : unless (case_fits c.steps c.actions v₁ v₂ v₃) 5 ≡ 0 = (limited-zero (ltb c.cases 64) (unless (case_fits c.steps c.actions v₁ v₂ v₃) 5) e).1 in
      let m = h.limits in
      let s = h.size in
      record {
        size = omega arith;
        limits = record { steps = m.steps; actions = m.actions; transitions = m.transitions; blocks = m.blocks; cases = omega arith };
        early = λ z. absurd (omega arith);
        steps-fine = h.steps-fine;
        actions-fine = h.actions-fine;
        transitions-fine = h.transitions-fine;
        blocks-fine = h.blocks-fine;
        cases-fine = cases-more c.cases c.steps c.actions c.casestep c.signal c.expected v₁ v₂ v₃ h.casestep h.signal h.expected r x h.cases-fine;
        edition-fine = h.edition-fine;
        initial = h.initial;
        output = h.output;
        value = h.value;
        sources = h.sources;
        targets = h.targets;
        on = h.on;
        off = h.off;
        wait = h.wait;
        blockstep = h.blockstep;
        blockaction = h.blockaction;
        qualifier = h.qualifier;
        duration = h.duration;
        casestep = column-more 0 64 c.cases c.casestep v₁ h.casestep r;
        signal = column-more 0 64 c.cases c.signal v₂ h.signal r;
        expected = column-more 0 64 c.cases c.expected v₃ h.expected r;
      }

  pub kept-edition : (v₁ : ℕ) → before ≤ 6 → number_in c (Edition v₁) ≡ 0 → Kept (at + 4 + 1) 6 (with_edition c v₁)
  kept-edition v₁ b e =
      let r : c.edition < 2 = room c (Edition v₁) e in
      let x = is-second v₁ (limited-zero (ltb c.edition 2) (unless (second v₁) 5) e).1 in
      let f = (one-or-two c.edition h.edition-fine).0 in
      let s = h.size in
      record {
        size = omega arith;
        limits = h.limits;
        early = λ z. absurd (omega arith);
        steps-fine = h.steps-fine;
        actions-fine = h.actions-fine;
        transitions-fine = h.transitions-fine;
        blocks-fine = h.blocks-fine;
        cases-fine = h.cases-fine;
        edition-fine = rw x refl;
        initial = h.initial;
        output = h.output;
        value = h.value;
        sources = h.sources;
        targets = h.targets;
        on = h.on;
        off = h.off;
        wait = h.wait;
        blockstep = h.blockstep;
        blockaction = h.blockaction;
        qualifier = h.qualifier;
        duration = h.duration;
        casestep = h.casestep;
        signal = h.signal;
        expected = h.expected;
      }
