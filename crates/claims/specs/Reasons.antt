-- Why a transition waits (document 02, request vi): what each reason means, for the page that a technician reads at a halted chart (README, "Why
-- does it wait?"); that a cycle's answer carries them; and that "taken" is given exactly where it was before.
use Rattle.std.specs.Prelude.{ℕ, ◌≤◌, ◌<◌, List, ◌⊎◌, ◌≡◌, get_or, eqb}
use Rattle.std.proofs.Math.Bool.{true, false}
use Rattle.sets.specs.Sets.{has}
use Rattle.chart.specs.declared.chart.Chart.{Chart}
use Rattle.choice.specs.Choice.{tested, chosen, held}
use Rattle.choice.specs.declared.Choice.{Choice}
use Rattle.run.specs.declared.run.Run.{Run}
use Rattle.passes.specs.Moving.{signals_of}
use Rattle.cycle.specs.Cycling.{counts_at}
use Rattle.passes.specs.Explaining.{no_reasons}
use Rattle.cycle.specs.Answer.{Cycled}
use Rattle.claims.specs.Runs.{Cycle}

-- P holds of every member of the set s
abbrev pub Every : ℕ → (ℕ → Type 0) → Type 0
Every s P = (k : ℕ) → k < 64 → has s k ≡ true → P k

-- P holds of a member of the set s
pub record Some (s : ℕ) (P : ℕ → Type 0) : Type 0 where
  pub member : ℕ
  pub few : member < 64
  pub within : has s member ≡ true
  pub holds : P member

-- what is looked at for a transition: the hold mark, its own fields, the counters, the active steps and the signals of the cycle's beginning, and the
-- steps that earlier transitions use and claim; of its targets those that are tested, none in the second edition (document 02, request viii)
pub record Looked : Type 0 where
  pub hold : ℕ
  pub sources : ℕ
  pub tested : ℕ
  pub on : ℕ
  pub off : ℕ
  pub wait : ℕ
  pub counts : List ℕ
  pub active : ℕ
  pub signals : ℕ
  pub used : ℕ
  pub claimed : ℕ

-- under hold, or not (document 02, request vii)
abbrev pub Held : Looked → Type 0
Held a = held a.hold ≡ true

abbrev pub Unheld : Looked → Type 0
Unheld a = held a.hold ≡ false

-- the six tests
abbrev pub Active : Looked → Type 0
Active a = Every a.sources (λ k. has a.active k ≡ true)

abbrev pub Unused : Looked → Type 0
Unused a = Every a.sources (λ k. has a.used k ≡ false)

abbrev pub Signalled : Looked → Type 0
Signalled a = Every a.on (λ k. has a.signals k ≡ true) × Every a.off (λ k. has a.signals k ≡ false)

abbrev pub Waited : Looked → Type 0
Waited a = Every a.sources (λ k. a.wait ≤ get_or a.counts k 0)

abbrev pub Vacant : Looked → Type 0
Vacant a = Every a.tested (λ k. has a.active k ≡ false)

abbrev pub Unclaimed : Looked → Type 0
Unclaimed a = Every a.tested (λ k. has a.claimed k ≡ false)

-- what holds under each reason: no hold, the tests before it, and a step or a signal at which its own fails; under 7, hold
pub record Meaning (a : Looked) (why : ℕ) : Type 0 where
  pub most : why ≤ 7
  pub taken : why ≡ 0 → Unheld a × Active a × Unused a × Signalled a × Waited a × Vacant a × Unclaimed a
  pub not-active : why ≡ 1 → Unheld a × Some a.sources (λ k. has a.active k ≡ false)
  pub used : why ≡ 2 → Unheld a × Active a × Some a.sources (λ k. has a.used k ≡ true)
  pub signal : why ≡ 3 → Unheld a × Active a × Unused a × (Some a.on (λ k. has a.signals k ≡ false) ⊎ Some a.off (λ k. has a.signals k ≡ true))
  pub wait : why ≡ 4 → Unheld a × Active a × Unused a × Signalled a × Some a.sources (λ k. get_or a.counts k 0 < a.wait)
  pub occupied : why ≡ 5 → Unheld a × Active a × Unused a × Signalled a × Waited a × Some a.tested (λ k. has a.active k ≡ true)
  pub claimed : why ≡ 6 → Unheld a × Active a × Unused a × Signalled a × Waited a × Vacant a × Some a.tested (λ k. has a.claimed k ≡ true)
  pub hold : why ≡ 7 → Held a

-- ---- one transition

abbrev pub looked_at : ℕ → Choice → ℕ → ℕ → ℕ → ℕ → ℕ → List ℕ → ℕ → ℕ → Looked
looked_at hold ch s t on off w counts active signals = record {
  hold = hold;
  sources = s;
  tested = t;
  on = on;
  off = off;
  wait = w;
  counts = counts;
  active = active;
  signals = signals;
  used = ch.left;
  claimed = ch.claimed;
}

-- the fields of transition t in the cycle x of a chart from the run r: its counters have grown, and those before it are chosen
abbrev pub looked_in : Chart → Run → Cycle → ℕ → Looked
looked_in c r x t =
    let counts = counts_at r x.clock in
    let signals = signals_of x.inputs r.activity in
    looked_at r.hold (chosen c.edition t c.sources c.targets c.on c.off c.wait counts r.active signals) (get_or c.sources t 0) (tested c.edition (get_or c.targets t 0)) (get_or c.on t 0) (get_or c.off t 0) (get_or c.wait t 0) counts r.active signals

-- an answer o to the cycle x that was given the run r: accepted, each transition's reason means what it says, and those are taken whose reason is 0;
-- "Reasons .. of a refused call and beyond the last transition are 0."; in the second edition no target is occupied, and none claimed
pub record Explained (c : Chart) (r : Run) (x : Cycle) (o : Cycled) : Type 0 where
  pub meaning : o.code ≡ 0 → (t : ℕ) → t < c.transitions → Meaning (looked_in c r x t) (get_or o.reasons t 0)
  pub taken : o.code ≡ 0 → (t : ℕ) → t < c.transitions → has o.taken t ≡ eqb (get_or o.reasons t 0) 0
  pub beyond : (t : ℕ) → c.transitions ≤ t → t < 64 → get_or o.reasons t 0 ≡ 0
  pub refused : (o.code ≡ 0 → ⊥) → o.reasons ≡ no_reasons
  pub second : c.edition ≡ 2 → (t : ℕ) → t < 64 → (get_or o.reasons t 0 ≡ 5 → ⊥) × (get_or o.reasons t 0 ≡ 6 → ⊥)
