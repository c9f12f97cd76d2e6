-- What is proved of specs/Fair.antt.
use Rattle.std.specs.Prelude.{ℕ, ◌+◌, ◌≤◌, Bool, ◌≡◌, refl, leb}
use Rattle.std.proofs.Common.{arith}
use Rattle.sets.specs.Sets.{has}
use Rattle.sets.proofs.Loops.{else-zero}
use Rattle.sets.proofs.Members.{has-zero}
use Rattle.fields.specs.Fields.{unless}
use Rattle.chart.specs.Held.{chart_code}
use Rattle.chart.specs.declared.chart.Chart.{Chart}
use Rattle.chart.proofs.held.Sound.{sound}
use Rattle.choice.specs.Choice.{none_taken}
use Rattle.run.specs.declared.run.Run.{Run}
use Rattle.passes.specs.Moving.{signals_of}
use Rattle.cycle.specs.Cycling.{refused, start_of, counts_at, choice_of, cycled}
use Rattle.cycle.proofs.cycling.Laws.{cycle-passed}
use Rattle.key.specs.Turning.{mark_of, marked, turned_as}
use Rattle.claims.specs.AtLeast.{AtLeast}
use Rattle.claims.specs.Moves.{among, Chosen}
use Rattle.claims.proofs.Moves.{none_is, choice-is, moved}
use Rattle.claims.specs.Runs.{Call, keyed, answer, begun, one}
use Rattle.claims.proofs.Runs.{each-answer, each_start}
use Rattle.claims.specs.Fair.{Fair, Begins}

-- a refusal: "a refused cycle [returns] the run it was given .. with no transition taken"
fair-refused : (c : Chart) (r : Run) (code : ℕ) → (code ≡ 0 → ⊥) → Fair c r (refused code r)
fair-refused c r code z = record { accepted = λ e. absurd (z e); back = λ e. refl; existing = λ t l. has-zero t }

-- an accepted cycle moves as its chosen transitions say
fair-cycled : (c : Chart) (r : Run) (clock inputs : ℕ) → c.transitions ≤ 64 → Fair c r (cycled c r clock inputs)
fair-cycled c r clock inputs h =
    let counts = counts_at r clock in
    let signals = signals_of inputs r.activity in
    let i = choice-is c r counts signals h in
    record {
      accepted = λ e. moved c.edition c.sources c.targets r.active c.transitions (choice_of c r counts signals) i;
      back = λ z. absurd (z refl);
      existing = i.new;
    }

-- the key, accepted, leaves the active steps as they are and takes nothing
fair-keyed : (held : Bool) (c : Chart) (r : Run) → Fair c r (keyed (turned_as 0 (marked (mark_of held) r)))
fair-keyed held c r = record {
  accepted = λ z k l. stays k (among c.targets c.transitions 0 k) (among c.sources c.transitions 0 k) (i.enters k l) (i.leaves k l);
  back = λ z. absurd (z refl);
  existing = i.new;
}
  where
    i : Chosen c.edition c.sources c.targets r.active c.transitions none_taken
    i = none_is c.edition c.transitions c.sources c.targets r.active

    -- what no transition has as a target is at least what none leaves
    stays : (k x y : ℕ) → AtLeast c.edition x (one (has 0 k)) → y ≡ one (has 0 k) → AtLeast c.edition (x + one (has r.active k)) (y + one (has r.active k))
    stays k x y h e = record { least = omega (arith, h.least, e); equal = λ q. omega (arith, h.equal q, e) }

-- every answer is so, whatever the chart, the run and the call
pub fair : (c : Chart) (r : Run) (x : Call) → Fair c r (answer c r x)
fair c r =
    each-answer (λ x o. Fair c r o) c r
    (λ x e. fair-cycled c r x.clock x.inputs (sound c (cycle-passed c r x.clock x.lent e).chart).limits.transitions)
    (λ held. fair-keyed held c r) (λ x code z. fair-refused c r code z)

pub begins : (c : Chart) (clock lent : ℕ) → (start_of c clock lent).code ≡ 0 → Begins c (begun c clock lent)
begins c clock lent =
    each_start (λ o. o.code ≡ 0 → Begins c o.run) c clock lent
    (λ e h. record { few = (sound c (else-zero (unless (leb 32 lent) 15) (chart_code c) e).1).limits.steps; initial = refl }) (λ code z h. absurd (z h))
