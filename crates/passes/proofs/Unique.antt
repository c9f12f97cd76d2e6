-- Two answers that one statement allows are equal, for each public function.
use Rattle.std.proofs.Common.{◌≡◌, ℕ, List, ℤ}
use Rattle.sets.proofs.Unique.{one_answer}
use Rattle.choice.specs.Choice.{chosen_under, chosen_from, reasons_of}
use Rattle.choice.specs.declared.Choice.{Choice}
use Rattle.acting.specs.Acting.{asked}
use Rattle.acting.specs.declared.Asked.{Asked}
use Rattle.acting.specs.declared.Steps.{Steps}
use Rattle.chart.specs.declared.chart.Chart.{Chart}
use Rattle.run.specs.declared.run.Run.{Run}
use Rattle.passes.specs.Time.{elapsed, step_time, grown_counts}
use Rattle.passes.specs.Choosing.{steps_of}
use Rattle.passes.specs.Moving.{marks_of, signals_of}
use Rattle.passes.specs.Outputs.{written}
use Rattle.passes.specs.declared.moving.Marks.{Marks}

pub elapsed-unique : (last new r q : ℕ) → r ≡ elapsed last new → q ≡ elapsed last new → r ≡ q
elapsed-unique last new r q = one_answer

pub step-time-unique : (hold e r q : ℕ) → r ≡ step_time hold e → q ≡ step_time hold e → r ≡ q
step-time-unique hold e r q = one_answer

pub choose-unique : (hold edition n : ℕ) (sources targets on off wait counts : List ℕ) (active signals : ℕ) (r q : Choice)
    → r ≡ chosen_under hold edition n sources targets on off wait counts active signals → q ≡ chosen_under hold edition n sources targets on off wait counts active signals → r ≡ q
choose-unique hold edition n sources targets on off wait counts active signals r q = one_answer

pub choose-from-unique : (edition consulted : ℕ) (sources targets on off wait counts : List ℕ) (active signals : ℕ) (r q : Choice)
    → r ≡ chosen_from edition consulted sources targets on off wait counts active signals → q ≡ chosen_from edition consulted sources targets on off wait counts active signals → r ≡ q
choose-from-unique edition consulted sources targets on off wait counts active signals r q = one_answer

pub steps-of-unique : (active : ℕ) (choice : Choice) (r q : Steps) → r ≡ steps_of active choice → q ≡ steps_of active choice → r ≡ q
steps-of-unique active choice r q = one_answer

pub signals-of-unique : (inputs activity r q : ℕ) → r ≡ signals_of inputs activity → q ≡ signals_of inputs activity → r ≡ q
signals-of-unique inputs activity r q = one_answer

pub marks-of-unique : (n : ℕ) (step signal expected : List ℕ) (left signals : ℕ) (r q : Marks)
    → r ≡ marks_of n step signal expected left signals → q ≡ marks_of n step signal expected left signals → r ≡ q
marks-of-unique n step signal expected left signals r q = one_answer

pub ask-blocks-unique : (n : ℕ) (step action qualifier duration counts times : List ℕ) (steps : Steps) (r q : Asked)
    → r ≡ asked n step action qualifier duration counts times steps → q ≡ asked n step action qualifier duration counts times steps → r ≡ q
ask-blocks-unique n step action qualifier duration counts times steps r q = one_answer

-- what is lent, since nothing is returned
pub write-outputs-unique : (n : ℕ) (output : List ℕ) (value : List ℤ) (activity : ℕ) (out f g : List ℤ)
    → f ≡ written n output value activity out → g ≡ written n output value activity out → f ≡ g
write-outputs-unique n output value activity out f g = one_answer

pub explain-unique : (c : Chart) (r : Run) (clock inputs : ℕ) (f g : List ℕ)
    → f ≡ reasons_of r.hold c.edition c.transitions c.sources c.targets c.on c.off c.wait (grown_counts r.counters r.active (step_time r.hold (elapsed r.clock clock))) r.active (signals_of inputs r.activity)
    → g ≡ reasons_of r.hold c.edition c.transitions c.sources c.targets c.on c.off c.wait (grown_counts r.counters r.active (step_time r.hold (elapsed r.clock clock))) r.active (signals_of inputs r.activity) → f ≡ g
explain-unique c r clock inputs f g = one_answer
