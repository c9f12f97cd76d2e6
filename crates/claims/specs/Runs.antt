-- A run of calls: an accepted start of any chart, then any calls, each given the run that the one before returned.
use Rattle.std.specs.Prelude.{ℕ, zero, suc, ◌+◌, Bool, true, false, cond, List, [], ◌∷◌, ◌++◌, get_or, eqb}
use Rattle.sets.specs.Sets.{has}
use Rattle.chart.specs.declared.chart.Chart.{Chart}
use Rattle.run.specs.declared.run.Run.{Run}
use Rattle.passes.specs.Explaining.{no_reasons}
use Rattle.cycle.specs.Cycling.{start_of, cycle_of}
use Rattle.cycle.specs.Answer.{Cycled}
use Rattle.key.specs.Turning.{turn_of}
use Rattle.key.specs.Answer.{Turned}

-- one cycle: the clock, the inputs, and how many outputs are lent
pub record Cycle : Type 0 where
  pub clock : ℕ
  pub inputs : ℕ
  pub lent : ℕ

-- a call: a cycle, or the key turned, to hold or back (document 02, request vii: "Demand 3 holds with such calls between cycles")
pub data Call : Type 0 where
  cycle : Cycle → Call
  turn : Bool → Call

abbrev pub hold : Call
hold = turn true

abbrev pub release : Call
release = turn false

-- the key's answer as that of a call that takes no transition
abbrev pub keyed : Turned → Cycled
keyed o = record { code = o.code; taken = 0; reasons = no_reasons; run = o.run }

-- what is answered to a call that is given the run r
abbrev pub answer : Chart → Run → Call → Cycled
answer c r (cycle x) = cycle_of c r x.clock x.inputs x.lent
answer c r (turn held) = keyed (turn_of held c r)

-- the inputs of a call; the key has none
abbrev pub inputs_of : Call → ℕ
inputs_of (cycle x) = x.inputs
inputs_of (turn held) = 0

-- the run after the calls xs
unfoldable pub after : Chart → Run → List Call → Run
after c r [] = r
after c r (x ∷ xs) = after c (answer c r x).run xs

-- the members below n of the set s, in order
unfoldable pub listed : ℕ → ℕ → List ℕ
listed s zero = []
listed s (suc n) = listed s n ++ cond (has s n) (n ∷ []) []

-- the history of the calls xs: the transitions that their answers carry, call after call; a refused call adds nothing
unfoldable pub history : Chart → Run → List Call → List ℕ
history c r [] = []
history c r (x ∷ xs) =
    cond (eqb (answer c r x).code 0) (listed (answer c r x).taken c.transitions) [] ++ history c (answer c r x).run xs

-- one if b, else none
abbrev pub one : Bool → ℕ
one b = cond b 1 0

-- how many numbers of a list have p
unfoldable pub how_many : (ℕ → Bool) → List ℕ → ℕ
how_many p [] = 0
how_many p (t ∷ h) = one (p t) + how_many p h

-- how often, in a history, step k was entered and was left: by transitions that have it as a target, and as a source
abbrev pub arrivals : Chart → ℕ → List ℕ → ℕ
arrivals c k h = how_many (λ t. has (get_or c.targets t 0) k) h

abbrev pub departures : Chart → ℕ → List ℕ → ℕ
departures c k h = how_many (λ t. has (get_or c.sources t 0) k) h

-- the run that a start returns
abbrev pub begun : Chart → ℕ → ℕ → Run
begun c clock lent = (start_of c clock lent).run
