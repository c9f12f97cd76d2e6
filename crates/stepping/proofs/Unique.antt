-- Two answers that one statement allows are equal, for each public function.
use Rattle.std.proofs.Common.{ℕ, ◌≡◌, List, ℤ, Result, sym, ap, ◌∙◌}
use Rattle.sets.proofs.Unique.{one_answer}
use Rattle.chart.specs.declared.chart.Chart.{Chart}
use Rattle.acting.specs.declared.Acted.{Acted}
use Rattle.run.specs.declared.run.Run.{Run}
use Rattle.passes.specs.Outputs.{written}
use Rattle.cycle.specs.Calling.{calls_as, calls_by}
use Rattle.cycle.specs.declared.calling.Went.{Went}
use Rattle.cycle.specs.declared.calling.Stopped.{Stopped}
use Rattle.cycle.proofs.Unique.{calls-one}

-- the answer, and the lent outputs that go by it
pub settle-unique : (x : Acted) (n : ℕ) (output : List ℕ) (value : List ℤ) (r q : Acted) (out f g : List ℤ) → r ≡ x → q ≡ x
    → f ≡ written n output value r.activity out → g ≡ written n output value q.activity out → (r ≡ q) × (f ≡ g)
settle-unique x n output value r q out f g e h a b = (one_answer e h, a ∙ ap (λ (y : Acted). written n output value y.activity out) (one_answer e h) ∙ sym b)

-- where the run lies: the answer and all that is lent together
pub cycles-on-unique : (c : Chart) (index : List ℕ) (run : Run) (clocks inputs activities : List ℕ) (out : List ℤ) (r q : Result Went Stopped) (s t : Run) (acts words : List ℕ) (f g : List ℤ)
    → calls_as r s acts f ≡ calls_by c index run clocks inputs activities out → calls_as q t words g ≡ calls_by c index run clocks inputs activities out
    → (r ≡ q) × (s ≡ t) × (acts ≡ words) × (f ≡ g)
cycles-on-unique c index run clocks inputs activities out r q s t acts words f g e h = calls-one r q s t acts words f g (one_answer e h)
