use Rattle.std.proofs.Common.{◌≡◌}
use Rattle.grammar.specs.Answer.{with_actions}
use Rattle.text.proofs.closing.push_actions.Given as goal

abbrev pub invariant-loop-k : goal.invariant-loop-k
invariant-loop-k l = (l.chart.actions ≡ l.k) × (l.chart ≡ with_actions l.initial.chart l.k)
