-- Held, all alike; else by its callees' statements.
use Rattle.std.proofs.Common.{◌∙◌, eq-eqb, ne_eqb}
use Rattle.choice.proofs.Laws.{all_held, none-held}
use Rattle.passes.proofs.explaining.explain.Goals as goal

pub returns-then-run-eq1 : goal.returns-then-run-eq1
returns-then-run-eq1 c = c.hold_all.ensures ∙ all_held _ _ _ _ _ _ _ _ _ _ _ (eq-eqb _ 1 c.if-run-eq1.true)

pub returns : goal.returns
returns c =
    let free = ne_eqb _ 1 c.if-run-eq1.false in
    rw free
    (rw (c.signals_of-signals.ensures, c.grown-grown.ensures, c.elapsed-e.ensures) at c.explain.ensures ∙ none-held _ _ _ _ _ _ _ _ _ _ _ free)
