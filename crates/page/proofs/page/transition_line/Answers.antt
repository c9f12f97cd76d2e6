-- The number, the two sides, and what they tell.
use borrow.Author.Tests.{eq-eqb, ne_eqb}
use mathlib.Core.Bool.{true, false}
use mathlib.Core.List.{◌++◌}
use mathlib.Core.Path.{sym, ◌∙◌}
use native.Mathlib.Omega.{arith}
use Rattle.lines.specs.Lines.{text, decimal}
use Rattle.lines.proofs.Laws.{named-short, Line, no_line, line_on}
use Rattle.tally.specs.Weighing.{weight_in}
use Rattle.page.specs.Sides.{side}
use Rattle.page.proofs.sides.Laws.{line-side}
use Rattle.page.proofs.page.Laws.{put_as, transition-is}
use Rattle.page.proofs.page.transition_line.Goals.{After-put_named-from, After-put_side-end, After-put_side-to}
use Rattle.page.proofs.page.transition_line.Goals as goal

-- the line so far: the number, and behind it each side
number : (c : After-put_named-from) → let a = c.args in Line a.line.now (text "transition " ++ decimal a.t) c.put_named-from.new.line c.put_named-from.result 31
number c = line_on (no_line c.args.line.now) 31 (text "transition " ++ decimal c.args.t) c.put_named-from.ensures (named-short (text "transition ") c.args.t) (omega arith)

from : (c : After-put_side-to) → let a = c.args in
    Line a.line.now (text "transition " ++ decimal a.t) c.put_named-from.new.line c.put_named-from.result 31
    → Line a.line.now ((text "transition " ++ decimal a.t) ++ side (text " from") a.sources a.weights.now) c.put_side-to.new.line c.put_side-to.result 258
from c n = line-side n (text " from") c.args.sources c.args.weights.now c.put_side-to.ensures (omega arith)

to : (c : After-put_side-end) → let a = c.args in
    Line a.line.now ((text "transition " ++ decimal a.t) ++ side (text " from") a.sources a.weights.now) c.put_side-to.new.line c.put_side-to.result 258
    → Line a.line.now ((text "transition " ++ decimal a.t) ++ side (text " from") a.sources a.weights.now ++ side (text " to") a.targets a.weights.now) c.put_side-end.new.line c.put_side-end.result 483
to c f = line-side f (text " to") c.args.targets c.args.weights.now c.put_side-end.ensures (omega arith)

pub put_side-to-requires : goal.put_side-to-requires
put_side-to-requires c = omega (arith, (number (goal.at.put_side-to-requires c).After-put_named-from).within, c.put_named-from.auto.line)

pub put_side-end-requires : goal.put_side-end-requires
put_side-end-requires c = omega (arith, (from (goal.at.put_side-end-requires c).After-put_side-to (number (goal.at.put_side-end-requires c).After-put_named-from)).within, c.put_side-to.auto.line, c.put_named-from.auto.line)

pub returns-then-weight_in : goal.returns-then-weight_in
returns-then-weight_in c =
    let a = c.args in
    let f = from (goal.at.returns-then-weight_in c).After-put_side-to (number (goal.at.returns-then-weight_in c).After-put_named-from) in
    let w = a.weights.now in
    let b = eq-eqb (weight_in w a.sources) (weight_in w a.targets) (sym c.weight_in.ensures ∙ c.if-weight_in.true ∙ c.weight_in-2.ensures) in
    let l = line_on (to (goal.at.returns-then-weight_in c).After-put_side-end f) 7 (text " equal\n") c.put.ensures (omega arith) (omega arith) in
    put_as a.line.now (transition-is a.t a.sources a.targets w true b) (l.put, omega (arith, l.within))

pub returns : goal.returns
returns c =
    let a = c.args in
    let f = from (goal.at.returns c).After-put_side-to (number (goal.at.returns c).After-put_named-from) in
    let w = a.weights.now in
    let b = ne_eqb (weight_in w a.sources) (weight_in w a.targets) (λ e. c.if-weight_in.false (c.weight_in.ensures ∙ e ∙ sym c.weight_in-2.ensures)) in
    let l = line_on (to (goal.at.returns c).After-put_side-end f) 9 (text " unequal\n") c.put-2.ensures (omega arith) (omega arith) in
    put_as a.line.now (transition-is a.t a.sources a.targets w false b) (l.put, omega (arith, l.within))
