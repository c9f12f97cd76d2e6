-- The words are 14 bytes, and so it is a line of a name and a number.
use Rattle.lines.specs.Lines.{chart_line}
use Rattle.lines.proofs.chart_line.Goals as goal

pub returns : goal.returns
unfolding chart_line
returns c = c.put_line.ensures
