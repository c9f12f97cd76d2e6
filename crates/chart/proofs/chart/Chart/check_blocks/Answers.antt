-- The two tests together are the test of each block.
use mathlib.Core.Path.{◌∙◌}
use Rattle.chart.proofs.held.Laws.{columns-code}
use Rattle.chart.proofs.chart.Chart.check_blocks.Goals as goal

pub returns : goal.returns
returns c =
    let k = c.args.self.now in
    c.unless.ensures ∙ rw (c.durations_fit.ensures, c.block_names_fit.ensures) (columns-code k.blocks k.steps k.actions k.blockstep k.blockaction k.qualifier k.duration)
