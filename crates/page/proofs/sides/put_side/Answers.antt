-- The name, the steps, and their weight.
use Prim.Native.Nat.{◌+◌, ◌≤◌}
use mathlib.Core.List.{◌++◌}
use native.Mathlib.Omega.{arith}
use lib.ListN.{length}
use Rattle.sets.specs.Bytes.{Put}
use Rattle.sets.proofs.Bytes.{put_three}
use Rattle.lines.specs.Lines.{text, decimal}
use Rattle.lines.proofs.Laws.{puts}
use Rattle.page.specs.Sides.{steps_in, side}
use Rattle.page.proofs.sides.Laws.{steps-short}
use Rattle.page.proofs.sides.put_side.Goals.{After-put-first, After-put_steps-last}
use Rattle.page.proofs.sides.put_side.Goals as goal

-- the name is put
named : (c : After-put-first) → Put c.args.line.now c.args.at c.args.name.now c.put-first.new.line c.put-first.result
named c = puts (length c.args.name.now) c.args.line.now c.args.at c.args.name.now c.put-first.ensures (omega (arith, c.requires))

-- where the steps end
stepped : (c : After-put_steps-last) → Put c.args.line.now c.args.at c.args.name.now c.put-first.new.line c.put-first.result
    → c.put_steps-last.result ≤ c.args.at + (length c.args.name.now + 192)
stepped c n = omega (arith, c.put_steps-last.ensures.1, n.1, steps-short c.args.set)

pub returns : goal.returns
unfolding side
returns c =
    let n = named (goal.at.returns c).After-put-first in
    let h = stepped (goal.at.returns c).After-put_steps-last n in
    let weight = c.weight_in-weight.result in
    rw (← c.weight_in-weight.ensures)
    (put_three c.args.line.now c.args.at c.args.name.now (steps_in c.args.set) (text " weighing " ++ decimal weight) n c.put_steps-last.ensures
    (puts 30 c.put_steps-last.new.line c.put_steps-last.result (text " weighing " ++ decimal weight) c.put_named.ensures (omega (arith, h, c.put_steps-last.auto.line, c.put-first.auto.line, c.requires)))
    (omega (arith, h, c.requires)))
