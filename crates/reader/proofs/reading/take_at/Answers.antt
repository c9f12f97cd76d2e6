-- The kind picks the body; the last one is kind 6, since the others are taken.
use Rattle.std.proofs.Common.{◌≡◌, arith}
use Rattle.reader.specs.Bodies.{body_at}
use Rattle.reader.proofs.reading.take_at.Goals.{In_default}
use Rattle.reader.proofs.reading.take_at.Goals as goal

-- none of the other five
last : (c : In_default) → c.args.kind ≡ 6
last c = omega arith

pub step_at-requires : goal.step_at-requires
step_at-requires c = rw c.in-1.is at c.requires.2

pub action_at-requires : goal.action_at-requires
action_at-requires c = rw c.in-2.is at c.requires.2

pub transition_at-requires : goal.transition_at-requires
transition_at-requires c = rw c.in-3.is at c.requires.2

pub block_at-requires : goal.block_at-requires
block_at-requires c = rw c.in-4.is at c.requires.2

pub case_at-requires : goal.case_at-requires
case_at-requires c = rw c.in-5.is at c.requires.2

pub edition_at-requires : goal.edition_at-requires
edition_at-requires c = rw (last (goal.at.edition_at-requires c).In_default) at c.requires.2

pub returns-in-1 : goal.returns-in-1
unfolding body_at
returns-in-1 c = rw c.in-1.is (rw c.step_at.ensures at c.take.ensures)

pub returns-in-2 : goal.returns-in-2
unfolding body_at
returns-in-2 c = rw c.in-2.is (rw c.action_at.ensures at c.take-in-2.ensures)

pub returns-in-3 : goal.returns-in-3
unfolding body_at
returns-in-3 c = rw c.in-3.is (rw c.transition_at.ensures at c.take-in-3.ensures)

pub returns-in-4 : goal.returns-in-4
unfolding body_at
returns-in-4 c = rw c.in-4.is (rw c.block_at.ensures at c.take-in-4.ensures)

pub returns-in-5 : goal.returns-in-5
unfolding body_at
returns-in-5 c = rw c.in-5.is (rw c.case_at.ensures at c.take-in-5.ensures)

pub returns-in_default : goal.returns-in_default
unfolding body_at
returns-in_default c = rw (last (goal.at.returns-in_default c).In_default) (rw c.edition_at.ensures at c.take-in_default.ensures)
