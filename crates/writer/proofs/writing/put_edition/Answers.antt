-- One record for the second edition, none for the first.
use mathlib.Core.Path.{◌≡◌, sym, ◌∙◌}
use native.Mathlib.Omega.{arith}
use borrow.Author.Tests.{eqb-true, eqb-false}
use Rattle.sets.proofs.Bytes.{put-none}
use Rattle.reader.proofs.reading.Kept.{one-or-two}
use Rattle.writer.specs.Writing.{joined}
use Rattle.writer.proofs.writing.put_edition.Goals.{Else-is_second, Then-is_second}
use Rattle.writer.proofs.writing.put_edition.Goals as goal

second : (c : Then-is_second) → c.args.chart.now.edition ≡ 2
second c = eqb-true _ 2 (sym c.is_second.ensures ∙ c.if-is_second.true)

first : (c : Else-is_second) → c.args.chart.now.edition ≡ 1
first c =
    let k = c.args.chart.now in
    let z = eqb-false k.edition 2 (sym c.is_second.ensures ∙ c.if-is_second.false) in
    let m = one-or-two k.edition c.requires.0 in
    omega arith

pub put_edition-requires : goal.put_edition-requires
put_edition-requires c = rw (second (goal.at.put_edition-requires c).Then-is_second) at c.requires.1

pub returns-then-is_second : goal.returns-then-is_second
unfolding joined
returns-then-is_second c = rw (second (goal.at.returns-then-is_second c).Then-is_second) c.put_edition.ensures

pub returns : goal.returns
unfolding joined
returns c = rw (first (goal.at.returns c).Else-is_second) (put-none _ _)
