-- Where there is room: the name, the number behind it, and the line end.
use Rattle.std.proofs.Common.{rules, ◌+◌, ◌≤◌, length, arith}
use Rattle.sets.proofs.Bytes.{put_three}
use Rattle.lines.specs.Lines.{text, decimal, named_line}
use Rattle.lines.proofs.Laws.{decimal-short, put-there}
use Rattle.lines.proofs.put_line.Goals.{After-write_decimal-end}
use Rattle.lines.proofs.put_line.Goals as goal

-- where the number ends
ends : (c : After-write_decimal-end) → c.args.at + (length c.args.name.now + 21) ≤ length c.args.line.now → c.write_decimal-end.result + 1 ≤ length c.args.line.now
ends c h = omega (arith, decimal-short 20 c.args.n, c.write-digits.ensures.1, c.write_decimal-end.ensures.1)

pub write-requires : goal.write-requires
write-requires c = omega (arith, ends (goal.at.write-requires c).After-write_decimal-end (search rules), c.write-digits.auto.line, c.write_decimal-end.auto.line)

pub returns-then-has_room : goal.returns-then-has_room
returns-then-has_room c =
    let s = c.args in
    let h : s.at + (length s.name.now + 21) ≤ length s.line.now = search rules in
    put-there (length s.name.now + 21) s.line.now s.at (named_line s.name.now s.n) h
    (put_three s.line.now s.at s.name.now (decimal s.n) (text "\n") c.write-digits.ensures c.write_decimal-end.ensures
    c.write.ensures (omega (arith, ends (goal.at.returns-then-has_room c).After-write_decimal-end h)))
