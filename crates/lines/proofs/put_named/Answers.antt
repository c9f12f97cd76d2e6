-- Where there is room: the name, and the number behind it.
use Rattle.std.proofs.Common.{rules, ◌+◌, ◌≤◌, ◌++◌, length, arith}
use Rattle.sets.proofs.Bytes.{put-put}
use Rattle.lines.specs.Lines.{decimal}
use Rattle.lines.proofs.Laws.{put-there}
use Rattle.lines.proofs.put_named.Goals as goal

pub returns-then-has_room : goal.returns-then-has_room
returns-then-has_room c =
    let s = c.args in
    let h : s.at + (length s.name.now + 20) ≤ length s.line.now = search rules in
    put-there (length s.name.now + 20) s.line.now s.at (s.name.now ++ decimal s.n) h
    (put-put s.line.now s.at s.name.now (decimal s.n) c.write-digits.ensures c.write_decimal.ensures (omega (arith, c.write-digits.ensures.1)))
