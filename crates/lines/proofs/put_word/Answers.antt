-- Where there is room: a space, and the digits behind it.
use Rattle.std.proofs.Common.{rules, ◌+◌, ◌≤◌, ◌++◌, length, arith}
use Rattle.sets.proofs.Bytes.{put-put}
use Rattle.lines.specs.Lines.{text, hex}
use Rattle.lines.proofs.Laws.{put-there}
use Rattle.lines.proofs.put_word.Goals as goal

pub returns-then-has_room : goal.returns-then-has_room
returns-then-has_room c =
    let s = c.args in
    let h : s.at + (s.k + 1) ≤ length s.line.now = search rules in
    put-there (s.k + 1) s.line.now s.at (text " " ++ hex s.k s.n) h
    (put-put s.line.now s.at (text " ") (hex s.k s.n) c.write-digits.ensures c.write_hex.ensures (omega (arith, c.write-digits.ensures.1)))
