-- Nothing, or the digits before the last and then the last.
use Rattle.std.proofs.Common.{◌-◌, ◌/◌, ◌%◌}
use native.Mathlib.Omega.{arith}
use Rattle.lines.specs.Lines.{digit, hex}
use Rattle.sets.proofs.Bytes.{put-none, put_last}
use Rattle.lines.proofs.Laws.{hex-length, hex-last}
use Rattle.lines.proofs.+write_hex.Goals as goal

pub returns-then-k-eq0 : goal.returns-then-k-eq0
unfolding hex
returns-then-k-eq0 t c = rw c.if-k-eq0.true (put-none c.args.line.now c.args.at)

pub bounds-line-last : goal.bounds-line-last
bounds-line-last t c = omega (arith, hex-length (c.args.k - 1) (c.args.n / 16))

pub returns : goal.returns
returns t c =
    let a = c.args in
    let long = hex-length (a.k - 1) (a.n / 16) in
    rw (hex-last a.k a.n (omega arith), c.digit.ensures)
    (put_last a.line.now a.at (hex (a.k - 1) (a.n / 16)) (digit (a.n % 16)) c.write_hex-last.ensures (omega arith))
