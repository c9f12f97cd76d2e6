-- One digit, or the tenth and then the last digit.
use Rattle.std.proofs.Common.{◌/◌, ◌%◌}
use mathlib.Core.Path.{◌∙◌}
use native.Mathlib.Omega.{arith}
use Rattle.lines.specs.Lines.{digit, decimal}
use Rattle.sets.proofs.Bytes.{put_byte, put_last}
use Rattle.lines.proofs.Laws.{digit-small, decimal-one, decimal-last, tenth-short}
use Rattle.lines.proofs.+write_decimal.Goals as goal

pub returns-then-n-lt10 : goal.returns-then-n-lt10
returns-then-n-lt10 t c =
    let a = c.args in
    rw (decimal-one 19 a.n (omega arith), c.digit.ensures ∙ digit-small a.n (omega arith)) (put_byte a.line.now a.at (digit a.n) (omega arith))

pub bounds-line-last : goal.bounds-line-last
bounds-line-last t c = omega (arith, tenth-short c.args.n c.ranges.n.fits)

pub returns : goal.returns
returns t c =
    let a = c.args in
    let short = tenth-short a.n c.ranges.n.fits in
    rw (decimal-last a.n (omega arith) c.ranges.n.fits, c.digit-2.ensures ∙ digit-small (a.n % 10) (omega arith))
    (put_last a.line.now a.at (decimal (a.n / 10)) (digit (a.n % 10)) c.write_decimal-last.ensures (omega arith))
