-- The definitions compute on examples.
use mathlib.Core.List.{◌++◌}
use mathlib.Core.Path.{◌≡◌, refl}
use Rattle.lines.specs.Lines.{text, hex, decimal_from, decimal, chart_line}

-- "0 to 9, then a to f"; no zero in front of a decimal number
digits : hex 16 81985529216486895 ++ decimal 0 ++ decimal 10 ++ decimal 18446744073709551615 ≡ text "0123456789abcdef01018446744073709551615"
unfolding hex decimal_from
digits = refl

refused-chart : chart_line 10 ≡ text "refused chart 10\n"
unfolding chart_line decimal_from
refused-chart = refl
