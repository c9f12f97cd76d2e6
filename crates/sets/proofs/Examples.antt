-- The definitions compute on concrete words.
use mathlib.Core.Bool.{true, false}
use mathlib.Core.Path.{◌≡◌, refl}
use Rattle.sets.specs.Loops.{all, first_of, summed}
use Rattle.sets.specs.Sets.{has, collect, Within, Apart, Below, union, minus, insert, beyond, first, remove, size}

-- 9223372036854775809 is {0, 63}, 18446744073709551615 every number below 64
member : has 9223372036854775809 63 ≡ true
member = refl

within : Within 9223372036854775809 18446744073709551615 ≡ true
unfolding all
within = refl

apart : Apart 9223372036854775809 6 ≡ true
unfolding all
apart = refl

below : Below 9223372036854775809 63 ≡ false
unfolding all
below = refl

rest : minus 18446744073709551615 9223372036854775809 ≡ 9223372036854775806
unfolding collect
rest = refl

put : insert 5 1 ≡ 7
unfolding collect
put = refl

joined : union 5 9223372036854775808 ≡ 9223372036854775813
unfolding collect
joined = refl

from : beyond 62 ≡ 13835058055282163712
unfolding collect
from = refl

nothing : beyond 64 ≡ 0
unfolding collect
nothing = refl

three : size 9223372036854775813 ≡ 3
unfolding summed
three = refl

least : first 9223372036854775812 ≡ 2
unfolding first_of
least = refl

none : first 0 ≡ 64
unfolding first_of
none = refl

left : remove 9223372036854775812 2 ≡ 9223372036854775808
unfolding collect
left = refl
