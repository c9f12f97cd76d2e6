-- The definitions compute on examples.
use mathlib.Core.List.{[], ◌∷◌}
use mathlib.Core.Path.{◌≡◌, refl}
use Rattle.sets.specs.Loops.{first_code, table_from}
use Rattle.adding.specs.Adding.{sums, unfit, added_as, added_after, sum_after}

-- 65,535 fits
up-to-the-last : sum_after 0 3 (1 ∷ 65535 ∷ 65534 ∷ []) (2 ∷ 0 ∷ 1 ∷ []) (7 ∷ 7 ∷ 7 ∷ []) ≡ 3 ∷ 65535 ∷ 65535 ∷ []
unfolding sums unfit first_code table_from
up-to-the-last = refl

-- 65,536 does not: the first such step is named, and nothing is written
first_above : added_after 0 3 (1 ∷ 65535 ∷ 65535 ∷ []) (2 ∷ 1 ∷ 1 ∷ []) 3 ≡ added_as 21 1
unfolding unfit first_code
first_above = refl

not_written : sum_after 0 3 (1 ∷ 65535 ∷ 65535 ∷ []) (2 ∷ 1 ∷ 1 ∷ []) (7 ∷ 8 ∷ 9 ∷ []) ≡ 7 ∷ 8 ∷ 9 ∷ []
unfolding unfit first_code
not_written = refl

-- a list too long, and one whose sum would not fit either: 13
too-long : added_after 0 2 (65535 ∷ 65535 ∷ []) (1 ∷ 1 ∷ 1 ∷ []) 2 ≡ added_as 13 0
too-long = refl

-- the chart's number comes first
bad-chart : added_after 9 2 (65535 ∷ []) (1 ∷ []) 1 ≡ added_as 9 0
bad-chart = refl
