-- The definitions compute on examples.
use Prim.Native.Nat.{ℕ}
use mathlib.Core.List.{List, [], ◌∷◌}
use mathlib.Core.Path.{◌≡◌, refl}
use Rattle.sets.specs.Loops.{turns, first_code}
use Rattle.weights.specs.Words.{leading, value, word_says, says_of}
use Rattle.weights.specs.Listing.{fault_in, weights_in}
use Rattle.weights.specs.Answer.{Nothing, Weight, Faulty}

-- "3 # idle\n\n 2\r\n#\n1": a comment, an empty line, blanks on both sides, a comment alone, and no line end at the end
unfoldable text : List ℕ
text = 51 ∷ 32 ∷ 35 ∷ 32 ∷ 105 ∷ 100 ∷ 108 ∷ 101 ∷ 10 ∷ 10 ∷ 32 ∷ 50 ∷ 13 ∷ 10 ∷ 35 ∷ 10 ∷ 49 ∷ []

three-weights : weights_in text ≡ 3 ∷ 2 ∷ 1 ∷ []
unfolding text weights_in turns leading value word_says says_of
three-weights = refl

no-fault : fault_in text ≡ 0
unfolding text fault_in first_code turns leading value word_says says_of
no-fault = refl

-- "1\n2 3\nx\n": of two faulty lines the first is named, and 1 is the only weight
two-in-a-line : (fault_in (49 ∷ 10 ∷ 50 ∷ 32 ∷ 51 ∷ 10 ∷ 120 ∷ 10 ∷ []) ≡ 2) × (weights_in (49 ∷ 10 ∷ 50 ∷ 32 ∷ 51 ∷ 10 ∷ 120 ∷ 10 ∷ []) ≡ 1 ∷ [])
unfolding fault_in weights_in first_code turns leading value word_says says_of
two-in-a-line = (refl, refl)

-- 65,535 is the largest weight
largest : says_of (54 ∷ 53 ∷ 53 ∷ 51 ∷ 53 ∷ []) ≡ Weight 65535
unfolding leading value word_says says_of
largest = refl

too_large : says_of (54 ∷ 53 ∷ 53 ∷ 51 ∷ 54 ∷ []) ≡ Faulty
unfolding leading value word_says says_of
too_large = refl

-- "007" is 7
with-zeros : says_of (48 ∷ 48 ∷ 55 ∷ []) ≡ Weight 7
unfolding leading value word_says says_of
with-zeros = refl

-- "x"
no_digit : says_of (120 ∷ []) ≡ Faulty
unfolding leading value word_says says_of
no_digit = refl

-- "\t# 4"
only-a-comment : says_of (9 ∷ 35 ∷ 32 ∷ 52 ∷ []) ≡ Nothing
unfolding leading value word_says says_of
only-a-comment = refl
