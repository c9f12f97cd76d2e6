-- Issue 25: "weights in decimal on standard input (one a line, a comment after `#` allowed)". What a line says; docs/DECISIONS.md, "The page of a weighing".
use Rattle.std.specs.Prelude.{ℕ, zero, suc, ◌+◌, ◌-◌, ◌*◌, Bool, ◌&&◌, ◌||◌, not, cond, List, [], ◌∷◌, length, get_or, take, drop, eqb, leb}
use Rattle.weights.specs.Answer.{Class, Line, Text, Blank, Digit, Said, Nothing, Weight, Faulty}

-- a line goes up to byte 10, what it says up to a `#`; blanks are tab, return and space
abbrev pub is_of : Class → ℕ → Bool
is_of Line b = not (eqb b 10)
is_of Text b = not (eqb b 35)
is_of Blank b = eqb b 9 || eqb b 13 || eqb b 32
is_of Digit b = leb 48 b && leb b 57

-- how many bytes at the front are so
unfoldable pub leading : (ℕ → Bool) → List ℕ → ℕ
leading p [] = 0
leading p (b ∷ s) = cond (p b) (suc (leading p s)) 0

-- they themselves, and what stands behind them
abbrev pub front : (ℕ → Bool) → List ℕ → List ℕ
front p s = take (leading p s) s

abbrev pub behind : (ℕ → Bool) → List ℕ → List ℕ
behind p s = drop (leading p s) s

-- the number of the first n digits
unfoldable pub value : ℕ → List ℕ → ℕ
value zero s = 0
value (suc n) s = 10 * value n s + (get_or s n 0 - 48)

-- digits with nothing but blanks behind them, and a number that 16 bits hold
abbrev pub is_weight : List ℕ → Bool
is_weight word =
    not (eqb (leading (is_of Digit) word) 0) && eqb (leading (is_of Blank) (behind (is_of Digit) word)) (length (behind (is_of Digit) word))
    && leb (value (leading (is_of Digit) word) word) 65535

unfoldable pub word_says : List ℕ → Said
word_says word =
    cond (eqb (length word) 0) Nothing
    (cond (is_weight word) (Weight (value (leading (is_of Digit) word) word)) Faulty)

-- without its comment and the blanks before it
unfoldable pub says_of : List ℕ → Said
says_of line = word_says (behind (is_of Blank) (front (is_of Text) line))
