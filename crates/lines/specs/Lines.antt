-- What the programs print is made of: text, numbers, and a refused chart. "Lower-case hex; each line ends in byte 10."
use Rattle.std.specs.Prelude.{ℕ, zero, suc, ◌+◌, ◌/◌, ◌%◌, cond, List, [], ◌∷◌, ◌++◌, ◌≡◌, length, ltb, leb}
use Prim.Native.Char.{code}
use Prim.Native.String.{String, [] as nothing, ◌∷◌ as ◌then◌}
use Rattle.sets.specs.Bytes.{over}

-- the bytes of a text
abbrev pub text : String → List ℕ
text nothing = []
text (c then s) = code c ∷ text s

-- the byte of a digit: 0 to 9, then a to f
abbrev pub digit : ℕ → ℕ
digit d = cond (ltb d 10) (48 + d) (87 + d)

-- the last k hex digits of n
unfoldable pub hex : ℕ → ℕ → List ℕ
hex zero n = []
hex (suc k) n = hex k (n / 16) ++ (digit (n % 16) ∷ [])

-- a number below ten is its digit, and a larger one is its tenth and then its last digit; at most so many digits
unfoldable pub decimal_from : ℕ → ℕ → List ℕ
decimal_from zero n = []
decimal_from (suc more) n = cond (ltb n 10) (digit n ∷ []) (decimal_from more (n / 10) ++ (digit (n % 10) ∷ []))

-- twenty digits hold every 64-bit number
abbrev pub decimal : ℕ → List ℕ
decimal n = decimal_from 20 n

-- a line of a name and a number
abbrev pub named_line : List ℕ → ℕ → List ℕ
named_line name n = name ++ decimal n ++ text "\n"

-- "A bad chart prints `refused chart` and the code"
unfoldable pub chart_line : ℕ → List ℕ
chart_line code = named_line (text "refused chart ") code

-- what each function that puts t at a place of a buffer e leaves there, and the place that it answers: where there is room for so many bytes, t and the
-- place behind it; otherwise nothing is put, and the place stays
abbrev pub Puts : ℕ → List ℕ → ℕ → List ℕ → List ℕ → ℕ → Type 0
Puts room e at t now end =
    (now ≡ cond (leb (at + room) (length e)) (over e at t) e) × (end ≡ cond (leb (at + room) (length e)) (at + length t) at)
