-- Document 02, request (iv): "the subset's grammar, written into docs/ first". The productions of docs/GRAMMAR.md, in its order from the last to the
-- first, as a closed form.
use Rattle.std.specs.Prelude.{ℕ, ◌+◌}
use Prim.Native.Char.{code}
use Prim.Native.String.{String, [], ◌∷◌}
use Rattle.fields.specs.Fields.{N, R, S, L, D, P, SD, DS, SL, P1, P0}
use Rattle.forms.specs.Form.{Form, empty, one, then, or, many}

-- The roles of bytes: at which byte the reader has something to do. They change no text and no tree. A byte with none says nothing more than that the
-- text goes on.
abbrev pub NONE : ℕ
NONE = 0

abbrev pub FIRST : ℕ
FIRST = 1

abbrev pub DIGIT : ℕ
DIGIT = 2

abbrev pub SOURCE : ℕ
SOURCE = 3

abbrev pub TARGET : ℕ
TARGET = 4

abbrev pub INPUT : ℕ
INPUT = 5

abbrev pub NOT-INPUT : ℕ
NOT-INPUT = 6

abbrev pub INITIAL : ℕ
INITIAL = 7

abbrev pub STEP : ℕ
STEP = 8

abbrev pub OWN : ℕ
OWN = 9

abbrev pub ACTION : ℕ
ACTION = 10

abbrev pub TRANSITION : ℕ
TRANSITION = 11

abbrev pub NAMED : ℕ
NAMED = 12

abbrev pub ACTED : ℕ
ACTED = 13

abbrev pub PASSED : ℕ
PASSED = 14

-- of the letter that a qualifier of this number ends with
abbrev pub QUALIFIER : ℕ → ℕ
QUALIFIER q = 16 + q

-- White space: "any run of the bytes 9 to 13 and 32".
infixr 40 ◌·◌
infixr 40 ◌▹◌
infixr 40 ◌▸◌
infixr 30 ◌∣◌
abbrev pub ◌∣◌ : Form → Form → Form
f ∣ g = or f g

-- one behind the other
abbrev pub ◌·◌ : Form → Form → Form
f · g = then f g

abbrev pub blank : Form
blank = one 9 13 NONE ∣ one 32 32 NONE

-- where it may stand, and where it must
abbrev pub ws : Form
ws = many blank

abbrev pub gap : Form
gap = blank · ws

-- two tokens: white space may stand between them; it must, since both are words
abbrev pub ◌▹◌ : Form → Form → Form
f ▹ g = f · ws · g

abbrev pub ◌▸◌ : Form → Form → Form
f ▸ g = f · gap · g

abbrev pub perhaps : Form → Form
perhaps f = empty ∣ f

-- these letters, the first in the role r
abbrev pub token : ℕ → String → Form
token r [] = empty
token r (c ∷ []) = one (code c) (code c) r
token r (c ∷ (d ∷ s)) = one (code c) (code c) r · token NONE (d ∷ s)

-- Numbers and names: "0", or a digit from "1" to "9" and any number of digits.
abbrev pub first : ℕ → ℕ → Form
first a z = one (48 + a) (48 + z) FIRST

abbrev pub digit : ℕ → ℕ → Form
digit a z = one (48 + a) (48 + z) DIGIT

abbrev pub number : Form
number = first 0 0 ∣ first 1 9 · many (digit 0 9)

abbrev pub up_to_63 : Form
up_to_63 = first 0 0 ∣ first 1 5 · perhaps (digit 0 9) ∣ first 6 6 · perhaps (digit 0 3) ∣ first 7 9

abbrev pub up_to_31 : Form
up_to_31 = first 0 0 ∣ first 1 2 · perhaps (digit 0 9) ∣ first 3 3 · perhaps (digit 0 1) ∣ first 4 9

abbrev pub step_name : ℕ → Form
step_name r = token r "S" · up_to_63

abbrev pub action_name : Form
action_name = token NONE "A" · up_to_31

abbrev pub input_name : ℕ → Form
input_name r = token r "X" · up_to_31

-- condition = "TRUE" | input { "AND" input }
abbrev pub input : Form
input = input_name INPUT ∣ token NONE "NOT" ▸ input_name NOT-INPUT

abbrev pub condition : Form
condition = token NONE "TRUE" ∣ input · many (gap · token NONE "AND" ▸ input)

-- steps = step-name | "(" step-name "," step-name { "," step-name } ")": a word or a list in signs, so it has its white space on both sides with it;
-- behind is what stands behind a word
abbrev pub list : ℕ → Form
list r = token NONE "(" ▹ step_name r ▹ token NONE "," ▹ step_name r ▹ many (token NONE "," ▹ step_name r · ws) · token NONE ")"

abbrev pub steps : ℕ → Form → Form
steps r behind = gap · step_name r · behind ∣ ws · list r · ws

-- transition = "TRANSITION" "FROM" steps "TO" steps ":=" condition ";" "END_TRANSITION"
abbrev pub transition : Form
transition =
    token TRANSITION "TRANSITION" ▸ token NONE "FROM" · steps SOURCE gap · token NONE "TO" · steps TARGET ws
    · token NONE ":=" ▹ condition ▹ token NONE ";" ▹ token PASSED "END_TRANSITION"

-- duration = ( "T#" | "TIME#" ) number ( "m" | "M" ) ( "s" | "S" )
abbrev pub duration : Form
duration = (token NONE "T#" ∣ token NONE "TIME#") · number · (token NONE "m" ∣ token NONE "M") · (token NONE "s" ∣ token NONE "S")

-- a letter with which the qualifier may end
abbrev pub q : ℕ → String → Form
q n s = token (QUALIFIER n) s

-- "N" | "R" | "S" | "P" | "P1" | "P0"
abbrev pub untimed : Form
untimed = q N "N" ∣ q R "R" ∣ q S "S" ∣ q P "P" ∣ q P "P" · q P1 "1" ∣ q P "P" · q P0 "0"

-- "L" | "D" | "SD" | "DS" | "SL"
abbrev pub timed : Form
timed = q L "L" ∣ q D "D" ∣ q S "S" · q SD "D" ∣ q D "D" · q DS "S" ∣ q S "S" · q SL "L"

abbrev pub qualifier : Form
qualifier = untimed ∣ timed ▹ token NONE "," ▹ duration

-- association = action-name "(" [ qualifier ] ")"
abbrev pub association : Form
association = action_name ▹ token ACTION "(" ▹ perhaps qualifier ▹ token NONE ")"

-- initial = "INITIAL_STEP" step-name ":" { association ";" } "END_STEP", and step the same with "STEP"
abbrev pub declaration : Form
declaration = step_name OWN ▹ token NAMED ":" ▹ many (association ▹ token ACTED ";" · ws) · token NONE "END_STEP"

abbrev pub initial : Form
initial = token INITIAL "INITIAL_STEP" ▸ declaration

abbrev pub step : Form
step = token STEP "STEP" ▸ declaration

-- text = initial { initial | step } { transition }; the tokens on both sides of each gap are words
unfoldable pub text : Form
text = ws · initial · many (gap · (initial ∣ step)) · many (gap · transition) · ws
