-- "The printed run": the bytes of each line. "Lower-case hex; each line ends in byte 10."
use Rattle.std.specs.Prelude.{ℕ, List, ◌++◌, get_or}
use Rattle.sets.specs.Loops.{table}
use Rattle.lines.specs.Lines.{text, digit, hex, decimal}

-- "Per accepted call it prints its number (decimal), active steps (16 hex digits), activity (8), taken (16), with single spaces."
unfoldable pub accepted_line : ℕ → ℕ → ℕ → ℕ → List ℕ
accepted_line number active activity taken =
    decimal number ++ (text " " ++ hex 16 active) ++ (text " " ++ hex 8 activity) ++ (text " " ++ hex 16 taken) ++ text "\n"

-- "A refused cycle prints its number, `refused` and the code"
unfoldable pub refused_line : ℕ → ℕ → List ℕ
refused_line number code = decimal number ++ (text " refused " ++ decimal code) ++ text "\n"

-- document 02, request (vi): "a second line with the reason of every transition in number order as one digit, counting 'a source not active' as
-- 1 and so on to 6"; of n transitions
unfoldable pub reasons_line : ℕ → List ℕ → List ℕ
reasons_line n reasons = table (λ t. digit (get_or reasons t 0)) n ++ text "\n"

-- "a bad trace record `refused trace 16`"
unfoldable pub trace_line : List ℕ
trace_line = text "refused trace 16\n"

-- "one line of `passed`, `failed` and `notrun`, each followed by its count in decimal, with single spaces"
unfoldable pub tally_line : ℕ → ℕ → ℕ → List ℕ
tally_line passed failed notrun =
    (text "passed " ++ decimal passed) ++ (text " failed " ++ decimal failed) ++ (text " notrun " ++ decimal notrun) ++ text "\n"
