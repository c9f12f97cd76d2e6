-- The lines of a text and the weights that they say.
use Rattle.std.specs.Prelude.{ℕ, ◌+◌, List, [], ◌∷◌, ◌++◌, length, drop}
use Rattle.sets.specs.Loops.{turns, first_code}
use Rattle.weights.specs.Words.{is_of, front, behind, says_of}
use Rattle.weights.specs.Answer.{Line, Said, Nothing, Weight, Faulty}

-- what is left of a text behind so many lines and their line ends
abbrev pub left_behind : ℕ → List ℕ → List ℕ
left_behind k text = turns (λ j rest. drop 1 (behind (is_of Line) rest)) text k

-- what line k says, from 0 on; a line behind the last is empty, and says nothing
abbrev pub says_at : List ℕ → ℕ → Said
says_at text k = says_of (front (is_of Line) (left_behind k text))

abbrev pub is_faulty : Said → ℕ → ℕ
is_faulty Nothing n = 0
is_faulty (Weight weight) n = 0
is_faulty Faulty n = n

abbrev pub weight_of : Said → List ℕ
weight_of Nothing = []
weight_of (Weight weight) = weight ∷ []
weight_of Faulty = []

-- "one a line": the number of the first faulty line, from 1 on, 0 if there is none. No text has more lines than bytes.
unfoldable pub fault_in : List ℕ → ℕ
fault_in text = first_code (λ k. is_faulty (says_at text k) (k + 1)) (length text)

-- the weights in their order
unfoldable pub weights_in : List ℕ → List ℕ
weights_in text = turns (λ k weights. weights ++ weight_of (says_at text k)) [] (length text)
