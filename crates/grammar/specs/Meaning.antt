-- What a text says: a function of its tree. The sentences in quotation marks are of document 02, request (iv).
use Rattle.std.specs.Prelude.{List, [], ◌∷◌, ◌++◌, ℕ, ◌+◌, ◌-◌, ◌*◌, length}
use Rattle.sets.specs.Sets.{insert}
use Rattle.fields.specs.Fields.{N, R, S, L, D, P, SD, DS, SL, P1, P0}
use Rattle.forms.specs.Form.{Form, or, many, Tree, nothing, both, left, right, done, more, marks, text_of}
use Rattle.grammar.specs.Grammar.{◌·◌, ◌▹◌, ◌▸◌, ws, gap, perhaps, token, step_name, input, condition, list, steps, transition, duration, untimed, timed, qualifier, association, declaration, initial, step, text, NONE, ACTED}

-- what a text says, in its order: a step, initial (1) or not (0), with the number that names it and the place of that name; a block; a transition
pub data Said : Type 0 where
  a_step : ℕ → ℕ → ℕ → Said
  a_block : ℕ → ℕ → ℕ → ℕ → Said
  a_transition : ℕ → ℕ → ℕ → ℕ → Said

-- how many bytes a tree's text has
abbrev pub width : {f : Form} → Tree f → ℕ
width t = length (marks t)

-- the number that digits write, after n: "Durations may have any number of digits"
unfoldable pub decimal : ℕ → List ℕ → ℕ
decimal n [] = n
decimal n (b ∷ s) = decimal (n * 10 + (b - 48)) s

abbrev pub number_of : {f : Form} → Tree f → ℕ
number_of t = decimal 0 (text_of t)

-- a letter, and then the number
abbrev pub name_of : {f g : Form} → Tree (f · g) → ℕ
name_of (both letter n) = number_of n

-- "conditions that are TRUE or an AND of inputs, each plain or after NOT": the inputs that must be on, and those that must be off
pub record Inputs : Type 0 where
  pub on : ℕ
  pub off : ℕ

abbrev pub with_input : Inputs → Tree input → Inputs
with_input s (left n) = record { on = insert s.on (name_of n); off = s.off }
with_input s (right (both not (both w n))) = record { on = s.on; off = insert s.off (name_of n) }

unfoldable pub with_inputs : Inputs → Tree (many (gap · token NONE "AND" ▸ input)) → Inputs
with_inputs s done = s
with_inputs s (more (both v (both and (both w t))) l) = with_inputs (with_input s t) l

abbrev pub no_inputs : Inputs
no_inputs = record { on = 0; off = 0 }

abbrev pub inputs_of : Tree condition → Inputs
inputs_of (left true) = no_inputs
inputs_of (right (both t l)) = with_inputs (with_input no_inputs t) l

-- the steps of a list, as a set: "A name twice in one list .. is once in the set"
unfoldable pub with_names : {r : ℕ} → ℕ → Tree (many (token NONE "," ▹ step_name r · ws)) → ℕ
with_names s done = s
with_names s (more (both comma (both v (both n w))) l) = with_names (insert s (name_of n)) l

abbrev pub list_of : {r : ℕ} → Tree (list r) → ℕ
list_of (both bracket (both u (both n (both v (both comma (both w (both m (both x (both l close))))))))) =
    with_names (insert (insert 0 (name_of n)) (name_of m)) l

abbrev pub steps_of : {r : ℕ} {behind : Form} → Tree (steps r behind) → ℕ
steps_of (left (both v (both n w))) = insert 0 (name_of n)
steps_of (right (both v (both l w))) = list_of l

-- "TRANSITION FROM .. TO .. up to END_TRANSITION"
abbrev pub transition_says : Tree transition → Said
transition_says (both word (both u (both from (both s (both to (both t (both is (both v (both c end))))))))) =
    a_transition (steps_of s) (steps_of t) (inputs_of c).on (inputs_of c).off

unfoldable pub transitions_say : Tree (many (gap · transition)) → List Said
transitions_say done = []
transitions_say (more (both w t) l) = transition_says t ∷ transitions_say l

-- the qualifier's number, and the duration: "durations in whole milliseconds such as T#500ms"
pub record Qualified : Type 0 where
  pub qualifier : ℕ
  pub duration : ℕ

abbrev pub untimed_of : Tree untimed → ℕ
untimed_of (left t) = N
untimed_of (right (left t)) = R
untimed_of (right (right (left t))) = S
untimed_of (right (right (right (left t)))) = P
untimed_of (right (right (right (right (left t))))) = P1
untimed_of (right (right (right (right (right t))))) = P0

abbrev pub timed_of : Tree timed → ℕ
timed_of (left t) = L
timed_of (right (left t)) = D
timed_of (right (right (left t))) = SD
timed_of (right (right (right (left t)))) = DS
timed_of (right (right (right (right t)))) = SL

abbrev pub duration_of : Tree duration → ℕ
duration_of (both time (both n unit)) = number_of n

-- "a missing qualifier is N"
abbrev pub qualified_of : Tree (perhaps qualifier) → Qualified
qualified_of (left nothing) = record { qualifier = N; duration = 0 }
qualified_of (right (left t)) = record { qualifier = untimed_of t; duration = 0 }
qualified_of (right (right (both t (both v (both comma (both w d)))))) = record { qualifier = timed_of t; duration = duration_of d }

-- "ACTION associations inside steps": a block of the step k
abbrev pub association_says : ℕ → Tree association → Said
association_says k (both a (both v (both bracket (both w (both q close))))) = a_block k (name_of a) (qualified_of q).qualifier (qualified_of q).duration

unfoldable pub associations_say : ℕ → Tree (many (association ▹ token ACTED ";" · ws)) → List Said
associations_say k done = []
associations_say k (more (both a w) l) = association_says k a ∷ associations_say k l

-- "INITIAL_STEP and STEP up to END_STEP": what comes behind the word and its white space, at the place i
abbrev pub declaration_says : ℕ → ℕ → Tree declaration → List Said
declaration_says mark i (both n (both v (both colon (both w (both l end))))) = a_step mark (name_of n) i ∷ associations_say (name_of n) l

abbrev pub step_says : ℕ → Tree (or initial step) → List Said
step_says i (left (both word (both w d))) = declaration_says 1 (i + width word + width w) d
step_says i (right (both word (both w d))) = declaration_says 0 (i + width word + width w) d

unfoldable pub steps_say : ℕ → Tree (many (gap · or initial step)) → List Said
steps_say i done = []
steps_say i (more (both w t) l) = step_says (i + width w) t ++ steps_say (i + width w + width t) l

-- all that a text says
unfoldable pub text_says : Tree text → List Said
unfolding text
text_says (both v (both t (both l (both m w)))) = step_says (width v) (left t) ++ (steps_say (width v + width t) l ++ transitions_say m)
