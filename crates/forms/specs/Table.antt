-- A reader by a table, and the test that it reads a form. Nothing of this has to be believed: what a table that passes the test reads is proved
-- against Form alone (proofs/Reading.antt). A state is the forms of what may come, of which one will, and rows: a byte in this range has this role, and
-- leads to that state.
use Rattle.std.specs.Prelude.{Bool, true, false, cond, ◌&&◌, ◌||◌, List, [], ◌∷◌, ◌++◌, ℕ, zero, suc, ◌-◌, eqb, leb, get_or}
use Rattle.forms.specs.Form.{Mark, Form, empty, one, then, or, many}

pub record Row : Type 0 where
  pub from : ℕ
  pub to : ℕ
  pub role : ℕ
  pub next : ℕ

pub record State : Type 0 where
  pub forms : List Form
  pub rows : List Row

abbrev pub Table : Type 0
Table = List State

-- beyond the last state nothing may come
abbrev pub stuck : State
stuck = record { forms = []; rows = [] }

abbrev pub at : Table → ℕ → State
at t q = get_or t q stuck

pub data Move : Type 0 where
  halt : Move
  go : ℕ → ℕ → Move

-- whether a byte is from a to z
abbrev pub is_from : ℕ → ℕ → ℕ → Bool
is_from a z b = leb a b && leb b z

-- by the first row with the byte in its range: its role, and the next state
unfoldable pub move : List Row → ℕ → Move
move [] b = halt
move (r ∷ l) b = cond (is_from r.from r.to b) (go r.role r.next) (move l b)

-- How a form begins: its heads, each the range and role of a first byte with the form of what comes after.

pub record Head : Type 0 where
  pub from : ℕ
  pub to : ℕ
  pub role : ℕ
  pub rest : Form

-- whether the form has the empty text
unfoldable pub ends : Form → Bool
ends empty = true
ends (one a z r) = false
ends (then f g) = ends f && ends g
ends (or f g) = ends f || ends g
ends (many f) = true

-- f and then g, bracketed to the right, with no empty in front
unfoldable pub seq : Form → Form → Form
seq empty g = g
seq (one a z r) g = then (one a z r) g
seq (then f h) g = then f (seq h g)
seq (or f h) g = then (or f h) g
seq (many f) g = then (many f) g

unfoldable pub follow : Form → List Head → List Head
follow g [] = []
follow g (h ∷ l) = record { from = h.from; to = h.to; role = h.role; rest = seq h.rest g } ∷ follow g l

unfoldable pub heads : Form → List Head
heads empty = []
heads (one a z r) = record { from = a; to = z; role = r; rest = empty } ∷ []
heads (then f g) = follow g (heads f) ++ cond (ends f) (heads g) []
heads (or f g) = heads f ++ heads g
heads (many f) = follow (many f) (heads f)

unfoldable pub heads_of : List Form → List Head
heads_of [] = []
heads_of (f ∷ l) = heads f ++ heads_of l

-- The reader: the marked text, or how many bytes were read before the one that it stopped at.

unfoldable pub each : {A : Type 0} → (A → Bool) → List A → Bool
each p [] = true
each p (x ∷ l) = p x && each p l

unfoldable pub any : {A : Type 0} → (A → Bool) → List A → Bool
any p [] = false
any p (x ∷ l) = p x || any p l

pub data Outcome : Type 0 where
  read : List Mark → Outcome
  stopped : ℕ → Outcome

unfoldable pub push : Mark → Outcome → Outcome
push m (read w) = read (m ∷ w)
push m (stopped k) = stopped (suc k)

unfoldable pub turn : ℕ → Move → (ℕ → Outcome) → Outcome
turn b halt k = stopped 0
turn b (go r q) k = push (record { byte = b; role = r }) (k q)

unfoldable pub final : List Form → Bool
final l = any ends l

unfoldable pub run : Table → List ℕ → ℕ → Outcome
run t [] q = cond (final (at t q).forms) (read []) (stopped 0)
run t (b ∷ s) q = turn b (move (at t q).rows b) (λ n. run t s n)

-- The test: of each state, that each head of its forms is a move to a state that has the rest, and that each form of a state that a move leads to is
-- the rest of such a head.

unfoldable pub same : Form → Form → Bool
same empty empty = true
same empty (one a' b' c') = false
same empty (then f' g') = false
same empty (or f' g') = false
same empty (many f') = false
same (one a b c) empty = false
same (one a b c) (one a' b' c') = eqb a a' && (eqb b b' && eqb c c')
same (one a b c) (then f' g') = false
same (one a b c) (or f' g') = false
same (one a b c) (many f') = false
same (then f g) empty = false
same (then f g) (one a' b' c') = false
same (then f g) (then f' g') = same f f' && same g g'
same (then f g) (or f' g') = false
same (then f g) (many f') = false
same (or f g) empty = false
same (or f g) (one a' b' c') = false
same (or f g) (then f' g') = false
same (or f g) (or f' g') = same f f' && same g g'
same (or f g) (many f') = false
same (many f) empty = false
same (many f) (one a' b' c') = false
same (many f) (then f' g') = false
same (many f) (or f' g') = false
same (many f) (many f') = same f f'

-- no range in the form is empty, so that it has a sentence
unfoldable pub live : Form → Bool
live empty = true
live (one a z r) = leb a z
live (then f g) = live f && live g
live (or f g) = live f && live g
live (many f) = true

unfoldable pub kept : List Form → Bool
kept [] = false
kept (f ∷ l) = live f

-- the n numbers from a on, and those from a up to z
unfoldable pub span : (ℕ → Bool) → ℕ → ℕ → Bool
span p a zero = true
span p a (suc n) = p a && span p (suc a) n

abbrev pub range : (ℕ → Bool) → ℕ → ℕ → Bool
range p a z = span p a (suc z - a)

-- the move is in this role to a state that has this form
unfoldable pub leads : Table → ℕ → Form → Move → Bool
leads t role g halt = false
leads t role g (go r q) = eqb role r && any (same g) (at t q).forms

-- the head fits the byte in this role, and g comes after it
abbrev pub comes : ℕ → ℕ → Form → Head → Bool
comes r b g h = leb h.from b && (leb b h.to && (eqb r h.role && same h.rest g))

unfoldable pub backs : Table → List Head → ℕ → Move → Bool
backs t l b halt = true
backs t l b (go r q) = kept (at t q).forms && each (λ g. any (comes r b g) l) (at t q).forms

unfoldable pub head_fits : Table → List Row → Head → Bool
head_fits t l h = range (λ b. leads t h.role h.rest (move l b)) h.from h.to

unfoldable pub row_fits : Table → List Head → List Row → Row → Bool
row_fits t k l r = range (λ b. backs t k b (move l b)) r.from r.to

unfoldable pub state_fits : Table → State → Bool
state_fits t s = each (head_fits t s.rows) (heads_of s.forms) && each (row_fits t (heads_of s.forms) s.rows) s.rows

unfoldable pub fits : Table → Bool
fits t = each (state_fits t) t

-- A table from rows alone. The forms of its states are found one after the other: what comes after those of an earlier one, by a byte. Two states may
-- have the same forms. Trusted for nothing: the test is of the result.

pub record Found : Type 0 where
  pub earlier : ℕ
  pub byte : ℕ

abbrev pub found : ℕ → ℕ → Found
found q b = record { earlier = q; byte = b }

unfoldable pub add : Form → List Form → List Form
add f l = cond (any (same f) l) l (f ∷ l)

unfoldable pub rests : ℕ → List Head → List Form
rests b [] = []
rests b (h ∷ l) = cond (is_from h.from h.to b) (add h.rest (rests b l)) (rests b l)

unfoldable pub forms_found : List (List Form) → List Found → List (List Form)
forms_found l [] = l
forms_found l (e ∷ k) = forms_found (l ++ (rests e.byte (heads_of (get_or l e.earlier [])) ∷ [])) k

pub record Entry : Type 0 where
  pub forms : ℕ
  pub rows : List Row

abbrev pub row : ℕ → ℕ → ℕ → ℕ → Row
row a z r n = record { from = a; to = z; role = r; next = n }

abbrev pub entry : ℕ → List Row → Entry
entry n l = record { forms = n; rows = l }

unfoldable pub table_of : List (List Form) → List Entry → Table
table_of l [] = []
table_of l (e ∷ k) = record { forms = get_or l e.forms []; rows = e.rows } ∷ table_of l k
