-- What a reader of the marks keeps between two bytes, and what it has to say at one. None of this has to be believed: that it says what the text's
-- tree says is proved (proofs/Saying.antt).
use Rattle.std.specs.Prelude.{Bool, cond, ◌&&◌, List, [], ◌∷◌, ◌++◌, ℕ, suc, ◌+◌, ◌-◌, ◌*◌, ◌%◌, eqb, leb, get_or, set}
use Rattle.sets.specs.Sets.{insert}
use Rattle.forms.specs.Form.{Mark}
use Rattle.grammar.specs.Grammar.{FIRST, DIGIT, SOURCE, NOT-INPUT, INITIAL, STEP, OWN, ACTION, TRANSITION, NAMED, ACTED, PASSED}
use Rattle.grammar.specs.Meaning.{Said, a_step, a_block, a_transition}

-- the step and the block so far: the place of the step's name, whether it is initial, and its number; the action, and the qualifier
pub record Line : Type 0 where
  pub place : ℕ
  pub initial : ℕ
  pub own : ℕ
  pub action : ℕ
  pub qualifier : ℕ

-- the number that is being read or was last; which of the sets the last name goes into, in which it is not yet, or 4; sources, targets, on, off and one that is never
-- asked for; the step and the block so far
pub record Pen : Type 0 where
  pub number : ℕ
  pub kind : ℕ
  pub sets : List ℕ
  pub line : Line

-- one digit more; clip may cut what is too long anyway
abbrev pub tens : (ℕ → ℕ) → ℕ → ℕ → ℕ
tens clip n b = clip (n * 10 + b % 16)

-- the sets with n in one of them
abbrev pub joined : ℕ → ℕ → List ℕ → List ℕ
joined k n s = set s k (insert (get_or s k 0) (n % 64))

abbrev pub no_sets : List ℕ
no_sets = 0 ∷ 0 ∷ 0 ∷ 0 ∷ 0 ∷ []

-- with the last name
abbrev pub settled : Pen → List ℕ
settled p = joined p.kind p.number p.sets

abbrev pub owning : Line → ℕ → ℕ → ℕ → Line
owning l place initial own = record { place = place; initial = initial; own = own; action = l.action; qualifier = l.qualifier }

abbrev pub acting : Line → ℕ → ℕ → Line
acting l action qualifier = record { place = l.place; initial = l.initial; own = l.own; action = action; qualifier = qualifier }

-- after a byte at the place i in the role r, where the number is n
abbrev pub lined : Line → ℕ → ℕ → ℕ → Line
lined l r n i =
    cond (leb 16 r) (acting l l.action (r % 16))
    (cond (eqb r INITIAL) (owning l l.place 1 l.own)
    (cond (eqb r STEP) (owning l l.place 0 l.own)
    (cond (eqb r OWN) (owning l i l.initial l.own)
    (cond (eqb r NAMED) (owning l l.place l.initial n)
    (cond (eqb r ACTION) (acting l n 0) l)))))

abbrev pub is_name : ℕ → Bool
is_name r = leb SOURCE r && leb r NOT-INPUT

abbrev pub number_after : (ℕ → ℕ) → ℕ → ℕ → ℕ → ℕ
number_after clip n r b = cond (eqb r FIRST) (tens clip 0 b) (cond (eqb r DIGIT) (tens clip n b) (cond (eqb r ACTION) 0 n))

abbrev pub kind_after : ℕ → ℕ → ℕ
kind_after k r = cond (is_name r) (r - SOURCE) (cond (eqb r TRANSITION) 4 k)

abbrev pub sets_after : ℕ → ℕ → ℕ → List ℕ → List ℕ
sets_after r k n s = cond (eqb r TRANSITION) no_sets (cond (is_name r) (joined k n s) (cond (eqb r PASSED) (joined k n s) s))

-- the pen after a byte b at the place i in the role r
abbrev pub penned : (ℕ → ℕ) → Pen → ℕ → ℕ → ℕ → Pen
penned clip p r i b = record {
  number = number_after clip p.number r b;
  kind = kind_after p.kind r;
  sets = sets_after r p.kind p.number p.sets;
  line = lined p.line r p.number i;
}

-- what it says there
abbrev pub step_with : Line → ℕ → Said
step_with l n = a_step (l.initial % 256) n l.place

abbrev pub block_with : Line → ℕ → Said
block_with l n = a_block (l.own % 256) (l.action % 256) (l.qualifier % 256) n

abbrev pub transition_with : List ℕ → Said
transition_with s = a_transition (get_or s 0 0) (get_or s 1 0) (get_or s 2 0) (get_or s 3 0)

abbrev pub said_at : ℕ → Pen → List Said
said_at r p =
    cond (eqb r NAMED) (step_with p.line p.number ∷ [])
    (cond (eqb r ACTED) (block_with p.line p.number ∷ [])
    (cond (eqb r PASSED) (transition_with (settled p) ∷ []) []))

-- of marks from the place i on: the pen after them, and all that is said
unfoldable pub pen_after : (ℕ → ℕ) → Pen → ℕ → List Mark → Pen
pen_after clip p i [] = p
pen_after clip p i (m ∷ w) = pen_after clip (penned clip p m.role i m.byte) (suc i) w

unfoldable pub said_over : (ℕ → ℕ) → Pen → ℕ → List Mark → List Said
said_over clip p i [] = []
said_over clip p i (m ∷ w) = said_at m.role p ++ said_over clip (penned clip p m.role i m.byte) (suc i) w

abbrev pub blank_line : Line
blank_line = record { place = 0; initial = 0; own = 0; action = 0; qualifier = 0 }

abbrev pub blank_pen : Pen
blank_pen = record { number = 0; kind = 4; sets = no_sets; line = blank_line }

-- what is said, with durations cut
abbrev pub clipped : (ℕ → ℕ) → Said → Said
clipped clip (a_step mark n place) = a_step mark n place
clipped clip (a_block step action qualifier duration) = a_block step action qualifier (clip duration)
clipped clip (a_transition sources targets on off) = a_transition sources targets on off

unfoldable pub all_clipped : (ℕ → ℕ) → List Said → List Said
all_clipped clip [] = []
all_clipped clip (x ∷ l) = clipped clip x ∷ all_clipped clip l
