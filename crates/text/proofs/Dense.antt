-- The tables of the source are the rows of the grammar's reader: one test, over every byte and state.
use mathlib.Core.Path.{◌≡◌, refl, sym, ap, ap₂, ◌∙◌}
use mathlib.Core.Bool.{Bool, true, false, cond, ◌&&◌}
use mathlib.Core.List.{List, [], ◌∷◌}
use Prim.Native.Nat.{ℕ, zero, suc, ◌+◌, ◌<◌}
use native.Mathlib.Omega.{arith}
use lib.Dec.{eqb, ltb}
use lib.ListN.{get_or, length, drop}
use lib.Seq.{get_or-drop}
use borrow.Author.Tests.{eqb-true}
use Rattle.sets.proofs.Loops.{and-true}
use Rattle.forms.specs.Table.{State, stuck, at, Move, halt, go, move, ends, seq, follow, heads, heads_of, any, final, same, add, rests, forms_found, table_of}
use Rattle.forms.proofs.Tests.{never}
use Rattle.grammar.specs.Grammar.{text}
use Rattle.grammar.proofs.Rows.{founds, entries}
use Rattle.grammar.proofs.Reader.{table}
use Rattle.text.specs.Codes.{columns, nexts, roles}
use Rattle.text.specs.Scan.{next_of, role_of, is_final}

-- what a next state says
abbrev pub told : ℕ → Move
told n = cond (ltb n 161) (go (role_of n) n) halt

abbrev same_move : Move → Move → Bool
same_move halt halt = true
same_move halt (go r q) = false
same_move (go r q) halt = false
same_move (go r q) (go r' q') = eqb r r' && eqb q q'

same-move : (u v : Move) → same_move u v ≡ true → u ≡ v
same-move halt halt h = refl
same-move halt (go r q) h = never h
same-move (go r q) halt h = never h
same-move (go r q) (go r' q') h = let e = and-true (eqb r r') (eqb q q') h in ap₂ go (eqb-true r r' e.0) (eqb-true q q' e.1)

-- a column and the states agree at the byte b; and each byte's from b on
column_agrees : ℕ → List State → List ℕ → Bool
column_agrees b [] l = true
column_agrees b (s ∷ t) [] = false
column_agrees b (s ∷ t) (n ∷ l) = same_move (told n) (move s.rows b) && column_agrees b t l

columns_agree : ℕ → List ℕ → Bool
columns_agree b [] = true
columns_agree b (x ∷ l) = column_agrees b table (drop x nexts) && columns_agree (suc b) l

all-agree : columns_agree 0 columns ≡ true
unfolding columns_agree column_agrees columns nexts roles table founds entries text ends seq follow heads same any move heads_of add rests forms_found table_of
all-agree = refl

columns-many : length columns ≡ 256
unfolding columns
columns-many = refl

states-many : length table ≡ 161
unfolding table founds entries text ends seq follow heads same any heads_of add rests forms_found table_of
states-many = refl

agree-state : (b : ℕ) (t : List State) (l : List ℕ) (q : ℕ) → column_agrees b t l ≡ true → q < length t → told (get_or l q 161) ≡ move (get_or t q stuck).rows b
unfolding column_agrees
agree-state b [] l q h i = absurd (omega arith)
agree-state b (s ∷ t) [] q h i = never h
agree-state b (s ∷ t) (n ∷ l) zero h i = same-move _ _ (and-true (same_move (told n) (move s.rows b)) (column_agrees b t l) h).0
agree-state b (s ∷ t) (n ∷ l) (suc q) h i = agree-state b t l q (and-true (same_move (told n) (move s.rows b)) (column_agrees b t l) h).1 (omega arith)

agree-byte : (b : ℕ) (l : List ℕ) (j : ℕ) → columns_agree b l ≡ true → j < length l → column_agrees (b + j) table (drop (get_or l j 0) nexts) ≡ true
unfolding columns_agree
agree-byte b [] j h i = absurd (omega arith)
agree-byte b (x ∷ l) zero h i =
    let e : b + 0 ≡ b = omega arith in
    ap (λ (y : ℕ). column_agrees y table (drop x nexts)) e ∙ (and-true (column_agrees b table (drop x nexts)) (columns_agree (suc b) l) h).0
agree-byte b (x ∷ l) (suc j) h i =
    let e : b + suc j ≡ suc b + j = omega arith in
    ap (λ (y : ℕ). column_agrees y table (drop (get_or l j 0) nexts)) e
    ∙ agree-byte (suc b) l j (and-true (column_agrees b table (drop x nexts)) (columns_agree (suc b) l) h).1 (omega arith)

pub dense : (q b : ℕ) → q < 161 → b < 256 → told (next_of q b) ≡ move (at table q).rows b
dense q b h i =
    let a : column_agrees (0 + b) table (drop (get_or columns b 0) nexts) ≡ true = agree-byte 0 columns b all-agree (omega (arith, columns-many)) in
    let e : 0 + b ≡ b = omega arith in
    ap told (sym (get_or-drop (get_or columns b 0) nexts q 161)) ∙ agree-state (0 + b) table (drop (get_or columns b 0) nexts) q a (omega (arith, states-many)) ∙ ap (move (at table q).rows) e

-- and its final states
beq : Bool → Bool → Bool
beq true b = b
beq false true = false
beq false false = true

beq-true : (a b : Bool) → beq a b ≡ true → a ≡ b
unfolding beq
beq-true true b h = sym h
beq-true false true h = never h
beq-true false false h = refl

finals_agree : ℕ → List State → Bool
finals_agree q [] = true
finals_agree q (s ∷ t) = beq (is_final q) (final s.forms) && finals_agree (suc q) t

all-final : finals_agree 0 table ≡ true
unfolding finals_agree beq table founds entries text ends seq follow heads same any final heads_of add rests forms_found table_of
all-final = refl

agree-final : (t : List State) (p q : ℕ) → finals_agree p t ≡ true → q < length t → is_final (p + q) ≡ final (get_or t q stuck).forms
unfolding finals_agree
agree-final [] p q h i = absurd (omega arith)
agree-final (s ∷ t) p zero h i =
    let e : p + 0 ≡ p = omega arith in
    ap is_final e ∙ beq-true (is_final p) (final s.forms) (and-true (beq (is_final p) (final s.forms)) (finals_agree (suc p) t) h).0
agree-final (s ∷ t) p (suc q) h i =
    let e : p + suc q ≡ suc p + q = omega arith in
    ap is_final e ∙ agree-final t (suc p) q (and-true (beq (is_final p) (final s.forms)) (finals_agree (suc p) t) h).1 (omega arith)

pub finals : (q : ℕ) → q < 161 → is_final q ≡ final (at table q).forms
finals q h = let e : q ≡ 0 + q = omega arith in ap is_final e ∙ agree-final table 0 q all-final (omega (arith, states-many))
