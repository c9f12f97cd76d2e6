-- A table of states reads the grammar: it passes the test.
use mathlib.Core.Path.{◌≡◌, refl, sym, ◌∙◌}
use mathlib.Core.Bool.{true}
use mathlib.Core.List.{List, [], ◌∷◌}
use Prim.Native.Nat.{ℕ}
use Rattle.forms.specs.Form.{Mark, Tree, marks, text_of, Stops}
use Rattle.forms.specs.Table.{Table, at, move, ends, seq, follow, heads, heads_of, each, any, read, stopped, run, same, live, kept, span, leads, backs, head_fits, row_fits, state_fits, fits, add, rests, forms_found, table_of}
use Rattle.forms.proofs.Reading as reading
use Rattle.grammar.specs.Grammar.{text}
use Rattle.grammar.proofs.Rows.{founds, entries}

unfoldable pub table : Table
table = table_of (forms_found ((text ∷ []) ∷ []) founds) entries

table_fits : fits table ≡ true
unfolding table founds entries text ends seq follow heads same each any span move heads_of live kept leads backs head_fits row_fits state_fits fits add rests forms_found table_of
table_fits = refl

table-starts : (at table 0).forms ≡ text ∷ []
unfolding table founds entries text ends seq follow heads same any heads_of add rests forms_found table_of
table-starts = refl

text-lives : live text ≡ true
unfolding live text
text-lives = refl

-- what it reads are the marks of a tree of the text
pub read_right : (s : List ℕ) (w : List Mark) → run table s 0 ≡ read w → (t : Tree text) × (marks t ≡ w) × (text_of t ≡ s)
read_right = reading.reads-right table text table_fits table-starts text-lives

-- the text of a tree is read, with its marks
pub reads-tree : (t : Tree text) → run table (text_of t) 0 ≡ read (marks t)
reads-tree = reading.reads-tree table text table_fits table-starts text-lives

-- where it stops, no sentence goes on
pub stops-right : (s : List ℕ) (k : ℕ) → run table s 0 ≡ stopped k → Stops text s k
stops-right = reading.stops-right table text table_fits table-starts text-lives

-- all trees of a text have the same marks
pub one-marking : (t u : Tree text) → text_of t ≡ text_of u → marks t ≡ marks u
one-marking t u e = let f : read (marks t) ≡ read (marks u) = sym (reads-tree t) ∙ (rw e (reads-tree u)) in cc
