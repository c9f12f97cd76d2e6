-- The examples of docs/GRAMMAR.md, computed: by the table that reads the grammar, and the pen that says what its marks say.
use mathlib.Core.Path.{◌≡◌, refl}
use mathlib.Core.List.{List, [], ◌∷◌}
use Prim.Native.Nat.{ℕ}
use Prim.Native.Char.{code}
use Prim.Native.String.{String, [] as ε, ◌∷◌ as ◌◂◌}
use Rattle.sets.specs.Sets.{collect}
use Rattle.forms.specs.Table.{move, ends, seq, follow, heads, heads_of, any, Outcome, read, stopped, push, turn, final, run, same, add, rests, forms_found, table_of}
use Rattle.grammar.specs.Grammar.{text}
use Rattle.grammar.specs.Meaning.{Said, a_step, a_block, a_transition}
use Rattle.grammar.specs.Pen.{blank_pen, said_over}
use Rattle.grammar.proofs.Rows.{founds, entries}
use Rattle.grammar.proofs.Reader.{table}

ascii : String → List ℕ
ascii ε = []
ascii (c ◂ s) = code c ∷ ascii s

data Read : Type 0 where
  says : List Said → Read
  stops : ℕ → Read

outcome : Outcome → Read
outcome (read w) = says (said_over (λ n. n) blank_pen 0 w)
outcome (stopped k) = stops k

reads : String → Read
reads s = outcome (run table (ascii s) 0)

-- a step with a block, one without, and a transition: sources {0}, targets {1}, on {0}, off {31}
chart-said : reads "INITIAL_STEP S0: A1(L,T#500ms); END_STEP\nSTEP S1:END_STEP TRANSITION FROM S0 TO(S1,S1):=X0 AND NOT X31;END_TRANSITION"
    ≡ says (a_step 1 0 13 ∷ a_block 0 1 3 500 ∷ a_step 0 1 46 ∷ a_transition 1 2 1 2147483648 ∷ [])
unfolding reads outcome ascii table founds entries text ends seq follow heads same any move final heads_of add rests forms_found table_of push turn run said_over collect
chart-said = refl

-- where no text goes on
name-above : reads "INITIAL_STEP S64: END_STEP" ≡ stops 15
unfolding reads outcome ascii table founds entries text ends seq follow heads same any move final heads_of add rests forms_found table_of push turn run
name-above = refl

leading-zero : reads "INITIAL_STEP S00: END_STEP" ≡ stops 15
unfolding reads outcome ascii table founds entries text ends seq follow heads same any move final heads_of add rests forms_found table_of push turn run
leading-zero = refl

ends-early : reads "INITIAL_STEP S0: END_STE" ≡ stops 24
unfolding reads outcome ascii table founds entries text ends seq follow heads same any move final heads_of add rests forms_found table_of push turn run
ends-early = refl

first-not-initial : reads "STEP S0: END_STEP" ≡ stops 0
unfolding reads outcome ascii table founds entries text ends seq follow heads same any move final heads_of add rests forms_found table_of push turn run
first-not-initial = refl

no-white-space : reads "INITIAL_STEP S0:END_STEPSTEP S1:END_STEP" ≡ stops 24
unfolding reads outcome ascii table founds entries text ends seq follow heads same any move final heads_of add rests forms_found table_of push turn run
no-white-space = refl
