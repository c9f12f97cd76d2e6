-- Charts in the textual form (document 02, request iv): "A text is accepted exactly if the subset's grammar, written into docs/ first, produces it, its steps
-- stand so and its chart passes document 01; it has one reading. .. Refusals: 19 with the place of the first byte that no sentence of the grammar can
-- continue through, or the text's length if it ends too early; then 25 with the place of the first step name out of number order; then the chart's own, in
-- a held chart's order, with place 0. Each returns an all-zero chart."
use Prim.Native.Nat.{ℕ}
use Rattle.std.specs.Prelude.{true, List, [], ◌∷◌, ◌++◌, ◌≡◌, length}
use Rattle.sets.specs.Loops.{table}
use Rattle.chart.specs.Chart.{no_chart}
use Rattle.chart.specs.Held.{chart_code}
use Rattle.reader.specs.Reading.{accepted}
use Rattle.reader.specs.Answer.{Reading}
use Rattle.forms.specs.Form.{Tree, text_of, Sentence, Stops}
use Rattle.grammar.specs.Grammar.{text}
use Rattle.grammar.specs.Meaning.{Said, a_step, a_block, a_transition, text_says}
use Rattle.grammar.specs.Answer.{chart_said}
use Rattle.claims.specs.Answers.{one_of}

-- ---- what is claimed

-- "in number order from S0 without a gap": the numbers that name the steps, in the text's order, are 0, 1, ..
unfoldable pub names : List Said → List ℕ
names [] = []
names (a_step mark n place ∷ l) = n ∷ names l
names (a_block step action qualifier duration ∷ l) = names l
names (a_transition sources targets on off ∷ l) = names l

abbrev pub Ordered : List Said → Type 0
Ordered l = names l ≡ table (λ k. k) (length (names l))

-- "the first step name out of number order": the ones before it are in order, and it is not the next
pub record Stray (l : List Said) (place : ℕ) : Type 0 where
  pub before : List Said
  pub after : List Said
  pub mark : ℕ
  pub number : ℕ
  pub split : l ≡ before ++ (a_step mark number place ∷ after)
  pub ordered : Ordered before
  pub wrong : number ≡ length (names before) → ⊥

-- 19, 25, "then the chart's own, in a held chart's order"; 9 is not among them
abbrev pub text_numbers : List ℕ
text_numbers = 19 ∷ 25 ∷ 4 ∷ 5 ∷ 6 ∷ 7 ∷ 8 ∷ []

-- a text s with this tree: its steps stand so, and its chart passes document 01
pub record Accepts (s : List ℕ) (o : Reading) : Type 0 where
  pub tree : Tree text
  pub text : text_of tree ≡ s
  pub ordered : Ordered (text_says tree)
  pub passes : chart_code (chart_said (text_says tree)) ≡ 0
  pub answer : o ≡ accepted (chart_said (text_says tree))

-- a reading of the text s answers o
pub record TextAnswer (s : List ℕ) (o : Reading) : Type 0 where
  pub numbered : one_of (0 ∷ text_numbers) o.code ≡ true
  pub no_text : (Sentence text s → ⊥) → (o.code ≡ 19) × Stops text s o.place
  pub out_of_order : (t : Tree text) → text_of t ≡ s → (Ordered (text_says t) → ⊥) → (o.code ≡ 25) × Stray (text_says t) o.place
  pub bad-chart : (t : Tree text) → text_of t ≡ s → Ordered (text_says t) → (chart_code (chart_said (text_says t)) ≡ 0 → ⊥) → (o.code ≡ chart_code (chart_said (text_says t))) × (o.place ≡ 0)
  pub accepts : (t : Tree text) → text_of t ≡ s → Ordered (text_says t) → chart_code (chart_said (text_says t)) ≡ 0 → o ≡ accepted (chart_said (text_says t))
  pub only : o.code ≡ 0 → Accepts s o
  pub no-chart : (o.code ≡ 0 → ⊥) → o.chart ≡ no_chart
