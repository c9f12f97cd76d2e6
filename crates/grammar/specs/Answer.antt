-- What the reading of a text answers. "A text is accepted exactly if the subset's grammar .. produces it, its steps stand so and its chart passes document 01".
use Rattle.std.specs.Prelude.{◌≡◌, cond, List, [], ◌∷◌, ℕ, suc, max, eqb, pos}
use Rattle.sets.specs.Loops.{turns}
use Rattle.chart.specs.Chart.{empty_chart, with_action}
use Rattle.chart.specs.Held.{chart_code}
use Rattle.chart.specs.declared.chart.Chart.{Chart}
use Rattle.judging.specs.declared.Body.{Body}
use Rattle.judging.specs.declared.Body.TheVariants.{Step, Transition, Block}
use Rattle.reader.specs.Reading.{refused, closed, with_body}
use Rattle.reader.specs.Answer.{Reading}
use Rattle.forms.specs.Form.{Tree, text_of, Stops}
use Rattle.grammar.specs.Grammar.{text}
use Rattle.grammar.specs.Meaning.{Said, a_step, a_block, a_transition, text_says}

-- as a record of the chart's file, which "waits are 0" completes
abbrev pub body_of : Said → Body
body_of (a_step mark n place) = Step mark
body_of (a_block step action qualifier duration) = Block step action qualifier duration
body_of (a_transition sources targets on off) = Transition sources targets on off 0

unfoldable pub with_all : Chart → List Said → Chart
with_all c [] = c
with_all c (x ∷ l) = with_all (with_body c (body_of x)) l

-- "the actions reach up to the highest one named": how many there are
abbrev pub reached : ℕ → Said → ℕ
reached n (a_step mark k place) = n
reached n (a_block step action qualifier duration) = max n (suc action)
reached n (a_transition sources targets on off) = n

unfoldable pub reach : ℕ → List Said → ℕ
reach n [] = n
reach n (x ∷ l) = reach (reached n x) l

-- "action k drives output k with 1"
abbrev pub with_actions : Chart → ℕ → Chart
with_actions c n = turns (λ k d. with_action d k (pos 1)) c n

-- the chart that a text says; "Text carries no cases"; request (viii): "absent means edition 1, as does text"
abbrev pub chart_said : List Said → Chart
chart_said l = with_actions (with_all (empty_chart 1) l) (reach 0 l)

-- r, unless a step is not named by the next number from n on: "25 with the place of the first step name out of number order"
unfoldable pub in_order : ℕ → List Said → Reading → Reading
in_order n [] r = r
in_order n (a_step mark k place ∷ l) r = cond (eqb k n) (in_order (suc n) l r) (refused 25 place)
in_order n (a_block step action qualifier duration ∷ l) r = in_order n l r
in_order n (a_transition sources targets on off ∷ l) r = in_order n l r

-- "then the chart's own, in a held chart's order, with place 0"
abbrev pub answer_of : List Said → Reading
answer_of l = in_order 0 l (closed (chart_code (chart_said l)) (chart_said l))

-- the whole answer, of every byte string: of a text, by what it says; "19 with the place of the first byte that no sentence of the grammar can continue
-- through, or the text's length if it ends too early". "Each returns an all-zero chart."
pub data Answers (s : List ℕ) (r : Reading) : Type 0 where
  says : (t : Tree text) → text_of t ≡ s → r ≡ answer_of (text_says t) → Answers s r
  stops : (k : ℕ) → Stops text s k → r ≡ refused 19 k → Answers s r
