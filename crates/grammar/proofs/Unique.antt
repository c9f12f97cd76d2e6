-- One reading: all trees of a text say the same. So two answers that one statement allows are equal.
use mathlib.Core.Path.{◌≡◌, refl, sym, ap, ◌∙◌}
use mathlib.Core.List.{List, [], ◌∷◌}
use Prim.Native.Nat.{ℕ}
use Rattle.reader.specs.Reading.{refused}
use Rattle.std.proofs.Common.{Result}
use Rattle.chart.specs.declared.chart.Chart.{Chart}
use Rattle.reader.specs.Answer.{Reading, reading_of}
use Rattle.reader.specs.declared.framing.Fault.{Fault}
use Rattle.reader.proofs.Unique.{chart-one}
use Rattle.forms.specs.Form.{Tree, marks, text_of}
use Rattle.forms.proofs.Place.{one_place}
use Rattle.grammar.specs.Grammar.{text}
use Rattle.grammar.specs.Meaning.{Said, a_step, a_block, a_transition, text_says}
use Rattle.grammar.specs.Answer.{answer_of, Answers, says, stops}
use Rattle.grammar.specs.Pen.{blank_pen, said_over, all_clipped}
use Rattle.grammar.proofs.Reader.{one-marking}
use Rattle.grammar.proofs.Saying.{says-text}

abbrev whole : ℕ → ℕ
whole n = n

unclipped : (l : List Said) → all_clipped whole l ≡ l
unfolding all_clipped
unclipped [] = refl
unclipped (a_step mark n place ∷ l) = ap (λ (k : List Said). a_step mark n place ∷ k) (unclipped l)
unclipped (a_block step action qualifier duration ∷ l) = ap (λ (k : List Said). a_block step action qualifier duration ∷ k) (unclipped l)
unclipped (a_transition sources targets on off ∷ l) = ap (λ (k : List Said). a_transition sources targets on off ∷ k) (unclipped l)

-- a reader that cuts nothing says what the tree says, and its marks are those of any other tree of the text
by-marks : (t : Tree text) → text_says t ≡ said_over whole blank_pen 0 (marks t)
by-marks t = sym (says-text whole (λ n d. refl) (λ n h. refl) t ∙ unclipped (text_says t))

pub one-reading : (t u : Tree text) → text_of t ≡ text_of u → text_says t ≡ text_says u
one-reading t u e = by-marks t ∙ ap (said_over whole blank_pen 0) (one-marking t u e) ∙ sym (by-marks u)

pub read-text-unique : (s : List ℕ) (r q : Reading) → Answers s r → Answers s q → r ≡ q
read-text-unique s r q (says t e f) (says u g h) = f ∙ ap answer_of (one-reading t u (e ∙ sym g)) ∙ sym h
read-text-unique s r q (says t e f) (stops k g h) = absurd (g.refused (record { tree = t; text = e }))
read-text-unique s r q (stops k e f) (says u g h) = absurd (e.refused (record { tree = u; text = g }))
read-text-unique s r q (stops j e f) (stops k g h) = f ∙ ap (refused 19) (one_place text s j k e g) ∙ sym h

-- as the code answers
pub read-text-one : (s : List ℕ) (r q : Result Chart Fault) → Answers s (reading_of r) → Answers s (reading_of q) → r ≡ q
read-text-one s r q a b = chart-one r q (read-text-unique s _ _ a b)
