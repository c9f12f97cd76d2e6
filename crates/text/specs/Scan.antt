-- What the functions of src/ compute. None of this has to be believed: that it is what the text says is proved (proofs/Answer.antt).
use Rattle.std.specs.Prelude.{Bool, true, false, cond, ◌||◌, List, [], ◌∷◌, ℕ, ◌+◌, min, eqb, ltb, get_or, Result, Ok, Err}
use Rattle.refusals.specs.Refusals.{number}
use Rattle.reader.specs.declared.framing.Fault.{Fault}
use Rattle.chart.specs.Held.{chart_code}
use Rattle.chart.specs.declared.chart.Chart.{Chart}
use Rattle.reader.specs.Reading.{refused, closed}
use Rattle.reader.specs.Answer.{Reading}
use Rattle.grammar.specs.Meaning.{Said, a_step, a_block, a_transition}
use Rattle.grammar.specs.Answer.{with_all, reach, with_actions}
use Rattle.grammar.specs.Pen.{Pen, penned, said_at}
use Rattle.text.specs.Answer.{Stray, stray_of}
use Rattle.text.specs.declared.saying.Draft.{Draft}
use Rattle.text.specs.Codes.{columns, nexts, roles}

-- one above the longest duration is as good as anything above it
abbrev pub clip : ℕ → ℕ
clip n = min n 86400001

abbrev pub next_of : ℕ → ℕ → ℕ
next_of q b = get_or nexts (get_or columns b 0 + q) 161

abbrev pub role_of : ℕ → ℕ
role_of q = get_or roles q 0

abbrev pub is_final : ℕ → Bool
is_final q = eqb q 33 || eqb q 36 || eqb q 93 || eqb q 94

-- the first step that is not named by its number
abbrev pub no_stray : Stray
no_stray = record { found = false; place = 0 }

abbrev pub stray_at : Stray → ℕ → ℕ → ℕ → Stray
stray_at o n number place = cond o.found o (cond (eqb number n) o (record { found = true; place = place }))

abbrev pub stray_in : Stray → ℕ → List Said → Stray
stray_in o n [] = o
stray_in o n (a_step mark k place ∷ l) = stray_at o n k place
stray_in o n (a_block step action qualifier duration ∷ l) = o
stray_in o n (a_transition sources targets on off ∷ l) = o

-- at the end of a text: the first stray step, the actions, the chart
abbrev pub finished : Stray → ℕ → Chart → Reading
finished o n c = cond o.found (refused 25 o.place) (closed (chart_code (with_actions c n)) (with_actions c n))

-- what is answered by what was read of a text: as a draft, or by a refusal
abbrev pub drafted : {A : Type 0} → Result A Fault → Draft → Reading
drafted (Ok x) d = finished (stray_of d.stray) d.actions d.chart
drafted (Err e) d = refused (number e.refusal) e.place

-- the answer from here on: the state, the pen, the stray step, how many actions, the chart so far, and the bytes from the place i on
unfoldable pub scan : ℕ → Pen → Stray → ℕ → Chart → ℕ → List ℕ → Reading
scan q p o n c i [] = cond (is_final q) (finished o n c) (refused 19 i)
scan q p o n c i (b ∷ s) =
    cond (ltb (next_of q b) 161)
    (scan (next_of q b) (penned clip p (role_of (next_of q b)) i b)
    (stray_in o c.steps (said_at (role_of (next_of q b)) p)) (reach n (said_at (role_of (next_of q b)) p)) (with_all c (said_at (role_of (next_of q b)) p)) (i + 1) s)
    (refused 19 i)
