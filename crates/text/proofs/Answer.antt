-- What the reading answers is what the text says, of every byte string.
use mathlib.Core.Path.{◌≡◌, refl, sym, ap, ◌∙◌}
use mathlib.Core.Bool.{Bool, true, false, cond}
use mathlib.Core.List.{List, [], ◌∷◌, ◌++◌}
use mathlib.Core.Logic.{◌⊎◌, inl, inr}
use Prim.Native.Nat.{ℕ, suc, ◌+◌, ◌<◌}
use native.Mathlib.Omega.{arith}
use native.Mathlib.Numerals.{add-one}
use lib.Dec.{eqb, ltb}
use lib.ListN.{get_or}
use borrow.Author.Tests.{ltb-true}
use Rattle.chart.specs.Chart.{empty_chart}
use Rattle.chart.specs.declared.chart.Chart.{Chart}
use Rattle.reader.specs.Reading.{refused, with_body}
use Rattle.reader.specs.Answer.{Reading}
use Rattle.forms.specs.Table.{at, Move, halt, go, move, Outcome, read, stopped, push, turn, final, run}
use Rattle.grammar.specs.Meaning.{Said, a_step, a_block, a_transition, text_says}
use Rattle.grammar.specs.Answer.{body_of, with_all, reach, in_order, answer_of, Answers, says, stops}
use Rattle.grammar.specs.Pen.{Pen, penned, said_at, said_over, blank_pen, step_with, block_with, transition_with, settled}
use Rattle.grammar.proofs.Reader.{table, read_right, stops-right}
use Rattle.grammar.proofs.Saying.{says-text}
use Rattle.text.specs.Answer.{Stray}
use Rattle.text.specs.Scan.{clip, next_of, role_of, no_stray, stray_in, finished, scan}
use Rattle.text.proofs.Clipping.{clip-again, clip-small, answer-cut}
use Rattle.text.proofs.Dense.{told, dense, finals}

-- all that is said from here on, and the answer then
stray_over : Stray → Chart → List Said → Stray
stray_over o c [] = o
stray_over o c (x ∷ l) = stray_over (stray_in o c.steps (x ∷ [])) (with_body c (body_of x)) l

abbrev ended : Stray → ℕ → Chart → List Said → Reading
ended o n c l = finished (stray_over o c l) (reach n l) (with_all c l)

answered : Pen → Stray → ℕ → Chart → ℕ → Outcome → Reading
answered p o n c i (read w) = ended o n c (said_over clip p i w)
answered p o n c i (stopped k) = refused 19 (i + k)

-- at a byte nothing or one thing is said
abbrev said-if : Pen → Bool → Bool → Bool → List Said
said-if p x y z = cond x (step_with p.line p.number ∷ []) (cond y (block_with p.line p.number ∷ []) (cond z (transition_with (settled p) ∷ []) []))

one-if : (p : Pen) (x y z : Bool) → (said-if p x y z ≡ []) ⊎ ((s : Said) × (said-if p x y z ≡ s ∷ []))
one-if p true y z = inr (step_with p.line p.number, refl)
one-if p false true z = inr (block_with p.line p.number, refl)
one-if p false false true = inr (transition_with (settled p), refl)
one-if p false false false = inl refl

pub one_at_most : (r : ℕ) (p : Pen) → (said_at r p ≡ []) ⊎ ((x : Said) × (said_at r p ≡ x ∷ []))
one_at_most r p = one-if p (eqb r 12) (eqb r 13) (eqb r 14)

ended-more : (m : List Said) → (m ≡ []) ⊎ ((x : Said) × (m ≡ x ∷ [])) → (o : Stray) (n : ℕ) (c : Chart) (l : List Said)
    → ended (stray_in o c.steps m) (reach n m) (with_all c m) l ≡ ended o n c (m ++ l)
unfolding stray_over reach with_all
ended-more m (inl e) o n c l = rw e
ended-more m (inr (x, e)) o n c l = rw e

answered-push : (b r i : ℕ) (p : Pen) (o : Stray) (n : ℕ) (c : Chart) (u : Outcome)
    → answered (penned clip p r i b) (stray_in o c.steps (said_at r p)) (reach n (said_at r p)) (with_all c (said_at r p)) (i + 1) u ≡ answered p o n c i (push (record { byte = b; role = r }) u)
unfolding answered push said_over
answered-push b r i p o n c (read w) =
    ap (λ (j : ℕ). ended (stray_in o c.steps (said_at r p)) (reach n (said_at r p)) (with_all c (said_at r p)) (said_over clip (penned clip p r i b) j w)) (add-one i)
    ∙ ended-more (said_at r p) (one_at_most r p) o n c (said_over clip (penned clip p r i b) (suc i) w)
answered-push b r i p o n c (stopped k) = let e : i + 1 + k ≡ i + suc k = omega arith in ap (refused 19) e

answered-halt : (i : ℕ) (p : Pen) (o : Stray) (n : ℕ) (c : Chart) → refused 19 i ≡ answered p o n c i (stopped 0)
unfolding answered
answered-halt i p o n c = let e : i ≡ i + 0 = omega arith in ap (refused 19) e

answered-end : (i : ℕ) (p : Pen) (o : Stray) (n : ℕ) (c : Chart) (v : Bool) → cond v (finished o n c) (refused 19 i) ≡ answered p o n c i (cond v (read []) (stopped 0))
unfolding answered said_over stray_over reach with_all
answered-end i p o n c true = refl
answered-end i p o n c false = answered-halt i p o n c

went : (b r q : ℕ) (k : ℕ → Outcome) → push (record { byte = b; role = r }) (k q) ≡ turn b (go r q) k
unfolding turn
went b r q k = refl

halted : (b : ℕ) (k : ℕ → Outcome) → stopped 0 ≡ turn b halt k
unfolding turn
halted b k = refl

-- the reading is the table's
scan-is : (s : List ℕ) (q : ℕ) (p : Pen) (o : Stray) (n : ℕ) (c : Chart) (i : ℕ) → q < 161 → ((k : ℕ) → get_or s k 0 < 256) → scan q p o n c i s ≡ answered p o n c i (run table s q)
unfolding scan run
scan-is [] q p o n c i h t = rw (finals q h) (answered-end i p o n c (final (at table q).forms))
scan-is (b ∷ s) q p o n c i h t =
    cases (ltb m 161) refl (λ l. scan-is s m (penned clip p r i b) (stray_in o c.steps (said_at r p)) (reach n (said_at r p)) (with_all c (said_at r p)) (i + 1) l (λ k. t (suc k)))
  where
    m : ℕ
    m = next_of q b

    r : ℕ
    r = role_of (next_of q b)

    d : told (next_of q b) ≡ move (at table q).rows b
    d = dense q b h (t 0)

    cases : (v : Bool) → ltb (next_of q b) 161 ≡ v
        → (next_of q b < 161 → scan (next_of q b) (penned clip p (role_of (next_of q b)) i b) (stray_in o c.steps (said_at (role_of (next_of q b)) p)) (reach n (said_at (role_of (next_of q b)) p)) (with_all c (said_at (role_of (next_of q b)) p)) (i + 1) s
        ≡ answered (penned clip p (role_of (next_of q b)) i b) (stray_in o c.steps (said_at (role_of (next_of q b)) p)) (reach n (said_at (role_of (next_of q b)) p)) (with_all c (said_at (role_of (next_of q b)) p)) (i + 1) (run table s (next_of q b)))
        → cond v (scan (next_of q b) (penned clip p (role_of (next_of q b)) i b) (stray_in o c.steps (said_at (role_of (next_of q b)) p)) (reach n (said_at (role_of (next_of q b)) p)) (with_all c (said_at (role_of (next_of q b)) p)) (i + 1) s) (refused 19 i)
        ≡ answered p o n c i (turn b (move (at table q).rows b) (λ j. run table s j))
    cases true e ih =
        let f : go (role_of (next_of q b)) (next_of q b) ≡ move (at table q).rows b = sym (ap (λ (v : Bool). cond v (go (role_of (next_of q b)) (next_of q b)) halt) e) ∙ d in
        ih (ltb-true (next_of q b) 161 e)
        ∙ answered-push b (role_of (next_of q b)) i p o n c (run table s (next_of q b))
        ∙ ap (answered p o n c i) (went b (role_of (next_of q b)) (next_of q b) (λ j. run table s j) ∙ ap (λ (v : Move). turn b v (λ j. run table s j)) f)
    cases false e ih =
        let f : halt ≡ move (at table q).rows b = sym (ap (λ (v : Bool). cond v (go (role_of (next_of q b)) (next_of q b)) halt) e) ∙ d in
        answered-halt i p o n c ∙ ap (answered p o n c i) (halted b (λ j. run table s j) ∙ ap (λ (v : Move). turn b v (λ j. run table s j)) f)

-- the first stray step decides, and is the one that is out of order
found-stays : (l : List Said) (c : Chart) (place : ℕ) → stray_over (record { found = true; place = place }) c l ≡ record { found = true; place = place }
unfolding stray_over
found-stays [] c place = refl
found-stays (a_step mark n at ∷ l) c place = found-stays l _ place
found-stays (a_block step action qualifier duration ∷ l) c place = found-stays l _ place
found-stays (a_transition sources targets on off ∷ l) c place = found-stays l _ place

abbrev unless-stray : Stray → Reading → Reading
unless-stray o r = cond o.found (refused 25 o.place) r

in-order : (l : List Said) (c : Chart) (r : Reading) → unless-stray (stray_over no_stray c l) r ≡ in_order c.steps l r
unfolding stray_over in_order
in-order [] c r = refl
in-order (a_step mark k place ∷ l) c r = by (eqb k c.steps) (in-order l (with_body c (body_of (a_step mark k place))) r ∙ ap (λ (n : ℕ). in_order n l r) (add-one c.steps))
  where
    by : (v : Bool) → unless-stray (stray_over no_stray (with_body c (body_of (a_step mark k place))) l) r ≡ in_order (suc c.steps) l r
        → unless-stray (stray_over (cond v no_stray (record { found = true; place = place })) (with_body c (body_of (a_step mark k place))) l) r ≡ cond v (in_order (suc c.steps) l r) (refused 25 place)
    by true e = e
    by false e = ap (λ (o : Stray). unless-stray o r) (found-stays l (with_body c (body_of (a_step mark k place))) place)
in-order (a_block step action qualifier duration ∷ l) c r = in-order l (with_body c (body_of (a_block step action qualifier duration))) r
in-order (a_transition sources targets on off ∷ l) c r = in-order l (with_body c (body_of (a_transition sources targets on off))) r

-- the answer
by-outcome : (s : List ℕ) (r : Reading) (u : Outcome) → run table s 0 ≡ u → r ≡ answered blank_pen no_stray 0 (empty_chart 1) 0 u → Answers s r
unfolding answered
by-outcome s r (read w) e f =
    let t = read_right s w e in
    says t.0 t.2
    (f
    ∙ in-order (said_over clip blank_pen 0 w) (empty_chart 1) _
    ∙ ap answer_of (ap (said_over clip blank_pen 0) (sym t.1) ∙ says-text clip clip-again clip-small t.0)
    ∙ answer-cut (text_says t.0))
by-outcome s r (stopped k) e f = let z : 0 + k ≡ k = omega arith in stops k (stops-right s k e) (f ∙ ap (refused 19) z)

pub answers_by : (s : List ℕ) (r : Reading) → ((k : ℕ) → get_or s k 0 < 256) → r ≡ scan 0 blank_pen no_stray 0 (empty_chart 1) 0 s → Answers s r
answers_by s r h e = by-outcome s r (run table s 0) refl (e ∙ scan-is s 0 blank_pen no_stray 0 (empty_chart 1) 0 (omega arith) h)
