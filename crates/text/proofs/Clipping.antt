-- Numbers that are cut one above the limit change no answer: what is above it is refused, whatever it is.
use mathlib.Core.Path.{◌≡◌, refl, sym, ap, ap₂, ◌∙◌}
use mathlib.Core.Bool.{Bool, true, false, cond}
use mathlib.Core.List.{List, [], ◌∷◌, map}
use Prim.Native.Nat.{ℕ, zero, suc, ◌+◌, ◌*◌, ◌≤◌, ◌<◌}
use native.Mathlib.Omega.{arith}
use lib.Dec.{eqb, leb}
use lib.IntN.{pos}
use lib.ListN.{get_or, set, replicate}
use lib.Seq.{get_or-set_other}
use borrow.Author.Tests.{eqb-true, lt-leb, leb-true, leb-false}
use Rattle.sets.specs.Loops.{or_else, first_code, turns}
use Rattle.sets.proofs.Loops.{first-zero}
use Rattle.fields.specs.Fields.{unless, longest, duration_fits}
use Rattle.chart.specs.Chart.{chart_of, empty_chart, with_action}
use Rattle.chart.specs.Held.{block_fits_at, blocks_code, held_code, chart_code}
use Rattle.chart.specs.declared.chart.Chart.{Chart}
use Rattle.chart.proofs.held.Sound.{fits, block-fits, is_zero}
use Rattle.reader.specs.Reading.{refused, closed, with_body}
use Rattle.reader.specs.Answer.{Reading}
use Rattle.grammar.specs.Meaning.{Said, a_step, a_block, a_transition}
use Rattle.grammar.specs.Answer.{body_of, with_all, reach, with_actions, chart_said, in_order, answer_of}
use Rattle.grammar.specs.Pen.{all_clipped}
use Rattle.text.specs.Scan.{clip}

-- as the pen asks for it
pub clip-again : (n d : ℕ) → clip (clip n * 10 + d) ≡ clip (n * 10 + d)
clip-again n d = omega arith

pub clip-small : (n : ℕ) → n < 64 → clip n ≡ n
clip-small n h = omega arith

-- lists
map-set : (f : ℕ → ℕ) (l : List ℕ) (i x : ℕ) → map f (set l i x) ≡ set (map f l) i (f x)
map-set f [] i x = refl
map-set f (y ∷ l) zero x = refl
map-set f (y ∷ l) (suc i) x = ap (λ (k : List ℕ). f y ∷ k) (map-set f l i x)

map-replicate : (f : ℕ → ℕ) (m : ℕ) → f 0 ≡ 0 → map f (replicate m 0) ≡ replicate m 0
map-replicate f zero e = refl
map-replicate f (suc m) e = ap₂ ◌∷◌ e (map-replicate f m e)

map_at : (f : ℕ → ℕ) (l : List ℕ) (i : ℕ) → f 0 ≡ 0 → get_or (map f l) i 0 ≡ f (get_or l i 0)
map_at f [] i e = sym e
map_at f (y ∷ l) zero e = refl
map_at f (y ∷ l) (suc i) e = map_at f l i e

map-still : (f : ℕ → ℕ) (l : List ℕ) → ((i : ℕ) → f (get_or l i 0) ≡ get_or l i 0) → map f l ≡ l
map-still f [] h = refl
map-still f (y ∷ l) h = ap₂ ◌∷◌ (h 0) (map-still f l (λ i. h (suc i)))

-- a chart with its durations cut
abbrev with-duration : Chart → List ℕ → Chart
with-duration c d = chart_of c.steps c.actions c.transitions c.blocks c.cases c.initial c.output c.value c.sources c.targets c.on c.off c.wait c.blockstep c.blockaction c.qualifier d c.casestep c.signal c.expected c.edition

abbrev cut : Chart → Chart
cut c = with-duration c (map clip c.duration)

cut_all : (l : List Said) (c : Chart) → with_all (cut c) (all_clipped clip l) ≡ cut (with_all c l)
unfolding with_all all_clipped
cut_all [] c = refl
cut_all (a_step mark n place ∷ l) c = cut_all l (with_body c (body_of (a_step mark n place)))
cut_all (a_block step action qualifier duration ∷ l) c =
    ap (λ (d : List ℕ). with_all (with-duration (with_body c (body_of (a_block step action qualifier duration))) d) (all_clipped clip l)) (sym (map-set clip c.duration c.blocks duration))
    ∙ cut_all l (with_body c (body_of (a_block step action qualifier duration)))
cut_all (a_transition sources targets on off ∷ l) c = cut_all l (with_body c (body_of (a_transition sources targets on off)))

cut-actions : (n : ℕ) (c : Chart) → with_actions (cut c) n ≡ cut (with_actions c n)
unfolding turns
cut-actions zero c = refl
cut-actions (suc n) c = ap (λ (d : Chart). with_action d n (pos 1)) (cut-actions n c)

cut-empty : cut (empty_chart 1) ≡ empty_chart 1
cut-empty = ap (with-duration (empty_chart 1)) (map-replicate clip 256 refl)

reach-clipped : (l : List Said) (n : ℕ) → reach n (all_clipped clip l) ≡ reach n l
unfolding reach all_clipped
reach-clipped [] n = refl
reach-clipped (a_step mark k place ∷ l) n = reach-clipped l n
reach-clipped (a_block step action qualifier duration ∷ l) n = reach-clipped l _
reach-clipped (a_transition sources targets on off ∷ l) n = reach-clipped l n

order-clipped : (l : List Said) (n : ℕ) (r : Reading) → in_order n (all_clipped clip l) r ≡ in_order n l r
unfolding in_order all_clipped
order-clipped [] n r = refl
order-clipped (a_step mark k place ∷ l) n r = ap (λ (x : Reading). cond (eqb k n) x (refused 25 place)) (order-clipped l (suc n) r)
order-clipped (a_block step action qualifier duration ∷ l) n r = order-clipped l n r
order-clipped (a_transition sources targets on off ∷ l) n r = order-clipped l n r

-- the held test has the same number
fits_cut : (q d : ℕ) → duration_fits q (clip d) ≡ duration_fits q d
fits_cut q d = go (leb d longest) refl
  where
    go : (v : Bool) → leb d longest ≡ v → duration_fits q (clip d) ≡ duration_fits q d
    go true e = let h : d ≤ 86400000 = leb-true d longest e in let f : clip d ≡ d = omega arith in ap (duration_fits q) f
    go false e = let h : 86400000 < d = leb-false d longest e in rw (e, lt-leb (clip d) longest (omega arith))

first-same : (f g : ℕ → ℕ) (n : ℕ) → ((i : ℕ) → f i ≡ g i) → first_code f n ≡ first_code g n
unfolding first_code
first-same f g zero h = refl
first-same f g (suc n) h = ap₂ or_else (first-same f g n h) (h n)

blocks-cut : (c : Chart) → blocks_code c.blocks c.steps c.actions c.blockstep c.blockaction c.qualifier (map clip c.duration)
    ≡ blocks_code c.blocks c.steps c.actions c.blockstep c.blockaction c.qualifier c.duration
unfolding blocks_code
blocks-cut c =
    first-same _ _ c.blocks
    (λ i. rw (map_at clip c.duration i refl, fits_cut (get_or c.qualifier i 0) (get_or c.duration i 0)))

code-cut : (c : Chart) → chart_code (cut c) ≡ chart_code c
unfolding held_code
code-cut c = rw (blocks-cut c)

-- behind the last block there is no duration
abbrev Bare : Chart → Type 0
Bare c = (i : ℕ) → c.blocks ≤ i → get_or c.duration i 0 ≡ 0

bare-empty : (m i : ℕ) → get_or {A = ℕ} (replicate m 0) i 0 ≡ 0
bare-empty zero i = refl
bare-empty (suc m) zero = refl
bare-empty (suc m) (suc i) = bare-empty m i

bare-all : (l : List Said) (c : Chart) → Bare c → Bare (with_all c l)
unfolding with_all
bare-all [] c h = h
bare-all (a_step mark n place ∷ l) c h = bare-all l (with_body c (body_of (a_step mark n place))) h
bare-all (a_block step action qualifier duration ∷ l) c h =
    bare-all l (with_body c (body_of (a_block step action qualifier duration)))
    (λ i k. get_or-set_other c.duration c.blocks i duration 0 (λ e. absurd (omega arith)) ∙ h i (omega arith))
bare-all (a_transition sources targets on off ∷ l) c h = bare-all l (with_body c (body_of (a_transition sources targets on off))) h

bare-actions : (n : ℕ) (c : Chart) → Bare c → Bare (with_actions c n)
unfolding turns
bare-actions zero c h = h
bare-actions (suc n) c h = bare-actions n c h

-- a chart that passes has durations up to the limit alone
passed-time : (c : Chart) → chart_code c ≡ 0 → (i : ℕ) → i < c.blocks → get_or c.duration i 0 ≤ longest
unfolding blocks_code
passed-time c e i h =
    (block-fits c.steps c.actions _ _ (get_or c.qualifier i 0) (get_or c.duration i 0)
    (fits (block_fits_at c.steps c.actions c.blockstep c.blockaction c.qualifier c.duration i) 5 (λ z. omega arith)
    (first-zero (λ j. unless (block_fits_at c.steps c.actions c.blockstep c.blockaction c.qualifier c.duration j) 5) c.blocks (is_zero c e).blocks i h))).3

cut-passed : (c : Chart) → Bare c → chart_code c ≡ 0 → cut c ≡ c
cut-passed c b e = ap (with-duration c) (map-still clip c.duration (λ i. by i (leb c.blocks i) refl))
  where
    by : (i : ℕ) (v : Bool) → leb c.blocks i ≡ v → clip (get_or c.duration i 0) ≡ get_or c.duration i 0
    by i true f = let z : get_or c.duration i 0 ≡ 0 = b i (leb-true c.blocks i f) in omega arith
    by i false f = let z : get_or c.duration i 0 ≤ 86400000 = passed-time c e i (leb-false c.blocks i f) in omega arith

closed-cut : (c : Chart) → Bare c → closed (chart_code (cut c)) (cut c) ≡ closed (chart_code c) c
closed-cut c b = ap (λ (n : ℕ). closed n (cut c)) (code-cut c) ∙ by (eqb (chart_code c) 0) refl
  where
    by : (v : Bool) → eqb (chart_code c) 0 ≡ v → closed (chart_code c) (cut c) ≡ closed (chart_code c) c
    by true e = ap (λ (d : Chart). closed (chart_code c) d) (cut-passed c b (eqb-true (chart_code c) 0 e))
    by false e = rw e

-- the chart, and the answer
chart-cut : (l : List Said) → chart_said (all_clipped clip l) ≡ cut (chart_said l)
chart-cut l =
    ap (with_actions (with_all (empty_chart 1) (all_clipped clip l))) (reach-clipped l 0)
    ∙ ap (λ (c : Chart). with_actions (with_all c (all_clipped clip l)) (reach 0 l)) (sym cut-empty)
    ∙ ap (λ (c : Chart). with_actions c (reach 0 l)) (cut_all l (empty_chart 1))
    ∙ cut-actions (reach 0 l) (with_all (empty_chart 1) l)

pub answer-cut : (l : List Said) → answer_of (all_clipped clip l) ≡ answer_of l
answer-cut l =
    order-clipped l 0 _
    ∙ ap (in_order 0 l)
    (ap (λ (c : Chart). closed (chart_code c) c) (chart-cut l)
    ∙ closed-cut (chart_said l) (bare-actions (reach 0 l) (with_all (empty_chart 1) l) (bare-all l (empty_chart 1) (λ i h. bare-empty 256 i))))
