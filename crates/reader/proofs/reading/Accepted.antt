-- What is true of every accepted reading: it passes the held test, it is zero beyond its counts, and its file has at most 6,441 bytes.
-- A refused one has the all-zero chart.
use Prim.Native.Nat.{ℕ, zero, suc, ◌+◌, ◌≤◌}
use mathlib.Core.List.{List}
use mathlib.Core.Bool.{Bool, true, false, cond}
use mathlib.Core.Path.{◌≡◌, refl, sym, ap, ◌∙◌}
use lib.IntN.{pos}
use lib.ListN.{length}
use lib.Dec.{ltb, eqb}
use native.Mathlib.Omega.{arith}
use borrow.Author.Tests.{le-leb, eqb-true, eqb-false, ltb-false}
use Rattle.sets.specs.Loops.{or_else}
use Rattle.fields.specs.Fields.{unless}
use Rattle.chart.specs.Chart.{empty_chart, no_chart}
use Rattle.chart.specs.Held.{limits_fit, closing_code, held_code, chart_code}
use Rattle.chart.specs.declared.chart.Chart.{Chart}
use Rattle.chart.proofs.held.Laws.{Limits}
use Rattle.reader.specs.Framing.{length_at, kind_at, body_length, record_number}
use Rattle.reader.specs.Bodies.{body_at}
use Rattle.reader.specs.Reading.{refused, accepted, closed, ended, with_body, number_in, taken, read_from, read_chart}
use Rattle.judging.specs.declared.Body.{Body}
use Rattle.reader.specs.Answer.{Reading}
use Rattle.reader.proofs.framing.Laws.{Headed, is-headed, Known, is_known}
use Rattle.reader.proofs.reading.Kept.{Column, Kept, one-or-two, kept-start, kept_step, kept-action, kept-transition, kept_block, kept_case, kept-edition}

-- "zeros beyond its counts"
pub record Padded (c : Chart) : Type 0 where
  pub initial : Column 0 64 c.steps c.initial
  pub output : Column 0 32 c.actions c.output
  pub value : Column (pos 0) 32 c.actions c.value
  pub sources : Column 0 64 c.transitions c.sources
  pub targets : Column 0 64 c.transitions c.targets
  pub on : Column 0 64 c.transitions c.on
  pub off : Column 0 64 c.transitions c.off
  pub wait : Column 0 64 c.transitions c.wait
  pub blockstep : Column 0 256 c.blocks c.blockstep
  pub blockaction : Column 0 256 c.blocks c.blockaction
  pub qualifier : Column 0 256 c.blocks c.qualifier
  pub duration : Column 0 256 c.blocks c.duration
  pub casestep : Column 0 64 c.cases c.casestep
  pub signal : Column 0 64 c.cases c.signal
  pub expected : Column 0 64 c.cases c.expected

pub record Accepted (s : List ℕ) (r : Reading) : Type 0 where
  pub place : r.place ≡ 0
  pub passes : chart_code r.chart ≡ 0
  pub padded : Padded r.chart
  pub short : length s ≤ 6441

-- ---- where an accepted reading ends

-- `Inv` holds of the chart that is answered, at a place where the end record stands, and nothing follows it
pub record Ends (s : List ℕ) (Inv : ℕ → ℕ → Chart → Type 0) (r : Reading) : Type 0 where
  pub at : ℕ
  pub before : ℕ
  pub inv : Inv at before r.chart
  pub headed : Headed s at before
  pub over : kind_at s at ≡ 0
  pub size : length s ≡ at + 4
  pub closing : closing_code r.chart.steps r.chart.blocks r.chart.initial r.chart.blockaction r.chart.qualifier ≡ 0
  pub place : r.place ≡ 0

module _ (s : List ℕ) (Inv : ℕ → ℕ → Chart → Type 0) where
  module _ (at before : ℕ) (c : Chart) (i : Inv at before c) (h : Headed s at before) (o : kind_at s at ≡ 0) where
    closes : (m : ℕ) → m ≡ closing_code c.steps c.blocks c.initial c.blockaction c.qualifier → length s ≤ at + 4
        → (closed m c).code ≡ 0 → Ends s Inv (closed m c)
    closes m e l = go (eqb m 0) refl
      where
        go : (t : Bool) → eqb m 0 ≡ t → (cond t (accepted c) (refused m 0)).code ≡ 0 → Ends s Inv (cond t (accepted c) (refused m 0))
        go true q z =
            let b = h.begins in
            record { at = at; before = before; inv = i; headed = h; over = o; size = omega arith; closing = sym e ∙ eqb-true _ _ q; place = refl }
        go false q z = absurd (eqb-false m 0 q z)

    ends : (ended (length s) (at + 4) c).code ≡ 0 → Ends s Inv (ended (length s) (at + 4) c)
    ends = go (ltb (at + 4) (length s)) refl
      where
        go : (t : Bool) → ltb (at + 4) (length s) ≡ t → (cond t (refused 10 (at + 4)) (closed (closing_code c.steps c.blocks c.initial c.blockaction c.qualifier) c)).code ≡ 0
            → Ends s Inv (cond t (refused 10 (at + 4)) (closed (closing_code c.steps c.blocks c.initial c.blockaction c.qualifier) c))
        go true e z = let y : ◌≡◌ {A = ℕ} 10 0 = z in absurd (omega arith)
        go false e z = closes (closing_code c.steps c.blocks c.initial c.blockaction c.qualifier) refl (ltb-false _ _ e) z

  -- one turn, where reading on is accepted only so
  module _ (at before : ℕ) (c : Chart) (i : Inv at before c) (onward : Chart → Reading)
      (so : (d : Chart) → Inv (at + 4 + length_at s at) (kind_at s at) d → (onward d).code ≡ 0 → Ends s Inv (onward d))
      (b : Body) (more : Headed s at before → Known s before (kind_at s at) (at + 4) → number_in c b ≡ 0 → Inv (at + 4 + length_at s at) (kind_at s at) (with_body c b)) where
    body : (t : Bool) → eqb (number_in c b) 0 ≡ t → 0 ≡ record_number s at before → (kind_at s at ≡ 0 → ⊥)
        → (cond t (onward (with_body c b)) (refused (number_in c b) at)).code ≡ 0 → Ends s Inv (cond t (onward (with_body c b)) (refused (number_in c b) at))
    body true e n x z =
        let h = is-headed s at before n in
        let w = is_known s at before _ _ _ (record { number = n; headed = h; kind = refl; place = refl; size = refl; some = x }) in
        so (with_body c b) (more h w (eqb-true (number_in c b) 0 e)) z
    body false e n x z = absurd (eqb-false (number_in c b) 0 e z)

    kind : (t : Bool) → eqb (kind_at s at) 0 ≡ t → 0 ≡ record_number s at before
        → (cond t (ended (length s) (at + 4) c) (taken at c b onward)).code ≡ 0 → Ends s Inv (cond t (ended (length s) (at + 4) c) (taken at c b onward))
    kind true e n z = ends at before c i (is-headed s at before n) (eqb-true _ _ e) z
    kind false e n z = body (eqb (number_in c b) 0) refl n (eqb-false _ _ e) z

    head : (t : Bool) → eqb (record_number s at before) 0 ≡ t
        → (cond t (cond (eqb (kind_at s at) 0) (ended (length s) (at + 4) c) (taken at c b onward)) (refused (record_number s at before) at)).code ≡ 0
        → Ends s Inv (cond t (cond (eqb (kind_at s at) 0) (ended (length s) (at + 4) c) (taken at c b onward)) (refused (record_number s at before) at))
    head true e z = kind (eqb (kind_at s at) 0) refl (sym (eqb-true _ _ e)) z
    head false e z = absurd (eqb-false (record_number s at before) 0 e z)

  -- `Inv` at the start, and after each accepted record
  module _ (more : (at before : ℕ) (c : Chart) → Inv at before c → Headed s at before → Known s before (kind_at s at) (at + 4)
      → number_in c (body_at s (kind_at s at) (at + 4)) ≡ 0 → Inv (at + 4 + length_at s at) (kind_at s at) (with_body c (body_at s (kind_at s at) (at + 4)))) where
    reads : (f at before : ℕ) (c : Chart) → Inv at before c → (read_from f s at before c).code ≡ 0 → Ends s Inv (read_from f s at before c)
    unfolding read_from
    reads zero at before c i z = let y : ◌≡◌ {A = ℕ} 1 0 = z in absurd (omega arith)
    reads (suc f) at before c i z =
        head at before c i (read_from f s (at + 4 + length_at s at) (kind_at s at)) (λ d o y. reads f (at + 4 + length_at s at) (kind_at s at) d o y)
        (body_at s (kind_at s at) (at + 4)) (more at before c i) (eqb (record_number s at before) 0) refl z

    pub read-ends : Inv 0 0 (empty_chart 1) → (read_chart s).code ≡ 0 → Ends s Inv (read_chart s)
    read-ends i z = reads (length s + 1) 0 0 (empty_chart 1) i z

-- ---- what is kept to the end

-- what holds of each kind that has a body
pub by_kind : (P : ℕ → Type 0) → P 1 → P 2 → P 3 → P 4 → P 5 → P 6 → (k : ℕ) → 1 ≤ k → k ≤ 6 → P k
by_kind P a b c d e f zero l m = absurd (omega arith)
by_kind P a b c d e f (suc zero) l m = a
by_kind P a b c d e f (suc (suc zero)) l m = b
by_kind P a b c d e f (suc (suc (suc zero))) l m = c
by_kind P a b c d e f (suc (suc (suc (suc zero)))) l m = d
by_kind P a b c d e f (suc (suc (suc (suc (suc zero))))) l m = e
by_kind P a b c d e f (suc (suc (suc (suc (suc (suc zero)))))) l m = f
by_kind P a b c d e f (suc (suc (suc (suc (suc (suc (suc k))))))) l m = absurd (omega arith)

pub kept_on : (s : List ℕ) (at before : ℕ) (c : Chart) → Kept at before c → Headed s at before → Known s before (kind_at s at) (at + 4)
    → number_in c (body_at s (kind_at s at) (at + 4)) ≡ 0 → Kept (at + 4 + length_at s at) (kind_at s at) (with_body c (body_at s (kind_at s at) (at + 4)))
unfolding body_at
kept_on s at before c h g w =
    rw g.sized
    (by_kind (λ k. before ≤ k → number_in c (body_at s k (at + 4)) ≡ 0 → Kept (at + 4 + body_length k) k (with_body c (body_at s k (at + 4))))
    (kept_step at before c h _)
    (kept-action at before c h _ _)
    (kept-transition at before c h _ _ _ _ _)
    (kept_block at before c h _ _ _ _)
    (kept_case at before c h _ _ _)
    (kept-edition at before c h _)
    (kind_at s at) w.least w.most w.later)

both_zero : {a b : ℕ} → a ≡ 0 → b ≡ 0 → or_else a b ≡ 0
both_zero {a} {b} e f = rw (e) f

limits-hold : (s a t b c : ℕ) → Limits s a t b c → limits_fit s a t b c ≡ true
limits-hold s a t b c l =
    rw (le-leb s 64 l.steps, le-leb a 32 l.actions, le-leb t 64 l.transitions, le-leb b 256 l.blocks, le-leb c 64 l.cases)

held-zero : (at before : ℕ) (c : Chart) → Kept at before c → closing_code c.steps c.blocks c.initial c.blockaction c.qualifier ≡ 0 → chart_code c ≡ 0
unfolding held_code
held-zero at before c k z =
    both_zero (ap (λ (fit : Bool). unless fit 4) (limits-hold _ _ _ _ _ k.limits))
    (both_zero k.steps-fine (both_zero k.actions-fine (both_zero k.transitions-fine (both_zero k.blocks-fine (both_zero k.cases-fine (both_zero (ap (λ (fit : Bool). unless fit 5) k.edition-fine) z))))))

padding : (at before : ℕ) (c : Chart) → Kept at before c → Padded c
padding at before c k = record {
  initial = k.initial;
  output = k.output;
  value = k.value;
  sources = k.sources;
  targets = k.targets;
  on = k.on;
  off = k.off;
  wait = k.wait;
  blockstep = k.blockstep;
  blockaction = k.blockaction;
  qualifier = k.qualifier;
  duration = k.duration;
  casestep = k.casestep;
  signal = k.signal;
  expected = k.expected;
}

pub read-accepted : (s : List ℕ) → (read_chart s).code ≡ 0 → Accepted s (read_chart s)
read-accepted s z =
    let e = read-ends s Kept (kept_on s) kept-start z in
    let k = e.inv in
    let b = k.size in
    let h = k.limits in
    let n = e.size in
    let d = (one-or-two (read_chart s).chart.edition k.edition-fine).1 in
    record { place = e.place; passes = held-zero _ _ _ k e.closing; padded = padding _ _ _ k; short = omega arith }

-- ---- a refused reading

abbrev Clean : Reading → Type 0
Clean r = (r.code ≡ 0 → ⊥) → r.chart ≡ no_chart

clean-either : (t : Bool) (x y : Reading) → Clean x → Clean y → Clean (cond t x y)
clean-either true x y a b = a
clean-either false x y a b = b

clean-refused : (n p : ℕ) → Clean (refused n p)
clean-refused n p z = refl

clean-closed : (n : ℕ) (c : Chart) → Clean (closed n c)
clean-closed n c = clean-either (eqb n 0) (accepted c) (refused n 0) (λ z. absurd (z refl)) (clean-refused n 0)

clean-ended : (size next : ℕ) (c : Chart) → Clean (ended size next c)
clean-ended size next c =
    let n = closing_code c.steps c.blocks c.initial c.blockaction c.qualifier in
    clean-either (ltb next size) (refused 10 next) (closed n c) (clean-refused 10 next) (clean-closed n c)

clean-taken : (at : ℕ) (c : Chart) (b : Body) (onward : Chart → Reading) → Clean (onward (with_body c b)) → Clean (taken at c b onward)
clean-taken at c b onward h =
    clean-either (eqb (number_in c b) 0) (onward (with_body c b)) (refused (number_in c b) at) h (clean-refused (number_in c b) at)

clean : (f : ℕ) (s : List ℕ) (at before : ℕ) (c : Chart) → Clean (read_from f s at before c)
unfolding read_from
clean zero s at before c = clean-refused 1 at
clean (suc f) s at before c =
    let k = kind_at s at in
    let b = body_at s k (at + 4) in
    let onward = read_from f s (at + 4 + length_at s at) k in
    let over = ended (length s) (at + 4) c in
    clean-either (eqb (record_number s at before) 0) (cond (eqb k 0) over (taken at c b onward)) (refused (record_number s at before) at)
    (clean-either (eqb k 0) over (taken at c b onward) (clean-ended (length s) (at + 4) c)
    (clean-taken at c b onward (clean f s (at + 4 + length_at s at) (kind_at s at) (with_body c (body_at s (kind_at s at) (at + 4))))))
    (clean-refused (record_number s at before) at)

pub read-refused : (s : List ℕ) → ((read_chart s).code ≡ 0 → ⊥) → (read_chart s).chart ≡ no_chart
read-refused s = clean (length s + 1) s 0 0 (empty_chart 1)
