-- A chart's file is read back as the chart, as far as its counts reach: record after record, the chart so far is the first records of it.
use Prim.Native.Nat.{ℕ, zero, suc, ◌+◌, ◌-◌, ◌≤◌, ◌<◌}
use mathlib.Core.List.{List, [], ◌++◌}
use mathlib.Core.Bool.{Bool, true, false, cond}
use mathlib.Core.Path.{◌≡◌, refl, ap, ◌∙◌}
use native.Mathlib.Numerals.{add-one}
use native.Mathlib.Omega.{arith}
use lib.IntN.{pos}
use lib.ListN.{length, get_or, set, length-set}
use lib.Seq.{get_or-set_same, get_or-set_other}
use lib.Dec.{ltb, eqb}
use borrow.Author.Tests.{lt-ltb, ltb-true, eqb-true, eqb-false}
use Rattle.sets.specs.Loops.{table_from}
use Rattle.sets.proofs.Loops.{bool_eq, some_same, first-zero, length-table, get_or-table, is-table}
use Rattle.fields.specs.Fields.{timed, unless}
use Rattle.chart.specs.Chart.{empty_chart}
use Rattle.chart.specs.Held.{steps_code, step_fits_at, actions_code, action_fits_at, transitions_code, transition_code_at, blocks_code, block_fits_at, cases_code, case_fits_at, initial_at, some_initial, timed_twice, chart_code}
use Rattle.chart.specs.declared.chart.Chart.{Chart}
use Rattle.chart.proofs.held.Laws.{Limits, limits, twice_same}
use Rattle.chart.proofs.held.Sound.{Zero, is_zero}
use Rattle.reader.specs.Framing.{record_bytes}
use Rattle.judging.specs.Judging.{limited}
use Rattle.reader.specs.Bodies.{kind_of, record_of}
use Rattle.reader.specs.Reading.{accepted, with_body, number_in, read_from, read_chart}
use Rattle.judging.specs.declared.Body.{Body}
use Rattle.reader.specs.Answer.{Reading}
use Rattle.reader.proofs.reading.Kept.{one-or-two}
use Rattle.writer.specs.Writing.{step_in, action_in, transition_in, block_in, case_in, edition_in, joined, records, step_records, action_records, transition_records, block_records, case_records, edition_records, chart_records, file_of}
use Rattle.writer.specs.Back.{up_to, first_records, as_counted, Typed}
use Rattle.writer.proofs.One.{Part, whole, split, Faithful, read_one, read-end, Sized, faithful}

-- ---- the records of one kind

-- reading on from a place gives R, after any kind that may stand before it
abbrev Reads : Reading → List ℕ → ℕ → ℕ → Chart → Type 0
Reads R s at most c = (before fuel : ℕ) → before ≤ most → length s - at < fuel → read_from fuel s at before c ≡ R

-- one more record of kind k, and the chart with it
record Turn (k : ℕ) (c : Chart) (b : Body) (d : Chart) : Type 0 where
  kind : kind_of b ≡ k
  fits : Faithful b
  number : number_in c b ≡ 0
  more : with_body c b ≡ d

module _ (R : Reading) (s : List ℕ) (k : ℕ) where
  reads-one : (at stop : ℕ) (c d : Chart) (b : Body) → Turn k c b d → Part s at (record_of b) stop → Reads R s stop k d → Reads R s at k c
  reads-one at stop c d b x p r before zero h l = absurd (omega arith)
  reads-one at stop c d b x p r before (suc fuel) h l =
      let e = p.ends in
      let i = p.inside in
      read_one s at fuel before c stop b p x.fits (rw x.kind h) x.number
      ∙ rw (x.kind, x.more) (r k fuel (omega arith) (omega arith))

  reads-records : (body : ℕ → Body) (g : ℕ → Chart) (n at stop : ℕ) → ((i : ℕ) → i < n → Turn k (g i) (body i) (g (i + 1)))
      → Part s at (records body n) stop → Reads R s stop k (g n) → Reads R s at k (g 0)
  unfolding joined
  reads-records body g zero at stop x p r = let e = p.ends in let q : at ≡ stop = omega arith in rw q r
  reads-records body g (suc n) at stop x p r =
      let y = split s at (records body n) (record_of (body n)) stop p in
      reads-records body g n at _ (λ i h. x i (omega arith)) y.0
      (reads-one (at + length (records body n)) stop (g n) (g (suc n)) (body n) (rw add-one at (x n (omega arith))) y.1 r)

-- ---- the charts so far

module _ {A : Type 0} (d : A) (limit : ℕ) where
  up_get : (n : ℕ) (l : List A) (i : ℕ) → i < n → n ≤ limit → get_or (up_to d limit n l) i d ≡ get_or l i d
  up_get n l i h k = get_or-table (λ i. cond (ltb i n) (get_or l i d) d) limit i d (omega arith) ∙ rw (lt-ltb i n h)

  up_more : (n : ℕ) (l : List A) → n < limit → set (up_to d limit n l) n (get_or l n d) ≡ up_to d limit (n + 1) l
  up_more n l h =
      is-table (λ i. cond (ltb i (n + 1)) (get_or l i d) d) limit (set t n (get_or l n d)) d (length-set t n (get_or l n d) ∙ long) (λ i k. go i k (eqb i n) refl)
    where
      t : List A
      t = up_to d limit n l

      long : length t ≡ limit
      long = length-table (λ i. cond (ltb i n) (get_or l i d) d) limit

      other : (i : ℕ) → (i ≡ n → ⊥) → ltb i n ≡ ltb i (n + 1)
      other i z =
          bool_eq (ltb i n) (ltb i (n + 1)) (λ e. lt-ltb i (n + 1) (omega (arith, ltb-true i n e))) (λ e. lt-ltb i n (omega (arith, ltb-true i (n + 1) e)))

      go : (i : ℕ) → i < limit → (b : Bool) → eqb i n ≡ b → get_or (set t n (get_or l n d)) i d ≡ cond (ltb i (n + 1)) (get_or l i d) d
      go i k true e =
          rw (eqb-true i n e, lt-ltb n (n + 1) (omega arith)) (get_or-set_same t n (get_or l n d) d (rw long h))
      go i k false e =
          get_or-set_other t n i (get_or l n d) d (eqb-false i n e)
          ∙ get_or-table (λ i. cond (ltb i n) (get_or l i d) d) limit i d k
          ∙ ap (λ (b : Bool). cond b (get_or l i d) d) (other i (eqb-false i n e))

none_yet : (c : Chart) → empty_chart 1 ≡ first_records 0 0 0 0 0 1 c
unfolding table_from
none_yet c = refl

-- ---- each record of a chart that passed the test

turn : {k : ℕ} {c d : Chart} (b : Body) → kind_of b ≡ k → c.steps ≤ 64 → c.actions ≤ 32 → Sized b → number_in c b ≡ 0 → with_body c b ≡ d → Turn k c b d
turn {c} b q l m z e f = record { kind = q; fits = faithful c b e l m z; number = e; more = f }

has_room : (n limit : ℕ) {code : ℕ} → n < limit → code ≡ 0 → limited (ltb n limit) code ≡ 0
has_room n limit h e = rw (lt-ltb n limit h) e

module _ (c : Chart) (t : Typed c) (z : Zero c) (l : Limits c.steps c.actions c.transitions c.blocks c.cases) (i : ℕ) where
  step-turn : i < c.steps → Turn 1 (first_records i 0 0 0 0 1 c) (step_in c.initial i) (first_records (i + 1) 0 0 0 0 1 c)
  unfolding steps_code
  step-turn h =
      let m = l.steps in
      let e = first-zero (λ j. unless (step_fits_at c.initial j) 5) c.steps z.steps i h in
      turn (step_in c.initial i) refl (omega arith) (omega arith) tt (has_room i 64 (omega arith) e)
      (rw (up_more 0 64 i c.initial (omega arith)))

  action-turn : i < c.actions → Turn 2 (first_records c.steps i 0 0 0 1 c) (action_in c.output c.value i) (first_records c.steps (i + 1) 0 0 0 1 c)
  unfolding actions_code
  action-turn h =
      let m = l.actions in
      let e = first-zero (λ j. unless (action_fits_at c.output j) 5) c.actions z.actions i h in
      turn (action_in c.output c.value i) refl l.steps (omega arith) (t.value i) (has_room i 32 (omega arith) e)
      (rw (up_more 0 32 i c.output (omega arith), up_more (pos 0) 32 i c.value (omega arith)))

  transition-turn : i < c.transitions
      → Turn 3 (first_records c.steps c.actions i 0 0 1 c) (transition_in c.sources c.targets c.on c.off c.wait i) (first_records c.steps c.actions (i + 1) 0 0 1 c)
  unfolding transitions_code
  transition-turn h =
      let m = l.transitions in
      let k : i < 64 = omega arith in
      let e = first-zero (transition_code_at c.steps c.actions c.sources c.targets c.on c.off c.wait) c.transitions z.transitions i h in
      turn (transition_in c.sources c.targets c.on c.off c.wait i) refl l.steps l.actions (t.sources i, t.targets i, t.on i, t.off i) (has_room i 64 k e)
      (rw (up_more 0 64 i c.sources k, up_more 0 64 i c.targets k, up_more 0 64 i c.on k, up_more 0 64 i c.off k, up_more 0 64 i c.wait k))

  block-turn : i < c.blocks
      → Turn 4 (first_records c.steps c.actions c.transitions i 0 1 c) (block_in c.blockstep c.blockaction c.qualifier c.duration i) (first_records c.steps c.actions c.transitions (i + 1) 0 1 c)
  unfolding blocks_code
  block-turn h =
      let m = l.blocks in
      let k : i < 256 = omega arith in
      let e = first-zero (λ j. unless (block_fits_at c.steps c.actions c.blockstep c.blockaction c.qualifier c.duration j) 5) c.blocks z.blocks i h in
      turn (block_in c.blockstep c.blockaction c.qualifier c.duration i) refl l.steps l.actions tt (has_room i 256 k e)
      (rw (up_more 0 256 i c.blockstep k, up_more 0 256 i c.blockaction k, up_more 0 256 i c.qualifier k, up_more 0 256 i c.duration k))

  case-turn : i < c.cases
      → Turn 5 (first_records c.steps c.actions c.transitions c.blocks i 1 c) (case_in c.casestep c.signal c.expected i) (first_records c.steps c.actions c.transitions c.blocks (i + 1) 1 c)
  unfolding cases_code
  case-turn h =
      let m = l.cases in
      let k : i < 64 = omega arith in
      let e = first-zero (λ j. unless (case_fits_at c.steps c.actions c.casestep c.signal c.expected j) 5) c.cases z.cases i h in
      turn (case_in c.casestep c.signal c.expected i) refl l.steps l.actions tt (has_room i 64 k e)
      (rw (up_more 0 64 i c.casestep k, up_more 0 64 i c.signal k, up_more 0 64 i c.expected k))

  edition-turn : i < c.edition - 1
      → Turn 6 (first_records c.steps c.actions c.transitions c.blocks c.cases (i + 1) c) (edition_in i) (first_records c.steps c.actions c.transitions c.blocks c.cases (i + 1 + 1) c)
  edition-turn h =
      let m = one-or-two c.edition z.edition in
      let k : i ≡ 0 = omega arith in
      turn (edition_in i) refl l.steps l.actions tt (has_room (i + 1) 2 (omega arith) refl) (rw k)

-- ---- the end: the closing tests look only below the counts

initial-same : (n : ℕ) (l : List ℕ) → n ≤ 64 → some_initial n (up_to 0 64 n l) ≡ some_initial n l
unfolding some_initial
initial-same n l m = some_same (initial_at (up_to 0 64 n l)) (initial_at l) n (λ k h. ap (λ (x : ℕ). eqb x 1) (up_get 0 64 n l k h m))

timed-same : (n : ℕ) (a q : List ℕ) → n ≤ 256 → timed_twice n (up_to 0 256 n a) (up_to 0 256 n q) ≡ timed_twice n a q
timed-same n a q m =
    twice_same n (up_to 0 256 n a) a (up_to 0 256 n q) q (λ i l. up_get 0 256 n a i l m) (λ i l. ap timed (up_get 0 256 n q i l m))

-- ---- the whole file

module _ (c : Chart) (t : Typed c) (z : Zero c) (l : Limits c.steps c.actions c.transitions c.blocks c.cases) (s : List ℕ) where
  reads_end : (at : ℕ) → Part s at (record_bytes 0 []) (length s) → Reads (accepted (as_counted c)) s at 6 (as_counted c)
  reads_end at p before zero h k = absurd (omega arith)
  reads_end at p before (suc fuel) h k =
      read-end s at fuel before (as_counted c) p (rw (initial-same c.steps c.initial l.steps, timed-same c.blocks c.blockaction c.qualifier l.blocks) z.closing)

  reads_all : Part s 0 (chart_records c ++ record_bytes 0 []) (length s) → read_chart s ≡ accepted (as_counted c)
  reads_all p =
      let R = accepted (as_counted c) in
      let p₆ = split s 0 (chart_records c) (record_bytes 0 []) (length s) p in
      let p₅ = split s 0 (step_records c ++ action_records c ++ transition_records c ++ block_records c ++ case_records c) (edition_records c) _ p₆.0 in
      let p₄ = split s 0 (step_records c ++ action_records c ++ transition_records c ++ block_records c) (case_records c) _ p₅.0 in
      let p₃ = split s 0 (step_records c ++ action_records c ++ transition_records c) (block_records c) _ p₄.0 in
      let p₂ = split s 0 (step_records c ++ action_records c) (transition_records c) _ p₃.0 in
      let p₁ = split s 0 (step_records c) (action_records c) _ p₂.0 in
      let n : c.edition - 1 + 1 ≡ c.edition = omega (arith, (one-or-two c.edition z.edition).0) in
      let e₆ = reads-records R s 6 _ (λ i. first_records c.steps c.actions c.transitions c.blocks c.cases (i + 1) c) (c.edition - 1) _ _ (edition-turn c t z l) p₅.1 (rw n (reads_end _ p₆.1)) in
      let e₅ = reads-records R s 5 _ (λ i. first_records c.steps c.actions c.transitions c.blocks i 1 c) c.cases _ _ (case-turn c t z l) p₄.1 (λ b f h. e₆ b f (omega arith)) in
      let e₄ = reads-records R s 4 _ (λ i. first_records c.steps c.actions c.transitions i 0 1 c) c.blocks _ _ (block-turn c t z l) p₃.1 (λ b f h. e₅ b f (omega arith)) in
      let e₃ = reads-records R s 3 _ (λ i. first_records c.steps c.actions i 0 0 1 c) c.transitions _ _ (transition-turn c t z l) p₂.1 (λ b f h. e₄ b f (omega arith)) in
      let e₂ = reads-records R s 2 _ (λ i. first_records c.steps i 0 0 0 1 c) c.actions _ _ (action-turn c t z l) p₁.1 (λ b f h. e₃ b f (omega arith)) in
      let e₁ = reads-records R s 1 _ (λ i. first_records i 0 0 0 0 1 c) c.steps _ _ (step-turn c t z l) p₁.0 (λ b f h. e₂ b f (omega arith)) in
      ap (read_from (length s + 1) s 0 0) (none_yet c) ∙ e₁ 0 (length s + 1) (omega arith) (omega arith)

pub read-file : (c : Chart) → Typed c → chart_code c ≡ 0 → read_chart (file_of c) ≡ accepted (as_counted c)
unfolding file_of
read-file c t e =
    let z = is_zero c e in
    reads_all c t z (limits _ _ _ _ _ z.limits) (file_of c) (whole (file_of c))
