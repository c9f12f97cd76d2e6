-- "Writing what was read gives the same bytes": after each record that is read, the records of the chart so far are the bytes so far.
use Prim.Native.Nat.{ℕ, zero, suc, ◌+◌, ◌-◌, ◌^◌, ◌≤◌, ◌<◌}
use mathlib.Core.List.{List, [], ◌∷◌, ◌++◌, append-nil, append_assoc}
use mathlib.Core.Path.{◌≡◌, refl, sym, ap, ◌∙◌}
use native.Mathlib.Nat.{pow-suc}
use native.Mathlib.Numerals.{add-one}
use native.Mathlib.Omega.{arith}
use lib.IntN.{ℤ, pos}
use lib.Dec.{ltb}
use lib.ListN.{length, set, length-append}
use mir.Syntax.{w32}
use mir.Facts.{of_z-to_z}
use Rattle.fields.specs.Fields.{unless, second}
use Rattle.chart.specs.Chart.{empty_chart}
use Rattle.chart.specs.declared.chart.Chart.{Chart}
use Rattle.reader.specs.Numbers.{le}
use Rattle.reader.specs.Framing.{length_at, kind_at, widths, body_length, record_bytes}
use Rattle.reader.specs.Bodies.{body_of, kind_of, fields_of, fields_at, body_at, record_of}
use Rattle.reader.specs.Reading.{with_body, number_in, read_chart}
use Rattle.judging.specs.declared.Body.{Body}
use Rattle.judging.specs.declared.Body.TheVariants.{Step, Action, Transition, Block, Case, Edition}
use Rattle.reader.proofs.framing.Laws.{Headed, Known}
use Rattle.reader.proofs.reading.Kept.{Kept, kept-start, older, newest, one-or-two, is-second}
use Rattle.reader.proofs.reading.Laws.{room, limited-zero}
use Rattle.reader.proofs.reading.Accepted.{read-ends, by_kind, kept_on}
use Rattle.writer.specs.Writing.{step_in, action_in, transition_in, block_in, case_in, edition_in, joined, records, step_records, action_records, transition_records, block_records, case_records, edition_records, chart_records, file_of}
use Rattle.writer.specs.Back.{Bytes}
use Rattle.writer.proofs.Standing.{Stands, stands-both, stands_same, numbers-stand}

-- ---- the record that was read is the record that is written

le-lt : (s : List ℕ) → Bytes s → (w at : ℕ) → le w s at < 256 ^ w
le-lt s b zero at = omega arith
le-lt s b (suc w) at = rw (pow-suc 256 w) (omega (arith, b at, le-lt s b w (at + 1)))

module _ (s : List ℕ) (b : Bytes s) where
  -- the fields of the body are those that were read, and its kind is that of the record
  fields-again : (at k : ℕ) → 1 ≤ k → k ≤ 6 → (kind_of (body_of k (fields_at s k at)) ≡ k) × (fields_of (body_of k (fields_at s k at)) ≡ fields_at s k at)
  fields-again at =
      by_kind (λ k. (kind_of (body_of k (fields_at s k at)) ≡ k) × (fields_of (body_of k (fields_at s k at)) ≡ fields_at s k at))
      (refl, refl)
      (refl, ap (λ (v : ℕ). le 1 s at ∷ v ∷ []) (of_z-to_z {w = w32} (record { fits = le-lt s b 4 (at + 1) })))
      (refl, refl) (refl, refl) (refl, refl) (refl, refl)

  record-stands : (at k : ℕ) (fields : List ℕ) → length_at s at ≡ body_length k → kind_at s at ≡ k → fields ≡ fields_at s k (at + 4) → Stands s at (record_bytes k fields)
  record-stands at k fields e f g =
      let p : at + 2 + 2 ≡ at + 4 = omega arith in
      rw (p, e, f, ← g) at (numbers-stand s b (2 ∷ 2 ∷ widths k) at)

  body-stands : (at before : ℕ) → Headed s at before → Known s before (kind_at s at) (at + 4) → Stands s at (record_of (body_at s (kind_at s at) (at + 4)))
  unfolding body_at
  body-stands at before h w =
      let a = fields-again (at + 4) (kind_at s at) w.least w.most in
      rw (a.0, a.1) (record-stands at (kind_at s at) _ h.sized refl refl)

-- ---- a chart with one more record has its bytes behind the others

records-same : (f g : ℕ → Body) (n : ℕ) → ((i : ℕ) → i < n → g i ≡ f i) → records g n ≡ records f n
unfolding joined
records-same f g zero h = refl
records-same f g (suc n) h = rw (records-same f g n (λ i k. h i (omega arith)), h n (omega arith))

-- q is p with x behind it
record Grown (p q x : List ℕ) : Type 0 where
  is : q ≡ p ++ x

-- a part behind it that is empty changes nothing, nor does what stands before
then-none : {p q x a : List ℕ} → Grown p q x → a ≡ [] → Grown (p ++ a) (q ++ a) x
then-none {p} {q} {x} e f = record { is = rw (e.is, f, append-nil (p ++ x), append-nil p) }

after : {p q x : List ℕ} → Grown p q x → (r : List ℕ) → Grown (r ++ p) (r ++ q) x
after {p} {q} {x} e r = record { is = ap (λ (y : List ℕ). r ++ y) e.is ∙ sym (append_assoc r p x) }

-- the records before are as they were, and the new one is b
records-more : (f g : ℕ → Body) (n : ℕ) (b : Body) → ((i : ℕ) → i < n → g i ≡ f i) → g n ≡ b → Grown (records f n) (records g (n + 1)) (record_of b)
unfolding joined
records-more f g n b h e = record { is = rw (add-one, records-same f g n h, e) }

records-none : (f : ℕ → Body) (n : ℕ) → n ≡ 0 → records f n ≡ []
unfolding joined
records-none f n e = rw e

-- the kinds above the last one read have no record yet, so the edition is the first
record Ordered (before : ℕ) (c : Chart) : Type 0 where
  actions : before < 2 → c.actions ≡ 0
  transitions : before < 3 → c.transitions ≡ 0
  blocks : before < 4 → c.blocks ≡ 0
  cases : before < 5 → c.cases ≡ 0
  edition : before < 6 → c.edition ≡ 1

module _ (at before : ℕ) (c : Chart) (h : Kept at before c) (o : Ordered before c) where
  no-actions : before < 2 → action_records c ≡ []
  no-actions l = records-none (action_in c.output c.value) c.actions (o.actions l)

  no-transitions : before < 3 → transition_records c ≡ []
  no-transitions l = records-none (transition_in c.sources c.targets c.on c.off c.wait) c.transitions (o.transitions l)

  no_blocks : before < 4 → block_records c ≡ []
  no_blocks l = records-none (block_in c.blockstep c.blockaction c.qualifier c.duration) c.blocks (o.blocks l)

  no_cases : before < 5 → case_records c ≡ []
  no_cases l = records-none (case_in c.casestep c.signal c.expected) c.cases (o.cases l)

  no-edition : before < 6 → edition_records c ≡ []
  no-edition l = let e = o.edition l in records-none edition_in (c.edition - 1) (omega arith)

  more-step : (v : ℕ) → before ≤ 1 → number_in c (Step v) ≡ 0 → Grown (chart_records c) (chart_records (with_body c (Step v))) (record_of (Step v))
  more-step v l z =
      let r = room c (Step v) z in
      let e = records-more (step_in c.initial) (step_in (set c.initial c.steps v)) c.steps (Step v)
      (λ i k. rw (older 0 c.initial c.steps v i k)) (rw (newest 0 64 c.steps c.initial v h.initial r)) in
      then-none (then-none (then-none (then-none (then-none e (no-actions (omega arith))) (no-transitions (omega arith))) (no_blocks (omega arith))) (no_cases (omega arith))) (no-edition (omega arith))

  more-action : (v : ℕ) (w : ℤ) → before ≤ 2 → number_in c (Action v w) ≡ 0 → Grown (chart_records c) (chart_records (with_body c (Action v w))) (record_of (Action v w))
  more-action v w l z =
      let r = room c (Action v w) z in
      let n = c.actions in
      let e = records-more (action_in c.output c.value) (action_in (set c.output n v) (set c.value n w)) n (Action v w)
      (λ i k. rw (older 0 c.output n v i k, older (pos 0) c.value n w i k))
      (rw (newest 0 32 n c.output v h.output r, newest (pos 0) 32 n c.value w h.value r)) in
      then-none (then-none (then-none (then-none (after e (step_records c)) (no-transitions (omega arith))) (no_blocks (omega arith))) (no_cases (omega arith))) (no-edition (omega arith))

  more-transition : (v₁ v₂ v₃ v₄ v₅ : ℕ) → before ≤ 3 → number_in c (Transition v₁ v₂ v₃ v₄ v₅) ≡ 0
      → Grown (chart_records c) (chart_records (with_body c (Transition v₁ v₂ v₃ v₄ v₅))) (record_of (Transition v₁ v₂ v₃ v₄ v₅))
  more-transition v₁ v₂ v₃ v₄ v₅ l z =
      let r = room c (Transition v₁ v₂ v₃ v₄ v₅) z in
      let n = c.transitions in
      let e = records-more (transition_in c.sources c.targets c.on c.off c.wait)
      (transition_in (set c.sources n v₁) (set c.targets n v₂) (set c.on n v₃) (set c.off n v₄) (set c.wait n v₅)) n (Transition v₁ v₂ v₃ v₄ v₅)
      (λ i k. rw (older 0 c.sources n v₁ i k, older 0 c.targets n v₂ i k, older 0 c.on n v₃ i k, older 0 c.off n v₄ i k, older 0 c.wait n v₅ i k))
      (rw (newest 0 64 n c.sources v₁ h.sources r, newest 0 64 n c.targets v₂ h.targets r, newest 0 64 n c.on v₃ h.on r, newest 0 64 n c.off v₄ h.off r, newest 0 64 n c.wait v₅ h.wait r)) in
      then-none (then-none (then-none (after e (step_records c ++ action_records c)) (no_blocks (omega arith))) (no_cases (omega arith))) (no-edition (omega arith))

  more-block : (v₁ v₂ v₃ v₄ : ℕ) → before ≤ 4 → number_in c (Block v₁ v₂ v₃ v₄) ≡ 0
      → Grown (chart_records c) (chart_records (with_body c (Block v₁ v₂ v₃ v₄))) (record_of (Block v₁ v₂ v₃ v₄))
  more-block v₁ v₂ v₃ v₄ l z =
      let r = room c (Block v₁ v₂ v₃ v₄) z in
      let n = c.blocks in
      let e = records-more (block_in c.blockstep c.blockaction c.qualifier c.duration)
      (block_in (set c.blockstep n v₁) (set c.blockaction n v₂) (set c.qualifier n v₃) (set c.duration n v₄)) n (Block v₁ v₂ v₃ v₄)
      (λ i k. rw (older 0 c.blockstep n v₁ i k, older 0 c.blockaction n v₂ i k, older 0 c.qualifier n v₃ i k, older 0 c.duration n v₄ i k))
      (rw (newest 0 256 n c.blockstep v₁ h.blockstep r, newest 0 256 n c.blockaction v₂ h.blockaction r, newest 0 256 n c.qualifier v₃ h.qualifier r, newest 0 256 n c.duration v₄ h.duration r)) in
      then-none (then-none (after e (step_records c ++ action_records c ++ transition_records c)) (no_cases (omega arith))) (no-edition (omega arith))

  more-case : (v₁ v₂ v₃ : ℕ) → before ≤ 5 → number_in c (Case v₁ v₂ v₃) ≡ 0
      → Grown (chart_records c) (chart_records (with_body c (Case v₁ v₂ v₃))) (record_of (Case v₁ v₂ v₃))
  more-case v₁ v₂ v₃ l z =
      let r = room c (Case v₁ v₂ v₃) z in
      let n = c.cases in
      let e = records-more (case_in c.casestep c.signal c.expected)
      (case_in (set c.casestep n v₁) (set c.signal n v₂) (set c.expected n v₃)) n (Case v₁ v₂ v₃)
      (λ i k. rw (older 0 c.casestep n v₁ i k, older 0 c.signal n v₂ i k, older 0 c.expected n v₃ i k))
      (rw (newest 0 64 n c.casestep v₁ h.casestep r, newest 0 64 n c.signal v₂ h.signal r, newest 0 64 n c.expected v₃ h.expected r)) in
      then-none (after e (step_records c ++ action_records c ++ transition_records c ++ block_records c)) (no-edition (omega arith))

  more-edition : (v : ℕ) → before ≤ 6 → number_in c (Edition v) ≡ 0 → Grown (chart_records c) (chart_records (with_body c (Edition v))) (record_of (Edition v))
  more-edition v l z =
      let r = room c (Edition v) z in
      let f = is-second v (limited-zero (ltb c.edition 2) (unless (second v) 5) z).1 in
      let m = (one-or-two c.edition h.edition-fine).0 in
      let n : v - 1 ≡ c.edition - 1 + 1 = omega arith in
      let e = records-more edition_in edition_in (c.edition - 1) (Edition v) (λ i k. refl) (rw f) in
      after (rw n e) (step_records c ++ action_records c ++ transition_records c ++ block_records c ++ case_records c)

-- ---- the whole reading

ordered-on : (before : ℕ) (c : Chart) → Ordered before c → (b : Body) → before ≤ kind_of b → Ordered (kind_of b) (with_body c b)
ordered-on before c o (Step i) l = record {
  actions = λ h. o.actions (omega arith);
  transitions = λ h. o.transitions (omega arith);
  blocks = λ h. o.blocks (omega arith);
  cases = λ h. o.cases (omega arith);
  edition = λ h. o.edition (omega arith);
}
ordered-on before c o (Action v w) l = record {
  actions = λ h. absurd (omega arith);
  transitions = λ h. o.transitions (omega arith);
  blocks = λ h. o.blocks (omega arith);
  cases = λ h. o.cases (omega arith);
  edition = λ h. o.edition (omega arith);
}
ordered-on before c o (Transition f g on off w) l = record {
  actions = λ h. absurd (omega arith);
  transitions = λ h. absurd (omega arith);
  blocks = λ h. o.blocks (omega arith);
  cases = λ h. o.cases (omega arith);
  edition = λ h. o.edition (omega arith);
}
ordered-on before c o (Block s a q d) l = record {
  actions = λ h. absurd (omega arith);
  transitions = λ h. absurd (omega arith);
  blocks = λ h. absurd (omega arith);
  cases = λ h. o.cases (omega arith);
  edition = λ h. o.edition (omega arith);
}
ordered-on before c o (Case s n e) l = record {
  actions = λ h. absurd (omega arith);
  transitions = λ h. absurd (omega arith);
  blocks = λ h. absurd (omega arith);
  cases = λ h. absurd (omega arith);
  edition = λ h. o.edition (omega arith);
}
ordered-on before c o (Edition x) l = record {
  actions = λ h. absurd (omega arith);
  transitions = λ h. absurd (omega arith);
  blocks = λ h. absurd (omega arith);
  cases = λ h. absurd (omega arith);
  edition = λ h. absurd (omega arith);
}

grown-on : (at before : ℕ) (c : Chart) → Kept at before c → Ordered before c → (b : Body) → before ≤ kind_of b → number_in c b ≡ 0
    → Grown (chart_records c) (chart_records (with_body c b)) (record_of b)
grown-on at before c h o (Step i) = more-step at before c h o i
grown-on at before c h o (Action v w) = more-action at before c h o v w
grown-on at before c h o (Transition f g on off w) = more-transition at before c h o f g on off w
grown-on at before c h o (Block s a q d) = more-block at before c h o s a q d
grown-on at before c h o (Case s n e) = more-case at before c h o s n e
grown-on at before c h o (Edition x) = more-edition at before c h o x

record-length : (b : Body) → length (record_of b) ≡ 4 + body_length (kind_of b)
record-length (Step i) = refl
record-length (Action v w) = refl
record-length (Transition f g on off w) = refl
record-length (Block s a q d) = refl
record-length (Case s n e) = refl
record-length (Edition x) = refl

-- the records of the chart so far are the bytes in front of the place
record Back (s : List ℕ) (at before : ℕ) (c : Chart) : Type 0 where
  kept : Kept at before c
  ordered : Ordered before c
  stands : Stands s 0 (chart_records c)
  size : length (chart_records c) ≡ at

back_start : (s : List ℕ) → Back s 0 0 (empty_chart 1)
unfolding joined
back_start s = record {
  kept = kept-start;
  ordered = record { actions = λ h. refl; transitions = λ h. refl; blocks = λ h. refl; cases = λ h. refl; edition = λ h. refl };
  stands = tt;
  size = refl;
}

module _ (s : List ℕ) (y : Bytes s) where
  behind-all : (t x : List ℕ) (at : ℕ) → length t ≡ at → Stands s 0 t → Stands s at x → Stands s 0 (t ++ x)
  behind-all t x at e h k = let p : 0 + length t ≡ at = omega arith in stands-both s 0 t x h (rw p k)

  body-kind : (at k : ℕ) → 1 ≤ k → k ≤ 6 → kind_of (body_at s k (at + 4)) ≡ k
  unfolding body_at
  body-kind at k l m = (fields-again s y (at + 4) k l m).0

  back_on : (at before : ℕ) (c : Chart) → Back s at before c → Headed s at before → Known s before (kind_at s at) (at + 4)
      → number_in c (body_at s (kind_at s at) (at + 4)) ≡ 0 → Back s (at + 4 + length_at s at) (kind_at s at) (with_body c (body_at s (kind_at s at) (at + 4)))
  back_on at before c i h w z =
      let k = kind_at s at in
      let b = body_at s k (at + 4) in
      let e = body-kind at k w.least w.most in
      let g = grown-on at before c i.kept i.ordered b (rw e w.later) z in
      record {
        kept = kept_on s at before c i.kept h w z;
        ordered = rw e at (ordered-on before c i.ordered b (rw e w.later));
        stands = rw g.is (behind-all (chart_records c) (record_of b) at i.size i.stands (body-stands s y at before h w));
        size = omega (arith, ap length g.is, length-append (chart_records c) (record_of b), record-length b, ap body_length e, i.size, h.sized);
      }

  pub write-file : (read_chart s).code ≡ 0 → file_of (read_chart s).chart ≡ s
  unfolding file_of
  write-file z =
      let e = read-ends s (Back s) back_on (back_start s) z in
      let i = e.inv in
      let c = (read_chart s).chart in
      let t = record-stands s y e.at 0 [] (rw e.over at e.headed.sized) e.over refl in
      let n : length (chart_records c ++ record_bytes 0 []) ≡ length s = omega (arith, length-append (chart_records c) (record_bytes 0 []), i.size, e.size) in
      stands_same s (chart_records c ++ record_bytes 0 []) (behind-all (chart_records c) (record_bytes 0 []) e.at i.size i.stands t) n
