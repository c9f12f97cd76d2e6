-- The lines that the program prints one after the other are the page, and of a longer text the first 65,536 bytes decide it.
use Prim.Native.Nat.{ℕ, zero, suc, ◌+◌, ◌-◌, ◌/◌, ◌%◌, ◌≤◌, ◌<◌}
use mathlib.Core.Bool.{Bool, true, false, ◌||◌, not, cond}
use mathlib.Core.List.{List, [], ◌++◌, append-nil, append_assoc}
use mathlib.Core.Path.{◌≡◌, refl, sym, ap, ap₂, ◌∙◌}
use native.Mathlib.Nat.{add-zero, add-suc}
use native.Mathlib.Omega.{arith}
use lib.ListN.{length, get_or, take}
use lib.Seq.{length-take-le, take_all}
use lib.Dec.{eqb, leb}
use borrow.Author.Tests.{leb-true, leb-false, le-leb, le-ltb, ne_eqb, eqb-true}
use Rattle.sets.specs.Loops.{turns}
use Rattle.chart.specs.Held.{chart_code}
use Rattle.chart.specs.Initial.{initial_set}
use Rattle.chart.specs.declared.chart.Chart.{Chart}
use Rattle.chart.proofs.held.Sound.{sound}
use Rattle.reader.specs.Reading.{read_chart}
use Rattle.reader.proofs.reading.Accepted.{read-accepted}
use Rattle.tally.specs.Weighing.{weigh_of, refused}
use Rattle.tally.specs.Answer.{Weighed}
use Rattle.lines.specs.Lines.{chart_line}
use Rattle.weights.specs.Listing.{fault_in, weights_in}
use Rattle.page.specs.Sides.{joined}
use Rattle.page.specs.Page.{transition_line, pair_at, closing_line, weighed_page, too_long, fault_line, wrong_count, page_for, refusal_line, line_at}
use Rattle.page.specs.Whole.{page_of, heard_weights, line_of}
use Rattle.page.proofs.page.Laws.{line-transition, line-closing}

-- ---- lines one behind the other

-- the first so many, and then the others
joined-more : (f : ℕ → List ℕ) (a b : ℕ) → joined f (a + b) ≡ joined f a ++ joined (λ k. f (a + k)) b
unfolding turns
joined-more f a zero = rw add-zero (sym (append-nil (joined f a)))
joined-more f a (suc b) = rw (add-suc, joined-more f a b) (append_assoc (joined f a) (joined (λ k. f (a + k)) b) (f (a + b)))

-- the same lines
joined_same : (f g : ℕ → List ℕ) (n : ℕ) → ((k : ℕ) → k < n → f k ≡ g k) → joined f n ≡ joined g n
unfolding turns
joined_same f g zero h = refl
joined_same f g (suc n) h = ap₂ ◌++◌ (joined_same f g n (λ k l. h k (omega arith))) (h n (omega arith))

-- lines that say nothing
joined-none : (f : ℕ → List ℕ) (n : ℕ) → ((k : ℕ) → f k ≡ []) → joined f n ≡ []
unfolding turns
joined-none f zero h = refl
joined-none f (suc n) h = rw (joined-none f n h) (h n)

-- one line, and nothing after it
joined-alone : (t : List ℕ) (n : ℕ) → joined (λ k. cond (eqb k 0) t []) (1 + n) ≡ t
unfolding turns
joined-alone t n =
    joined-more (λ k. cond (eqb k 0) t []) 1 n
    ∙ ap (λ (x : List ℕ). t ++ x) (joined-none (λ k. cond (eqb (1 + k) 0) t []) n (λ k. rw (ne_eqb (1 + k) 0 (λ e. omega arith))))
    ∙ append-nil t

-- ---- the page of a chart

-- no pair has a number of 4,096 or more
no-pair : (weights : List ℕ) (total pair : ℕ) → 4096 ≤ pair → pair_at weights total pair ≡ []
unfolding pair_at
no-pair weights total pair h = rw (le-ltb (pair / 64) (pair % 64) (omega arith))

-- the pairs, or nothing
pairs : (weights : List ℕ) (total more : ℕ) (b : Bool)
    → joined (λ k. cond b (pair_at weights total k) []) (4096 + more) ≡ cond b (joined (pair_at weights total) 4096) []
pairs weights total more true =
    joined-more (pair_at weights total) 4096 more
    ∙ rw (joined-none (λ k. pair_at weights total (4096 + k)) more (λ k. no-pair weights total (4096 + k) (omega arith))) (append-nil (joined (pair_at weights total) 4096))
pairs weights total more false = joined-none (λ k. []) (4096 + more) (λ k. refl)

module _ (c : Chart) (weights : List ℕ) (w : Weighed) where
  abbrev n : ℕ
  n = c.transitions

  abbrev initial : ℕ
  initial = initial_set c.steps c.initial

  abbrev line : ℕ → List ℕ
  line k = line_at n c.sources c.targets initial weights w k

  -- the transitions, and the line below them
  first-lines : joined line (suc n) ≡ joined (λ t. transition_line t (get_or c.sources t 0) (get_or c.targets t 0) weights) n ++ closing_line initial weights w
  unfolding turns
  first-lines =
      ap₂ ◌++◌ (joined_same line _ n (λ k l. sym (line-transition n c.sources c.targets initial weights w k l)))
      (sym (line-closing n c.sources c.targets initial weights w n refl))

  -- a line further below
  line-below : (k : ℕ) → line (suc n + k) ≡ cond (eqb w.code 0) (pair_at weights w.total k) []
  unfolding line_at
  line-below k =
      let e : suc n + k - n - 1 ≡ k = omega arith in
      rw (le-ltb (suc n + k) n (omega arith), ne_eqb (suc n + k) n (λ z. omega arith), e)

  -- 4,161 lines are a line for each transition, the one below them, and a line for each pair
  page-lines : n ≤ 64 → joined line 4161 ≡ weighed_page c weights w
  page-lines h =
      let more = 64 - n in
      let all : 4161 ≡ suc n + (4096 + more) = omega arith in
      ap (joined line) all ∙ joined-more line (suc n) (4096 + more)
      ∙ ap₂ ◌++◌ first-lines (joined_same (λ k. line (suc n + k)) _ (4096 + more) (λ k l. line-below k) ∙ pairs weights w.total more (eqb w.code 0))

-- ---- room for 65 weights is enough

module _ (c : Chart) (passes : chart_code c ≡ 0) where
  -- weights that are not as many as the steps
  miscounted : (weights : List ℕ) → (length weights ≡ c.steps → ⊥) → weigh_of c weights ≡ refused 13 0
  miscounted weights h = rw (passes, ne_eqb _ _ h)

  wrong : (weights : List ℕ) → (length weights ≡ c.steps → ⊥) → page_for c weights ≡ wrong_count
  wrong weights h = ap (λ (w : Weighed). cond (eqb w.code 13) wrong_count (weighed_page c weights w)) (miscounted weights h)

  -- there are at most 64 steps, so 65 weights are too many, as any more are
  first-weights : (weights : List ℕ) → page_for c (take 65 weights) ≡ page_for c weights
  first-weights weights = go (leb (length weights) 65) refl
    where
      go : (b : Bool) → leb (length weights) 65 ≡ b → page_for c (take 65 weights) ≡ page_for c weights
      go true e = ap (page_for c) (take_all 65 weights (leb-true _ _ e))
      go false e =
          let h = leb-false (length weights) 65 e in
          let most = (sound c passes).limits.steps in
          wrong (take 65 weights) (λ z. omega (arith, length-take-le 65 weights (omega arith))) ∙ sym (wrong weights (λ z. omega arith))

  -- the page by what was heard, where the chart is accepted
  heard-page : (weights : List ℕ)
      → let first = take 65 weights in cond (eqb (weigh_of c first).code 13) wrong_count (joined (line c first (weigh_of c first)) 4161) ≡ page_for c weights
  heard-page weights = rw (page-lines c (take 65 weights) (weigh_of c (take 65 weights)) (sound c passes).limits.transitions) (first-weights weights)

-- ---- the theorems

-- by the tests in their order: a refusal is line 0 alone, and where there is none the lines make the page
by_tests : (accepted long fine miscounted : Bool) (longs wrong faulty chart page : List ℕ) (line : ℕ → List ℕ)
    → (accepted ≡ true → cond miscounted wrong (joined line 4161) ≡ page)
    → joined (λ k. cond (not accepted || long || not fine || miscounted) (cond (eqb k 0) (cond accepted (cond long longs (cond fine wrong faulty)) chart) []) (line k)) 4161
    ≡ cond accepted (cond long longs (cond fine page faulty)) chart
by_tests true true fine miscounted longs wrong faulty chart page line h = joined-alone longs 4160
by_tests true false true true longs wrong faulty chart page line h = joined-alone wrong 4160 ∙ h refl
by_tests true false true false longs wrong faulty chart page line h = h refl
by_tests true false false miscounted longs wrong faulty chart page line h = joined-alone faulty 4160
by_tests false long fine miscounted longs wrong faulty chart page line h = joined-alone chart 4160

-- the lines that the program prints one after the other are the page
pub whole : (file input : List ℕ) → joined (line_of file input) 4161 ≡ page_of file input
unfolding refusal_line
whole file input =
    let r = read_chart file in
    let c = r.chart in
    let weights = heard_weights input in
    let w = weigh_of c weights in
    by_tests (eqb r.code 0) (leb 65536 (length input)) (eqb (fault_in input) 0) (eqb w.code 13)
    too_long wrong_count (fault_line (fault_in input)) (chart_line r.code) (page_for c (weights_in input)) (line c weights w)
    (λ e. heard-page c (read-accepted file (eqb-true _ _ e)).passes (weights_in input))

-- the first 65,536 bytes of the text decide: as many or more are refused, whatever they say
pub enough : (file input : List ℕ) → page_of file (take 65536 input) ≡ page_of file input
enough file input = go (leb (length input) 65536) refl
  where
    go : (b : Bool) → leb (length input) 65536 ≡ b → page_of file (take 65536 input) ≡ page_of file input
    go true e = ap (page_of file) (take_all 65536 input (leb-true _ _ e))
    go false e =
        let h = leb-false (length input) 65536 e in
        rw (length-take-le 65536 input (omega arith), le-leb 65536 (length input) (omega arith))
