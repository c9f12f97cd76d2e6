-- What is proved of specs/Texts.antt.
use Prim.Native.Nat.{ℕ, zero, suc, ◌+◌, ◌<◌}
use Rattle.std.specs.Prelude.{Bool, true, false, not, cond, ◌||◌, List, [], ◌∷◌, ◌++◌, ◌⊎◌, ◌≡◌, refl, eqb, length, get_or}
use Rattle.std.proofs.Common.{inl, inr, sym, ap, ap₂, ◌∙◌, subst, arith, get_or-set_other, eqb-true, eq-eqb, ne_eqb}
use Rattle.std.proofs.lemmas.Bool.{eqb-false}
use Rattle.sets.specs.Loops.{some, first_code, table_from, turns}
use Rattle.fields.specs.Fields.{unless, edition_fits}
use Rattle.chart.specs.Chart.{empty_chart, no_chart}
use Rattle.chart.specs.Held.{limits_fit, step_fits_at, steps_code, action_fits_at, actions_code, transition_code_at, transitions_code, block_fits_at, blocks_code, case_fits_at, cases_code, initial_at, some_initial, timed_twice, held_code, chart_code}
use Rattle.chart.specs.declared.chart.Chart.{Chart}
use Rattle.chart.proofs.held.Each.{either, else-each, transition-each}
use Rattle.reader.specs.Reading.{refused, accepted, closed, with_body}
use Rattle.reader.specs.Answer.{Reading}
use Rattle.forms.specs.Form.{Tree, both, text_of, Stops}
use Rattle.grammar.specs.Grammar.{text}
use Rattle.grammar.specs.Meaning.{Said, a_step, a_block, a_transition, text_says}
use Rattle.grammar.specs.Answer.{body_of, with_all, reach, with_actions, chart_said, in_order, answer_of, Answers, says, stops}
use Rattle.grammar.proofs.Unique.{one-reading, read-text-unique}
use Rattle.claims.specs.Answers.{one_of}
use Rattle.claims.specs.Texts.{names, Ordered, Stray, text_numbers, Accepts, TextAnswer}

-- ---- the order of the steps

abbrev From : ℕ → List Said → Type 0
From n l = names l ≡ table_from (λ k. k) n (length (names l))

record StrayFrom (n : ℕ) (l : List Said) (place : ℕ) : Type 0 where
  before : List Said
  after : List Said
  mark : ℕ
  number : ℕ
  split : l ≡ before ++ (a_step mark number place ∷ after)
  ordered : From n before
  wrong : number ≡ n + length (names before) → ⊥

abbrev Orders : ℕ → List Said → Reading → Type 0
Orders n l r = (From n l × (in_order n l r ≡ r)) ⊎ ((place : ℕ) × StrayFrom n l place × (in_order n l r ≡ refused 25 place))

step-order : (n mark k place : ℕ) (l : List Said) (r : Reading) → Orders (suc n) l r → Orders n (a_step mark k place ∷ l) r
unfolding names in_order table_from
step-order n mark k place l r o = by (eqb k n) refl o
  where
    by : (v : Bool) → eqb k n ≡ v → Orders (suc n) l r → Orders n (a_step mark k place ∷ l) r
    by true e (inl (f, g)) = inl (ap₂ ◌∷◌ (eqb-true k n e) f, rw e g)
    by true e (inr (p, f, g)) = inr (
      p,
      record {
        before = a_step mark k place ∷ f.before;
        after = f.after;
        mark = f.mark;
        number = f.number;
        split = ap (λ (m : List Said). a_step mark k place ∷ m) f.split;
        ordered = ap₂ ◌∷◌ (eqb-true k n e) f.ordered;
        wrong = λ h. f.wrong (omega arith);
      },
      rw e g,
    )
    by false e h = inr (
      place,
      record { before = []; after = l; mark = mark; number = k; split = refl; ordered = refl; wrong = λ z. eqb-false k n e (omega arith) },
      rw e,
    )

-- what is no step changes no order
other-order : (x : Said) (n : ℕ) (l : List Said) (r : Reading) → ((m : List Said) → names (x ∷ m) ≡ names m) → in_order n (x ∷ l) r ≡ in_order n l r → Orders n l r → Orders n (x ∷ l) r
other-order x n l r h e (inl (f, g)) = inl (rw (h l) f, e ∙ g)
other-order x n l r h e (inr (p, f, g)) = inr (
  p,
  record {
    before = x ∷ f.before;
    after = f.after;
    mark = f.mark;
    number = f.number;
    split = ap (λ (m : List Said). x ∷ m) f.split;
    ordered = rw (h f.before) f.ordered;
    wrong = λ z. f.wrong (z ∙ ap (λ (m : List ℕ). n + length m) (h f.before));
  },
  e ∙ g,
)

orders : (l : List Said) (n : ℕ) (r : Reading) → Orders n l r
unfolding names in_order table_from
orders [] n r = inl (refl, refl)
orders (a_step mark k place ∷ l) n r = step-order n mark k place l r (orders l (suc n) r)
orders (a_block step action qualifier duration ∷ l) n r = other-order _ n l r (λ m. refl) refl (orders l n r)
orders (a_transition sources targets on off ∷ l) n r = other-order _ n l r (λ m. refl) refl (orders l n r)

in-order : (l : List Said) (n : ℕ) (r : Reading) → From n l → in_order n l r ≡ r
unfolding names in_order table_from
in-order [] n r e = refl
in-order (a_step mark k place ∷ l) n r e =
    let x : k ≡ n = cc in
    let y : names l ≡ table_from (λ j. j) (suc n) (length (names l)) = cc in
    rw (eq-eqb k n x) (in-order l (suc n) r y)
in-order (a_block step action qualifier duration ∷ l) n r e = in-order l n r e
in-order (a_transition sources targets on off ∷ l) n r e = in-order l n r e

-- ---- 9 can't arise: the first step of a text is initial

module _ (P : ℕ → Type 0) (p0 : P 0) (p4 : P 4) (p5 : P 5) (p6 : P 6) (p7 : P 7) (p8 : P 8) where
  first-each : (f : ℕ → ℕ) (n : ℕ) → ((i : ℕ) → P (f i)) → P (first_code f n)
  unfolding first_code
  first-each f zero h = p0
  first-each f (suc n) h = else-each P (first_code f n) (f n) (first-each f n h) (h n)

  column-each : (p : ℕ → Bool) (n : ℕ) → P (first_code (λ i. unless (p i) 5) n)
  column-each p n = first-each (λ i. unless (p i) 5) n (λ i. either P (p i) 0 5 p0 p5)

  initial-each : (c : Chart) → some_initial c.steps c.initial ≡ true → P (chart_code c)
  unfolding held_code steps_code actions_code transitions_code blocks_code cases_code
  initial-each c e =
      else-each P _ _ (either P (limits_fit c.steps c.actions c.transitions c.blocks c.cases) 0 4 p0 p4)
      (else-each P _ _ (column-each (step_fits_at c.initial) c.steps)
      (else-each P _ _ (column-each (action_fits_at c.output) c.actions)
      (else-each P _ _ (first-each (transition_code_at c.steps c.actions c.sources c.targets c.on c.off c.wait) c.transitions (λ i. transition-each P p0 p5 p6 p7 _ _ _ _ _ _ _))
      (else-each P _ _ (column-each (block_fits_at c.steps c.actions c.blockstep c.blockaction c.qualifier c.duration) c.blocks)
      (else-each P _ _ (column-each (case_fits_at c.steps c.actions c.casestep c.signal c.expected) c.cases)
      (else-each P _ _ (either P (edition_fits c.edition) 0 5 p0 p5)
      (rw e (either P (not (timed_twice c.blocks c.blockaction c.qualifier)) 0 8 p0 p8))))))))

abbrev Begun : Chart → Type 0
Begun c = (0 < c.steps) × (get_or c.initial 0 0 ≡ 1)

begun_all : (l : List Said) (c : Chart) → Begun c → Begun (with_all c l)
unfolding with_all
begun_all [] c h = h
begun_all (a_step mark n place ∷ l) c h =
    begun_all l (with_body c (body_of (a_step mark n place))) (omega arith, get_or-set_other c.initial c.steps 0 mark 0 (λ e. absurd (omega (arith, h.0))) ∙ h.1)
begun_all (a_block step action qualifier duration ∷ l) c h = begun_all l (with_body c (body_of (a_block step action qualifier duration))) h
begun_all (a_transition sources targets on off ∷ l) c h = begun_all l (with_body c (body_of (a_transition sources targets on off))) h

begun-actions : (n : ℕ) (c : Chart) → Begun c → Begun (with_actions c n)
unfolding turns
begun-actions zero c h = h
begun-actions (suc n) c h = begun-actions n c h

some_first : (p : ℕ → Bool) (n : ℕ) → p 0 ≡ true → 0 < n → some p n ≡ true
unfolding some
some_first p zero e h = absurd (omega arith)
some_first p (suc zero) e h = rw e
some_first p (suc (suc n)) e h = ap (λ (b : Bool). b || p (suc n)) (some_first p (suc n) e (omega arith))

begun-initial : (c : Chart) → Begun c → some_initial c.steps c.initial ≡ true
unfolding some_initial
begun-initial c h = some_first (initial_at c.initial) c.steps (eq-eqb _ 1 h.1) h.0

first_said : (t : Tree text) → (n place : ℕ) × (l : List Said) × (text_says t ≡ a_step 1 n place ∷ l)
unfolding text text_says
first_said (both v (both (both w (both g (both name (both u (both colon (both x (both a end))))))) (both l (both m y)))) = (_, _, _, refl)

some-initial : (t : Tree text) → some_initial (chart_said (text_says t)).steps (chart_said (text_says t)).initial ≡ true
unfolding with_all
some-initial t =
    let f = first_said t in
    subst (λ (l : List Said). some_initial (chart_said l).steps (chart_said l).initial ≡ true) (sym f.3)
    (begun-initial (chart_said (a_step 1 f.0 f.1 ∷ f.2))
    (begun-actions (reach 0 (a_step 1 f.0 f.1 ∷ f.2)) (with_all (empty_chart 1) (a_step 1 f.0 f.1 ∷ f.2))
    (begun_all f.2 (with_body (empty_chart 1) (body_of (a_step 1 f.0 f.1))) (omega arith, refl))))

-- ---- the answer

closed-code : (n : ℕ) (c : Chart) → (closed n c).code ≡ n
closed-code n c = by (eqb n 0) refl
  where
    by : (v : Bool) → eqb n 0 ≡ v → (cond v (accepted c) (refused n 0)).code ≡ n
    by true e = sym (eqb-true n 0 e)
    by false e = refl

closed-place : (n : ℕ) (c : Chart) → (closed n c).place ≡ 0
closed-place n c = by (eqb n 0)
  where
    by : (v : Bool) → (cond v (accepted c) (refused n 0)).place ≡ 0
    by true = refl
    by false = refl

closed-clean : (n : ℕ) (c : Chart) → (n ≡ 0 → ⊥) → (closed n c).chart ≡ no_chart
closed-clean n c z = rw (ne_eqb n 0 z)

module _ (s : List ℕ) (o : Reading) where
  -- of a text with this tree
  module _ (t : Tree text) (e : text_of t ≡ s) (f : o ≡ answer_of (text_says t)) where
    abbrev chart-of : Tree text → Chart
    chart-of u = chart_said (text_says u)

    same-says : (u : Tree text) → text_of u ≡ s → text_says t ≡ text_says u
    same-says u g = one-reading t u (e ∙ sym g)

    abbrev closes : Tree text → Reading
    closes u = closed (chart_code (chart-of u)) (chart-of u)

    -- whatever tree is asked for, the answer is by what it says
    answer-by : (u : Tree text) → text_of u ≡ s → o ≡ in_order 0 (text_says u) (closes u)
    answer-by u g = f ∙ ap answer_of (same-says u g)

    answer-ordered : (u : Tree text) → text_of u ≡ s → Ordered (text_says u) → o ≡ closes u
    answer-ordered u g h = answer-by u g ∙ in-order (text_says u) 0 (closes u) h

    text-number : one_of (0 ∷ text_numbers) o.code ≡ true
    text-number = by (orders (text_says t) 0 (closes t))
      where
        by : Orders 0 (text_says t) (closes t) → one_of (0 ∷ text_numbers) o.code ≡ true
        by (inl (g, h)) =
            rw (ap (λ (r : Reading). r.code) (f ∙ h) ∙ closed-code (chart_code (chart-of t)) (chart-of t))
            (initial-each (λ n. one_of (0 ∷ text_numbers) n ≡ true) refl refl refl refl refl refl (chart-of t) (some-initial t))
        by (inr (p, g, h)) = rw (ap (λ (r : Reading). r.code) (f ∙ h))

    stray-text : (u : Tree text) → text_of u ≡ s → (Ordered (text_says u) → ⊥) → (o.code ≡ 25) × Stray (text_says u) o.place
    stray-text u g z = by (orders (text_says u) 0 (closes u))
      where
        by : Orders 0 (text_says u) (closes u) → (o.code ≡ 25) × Stray (text_says u) o.place
        by (inl (h, k)) = absurd (z h)
        by (inr (p, h, k)) =
            let r : o ≡ refused 25 p = answer-by u g ∙ k in (
              ap (λ (x : Reading). x.code) r,
              subst (λ (x : ℕ). Stray (text_says u) x) (sym (ap (λ (x : Reading). x.place) r)) (record {
                before = h.before;
                after = h.after;
                mark = h.mark;
                number = h.number;
                split = h.split;
                ordered = h.ordered;
                wrong = λ y. h.wrong (omega arith);
              }),
            )

    only-accepted : o.code ≡ 0 → Accepts s o
    only-accepted z = by (orders (text_says t) 0 (closes t))
      where
        by : Orders 0 (text_says t) (closes t) → Accepts s o
        by (inl (g, h)) =
            let n : chart_code (chart-of t) ≡ 0 = sym (closed-code (chart_code (chart-of t)) (chart-of t)) ∙ sym (ap (λ (r : Reading). r.code) (f ∙ h)) ∙ z in
            record { tree = t; text = e; ordered = g; passes = n; answer = f ∙ h ∙ ap (λ (k : ℕ). closed k (chart-of t)) n }
        by (inr (p, g, h)) = let y : ◌≡◌ {A = ℕ} 25 0 = sym (ap (λ (r : Reading). r.code) (f ∙ h)) ∙ z in absurd (omega arith)

    clean-text : (o.code ≡ 0 → ⊥) → o.chart ≡ no_chart
    clean-text z = by (orders (text_says t) 0 (closes t))
      where
        by : Orders 0 (text_says t) (closes t) → o.chart ≡ no_chart
        by (inl (g, h)) =
            ap (λ (r : Reading). r.chart) (f ∙ h)
            ∙ closed-clean (chart_code (chart-of t)) (chart-of t) (λ n. z (ap (λ (r : Reading). r.code) (f ∙ h) ∙ closed-code (chart_code (chart-of t)) (chart-of t) ∙ n))
        by (inr (p, g, h)) = ap (λ (r : Reading). r.chart) (f ∙ h)

  pub text-answers : Answers s o → TextAnswer s o
  text-answers (says t e f) = record {
    numbered = text-number t e f;
    no_text = λ z. absurd (z (record { tree = t; text = e }));
    out_of_order = stray-text t e f;
    bad-chart = λ u g h z. (
      ap (λ (r : Reading). r.code) (answer-ordered t e f u g h) ∙ closed-code (chart_code (chart_said (text_says u))) (chart_said (text_says u)),
      ap (λ (r : Reading). r.place) (answer-ordered t e f u g h) ∙ closed-place (chart_code (chart_said (text_says u))) (chart_said (text_says u)),
    );
    accepts = λ u g h n. answer-ordered t e f u g h ∙ ap (λ (k : ℕ). closed k (chart_said (text_says u))) n;
    only = only-accepted t e f;
    no-chart = clean-text t e f;
  }
  text-answers (stops k e f) =
      let none : (t : Tree text) → text_of t ≡ s → ⊥ = λ t g. e.refused (record { tree = t; text = g }) in
      record {
        numbered = rw f;
        no_text = λ z. (ap (λ (r : Reading). r.code) f, subst (λ (j : ℕ). Stops text s j) (sym (ap (λ (r : Reading). r.place) f)) e);
        out_of_order = λ t g z. absurd (none t g);
        bad-chart = λ t g h z. absurd (none t g);
        accepts = λ t g h n. absurd (none t g);
        only = λ z. let y : ◌≡◌ {A = ℕ} 19 0 = sym (ap (λ (r : Reading). r.code) f) ∙ z in absurd (omega arith);
        no-chart = λ z. ap (λ (r : Reading). r.chart) f;
      }

-- "it has one reading": all trees of a text say the same, and so have one chart
pub one-chart : (t u : Tree text) → text_of t ≡ text_of u → (text_says t ≡ text_says u) × (chart_said (text_says t) ≡ chart_said (text_says u))
one-chart t u e = (one-reading t u e, ap chart_said (one-reading t u e))

-- two answers that the statement allows are equal
pub one_answer : (s : List ℕ) (r q : Reading) → Answers s r → Answers s q → r ≡ q
one_answer = read-text-unique
