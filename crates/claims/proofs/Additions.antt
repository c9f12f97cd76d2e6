-- What is proved of specs/Additions.antt.
use Rattle.std.specs.Prelude.{ℕ, ◌+◌, ◌≤◌, ◌<◌, true, List, ◌∷◌, ◌≡◌, refl, length, get_or, replicate}
use Rattle.std.proofs.Common.{sym, ap, subst, ◌∙◌, add_comm, add-sub_cancel, arith, eq-eqb, ne_eqb}
use Rattle.std.proofs.lemmas.List.{length-replicate, get_or-replicate}
use Rattle.chart.specs.Held.{chart_code}
use Rattle.chart.specs.declared.chart.Chart.{Chart}
use Rattle.chart.proofs.held.Each.{chart-each}
use Rattle.tally.specs.Answer.{Weighed}
use Rattle.adding.specs.Adding.{added_as, add_of, sum_of}
use Rattle.adding.specs.Answer.{Added}
use Rattle.claims.specs.Added.{Answered, by-chart, by_lengths, by-step, by-none}
use Rattle.claims.proofs.Added.{are-long, not-long, all_fit, first-unfit, answered, number, passed, no_less, sums-long, sums_at, listed, agree, sums-zero, part-more, tested, sums-weighed, zeros-weighed}
use Rattle.claims.specs.Answers.{one_of}
use Rattle.claims.specs.Additions.{adding_numbers, AddAnswer, Grouping, ZeroAdded, ShownByOne, SumWeighs, SameEitherWay}

pub add-answers : (c : Chart) (first second sum : List ℕ) → AddAnswer c first second sum (add_of c first second (length sum)) (sum_of c first second sum)
add-answers c first second sum = record {
  numbered = each _ (answered c first second (length sum));
  bad-chart = λ z. rw (ne_eqb (chart_code c) 0 z);
  wrong-weights = λ e z. rw (e, not-long c.steps (length first) (length second) (length sum) z);
  sum-too-large = λ e l k m f o. rw (e, are-long c.steps _ _ _ l, first-unfit _ first second k m f o, ne_eqb (k + 1) 0 (λ z. omega arith), add-sub_cancel);
  accepted = λ e l f. rw (e, are-long c.steps _ _ _ l, all_fit c.steps first second f);
  nothing_written = λ z. rw (ne_eqb (add_of c first second (length sum)).code 0 z);
  written = λ e. rw (eq-eqb (add_of c first second (length sum)).code 0 e) (sums-long c.steps first second, sums_at c.steps first second);
}
  where
    each : (r : Added) → Answered c first second (length sum) r → one_of (0 ∷ adding_numbers) r.code ≡ true
    each _ (by-chart z) = chart-each (λ n. one_of (0 ∷ adding_numbers) n ≡ true) refl refl refl refl refl refl refl c
    each _ (by_lengths e z) = refl
    each _ (by-step e l k m f o) = refl
    each _ (by-none e l f) = refl

-- ---- what the sum weighs

-- "If both are balanced and no step's sum exceeds 65,535, the sum is balanced and its initial total is the sum of both totals": by the weighing's own answers
pub sum-weighs : SumWeighs
sum-weighs c first second sum e f l fit =
    let x = tested c first e in
    let answer = (add-answers c first second sum).accepted x.0 (x.1, (tested c second f).1, l) fit in
    (answer, rw (listed c first second sum (number answer)) (sums-weighed c first second e f))

-- two steps that the sum shows to be apart, one of the two weighings shows to be apart already
pub shown-by-one : ShownByOne
shown-by-one c first second sum i j e f g li lj more =
    let x = passed c first second (length sum) g in
    let w = ((add-answers c first second sum).written g).1 in
    let both = ap (λ (o : Weighed). o.total) (sum-weighs c first second sum e f x.1.2 x.2).1 in
    part-more _ _ _ _ (omega (arith, w i li, w j lj))

-- ---- "order and grouping don't matter where all the sums involved fit"

-- order: in no case, refused or not
pub order : SameEitherWay
order c first second sum =
    agree c first second second first sum (λ l. (l.1, l.0, l.2), λ l. (l.1, l.0, l.2)) (λ k l. add_comm (get_or first k 0) (get_or second k 0))

module _ (c : Chart) (a b d p q sum : List ℕ) where
  -- from one grouping to the other
  fits : length q ≡ c.steps → (add_of c a b (length p)).code ≡ 0 → (add_of c (sum_of c a b p) d (length sum)).code ≡ 0
      → ((add_of c b d (length q)).code ≡ 0) × ((add_of c a (sum_of c b d q) (length sum)).code ≡ 0)
  fits l e f =
      let x = passed c a b (length p) e in
      let y = passed c (sum_of c a b p) d (length sum) f in
      let v = ((add-answers c a b p).written e).1 in
      let g = number ((add-answers c b d q).accepted x.0 (x.1.1, y.1.1, l) (λ k m. omega (arith, v k m, y.2 k m))) in
      let w = (add-answers c b d q).written g in
      (g, number ((add-answers c a (sum_of c b d q) sum).accepted x.0 (x.1.0, w.0, y.1.2) (λ k m. omega (arith, v k m, w.1 k m, y.2 k m))))

  -- from a refusal in one to one in the other
  refused : (k : ℕ) → add_of c a b (length p) ≡ added_as 21 k → (add_of c b d (length q)).code ≡ 0 → length sum ≡ c.steps
      → ((add_of c a (sum_of c b d q) (length sum)).code ≡ 21) × ((add_of c a (sum_of c b d q) (length sum)).step ≤ k)
  refused k e f l =
      let w = (add-answers c b d q).written f in
      no_less c a b a (sum_of c b d q) (length p) (length sum) k (passed c b d (length q) f).0
      (λ x. (x.0, w.0, l)) (λ j m. omega (arith, w.1 j m)) e

  -- the other grouping, in the other order
  turned : add_of c a (sum_of c b d q) (length sum) ≡ add_of c (sum_of c d b q) a (length sum)
  turned = (order c a (sum_of c b d q) sum).0 ∙ ap (λ (w : List ℕ). add_of c w a (length sum)) (order c b d q).1

pub grouping : (c : Chart) (a b d p q sum : List ℕ) → Grouping c a b d p q sum
grouping c a b d p q sum = record {
  same = λ e f.
      let x = passed c a b (length p) e in
      let y = passed c b d (length q) f in
      let v = (add-answers c a b p).written e in
      let w = (add-answers c b d q).written f in
      agree c (sum_of c a b p) d a (sum_of c b d q) sum (λ l. (x.1.0, w.0, l.2), λ l. (v.0, y.1.1, l.2)) (λ k l. omega (arith, v.1 k l, w.1 k l));
  fits = fits c a b d p q sum;
  fits-back = λ l e f.
      let g = fits c d b a q p sum l (number (order c d b q).0 ∙ e) (number (sym (turned c a b d p q sum)) ∙ f) in
      (number (order c a b p).0 ∙ g.0, number (sym (turned c d b a q p sum)) ∙ g.1);
  refused = refused c a b d p q sum;
  refused-back = λ k e f l.
      subst (λ (r : Added). (r.code ≡ 21) × (r.step ≤ k)) (turned c d b a q p sum)
      (refused c d b a q p sum k ((order c d b q).0 ∙ e) (number (order c b a p).0 ∙ f) l);
}

pub zero-added : (c : Chart) (weights sum : List ℕ) → chart_code c ≡ 0 → length weights ≡ c.steps → length sum ≡ c.steps
    → ((k : ℕ) → k < c.steps → get_or weights k 0 ≤ 65535) → ZeroAdded c weights sum
zero-added c weights sum e l m small =
    let zeros : List ℕ = replicate c.steps 0 in
    let answer = (add-answers c weights zeros sum).accepted e (l, length-replicate c.steps 0, m)
    (λ k h. omega (arith, small k h, get_or-replicate {A = ℕ} c.steps k 0 0 h)) in
    record {
      answer = answer;
      same = listed c weights zeros sum (number answer) ∙ sums-zero c.steps weights l;
      weighs = zeros-weighed c e;
    }
