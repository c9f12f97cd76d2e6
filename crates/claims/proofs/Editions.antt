-- What is proved of specs/Editions.antt.
use Rattle.std.specs.Prelude.{ℕ, ◌≤◌, ◌<◌, Bool, true, false, cond, ◌&&◌, ◌||◌, not, List, ◌⊎◌, ◌≡◌, refl, get_or}
use Rattle.std.proofs.Common.{inl, inr, sym, ap, ap₂, ◌∙◌, lt-ltb, le-ltb, ne_eqb}
use Rattle.sets.specs.Sets.{has, minus}
use Rattle.sets.proofs.Loops.{and_no, get_or-table}
use Rattle.sets.proofs.Members.{by_members}
use Rattle.sets.proofs.Below.{has-union, has-minus, never}
use Rattle.chart.specs.Held.{held_code, chart_code}
use Rattle.chart.specs.declared.chart.Chart.{Chart}
use Rattle.chart.proofs.held.Sound.{sound}
use Rattle.choice.specs.declared.Choice.{Choice}
use Rattle.acting.specs.Acting.{kept_count}
use Rattle.run.specs.Run.{counter}
use Rattle.run.specs.declared.run.Run.{Run}
use Rattle.passes.specs.Choosing.{moved_to, entered_by}
use Rattle.passes.specs.Moving.{signals_of}
use Rattle.passes.proofs.choosing.Laws.{stayed-run-on}
use Rattle.cycle.specs.Cycling.{counts_at, choice_of, cycled}
use Rattle.cycle.specs.Answer.{Cycled}
use Rattle.cycle.proofs.cycling.Laws.{cycle-passed}
use Rattle.claims.proofs.Marks.{some_is}
use Rattle.claims.specs.Moves.{Chosen}
use Rattle.claims.proofs.Moves.{choice-is}
use Rattle.claims.proofs.Numbers.{cycle-code}
use Rattle.claims.specs.Runs.{Cycle, cycle, answer}
use Rattle.claims.specs.Tally.{left_in}
use Rattle.claims.specs.Editions.{target_in, Stepped, EditionAnswer, FirstEntersTargets}

-- ---- laws

module _ (c : Chart) (r : Run) (counts : List ℕ) (signals : ℕ) (few : c.transitions ≤ 64) where
  -- what the cycle chooses
  abbrev ch : Choice
  ch = choice_of c r counts signals

  chosen-so : Chosen c.edition c.sources c.targets r.active c.transitions ch
  chosen-so = choice-is c r counts signals few

  -- "by a formula that gives the targets in edition 1"
  pub first-enters-targets : FirstEntersTargets c r ch
  first-enters-targets first =
      sym (by_members ch.claimed _ chosen-so.word (λ k l. go (has ch.claimed k) (has r.active k) (has ch.left k) (chosen-so.wasnt first k l)))
    where
      go : (t a l : Bool) → (t ≡ true → a ≡ false) → t ≡ (t && (not a || l))
      go true true l h = never (sym (h refl))
      go true false l h = refl
      go false a l h = refl

  -- a step keeps its counter if it was active and not left
  keeps : (k : ℕ) → k < 64 → has (minus (moved_to r.active ch) (entered_by r.active ch)) k ≡ (has r.active k && not (has ch.left k))
  keeps k l = ap (λ (s : ℕ). has s k) (sym (stayed-run-on r.active ch)) ∙ has-minus r.active ch.left k l

module _ (c : Chart) (r : Run) (x : Cycle) (few : c.transitions ≤ 64) where
  abbrev counts : List ℕ
  counts = counts_at r x.clock

  abbrev signals : ℕ
  signals = signals_of x.inputs r.activity

  abbrev done : Cycled
  done = cycled c r x.clock x.inputs

  was-left : (k : ℕ) → k < 64 → left_in c done k ≡ has (choice_of c r counts signals).left k
  was-left k l = some_is _ c.transitions _ ((chosen-so c r counts signals few).leaves k l)

  is-target : (k : ℕ) → k < 64 → target_in c done k ≡ has (choice_of c r counts signals).claimed k
  is-target k l = sym ((chosen-so c r counts signals few).claims k l)

  -- its counter, by whether it was active and left
  counter-is : (k : ℕ) → k < 64 → (a left : Bool) → has r.active k ≡ a → left_in c done k ≡ left
      → get_or done.run.counters k (counter 0) ≡ counter (cond (a && not left) (get_or counts k 0) 0)
  counter-is k l a left e f =
      get_or-table (λ j. counter (kept_count (minus (moved_to r.active (choice_of c r counts signals)) (entered_by r.active (choice_of c r counts signals))) j (get_or counts j 0))) 64 k (counter 0) l
      ∙ ap (λ (b : Bool). counter (cond b (get_or counts k 0) 0)) (keeps c r counts signals few k l ∙ ap₂ (λ (p q : Bool). p && not q) e (sym (was-left k l) ∙ f))

  stepped-so : Stepped c r x done
  stepped-so = record {
    active = λ k l.
        has-union (minus r.active (choice_of c r counts signals).left) (choice_of c r counts signals).claimed k l
        ∙ ap₂ ◌||◌ (has-minus r.active (choice_of c r counts signals).left k l ∙ ap (λ (b : Bool). has r.active k && not b) (sym (was-left k l))) (sym (is-target k l));
    entered = λ k l t h. zeroed k l h;
    runs_on = λ k l a f. counter-is k l true false a f;
  }
    where
      zeroed : (k : ℕ) → k < 64 → (has r.active k ≡ false) ⊎ (left_in c done k ≡ true) → get_or done.run.counters k (counter 0) ≡ counter 0
      zeroed k l (inl e) = counter-is k l false _ e refl
      zeroed k l (inr f) = counter-is k l _ true refl f ∙ ap (λ (b : Bool). counter (cond b (get_or counts k 0) 0)) (and_no (has r.active k))

-- ---- the theorems

-- every accepted cycle, whatever the chart, the run and the call
pub stepped : (c : Chart) (r : Run) (x : Cycle) → (answer c r (cycle x)).code ≡ 0 → Stepped c r x (answer c r (cycle x))
stepped c r x e =
    let q = sym (cycle-code c r x.clock x.inputs x.lent) ∙ e in
    rw q (stepped-so c r x (sound c (cycle-passed c r x.clock x.lent q).chart).limits.transitions)

-- "A held chart says 1 or 2": no other is accepted by any call that tests it
pub other-edition : (c : Chart) → (c.edition ≡ 1 → ⊥) → (c.edition ≡ 2 → ⊥) → chart_code c ≡ 0 → ⊥
other-edition c one two e = never (sym (rw (ne_eqb c.edition 1 one, ne_eqb c.edition 2 two)) ∙ (sound c e).edition)

-- which number the edition has, held and in a file
pub edition-answers : (c : Chart) → EditionAnswer c
unfolding held_code
edition-answers c = record {
  held = λ l s a t b k one two. rw (l, s, a, t, b, k, ne_eqb c.edition 1 one, ne_eqb c.edition 2 two);
  another = λ x l. rw (le-ltb c.edition 2 l);
  other_byte = λ x l z. rw (lt-ltb c.edition 2 l, ne_eqb x 2 z);
  accepted = λ l. rw (lt-ltb c.edition 2 l);
}
