-- What is proved of specs/Indexes.antt.
use Rattle.std.specs.Prelude.{ℕ, ◌≤◌, ◌<◌, min, Bool, true, false, ◌&&◌, ◌||◌, not, cond, List, [], ◌∷◌, ◌≡◌, refl, ℤ, length, get_or, replicate, eqb, leb, ltb}
use Rattle.std.proofs.Common.{sym, ap, ◌∙◌, arith, eq-eqb, ne_eqb, eqb-true, lt-ltb, ltb-true}
use Rattle.sets.specs.Loops.{or_else}
use Rattle.sets.specs.Sets.{has}
use Rattle.sets.proofs.Loops.{and-true, or-true, all_true, true-all, some_same, is-table}
use Rattle.sets.proofs.Members.{has-zero, has-collect, by_members}
use Rattle.sets.proofs.Below.{below-has}
use Rattle.fields.specs.Fields.{unless}
use Rattle.chart.specs.Held.{chart_code}
use Rattle.chart.specs.declared.chart.Chart.{Chart}
use Rattle.chart.proofs.held.Each.{either, else-each, chart-each}
use Rattle.chart.proofs.held.Sound.{sound}
use Rattle.index.specs.Building.{leaving_at, index_of, built_of}
use Rattle.index.specs.Consulting.{is_index, consulted, consultable}
use Rattle.index.proofs.building.Laws.{index-long, index_at}
use Rattle.index.proofs.consulting.Laws.{consulted-only, consulted-leave, taken-by, is-consultable}
use Rattle.run.specs.declared.run.Run.{Run}
use Rattle.choice.specs.Choice.{tested, chosen, chosen_under, reason_at, reason_under}
use Rattle.choice.proofs.Laws.{reasons-at, not-active}
use Rattle.passes.specs.Moving.{signals_of}
use Rattle.cycle.specs.Cycling.{refused, counts_at, indexed_code, cycle_of, cycle_by}
use Rattle.cycle.proofs.cycling.Laws.{few, enough, stops, goes_on}
use Rattle.cycle.proofs.calling.Laws.{cycle-by-none}
use Rattle.shift.specs.Shifting.{shift_of, shift_by}
use Rattle.shift.proofs.shifting.Laws.{shift-by-none}
use Rattle.claims.specs.Answers.{one_of, chart_numbers}
use Rattle.claims.proofs.Numbers.{cycle-each}
use Rattle.claims.specs.Shifts.{turned_away}
use Rattle.claims.proofs.Shifts.{shift-each}
use Rattle.claims.specs.Indexes.{cycle_by_numbers, shift_by_numbers, IndexAnswer, SameAnswers, IndexedAnswers, ConsultedEnough}

-- ---- laws

-- "exactly the index of this chart"
own-index : (n : ℕ) (sources : List ℕ) → is_index n sources (index_of n sources) ≡ true
own-index n sources = rw (index-long sources n) (true-all _ 64 (λ k l. eq-eqb _ _ (index_at sources n k l)))

only-index : (n : ℕ) (sources index : List ℕ) → is_index n sources index ≡ true → index ≡ index_of n sources
unfolding index_of
only-index n sources index e =
    let both = and-true (eqb (length index) 64) _ e in
    is-table (leaving_at n sources) 64 index 0 (eqb-true _ 64 both.0) (λ k l. eqb-true _ _ (all_true (λ k. eqb (get_or index k 0) (leaving_at n sources k)) 64 both.1 k l))

module _ (c : Chart) where
  -- the index of an accepted chart, and of any
  built-index : chart_code c ≡ 0 → (built_of c).leaving ≡ index_of c.transitions c.sources
  built-index e = rw e

  abbrev other : List ℕ → ℕ
  other index = unless (eqb (length index) 0 || is_index c.transitions c.sources index) 20

  tested-by : (index : List ℕ) (lent : ℕ) → 32 ≤ lent → chart_code c ≡ 0 → other index ≡ indexed_code c index lent
  tested-by index lent l e = goes_on (chart_code c) (other index) e ∙ enough (or_else (chart_code c) (other index)) lent l

pub index-answers : (c : Chart) → IndexAnswer c (built_of c)
index-answers c = record {
  numbered = chart-each (λ n. one_of (0 ∷ chart_numbers) n ≡ true) refl refl refl refl refl refl refl c;
  bad-chart = λ z. rw (ne_eqb (chart_code c) 0 z);
  accepted = λ e. e;
  words = long (eqb (chart_code c) 0);
  each_word = λ e k t l m. rw (built-index c e, index_at c.sources c.transitions k l) (has-collect _ 64 t m);
  beyond = λ e k l m. rw (built-index c e, index_at c.sources c.transitions k m) (sym (by_members 0 _ (omega arith) (λ t n. has-zero t ∙ sym (none e k l m t n))));
}
  where
    long : (b : Bool) → length (cond b (index_of c.transitions c.sources) (replicate 64 0)) ≡ 64
    long true = index-long c.sources c.transitions
    long false = refl

    none : chart_code c ≡ 0 → (k : ℕ) → c.steps ≤ k → k < 64 → (t : ℕ) → t < 64 → (ltb t c.transitions && has (get_or c.sources t 0) k) ≡ false
    none e k l m t n = go (ltb t c.transitions) refl (has (get_or c.sources t 0) k) refl
      where
        go : (a : Bool) → ltb t c.transitions ≡ a → (b : Bool) → has (get_or c.sources t 0) k ≡ b → (a && b) ≡ false
        go false p b q = refl
        go true p false q = refl
        go true p true q = absurd (omega (arith, below-has (get_or c.sources t 0) c.steps ((sound c e).sources t (ltb-true t c.transitions p)) k m q))

-- the chart's index changes no answer: refused is then what is refused without one
pub same-answers : (c : Chart) → SameAnswers c
same-answers c = record {
  cycle = λ r clock inputs lent. ap (λ (n : ℕ). cond (eqb n 0) (cycle_of c r clock inputs lent) (refused n r)) (numbers lent) ∙ cycle-by-none c r clock inputs lent;
  shift = λ r clocks inputs words out. ap (λ (n : ℕ). cond (eqb n 0) (shift_of c r clocks inputs words out) (turned_away c r clocks inputs words out n)) (numbers (length out)) ∙ shift-by-none c r clocks inputs words out;
  cycle-without = cycle-by-none c;
  shift-without = shift-by-none c;
}
  where
    -- the index's test is passed where it is made
    no_other : or_else (chart_code c) (other c (built_of c).leaving) ≡ or_else (chart_code c) 0
    no_other = go (eqb (chart_code c) 0) refl
      where
        go : (b : Bool) → eqb (chart_code c) 0 ≡ b → cond b (other c (cond b (index_of c.transitions c.sources) (replicate 64 0))) (chart_code c) ≡ cond b 0 (chart_code c)
        go true e = rw (own-index c.transitions c.sources, index-long c.sources c.transitions)
        go false e = refl

    numbers : (lent : ℕ) → indexed_code c (built_of c).leaving lent ≡ indexed_code c [] lent
    numbers lent = ap (λ (n : ℕ). or_else (unless (leb 32 lent) 15) n) no_other

-- any index of 64 words
module _ (c : Chart) (index : List ℕ) (l : length index ≡ 64) (r : Run) (out : List ℤ) where
  cycle-refused : (n : ℕ) → n ≡ indexed_code c index (length out) → (n ≡ 0 → ⊥) → (clock inputs : ℕ) → cycle_by c index r clock inputs (length out) ≡ refused n r
  cycle-refused n e z clock inputs = rw (← e, ne_eqb n 0 z)

  shift-refused : (n : ℕ) → n ≡ indexed_code c index (length out) → (n ≡ 0 → ⊥) → (clocks inputs words : List ℕ) → shift_by c index r clocks inputs words out ≡ turned_away c r clocks inputs words out n
  shift-refused n e z clocks inputs words = rw (← e, ne_eqb n 0 z)

  is-other : 32 ≤ length out → chart_code c ≡ 0 → (index ≡ (built_of c).leaving → ⊥) → 20 ≡ indexed_code c index (length out)
  is-other m e z = go (is_index c.transitions c.sources index) refl ∙ tested-by c index (length out) m e
    where
      go : (b : Bool) → is_index c.transitions c.sources index ≡ b → 20 ≡ other c index
      go true q = absurd (z (only-index c.transitions c.sources index q ∙ sym (built-index c e)))
      go false q = rw (q, l)

  -- the numbers of the tests before 12, and then those of the call
  by-each : (P : ℕ → Type 0) → P 0 → P 4 → P 5 → P 6 → P 7 → P 9 → P 8 → P 15 → P 20 → P (indexed_code c index (length out))
  by-each P p0 p4 p5 p6 p7 p9 p8 p15 p20 =
      else-each P _ _ (either P (leb 32 (length out)) 0 15 p0 p15)
      (else-each P _ _ (chart-each P p0 p4 p5 p6 p7 p9 p8 c) (either P (eqb (length index) 0 || is_index c.transitions c.sources index) 0 20 p0 p20))

  cycle-numbered : (clock inputs : ℕ) → one_of (0 ∷ cycle_by_numbers) (cycle_by c index r clock inputs (length out)).code ≡ true
  cycle-numbered clock inputs = go (eqb (indexed_code c index (length out)) 0)
    where
      Known : ℕ → Type 0
      Known n = one_of (0 ∷ cycle_by_numbers) n ≡ true

      go : (b : Bool) → Known (cond b (cycle_of c r clock inputs (length out)) (refused (indexed_code c index (length out)) r)).code
      go true = cycle-each Known refl refl refl refl refl refl refl refl refl refl c r clock inputs (length out)
      go false = by-each Known refl refl refl refl refl refl refl refl refl

  shift-numbered : (clocks inputs words : List ℕ) → one_of (0 ∷ shift_by_numbers) (shift_by c index r clocks inputs words out).0.code ≡ true
  shift-numbered clocks inputs words = go (eqb (indexed_code c index (length out)) 0)
    where
      Known : ℕ → Type 0
      Known n = one_of (0 ∷ shift_by_numbers) n ≡ true

      go : (b : Bool) → Known (cond b (shift_of c r clocks inputs words out) (turned_away c r clocks inputs words out (indexed_code c index (length out)))).0.code
      go true = shift-each c r clocks inputs words out Known refl refl refl refl refl refl refl refl refl refl refl
      go false = by-each Known refl refl refl refl refl refl refl refl refl

  chart-first : 32 ≤ length out → (chart_code c ≡ 0 → ⊥) → chart_code c ≡ indexed_code c index (length out)
  chart-first m z = stops (chart_code c) (other c index) z ∙ enough (or_else (chart_code c) (other c index)) (length out) m

  pub indexed-answers : IndexedAnswers c index r out
  indexed-answers = record {
    numbered = cycle-numbered;
    few-outputs = λ m. cycle-refused 15 (few _ (length out) m) (λ q. omega arith);
    bad-chart = λ m z. cycle-refused (chart_code c) (chart-first m z) z;
    other-index = λ m e z. cycle-refused 20 (is-other m e z) (λ q. omega arith);
    shift-numbered = shift-numbered;
    shift-few-outputs = λ m. shift-refused 15 (few _ (length out) m) (λ q. omega arith);
    shift-bad-chart = λ m z. shift-refused (chart_code c) (chart-first m z) z;
    shift-other-index = λ m e z. shift-refused 20 (is-other m e z) (λ q. omega arith);
  }

-- of an accepted chart whose sets of sources are words, as they are in the memory of every caller
pub consulted-enough : ConsultedEnough
unfolding consulted
consulted-enough c r e word =
    record {
      only = consulted-only n c.sources index r.active fits;
      leaves = λ t l. has-collect _ 64 t (room t l) ∙ rw long (some_same _ _ 64 (λ k m. ap (λ (b : Bool). has r.active k && b) ((index-answers c).each_word e k t m (room t l) ∙ rw (lt-ltb t n l))));
      not-active = λ t l. consulted-leave n c.sources index r.active fits t (room t l) l;
      waits = λ t l h u clock inputs.
          let counts = counts_at r clock in
          let signals = signals_of inputs r.activity in
          let why = reason_at c.edition c.sources c.targets c.on c.off c.wait counts r.active signals t in
          reasons-at r.hold c.edition c.sources c.targets c.on c.off c.wait counts r.active signals n t (room t l)
          ∙ ap (λ (b : Bool). cond b (reason_under r.hold why) 0) (lt-ltb t n l)
          ∙ ap (λ (b : Bool). or_else (unless (not b) 7) why) u
          ∙ sym (not-active (chosen c.edition t c.sources c.targets c.on c.off c.wait counts r.active signals) (get_or c.sources t 0) (tested c.edition (get_or c.targets t 0)) (get_or c.on t 0) (get_or c.off t 0) (get_or c.wait t 0) counts r.active signals
          (consulted-leave n c.sources index r.active fits t (room t l) l h));
      takes-the-same = λ u counts signals.
          taken-by r.hold c.edition n c.sources c.targets c.on c.off c.wait counts index r.active signals _ _ u fits refl refl
          ∙ ap (λ (m : ℕ). chosen_under r.hold c.edition m c.sources c.targets c.on c.off c.wait counts r.active signals) most;
    }
  where
    n : ℕ
    n = c.transitions

    index : List ℕ
    index = (built_of c).leaving

    few-transitions : n ≤ 64
    few-transitions = (sound c e).limits.transitions

    room : (t : ℕ) → t < n → t < 64
    room t l = omega (arith, few-transitions)

    most : min n 64 ≡ n
    most = omega (arith, few-transitions)

    long : length index ≡ 64
    long = (index-answers c).words

    own : is_index n c.sources index ≡ true
    own = ap (is_index n c.sources) (built-index c e) ∙ own-index n c.sources

    fits : consultable n c.sources index ≡ true
    fits = is-consultable n c.sources index few-transitions (rw own (or-true (eqb (length index) 0))) (sound c e).some-source (λ z. true-all _ (min n 64) (λ t l. lt-ltb _ _ (word t (omega arith))))
