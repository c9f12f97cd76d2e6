-- Pieces written one behind the other, as each loop writes a kind's records and the whole writes the kinds; and the answer by the tests.
use Prim.Native.Nat.{ℕ, zero, suc, ◌+◌, ◌-◌, ◌*◌, ◌≤◌, ◌<◌}
use mathlib.Core.List.{List, [], ◌∷◌}
use mathlib.Core.Bool.{cond}
use mathlib.Core.Logic.{⊎_elim}
use mathlib.Core.Path.{◌≡◌, refl, sym, ap, ◌∙◌}
use native.Mathlib.Nat.{le_antisymm, eq-or-lt_of_le, le_of_suc-le-suc, mul-suc, mul-zero, zero-add}
use native.Mathlib.Numerals.{add-one}
use native.Mathlib.Omega.{arith}
use lib.Dec.{eqb}
use lib.ListN.{length, get_or, length-append}
use borrow.Author.Tests.{le-leb, lt-leb, eq-eqb, ne_eqb}
use Rattle.std.proofs.Common.{Result, Ok, Err}
use Rattle.std.specs.Result.{IsErrAnd}
use Rattle.refusals.specs.declared.Refusal.{Refusal}
use Rattle.refusals.specs.Refusals.{number}
use Rattle.refusals.proofs.Laws.{number-some}
use Rattle.sets.specs.Bytes.{Put}
use Rattle.sets.proofs.Bytes.{put-put, put-none, put-kept}
use Rattle.chart.specs.Held.{chart_code}
use Rattle.chart.specs.declared.chart.Chart.{Chart}
use Rattle.reader.specs.Framing.{record_bytes}
use Rattle.reader.specs.Bodies.{record_of}
use Rattle.judging.specs.declared.Body.{Body}
use Rattle.writer.specs.Writing.{step_in, action_in, transition_in, block_in, case_in, edition_in, joined, records, step_records, action_records, transition_records, block_records, case_records, edition_records, file_of, file_length, write_code, wrote, refused, write_chart}
use Rattle.writer.specs.Answer.{Writing, writing_of}

-- ---- pieces one behind the other

longer : (u : ℕ → List ℕ) (i n : ℕ) → i ≤ n → length (joined u i) ≤ length (joined u n)
unfolding joined
longer u i zero h = rw (le_antisymm h (omega arith)) (omega arith)
longer u i (suc n) h =
    ⊎_elim (λ e. rw e (omega arith)) (λ l. omega (arith, longer u i n (le_of_suc-le-suc l), length-append (joined u n) (u n))) (eq-or-lt_of_le h)

-- of n pieces that fit into e from a place on, i are written
pub record Passed (u : ℕ → List ℕ) (e : List ℕ) (at n : ℕ) (l : List ℕ) (end i : ℕ) : Type 0 where
  pub put : Put e at (joined u i) l end
  pub few : i ≤ n
  pub room : at + length (joined u n) ≤ length e

pub passed_start : (u : ℕ → List ℕ) (e : List ℕ) (at n : ℕ) → at + length (joined u n) ≤ length e → Passed u e at n e at 0
unfolding joined
passed_start u e at n h = record { put = put-none e at; few = omega arith; room = h }

module _ {u : ℕ → List ℕ} {e : List ℕ} {at n : ℕ} {l : List ℕ} {end i : ℕ} (p : Passed u e at n l end i) where
  within : end ≤ length e
  within = omega (arith, p.put.1, p.room, longer u i n p.few)

  pub passed-kept : length l ≡ length e
  passed-kept = put-kept e at (joined u i) p.put within

  -- the next piece has room
  pub passed-room : {w : ℕ} → i < n → length (u i) ≡ w → end + w ≤ length l
  unfolding joined
  passed-room h k = omega (arith, p.put.1, p.room, longer u (suc i) n h, length-append (joined u i) (u i), passed-kept, k)

  pub passed-turn : {m : List ℕ} {next : ℕ} → i < n → Put l end (u i) m next → Passed u e at n m next (i + 1)
  unfolding joined
  passed-turn h q = record { put = rw add-one (put-put e at (joined u i) (u i) p.put q within); few = omega (arith, h); room = p.room }

  pub passed-all : n ≤ i → Put e at (joined u n) l end
  passed-all h = rw (le_antisymm p.few h) at p.put

-- ---- the records of a kind

abbrev pub record_in : (ℕ → Body) → ℕ → List ℕ
record_in body i = record_of (body i)

pub records-length : (body : ℕ → Body) (w n : ℕ) → ((i : ℕ) → length (record_of (body i)) ≡ w) → length (records body n) ≡ w * n
unfolding joined
records-length body w zero each = sym (mul-zero w)
records-length body w (suc n) each = omega (arith, length-append (records body n) (record_of (body n)), records-length body w n each, each n, mul-suc w n)

pub records-start : (body : ℕ → Body) (w : ℕ) (e : List ℕ) (at n : ℕ) → ((i : ℕ) → length (record_of (body i)) ≡ w) → at + w * n ≤ length e
    → Passed (record_in body) e at n e at 0
records-start body w e at n each h = passed_start (record_in body) e at n (rw (records-length body w n each) h)

-- ---- the file of a chart

-- its pieces
abbrev pub piece : Chart → ℕ → List ℕ
piece c k =
    get_or (step_records c ∷ action_records c ∷ transition_records c ∷ block_records c ∷ case_records c ∷ edition_records c ∷ record_bytes 0 [] ∷ []) k []

pub file-joined : (c : Chart) → file_of c ≡ joined (piece c) 7
unfolding file_of joined
file-joined c = refl

-- their lengths, and its own
pub steps-length : (c : Chart) → length (piece c 0) ≡ 5 * c.steps
steps-length c = records-length (step_in c.initial) 5 c.steps (λ i. refl)

pub actions-length : (c : Chart) → length (piece c 1) ≡ 9 * c.actions
actions-length c = records-length (action_in c.output c.value) 9 c.actions (λ i. refl)

pub transitions-length : (c : Chart) → length (piece c 2) ≡ 40 * c.transitions
transitions-length c = records-length (transition_in c.sources c.targets c.on c.off c.wait) 40 c.transitions (λ i. refl)

pub blocks-length : (c : Chart) → length (piece c 3) ≡ 11 * c.blocks
blocks-length c = records-length (block_in c.blockstep c.blockaction c.qualifier c.duration) 11 c.blocks (λ i. refl)

pub cases-length : (c : Chart) → length (piece c 4) ≡ 7 * c.cases
cases-length c = records-length (case_in c.casestep c.signal c.expected) 7 c.cases (λ i. refl)

pub edition-length : (c : Chart) → length (piece c 5) ≡ 5 * (c.edition - 1)
edition-length c = records-length edition_in 5 (c.edition - 1) (λ i. refl)

pub file-length : (c : Chart) → length (file_of c) ≡ file_length c.steps c.actions c.transitions c.blocks c.cases c.edition
unfolding joined
file-length c =
    let u = piece c in
    omega (arith, ap length (file-joined c), length-append (joined u 6) (u 6), length-append (joined u 5) (u 5), length-append (joined u 4) (u 4), length-append (joined u 3) (u 3), length-append (joined u 2) (u 2), length-append (u 0) (u 1), steps-length c, actions-length c, transitions-length c, blocks-length c, cases-length c, edition-length c)

pub file-start : (c : Chart) (e : List ℕ) → length (file_of c) ≤ length e → Passed (piece c) e 0 7 e 0 0
file-start c e h = passed_start (piece c) e 0 7 (omega (arith, h, ap length (file-joined c)))

-- ---- the answer by the tests in their order

module _ (c : Chart) (lent : List ℕ) where
  by_code : (n : ℕ) (x : Writing × List ℕ) → n ≡ write_code c lent → x ≡ cond (eqb n 0) (wrote c lent) (refused n, lent) → x ≡ write_chart c lent
  by_code n x e h = h ∙ ap (λ (m : ℕ). cond {A = Writing × List ℕ} (eqb m 0) (wrote c lent) (refused m, lent)) e

  pub chart-refused : (r : Result ℕ Refusal) (e : Refusal) → IsErrAnd r (λ k. k ≡ e) → number e ≡ chart_code c → ◌≡◌ {A = Writing × List ℕ} (writing_of r, lent) (write_chart c lent)
  chart-refused (Ok n) e i h = elim i [ ]
  chart-refused (Err k) e i h =
      let f = ap number i ∙ h in
      by_code (number k) _ (f ∙ rw (ne_eqb (chart_code c) 0 (λ z. number-some k (f ∙ z)))) (rw (ne_eqb (number k) 0 (number-some k)))

  pub too_few : chart_code c ≡ 0 → length lent < length (file_of c) → ◌≡◌ {A = Writing × List ℕ} (refused 17, lent) (write_chart c lent)
  too_few e h = by_code 17 _ (rw (eq-eqb (chart_code c) 0 e, lt-leb (length (file_of c)) (length lent) h)) refl

  pub written : {l : List ℕ} {end : ℕ} → chart_code c ≡ 0 → length (file_of c) ≤ length lent → Put lent 0 (file_of c) l end
      → ◌≡◌ {A = Writing × List ℕ} (record { code = 0; length = end }, l) (write_chart c lent)
  written e h p = by_code 0 _ (rw (eq-eqb (chart_code c) 0 e, le-leb (length (file_of c)) (length lent) h)) (rw (p.0, p.1, zero-add))
