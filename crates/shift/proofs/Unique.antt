-- Two answers that one statement allows are equal, for each public function.
use Rattle.std.proofs.Common.{ℕ, ◌≡◌, List, ℤ, Result, Ok, Err, sym, ap, ap₂}
use Rattle.sets.proofs.Unique.{one_answer}
use Rattle.refusals.specs.declared.Refusal.{Refusal}
use Rattle.refusals.specs.Refusals.{code_of}
use Rattle.refusals.proofs.Laws.{number-some, number-one, code-one}
use Rattle.chart.specs.declared.chart.Chart.{Chart}
use Rattle.run.specs.declared.run.Run.{Run}
use Rattle.cycle.specs.declared.calling.Stopped.{Stopped}
use Rattle.shift.specs.Answer.{shifted_as}
use Rattle.shift.specs.Shifting.{Done, lists_code, shift_of, shift_by}

pub check-lists-unique : (clocks inputs words : ℕ) (r q : Result Unit Refusal) → code_of r ≡ lists_code clocks inputs words → code_of q ≡ lists_code clocks inputs words → r ≡ q
check-lists-unique clocks inputs words r q e f = code-one r q (one_answer e f)

-- with one content of the run, the activity words and the outputs
shifted-one : (r q : Result ℕ Stopped) (s t : Run) (x y : List ℕ) (f g : List ℤ) → shifted_as r s x f ≡ shifted_as q t y g → (r ≡ q) × (s ≡ t) × (x ≡ y) × (f ≡ g)
shifted-one (Ok n) (Ok m) s t x y f g e =
    (ap Ok (ap (λ (d : Done). d.0.accepted) e), ap (λ (d : Done). d.0.run) e, ap (λ (d : Done). d.1) e, ap (λ (d : Done). d.2) e)
shifted-one (Ok n) (Err b) s t x y f g e = absurd (number-some b.refusal (sym (ap (λ (d : Done). d.0.code) e)))
shifted-one (Err a) (Ok m) s t x y f g e = absurd (number-some a.refusal (ap (λ (d : Done). d.0.code) e))
shifted-one (Err a) (Err b) s t x y f g e = (
  ap Err (ap₂ {C = Stopped} (λ (n : Refusal) (k : ℕ). record { refusal = n; accepted = k }) (number-one a.refusal b.refusal (ap (λ (d : Done). d.0.code) e)) (ap (λ (d : Done). d.0.accepted) e)),
  ap (λ (d : Done). d.0.run) e,
  ap (λ (d : Done). d.1) e,
  ap (λ (d : Done). d.2) e,
)

pub shift-unique : (c : Chart) (run : Run) (clocks inputs words : List ℕ) (out : List ℤ) (r q : Result ℕ Stopped) (s t : Run) (x y : List ℕ) (f g : List ℤ)
    → shifted_as r s x f ≡ shift_of c run clocks inputs words out → shifted_as q t y g ≡ shift_of c run clocks inputs words out → (r ≡ q) × (s ≡ t) × (x ≡ y) × (f ≡ g)
shift-unique c run clocks inputs words out r q s t x y f g e h = shifted-one r q s t x y f g (one_answer e h)

pub shift-by-unique : (c : Chart) (index : List ℕ) (run : Run) (clocks inputs words : List ℕ) (out : List ℤ) (r q : Result ℕ Stopped) (s t : Run) (x y : List ℕ) (f g : List ℤ)
    → shifted_as r s x f ≡ shift_by c index run clocks inputs words out → shifted_as q t y g ≡ shift_by c index run clocks inputs words out → (r ≡ q) × (s ≡ t) × (x ≡ y) × (f ≡ g)
shift-by-unique c index run clocks inputs words out r q s t x y f g e h = shifted-one r q s t x y f g (one_answer e h)
