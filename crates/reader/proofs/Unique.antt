-- Two answers that one statement allows are equal, for each public function, the two `_from` by their width.
use Rattle.std.proofs.Common.{ℕ, ◌≡◌, List, Option, Some, None, Result, Ok, Err, refl, ap, sym}
use Rattle.sets.proofs.Unique.{one_answer}
use Rattle.refusals.specs.Refusals.{number}
use Rattle.refusals.proofs.Laws.{number-some, number-one}
use Rattle.chart.specs.declared.chart.Chart.{Chart}
use Rattle.reader.specs.Numbers.{le_from}
use Rattle.reader.specs.Framing.{Answers}
use Rattle.reader.specs.Answer.{next_of, Reading, reading_in, reading_of}
use Rattle.reader.specs.Reading.{read_chart}
use Rattle.reader.specs.declared.framing.Fault.{Fault}
use Rattle.reader.specs.declared.framing.Record.{Record}
use Rattle.reader.proofs.framing.Laws.{record-at-unique}

pub from-unique : (w : ℕ) (s : List ℕ) (at r q : ℕ) → r ≡ le_from w s at → q ≡ le_from w s at → r ≡ q
from-unique w s at r q = one_answer

-- a refusal is told by its number
fault-one : (e f : Fault) → number e.refusal ≡ number f.refusal → e.place ≡ f.place → e ≡ f
fault-one e f h k = let r = number-one _ _ h in λ i. record { refusal = r i; place = k i }

pub next-one : (r q : Result (Option Record) Fault) → next_of r ≡ next_of q → r ≡ q
next-one (Ok (Some x)) (Ok (Some y)) h =
    let k : x.kind ≡ y.kind = cc in
    let p : x.place ≡ y.place = cc in
    let n : x.length ≡ y.length = cc in
    λ i. Ok (Some (record { kind = k i; place = p i; length = n i }))
next-one (Ok (Some x)) (Ok None) h = cc
next-one (Ok (Some x)) (Err f) h = cc
next-one (Ok None) (Ok (Some y)) h = cc
next-one (Ok None) (Ok None) h = refl
next-one (Ok None) (Err f) h = cc
next-one (Err e) (Ok (Some y)) h = cc
next-one (Err e) (Ok None) h = cc
next-one (Err e) (Err f) h =
    let n : number e.refusal ≡ number f.refusal = cc in
    let p : e.place ≡ f.place = cc in
    ap Err (fault-one e f n p)

pub answer-unique : (s : List ℕ) (at before : ℕ) (r q : Result (Option Record) Fault) → Answers (next_of r) s at before → Answers (next_of q) s at before → r ≡ q
answer-unique s at before r q a b = next-one r q (record-at-unique s at before _ _ a b)

-- into a lent chart: the answer, and what the chart is then
reading-one : {A : Type 0} (same : (x y : A) → x ≡ y) (r q : Result A Fault) (c d : Chart) → reading_in r c ≡ reading_in q d → (r ≡ q) × (c ≡ d)
reading-one same (Ok x) (Ok y) c d h = (ap Ok (same x y), ap (λ (o : Reading). o.chart) h)
reading-one same (Ok x) (Err f) c d h = absurd (number-some f.refusal (sym (ap (λ (o : Reading). o.code) h)))
reading-one same (Err e) (Ok y) c d h = absurd (number-some e.refusal (ap (λ (o : Reading). o.code) h))
reading-one same (Err e) (Err f) c d h =
    (ap Err (fault-one e f (ap (λ (o : Reading). o.code) h) (ap (λ (o : Reading). o.place) h)), ap (λ (o : Reading). o.chart) h)

pub read-into-unique : (s : List ℕ) (r q : Result (Unit {0}) Fault) (c d : Chart) → reading_in r c ≡ read_chart s → reading_in q d ≡ read_chart s → (r ≡ q) × (c ≡ d)
read-into-unique s r q c d a b = reading-one (λ x y. refl) r q c d (one_answer a b)

-- and by value
pub chart-one : (r q : Result Chart Fault) → reading_of r ≡ reading_of q → r ≡ q
chart-one (Ok x) (Ok y) h = ap Ok (ap (λ (o : Reading). o.chart) h)
chart-one (Ok x) (Err f) h = absurd (number-some f.refusal (sym (ap (λ (o : Reading). o.code) h)))
chart-one (Err e) (Ok y) h = absurd (number-some e.refusal (ap (λ (o : Reading). o.code) h))
chart-one (Err e) (Err f) h = ap Err (fault-one e f (ap (λ (o : Reading). o.code) h) (ap (λ (o : Reading). o.place) h))

pub read-chart-unique : (s : List ℕ) (r q : Result Chart Fault) → reading_of r ≡ read_chart s → reading_of q ≡ read_chart s → r ≡ q
read-chart-unique s r q a b = chart-one r q (one_answer a b)
