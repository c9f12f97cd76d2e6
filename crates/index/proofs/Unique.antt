-- Two answers that one statement allows are equal, for each public function.
use Rattle.std.proofs.Common.{ℕ, ◌≡◌, Result, Ok, Err, List, sym, ap}
use Rattle.sets.proofs.Unique.{one_answer}
use Rattle.refusals.specs.declared.Refusal.{Refusal}
use Rattle.refusals.specs.Refusals.{code_of}
use Rattle.refusals.proofs.Laws.{number-some, number-one, code-one}
use Rattle.chart.specs.Held.{chart_code}
use Rattle.chart.specs.declared.chart.Chart.{Chart}
use Rattle.index.specs.Answer.{Indexed, indexed_of}
use Rattle.index.specs.Building.{index_of, built_of}
use Rattle.index.specs.Consulting.{index_after, consulted}

indexed-one : (r q : Result (List ℕ) Refusal) → indexed_of r ≡ indexed_of q → r ≡ q
indexed-one (Ok x) (Ok y) h = ap Ok (ap (λ (i : Indexed). i.leaving) h)
indexed-one (Ok x) (Err e) h = absurd (number-some e (sym (ap (λ (i : Indexed). i.code) h)))
indexed-one (Err e) (Ok y) h = absurd (number-some e (ap (λ (i : Indexed). i.code) h))
indexed-one (Err e) (Err f) h = ap Err (number-one e f (ap (λ (i : Indexed). i.code) h))

pub index-of-unique : (c : Chart) (r q : Result (List ℕ) Refusal) → indexed_of r ≡ built_of c → indexed_of q ≡ built_of c → r ≡ q
index-of-unique c r q e f = indexed-one r q (one_answer e f)

pub leaving-of-unique : (n : ℕ) (sources r q : List ℕ) → r ≡ index_of n sources → q ≡ index_of n sources → r ≡ q
leaving-of-unique n sources r q = one_answer

pub check-index-unique : (c : Chart) (index : List ℕ) (r q : Result Unit Refusal) → code_of r ≡ index_after (chart_code c) c.transitions c.sources index → code_of q ≡ index_after (chart_code c) c.transitions c.sources index → r ≡ q
check-index-unique c index r q e f = code-one r q (one_answer e f)

pub consulted-unique : (n : ℕ) (index : List ℕ) (active r q : ℕ) → r ≡ consulted n index active → q ≡ consulted n index active → r ≡ q
consulted-unique n index active r q = one_answer
