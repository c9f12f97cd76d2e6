-- "For every step, initial plus arrivals equals departures plus active, counted in the history of taken transitions." Document 02, request (viii):
-- "For edition 2, demand 3 reads: initial plus arrivals is at least departures plus active, arrivals counted per transition".
use Rattle.std.specs.Prelude.{ℕ, zero, suc, ◌+◌, ◌<◌, Bool, true, false, cond, ◌&&◌, List, [], ◌∷◌, ◌++◌, ◌≡◌, refl, get_or, eqb}
use Rattle.std.proofs.Common.{ap, ap₂, ◌∙◌, arith, eqb-true, ne_eqb}
use Rattle.std.proofs.lemmas.Bool.{eqb-false}
use Rattle.sets.specs.Loops.{summed, counted}
use Rattle.sets.specs.Sets.{has}
use Rattle.sets.proofs.Members.{has-collect}
use Rattle.chart.specs.Held.{initial_at}
use Rattle.chart.specs.Initial.{initial_set}
use Rattle.chart.specs.declared.chart.Chart.{Chart}
use Rattle.run.specs.declared.run.Run.{Run}
use Rattle.cycle.specs.Cycling.{start_of}
use Rattle.claims.specs.AtLeast.{AtLeast}
use Rattle.claims.proofs.AtLeast.{same}
use Rattle.claims.proofs.Fair.{fair, begins}
use Rattle.claims.specs.Moves.{among}
use Rattle.claims.specs.Runs.{Call, answer, after, listed, history, one, how_many, arrivals, departures, begun}
use Rattle.claims.specs.Ledger.{LedgerAtLeast}

-- ---- how many numbers of a history have a step

-- in two lists, one after the other
many-append : (p : ℕ → Bool) (a b : List ℕ) → how_many p (a ++ b) ≡ how_many p a + how_many p b
unfolding how_many
many-append p [] b = omega arith
many-append p (t ∷ a) b = omega (arith, many-append p a b)

-- in the members of a set
many-listed : (p : ℕ → Bool) (s n : ℕ) → how_many p (listed s n) ≡ counted (λ t. has s t && p t) n
unfolding how_many listed summed
many-listed p s zero = refl
many-listed p s (suc n) = many-append p (listed s n) (cond (has s n) (n ∷ []) []) ∙ ap₂ ◌+◌ (many-listed p s n) (last (has s n))
  where
    last : (b : Bool) → how_many p (cond b (n ∷ []) []) ≡ one (b && p n)
    last true = omega arith
    last false = refl

-- in the transitions of a call and then those of the calls after it
logged : (l : List ℕ) (n s k : ℕ) (h : List ℕ)
    → how_many (λ t. has (get_or l t 0) k) (listed s n ++ h) ≡ among l n s k + how_many (λ t. has (get_or l t 0) k) h
logged l n s k h =
    many-append (λ t. has (get_or l t 0) k) (listed s n) h
    ∙ ap (λ (x : ℕ). x + how_many (λ t. has (get_or l t 0) k) h) (many-listed (λ t. has (get_or l t 0) k) s n)

-- ---- the ledger

-- from any run on
pub ledger-from : (c : Chart) (r : Run) (xs : List Call) (k : ℕ) → k < 64
    → AtLeast c.edition (one (has r.active k) + arrivals c k (history c r xs)) (departures c k (history c r xs) + one (has (after c r xs).active k))
unfolding after history how_many
ledger-from c r [] k l = same (omega arith)
ledger-from c r (x ∷ xs) k l = go (eqb (answer c r x).code 0) refl (ledger-from c next xs k l)
  where
    next : Run
    next = (answer c r x).run

    rest : List ℕ
    rest = history c next xs

    log : Bool → List ℕ
    log b = cond b (listed (answer c r x).taken c.transitions) [] ++ rest

    go : (b : Bool) → eqb (answer c r x).code 0 ≡ b
        → AtLeast c.edition (one (has next.active k) + arrivals c k rest) (departures c k rest + one (has (after c next xs).active k))
        → AtLeast c.edition (one (has r.active k) + arrivals c k (log b)) (departures c k (log b) + one (has (after c next xs).active k))
    go true e i =
        let f = (fair c r x).accepted (eqb-true _ 0 e) k l in
        let left = logged c.sources c.transitions (answer c r x).taken k rest in
        let came = logged c.targets c.transitions (answer c r x).taken k rest in
        record { least = omega (arith, f.least, i.least, left, came); equal = λ q. omega (arith, f.equal q, i.equal q, left, came) }
    go false e i =
        let stays = ap (λ (q : Run). one (has q.active k)) ((fair c r x).back (eqb-false _ 0 e)) in
        record { least = omega (arith, stays, i.least); equal = λ q. omega (arith, stays, i.equal q) }

-- a step of the chart is active at the start if it is initial
pub initial-has : (n : ℕ) (initial : List ℕ) (k : ℕ) → k < n → has (initial_set n initial) k ≡ initial_at initial k
unfolding initial_set
initial-has n initial k l = has-collect (initial_at initial) n k l

-- from an accepted start, over any calls
both-editions : (c : Chart) (clock lent : ℕ) → (start_of c clock lent).code ≡ 0 → (xs : List Call) (k : ℕ) → k < c.steps
    → AtLeast c.edition (one (initial_at c.initial k) + arrivals c k (history c (begun c clock lent) xs))
    (departures c k (history c (begun c clock lent) xs) + one (has (after c (begun c clock lent) xs).active k))
both-editions c clock lent e xs k l =
    let b = begins c clock lent e in
    let initial : has (begun c clock lent).active k ≡ initial_at c.initial k = ap (λ (s : ℕ). has s k) b.initial ∙ initial-has c.steps c.initial k l in
    rw initial at (ledger-from c (begun c clock lent) xs k (omega (arith, b.few)))

pub ledger : (c : Chart) (clock lent : ℕ) → (start_of c clock lent).code ≡ 0 → c.edition ≡ 1 → (xs : List Call) (k : ℕ) → k < c.steps
    → one (initial_at c.initial k) + arrivals c k (history c (begun c clock lent) xs)
    ≡ departures c k (history c (begun c clock lent) xs) + one (has (after c (begun c clock lent) xs).active k)
ledger c clock lent e first xs k l = (both-editions c clock lent e xs k l).equal first

pub ledger-at-least : LedgerAtLeast
ledger-at-least c clock lent e xs k l = (both-editions c clock lent e xs k l).least

-- a refused call, after any others: the run and the history are as if it had not been made
pub nothing-added : (c : Chart) (r : Run) (before : List Call) (x : Call) (xs : List Call) → ((answer c (after c r before) x).code ≡ 0 → ⊥)
    → (after c r (before ++ (x ∷ xs)) ≡ after c r (before ++ xs)) × (history c r (before ++ (x ∷ xs)) ≡ history c r (before ++ xs))
unfolding after history
nothing-added c r [] x xs d =
    let e : eqb (answer c r x).code 0 ≡ false = ne_eqb (answer c r x).code 0 d in
    let f : (answer c r x).run ≡ r = (fair c r x).back d in
    (ap (λ (q : Run). after c q xs) f, ap₂ (λ (b : Bool) (q : Run). cond b (listed (answer c r x).taken c.transitions) [] ++ history c q xs) e f)
nothing-added c r (y ∷ before) x xs d =
    let i = nothing-added c (answer c r y).run before x xs d in
    (i.0, ap (λ (h : List ℕ). cond (eqb (answer c r y).code 0) (listed (answer c r y).taken c.transitions) [] ++ h) i.1)
