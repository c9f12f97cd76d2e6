-- 4. "Actions, from the steps now active. "Reset": some active step has an R block for it. Without reset, an active S block, or an active DS
-- block whose step counter has reached its duration, sets stored; an active SD or SL block latches, and a fresh latch has timer 0. With reset,
-- stored and latch are cleared and the timer is 0."
-- 5. "Without reset an action is active if it is stored, or an active step has an N block, an L block with counter below its duration or a D
-- block with counter at or above it; or SD is latched with timer at or above its duration; or SL is latched with timer below it; or P1 and the
-- step was entered; or P0 and the step was left [..]. A reset action is inactive." Of P document 02, request (ii), says: "P is now active only in
-- the call that enters the step, like P1."
use Rattle.std.specs.Prelude.{ℕ, List, Bool, false, ◌&&◌, cond, get_or, leb, ltb, eqb}
use Rattle.sets.specs.Sets.{has, union, inter, minus, insert, named}
use Rattle.fields.specs.Fields.{N, R, S, L, D, P, SD, DS, SL, P1, P0}
use Rattle.acting.specs.declared.Steps.{Steps}
use Rattle.acting.specs.declared.Request.{Request}
use Rattle.acting.specs.declared.Request.TheVariants.{Reset, Set, Latch, Want}
use Rattle.acting.specs.declared.Asked.{Asked}
use Rattle.acting.specs.declared.Acted.{Acted}

-- the number at k if k is kept, else 0
abbrev pub kept_count : ℕ → ℕ → ℕ → ℕ
kept_count kept k n = cond (has kept k) n 0

-- what a block asks by its qualifier and duration: its step is active, was entered, was left; the step's counter, the action's timer
abbrev pub request : ℕ → ℕ → Bool → Bool → Bool → ℕ → ℕ → Request
request q d on entered left count time =
    cond (eqb q N) (Want on)
    (cond (eqb q R) (Reset on)
    (cond (eqb q S) (Set on)
    (cond (eqb q L) (Want (on && ltb count d))
    (cond (eqb q D) (Want (on && leb d count))
    (cond (eqb q P) (Want entered)
    (cond (eqb q SD) (Latch on (leb d time))
    (cond (eqb q DS) (Set (on && leb d count))
    (cond (eqb q SL) (Latch on (ltb time d))
    (cond (eqb q P1) (Want entered)
    (cond (eqb q P0) (Want left) (Want false)))))))))))

-- what a request comes to
abbrev pub resets : Request → Bool
resets (Reset t) = t
resets (Set t) = false
resets (Latch t u) = false
resets (Want t) = false

abbrev pub sets : Request → Bool
sets (Reset t) = false
sets (Set t) = t
sets (Latch t u) = false
sets (Want t) = false

abbrev pub latches : Request → Bool
latches (Reset t) = false
latches (Set t) = false
latches (Latch t u) = t
latches (Want t) = false

abbrev pub wants : Request → Bool
wants (Reset t) = false
wants (Set t) = false
wants (Latch t u) = false
wants (Want t) = t

abbrev pub ripens : Request → Bool
ripens (Reset t) = false
ripens (Set t) = false
ripens (Latch t u) = u
ripens (Want t) = false

-- of no block
abbrev pub none_asked : Asked
none_asked = record { reset = 0; set = 0; latch = 0; want = 0; ripe = 0 }

-- one request more, for action a
abbrev pub putting : Asked → ℕ → Request → Asked
putting x a r = record {
  reset = cond (resets r) (insert x.reset a) x.reset;
  set = cond (sets r) (insert x.set a) x.set;
  latch = cond (latches r) (insert x.latch a) x.latch;
  want = cond (wants r) (insert x.want a) x.want;
  ripe = cond (ripens r) (insert x.ripe a) x.ripe;
}

-- what a block on step s asks
abbrev pub request_at : ℕ → ℕ → ℕ → ℕ → ℕ → Steps → Request
request_at s q d count time steps =
    request q d (has steps.active s) (has steps.entered s) (has steps.left s) (kept_count steps.kept s count) time

-- block b's request
abbrev pub request_of : List ℕ → List ℕ → List ℕ → List ℕ → List ℕ → List ℕ → Steps → ℕ → Request
request_of step action qualifier duration counts times steps b =
    request_at (get_or step b 0) (get_or qualifier b 0) (get_or duration b 0) (get_or counts (get_or step b 0) 0) (get_or times (get_or action b 0) 0) steps

-- the actions of which some of the first n requests asks so, by each request's action
abbrev pub asked_by : (ℕ → Request) → (ℕ → ℕ) → ℕ → Asked
asked_by request action n = record {
  reset = named (λ b. resets (request b)) action n;
  set = named (λ b. sets (request b)) action n;
  latch = named (λ b. latches (request b)) action n;
  want = named (λ b. wants (request b)) action n;
  ripe = named (λ b. ripens (request b)) action n;
}

-- what the first n blocks ask
unfoldable pub asked : ℕ → List ℕ → List ℕ → List ℕ → List ℕ → List ℕ → List ℕ → Steps → Asked
asked n step action qualifier duration counts times steps =
    asked_by (request_of step action qualifier duration counts times steps) (λ b. get_or action b 0) n

-- what the actions become: reset wins
abbrev pub stored_after : Asked → ℕ → ℕ
stored_after x stored = minus (union stored x.set) x.reset

abbrev pub latched_after : Asked → ℕ → ℕ
latched_after x latched = minus (union latched x.latch) x.reset

unfoldable pub acted : Asked → ℕ → ℕ → Acted
acted x stored latched = record {
  stored = stored_after x stored;
  latched = latched_after x latched;
  activity = minus (union x.want (union (stored_after x stored) (inter (latched_after x latched) x.ripe))) x.reset;
}
