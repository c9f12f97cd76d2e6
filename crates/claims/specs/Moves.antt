-- One cycle: the transitions taken, and the steps that they leave and have as targets, in both editions (document 02, request viii).
use Rattle.std.specs.Prelude.{ℕ, ◌^◌, ◌≤◌, ◌<◌, Bool, true, false, ◌&&◌, List, ◌≡◌, get_or}
use Rattle.sets.specs.Loops.{some, counted}
use Rattle.sets.specs.Sets.{has}
use Rattle.choice.specs.declared.Choice.{Choice}
use Rattle.claims.specs.AtLeast.{AtLeast}
use Rattle.claims.specs.Runs.{one}

-- how many of the first n transitions in the set s have step k among those of the table l
abbrev pub among : List ℕ → ℕ → ℕ → ℕ → ℕ
among l n s k = counted (λ t. has s t && has (get_or l t 0) k) n

-- whether some of them has
abbrev pub any : List ℕ → ℕ → ℕ → ℕ → Bool
any l n s k = some (λ t. has s t && has (get_or l t 0) k) n

-- what is so after n transitions were looked at: none beyond is taken, each step is left by as many as its mark says and is a target of at least as
-- many, claimed if of some, and what is left was active at the cycle's beginning; in the first edition it is a target of just as many, and what is
-- claimed was not active
pub record Chosen (edition : ℕ) (sources targets : List ℕ) (active n : ℕ) (ch : Choice) : Type 0 where
  pub new : (t : ℕ) → n ≤ t → has ch.taken t ≡ false
  pub leaves : (k : ℕ) → k < 64 → among sources n ch.taken k ≡ one (has ch.left k)
  pub enters : (k : ℕ) → k < 64 → AtLeast edition (among targets n ch.taken k) (one (has ch.claimed k))
  pub claims : (k : ℕ) → k < 64 → has ch.claimed k ≡ any targets n ch.taken k
  pub word : ch.claimed < 2 ^ 64
  pub was : (k : ℕ) → k < 64 → has ch.left k ≡ true → has active k ≡ true
  pub wasnt : edition ≡ 1 → (k : ℕ) → k < 64 → has ch.claimed k ≡ true → has active k ≡ false
