-- A loop over the members of a set, least first: what holds of each number that is not, or no longer, to be visited.
use mathlib.Core.Path.{◌≡◌, refl, sym, ap, ◌∙◌}
use mathlib.Core.Bool.{Bool, true, false, ◌&&◌, not, cond}
use mathlib.Core.List.{List}
use Prim.Native.Nat.{ℕ, zero, suc, ◌+◌, ◌-◌, ◌%◌, ◌^◌, ◌≤◌, ◌<◌}
use native.Mathlib.Nat.{le_antisymm, lt_of_lt_of_le, lt_trans, mod-lt, mod-eq_of_lt}
use native.Mathlib.Omega.{arith}
use lib.Dec.{eqb}
use lib.ListN.{length, get_or, set, length-set}
use lib.Pow.{pow_mono, pow_pos}
use lib.Seq.{get_or-set_same, get_or-set_other}
use borrow.Author.Tests.{eq-eqb, ne_eqb, eqb-true, eqb-false, not-true}
use Rattle.sets.specs.Loops.{table, summed, turns}
use Rattle.sets.specs.Sets.{has, first, remove, among}
use Rattle.sets.proofs.Loops.{and-true, and_yes, and_no, turns-start, is-table}
use Rattle.sets.proofs.Members.{has-zero, has-mod}
use Rattle.sets.proofs.Counts.{summed_same, summed-less}
use Rattle.sets.proofs.Least.{first-has, first-least, first-lt, remove-lt, has-remove}

-- of the members of s, numbers below n, those of `rest` are still to be visited, and P holds of every other number below n
pub record Visited (P : ℕ → Type 0) (n s rest : ℕ) : Type 0 where
  pub few : n ≤ 64
  pub small : rest < 2 ^ n
  pub within : (j : ℕ) → j < n → has rest j ≡ true → has s j ≡ true
  pub passed : (j : ℕ) → j < n → has rest j ≡ false → P j

module _ {P : ℕ → Type 0} {n s : ℕ} where
  -- only the members below n are to be visited
  pub visited-rest : n ≤ 64 → ((j : ℕ) → j < n → has s j ≡ false → P j) → Visited P n s (s % 2 ^ n)
  visited-rest a f = record { few = a; small = mod-lt s (pow_pos n); within = λ j l e. sym (has-mod n s j l) ∙ e; passed = λ j l e. f j l (sym (has-mod n s j l) ∙ e) }

  pub visited-start : n ≤ 64 → s < 2 ^ n → ((j : ℕ) → j < n → has s j ≡ false → P j) → Visited P n s s
  visited-start a b f = rw (mod-eq_of_lt b) at (visited-rest a f)

  pub visited-end : {rest : ℕ} → Visited P n s rest → rest ≡ 0 → (j : ℕ) → j < n → P j
  visited-end v z j l = v.passed j l (ap (λ (x : ℕ). has x j) z ∙ has-zero j)

  -- what is visited is the first of the rest
  module _ {rest k : ℕ} (v : Visited P n s rest) (z : rest ≡ 0 → ⊥) (e : k ≡ first rest) where
    word : rest < 2 ^ 64
    word = lt_of_lt_of_le v.small (pow_mono v.few)

    pub visit-lt : k < n
    visit-lt = rw e (first-lt rest word z n v.small)

    pub visit-rest : has rest k ≡ true
    visit-rest = rw e (first-has rest word z)

    pub visit-least : (j : ℕ) → j < k → has rest j ≡ false
    visit-least j l = first-least rest word z j (rw e at l)

    pub visit-has : has s k ≡ true
    visit-has = v.within k visit-lt visit-rest

    module _ {next : ℕ} (f : next ≡ remove rest (first rest)) where
      pub visit-less : next < rest
      visit-less = rw f (remove-lt rest word z)

      members : (j : ℕ) → j < n → has next j ≡ (has rest j && not (eqb j k))
      members j l = rw (f, e) (has-remove rest (first rest) j (lt_of_lt_of_le l v.few))

      -- a member of the next rest is another one, of this rest
      pub visit-other : (j : ℕ) → j < n → has next j ≡ true → (j ≡ k → ⊥) × (has rest j ≡ true)
      visit-other j l t = let both = and-true (has rest j) (not (eqb j k)) (sym (members j l) ∙ t) in (eqb-false j k (not-true _ both.1), both.0)

      pub visited-turn : {Q : ℕ → Type 0} → ((j : ℕ) → (j ≡ k → ⊥) → P j → Q j) → Q k → Visited Q n s next
      visited-turn {Q} old new = record {
        few = v.few;
        small = lt_trans visit-less v.small;
        within = λ j l t. v.within j l (visit-other j l t).1;
        passed = λ j l t. go j l (sym (members j l) ∙ t) (eqb j k) refl;
      }
        where
          go : (j : ℕ) → j < n → (has rest j && not (eqb j k)) ≡ false → (b : Bool) → eqb j k ≡ b → Q j
          go j l t true q = rw (eqb-true j k q) new
          go j l t false q = old j (eqb-false j k q) (v.passed j l (and_yes (has rest j) ∙ rw q at t))

-- a list of n entries, as `old` at first, that is changed at the members of s: those still to be visited are as they were, and each other one is
-- what it is to be. d is what stands beyond its end
pub record ChangedFrom {A : Type 0} (d : A) (g : ℕ → A) (old : List A) (n s rest : ℕ) (l : List A) : Type 0 where
  pub long : length l ≡ n
  pub visited : Visited (λ j. get_or l j d ≡ g j) n s rest
  pub unseen : (j : ℕ) → j < n → has rest j ≡ true → get_or l j d ≡ get_or old j d

-- a list of numbers
abbrev pub Changed : (ℕ → ℕ) → List ℕ → ℕ → ℕ → ℕ → List ℕ → Type 0
Changed g old n s rest l = ChangedFrom 0 g old n s rest l

module _ {A : Type 0} {d : A} {g : ℕ → A} {old : List A} {n s : ℕ} where
  pub changed-rest : n ≤ 64 → length old ≡ n → ((j : ℕ) → j < n → has s j ≡ false → get_or old j d ≡ g j) → ChangedFrom d g old n s (s % 2 ^ n) old
  changed-rest a h f = record { long = h; visited = visited-rest a f; unseen = λ j l e. refl }

  pub changed-start : n ≤ 64 → s < 2 ^ n → length old ≡ n → ((j : ℕ) → j < n → has s j ≡ false → get_or old j d ≡ g j) → ChangedFrom d g old n s s old
  changed-start a b h f = rw (mod-eq_of_lt b) at (changed-rest a h f)

  module _ {rest k : ℕ} {l : List A} (w : ChangedFrom d g old n s rest l) (z : rest ≡ 0 → ⊥) (e : k ≡ first rest) where
    -- what is visited is as it was
    pub change-old : get_or l k d ≡ get_or old k d
    change-old = w.unseen k (visit-lt w.visited z e) (visit-rest w.visited z e)

    pub changed-turn : {next : ℕ} {v : A} → next ≡ remove rest (first rest) → v ≡ g k → ChangedFrom d g old n s next (set l k v)
    changed-turn {next} {v} f h = record {
      long = length-set l k v ∙ w.long;
      visited = visited-turn w.visited z e f
          (λ j q p. get_or-set_other l k j v d q ∙ p)
          (get_or-set_same l k v d (rw w.long (visit-lt w.visited z e)) ∙ h);
      unseen = λ j m t. let o = visit-other w.visited z e f j m t in get_or-set_other l k j v d o.0 ∙ w.unseen j m o.1;
    }

  pub changed-end : {rest : ℕ} {l : List A} → ChangedFrom d g old n s rest l → rest ≡ 0 → l ≡ table g n
  changed-end {rest} {l} w z = is-table g n l d w.long (visited-end w.visited z)

-- a sum of n numbers, those of f at first, that is made less at the members of s: of each one still to be visited it has f's number, of each other
-- one g's
pub record Lessened (f g : ℕ → ℕ) (n s rest sum : ℕ) : Type 0 where
  pub visited : Visited (λ j. Unit {0}) n s rest
  pub sums : sum ≡ summed (λ j. cond (has rest j) (f j) (g j)) n

module _ {f g : ℕ → ℕ} {n s : ℕ} where
  pub lessened-start : {sum : ℕ} → n ≤ 64 → s < 2 ^ n → sum ≡ summed f n → ((j : ℕ) → j < n → has s j ≡ false → f j ≡ g j) → Lessened f g n s s sum
  lessened-start a b e h = record { visited = visited-start a b (λ j l q. tt); sums = e ∙ summed_same f _ n (λ j l. go j l (has s j) refl) }
    where
      go : (j : ℕ) → j < n → (t : Bool) → has s j ≡ t → f j ≡ cond t (f j) (g j)
      go j l true q = refl
      go j l false q = h j l q

  module _ {rest k sum : ℕ} (d : ℕ) (w : Lessened f g n s rest sum) (z : rest ≡ 0 → ⊥) (e : k ≡ first rest) (h : f k ≡ g k + d) where
    one_less : {next : ℕ} → next ≡ remove rest (first rest) → sum ≡ summed (λ j. cond (has next j) (f j) (g j)) n + d
    one_less {next} q = w.sums ∙ summed-less _ _ n k d (visit-lt w.visited z e) other here
      where
        other : (j : ℕ) → j < n → (j ≡ k → ⊥) → cond (has rest j) (f j) (g j) ≡ cond (has next j) (f j) (g j)
        other j l o = rw (members w.visited z e q j l, ne_eqb j k o, ← and_yes (has rest j))

        here : cond (has rest k) (f k) (g k) ≡ cond (has next k) (f k) (g k) + d
        here = rw (members w.visited z e q k (visit-lt w.visited z e), eq-eqb k k refl, visit-rest w.visited z e) h

    pub lessen-le : d ≤ sum
    lessen-le = omega (arith, one_less refl)

    pub lessened-turn : {next : ℕ} → next ≡ remove rest (first rest) → Lessened f g n s next (sum - d)
    lessened-turn q = record { visited = visited-turn w.visited z e q (λ j o p. tt) tt; sums = omega (arith, one_less q) }

  pub lessened-end : {rest sum : ℕ} → Lessened f g n s rest sum → rest ≡ 0 → sum ≡ summed g n
  lessened-end {rest} w z = w.sums ∙ summed_same _ g n (λ j l. rw (z, has-zero j))

-- ---- turns in number order, one for each member

-- turns from n on that change nothing
pub turns-none-from : {A : Type 0} (f : ℕ → A → A) (x : A) (n m : ℕ) → n ≤ m → ((j : ℕ) → n ≤ j → j < m → (y : A) → f j y ≡ y) → turns f x m ≡ turns f x n
unfolding turns
turns-none-from f x n zero l h = ap (turns f x) (le_antisymm (omega arith) l)
turns-none-from f x n (suc m) l h = go (eqb n (suc m)) refl (λ k. turns-none-from f x n m k (λ j a b y. h j a (omega arith) y))
  where
    go : (b : Bool) → eqb n (suc m) ≡ b → (n ≤ m → turns f x m ≡ turns f x n) → turns f x (suc m) ≡ turns f x n
    go true e again = ap (turns f x) (sym (eqb-true n (suc m) e))
    go false e again = let o = eqb-false n (suc m) e in h m (omega arith) (omega arith) (turns f x m) ∙ again (omega arith)

turns-none : {A : Type 0} (f : ℕ → A → A) (x : A) (n : ℕ) → ((j : ℕ) → j < n → (y : A) → f j y ≡ y) → turns f x n ≡ x
turns-none f x n h = turns-none-from f x 0 n (omega arith) (λ j a b y. h j b y) ∙ sym (turns-start f x)

pub turns_same : {A : Type 0} (f g : ℕ → A → A) (x : A) (n : ℕ) → ((j : ℕ) → j < n → (y : A) → f j y ≡ g j y) → turns f x n ≡ turns g x n
unfolding turns
turns_same f g x zero h = refl
turns_same f g x (suc n) h = h n (omega arith) (turns f x n) ∙ ap (g n) (turns_same f g x n (λ j l y. h j (omega arith) y))

-- the turns of the members of `rest`, which are still to be made, lead from `now` to the end
pub record Led {A : Type 0} (f : ℕ → A → A) (s rest : ℕ) (end now : A) : Type 0 where
  pub visited : Visited (λ j. Unit {0}) 64 s rest
  pub leads : turns (among rest f) now 64 ≡ end

module _ {A : Type 0} {f : ℕ → A → A} {s : ℕ} {end : A} where
  pub led-start : {now : A} → s < 2 ^ 64 → turns (among s f) now 64 ≡ end → Led f s s end now
  led-start l e = record { visited = visited-start (omega arith) l (λ j l n. tt); leads = e }

  pub led-end : {rest : ℕ} {now : A} → Led f s rest end now → rest ≡ 0 → now ≡ end
  led-end {rest} {now} v z = sym (turns-none (among rest f) now 64 (λ j l y. rw (z, has-zero j))) ∙ v.leads

  module _ {rest k : ℕ} {now : A} (v : Led f s rest end now) (z : rest ≡ 0 → ⊥) (e : k ≡ first rest) where
    module _ {next : ℕ} {then : A} (g : next ≡ remove rest (first rest)) (h : then ≡ f k now) where
      within : k < 64
      within = visit-lt v.visited z e

      low : (j : ℕ) → j ≤ k → has next j ≡ false
      low j l = members v.visited z e g j (omega (arith, within)) ∙ go (eqb j k) refl
        where
          go : (b : Bool) → eqb j k ≡ b → (has rest j && not b) ≡ false
          go true q = and_no (has rest j)
          go false q = let n = eqb-false j k q in rw (visit-least v.visited z e j (omega arith))

      here : turns (among rest f) now (suc k) ≡ turns (among next f) then (suc k)
      unfolding turns
      here =
          ap (among rest f k) (turns-none (among rest f) now k (λ j l y. rw (visit-least v.visited z e j l)))
          ∙ rw (visit-rest v.visited z e) (sym h)
          ∙ sym (turns-none (among next f) then (suc k) (λ j l y. rw (low j (omega arith))))

      from : (m : ℕ) → k < m → m ≤ 64 → turns (among rest f) now m ≡ turns (among next f) then m
      unfolding turns
      from zero l n = absurd (omega arith)
      from (suc m) l n = go (eqb m k) refl (from m)
        where
          go : (b : Bool) → eqb m k ≡ b → (k < m → m ≤ 64 → turns (among rest f) now m ≡ turns (among next f) then m) → turns (among rest f) now (suc m) ≡ turns (among next f) then (suc m)
          go true q again = rw (eqb-true m k q) here
          go false q again =
              let other = eqb-false m k q in
              ap (among rest f m) (again (omega arith) (omega arith))
              ∙ ap (λ (b : Bool). cond b (f m (turns (among next f) then m)) (turns (among next f) then m)) (and_yes (has rest m) ∙ sym (members v.visited z e g m (omega arith) ∙ rw q refl))

      pub led-turn : Led f s next end then
      led-turn = record { visited = visited-turn v.visited z e g (λ j n u. tt) tt; leads = sym (from 64 within (omega arith)) ∙ v.leads }
