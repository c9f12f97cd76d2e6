-- What the record step's answer says: of the record found, that there is one answer, and that the step does not move after the end or a refusal.
use Prim.Native.Nat.{ℕ, ◌+◌, ◌-◌, ◌≤◌, ◌<◌}
use mathlib.Core.List.{List, [], ◌∷◌}
use mathlib.Core.Bool.{Bool, true, false, ◌||◌, cond}
use mathlib.Core.Path.{◌≡◌, refl, sym, ◌∙◌}
use lib.ListN.{length}
use lib.Dec.{leb, eqb}
use native.Mathlib.Omega.{arith}
use borrow.Author.Tests.{le-leb, lt-leb, leb-true, eq-eqb, ne_eqb, eqb-true, eqb-false}
use Rattle.sets.proofs.Loops.{and-true}
use Rattle.fields.specs.Fields.{kind_fits}
use Rattle.reader.specs.Framing.{length_at, kind_at, body_length, head_number, record_number, record_values, number_of, values_of, Answers, place_after, kind_after}
use Rattle.reader.specs.Answer.{Next}
use Rattle.reader.specs.Answer.{Record, End, Refused}

-- ---- from the tests to the answer

module _ (s : List ℕ) (at before : ℕ) where
  pub short : length s - at < 4 → 1 ≡ record_number s at before
  unfolding record_number
  short h = rw (lt-leb _ _ h)

  -- n is the number of a whole head with this length and kind
  pub headed : {l k n : ℕ} → 4 ≤ length s - at → l ≡ length_at s at → k ≡ kind_at s at → n ≡ head_number l k (length s - (at + 4)) before → n ≡ record_number s at before
  unfolding record_number
  headed h e f g = g ∙ rw (e, f, le-leb _ _ h)

  pub refuses : (n : ℕ) → n ≡ record_number s at before → (n ≡ 0 → ⊥) → Answers (Refused n at) s at before
  unfolding record_values
  refuses n e z = record { number = e; values = rw (ne_eqb _ 0 (λ q. z (e ∙ q))) }

  pub ends : 0 ≡ record_number s at before → kind_at s at ≡ 0 → Answers End s at before
  unfolding record_values
  ends e z = record { number = e; values = rw (← e, eq-eqb _ 0 z) }

  pub finds : 0 ≡ record_number s at before → (kind_at s at ≡ 0 → ⊥) → Answers (Record (kind_at s at) (at + 4) (length_at s at)) s at before
  unfolding record_values
  finds e z = record { number = e; values = rw (← e, ne_eqb _ 0 z) }

-- ---- from the answer to what stands there

-- of a choice that is 0 and whose other side is not, the test held
chosen : (t : Bool) (x n : ℕ) → (n ≡ 0 → ⊥) → 0 ≡ cond t x n → (t ≡ true) × (0 ≡ x)
chosen true x n z e = (refl, e)
chosen false x n z e = absurd (z (sym e))

-- a whole head, and a body that is not cut
pub record Headed (s : List ℕ) (at before : ℕ) : Type 0 where
  pub begins : at + 4 ≤ length s
  pub fits : kind_fits (kind_at s at) before ≡ true
  pub sized : length_at s at ≡ body_length (kind_at s at)
  pub whole : at + 4 + length_at s at ≤ length s

pub is-headed : (s : List ℕ) (at before : ℕ) → 0 ≡ record_number s at before → Headed s at before
unfolding record_number
is-headed s at before e =
    let n = length_at s at in
    let k = kind_at s at in
    let a = chosen (leb 4 (length s - at)) (head_number n k (length s - (at + 4)) before) 1 (λ z. omega arith) e in
    let b = chosen (kind_fits k before) (cond (eqb n (body_length k)) (cond (leb n (length s - (at + 4))) 0 1) 3) 2 (λ z. omega arith) a.1 in
    let d = chosen (eqb n (body_length k)) (cond (leb n (length s - (at + 4))) 0 1) 3 (λ z. omega arith) b.1 in
    let f = chosen (leb n (length s - (at + 4))) 0 1 (λ z. omega arith) d.1 in
    let h : 4 ≤ length s - at = leb-true _ _ a.0 in
    let l : length_at s at ≤ length s - (at + 4) = leb-true _ _ f.0 in
    record { begins = omega arith; fits = b.0; sized = eqb-true _ _ d.0; whole = within (length s) at (length_at s at) h l }
  where
    within : (l at n : ℕ) → 4 ≤ l - at → n ≤ l - (at + 4) → at + 4 + n ≤ l
    within l at n h k = omega arith

-- and where they stand, the number is 0
pub is-record : (s : List ℕ) (at before : ℕ) → kind_fits (kind_at s at) before ≡ true → length_at s at ≡ body_length (kind_at s at) → at + 4 + length_at s at ≤ length s → record_number s at before ≡ 0
unfolding record_number
is-record s at before f e w =
    rw (le-leb 4 (length s - at) (begins (length s) at (length_at s at) w), f, eq-eqb (length_at s at) (body_length (kind_at s at)) e, le-leb (length_at s at) (length s - (at + 4)) (ends (length s) at (length_at s at) w))
  where
    begins : (l at n : ℕ) → at + 4 + n ≤ l → 4 ≤ l - at
    begins l at n h = omega arith

    ends : (l at n : ℕ) → at + 4 + n ≤ l → n ≤ l - (at + 4)
    ends l at n h = omega arith

-- the record that was found
pub record Found (s : List ℕ) (at before k p n : ℕ) : Type 0 where
  pub number : 0 ≡ record_number s at before
  pub headed : Headed s at before
  pub kind : k ≡ kind_at s at
  pub place : p ≡ at + 4
  pub size : n ≡ length_at s at
  pub some : kind_at s at ≡ 0 → ⊥

pub is_found : (s : List ℕ) (at before k p n : ℕ) → Answers (Record k p n) s at before → Found s at before k p n
unfolding record_values
is_found s at before k p n a = go (eqb (kind_at s at) 0) refl (rw (← a.number) at a.values)
  where
    go : (t : Bool) → eqb (kind_at s at) 0 ≡ t → k ∷ p ∷ n ∷ [] ≡ cond t [] (kind_at s at ∷ (at + 4) ∷ length_at s at ∷ []) → Found s at before k p n
    go true t e = let z : ◌≡◌ {A = ℕ} 0 1 = cc in absurd (omega arith)
    go false t e = record { number = a.number; headed = is-headed s at before a.number; kind = cc; place = cc; size = cc; some = eqb-false _ _ t }

-- its kind is one of a body's, not smaller than the kind before, and the body lies within the bytes
pub record Known (s : List ℕ) (before k p : ℕ) : Type 0 where
  pub least : 1 ≤ k
  pub most : k ≤ 6
  pub later : before ≤ k
  pub inside : p + body_length k ≤ length s

pub is_known : (s : List ℕ) (at before k p n : ℕ) → Found s at before k p n → Known s before k p
is_known s at before k p n f =
    let h = f.headed in
    let b = and-true (leb (kind_at s at) 6) (eqb (kind_at s at) 0 || leb before (kind_at s at)) h.fits in
    let l : leb before (kind_at s at) ≡ true = rw (ne_eqb _ 0 f.some) at b.1 in
    rw (f.kind, f.place)
    (record { least = positive (kind_at s at) f.some; most = leb-true _ _ b.0; later = leb-true _ _ l; inside = rw h.sized at h.whole })
  where
    positive : (k : ℕ) → (k ≡ 0 → ⊥) → 1 ≤ k
    positive k z = omega arith

-- the end stands there
pub is-end : (s : List ℕ) (at before : ℕ) → Answers End s at before → (0 ≡ record_number s at before) × (Headed s at before) × (kind_at s at ≡ 0)
unfolding record_values
is-end s at before a = (a.number, is-headed s at before a.number, go (eqb (kind_at s at) 0) refl (rw (← a.number) at a.values))
  where
    go : (t : Bool) → eqb (kind_at s at) 0 ≡ t → [] ≡ cond t [] (kind_at s at ∷ (at + 4) ∷ length_at s at ∷ []) → kind_at s at ≡ 0
    go true t e = eqb-true _ _ t
    go false t e = let z : ◌≡◌ {A = ℕ} 0 1 = cc in absurd (omega arith)

-- a refusal has its number, and the record's place
pub is-refused : (s : List ℕ) (at before n p : ℕ) → Answers (Refused n p) s at before → (n ≡ 0 → ⊥) × (p ≡ at)
unfolding record_values
is-refused s at before n p a = go (eqb (record_number s at before) 0) refl a.values
  where
    ends : (u : Bool) → p ∷ [] ≡ cond u [] (kind_at s at ∷ (at + 4) ∷ length_at s at ∷ []) → ⊥
    ends true e = let z : ◌≡◌ {A = ℕ} 0 1 = cc in omega arith
    ends false e = let z : ◌≡◌ {A = ℕ} 0 1 = cc in omega arith

    go : (t : Bool) → eqb (record_number s at before) 0 ≡ t → p ∷ [] ≡ cond t (cond (eqb (kind_at s at) 0) [] (kind_at s at ∷ (at + 4) ∷ length_at s at ∷ [])) (at ∷ []) → (n ≡ 0 → ⊥) × (p ≡ at)
    go true t e = absurd (ends (eqb (kind_at s at) 0) e)
    go false t e = ((λ z. eqb-false _ _ t (sym a.number ∙ z)), (cc))

-- ---- one answer, and no moving

-- the number and the values tell the cases apart
pub same_answer : (r q : Next) → number_of r ≡ number_of q → values_of r ≡ values_of q → r ≡ q
same_answer (Record k p n) (Record k' p' n') e f = cc
same_answer (Record k p n) End e f = cc
same_answer (Record k p n) (Refused m a) e f = cc
same_answer End (Record k p n) e f = cc
same_answer End End e f = refl
same_answer End (Refused m a) e f = cc
same_answer (Refused m a) (Record k p n) e f = cc
same_answer (Refused m a) End e f = cc
same_answer (Refused m a) (Refused m' a') e f = cc

pub record-at-unique : (s : List ℕ) (at before : ℕ) (r q : Next) → Answers r s at before → Answers q s at before → r ≡ q
record-at-unique s at before r q a b = same_answer r q (a.number ∙ sym b.number) (a.values ∙ sym b.values)

-- the end, or a refusal
pub data Stopped : Next → Type 0 where
  ended : Stopped End
  refused : {n p : ℕ} → Stopped (Refused n p)

pub stays : (r : Next) (at before : ℕ) → Stopped r → (place_after r at ≡ at) × (kind_after r before ≡ before)
stays (Record _ _ _) at before x = elim x [ ]
stays End at before ended = (refl, refl)
stays (Refused n p) at before refused = (refl, refl)

-- "asking again answers the same"
pub asked-again : (s : List ℕ) (at before : ℕ) (r q : Next) → Stopped r → Answers r s at before → Answers q s (place_after r at) (kind_after r before) → q ≡ r
asked-again s at before (Record _ _ _) q x a b = elim x [ ]
asked-again s at before End q ended a b = record-at-unique s at before q End b a
asked-again s at before (Refused n p) q refused a b = record-at-unique s at before q (Refused n p) b a

-- a place beyond the bytes answers 1, however large
pub beyond : (s : List ℕ) (at before : ℕ) (r : Next) → length s ≤ at → Answers r s at before → r ≡ Refused 1 at
beyond s at before r h a = record-at-unique s at before r (Refused 1 at) a (refuses s at before 1 (short s at before (omega arith)) (λ e. omega arith))
