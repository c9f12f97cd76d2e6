-- The lines as `split` gives them, one line more, and the end of the text.
use Rattle.std.proofs.Common.{ℕ, zero, suc, ◌+◌, ◌-◌, ◌≤◌, ◌<◌, max, Bool, true, false, not, cond, List, [], ◌∷◌, ◌++◌, length, get_or, take, drop, Option, Some, None, eqb, ltb, ◌≡◌, refl, sym, ap, ◌∙◌, arith, length-drop, append-nil}
use Rattle.std.specs.List.{slice_split, position_or_len, enumerate_from}
use Rattle.std.specs.Option.{option_or}
use Rattle.std.proofs.lemmas.List.{nil_from_length, drop-drop}
use Rattle.std.proofs.lemmas.List.FromFn.{length-enumerate_from, get_or-enumerate_from}
use Rattle.std.proofs.lemmas.List.Recursion.{is_position_or_len}
use Rattle.std.proofs.lemmas.List.Splits.{slice_split-cons_no, slice_split_first, length-slice_split}
use native.Mathlib.Nat.{min-eq_right}
use native.Mathlib.Numerals.{add-one}
use lib.ListN.{length-take}
use lib.Seq.{take-nil, take_all}
use borrow.Author.Tests.{ltb-true, ltb-false, ne_eqb}
use Rattle.sets.specs.Bytes.{Put}
use Rattle.sets.specs.Loops.{or_else, first_code, turns}
use Rattle.sets.proofs.Bytes.{put-none, put-put, put-kept}
use Rattle.sets.proofs.Loops.{else-none, capped, turns_more}
use Rattle.weights.specs.Answer.{Line, Said, Nothing, place}
use Rattle.weights.specs.Words.{is_of, leading, front, behind, word_says, says_of}
use Rattle.weights.specs.Listing.{left_behind, says_at, is_faulty, weight_of, fault_in, weights_in}

-- ---- the lines

abbrev pub lines : List ℕ → List (List ℕ)
lines s = slice_split (λ b. eqb b 10) s

-- a line goes up to the first line end
up_to : (s : List ℕ) → leading (is_of Line) s ≡ position_or_len (λ b. eqb b 10) s
unfolding leading
up_to s = is_position_or_len (leading (is_of Line)) (λ b. eqb b 10) refl (λ b t. by t (eqb b 10)) s
  where
    by : (t : List ℕ) (c : Bool) → cond (not c) (suc (leading (is_of Line) t)) 0 ≡ cond c 0 (1 + leading (is_of Line) t)
    by t true = refl
    by t false = omega arith

-- what is left behind the first line
abbrev next : List ℕ → List ℕ
next s = drop 1 (behind (is_of Line) s)

-- the first line, and those of what is left
some-ends : (s : List ℕ) → ltb (leading (is_of Line) s) (length s) ≡ true → lines s ≡ front (is_of Line) s ∷ lines (next s)
some-ends s h =
    let u = up_to s in
    let l : position_or_len (λ b. eqb b 10) s < length s = omega (arith, ltb-true _ _ h) in
    slice_split_first (λ b. eqb b 10) s 0 l ∙ rw (← u, ← drop-drop 1 (leading (is_of Line) s) s)

-- with no line end it is all of one
none-ends : (s : List ℕ) → length s ≤ leading (is_of Line) s → lines s ≡ s ∷ []
unfolding leading
none-ends [] h = refl
none-ends (b ∷ s) h = by (eqb b 10) refl (none-ends s)
  where
    by : (c : Bool) → eqb b 10 ≡ c → (length s ≤ leading (is_of Line) s → lines s ≡ s ∷ []) → lines (b ∷ s) ≡ (b ∷ s) ∷ []
    by true e before = absurd (omega (arith, simp e at h))
    by false e before = rw (slice_split-cons_no (λ b. eqb b 10) b s e, before (omega (arith, simp e at h)))

-- and then nothing is left behind it
none-left : (s : List ℕ) → length s ≤ leading (is_of Line) s → next s ≡ []
none-left s h = nil_from_length _ (omega (arith, length-drop 1 (behind (is_of Line) s), length-drop (leading (is_of Line) s) s))

left-first : (k : ℕ) (s : List ℕ) → left_behind (suc k) s ≡ left_behind k (next s)
unfolding turns
left-first zero s = refl
left-first (suc k) s = ap next (left-first k s)

left-none : (k : ℕ) → left_behind k [] ≡ []
unfolding turns leading
left-none zero = refl
left-none (suc k) = ap next (left-none k)

-- line k is the front of what is left behind the k before it
pub line-at : (k : ℕ) (s d : List ℕ) → k < length (lines s) → get_or (lines s) k d ≡ front (is_of Line) (left_behind k s)
unfolding turns
line-at zero s d h = by (ltb (leading (is_of Line) s) (length s)) refl
  where
    by : (c : Bool) → ltb (leading (is_of Line) s) (length s) ≡ c → get_or (lines s) 0 d ≡ front (is_of Line) s
    by true e = rw (some-ends s e)
    by false e = let l = ltb-false _ _ e in rw (none-ends s l) (sym (take_all (leading (is_of Line) s) s l))
line-at (suc k) s d h = by (ltb (leading (is_of Line) s) (length s)) refl (line-at k (next s) d)
  where
    by : (c : Bool) → ltb (leading (is_of Line) s) (length s) ≡ c
        → (k < length (lines (next s)) → get_or (lines (next s)) k d ≡ front (is_of Line) (left_behind k (next s)))
        → get_or (lines s) (suc k) d ≡ front (is_of Line) (left_behind (suc k) s)
    by true e before =
        let l = some-ends s e in
        rw (l, left-first k s) (before (omega (arith, ap length l)))
    by false e before = absurd (omega (arith, ap length (none-ends s (ltb-false _ _ e))))

-- nothing is left behind all lines
pub left-after : (k : ℕ) (s : List ℕ) → length (lines s) ≤ k → left_behind k s ≡ []
left-after zero s h = absurd (omega (arith, length-slice_split (λ b. eqb b 10) s))
left-after (suc k) s h = left-first k s ∙ by (ltb (leading (is_of Line) s) (length s)) refl (left-after k (next s))
  where
    by : (c : Bool) → ltb (leading (is_of Line) s) (length s) ≡ c → (length (lines (next s)) ≤ k → left_behind k (next s) ≡ []) → left_behind k (next s) ≡ []
    by true e before = before (omega (arith, ap length (some-ends s e)))
    by false e before = ap (left_behind k) (none-left s (ltb-false _ _ e)) ∙ left-none k

-- nor behind as many as there are bytes
shorter : (k : ℕ) (s : List ℕ) → length (left_behind k s) ≤ length s - k
unfolding turns
shorter zero s = omega arith
shorter (suc k) s =
    let l = left_behind k s in
    omega (arith, shorter k s, length-drop 1 (behind (is_of Line) l), length-drop (leading (is_of Line) l) l)

left-behind : (k : ℕ) (s : List ℕ) → length s ≤ k → left_behind k s ≡ []
left-behind k s h = nil_from_length _ (omega (arith, shorter k s))

-- ---- line by line

-- what the numbering of a list has at a place: the place, and the entry
pub numbered-at : (l : List (List ℕ)) (i k : ℕ) (x : List ℕ) → i < length (enumerate_from 0 l) → (k, x) ≡ get_or (enumerate_from 0 l) i (k, x)
    → (i < length l) × (k ≡ i) × (x ≡ get_or l i x)
numbered-at l i k x h e =
    let in_range : i < length l = omega (arith, length-enumerate_from 0 l) in
    let both : (k, x) ≡ (0 + i, get_or l i x) = e ∙ get_or-enumerate_from 0 l i (k, x) in_range in
    (in_range, omega (arith, ap (λ (p : ℕ × List ℕ). p.0) both), ap (λ (p : ℕ × List ℕ). p.1) both)

-- so many of a list and of what stands behind it
take-both : (n : ℕ) (t u : List ℕ) → take n (t ++ u) ≡ take n t ++ take (n - length (take n t)) u
take-both zero t u = refl
take-both (suc n) [] u = let all : suc n - 0 ≡ suc n = omega arith in rw all
take-both (suc n) (x ∷ t) u =
    let less : suc n - suc (length (take n t)) ≡ n - length (take n t) = omega arith in
    rw less (ap (λ (l : List ℕ). x ∷ l) (take-both n t u))

-- what does not change from m on nor from n on is the same at both
settled : {A : Type 0} (f : ℕ → A) (m n : ℕ) → ((k : ℕ) → m ≤ k → f (suc k) ≡ f k) → ((k : ℕ) → n ≤ k → f (suc k) ≡ f k) → f m ≡ f n
settled f m n h g = up m h (omega arith) ∙ sym (up n g (omega arith))
  where
    up : (k : ℕ) → ((j : ℕ) → k ≤ j → f (suc j) ≡ f j) → k ≤ max m n → f k ≡ f (max m n)
    up k h l = rw (min-eq_right l) at (capped f k (max m n) h)

-- the first fault stays, as an Option and as a number
pub or-place : (a k : ℕ) → option_or (place a) (Some k) ≡ place (or_else a (k + 1))
or-place zero k = rw add-one
or-place (suc a) k = rw (ne_eqb (suc a) 0 (λ z. omega arith))

module _ (text : List ℕ) where
  -- the fault of line k, and the weights with its own
  abbrev fault_at : ℕ → ℕ
  fault_at k = is_faulty (says_at text k) (k + 1)

  abbrev with_line : ℕ → List ℕ → List ℕ
  with_line k weights = weights ++ weight_of (says_at text k)

  -- what is in hand behind so many lines, of a list e that the weights are put into
  pub record Read (e : List ℕ) (line : ℕ) (fault : Option ℕ) (now : List ℕ) (count : ℕ) : Type 0 where
    pub first : fault ≡ place (first_code fault_at line)
    pub put : Put e 0 (take (length e) (turns with_line [] line)) now count

  pub read-start : (e : List ℕ) → Read e 0 None e 0
  unfolding turns first_code
  read-start e = record { first = refl; put = rw (take-nil {A = ℕ} (length e)) (put-none e 0) }

  module _ {e : List ℕ} {line : ℕ} {fault : Option ℕ} {now : List ℕ} {count : ℕ} (r : Read e line fault now count) where
    -- what is put has room, and leaves the list as long as it was
    pub room : count ≤ length e
    room = omega (arith, r.put.1, length-take (length e) (turns with_line [] line))

    pub long : length now ≡ length e
    long = put-kept e 0 (take (length e) (turns with_line [] line)) r.put room

    -- one line more
    pub read-line : (x : List ℕ) (says : Said) {next : Option ℕ} {then : List ℕ} {more : ℕ}
        → line < length (lines text) → x ≡ get_or (lines text) line x → says ≡ says_of x
        → next ≡ place (or_else (first_code fault_at line) (is_faulty says (line + 1)))
        → Put now count (take (length now - count) (weight_of says)) then more
        → Read e (line + 1) next then more
    unfolding first_code
    read-line x says l i s f p = record {
      first = f ∙ ap (λ (x : Said). place (or_else (first_code fault_at line) (is_faulty x (line + 1)))) here ∙ ap (λ (n : ℕ). place (first_code fault_at n)) (sym (add-one line));
      put = rw joined (put-put e 0 (take (length e) weights) (take (length now - count) (weight_of says)) r.put p room);
    }
      where
        weights : List ℕ
        weights = turns with_line [] line

        here : says ≡ says_at text line
        here = s ∙ ap says_of (i ∙ line-at line text x l)

        space : length e - length (take (length e) weights) ≡ length now - count
        space = omega (arith, long, r.put.1)

        joined : take (length e) (turns with_line [] (line + 1)) ≡ take (length e) weights ++ take (length now - count) (weight_of says)
        joined =
            ap (take (length e)) (sym (turns_more with_line [] line weights (weights ++ weight_of says) refl (ap (λ (x : Said). weights ++ weight_of x) here)))
            ∙ take-both (length e) weights (weight_of says)
            ∙ ap (λ (n : ℕ). take (length e) weights ++ take n (weight_of says)) space

    -- of one that is not faulty
    pub still-first : fault ≡ place (or_else (first_code fault_at line) 0)
    still-first = r.first ∙ ap place (sym (else-none (first_code fault_at line)))

    -- of a faulty one
    pub now-first : {next : Option ℕ} → next ≡ option_or fault (Some line) → next ≡ place (or_else (first_code fault_at line) (line + 1))
    now-first n = n ∙ rw r.first (or-place (first_code fault_at line) line)

    -- of one with no weight
    pub still-put : Put now count (take (length now - count) []) now count
    still-put = rw (take-nil {A = ℕ} (length now - count)) (put-none now count)

    -- the end
    pub read-end : line ≡ length (lines text) → (fault ≡ place (fault_in text)) × Put e 0 (take (length e) (weights_in text)) now count
    unfolding first_code turns fault_in weights_in leading says_of word_says
    read-end z = (r.first ∙ ap place faults, rw weights at r.put)
      where
        quiet : (k : ℕ) → left_behind k text ≡ [] → says_at text k ≡ Nothing
        quiet k n = rw n

        after : (k : ℕ) → line ≤ k → says_at text k ≡ Nothing
        after k m = quiet k (left-after k text (omega arith))

        past : (k : ℕ) → length text ≤ k → says_at text k ≡ Nothing
        past k m = quiet k (left-behind k text m)

        faults : first_code fault_at line ≡ first_code fault_at (length text)
        faults =
            settled (first_code fault_at) line (length text) (λ k m. rw (after k m) (else-none (first_code fault_at k)))
            (λ k m. rw (past k m) (else-none (first_code fault_at k)))

        weights : turns with_line [] line ≡ turns with_line [] (length text)
        weights =
            settled (turns with_line []) line (length text) (λ k m. rw (after k m) (append-nil (turns with_line [] k)))
            (λ k m. rw (past k m) (append-nil (turns with_line [] k)))
