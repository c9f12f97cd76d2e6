-- The bytes at the front, and a number, digit by digit.
use Rattle.std.proofs.Common.{ℕ, zero, suc, ◌+◌, ◌-◌, ◌*◌, ◌≤◌, ◌<◌, min, Bool, true, false, ◌&&◌, not, cond, List, length, get_or, take, drop, Option, Some, None, eqb, ltb, leb, ◌≡◌, refl, sym, ap, ◌∙◌, add-one, arith, length-drop}
use Rattle.std.proofs.lemmas.List.{get_or-take}
use Rattle.std.specs.Option.{unwrap_or}
use Rattle.std.specs.List.{position_or_len}
use Rattle.std.proofs.lemmas.List.Recursion.{is_position_or_len}
use Rattle.std.proofs.lemmas.List.Sums.{prefix_len-le-length}
use lib.Seq.{take_all}
use borrow.Author.Tests.{eq-eqb, ne_eqb, ltb-false, le-leb, lt-leb}
use Rattle.weights.specs.Words.{is_of, leading, value, word_says, says_of}
use Rattle.weights.specs.Answer.{Text, Blank, Digit, Nothing, Weight, Faulty}

-- ---- how many bytes at the front are so

module _ (p : ℕ → Bool) where
  -- the place of the first that is not, or the length
  abbrev place : List ℕ → ℕ
  place s = position_or_len (λ b. not (p b)) s

  first : (s : List ℕ) → leading p s ≡ place s
  unfolding leading
  first s = is_position_or_len (leading p) (λ b. not (p b)) refl (λ b t. by t (p b)) s
    where
      by : (t : List ℕ) (c : Bool) → cond c (suc (leading p t)) 0 ≡ cond (not c) 0 (1 + leading p t)
      by t true = omega arith
      by t false = refl

  pub leading-found : (s : List ℕ) (o : Option ℕ) → o ≡ cond (ltb (place s) (length s)) (Some (place s)) None → unwrap_or o (length s) ≡ leading p s
  leading-found s o e = ap (λ (o : Option ℕ). unwrap_or o (length s)) e ∙ by (ltb (place s) (length s)) refl ∙ sym (first s)
    where
      by : (c : Bool) → ltb (place s) (length s) ≡ c → unwrap_or (cond c (Some (place s)) None) (length s) ≡ place s
      by true h = refl
      by false h = let k = ltb-false _ _ h in let m = prefix_len-le-length (λ b. not (not (p b))) s in omega arith

-- ---- a number

-- one digit more, also of a number that stopped at 65,536
pub value-more : (s : List ℕ) (k number digit : ℕ) → number ≡ min (value k s) 65536 → digit ≡ get_or s k 0 - 48
    → min (10 * number + digit) 65536 ≡ min (value (k + 1) s) 65536
unfolding value
value-more s k number digit e d = rw (add-one k) (omega arith)

-- the digits alone
value-take : (n : ℕ) (s : List ℕ) (k : ℕ) → k ≤ n → value k (take n s) ≡ value k s
unfolding value
value-take n s zero h = refl
value-take n s (suc k) h =
    let e = value-take n s k (omega arith) in
    let g : get_or (take n s) k 0 ≡ get_or s k 0 = get_or-take n s k 0 (omega arith) in
    rw (e, g)

-- ---- what a word says

-- a word of no byte
pub says_nothing : (word : List ℕ) → length word ≡ 0 → Nothing ≡ word_says word
unfolding word_says
says_nothing word e = rw (eq-eqb _ _ e)

-- n digits, m blanks behind them, and the number of the digits that stops at 65,536
pub record Read (word digits tail : List ℕ) (n m figure : ℕ) : Type 0 where
  pub some : length word ≡ 0 → ⊥
  pub front : n ≡ leading (is_of Digit) word
  pub taken : digits ≡ take n word
  pub count : length digits ≡ n
  pub left : tail ≡ drop n word
  pub blanks : m ≡ leading (is_of Blank) tail
  pub number : figure ≡ min (value (length digits) digits) 65536

module _ {word digits tail : List ℕ} {n m number : ℕ} (r : Read word digits tail n m number) where
  least : number ≡ min (value n word) 65536
  least = r.number ∙ rw (r.count, r.taken, value-take n word n (omega arith))

  as-tests : word_says word ≡ cond (not (eqb n 0) && eqb m (length tail) && leb (value n word) 65535) (Weight (value n word)) Faulty
  unfolding word_says
  as-tests = rw (ne_eqb _ _ r.some, ← r.front, ← r.left, ← r.blanks)

  pub says-weight : (n ≡ 0 → ⊥) → m ≡ length tail → number ≤ 65535 → Weight number ≡ word_says word
  says-weight z e l =
      let k : number ≡ value n word = omega (arith, least) in
      sym (as-tests ∙ rw (ne_eqb n 0 z, eq-eqb _ _ e, ← k, le-leb number 65535 l))

  pub no_digit : n ≡ 0 → Faulty ≡ word_says word
  no_digit z = sym (as-tests ∙ rw (eq-eqb n 0 z))

  pub more-behind : (n ≡ 0 → ⊥) → (m ≡ length tail → ⊥) → Faulty ≡ word_says word
  more-behind z e = sym (as-tests ∙ rw (ne_eqb n 0 z, ne_eqb _ _ e))

  pub too_large : (n ≡ 0 → ⊥) → m ≡ length tail → 65535 < number → Faulty ≡ word_says word
  too_large z e l = sym (as-tests ∙ rw (ne_eqb n 0 z, eq-eqb _ _ e, lt-leb (value n word) 65535 (omega (arith, least))))

-- ---- what a line says: n bytes before its comment, of which m blanks come first

-- the part from n on, as the code takes it
abbrev pub from : ℕ → List ℕ → List ℕ
from n s = take (length s - n) (drop n s)

pub rest : (n : ℕ) (s : List ℕ) → from n s ≡ drop n s
rest n s = take_all (length s - n) (drop n s) (omega (arith, length-drop n s))

pub says-line : (line : List ℕ) (n m : ℕ) → n ≡ leading (is_of Text) line → m ≡ leading (is_of Blank) (take n line) → word_says (from m (take n line)) ≡ says_of line
unfolding says_of
says-line line n m e b = rw (rest m (take n line), b, e)
