-- The digits of the numbers in hex and in decimal, and how many there are; what is put where there is room, and part by part.
use Prim.Native.Nat.{ℕ, zero, suc, ◌+◌, ◌-◌, ◌/◌, ◌%◌, ◌^◌, ◌≤◌, ◌<◌}
use mathlib.Core.List.{List, [], ◌∷◌, ◌++◌}
use mathlib.Core.Bool.{Bool, true, false, cond}
use mathlib.Core.Path.{◌≡◌, refl, sym, ap, ◌∙◌}
use native.Mathlib.Nat.{pow-suc, div-lt_iff_lt-mul}
use native.Mathlib.Omega.{arith}
use lib.Dec.{ltb}
use lib.ListN.{length, length-append}
use borrow.Author.Tests.{lt-ltb, le-ltb, le-leb, lt-leb}
use Rattle.sets.specs.Bytes.{Put}
use Rattle.sets.proofs.Bytes.{put-none, put-put, put-kept}
use Rattle.lines.specs.Lines.{text, digit, hex, decimal_from, decimal, chart_line, Puts}

-- ---- one digit

-- of a number below 16 the last digit in hex is its digit
pub digit-small : (n : ℕ) → n < 16 → digit (n % 16) ≡ digit n
digit-small n h = let e : n % 16 ≡ n = omega arith in ap digit e

-- ---- numbers in hex

-- k digits are k bytes
pub hex-length : (k n : ℕ) → length (hex k n) ≡ k
unfolding hex
hex-length zero n = refl
hex-length (suc k) n = omega (arith, length-append (hex k (n / 16)) (digit (n % 16) ∷ []), hex-length k (n / 16))

-- k digits are k - 1 digits of the sixteenth, and then the last digit
pub hex-last : (k n : ℕ) → 0 < k → hex k n ≡ hex (k - 1) (n / 16) ++ (digit (n % 16) ∷ [])
unfolding hex
hex-last zero n h = absurd (omega arith)
hex-last (suc k) n h = let e : suc k - 1 ≡ k = omega arith in rw e

-- ---- numbers in decimal

-- a number below ten is its digit
pub decimal-one : (m n : ℕ) → n < 10 → decimal_from (suc m) n ≡ digit n ∷ []
unfolding decimal_from
decimal-one m n h = rw (lt-ltb n 10 h)

-- a larger one is its tenth and then its last digit
decimal-more : (m n : ℕ) → 10 ≤ n → decimal_from (suc m) n ≡ decimal_from m (n / 10) ++ (digit (n % 10) ∷ [])
unfolding decimal_from
decimal-more m n h = rw (le-ltb n 10 h)

-- at most k digits are at most k bytes
pub decimal-short : (k n : ℕ) → length (decimal_from k n) ≤ k
unfolding decimal_from
decimal-short zero n = omega arith
decimal-short (suc k) n = by (ltb n 10) (decimal-short k (n / 10))
  where
    by : (b : Bool) → length (decimal_from k (n / 10)) ≤ k → length (cond b (digit n ∷ []) (decimal_from k (n / 10) ++ (digit (n % 10) ∷ []))) ≤ suc k
    by true h = omega arith
    by false h = omega (arith, length-append (decimal_from k (n / 10)) (digit (n % 10) ∷ []))

-- room for one digit more changes nothing where the room was enough
decimal-enough : (m n : ℕ) → n < 10 ^ suc m → decimal_from (suc (suc m)) n ≡ decimal_from (suc m) n
unfolding decimal_from
decimal-enough zero n h = decimal-one 1 n h ∙ sym (decimal-one 0 n h)
decimal-enough (suc m) n h =
    ap (λ (x : List ℕ). cond (ltb n 10) (digit n ∷ []) (x ++ (digit (n % 10) ∷ []))) (decimal-enough m (n / 10) ((div-lt_iff_lt-mul (omega arith)).1 (rw (pow-suc 10 (suc m)) at h)))

-- nineteen digits are enough for the tenth of a 64-bit number
tenth : (n : ℕ) → n < 2 ^ 64 → decimal_from 20 (n / 10) ≡ decimal_from 19 (n / 10)
tenth n h = decimal-enough 18 (n / 10) (omega arith)

-- so that tenth is at most nineteen bytes
pub tenth-short : (n : ℕ) → n < 2 ^ 64 → length (decimal (n / 10)) ≤ 19
tenth-short n h = rw (tenth n h) (decimal-short 19 (n / 10))

-- a 64-bit number of two digits or more is its tenth in decimal, and then its last digit
pub decimal-last : (n : ℕ) → 10 ≤ n → n < 2 ^ 64 → decimal n ≡ decimal (n / 10) ++ (digit (n % 10) ∷ [])
decimal-last n h k = decimal-more 19 n h ∙ ap (λ (x : List ℕ). x ++ (digit (n % 10) ∷ [])) (sym (tenth n k))

-- a space and k digits; a name and a number; a refused chart
pub word-short : (k n : ℕ) → length (text " " ++ hex k n) ≤ k + 1
word-short k n = omega (arith, hex-length k n)

pub named-short : (name : List ℕ) (n : ℕ) → length (name ++ decimal n) ≤ length name + 20
named-short name n = omega (arith, length-append name (decimal n), decimal-short 20 n)

pub chart-short : (code : ℕ) → length (chart_line code) ≤ 35
unfolding chart_line
chart-short code = omega (arith, length-append (text "refused chart " ++ decimal code) (text "\n"), named-short (text "refused chart ") code)

-- ---- what is put where there is room

-- there was room: it is put
pub puts : (room : ℕ) (e : List ℕ) (at : ℕ) (t : List ℕ) {now : List ℕ} {end : ℕ} → Puts room e at t now end → at + room ≤ length e → Put e at t now end
puts room e at t p h = let b = le-leb (at + room) (length e) h in (p.0 ∙ rw b, p.1 ∙ rw b)

-- there is room and it was put, or there is none
pub put-there : (room : ℕ) (e : List ℕ) (at : ℕ) (t : List ℕ) {now : List ℕ} {end : ℕ} → at + room ≤ length e → Put e at t now end → Puts room e at t now end
put-there room e at t h p = let b = le-leb (at + room) (length e) h in (p.0 ∙ rw b, p.1 ∙ rw b)

pub no_room : (room : ℕ) (e : List ℕ) (at : ℕ) (t : List ℕ) → length e < at + room → Puts room e at t e at
no_room room e at t h = let b = lt-leb (at + room) (length e) h in (rw b, rw b)

-- ---- a line from the front of a buffer on, part by part

-- what is put so far ends at most there
pub record Line (e t now : List ℕ) (end most : ℕ) : Type 0 where
  pub put : Put e 0 t now end
  pub within : end ≤ most

pub no_line : (e : List ℕ) → Line e [] e 0 0
no_line e = record { put = put-none e 0; within = omega arith }

-- the next part, for which there is room
pub line_on : {e t m : List ℕ} {i most : ℕ} → Line e t m i most → (room : ℕ) (u : List ℕ) {l : List ℕ} {j : ℕ} → Puts room m i u l j
    → length u ≤ room → most + room ≤ length e → Line e (t ++ u) l j (most + room)
line_on {e} {t} {m} {i} p room u q short h =
    let w = p.within in
    let k = put-kept e 0 t p.put (omega arith) in
    let r = puts room m i u q (omega arith) in
    record { put = put-put e 0 t u p.put r (omega arith); within = omega (arith, r.1) }
