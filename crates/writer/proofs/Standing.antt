-- Bytes that stand in others from a place on; numbers read from where their bytes stand, and the bytes of numbers where they were read.
use Prim.Native.Nat.{ℕ, zero, suc, ◌+◌, ◌*◌, ◌/◌, ◌^◌, ◌<◌}
use mathlib.Core.List.{List, [], ◌∷◌, ◌++◌}
use mathlib.Core.Path.{◌≡◌, refl, sym, ap, ap₂, ◌∙◌}
use native.Mathlib.Nat.{add-zero, zero-add, pow-suc, div-lt_iff_lt-mul}
use native.Mathlib.Omega.{arith}
use lib.ListN.{length, get_or, length-append}
use lib.Seq.{get_or-append_seam, append_snoc, ext_get_or}
use Rattle.reader.specs.Numbers.{le, bytes_of, numbers_at, numbers_bytes, total}
use Rattle.writer.specs.Back.{Bytes}

abbrev pub Stands : List ℕ → ℕ → List ℕ → Type 0
Stands s at [] = Unit {0}
Stands s at (x ∷ t) = (get_or s at 0 ≡ x) × Stands s (at + 1) t

next : (at n : ℕ) → at + 1 + n ≡ at + suc n
next at n = omega arith

module _ (s : List ℕ) where
  pub stands-both : (at : ℕ) (t u : List ℕ) → Stands s at t → Stands s (at + length t) u → Stands s at (t ++ u)
  stands-both at [] u h k = rw (add-zero at) at k
  stands-both at (x ∷ t) u h k = (h.0, stands-both (at + 1) t u h.1 (rw (next at (length t)) k))

  pub stands-first : (at : ℕ) (t u : List ℕ) → Stands s at (t ++ u) → Stands s at t
  stands-first at [] u h = tt
  stands-first at (x ∷ t) u h = (h.0, stands-first (at + 1) t u h.1)

  pub stands-last : (at : ℕ) (t u : List ℕ) → Stands s at (t ++ u) → Stands s (at + length t) u
  stands-last at [] u h = rw (add-zero at) h
  stands-last at (x ∷ t) u h = rw (← next at (length t)) (stands-last (at + 1) t u h.1)

-- what was put behind others stands there
behind : (p t : List ℕ) → Stands (p ++ t) (length p) t
behind p [] = tt
behind p (x ∷ t) =
    (get_or-append_seam p x t 0, rw (append_snoc p x t, length-append p (x ∷ [])) at (behind (p ++ (x ∷ [])) t))

pub stands-whole : (s : List ℕ) → Stands s 0 s
stands-whole s = behind [] s

stands-get : (s : List ℕ) (at : ℕ) (t : List ℕ) (i : ℕ) → Stands s at t → i < length t → get_or s (at + i) 0 ≡ get_or t i 0
stands-get s at [] i h k = absurd (omega arith)
stands-get s at (x ∷ t) zero h k = rw (add-zero at) h.0
stands-get s at (x ∷ t) (suc i) h k = rw (← next at i) (stands-get s (at + 1) t i h.1 (omega arith))

pub stands_same : (s t : List ℕ) → Stands s 0 t → length t ≡ length s → t ≡ s
stands_same s t h e = sym (ext_get_or 0 s t (sym e) (λ i k. rw (zero-add i) at (stands-get s 0 t i h (omega arith))))

-- ---- numbers

-- each number fits its width
abbrev pub Fit : List ℕ → List ℕ → Type 0
Fit [] xs = xs ≡ []
Fit (w ∷ ws) [] = ⊥
Fit (w ∷ ws) (x ∷ xs) = (x < 256 ^ w) × Fit ws xs

bytes-length : (w x : ℕ) → length (bytes_of w x) ≡ w
bytes-length zero x = refl
bytes-length (suc w) x = ap suc (bytes-length w (x / 256))

pub numbers-length : (ws xs : List ℕ) → Fit ws xs → length (numbers_bytes ws xs) ≡ total ws
numbers-length [] xs f = refl
numbers-length (w ∷ ws) [] f = elim f [ ]
numbers-length (w ∷ ws) (x ∷ xs) f =
    length-append (bytes_of w x) (numbers_bytes ws xs) ∙ ap₂ ◌+◌ (bytes-length w x) (numbers-length ws xs f.1)

module _ (s : List ℕ) where
  le-back : (w x at : ℕ) → x < 256 ^ w → Stands s at (bytes_of w x) → le w s at ≡ x
  le-back zero x at h k = omega arith
  le-back (suc w) x at h k =
      let n : x / 256 < 256 ^ w = (div-lt_iff_lt-mul {k = 256} (omega arith)).1 (rw (pow-suc 256 w) at h) in
      omega (arith, k.0, le-back w (x / 256) (at + 1) n k.1)

  pub numbers-back : (ws xs : List ℕ) (at : ℕ) → Fit ws xs → Stands s at (numbers_bytes ws xs) → numbers_at ws s at ≡ xs
  numbers-back [] xs at f h = sym f
  numbers-back (w ∷ ws) [] at f h = elim f [ ]
  numbers-back (w ∷ ws) (x ∷ xs) at f h =
      let e : le w s at ≡ x = le-back w x at f.0 (stands-first s at (bytes_of w x) (numbers_bytes ws xs) h) in
      let k : Stands s (at + w) (numbers_bytes ws xs) = rw (bytes-length w x) at (stands-last s at (bytes_of w x) (numbers_bytes ws xs) h) in
      rw (e, numbers-back ws xs (at + w) f.1 k)

  module _ (b : Bytes s) where
    bytes-stand : (w at : ℕ) → Stands s at (bytes_of w (le w s at))
    bytes-stand zero at = tt
    bytes-stand (suc w) at =
        let d : (get_or s at 0 + 256 * le w s (at + 1)) / 256 ≡ le w s (at + 1) = omega (arith, b at) in
        (omega (arith, b at), rw d (bytes-stand w (at + 1)))

    pub numbers-stand : (ws : List ℕ) (at : ℕ) → Stands s at (numbers_bytes ws (numbers_at ws s at))
    numbers-stand [] at = tt
    numbers-stand (w ∷ ws) at =
        stands-both s at (bytes_of w (le w s at)) (numbers_bytes ws (numbers_at ws s (at + w))) (bytes-stand w at)
        (rw (bytes-length w (le w s at)) (numbers-stand ws (at + w)))
