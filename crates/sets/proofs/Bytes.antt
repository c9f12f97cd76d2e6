-- Bytes written over a part of a buffer: one part and then the next, one byte, none.
use Prim.Native.Nat.{ℕ, suc, ◌+◌, ◌≤◌, ◌<◌}
use mathlib.Core.List.{List, [], ◌∷◌, ◌++◌, append_assoc}
use mathlib.Core.Path.{◌≡◌, refl, sym, ap, ◌∙◌}
use native.Mathlib.Numerals.{add-one}
use native.Mathlib.Omega.{arith}
use lib.ListN.{length, get_or, take, drop, set, length-append, length-drop, take-append-drop}
use lib.Seq.{length-take-le, take-length, take-suc, set_split, drop-drop, take_at, drop_at}
use Rattle.sets.specs.Bytes.{over, Put}

-- what is in front of the place behind t, and what lies behind it
split : (e : List ℕ) (at : ℕ) (t : List ℕ) → over e at t ≡ (take at e ++ t) ++ drop (length t) (drop at e)
split e at t = sym (append_assoc (take at e) t (drop (length t) (drop at e)))

-- what is in front of the place behind t ends there
front_length : (e : List ℕ) (at : ℕ) (t : List ℕ) → at ≤ length e → length (take at e ++ t) ≡ at + length t
front_length e at t h = length-append (take at e) t ∙ ap (λ (n : ℕ). n + length t) (length-take-le at e h)

-- t written over a buffer and u behind it: t ++ u is written
over-over : (e : List ℕ) (at : ℕ) (t u : List ℕ) → at + length t ≤ length e → over (over e at t) (at + length t) u ≡ over e at (t ++ u)
over-over e at t u h =
    let p = take at e ++ t in
    let q = drop (length t) (drop at e) in
    let l = front_length e at t (omega arith) in
    ap (λ (m : List ℕ). over m (at + length t) u) (split e at t)
    ∙ ap (λ (x : List ℕ). x ++ (u ++ drop (length u) (drop (at + length t) (p ++ q)))) (take_at p q (at + length t) l)
    ∙ ap (λ (x : List ℕ). p ++ (u ++ drop (length u) x)) (drop_at p q (at + length t) l)
    ∙ append_assoc (take at e) t (u ++ drop (length u) q)
    ∙ ap (λ (x : List ℕ). take at e ++ x) (sym (append_assoc t u (drop (length u) q)) ∙ ap (λ (x : List ℕ). (t ++ u) ++ x) (drop-drop (length u) (length t) (drop at e) ∙ ap (λ (n : ℕ). drop n (drop at e)) (sym (length-append t u))))

-- one part and then the next
pub put-put : (e : List ℕ) (at : ℕ) (t u : List ℕ) {m l : List ℕ} {i j : ℕ} → Put e at t m i → Put m i u l j → i ≤ length e → Put e at (t ++ u) l j
put-put e at t u p q h = (q.0 ∙ rw (p.0, p.1) (over-over e at t u (omega (arith, p.1))), omega (arith, p.1, q.1, length-append t u))

-- three, four and five parts, each behind the one before
pub put_three : (e : List ℕ) (at : ℕ) (t u v : List ℕ) {m l n : List ℕ} {i j k : ℕ} → Put e at t m i → Put m i u l j → Put l j v n k → j ≤ length e → Put e at (t ++ u ++ v) n k
put_three e at t u v p q r h = put-put e at (t ++ u) v (put-put e at t u p q (omega (arith, q.1))) r h

pub put_four : (e : List ℕ) (at : ℕ) (t u v w : List ℕ) {m l n o : List ℕ} {i j k a : ℕ}
    → Put e at t m i → Put m i u l j → Put l j v n k → Put n k w o a → k ≤ length e → Put e at (t ++ u ++ v ++ w) o a
put_four e at t u v w p q r z h = put-put e at (t ++ u ++ v) w (put_three e at t u v p q r (omega (arith, r.1))) z h

pub put_five : (e : List ℕ) (at : ℕ) (t u v w x : List ℕ) {m l n o f : List ℕ} {i j k a b : ℕ}
    → Put e at t m i → Put m i u l j → Put l j v n k → Put n k w o a → Put o a x f b → a ≤ length e → Put e at (t ++ u ++ v ++ w ++ x) f b
put_five e at t u v w x p q r z y h = put-put e at (t ++ u ++ v ++ w) x (put_four e at t u v w p q r z (omega (arith, z.1))) y h

-- nothing is written
pub put-none : (e : List ℕ) (at : ℕ) → Put e at [] e at
put-none e at = (sym (take-append-drop at e), omega arith)

-- one byte is written
pub put_byte : (l : List ℕ) (i g : ℕ) → i < length l → Put l i (g ∷ []) (set l i g) (i + 1)
put_byte l i g h = (set_split l i g h ∙ ap (λ (x : List ℕ). take i l ++ (g ∷ x)) (sym (drop-drop 1 i l ∙ ap (λ (n : ℕ). drop n l) one)), refl)
  where
    one : i + 1 ≡ suc i
    one = omega arith

-- what is written within a buffer leaves its length
pub put-kept : (e : List ℕ) (at : ℕ) (t : List ℕ) {m : List ℕ} {i : ℕ} → Put e at t m i → i ≤ length e → length m ≡ length e
put-kept e at t p h =
    omega (arith, p.1, ap length (p.0 ∙ split e at t), length-append (take at e ++ t) (drop (length t) (drop at e)), front_length e at t (omega (arith, p.1)), length-drop (length t) (drop at e), length-drop at e)

-- a byte is written behind what is written
pub put_last : (e : List ℕ) (at : ℕ) (t : List ℕ) (g : ℕ) {m : List ℕ} {i : ℕ} → Put e at t m i → i < length e → Put e at (t ++ (g ∷ [])) (set m i g) (i + 1)
put_last e at t g {m} {i} p h =
    let long = put-kept e at t p (omega arith) in
    put-put e at t (g ∷ []) p (put_byte m i g (omega arith)) (omega arith)

-- the next of the bytes is written
pub put-turn : (e : List ℕ) (at : ℕ) (b l : List ℕ) (i : ℕ) → Put e at (take i b) l (at + i) → i < length b → at + length b ≤ length e
    → Put e at (take (i + 1) b) (set l (at + i) (get_or b i 0)) (at + (i + 1))
put-turn e at b l i p h k =
    (rw (add-one, take-suc b i 0) (put_last e at (take i b) (get_or b i 0) p (omega arith)).0, omega (arith, length-take-le (i + 1) b (omega arith)))

-- all the bytes are written
pub put_all : (e : List ℕ) (at : ℕ) (b l : List ℕ) (i : ℕ) → Put e at (take i b) l (at + i) → i ≡ length b → Put e at b l (at + length b)
put_all e at b l i p h = (rw (h, take-length) at p.0, refl)
