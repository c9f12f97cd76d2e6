-- What the tests of a table show where they pass.
use mathlib.Core.Path.{◌≡◌, refl, ap, ap₂, subst}
use mathlib.Core.Bool.{Bool, true, false, ◌&&◌}
use Prim.Native.Nat.{ℕ, zero, suc, ◌+◌, ◌-◌, ◌≤◌, ◌<◌}
use native.Mathlib.Omega.{arith}
use lib.Dec.{eqb}
use borrow.Author.Tests.{eqb-true, eqb-false}
use Rattle.sets.proofs.Loops.{and-true}
use Rattle.forms.specs.Form.{Form, empty, one, then, or, many}
use Rattle.forms.specs.Table.{same, span, range}

pub never : {A : Type 0} → false ≡ true → A
never h = let z : ◌≡◌ {A = ℕ} 0 1 = cc in absurd (omega arith)

pub and_left : (a b : Bool) → (a && b) ≡ true → a ≡ true
and_left a b h = (and-true a b h).0

pub and_right : (a b : Bool) → (a && b) ≡ true → b ≡ true
and_right a b h = (and-true a b h).1

pub same_true : (f g : Form) → same f g ≡ true → f ≡ g
unfolding same
same_true empty empty t = refl
same_true empty (one a' b' c') t = never t
same_true empty (then f' g') t = never t
same_true empty (or f' g') t = never t
same_true empty (many f') t = never t
same_true (one a b c) empty t = never t
same_true (one a b c) (one a' b' c') t =
    let u : (eqb b b' && eqb c c') ≡ true = and_right (eqb a a') (eqb b b' && eqb c c') t in
    let x : a ≡ a' = eqb-true a a' (and_left (eqb a a') (eqb b b' && eqb c c') t) in
    let y : b ≡ b' = eqb-true b b' (and_left (eqb b b') (eqb c c') u) in
    let z : c ≡ c' = eqb-true c c' (and_right (eqb b b') (eqb c c') u) in
    cc
same_true (one a b c) (then f' g') t = never t
same_true (one a b c) (or f' g') t = never t
same_true (one a b c) (many f') t = never t
same_true (then f g) empty t = never t
same_true (then f g) (one a' b' c') t = never t
same_true (then f g) (then f' g') t = ap₂ then (same_true f f' (and_left (same f f') (same g g') t)) (same_true g g' (and_right (same f f') (same g g') t))
same_true (then f g) (or f' g') t = never t
same_true (then f g) (many f') t = never t
same_true (or f g) empty t = never t
same_true (or f g) (one a' b' c') t = never t
same_true (or f g) (then f' g') t = never t
same_true (or f g) (or f' g') t = ap₂ or (same_true f f' (and_left (same f f') (same g g') t)) (same_true g g' (and_right (same f f') (same g g') t))
same_true (or f g) (many f') t = never t
same_true (many f) empty t = never t
same_true (many f) (one a' b' c') t = never t
same_true (many f) (then f' g') t = never t
same_true (many f) (or f' g') t = never t
same_true (many f) (many f') t = ap many (same_true f f' t)

pub span-at : (p : ℕ → Bool) (n a b : ℕ) → span p a n ≡ true → a ≤ b → b < a + n → p b ≡ true
unfolding span
span-at p zero a b t l h = absurd (omega arith)
span-at p (suc n) a b t l h = go (λ m. span-at p n (suc a) b (and_right (p a) (span p (suc a) n) t) m (omega arith)) (eqb a b) refl
  where
    go : (suc a ≤ b → p b ≡ true) → (e : Bool) → eqb a b ≡ e → p b ≡ true
    go r true e = subst (λ (x : ℕ). p x ≡ true) (eqb-true a b e) (and_left (p a) (span p (suc a) n) t)
    go r false e = let d : a ≡ b → ⊥ = eqb-false a b e in r (omega arith)

pub range_at : (p : ℕ → Bool) (a z b : ℕ) → range p a z ≡ true → a ≤ b → b ≤ z → p b ≡ true
range_at p a z b t l h = span-at p (suc z - a) a b t l (omega arith)
