-- What is proved of specs/AtLeast.antt.
use Prim.Native.Nat.{ℕ, zero, suc, ◌+◌, ◌*◌, ◌<◌}
use Rattle.std.specs.Prelude.{Bool, true, false, cond, ◌≡◌}
use Rattle.std.proofs.Math.Path.{refl}
use Rattle.std.proofs.Common.{ap, ◌∙◌, mul-le-mul_right, arith}
use Rattle.sets.specs.Loops.{summed}
use Rattle.claims.specs.Runs.{one}
use Rattle.claims.specs.AtLeast.{AtLeast}

-- ---- laws

module _ {edition : ℕ} where
  pub same : {a b : ℕ} → a ≡ b → AtLeast edition a b
  same e = record { least = omega arith; equal = λ q. e }

  pub then : {a b d : ℕ} → AtLeast edition a b → AtLeast edition b d → AtLeast edition a d
  then x y = record { least = omega (arith, x.least, y.least); equal = λ q. x.equal q ∙ y.equal q }

  -- what it is of each term it is of the sums
  pub sum-ledger : (a b c d : ℕ → ℕ) (n : ℕ) → ((k : ℕ) → k < n → AtLeast edition (a k + b k) (c k + d k)) → AtLeast edition (summed a n + summed b n) (summed c n + summed d n)
  unfolding summed
  sum-ledger a b c d zero h = same refl
  sum-ledger a b c d (suc n) h =
      let i = sum-ledger a b c d n (λ k l. h k (omega arith)) in
      let x = h n (omega arith) in
      record { least = omega (arith, i.least, x.least); equal = λ q. omega (arith, i.equal q, x.equal q) }

  -- and of counts, times a weight
  pub times : (a b : Bool) (x y w : ℕ) → AtLeast edition (x + one a) (y + one b) → AtLeast edition (x * w + cond a w 0) (y * w + cond b w 0)
  times a b x y w h =
      let p = part a x in
      let r = part b y in
      record { least = omega (arith, p, r, mul-le-mul_right w h.least); equal = λ q. omega (arith, p, r, ap (λ (z : ℕ). z * w) (h.equal q)) }
    where
      part : (a : Bool) (x : ℕ) → x * w + cond a w 0 ≡ (x + one a) * w
      part true x = omega arith
      part false x = omega arith
