-- The counts of ones are the counts of cases, for marks that name only cases.
use Prim.Native.Nat.{ℕ, ◌-◌, ◌≤◌}
use mathlib.Core.Bool.{Bool, true, false, ◌&&◌, ◌||◌, not}
use mathlib.Core.Path.{◌≡◌, refl}
use native.Mathlib.Omega.{arith}
use Rattle.sets.specs.Loops.{counted}
use Rattle.sets.specs.Sets.{has, Below, union, minus, size}
use Rattle.sets.proofs.Below.{below-union, below-minus, has-union, has-minus}
use Rattle.sets.proofs.Counts.{size_below, counted_same, counted-not}
use Rattle.tally.specs.Tallying.{is_passed, is_failed, is_not_run}

module _ (n good bad : ℕ) (h : n ≤ 64) (g : Below good n ≡ true) (b : Below bad n ≡ true) where
  pub passed_counted : size (minus good bad) ≡ counted (is_passed good bad) n
  passed_counted = size_below (minus good bad) n (is_passed good bad) h (below-minus good bad n g) (has-minus good bad)

  pub failed-counted : size bad ≡ counted (is_failed good bad) n
  failed-counted = size_below bad n (is_failed good bad) h b (λ k l. refl)

  abbrev ran : ℕ → Bool
  ran k = has good k || has bad k

  ran-counted : size (union good bad) ≡ counted ran n
  ran-counted = size_below (union good bad) n ran h (below-union good bad n g b) (has-union good bad)

  otherwise : (x y : Bool) → not (x || y) ≡ not (y || x && not y)
  otherwise true true = refl
  otherwise true false = refl
  otherwise false true = refl
  otherwise false false = refl

  pub ran-fits : size (union good bad) ≤ n
  ran-fits = let e = ran-counted in let f = counted-not ran n in omega (arith, e, f)

  pub notrun-counted : n - size (union good bad) ≡ counted (is_not_run good bad) n
  notrun-counted =
      let e = ran-counted in
      let f = counted-not ran n in
      let q = counted_same (λ k. not (ran k)) (is_not_run good bad) n (λ k l. otherwise (has good k) (has bad k)) in
      omega (arith, e, f, q)
