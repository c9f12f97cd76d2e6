-- What a loop over 0, 1, .. has in hand after n turns.
use Rattle.std.specs.Prelude.{Bool, true, false, ◌&&◌, ◌||◌, cond, List, [], ◌∷◌, ℕ, zero, suc, ◌+◌, eqb, ltb}

-- p holds of every number below n
unfoldable pub all : (ℕ → Bool) → ℕ → Bool
all p zero = true
all p (suc n) = all p n && p n

-- p holds of some number below n
unfoldable pub some : (ℕ → Bool) → ℕ → Bool
some p zero = false
some p (suc n) = some p n || p n

-- the first number below n of which p holds, n if there is none
unfoldable pub first_of : (ℕ → Bool) → ℕ → ℕ
first_of p zero = 0
first_of p (suc n) = cond (ltb (first_of p n) n) (first_of p n) (cond (p n) n (suc n))

-- f 0 + f 1 + .., n of them
unfoldable pub summed : (ℕ → ℕ) → ℕ → ℕ
summed f zero = 0
summed f (suc n) = summed f n + f n

-- how many numbers below n p holds of
abbrev pub counted : (ℕ → Bool) → ℕ → ℕ
counted p n = summed (λ k. cond (p k) 1 0) n

-- the first of two numbers of refusal that is not 0
abbrev pub or_else : ℕ → ℕ → ℕ
or_else a b = cond (eqb a 0) b a

-- the first number that is not 0 among f 0, f 1, .. below n, 0 if there is none
unfoldable pub first_code : (ℕ → ℕ) → ℕ → ℕ
first_code f zero = 0
first_code f (suc n) = or_else (first_code f n) (f n)

-- f 0, f 1, .. in a list, n of them
unfoldable pub table_from : {A : Type 0} → (ℕ → A) → ℕ → ℕ → List A
table_from f k zero = []
table_from f k (suc n) = f k ∷ table_from f (suc k) n

abbrev pub table : {A : Type 0} → (ℕ → A) → ℕ → List A
table f n = table_from f 0 n

-- what s becomes by f 0, f 1, .. in turn, n of them
unfoldable pub turns : {A : Type 0} → (ℕ → A → A) → A → ℕ → A
turns f s zero = s
turns f s (suc n) = f n (turns f s n)
