-- Document 02, request (ix): "A cycle that consults only transitions leaving some active step takes the same ones .. Refusals: 20 when it is not
-- exactly the index of this chart, 0 beyond the last step, tested after the chart and before 12".
use Rattle.std.specs.Prelude.{ℕ, List, Bool, ◌&&◌, ◌||◌, cond, length, get_or, ltb, eqb}
use Rattle.sets.specs.Loops.{all, some, or_else}
use Rattle.sets.specs.Sets.{has, collect}
use Rattle.fields.specs.Fields.{unless}
use Rattle.index.specs.Building.{leaving_at}

-- "exactly the index of this chart": a chart that passed its test has no source beyond the last step, so the words there are 0 (claims, `Index`)
abbrev pub is_index : ℕ → List ℕ → List ℕ → Bool
is_index n sources index = eqb (length index) 64 && all (λ k. eqb (get_or index k 0) (leaving_at n sources k)) 64

-- the chart's number, then 20, unless no index is lent
abbrev pub index_after : ℕ → ℕ → List ℕ → List ℕ → ℕ
index_after held n sources index = or_else held (unless (eqb (length index) 0 || is_index n sources index) 20)

-- "transitions leaving some active step"; without an index all, of n
unfoldable pub consulted : ℕ → List ℕ → ℕ → ℕ
consulted n index active =
    collect (λ t. cond (ltb (length index) 64) (ltb t n) (some (λ k. has active k && has (get_or index k 0) t) 64)) 64

-- what a cycle relies on that consults so: with an index, that it is the chart's, and that each transition has a source
abbrev pub consultable : ℕ → List ℕ → List ℕ → Bool
consultable n sources index = ltb (length index) 64 || (is_index n sources index && all (λ t. some (λ k. has (get_or sources t 0) k) 64) n)
