-- It is put where there is room; nothing otherwise.
use Rattle.std.proofs.Common.{◌-◌, length, ◌≡◌, [], ◌∷◌, arith}
use lib.Seq.{take_all}
use Rattle.sets.proofs.Bytes.{put-none, put_byte}
use Rattle.weights.proofs.listing.kept.Goals as goal

pub returns-then-count-weights : goal.returns-then-count-weights
returns-then-count-weights c =
    let a = c.args in
    rw (take_all (length a.weights.now - a.count) (a.weight ∷ []) (omega arith)) (put_byte _ _ _ (omega arith))

pub returns : goal.returns
returns c =
    let a = c.args in
    let none : length a.weights.now - a.count ≡ 0 = omega arith in
    rw none (put-none _ _)
