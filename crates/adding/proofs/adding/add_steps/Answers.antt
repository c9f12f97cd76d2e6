-- The tests in their order; what is long enough and fits is added.
use Rattle.std.proofs.Common.{arith, length, ◌≡◌}
use Rattle.adding.proofs.adding.Laws.{fit-all, no-place}
use Rattle.adding.proofs.adding.add_steps.Goals as goal

pub write_sums-requires : goal.write_sums-requires
write_sums-requires c =
    let a = c.args in
    let same : length a.sum.now ≡ length a.first.now = omega arith in
    (omega arith, omega arith, rw same (fit-all _ a.first.now a.second.now (no-place _ c.in_default.ensures)))
