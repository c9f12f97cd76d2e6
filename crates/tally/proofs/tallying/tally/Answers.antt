-- What the tests have passed; then the counts of ones by the law of each.
use Rattle.std.proofs.Common.{sym}
use Rattle.chart.proofs.held.Sound.{sound}
use Rattle.run.proofs.belongs.Laws.{own-tests, own}
use Rattle.tally.proofs.tallying.Laws.{passed_counted, failed-counted, ran-fits, notrun-counted}
use Rattle.tally.proofs.tallying.tally.Goals as goal

pub overflow_sub-result : goal.overflow_sub-result
overflow_sub-result c =
    let w = own-tests c.args.chart.now c.args.run.now (sym c.in_ok-check.ensures) in
    let o = own c.args.chart.now c.args.run.now w.1 in
    let s = sound c.args.chart.now w.0 in
    rw (c.size-ran.ensures, c.joined.ensures) (ran-fits c.args.chart.now.cases c.args.run.now.good c.args.run.now.bad s.limits.cases o.good o.bad)

pub returns : goal.returns
returns c =
    let w = own-tests c.args.chart.now c.args.run.now (sym c.in_ok-check.ensures) in
    let o = own c.args.chart.now c.args.run.now w.1 in
    let s = sound c.args.chart.now w.0 in
    let n = c.args.chart.now.cases in
    let g = c.args.run.now.good in
    let b = c.args.run.now.bad in
    rw (
      ← c.in_ok-check.ensures,
      c.size.ensures,
      c.without.ensures,
      c.size-2.ensures,
      c.size-ran.ensures,
      c.joined.ensures,
      passed_counted n g b s.limits.cases o.good o.bad,
      failed-counted n g b s.limits.cases o.good o.bad,
      notrun-counted n g b s.limits.cases o.good o.bad,
    )
