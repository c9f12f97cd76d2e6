-- By its callees' statements.
use Rattle.run.proofs.belongs.Laws.{names-joined}
use Rattle.run.proofs.run.Run.names_fit.Goals as goal

pub returns : goal.returns
returns c =
    let r = c.args.self.now in
    let h = c.args.chart.now in
    rw (
      c.names_below-3.ensures,
      c.joined-2.ensures,
      c.names_below-2.ensures,
      c.names_below.ensures,
      c.joined-of_actions.ensures,
      c.joined.ensures,
    )
    (names-joined h.steps h.actions h.cases r.active r.activity r.stored r.latched r.good r.bad)
