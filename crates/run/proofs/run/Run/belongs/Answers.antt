-- By its callees' statements; of the latched actions, those below 32.
use Rattle.run.proofs.tables.Laws.{fit-timers}
use Rattle.run.proofs.run.Run.belongs.Goals as goal

pub returns : goal.returns
returns c = rw (c.fits-2.ensures, c.fits.ensures, c.names_fit.ensures, fit-timers c.args.self.now.timers c.args.self.now.latched)
