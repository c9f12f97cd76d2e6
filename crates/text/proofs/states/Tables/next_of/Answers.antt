use Rattle.text.proofs.Tables.{place-within, next-at}
use Rattle.text.proofs.states.Tables.next_of.Goals as goal

pub bounds-self-self : goal.bounds-self-self
bounds-self-self c = rw c.requires.0 (place-within c.args.b c.args.state c.requires.2)

pub returns : goal.returns
returns c = rw (c.requires.0, c.requires.1) (next-at c.args.b c.args.state c.requires.2)
