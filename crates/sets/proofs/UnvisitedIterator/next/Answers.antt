-- Each turn takes a member off, so that fewer are left.
use Rattle.std.proofs.Common.{rules, ◌<◌, ◌^◌}
use Rattle.sets.specs.Sets.{first, remove}
use Rattle.sets.proofs.Least.{remove-lt}
use Rattle.sets.proofs.UnvisitedIterator.next.Goals as goal

pub returns-clause-goes : goal.returns-clause-goes
returns-clause-goes c =
    let word : c.args.self.now.rest < 2 ^ 64 = search rules in
    let lt : remove c.args.self.now.rest (first c.args.self.now.rest) < c.args.self.now.rest = remove-lt c.args.self.now.rest word c.if-self-eq0.false in
    search rules
