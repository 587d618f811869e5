use Rattle.std.proofs.lemmas.Result.{err_from_is_err_and}
use Rattle.things.specs.declared.Op.TheVariants.{Free}
use Rattle.things.specs.Names.{any_here}
use Rattle.things.proofs.Rules.{unchanged}
use Rattle.things.proofs.Naming.{low, free_refused}
use Rattle.things.proofs.Closing.{free_cleared}
use Rattle.things.proofs.state.Things.free.Goals as goal

pub returns-in_err-find : goal.returns-in_err-find
returns-in_err-find g c =
    let p = err_from_is_err_and c.from_residual.result c.from_residual.ensures.1 in
    rw (p.1, p.2) (unchanged (Free c.args.n) tt (free_refused c.args.n c.args.self.now _ c.in_err-find.ensures) c.requires.sound)

pub clear-requires-clause-low : goal.clear-requires-clause-low
clear-requires-clause-low g c = low any_here c.args.n c.args.self.now c.in_ok-find.ensures

pub returns : goal.returns
returns g c = free_cleared c.args.n c.args.self.now _ _ _ _ tt c.in_ok-find.ensures c.clear.ensures
