use Rattle.std.proofs.lemmas.Result.{err_from_is_err_and}
use Rattle.things.specs.declared.Op.TheVariants.{Row}
use Rattle.things.proofs.Rules.{unchanged}
use Rattle.things.proofs.Naming.{row_refused}
use Rattle.things.proofs.Serving.{row_served}
use Rattle.things.proofs.state.Things.row.Goals as goal

pub returns-in_err-find_vacant : goal.returns-in_err-find_vacant
returns-in_err-find_vacant g c =
    let p = err_from_is_err_and c.from_residual.result c.from_residual.ensures.1 in
    rw (p.1, p.2) (unchanged (Row c.args.n) tt (row_refused c.args.n c.args.self.now _ c.in_err-find_vacant.ensures) c.requires.sound)

pub returns : goal.returns
returns g c = row_served c.args.n c.args.self.now _ _ c.requires.sound c.in_ok-find_vacant.ensures tt c.lay.ensures
