use Rattle.std.proofs.Common.{arith}
use Rattle.page.proofs.Lists.{parted}
use Rattle.page.proofs.page.Page.replace_by_two.Goals as goal

pub returns : goal.returns
returns g c =
    record { len = omega arith; after = parted c.args.self.now c.args.at c.args.x c.args.y (omega arith) c.replace.ensures.after c.insert.ensures.after; few = omega arith }
