use Rattle.std.proofs.Common.{arith}
use Rattle.page.proofs.Lists.{pushed_and_appended}
use Rattle.page.proofs.page.Page.push_and_append.Goals as goal

pub returns : goal.returns
returns g c =
    record { len = omega arith; after = pushed_and_appended c.args.self.now c.args.other.now c.args.x c.push.ensures.after c.append.ensures.after; few = omega arith }
