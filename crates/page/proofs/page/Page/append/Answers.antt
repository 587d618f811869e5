use Rattle.std.proofs.Common.{arith}
use Rattle.std.proofs.lemmas.Slice.{between_to_end}
use Rattle.page.proofs.page.Page.append.Goals as goal

pub returns : goal.returns
returns g c =
    record { len = omega arith; after = rw (between_to_end c.args.other.now 0 c.len.result (omega arith)) at c.extend.ensures.after; few = omega arith }
