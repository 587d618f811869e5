use Rattle.std.proofs.Common.{arith}
use Rattle.page.proofs.Lists.{extended_more}
use Rattle.page.proofs.page.Page.extend.Goals as goal

pub loop-i-preserved : goal.loop-i-preserved
loop-i-preserved g c =
    (omega arith, extended_more c.args.self.now c.args.other.now c.args.from c.loop-i.i _ (omega arith) (omega arith) c.loop-i.invariant.1 c.get.ensures.value c.push.ensures.after)
