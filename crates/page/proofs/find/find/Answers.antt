use Rattle.std.proofs.Common.{arith}
use Rattle.std.proofs.lemmas.List.{take_all}
use Rattle.page.proofs.Counts.{counts_none, counts_more}
use Rattle.page.proofs.find.find.Goals as goal

pub loop-child-init : goal.loop-child-init
loop-child-init g c = omega (arith, counts_none)

pub loop-child-preserved : goal.loop-child-preserved
loop-child-preserved g c = omega (arith, counts_more c.args.page.now c.loop-child.child c.get-count.result (omega arith) c.get-count.ensures.value)

pub unreachable-requires : goal.unreachable-requires
unreachable-requires g c =
    let t = rw (take_all c.loop-child.child c.args.page.now (omega arith)) at c.loop-child.invariant in
    omega arith
