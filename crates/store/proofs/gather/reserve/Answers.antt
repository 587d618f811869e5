use Rattle.std.proofs.Common.{arith}
use Rattle.store.proofs.Stocking.{reserved_none, reserved_more, refused_undone}
use Rattle.store.proofs.gather.reserve.Goals as goal

pub loop-init : goal.loop-init
loop-init g c = rw c.new-got.ensures (reserved_none _)

pub loop-preserved : goal.loop-preserved
loop-preserved g c = rw c.push.ensures.pushed (reserved_more _ _ _ _ _ _ c.loop.invariant c.in-Ok.ensures)

pub returns-in-Err : goal.returns-in-Err
returns-in-Err g c =
    let p = c.loop.invariant in
    refused_undone _ _ _ _ _ p c.in-Err.ensures c.args.n _ (omega arith) (omega (arith, p.left)) c.give_all.ensures
