use Rattle.clear.proofs.Clearing.{Going}
use Rattle.clear.proofs.give_back.Given as goal

abbrev pub invariant-loop-at : goal.invariant-loop-at
invariant-loop-at g l = Going g.K.Kind.layout l.t.height l.t.root (g.W.Store.memory l.fn.m) l.path (g.W.Store.memory l.m)

abbrev pub decreases-loop-at : goal.decreases-loop-at
decreases-loop-at g l = (g.W.Store.memory l.m).left
