use Rattle.std.proofs.Common.{length}
use Rattle.store.proofs.Stocking.{Giving}
use Rattle.store.proofs.gather.give_all.Given as goal

abbrev pub invariant-loop-f : goal.invariant-loop-f
invariant-loop-f g l = Giving (g.W.Store.memory l.initial.m) l.initial.rest (g.W.Store.memory l.m) l.rest

abbrev pub decreases-loop-f : goal.decreases-loop-f
decreases-loop-f g l = length l.rest
