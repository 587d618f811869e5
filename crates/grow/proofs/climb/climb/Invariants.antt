use Rattle.std.proofs.Common.{length}
use Rattle.grow.proofs.Climbing.{Climbing}
use Rattle.grow.proofs.climb.climb.Given as goal

abbrev pub invariant-loop-branch : goal.invariant-loop-branch
invariant-loop-branch g l = Climbing g.K.Kind.layout l.initial.path (g.W.Store.memory l.initial.m) l.initial.reserve l.initial.top l.path (g.W.Store.memory l.m) l.reserve l.top

abbrev pub decreases-loop-branch : goal.decreases-loop-branch
decreases-loop-branch g l = length l.path
