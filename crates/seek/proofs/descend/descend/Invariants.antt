use Rattle.std.proofs.Common.{◌-◌}
use Rattle.seek.proofs.Going.{Going}
use Rattle.seek.proofs.descend.descend.Given as goal

abbrev pub invariant-loop : goal.invariant-loop
invariant-loop g l = Going g.K.Kind.layout (g.W.Store.memory l.initial.m) l.fn.t l.at l.target (l.fn.t.height - l.counter) l.b l.path l.rest l.full (g.W.Store.memory l.m)
