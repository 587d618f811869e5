use Rattle.store.specs.Reserve.{Reserved}
use Rattle.store.proofs.gather.reserve.Given as goal

abbrev pub invariant-loop : goal.invariant-loop
invariant-loop g l = Reserved l.counter (g.W.Store.memory l.initial.m) l.got (g.W.Store.memory l.m)
