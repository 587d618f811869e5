use Rattle.store.proofs.Loading.{Loading}
use Rattle.store.proofs.words.load.Given as goal

abbrev pub invariant-loop-i : goal.invariant-loop-i
invariant-loop-i g l = Loading l.first l.b g.row.N l.i l.words (g.W.Store.memory l.initial.m) (g.W.Store.memory l.m)
