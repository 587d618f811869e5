use Rattle.std.proofs.Common.{◌≡◌}
use lib.Seq.{paste}
use Rattle.store.specs.Memory.{wrote}
use Rattle.store.proofs.words.store.Given as goal

abbrev pub invariant-loop-i : goal.invariant-loop-i
invariant-loop-i g l =
    g.W.Store.memory l.m ≡ wrote l.i l.b (paste ((g.W.Store.memory l.initial.m).block l.b) l.first l.words l.i) (g.W.Store.memory l.initial.m)
