use Rattle.std.proofs.Common.{◌≡◌, ◌+◌, take}
use Rattle.page.specs.Layout.{counts}
use Rattle.store.specs.Memory.{asked}
use Rattle.seek.proofs.size.total.Given as goal

abbrev pub invariant-loop-i : goal.invariant-loop-i
invariant-loop-i g l = record {
  same : g.W.Store.memory l.m ≡ asked (l.i + 1) (g.W.Store.memory l.fn.m);
  sum : l.sum ≡ counts (take l.i (g.K.Kind.layout.children ((g.W.Store.memory l.fn.m).block l.b)));
}
