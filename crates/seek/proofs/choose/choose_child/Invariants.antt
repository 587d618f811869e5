use Rattle.std.proofs.Common.{◌≡◌, ◌+◌, ◌<◌, ◌≤◌, take}
use Rattle.page.specs.Layout.{counts}
use Rattle.store.specs.Memory.{asked}
use Rattle.seek.specs.Descent.{more}
use Rattle.seek.proofs.choose.choose_child.Given as goal

abbrev pub invariant-loop-child : goal.invariant-loop-child
invariant-loop-child g l = record {
  same : g.W.Store.memory l.m ≡ asked (l.child + 1) (g.W.Store.memory l.fn.m);
  place : counts (take l.child (g.K.Kind.layout.children ((g.W.Store.memory l.fn.m).block l.b))) + l.rest ≡ l.at;
  passed : 0 < l.child → more l.target ≤ l.rest;
}
