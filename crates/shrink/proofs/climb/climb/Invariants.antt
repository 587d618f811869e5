use Rattle.std.proofs.Common.{◌-◌, ◌≤◌, length}
use Rattle.shrink.specs.Shrinking.{Start, Climbing}
use Rattle.shrink.proofs.climb.climb.Given as goal

abbrev pub invariant-loop-node : goal.invariant-loop-node
invariant-loop-node g l =
    (length l.path ≤ length l.fn.path - 1)
    × ((z : Start g.row.K-Item.Denot) → Climbing g.K.Kind.layout z 0 l.fn.path (g.W.Store.memory l.fn.m) l.fn.risen
    → Climbing g.K.Kind.layout z (length l.fn.path - length l.path) l.path (g.W.Store.memory l.m) l.top)

abbrev pub decreases-loop-node : goal.decreases-loop-node
decreases-loop-node g l = length l.path
