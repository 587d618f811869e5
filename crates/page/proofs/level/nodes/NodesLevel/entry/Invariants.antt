use Rattle.std.proofs.Common.{◌≡◌, T, take}
use Rattle.page.specs.Layout.{entry_of}
use Rattle.page.proofs.level.nodes.NodesLevel.entry.Given as goal

abbrev pub invariant-loop-i : goal.invariant-loop-i
invariant-loop-i g l =
    (l.all ≡ entry_of g.K.Kind.layout l.block (take l.i l.page)) × T (g.K.Node.Codec.valid l.all)
