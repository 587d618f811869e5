use Rattle.std.proofs.Common.{◌≡◌, ◌+◌, take}
use Rattle.page.specs.Layout.{counts}
use Rattle.page.proofs.find.find.Given as goal

abbrev pub invariant-loop-child : goal.invariant-loop-child
invariant-loop-child g l = counts (take l.child l.page) + l.rest ≡ l.at
