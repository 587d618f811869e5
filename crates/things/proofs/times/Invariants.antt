use Rattle.std.proofs.Common.{◌≡◌, ◌-◌}
use Rattle.things.specs.State.{Sound, shelf_of}
use Rattle.things.proofs.times.Given as goal

abbrev pub invariant-loop-t : goal.invariant-loop-t
invariant-loop-t g l = record {
  sound : Sound l.s (g.B.Blocks.as_ground l.b).block (g.B.Blocks.as_ground l.b).many;
  shelf : g.U.Users.shelf l.u ≡ shelf_of l.s (g.B.Blocks.as_ground l.b).block;
}

abbrev pub decreases-loop-t : goal.decreases-loop-t
decreases-loop-t g l = l.turns - l.t
