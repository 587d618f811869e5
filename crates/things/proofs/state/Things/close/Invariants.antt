use Rattle.std.proofs.Common.{◌≡◌, ℕ, ◌*◌, ◌<◌, ◌≤◌, None}
use Rattle.clear.specs.Given.{give_asks}
use Rattle.things.specs.State.{Sound, slot_of}
use Rattle.things.proofs.state.Things.close.Given as goal

abbrev pub invariant-loop-n : goal.invariant-loop-n
invariant-loop-n g l = record {
  sound : Sound l.self (g.B.Blocks.as_ground l.b).block (g.B.Blocks.as_ground l.b).many;
  asks : give_asks * (g.B.Blocks.as_ground l.b).many ≤ (g.B.Blocks.as_ground l.b).left;
  bare : (k : ℕ) → k < l.n → slot_of l.self k ≡ None;
}
