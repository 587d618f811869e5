use Rattle.ration.specs.Refusing.{ground_of}
use Rattle.console.specs.Turns.{Ready}
use Rattle.console.proofs.reading.run.Given as goal

abbrev pub invariant-loop-number : goal.invariant-loop-number
invariant-loop-number g l = Ready l.s (ground_of g.B.Blocks.as_ground l.b)
