use Rattle.std.proofs.Common.{◌≡◌, take, reverse}
use Rattle.lent.specs.Free.{down_from}
use Rattle.lent.proofs.stack.Stack.full.Given as goal

abbrev pub invariant-loop-i : goal.invariant-loop-i
invariant-loop-i l = reverse (take l.i l.numbers) ≡ down_from l.i
