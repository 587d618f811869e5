use Rattle.std.proofs.Common.{arith}
use Rattle.page.proofs.Counts.{counts_none}
use Rattle.page.proofs.find.find_gap.Goals as goal

pub returns-then-at-eq0 : goal.returns-then-at-eq0
returns-then-at-eq0 g c =
    record { child = c.requires.some; before = omega (arith, counts_none); within = λ d. omega arith; first = λ h. h; few = omega arith }
