use Rattle.std.proofs.Common.{◌≡◌, ◌+◌, ◌-◌, ◌++◌, length}
use Rattle.std.specs.List.{between}
use Rattle.page.proofs.page.Page.extend.Given as goal

abbrev pub invariant-loop-i : goal.invariant-loop-i
invariant-loop-i g l = (length l.self ≡ length l.initial.self + (l.i - l.from)) × (l.self ≡ l.initial.self ++ between l.from l.i l.other)
