use Rattle.std.proofs.Common.{◌+◌, arith}
use Rattle.seek.proofs.Readings.{reading_asked, asked_next}
use Rattle.seek.proofs.choose.choose_child.Goals as goal

pub returns-then-takes-clause-same : goal.returns-then-takes-clause-same
returns-then-takes-clause-same g c =
    let e = asked_next _ _ _ _ c.loop-child.invariant.same c.child_count-count.ensures.same in
    reading_asked _ (c.loop-child.child + 1 + 1 + 1) _ _ (omega (arith, c.number_of_children-entries.ensures.small)) (asked_next _ _ _ _ e c.child_block-block.ensures.same)
