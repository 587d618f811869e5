use Rattle.std.proofs.Common.{length, nat_eq, sym, subst, arith}
use Rattle.std.specs.List.{IsDistinct}
use Rattle.lent.specs.Free.{AreBelow, on_stack}
use Rattle.lent.proofs.Grounds.{held_below, held_not_free}
use Rattle.lent.proofs.Numbers.{room_left, pushed_below, pushed_apart}
use Rattle.lent.proofs.lent.ground.LentBlocks.release.Goals as goal

pub push-requires : goal.push-requires
push-requires c =
    let h = c.args.self.now in
    let bs = h.blocks.now in
    let free = on_stack h.free in
    let held = c.requires.1.1 in
    let room = room_left (length bs) c.args.b free h.low h.apart (held_below bs free c.args.b held) (held_not_free bs free c.args.b held) in
    omega (arith, room, h.room)

pub invariant_of-self-clause-low : goal.invariant_of-self-clause-low
invariant_of-self-clause-low c =
    let h = c.args.self.now in
    let free = on_stack h.free in
    let lt = held_below h.blocks.now free c.args.b c.requires.1.1 in
    subst (AreBelow (length h.blocks.now)) (sym c.push.ensures.top) (pushed_below (length h.blocks.now) c.args.b free lt h.low)

pub invariant_of-self-clause-apart : goal.invariant_of-self-clause-apart
invariant_of-self-clause-apart c =
    let h = c.args.self.now in
    let free = on_stack h.free in
    let gone = held_not_free h.blocks.now free c.args.b c.requires.1.1 in
    subst (IsDistinct nat_eq) (sym c.push.ensures.top) (pushed_apart (length h.blocks.now) c.args.b free gone h.apart)
