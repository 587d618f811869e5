use Rattle.lent.specs.Free.{on_stack}
use Rattle.lent.proofs.Grounds.{still_below, still_apart, popped}
use Rattle.std.proofs.Common.{length}
use Rattle.lent.proofs.lent.Lent.acquire.Goals as goal

pub invariant_of-self-clause-low : goal.invariant_of-self-clause-low
invariant_of-self-clause-low c =
    let h = c.args.self.now in
    let p = c.pop-got in
    still_below (length h.blocks.now) (on_stack h.free) (on_stack p.new.self) p.result p.ensures.top h.low

pub invariant_of-self-clause-apart : goal.invariant_of-self-clause-apart
invariant_of-self-clause-apart c =
    let h = c.args.self.now in
    let p = c.pop-got in
    still_apart (length h.blocks.now) (on_stack h.free) (on_stack p.new.self) p.result p.ensures.top h.apart

pub returns-clause-gets : goal.returns-clause-gets
returns-clause-gets c =
    let h = c.args.self.now in
    let p = c.pop-got in
    popped h.blocks.now h.whole h.few (on_stack h.free) (on_stack p.new.self) h.meter c.count_obtain.new.self p.result p.ensures.top h.low h.apart c.count_obtain.ensures
