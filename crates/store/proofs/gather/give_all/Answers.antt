use Rattle.store.proofs.Stocking.{stocked_top, giving_more, giving_all}
use Rattle.store.proofs.gather.give_all.Goals as goal

pub give_one-requires-clause-there : goal.give_one-requires-clause-there
give_one-requires-clause-there g c = stocked_top _ _ _ (rw c.in-Some.ensures.some at c.loop-f.invariant.stocked)

pub loop-f-preserved : goal.loop-f-preserved
loop-f-preserved g c = giving_more _ _ _ _ _ _ (rw c.in-Some.ensures.some at c.loop-f.invariant) c.give_one.ensures

pub returns : goal.returns
returns g c = giving_all _ _ _ (rw c.in_default.ensures.none at c.loop-f.invariant)
