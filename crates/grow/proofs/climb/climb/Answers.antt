use Rattle.grow.proofs.Climbing.{ready, climbing_more}
use Rattle.grow.proofs.climb.climb.Goals as goal

pub rise-top-requires-clause-ready : goal.rise-top-requires-clause-ready
rise-top-requires-clause-ready g c =
    let p = rw c.in-Some.ensures at c.loop-branch.invariant in
    ready _ g.met.K.Kind.lawful _ _ _ _ _ _ (p.climbs c.requires.rises.0 c.requires.rises.1) g.K.Node.Codec.valid g.met.K.Kind.entries_valid

pub loop-branch-preserved : goal.loop-branch-preserved
loop-branch-preserved g c = climbing_more _ _ _ _ _ g.met.K.Kind.lawful _ _ _ _ _ _ _ _ (rw c.in-Some.ensures at c.loop-branch.invariant) c.rise-top.ensures
