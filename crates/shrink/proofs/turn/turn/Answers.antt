use Rattle.shrink.proofs.Written.{ready_counts, climbed}
use Rattle.shrink.proofs.turn.turn.Goals as goal

pub put-requires-clause-counted : goal.put-requires-clause-counted
put-requires-clause-counted g c =
    let s = c.requires.0 in
    ready_counts g.L.Kind.Kind.layout g.met.L.Kind.Kind.lawful s.start s.level _ s.above _ _ (c.put_right-page.ensures s c.requires.1)

pub returns : goal.returns
returns g c = λ s v. climbed g.L.Kind.Kind.layout g.met.L.Kind.Kind.lawful s.start s.level _ s.above _ _ (c.put_right-page.ensures s v) _ _ c.put.ensures
