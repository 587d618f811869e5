use Rattle.std.proofs.Common.{arith}
use Rattle.shrink.proofs.CodeTurns.{first_small, second_small, next_at, mended_at}
use Rattle.shrink.proofs.turn.mend.Goals as goal

pub overflow_cast-a : goal.overflow_cast-a
overflow_cast-a g c = record { fits = omega (arith, first_small _ c.args.at c.get-a.ensures.value c.requires.next.1) }

pub overflow_cast-b : goal.overflow_cast-b
overflow_cast-b g c = record { fits = omega (arith, second_small _ c.args.at c.get-b.ensures.value c.requires.next.1) }

pub share-risen-requires-clause-sharable : goal.share-risen-requires-clause-sharable
share-risen-requires-clause-sharable g c =
    let n = next_at _ c.args.at c.get-a.ensures.value c.get-b.ensures.value c.requires.next.1 in
    g.met.L.Tier.sharable c.requires.next.0 _ _ _ n.level n.neighbours

pub returns : goal.returns
returns g c = mended_at _ c.args.at c.get-a.ensures.value c.get-b.ensures.value (λ h n. g.met.L.Tier.shared h _ _ _ _ c.share-risen.result n.level n.neighbours c.share-risen.ensures.above) c.replace_two.ensures
