use Rattle.std.proofs.Common.{arith}
use Rattle.seek.proofs.Landing.{tall_some, leaf_stored, leaf_few, leaf_inside}
use Rattle.seek.proofs.Updating.{updated}
use Rattle.seek.proofs.items.set.Goals as goal

pub descend-place-requires-clause-tall : goal.descend-place-requires-clause-tall
descend-place-requires-clause-tall g c = tall_some g.K.Kind.layout _ _ _ _ c.requires.there

pub write_item-requires-clause-there : goal.write_item-requires-clause-there
write_item-requires-clause-there g c = leaf_stored _ _ _ _ _ _ _ c.descend-place.ensures

pub write_item-requires-clause-few : goal.write_item-requires-clause-few
write_item-requires-clause-few g c = leaf_few _ _ _ _ _ _ _ c.descend-place.ensures

pub write_item-requires-clause-inside : goal.write_item-requires-clause-inside
write_item-requires-clause-inside g c = omega (arith, leaf_inside _ _ _ _ _ _ _ c.descend-place.ensures)

pub returns : goal.returns
returns g c = updated g.K.Kind.layout _ _ _ c.args.t c.args.i c.args.x c.descend-place.result c.requires.lies c.descend-place.ensures c.write_item.ensures c.requires.alike
