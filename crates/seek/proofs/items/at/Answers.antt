use Rattle.std.proofs.Common.{◌∙◌, arith}
use Rattle.seek.proofs.Landing.{tall_some, leaf_stored, leaf_few, leaf_inside, leaf_item}
use Rattle.seek.proofs.Readings.{reading_then}
use Rattle.seek.proofs.items.at.Goals as goal

pub descend-place-requires-clause-tall : goal.descend-place-requires-clause-tall
descend-place-requires-clause-tall g c = tall_some g.K.Kind.layout _ _ _ _ c.requires.there

pub read_item-requires-clause-there : goal.read_item-requires-clause-there
read_item-requires-clause-there g c = leaf_stored _ _ _ _ _ _ _ c.descend-place.ensures

pub read_item-requires-clause-few : goal.read_item-requires-clause-few
read_item-requires-clause-few g c = leaf_few _ _ _ _ _ _ _ c.descend-place.ensures

pub read_item-requires-clause-inside : goal.read_item-requires-clause-inside
read_item-requires-clause-inside g c = omega (arith, leaf_inside _ _ _ _ _ _ _ c.descend-place.ensures)

pub returns : goal.returns
returns g c =
    let z = c.descend-place.ensures in
    record {
      value = λ d. c.read_item.ensures.value d ∙ leaf_item _ _ _ _ _ _ z d;
      same = reading_then _ _ _ _ _ _ (omega arith) z.same c.read_item.ensures.same;
    }
