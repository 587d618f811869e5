use Rattle.std.proofs.Common.{ap, length, arith}
use Rattle.seek.specs.declared.target.Target.TheVariants.{Item}
use Rattle.tree.proofs.Imaging.{few_entries}
use Rattle.seek.proofs.Landing.{tall_some, leaf_stored, leaf_few, leaf_inside}
use Rattle.seek.proofs.Readings.{reading_stored}
use Rattle.shrink.proofs.Deletes.{climb_start, climb_top, climb_done}
use Rattle.shrink.proofs.delete.delete.Goals as goal

pub descend-reached-requires-clause-tall : goal.descend-reached-requires-clause-tall
descend-reached-requires-clause-tall g c = tall_some g.K.Kind.layout c.args.t.height _ c.args.t.root c.args.at c.requires.place

pub load_page-page-requires-clause-there : goal.load_page-page-requires-clause-there
load_page-page-requires-clause-there g c = leaf_stored g.K.Kind.layout _ _ _ _ Item _ c.descend-reached.ensures

pub load_page-page-requires-clause-few : goal.load_page-page-requires-clause-few
load_page-page-requires-clause-few g c = leaf_few g.K.Kind.layout _ _ _ _ Item _ c.descend-reached.ensures

pub remove-item-requires : goal.remove-item-requires
remove-item-requires g c = rw c.load_page-page.ensures.after (omega (arith, leaf_inside g.K.Kind.layout _ _ _ _ Item _ c.descend-reached.ensures))

pub put-risen-requires-clause-there : goal.put-risen-requires-clause-there
put-risen-requires-clause-there g c = reading_stored _ _ _ c.load_page-page.ensures.same _ (leaf_stored g.K.Kind.layout _ _ _ _ Item _ c.descend-reached.ensures)

pub put-risen-requires-clause-few : goal.put-risen-requires-clause-few
put-risen-requires-clause-few g c = omega (arith, leaf_few g.K.Kind.layout _ _ _ _ Item _ c.descend-reached.ensures, ap length c.load_page-page.ensures.after, c.remove-item.ensures.len)

pub put-risen-requires-clause-counted : goal.put-risen-requires-clause-counted
put-risen-requires-clause-counted g c =
    let narrow = few_entries g.K.Kind.layout.leaf_cap _ 62 g.met.K.Leaf.Codec.some g.met.K.Kind.leaf_fits in
    omega (arith, narrow, leaf_few g.K.Kind.layout _ _ _ _ Item _ c.descend-reached.ensures, ap length c.load_page-page.ensures.after, c.remove-item.ensures.len)

pub climb-top-requires : goal.climb-top-requires
climb-top-requires g c =
    let narrow = few_entries g.K.Kind.layout.leaf_cap _ 62 g.met.K.Leaf.Codec.some g.met.K.Kind.leaf_fits in
    (_, climb_start g.met.K.Kind.lawful g.met.K.Kind.wide narrow c.requires.lies c.requires.place c.requires.asks c.descend-reached.ensures c.load_page-page.ensures.same c.load_page-page.ensures.after c.remove-item.ensures.after c.put-risen.ensures)

pub trim-requires : goal.trim-requires
trim-requires g c =
    let narrow = few_entries g.K.Kind.layout.leaf_cap _ 62 g.met.K.Leaf.Codec.some g.met.K.Kind.leaf_fits in
    let v = climb_start g.met.K.Kind.lawful g.met.K.Kind.wide narrow c.requires.lies c.requires.place c.requires.asks c.descend-reached.ensures c.load_page-page.ensures.same c.load_page-page.ensures.after c.remove-item.ensures.after c.put-risen.ensures in
    (_, climb_top g.met.K.Kind.lawful g.met.K.Kind.wide narrow c.requires.lies c.requires.place c.requires.asks c.descend-reached.ensures c.load_page-page.ensures.same c.load_page-page.ensures.after (c.climb-top.ensures _ v))

pub returns : goal.returns
returns g c =
    let narrow = few_entries g.K.Kind.layout.leaf_cap _ 62 g.met.K.Leaf.Codec.some g.met.K.Kind.leaf_fits in
    let v = climb_start g.met.K.Kind.lawful g.met.K.Kind.wide narrow c.requires.lies c.requires.place c.requires.asks c.descend-reached.ensures c.load_page-page.ensures.same c.load_page-page.ensures.after c.remove-item.ensures.after c.put-risen.ensures in
    let w = climb_top g.met.K.Kind.lawful g.met.K.Kind.wide narrow c.requires.lies c.requires.place c.requires.asks c.descend-reached.ensures c.load_page-page.ensures.same c.load_page-page.ensures.after (c.climb-top.ensures _ v) in
    climb_done g.met.K.Kind.lawful g.met.K.Kind.wide narrow c.requires.lies c.requires.place c.requires.asks c.descend-reached.ensures c.load_page-page.ensures.same c.load_page-page.ensures.after c.remove-item.ensures.value (c.trim.ensures _ w)
