use Rattle.std.proofs.Common.{◌≤◌, sym, ◌∙◌, arith}
use Rattle.page.proofs.Images.{few_entries}
use Rattle.tree.specs.Tall.{tall_contents}
use Rattle.tree.specs.Tree.{contents}
use Rattle.tree.proofs.Imaging.{first_word}
use Rattle.seek.proofs.Tops.{top_node, tall_low}
use Rattle.seek.proofs.size.length.Goals as goal

pub returns-in-1-clause-value : goal.returns-in-1-clause-value
unfolding tall_contents contents
returns-in-1-clause-value g c =
    rw c.in-1.is (c.number_of_entries.ensures.value ∙ sym (first_word g.K.Leaf.Codec.width g.K.Leaf.Codec.decode g.K.Kind.layout.items g.met.K.Kind.leaves _))

pub total-requires-clause-there : goal.total-requires-clause-there
total-requires-clause-there g c = (top_node g.K.Kind.layout _ _ _ (omega arith) c.requires.lies.stands).there

pub total-requires-clause-few : goal.total-requires-clause-few
total-requires-clause-few g c = (top_node g.K.Kind.layout _ _ _ (omega arith) c.requires.lies.stands).few

pub total-requires-clause-low : goal.total-requires-clause-low
total-requires-clause-low g c =
    let few = few_entries g.K.Kind.layout.leaf_cap g.K.Leaf.Codec.width 62 g.met.K.Leaf.Codec.some g.met.K.Kind.leaf_fits in
    let tall : 2 ≤ c.args.t.height = omega arith in
    omega (arith, (top_node g.K.Kind.layout _ _ _ tall c.requires.lies.stands).counted, tall_low g.K.Kind.layout _ _ _ few c.requires.lies.stands c.requires.lies.once)

pub returns-in_default-clause-value : goal.returns-in_default-clause-value
returns-in_default-clause-value g c = c.total.ensures.value ∙ (top_node g.K.Kind.layout _ _ _ (omega arith) c.requires.lies.stands).counted
