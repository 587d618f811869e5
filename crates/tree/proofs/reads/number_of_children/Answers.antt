use Rattle.std.proofs.Common.{sym, ◌∙◌, arith}
use Rattle.page.proofs.Images.{few_entries}
use Rattle.tree.proofs.Imaging.{first_word}
use Rattle.tree.proofs.reads.number_of_children.Goals as goal

pub overflow_cast-result : goal.overflow_cast-result
overflow_cast-result g c =
    let n = first_word g.K.Node.Codec.width g.K.Node.Codec.decode g.K.Kind.layout.children g.met.K.Kind.nodes ((g.W.Store.memory c.args.m.now).block c.args.b) in
    let k = few_entries g.K.Kind.layout.node_cap g.K.Node.Codec.width 62 g.met.K.Node.Codec.some g.met.K.Kind.node_fits in
    record { fits = omega (arith, c.number_of_entries.ensures.value, n, c.requires.few, k) }

pub returns : goal.returns
returns g c =
    let n = first_word g.K.Node.Codec.width g.K.Node.Codec.decode g.K.Kind.layout.children g.met.K.Kind.nodes ((g.W.Store.memory c.args.m.now).block c.args.b) in
    let k = few_entries g.K.Kind.layout.node_cap g.K.Node.Codec.width 62 g.met.K.Node.Codec.some g.met.K.Kind.node_fits in
    record { value = c.number_of_entries.ensures.value ∙ sym n; small = omega (arith, c.number_of_entries.ensures.value, n, c.requires.few, k); same = c.number_of_entries.ensures.same }
