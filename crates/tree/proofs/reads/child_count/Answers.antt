use Rattle.std.proofs.Common.{sym, ◌∙◌, arith}
use Rattle.tree.proofs.Words.{Nodes, nodes_read}
use Rattle.tree.proofs.reads.child_count.Given as given
use Rattle.tree.proofs.reads.child_count.Goals as goal

nodes : (g : given.Over) → Nodes g.K.Kind.layout g.K.Node.Codec.width
nodes g =
    nodes_read _ _ g.K.Node.Codec.decode g.K.Node.Codec.encode g.K.Node.Codec.valid g.met.K.Node.Codec.sized g.met.K.Node.Codec.back
    g.met.K.Kind.entries_valid g.met.K.Kind.block_at g.met.K.Kind.nodes g.met.K.Kind.count_at g.met.K.Kind.node_fits

pub entry_word-word-requires : goal.entry_word-word-requires
entry_word-word-requires g c = omega (arith, (nodes g).within c.args.i (omega (arith, c.requires.few, c.requires.inside)))

pub get-requires : goal.get-requires
get-requires g c = record { asks = c.requires.asks; there = c.requires.there; inside = omega (arith, c.entry_word-word.ensures, (nodes g).within c.args.i (omega (arith, c.requires.few, c.requires.inside))) }

pub returns : goal.returns
returns g c = record {
  value = c.get.ensures.word ∙ rw c.entry_word-word.ensures (sym ((nodes g).count_at _ c.args.i c.requires.inside));
  same = c.get.ensures.same;
}
