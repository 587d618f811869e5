use Rattle.std.proofs.Common.{◌≡◌, ◌+◌, ◌*◌, get_or, sym, ap, ◌∙◌, arith}
use Rattle.tree.proofs.Words.{Nodes, nodes_read}
use Rattle.tree.proofs.reads.child_block.Given as given
use Rattle.tree.proofs.reads.child_block.Goals as goal

nodes : (g : given.Over) → Nodes g.K.Kind.layout g.K.Node.Codec.width
nodes g =
    nodes_read _ _ g.K.Node.Codec.decode g.K.Node.Codec.encode g.K.Node.Codec.valid g.met.K.Node.Codec.sized g.met.K.Node.Codec.back
    g.met.K.Kind.entries_valid g.met.K.Kind.block_at g.met.K.Kind.nodes g.met.K.Kind.count_at g.met.K.Kind.node_fits

pub entry_word-word-requires : goal.entry_word-word-requires
entry_word-word-requires g c = omega (arith, (nodes g).within c.args.i (omega (arith, c.requires.few, c.requires.inside)))

pub overflow_add-word : goal.overflow_add-word
overflow_add-word g c = record { fits = omega (arith, c.entry_word-word.ensures, (nodes g).within c.args.i (omega (arith, c.requires.few, c.requires.inside))) }

pub get-requires : goal.get-requires
get-requires g c = record { asks = c.requires.asks; there = c.requires.there; inside = omega (arith, c.entry_word-word.ensures, (nodes g).within c.args.i (omega (arith, c.requires.few, c.requires.inside))) }

pub returns : goal.returns
returns g c =
    let ws = (g.W.Store.memory c.args.m.now).block c.args.b in
    let e : c.entry_word-word.result + 1 ≡ 3 + g.K.Node.Codec.width * c.args.i = omega (arith, c.entry_word-word.ensures) in
    record { value = c.get.ensures.word ∙ ap (λ k. get_or ws k 0) e ∙ sym ((nodes g).block_at ws c.args.i c.requires.inside); same = c.get.ensures.same }
