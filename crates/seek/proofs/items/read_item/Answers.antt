use Rattle.std.proofs.Common.{ℕ, ◌+◌, ◌*◌, take, drop, ap, ◌∙◌}
use Rattle.tree.proofs.Imaged.{entry_at}
use Rattle.seek.proofs.items.read_item.Goals as goal

pub returns-clause-value : goal.returns-clause-value
returns-clause-value g c =
    let w = g.K.Leaf.Codec.width in
    let ws = (g.W.Store.memory c.args.m.now).block c.args.leaf in
    λ d. c.read.ensures ∙ ap g.K.Leaf.Codec.decode c.load_entry-words.ensures.words ∙ ap (λ (k : ℕ). g.K.Leaf.Codec.decode (take w (drop (2 + w * k) ws))) c.entry_number.ensures
    ∙ entry_at w g.K.Leaf.Codec.decode g.K.Kind.layout.items g.met.K.Kind.leaves ws c.args.at d c.requires.inside
