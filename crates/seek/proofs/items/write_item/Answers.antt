use Rattle.std.proofs.Common.{ℕ, ◌+◌, ◌*◌, take, ap, ◌∙◌, mul-le-mul_right, arith}
use lib.Seq.{paste}
use Rattle.store.specs.Memory.{wrote}
use Rattle.seek.proofs.EntryWords.{writing_entry, take_pasted}
use Rattle.seek.proofs.items.write_item.Goals as goal

pub returns : goal.returns
returns g c =
    let w = g.K.Leaf.Codec.width in
    let x = c.args.x in
    let m = g.W.Store.memory c.args.m.now in
    let s = g.met.K.Leaf.Codec.sized x in
    let fits = mul-le-mul_right w c.requires.few in
    writing_entry w g.K.Leaf.Codec.decode g.K.Kind.layout.items g.met.K.Kind.leaves c.args.at x (g.K.Leaf.Codec.encode x) s (g.met.K.Leaf.Codec.back x (g.met.K.Kind.items_valid x)) c.args.leaf _ c.write.new.words _ _
    c.requires.there c.requires.inside (omega (arith, fits, g.met.K.Kind.leaf_fits)) g.met.K.Leaf.Codec.small
    (ap (take w) c.write.ensures ∙ take_pasted w _ (g.K.Leaf.Codec.encode x) s)
    (c.store_entry.ensures ∙ ap (λ (k : ℕ). wrote w c.args.leaf (paste (m.block c.args.leaf) (2 + w * k) c.write.new.words w) m) c.entry_number.ensures)
