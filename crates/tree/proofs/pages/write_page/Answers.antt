use Rattle.std.proofs.Common.{◌≡◌, ℕ, ◌*◌, ◌≤◌, ◌++◌, take, drop, length, List, ap, sym, refl, ◌∙◌, subst, arith}
use Rattle.store.specs.Memory.{wrote}
use Rattle.tree.proofs.Imaging.{words_of, paste_front, writing_image}
use Rattle.tree.proofs.pages.write_page.Goals as goal

pub entry_word-requires : goal.entry_word-requires
entry_word-requires g c =
    let h : c.len.result * g.C.Codec.width ≤ 62 = rw c.len.ensures.len c.requires.fits in
    omega (arith, words_of g.C.Codec.width c.len.result _ refl)

pub store-requires : goal.store-requires
store-requires g c =
    let h : c.len.result * g.C.Codec.width ≤ 62 = rw c.len.ensures.len c.requires.fits in
    let v = words_of g.C.Codec.width c.len.result c.entry_word.result c.entry_word.ensures in
    (omega arith, (omega arith, (omega arith, (omega (arith, c.requires.asks), c.requires.there))))

pub returns : goal.returns
returns g c =
    let n = c.len.result in
    let l : n ≡ length c.args.page.now = c.len.ensures.len in
    let h : n * g.C.Codec.width ≤ 62 = rw l c.requires.fits in
    let v = words_of g.C.Codec.width n c.entry_word.result c.entry_word.ensures in
    writing_image g.C.Codec.width g.C.Codec.decode c.args.b n c.pack.new.image _ _ _ c.requires.there c.pack.array_long h (c.pack.ensures.len ∙ sym l)
    c.pack.ensures.after
    (subst
    (λ (k : ℕ).
    g.W.Store.memory c.store.new.m
    ≡ wrote k c.args.b (take k c.pack.new.image ++ drop k ((g.W.Store.memory c.args.m.now).block c.args.b)) (g.W.Store.memory c.args.m.now))
    v (c.store.ensures ∙ ap (λ (ws : List ℕ). wrote c.entry_word.result c.args.b ws (g.W.Store.memory c.args.m.now)) (paste_front c.entry_word.result ((g.W.Store.memory c.args.m.now).block c.args.b) c.pack.new.image)))
