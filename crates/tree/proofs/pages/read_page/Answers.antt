use Rattle.std.proofs.Common.{◌≡◌, ◌+◌, ◌*◌, ◌≤◌, get_or, take, ap, refl, ◌∙◌, arith}
use Rattle.tree.proofs.Imaging.{few_entries, same_word, same_image, reading_two, words_of}
use Rattle.tree.proofs.pages.read_page.Goals as goal

pub overflow_cast-entries : goal.overflow_cast-entries
overflow_cast-entries g c =
    let h : c.number_of_entries-entries.result * g.C.Codec.width ≤ 62 = rw c.number_of_entries-entries.ensures.value c.requires.fits in
    record { fits = omega (arith, few_entries c.number_of_entries-entries.result g.C.Codec.width 62 g.met.C.Codec.some h) }

pub entry_word-requires : goal.entry_word-requires
entry_word-requires g c =
    let h : c.number_of_entries-entries.result * g.C.Codec.width ≤ 62 = rw c.number_of_entries-entries.ensures.value c.requires.fits in
    omega (arith, words_of g.C.Codec.width c.number_of_entries-entries.result _ refl)

pub load-image-requires : goal.load-image-requires
load-image-requires g c =
    let h : c.number_of_entries-entries.result * g.C.Codec.width ≤ 62 = rw c.number_of_entries-entries.ensures.value c.requires.fits in
    let v = words_of g.C.Codec.width c.number_of_entries-entries.result c.entry_word.result c.entry_word.ensures in
    (omega arith, (omega arith, (omega arith, (omega (arith, c.requires.asks, ap (λ m. m.left) c.number_of_entries-entries.ensures.same), rw c.number_of_entries-entries.ensures.same c.requires.there))))

pub unpack-requires : goal.unpack-requires
unpack-requires g c =
    let v = words_of g.C.Codec.width c.number_of_entries-entries.result c.entry_word.result c.entry_word.ensures in
    let e = c.load-image.ensures.words in
    rw (same_word _ c.load-image.result _ 0 (omega arith) e ∙ ap (λ m. get_or (m.block c.args.b) 0 0) c.number_of_entries-entries.ensures.same) c.requires.fits

pub returns : goal.returns
returns g c =
    let h : c.number_of_entries-entries.result * g.C.Codec.width ≤ 62 = rw c.number_of_entries-entries.ensures.value c.requires.fits in
    let v = words_of g.C.Codec.width c.number_of_entries-entries.result c.entry_word.result c.entry_word.ensures in
    let e = c.load-image.ensures.words in
    let ws = (g.W.Store.memory c.args.m.now).block c.args.b in
    let t : take (2 + c.number_of_entries-entries.result * g.C.Codec.width) c.load-image.result ≡ take (2 + c.number_of_entries-entries.result * g.C.Codec.width) ws =
    rw (← v) (e ∙ ap (λ m. take c.entry_word.result (m.block c.args.b)) c.number_of_entries-entries.ensures.same) in
    record {
      len = c.unpack.ensures.len ∙ (same_word _ c.load-image.result _ 0 (omega arith) e ∙ ap (λ m. get_or (m.block c.args.b) 0 0) c.number_of_entries-entries.ensures.same);
      few = c.unpack.ensures.few;
      after = c.unpack.ensures.after ∙ same_image g.C.Codec.width g.C.Codec.decode c.load-image.result ws c.number_of_entries-entries.result c.number_of_entries-entries.ensures.value t;
      same = reading_two 1 c.entry_word.result _ _ _ _ c.number_of_entries-entries.ensures.same c.load-image.ensures.same (omega (arith, h, v));
    }
