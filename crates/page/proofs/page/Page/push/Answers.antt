use Rattle.std.proofs.Common.{◌≡◌, ◌+◌, ◌∙◌, ap, ◌∷◌, [], ◌++◌, length, refl, zero-add, arith, rules}
use Rattle.page.proofs.Images.{length_rows, rows_pushed, entry_fits}
use Rattle.page.proofs.Pages.{long}
use Rattle.page.proofs.page.Page.push.Goals as goal

pub overflow_mul-self-inside : goal.overflow_mul-self-inside
overflow_mul-self-inside g c =
    let n = long g.C.Codec.width g.C.Codec.decode c.self.inside.len c.self.inside.words c.self.view_is in
    omega (arith, entry_fits c.self.inside.len g.C.Codec.width c.width.result (omega (arith, c.requires.room)) g.met.C.Codec.small c.width.ensures)

pub write-requires : goal.write-requires
write-requires g c =
    let n = long g.C.Codec.width g.C.Codec.decode c.self.inside.len c.self.inside.words c.self.view_is in
    entry_fits c.self.inside.len g.C.Codec.width c.width.result (omega (arith, c.requires.room)) g.met.C.Codec.small c.width.ensures

pub invariant_of-self : goal.invariant_of-self
invariant_of-self g c =
    let n = long g.C.Codec.width g.C.Codec.decode c.self.inside.len c.self.inside.words c.self.view_is in
    omega (arith, c.requires.room)

pub returns : goal.returns
returns g c =
    let w = g.C.Codec.width in
    let x = c.args.x in
    let n = long g.C.Codec.width g.C.Codec.decode c.self.inside.len c.self.inside.words c.self.view_is in
    let long' : 192 ≡ length c.self.inside.words = search rules in
    let e = rw c.width.ensures at c.write.ensures in
    let f = entry_fits c.self.inside.len w w (omega (arith, c.requires.room)) g.met.C.Codec.small refl in
    record {
      len = length_rows w g.C.Codec.decode _ _ ∙ omega arith;
      after = rows_pushed w g.C.Codec.decode c.self.inside.len 0 x (g.C.Codec.encode x) c.self.inside.words c.write.new.words (omega arith) (g.met.C.Codec.sized x) (g.met.C.Codec.back x c.requires.valid) (rw zero-add e) ∙ ap (λ xs. xs ++ (x ∷ [])) c.self.view_is;
      few = omega (arith, c.requires.room, length_rows w g.C.Codec.decode (c.self.inside.len + 1) c.write.new.words);
    }
