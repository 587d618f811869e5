use Rattle.std.proofs.Common.{◌≡◌, ◌∙◌, ap, set, length, mul-le-mul, arith, rules}
use Rattle.page.proofs.Images.{length_rows, rows_set, entry_fits}
use Rattle.page.proofs.Pages.{long}
use Rattle.page.proofs.page.Page.replace.Goals as goal

pub overflow_mul-at : goal.overflow_mul-at
overflow_mul-at g c =
    let n = long g.C.Codec.width g.C.Codec.decode c.self.inside.len c.self.inside.words c.self.view_is in
    omega (arith, entry_fits c.args.at g.C.Codec.width c.width.result (omega (arith, c.self.invariant)) g.met.C.Codec.small c.width.ensures)

pub write-requires : goal.write-requires
write-requires g c =
    let n = long g.C.Codec.width g.C.Codec.decode c.self.inside.len c.self.inside.words c.self.view_is in
    entry_fits c.args.at g.C.Codec.width c.width.result (omega (arith, c.self.invariant)) g.met.C.Codec.small c.width.ensures

pub returns : goal.returns
returns g c =
    let w = g.C.Codec.width in
    let x = c.args.x in
    let n = long g.C.Codec.width g.C.Codec.decode c.self.inside.len c.self.inside.words c.self.view_is in
    let long' : 192 ≡ length c.self.inside.words = search rules in
    let e = rw c.width.ensures at c.write.ensures in
    let f = mul-le-mul {n₁ = c.self.inside.len} {m₁ = w} {n₂ = 64} {m₂ = 3} c.self.invariant g.met.C.Codec.small in
    record {
      len = length_rows w g.C.Codec.decode _ _ ∙ omega arith;
      after = rows_set w g.C.Codec.decode c.self.inside.len c.args.at x (g.C.Codec.encode x) c.self.inside.words c.write.new.words (omega arith) (omega arith) (g.met.C.Codec.sized x) (g.met.C.Codec.back x c.requires.valid) e ∙ ap (λ xs. set xs c.args.at x) c.self.view_is;
      few = omega (arith, c.self.invariant, length_rows w g.C.Codec.decode c.self.inside.len c.write.new.words);
    }
