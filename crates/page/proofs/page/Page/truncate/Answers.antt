use Rattle.std.proofs.Common.{sym, ◌∙◌, ap, take, arith}
use Rattle.page.proofs.Images.{length_rows, take_rows}
use Rattle.page.proofs.Pages.{long}
use Rattle.page.proofs.page.Page.truncate.Goals as goal

pub invariant_of-self : goal.invariant_of-self
invariant_of-self g c =
    let n = long g.C.Codec.width g.C.Codec.decode c.self.inside.len c.self.inside.words c.self.view_is in
    omega (arith, c.requires, c.self.invariant)

pub returns : goal.returns
returns g c =
    let n = long g.C.Codec.width g.C.Codec.decode c.self.inside.len c.self.inside.words c.self.view_is in
    record {
      len = length_rows g.C.Codec.width g.C.Codec.decode _ _;
      after = sym (take_rows g.C.Codec.width g.C.Codec.decode c.args.len c.self.inside.len c.self.inside.words (omega (arith, c.requires))) ∙ ap (take c.args.len) c.self.view_is;
      few = omega (arith, c.requires, c.self.invariant, length_rows g.C.Codec.width g.C.Codec.decode c.args.len c.self.inside.words);
      lent = omega (arith, c.self.invariant);
    }
