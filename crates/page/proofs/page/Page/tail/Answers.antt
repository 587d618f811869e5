use Rattle.std.proofs.Common.{arith}
use Rattle.std.proofs.lemmas.Slice.{between_to_end}
use Rattle.page.proofs.Pages.{long}
use Rattle.page.proofs.page.Page.tail.Goals as goal

pub extend-requires : goal.extend-requires
extend-requires g c =
    let n = long g.C.Codec.width g.C.Codec.decode c.self.inside.len c.self.inside.words c.self.view_is in
    record { forward = omega (arith, c.requires); within = omega arith; fits = omega (arith, c.self.invariant) }

pub returns : goal.returns
returns g c =
    let n = long g.C.Codec.width g.C.Codec.decode c.self.inside.len c.self.inside.words c.self.view_is in
    record {
      len = omega arith;
      after = rw (c.new-upper.ensures.after, between_to_end c.args.self.now c.args.at c.self.inside.len (omega arith)) at c.extend.ensures.after;
      few = omega (arith, c.self.invariant);
    }
