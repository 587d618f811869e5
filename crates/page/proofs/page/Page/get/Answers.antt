use Rattle.std.proofs.Common.{T, sym, ◌∙◌, ap, subst, arith, get_or}
use Rattle.page.proofs.Images.{rows_get, entry_fits}
use Rattle.page.proofs.Pages.{long}
use Rattle.page.proofs.page.Page.get.Goals as goal

pub overflow_mul-at : goal.overflow_mul-at
overflow_mul-at g c =
    let n = long g.C.Codec.width g.C.Codec.decode c.self.inside.len c.self.inside.words c.self.view_is in
    omega (arith, entry_fits c.args.at g.C.Codec.width c.width.result (omega (arith, c.self.invariant)) g.met.C.Codec.small c.width.ensures)

pub read-requires : goal.read-requires
read-requires g c =
    let n = long g.C.Codec.width g.C.Codec.decode c.self.inside.len c.self.inside.words c.self.view_is in
    entry_fits c.args.at g.C.Codec.width c.width.result (omega (arith, c.self.invariant)) g.met.C.Codec.small c.width.ensures

pub returns : goal.returns
returns g c =
    let n = long g.C.Codec.width g.C.Codec.decode c.self.inside.len c.self.inside.words c.self.view_is in
    record {
      value = λ d. rw c.width.ensures at c.read.ensures ∙ rows_get g.C.Codec.width g.C.Codec.decode c.args.at c.self.inside.len c.self.inside.words d (omega arith) ∙ ap (λ xs. get_or xs c.args.at d) c.self.view_is;
      valid = subst (λ x. T (g.C.Codec.valid x)) (sym c.read.ensures) (g.met.C.Codec.made _);
      few = omega (arith, c.self.invariant);
    }
