use Rattle.std.proofs.Common.{◌≤◌, get_or, sym, ◌∙◌, subst, arith}
use Rattle.page.proofs.Images.{length_rows, few_entries, unpacked}
use Rattle.page.proofs.page.Page.unpack.Goals as goal

pub invariant_of-page : goal.invariant_of-page
invariant_of-page g c = omega (arith, few_entries (get_or c.args.image.now 0 0) g.C.Codec.width 62 g.met.C.Codec.some c.requires)

pub returns : goal.returns
returns g c =
    let n = c.read_head.ensures in
    record {
      len = length_rows g.C.Codec.width g.C.Codec.decode _ _ ∙ n;
      after = unpacked g.C.Codec.width g.C.Codec.decode c.read_head.result c.args.image.now c.copy_from_slice.new.self _ n c.requires c.told-image c.copy_from_slice.ensures.after;
      few = subst (λ k. k ≤ 64) (sym (length_rows g.C.Codec.width g.C.Codec.decode _ _ ∙ n)) (omega (arith, few_entries (get_or c.args.image.now 0 0) g.C.Codec.width 62 g.met.C.Codec.some c.requires));
    }
