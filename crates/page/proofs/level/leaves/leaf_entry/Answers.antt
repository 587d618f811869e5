use Rattle.std.proofs.Common.{T, sym, subst, arith}
use Rattle.page.proofs.level.leaves.leaf_entry.Goals as goal

pub returns : goal.returns
returns g c =
    let s = c.leaf_summary.ensures in
    record {
      value = cc (c.len.ensures.len, s);
      valid = subst (λ k. T (g.K.Node.Codec.valid (record { count = c.len.result; block = c.args.block; summary = k }))) (sym s) (g.met.K.Kind.entries_valid c.len.result c.args.block c.args.page.now);
      few = omega arith;
    }
