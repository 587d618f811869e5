use Rattle.std.proofs.Common.{sym, ap, ◌∙◌, arith}
use Rattle.std.proofs.lemmas.List.{take_all}
use Rattle.page.specs.Layout.{entry_of}
use Rattle.page.proofs.Counts.{counts_upto, entry_one, entry_more}
use Rattle.page.proofs.level.nodes.NodesLevel.entry.Goals as goal

pub loop-i-init : goal.loop-i-init
loop-i-init g c =
    (sym (entry_one g.K.Kind.layout c.args.block c.args.page.now c.get-first.result (omega arith) c.get-first.ensures.value), g.met.K.Kind.keeps_valid c.get-first.result.count c.args.block c.get-first.result c.get-first.ensures.valid)

pub joined-all-requires : goal.joined-all-requires
joined-all-requires g c =
    let s = counts_upto c.args.page.now c.loop-i.i c.get.result (omega arith) c.get.ensures.value in
    let a = ap (λ k. k.count) c.loop-i.invariant.0 in
    record { few = omega arith; left = c.loop-i.invariant.1; right = c.get.ensures.valid }

pub loop-i-preserved : goal.loop-i-preserved
loop-i-preserved g c =
    let more = entry_more g.K.Kind.layout c.args.block c.args.page.now c.loop-i.i c.get.result (omega arith) (omega arith) c.get.ensures.value c.loop-i.invariant.0 in
    (c.joined-all.ensures.value ∙ more, c.joined-all.ensures.valid)

pub returns : goal.returns
returns g c =
    let all = take_all c.loop-i.i c.args.page.now (omega arith) in
    record { value = c.loop-i.invariant.0 ∙ ap (entry_of g.K.Kind.layout c.args.block) all; valid = c.loop-i.invariant.1 }
