use Rattle.std.proofs.Common.{length, ap, ◌∙◌, arith}
use Rattle.grow.specs.Rises.{placed}
use Rattle.grow.proofs.Climbing.{few_placed}
use Rattle.grow.proofs.climb.rise.Goals as goal

pub settle-requires-clause-some : goal.settle-requires-clause-some
settle-requires-clause-some g c =
    let p = c.requires.ready in
    let few = few_placed _ c.args.branch.place c.args.risen p.inside in
    omega (arith, few.0, ap length (c.put.ensures ∙ ap (λ ks. placed ks c.args.branch.place c.args.risen) c.load_page-page.ensures.after))

pub settle-requires-clause-few : goal.settle-requires-clause-few
settle-requires-clause-few g c =
    let p = c.requires.ready in
    let few = few_placed _ c.args.branch.place c.args.risen p.inside in
    omega (arith, few.1, p.few, ap length (c.put.ensures ∙ ap (λ ks. placed ks c.args.branch.place c.args.risen) c.load_page-page.ensures.after))
