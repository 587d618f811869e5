use Rattle.std.proofs.Common.{[], ◌∷◌, ◌++◌, ap, ◌∙◌}
use Rattle.grow.proofs.Planting.{planted}
use Rattle.grow.proofs.insert.plant.Goals as goal

pub returns : goal.returns
returns g c = planted _ g.met.K.Kind.lawful _ _ _ _ _ _ _ c.in_ok-fresh.ensures c.into_block-root.ensures.block (c.push.ensures.after ∙ ap (λ ys. ys ++ (c.args.x ∷ [])) c.new-page.ensures.after) c.store_page.ensures
