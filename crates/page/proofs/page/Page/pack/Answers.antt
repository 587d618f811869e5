use Rattle.std.proofs.Common.{◌≤◌, ◌∙◌, length, rules, arith}
use Rattle.page.proofs.Images.{packed}
use Rattle.page.proofs.Pages.{long}
use Rattle.page.proofs.page.Page.pack.Goals as goal

pub returns : goal.returns
returns g c =
    let n = long g.C.Codec.width g.C.Codec.decode c.self.inside.len c.self.inside.words c.self.view_is in
    let long' : 62 ≤ length c.self.inside.words = search rules in
    let few = rw n at c.requires in
    let p = packed g.C.Codec.width g.C.Codec.decode c.self.inside.len c.args.image.now c.copy_from_slice.new.self c.self.inside.words _ few c.told-image long' c.copy_from_slice.ensures.after c.write_head.ensures in
    record { len = p.0 ∙ omega arith; spare = p.1; after = p.2 ∙ c.self.view_is; few = omega (arith, c.self.invariant) }
