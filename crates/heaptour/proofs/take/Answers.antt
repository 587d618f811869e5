use Rattle.std.proofs.Common.{◌-◌, ap, ◌∙◌}
use Rattle.things.specs.Ground.{Ground}
use Rattle.heaptour.proofs.Taken.{taken}
use Rattle.heaptour.proofs.take.Goals as goal

pub returns : goal.returns
returns g c = taken c.obtain.ensures (ap (λ (z : Ground). z.many) c.allow.ensures ∙ c.requires.1) 3 (ap (λ (z : Ground). z.left - 1) c.allow.ensures)
