use Rattle.shrink.proofs.CodeTop.{code_full}
use Rattle.shrink.proofs.trim.trim.Goals as goal

pub returns-in-Some : goal.returns-in-Some
returns-in-Some g c = λ z v. code_full g.met.K.Kind.lawful v c.in-Some.is
