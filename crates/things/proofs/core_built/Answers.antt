use Rattle.things.proofs.Built.{core_is_built}
use Rattle.things.proofs.core_built.Goals as goal

pub returns : goal.returns
returns c = core_is_built
