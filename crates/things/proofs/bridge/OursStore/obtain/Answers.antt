use Rattle.things.proofs.Grounds.{obtained}
use Rattle.things.proofs.bridge.OursStore.obtain.Goals as goal

pub returns : goal.returns
returns g c = obtained _ _ _ c.obtain.ensures
