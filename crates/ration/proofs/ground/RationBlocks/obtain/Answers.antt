use Rattle.ration.proofs.Gettings.{rationed_obtains}
use Rattle.ration.proofs.ground.RationBlocks.obtain.Goals as goal

pub returns : goal.returns
returns g c =
    let a = c.ask_below.ensures in
    record { obtains = rationed_obtains g.B.Blocks.as_ground c.args.self.now c.ask_below.result c.ask_below.new.self a; rationed = a }
