use Rattle.store.proofs.Running.{got_obtained}
use Rattle.store.proofs.fresh.Fresh.obtain.Goals as goal

pub returns : goal.returns
returns g c =
    let got = rw c.in_ok-number.ensures.ok_part at c.obtain.ensures in
    got_obtained _ _ _ c.requires.asks (rw (← c.new.ensures) at got)
