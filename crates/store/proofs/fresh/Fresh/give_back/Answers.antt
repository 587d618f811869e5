use Rattle.store.proofs.Running.{released_returned}
use Rattle.store.proofs.fresh.Fresh.give_back.Goals as goal

pub returns : goal.returns
returns g c = released_returned _ _ _ c.requires.asks c.requires.held c.requires.there (rw c.into_block.ensures.block at c.release.ensures)
