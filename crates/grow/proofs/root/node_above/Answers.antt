use Rattle.grow.proofs.Settling.{taken_there, filled}
use Rattle.grow.proofs.root.node_above.Goals as goal

pub store_page-requires-clause-there : goal.store_page-requires-clause-there
store_page-requires-clause-there g c = taken_there _ _ _ c.take_block-block.ensures _ c.requires.stocked

pub returns : goal.returns
returns g c = filled _ _ _ c.take_block-block.ensures _ _ _ _ c.requires.stocked (rw c.new-page.ensures.after at (rw c.push.ensures.after at (rw c.push-2.ensures.after at c.store_page.ensures)))
