-- How often the memory is asked, at most.
-- Assumes nothing.
use Rattle.std.specs.Prelude.{ℕ, ◌+◌, ◌*◌, ◌/◌}
use Rattle.store.specs.Reserve.{capacity}
use Rattle.tree.specs.Pages.{page_asks}
use Rattle.seek.specs.Asks.{descend_asks}
use Rattle.tree.specs.Sizes.{top_level}

-- a page is written, or its two halves
abbrev pub settle_asks : ℕ
settle_asks = 2 * page_asks

-- a page is read, and written
abbrev pub turn_asks : ℕ
turn_asks = page_asks + settle_asks

-- a block is got, and written
abbrev pub plant_asks : ℕ
plant_asks = 1 + page_asks

-- on a path of so many pages so many blocks may be needed; twice as many askings get them, or give them up
abbrev pub most_blocks : ℕ
most_blocks = top_level + 2

-- what is left of the reserve is given back
abbrev pub rest_asks : ℕ
rest_asks = capacity

-- down to a leaf, the blocks, a turn for each page of the path, a new root, and the rest
abbrev pub insert_asks : ℕ
insert_asks = descend_asks + 2 * most_blocks + (top_level + 1) * turn_asks + page_asks + rest_asks

-- where a block is refused: down to a leaf, and the blocks; two askings count as for one block
abbrev pub insert_undone : ℕ
insert_undone = (descend_asks + 1) / 2 + most_blocks
