-- How often the memory is asked, at most.
-- Assumes nothing.
use Rattle.std.specs.Prelude.{ℕ, ◌+◌, ◌*◌}
use Rattle.page.specs.Sizes.{width_limit}
use Rattle.tree.specs.Pages.{page_asks}
use Rattle.tree.specs.Sizes.{top_level}

-- how many children the root has, and their counts
abbrev pub length_asks : ℕ
length_asks = page_asks

-- a node at each level, and how many items the leaf has
abbrev pub descend_asks : ℕ
descend_asks = top_level * page_asks + 1

-- the words of an item are read, or written
abbrev pub item_asks : ℕ
item_asks = width_limit

abbrev pub at_asks : ℕ
at_asks = descend_asks + item_asks

abbrev pub set_asks : ℕ
set_asks = descend_asks + item_asks
