-- How often the memory is asked, at most.
-- Assumes nothing.
use Rattle.std.specs.Prelude.{ℕ, ◌+◌, ◌*◌}
use Rattle.tree.specs.Pages.{page_asks}
use Rattle.seek.specs.Asks.{descend_asks}
use Rattle.tree.specs.Sizes.{top_level}

-- two neighbours are read, and written as one page or two
abbrev pub share_asks : ℕ
share_asks = 4 * page_asks

-- a level of the climb: a node is read and written, and two of its children are put right
abbrev pub turn_asks : ℕ
turn_asks = 2 * page_asks + share_asks

-- the top: how full the root is, and its one child
abbrev pub top_asks : ℕ
top_asks = 1 + page_asks

-- the leaf is read and written
abbrev pub leaf_asks : ℕ
leaf_asks = 2 * page_asks

abbrev pub delete_asks : ℕ
delete_asks = descend_asks + leaf_asks + top_level * turn_asks + top_asks
