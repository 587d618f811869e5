-- How much there is room for, in a page and in a block.
-- Assumes nothing.
use Rattle.std.specs.Prelude.{ℕ}

-- a page: so many entries, in so many words
abbrev pub page_limit : ℕ
page_limit = 64

abbrev pub word_limit : ℕ
word_limit = 192

-- an entry: at most so many words
abbrev pub width_limit : ℕ
width_limit = 3

-- a block: so many words for entries
abbrev pub block_room : ℕ
block_room = 62

-- so many entries stand in the leaves and nodes of rows and tables
abbrev pub row_leaf_cap : ℕ
row_leaf_cap = 62

abbrev pub row_node_cap : ℕ
row_node_cap = 31

abbrev pub table_leaf_cap : ℕ
table_leaf_cap = 31

abbrev pub table_node_cap : ℕ
table_node_cap = 20
