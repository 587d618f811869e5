-- The two kinds of trees: rows of words, and tables of pairs.
-- Assumes nothing.
use Rattle.std.specs.Prelude.{ℕ, List, [], ◌∷◌}
use Rattle.page.specs.declared.child.Child.{Child}
use Rattle.page.specs.declared.entry.Pair.{Pair}
use Rattle.page.specs.Entries.{word_of, pair_of, row_child_of, table_child_of}
use Rattle.page.specs.Layout.{Layout, imaged}
use Rattle.page.specs.Sizes.{row_leaf_cap, row_node_cap, table_leaf_cap, table_node_cap}

-- what a block holds as a leaf or as a node of each
unfoldable pub items_of_row : List ℕ → List ℕ
items_of_row ws = imaged 1 word_of ws

unfoldable pub children_of_row : List ℕ → List Child
children_of_row ws = imaged 2 row_child_of ws

unfoldable pub items_of_table : List ℕ → List Pair
items_of_table ws = imaged 2 pair_of ws

unfoldable pub children_of_table : List ℕ → List Child
children_of_table ws = imaged 3 table_child_of ws

-- nothing is kept of a row but how long it is
abbrev pub row_layout : Layout ℕ
row_layout = record { items = items_of_row; children = children_of_row; summary = λ _. 0; join = λ _ _. 0; leaf_cap = row_leaf_cap; node_cap = row_node_cap }

-- of a table the first key
abbrev pub front_key : List Pair → ℕ
front_key [] = 0
front_key (p ∷ ps) = p.key

abbrev pub table_layout : Layout Pair
table_layout = record { items = items_of_table; children = children_of_table; summary = front_key; join = λ a _. a; leaf_cap = table_leaf_cap; node_cap = table_node_cap }
