-- What the kinds of trees read off a block, and what they keep of items. Assumes nothing.
use Rattle.std.specs.Prelude.{◌≡◌, ℕ, ◌+◌, ◌<◌, List, [], ◌∷◌, ◌++◌, length, slice_index_or, refl}
use Rattle.std.proofs.Common.{ap, arith}
use Rattle.page.specs.declared.child.Child.{Child}
use Rattle.page.specs.declared.entry.Pair.{Pair}
use Rattle.page.specs.Entries.{word_of, pair_of, row_child_of, table_child_of}
use Rattle.page.specs.Kinds.{items_of_row, children_of_row, items_of_table, children_of_table, front_key}
use Rattle.page.specs.Layout.{counts, imaged}

pub row_items : (ws : List ℕ) → items_of_row ws ≡ imaged 1 word_of ws
unfolding items_of_row
row_items ws = refl

pub row_children : (ws : List ℕ) → children_of_row ws ≡ imaged 2 row_child_of ws
unfolding children_of_row
row_children ws = refl

pub table_items : (ws : List ℕ) → items_of_table ws ≡ imaged 2 pair_of ws
unfolding items_of_table
table_items ws = refl

pub table_children : (ws : List ℕ) → children_of_table ws ≡ imaged 3 table_child_of ws
unfolding children_of_table
table_children ws = refl

-- the first key is that of the first pair
pub first_key : (ps : List Pair) (p : Pair) → 0 < length ps → ((d : Pair) → p ≡ slice_index_or ps 0 d) → p.key ≡ front_key ps
first_key [] p h e = absurd (omega arith)
first_key (q ∷ qs) p h e = ap (λ x. x.key) (e p)

-- how many items are under two rows of children
pub counts_add : (xs ys : List Child) → counts (xs ++ ys) ≡ counts xs + counts ys
unfolding counts
counts_add [] ys = omega arith
counts_add (x ∷ xs) ys = omega (arith, counts_add xs ys)
