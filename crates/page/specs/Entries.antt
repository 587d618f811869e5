-- The entries that pages hold, read off their words.
-- Assumes nothing.
use Rattle.std.specs.Prelude.{ℕ, List, slice_index}
use Rattle.page.specs.declared.child.Child.{Child}
use Rattle.page.specs.declared.entry.Pair.{Pair}

-- of a row: the word itself; of a table: key and word
abbrev pub word_of : List ℕ → ℕ
word_of ws = slice_index ws 0

abbrev pub pair_of : List ℕ → Pair
pair_of ws = record { key = slice_index ws 0; word = slice_index ws 1 }

-- the children of a row's node keep no summary
abbrev pub row_child_of : List ℕ → Child
row_child_of ws = record { count = slice_index ws 0; block = slice_index ws 1; summary = 0 }

abbrev pub table_child_of : List ℕ → Child
table_child_of ws = record { count = slice_index ws 0; block = slice_index ws 1; summary = slice_index ws 2 }
