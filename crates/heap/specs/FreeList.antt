-- The free list, a stack: the first n of xs are the numbers of the blocks that are not held.
-- Assumes nothing.
use Rattle.std.specs.Prelude.{◌≡◌, ℕ, ◌<◌, List, [], length, slice_index, slice_index_or}
use Rattle.heap.specs.Sizes.{block_count}

-- each is the number of a block
abbrev pub Valid : List ℕ → ℕ → Type 0
Valid xs n = (j : ℕ) → j < n → slice_index xs j < block_count

-- none of these blocks is held
abbrev pub Unheld : List ℕ → ℕ → List (List ℕ) → Type 0
Unheld xs n wss = (j : ℕ) → j < n → length (slice_index_or wss (slice_index xs j) []) ≡ 0

-- no number stands there twice
abbrev pub Distinct : List ℕ → ℕ → Type 0
Distinct xs n = (j k : ℕ) → ((j < k) × (k < n) × (slice_index xs j ≡ slice_index xs k)) → ⊥
