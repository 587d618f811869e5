-- What is true of each heap: its blocks and its free list agree.
-- Assumes nothing.
use Rattle.std.specs.Prelude.{◌≡◌, ℕ, ◌+◌, List, length}
use Rattle.heap.specs.Sizes.{block_count}
use Rattle.heap.specs.Owned.{held}
use Rattle.heap.specs.FreeList.{Valid, Unheld, Distinct}

-- the words of each block, and the free list, of which the first n count
pub record Kept (wss : List (List ℕ)) (free : List ℕ) (n : ℕ) : Type 0 where
  pub sized : length wss ≡ block_count
  pub counts : held wss + n ≡ block_count
  pub valid : Valid free n
  pub unheld : Unheld free n wss
  pub distinct : Distinct free n
