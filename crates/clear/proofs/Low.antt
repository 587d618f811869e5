-- How many blocks a tree has, by its height.
use Rattle.std.proofs.Common.{◌≡◌, ℕ, zero, suc}
use Rattle.page.specs.Layout.{Layout}
use Rattle.store.specs.Steps.{Mem, sum_to}
use Rattle.store.proofs.Sums.{sum_to_none}
use Rattle.tree.specs.Tall.{tall_uses, Tall}
use Rattle.tree.proofs.Counting.{blocks_used}
use Rattle.clear.specs.Given.{tall_blocks}

module _ {E : Type 0} (K : Layout E) where
  -- over all blocks, the uses of a tree are as many as its blocks
  pub tall_used : (h : ℕ) (f : Mem) (b : ℕ) → Tall K h f b → sum_to 1048576 (tall_uses K h f b) ≡ tall_blocks K h f b
  unfolding Tall tall_uses tall_blocks
  tall_used zero f b w = sum_to_none 1048576
  tall_used (suc h) f b w = blocks_used K h f b w.sound
