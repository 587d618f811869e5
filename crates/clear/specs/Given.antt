-- What giving back a tree does.
-- Assumes nothing.
use Rattle.std.specs.Prelude.{◌≡◌, ℕ, zero, suc, ◌+◌, ◌*◌}
use Rattle.page.specs.Layout.{Layout}
use Rattle.store.specs.Memory.{Memory}
use Rattle.store.specs.Steps.{Mem, Ran}
use Rattle.tree.specs.declared.top.Tree.{Tree}
use Rattle.tree.specs.Tree.{blocks}
use Rattle.tree.specs.Trees.{owns}

-- at most so many askings for each block
abbrev pub give_asks : ℕ
give_asks = 4

module _ {E : Type 0} (K : Layout E) where
  -- how many blocks a tree of this height has
  unfoldable pub tall_blocks : ℕ → Mem → ℕ → ℕ
  tall_blocks zero f b = 0
  tall_blocks (suc h) f b = blocks K h f b

  -- the tree's blocks are held no more, nothing else changed, and many says so
  pub record GivenBack (t : Tree) (m m' : Memory) : Type 0 where
    pub ran : Ran (give_asks * tall_blocks t.height m.block t.root) (owns K m.block t) (λ c. 0) m m'
    pub many : m'.many + tall_blocks t.height m.block t.root ≡ m.many
