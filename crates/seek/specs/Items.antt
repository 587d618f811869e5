-- An item of a tree is set.
-- Assumes nothing.
use Rattle.std.specs.Prelude.{◌≡◌, ℕ, slice_set}
use Rattle.page.specs.Layout.{Layout}
use Rattle.store.specs.Memory.{Memory}
use Rattle.store.specs.Steps.{Ran}
use Rattle.tree.specs.declared.top.Tree.{Tree}
use Rattle.tree.specs.Trees.{holds, owns, Stands}
use Rattle.seek.specs.Asks.{set_asks}

module _ {E : Type 0} (K : Layout E) where
  -- the item at i is x now, and all else is as it was
  pub record Updated (t : Tree) (i : ℕ) (x : E) (m m' : Memory) : Type 0 where
    pub ran : Ran set_asks (owns K m.block t) (owns K m'.block t) m m'
    pub is : holds K m'.block t ≡ slice_set (holds K m.block t) i x
    pub stands : Stands K m'.block t
    pub many : m'.many ≡ m.many
