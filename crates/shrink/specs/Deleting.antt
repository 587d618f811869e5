-- An item leaves a tree.
-- Assumes nothing.
use Rattle.std.specs.Prelude.{◌≡◌, ℕ, suc, ◌+◌, [], ◌++◌, take, drop, Option, slice_index_or}
use Rattle.page.specs.declared.child.Child.{Child}
use Rattle.page.specs.Layout.{Layout}
use Rattle.store.specs.Memory.{Memory}
use Rattle.store.specs.Steps.{Ran}
use Rattle.tree.specs.declared.top.Tree.{Tree}
use Rattle.tree.specs.Trees.{holds, owns, Stands}
use Rattle.shrink.specs.Asks.{delete_asks}
use Rattle.shrink.specs.Shrinking.{Start, Climbing}

module _ {E : Type 0} (K : Layout E) where
  -- the climb is at the root of t
  pub record Topmost (z : Start E) (t : Tree) (m : Memory) (o : Option Child) : Type 0 where
    pub level : z.level + 1 ≡ t.height
    pub root : z.top ≡ t.root
    pub climbing : Climbing K z z.level [] m o

  -- x was the item at i, and the tree is t' now, without it
  pub record Deleted (i : ℕ) (t : Tree) (m : Memory) (t' : Tree) (x : E) (m' : Memory) : Type 0 where
    pub ran : Ran delete_asks (owns K m.block t) (owns K m'.block t') m m'
    pub stands : Stands K m'.block t'
    pub item : (d : E) → x ≡ slice_index_or (holds K m.block t) i d
    pub holds : holds K m'.block t' ≡ take i (holds K m.block t) ++ drop (suc i) (holds K m.block t)
