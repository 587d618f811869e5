-- The end of an insertion's climb.
-- Assumes nothing.
use Rattle.std.specs.Prelude.{◌≡◌, ℕ, ◌+◌, ◌≤◌, List, length}
use Rattle.page.specs.declared.child.Child.{Child}
use Rattle.page.specs.Layout.{Layout}
use Rattle.store.specs.Memory.{Stored}
use Rattle.store.specs.Steps.{Mem, hit, Step}
use Rattle.tree.specs.Tree.{contents, uses, Root}

module _ {E : Type 0} (K : Layout E) where
  -- the tree at r, with s in stock, is the tree at r' now, with t, and has the items xs
  pub record Grown (f : Mem) (s : ℕ → ℕ) (H r : ℕ) (xs : List E) (g : Mem) (t : ℕ → ℕ) (H' r' : ℕ) : Type 0 where
    pub step : Step (λ c. uses K H f r c + s c) (λ c. uses K H' g r' c + t c) f g
    pub root : Root K H' g r'
    pub holds : contents K H' g r' ≡ xs

  -- from the blocks in stock a page d is written above what came up
  pub record NewRoot (ms : List Child) (d : ℕ) (g g' : Mem) (t t' : ℕ → ℕ) : Type 0 where
    pub several : 2 ≤ length ms
    pub few : length ms ≤ K.node_cap
    pub reads : K.children (g' d) ≡ ms
    pub there : Stored g' d
    pub writes : Step t (λ c. hit d c + t' c) g g'
