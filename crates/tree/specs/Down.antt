-- The path down to a place.
-- Assumes nothing.
use Rattle.std.specs.Prelude.{◌≡◌, ℕ, ◌+◌, ◌<◌, List, length, slice_index_or}
use Rattle.page.specs.Layout.{Layout}
use Rattle.store.specs.Steps.{Mem}
use Rattle.tree.specs.Tree.{contents, Sound}
use Rattle.tree.specs.declared.path.Branch.{Branch}
use Rattle.tree.specs.Paths.{none, Path, before}

module _ {E : Type 0} (K : Layout E) where
  -- p is a place in the tree, and a the same place in the subtree b; with more 1 the end is a place too
  pub record Down (f : Mem) (H r p : ℕ) (more : ℕ) (h b : ℕ) (ws : List Branch) (a : ℕ) : Type 0 where
    pub path : Path K f h b ws H r
    pub sound : Sound K h f b
    pub place : p ≡ length (before K f h ws) + a
    pub inside : a < length (contents K h f b) + more

  abbrev pub turn : Mem → ℕ → ℕ → ℕ
  turn f b i = (slice_index_or (K.children (f b)) i none).block
