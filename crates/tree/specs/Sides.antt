-- Paths along the sides of a tree.
-- Assumes nothing.
use Rattle.std.specs.Prelude.{◌≡◌, List, [], ◌∷◌}
use Rattle.page.specs.Layout.{Layout}
use Rattle.store.specs.Steps.{Mem}
use Rattle.tree.specs.declared.path.Branch.{Branch}
use Rattle.tree.specs.Paths.{left, right}

module _ {E : Type 0} (K : Layout E) where
  -- paths along the right side, the left side
  unfoldable pub Rightmost : Mem → List Branch → Type 0
  Rightmost f [] = Unit {0}
  Rightmost f (w ∷ ws) = (right K f w ≡ []) × Rightmost f ws

  unfoldable pub Leftmost : Mem → List Branch → Type 0
  Leftmost f [] = Unit {0}
  Leftmost f (w ∷ ws) = (left K f w ≡ []) × Leftmost f ws
