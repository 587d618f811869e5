-- A tree is given back, block by block: what is still to do is a row of nodes, each with the children from a place on.
-- Assumes nothing.
use Rattle.std.specs.Prelude.{◌≡◌, ℕ, suc, ◌+◌, ◌≤◌, List, [], ◌∷◌, length, drop}
use Rattle.page.specs.declared.child.Child.{Child}
use Rattle.page.specs.Layout.{Layout}
use Rattle.store.specs.Memory.{Stored}
use Rattle.store.specs.Steps.{Mem, hit, held, Step}
use Rattle.tree.specs.Tree.{uses_of, blocks_of, ChildrenOk}
use Rattle.tree.specs.declared.path.Branch.{Branch}

module _ {E : Type 0} (K : Layout E) where
  abbrev pub rest : Mem → Branch → List Child
  rest f w = drop w.place (K.children (f w.block))

  -- nodes nearest first, whose children have level h
  unfoldable pub to_do : Mem → ℕ → List Branch → ℕ → ℕ
  to_do f h [] c = 0
  to_do f h (w ∷ ws) c = (hit w.block c + uses_of K h f (rest f w) c) + to_do f (suc h) ws c

  unfoldable pub remaining : Mem → ℕ → List Branch → ℕ
  remaining f h [] = 0
  remaining f h (w ∷ ws) = (1 + blocks_of K h f (rest f w)) + remaining f (suc h) ws

  -- each node is there, and its children from the place on are as they should be
  unfoldable pub Pending : Mem → ℕ → List Branch → Type 0
  Pending f h [] = Unit {0}
  Pending f h (w ∷ ws) = Stored f w.block × (length (K.children (f w.block)) ≤ K.node_cap) × ChildrenOk K h f (rest f w) × Pending f (suc h) ws

  pub record Waits (f f' : Mem) (h : ℕ) (ws : List Branch) : Type 0 where
    pub same_to_do : (c : ℕ) → to_do f' h ws c ≡ to_do f h ws c
    pub same_remaining : remaining f' h ws ≡ remaining f h ws
    pub still_pending : Pending f h ws → Pending f' h ws

  -- giving back: u was to be given back in f, and ws, whose children have level h, is still to do in g
  pub record Giving (u : ℕ → ℕ) (f : Mem) (h : ℕ) (ws : List Branch) (g : Mem) : Type 0 where
    pub step : Step u (to_do g h ws) f g
    pub fits : (c : ℕ) → to_do g h ws c ≤ held g c
    pub pending : Pending g h ws
