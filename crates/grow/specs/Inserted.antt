-- An item came into a tree.
-- Assumes nothing.
use Rattle.std.specs.Prelude.{◌≡◌, ℕ, ◌+◌, cond, [], ◌∷◌, nat_lt}
use Rattle.std.specs.List.{insert}
use Rattle.page.specs.Layout.{Layout}
use Rattle.store.specs.Memory.{Memory}
use Rattle.store.specs.Steps.{Ran}
use Rattle.tree.specs.declared.top.Tree.{Tree}
use Rattle.tree.specs.Trees.{holds as items_in, owns, Stands}
use Rattle.grow.specs.Asks.{plant_asks, insert_asks}

-- of a path of `depth` nodes and a leaf, `full` pages in a row from the leaf upward are full: each splits, and a new root stands above the last
abbrev pub blocks_needed : ℕ → ℕ → ℕ
blocks_needed full depth = cond (nat_lt depth full) (full + 1) full

module _ {E : Type 0} (K : Layout E) where
  -- x alone is the tree t
  pub record Planted (x : E) (m : Memory) (t : Tree) (m' : Memory) : Type 0 where
    pub ran : Ran plant_asks (λ c. 0) (owns K m'.block t) m m'
    pub holds : items_in K m'.block t ≡ x ∷ []
    pub stands : Stands K m'.block t

  -- x came into the tree t, which is t' now, with `at` items before it
  pub record Inserted (at : ℕ) (x : E) (t : Tree) (m : Memory) (t' : Tree) (m' : Memory) : Type 0 where
    pub ran : Ran insert_asks (owns K m.block t) (owns K m'.block t') m m'
    pub holds : items_in K m'.block t' ≡ insert (items_in K m.block t) at x
    pub stands : Stands K m'.block t'
