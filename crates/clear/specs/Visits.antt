-- What is read of a node on the way through a tree.
-- Assumes nothing.
use Rattle.std.specs.Prelude.{◌≡◌, ℕ, ◌+◌, ◌<◌, ◌≤◌, List, ◌∷◌, length}
use Rattle.page.specs.Layout.{Layout}
use Rattle.store.specs.Memory.{Memory, asked, released}
use Rattle.tree.specs.declared.path.Branch.{Branch}
use Rattle.tree.specs.Down.{turn}

module _ {E : Type 0} (K : Layout E) where
  -- no child is next
  pub record Childless (at : Branch) (m m' : Memory) : Type 0 where
    pub none : length (K.children (m.block at.block)) ≤ at.place
    pub same : m' ≡ asked 1 m

  -- c is the block of the child that is next
  pub record NextChild (at : Branch) (c : ℕ) (m m' : Memory) : Type 0 where
    pub some : at.place < length (K.children (m.block at.block))
    pub low : at.place < 62
    pub is : c ≡ turn K m.block at.block at.place
    pub same : m' ≡ asked 1 (asked 1 m)

-- block b was found below the nodes ws, in a tree of this height: a node goes on the path, and a leaf, below a whole path, goes back
pub record GoneDown (height b : ℕ) (ws : List Branch) (m : Memory) (ws' : List Branch) (m' : Memory) : Type 0 where
  pub longer : length ws + 1 < height → ws' ≡ record { block = b; place = 0 } ∷ ws
  pub waits : length ws + 1 < height → m' ≡ m
  pub as_long : height ≤ length ws + 1 → ws' ≡ ws
  pub gone : height ≤ length ws + 1 → m' ≡ released b m
