-- A turn of the climb as code has it: a node is read, what is below it is put right, and it is written.
-- Assumes nothing.
use Rattle.std.specs.Prelude.{◌≡◌, ℕ, suc, List, ◌∷◌, ◌++◌, take, drop, Option, slice_index_or}
use Rattle.page.specs.declared.child.Child.{Child}
use Rattle.page.specs.Layout.{Layout}
use Rattle.store.specs.Memory.{Memory}
use Rattle.tree.specs.declared.path.Branch.{Branch}
use Rattle.tree.specs.Paths.{none}
use Rattle.shrink.specs.Asks.{share_asks}
use Rattle.shrink.specs.Sharing.{Neighbours, Shared}
use Rattle.shrink.specs.Shrinking.{Start, Climbing}

-- a climb that has come to a level, and the nodes above the next one
pub record Site (E : Type 0) : Type 0 where
  pub start : Start E
  pub level : ℕ
  pub above : List Branch

-- two neighbours on a level that is one of these
pub record Next {E : Type 0} (K : Layout E) (at : ℕ → Type 0) (h a b : ℕ) (m : Memory) : Type 0 where
  pub level : at h
  pub neighbours : Neighbours K h a b m

-- the climb is at a child of the node w, on a level that is one of these
pub record Below {E : Type 0} (K : Layout E) (at : ℕ → Type 0) (s : Site E) (w : Branch) (m : Memory) (o : Option Child) : Type 0 where
  pub level : at s.level
  pub climbing : Climbing K s.start s.level (w ∷ s.above) m o

-- the children of a node are es, and those at i and behind it were shared
pub record Mended {E : Type 0} (K : Layout E) (h i : ℕ) (es : List Child) (m : Memory) (es' : List Child) (m' : Memory) : Type 0 where
  pub now : List Child
  pub shared : Shared K share_asks h (slice_index_or es i none).block (slice_index_or es (suc i) none).block m now m'
  pub reads : es' ≡ take i es ++ (now ++ drop (suc (suc i)) es)
