-- The end of an insertion's climb: the page that came up is the root, or a new root stands above two.
-- Assumes nothing.
use Rattle.std.specs.Prelude.{◌≡◌, ℕ, suc, List, []}
use Rattle.page.specs.Layout.{Layout}
use Rattle.store.specs.Memory.{Memory}
use Rattle.store.specs.Stocked.{Stocked}
use Rattle.store.specs.Reserve.{uses}
use Rattle.tree.specs.declared.risen.Risen.{Risen}
use Rattle.tree.specs.declared.top.Tree.{Tree}
use Rattle.tree.specs.Tree.{Root}
use Rattle.tree.specs.Grown.{Grown}
use Rattle.tree.specs.Climb.{Start}
use Rattle.grow.specs.Rises.{Rises}

module _ {E : Type 0} (K : Layout E) where
  -- what the climb makes of the tree that it began with
  pub record Crowned (z : Start E) (m : Memory) (s : List ℕ) (t : Tree) : Type 0 where
    pub level : ℕ
    pub height : t.height ≡ suc level
    pub grown : Grown K z.memory z.stock z.level z.top z.goal m.block (uses s) level t.root
    pub stocked : Stocked (uses s) m.block

  abbrev pub Crowns : ℕ → Memory → List ℕ → Risen → Memory → List ℕ → Tree → Type 0
  Crowns height m s r m' s' t = (z : Start E) → height ≡ suc z.level → Root K z.level z.memory z.top → Rises K z [] m s r → Crowned z m' s' t
