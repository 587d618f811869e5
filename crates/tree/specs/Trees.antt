-- Trees as the code has them, and what may be taken for granted of one in memory.
-- Assumes nothing.
use Rattle.std.specs.Prelude.{◌≡◌, ℕ, ◌≤◌, List}
use Rattle.page.specs.Layout.{Layout}
use Rattle.store.specs.Memory.{Memory}
use Rattle.store.specs.Steps.{Mem, held, held_in}
use Rattle.tree.specs.declared.top.Tree.{Tree}
use Rattle.tree.specs.Tall.{tall_contents, tall_uses, Tall}

module _ {E : Type 0} (K : Layout E) where
  abbrev pub holds : Mem → Tree → List E
  holds f t = tall_contents K t.height f t.root

  abbrev pub owns : Mem → Tree → ℕ → ℕ
  owns f t c = tall_uses K t.height f t.root c

  abbrev pub Stands : Mem → Tree → Type 0
  Stands f t = Tall K t.height f t.root

  -- the tree stands, each block is used at most once and is held, and many says how many are
  pub record Lies (m : Memory) (t : Tree) : Type 0 where
    pub stands : Stands m.block t
    pub once : (c : ℕ) → owns m.block t c ≤ held m.block c
    pub number : m.many ≡ held_in m.block
