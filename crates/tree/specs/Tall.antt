-- Trees by their height: 0 for nothing, 1 for a leaf.
-- Assumes nothing.
use Rattle.std.specs.Prelude.{◌≡◌, ℕ, zero, suc, List, []}
use Rattle.page.specs.Layout.{Layout}
use Rattle.store.specs.Steps.{Mem}
use Rattle.tree.specs.Tree.{contents, uses, Root}

module _ {E : Type 0} (K : Layout E) where
  unfoldable pub tall_contents : ℕ → Mem → ℕ → List E
  tall_contents zero f b = []
  tall_contents (suc h) f b = contents K h f b

  unfoldable pub tall_uses : ℕ → Mem → ℕ → ℕ → ℕ
  tall_uses zero f b c = 0
  tall_uses (suc h) f b c = uses K h f b c

  unfoldable pub Tall : ℕ → Mem → ℕ → Type 0
  Tall zero f b = Unit {0}
  Tall (suc h) f b = Root K h f b

  pub record TallKept (h : ℕ) (f f' : Mem) (b : ℕ) : Type 0 where
    pub same_contents : tall_contents h f' b ≡ tall_contents h f b
    pub same_uses : (c : ℕ) → tall_uses h f' b c ≡ tall_uses h f b c
    pub still_tall : Tall h f b → Tall h f' b
