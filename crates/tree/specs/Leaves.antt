-- Where a climb begins: the leaf at the end of a path has other items now, on one page or on two.
-- Assumes nothing.
use Rattle.std.specs.Prelude.{◌≡◌, ℕ, ◌+◌, ◌*◌, ◌/◌, ◌<◌, ◌≤◌, List, ◌++◌, length, take, drop}
use Rattle.page.specs.Layout.{Layout}
use Rattle.store.specs.Memory.{Stored}
use Rattle.store.specs.Steps.{Mem, hit, held, Step}
use Rattle.tree.specs.Tree.{uses, Sound}
use Rattle.tree.specs.declared.path.Branch.{Branch}
use Rattle.tree.specs.Paths.{Path, before, behind}

module _ {E : Type 0} (K : Layout E) where
  -- the leaf b shall have the items ys, and the tree then xs
  pub record Begun (f : Mem) (s : ℕ → ℕ) (H r : ℕ) (xs : List E) (b : ℕ) (ws : List Branch) (ys : List E) : Type 0 where
    pub was : Sound K H f r
    pub path : Path K f 0 b ws H r
    pub fits : (c : ℕ) → uses K H f r c + s c ≤ held f c
    pub whole : before K f 0 ws ++ (ys ++ behind K f 0 ws) ≡ xs

  pub record OneLeaf (f : Mem) (b : ℕ) (ys : List E) (g : Mem) (s t : ℕ → ℕ) : Type 0 where
    pub few : length ys ≤ K.leaf_cap
    pub reads : K.items (g b) ≡ ys
    pub there : Stored g b
    pub writes : Step (λ c. hit b c + s c) (λ c. hit b c + t c) f g

  pub record TwoLeaves (f : Mem) (b : ℕ) (ys : List E) (d : ℕ) (g : Mem) (s t : ℕ → ℕ) : Type 0 where
    pub too_many : K.leaf_cap < length ys
    pub not_more : length ys ≤ 2 * K.leaf_cap
    pub first : K.items (g b) ≡ take (length ys / 2) ys
    pub second : K.items (g d) ≡ drop (length ys / 2) ys
    pub there : Stored g b
    pub there' : Stored g d
    pub writes : Step (λ c. hit b c + s c) (λ c. (hit b c + hit d c) + t c) f g
