-- Joining and splitting: what a join does, and the invariant of a split's climb.
-- Assumes nothing.
use Rattle.std.specs.Prelude.{◌≡◌, ℕ, ◌+◌, ◌≤◌, List, ◌++◌}
use Rattle.page.specs.Layout.{Layout}
use Rattle.store.specs.Steps.{Mem, hit, held, Step}
use Rattle.tree.specs.Tree.{uses, contents_of, uses_of}
use Rattle.tree.specs.declared.path.Branch.{Branch}
use Rattle.tree.specs.Paths.{left, right, Path, before, behind}
use Rattle.tree.specs.Tall.{tall_contents, tall_uses, Tall}

-- a tree: its height and its topmost block
pub record Top : Type 0 where
  pub height : ℕ
  pub block : ℕ

module _ {E : Type 0} (K : Layout E) where
  abbrev pub has : Mem → Top → List E
  has f t = tall_contents K t.height f t.block

  abbrev pub owns : Mem → Top → ℕ → ℕ
  owns f t c = tall_uses K t.height f t.block c

  abbrev pub Stands : Mem → Top → Type 0
  Stands f t = Tall K t.height f t.block

  pub record Joined (f g : Mem) (s t : ℕ → ℕ) (a b r : Top) : Type 0 where
    pub all : Step (λ c. owns f a c + (owns f b c + s c)) (λ c. owns g r c + t c) f g
    pub same : has g r ≡ has f a ++ has f b
    pub stands : Stands g r

  -- splitting has come up to the block b: l and r have what was left and right of the place in it
  pub record Parting (f : Mem) (s : ℕ → ℕ) (H top : ℕ) (xs ys : List E) (h b : ℕ) (ws : List Branch) (g : Mem) (t : ℕ → ℕ) (l r : Top) : Type 0 where
    pub path : Path K f h b ws H top
    pub fits : (c : ℕ) → uses K H f top c + s c ≤ held f c
    pub step : Step (λ c. uses K h f b c + s c) (λ c. owns g l c + (owns g r c + t c)) f g
    pub lefts : before K f h ws ++ has g l ≡ xs
    pub rights : has g r ++ behind K f h ws ≡ ys
    pub left_stands : Stands g l
    pub right_stands : Stands g r

  -- what stood beside in the node becomes two trees
  pub record Grouped (h : ℕ) (w : Branch) (f g g₁ : Mem) (t t₁ : ℕ → ℕ) (a c : Top) : Type 0 where
    pub all : Step (λ d. (hit w.block d + (uses_of K h f (left K f w) d + uses_of K h f (right K f w) d)) + t d) (λ d. owns g₁ a d + (owns g₁ c d + t₁ d)) g g₁
    pub left_same : has g₁ a ≡ contents_of K h f (left K f w)
    pub right_same : has g₁ c ≡ contents_of K h f (right K f w)
    pub left_stands : Stands g₁ a
    pub right_stands : Stands g₁ c
