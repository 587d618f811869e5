-- A node is written above children that are there already.
-- Assumes nothing.
use Rattle.std.specs.Prelude.{◌≡◌, ℕ, suc, ◌+◌, ◌≤◌, List, length}
use Rattle.page.specs.declared.child.Child.{Child}
use Rattle.page.specs.Layout.{Layout}
use Rattle.store.specs.Memory.{Stored}
use Rattle.store.specs.Steps.{Mem, hit, held, Step}
use Rattle.tree.specs.Tree.{contents, uses, blocks, Sound, contents_of, uses_of, blocks_of, ChildrenOk, Root}

module _ {E : Type 0} (K : Layout E) where
  -- from the blocks in stock a page d is written, whose children are ms
  pub record NodeAbove (h : ℕ) (f g : Mem) (t t' : ℕ → ℕ) (ms : List Child) (d : ℕ) : Type 0 where
    pub fits : (c : ℕ) → uses_of K h f ms c + t c ≤ held f c
    pub writes : Step t (λ c. hit d c + t' c) f g
    pub reads : K.children (g d) ≡ ms
    pub words : Stored g d
    pub few : length ms ≤ K.node_cap
    pub children : ChildrenOk K h f ms

  pub record Rooted (h : ℕ) (f g : Mem) (t t' : ℕ → ℕ) (ms : List Child) (d : ℕ) : Type 0 where
    pub all : Step (λ c. uses_of K h f ms c + t c) (λ c. uses K (suc h) g d c + t' c) f g
    pub same_contents : contents K (suc h) g d ≡ contents_of K h f ms
    pub more_blocks : blocks K (suc h) g d ≡ 1 + blocks_of K h f ms
    pub sound : Sound K (suc h) g d
    pub root : 2 ≤ length ms → Root K (suc h) g d
