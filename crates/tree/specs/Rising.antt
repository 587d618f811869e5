-- The climb back up a path: what is above the pages that changed, level by level.
-- Assumes nothing.
use Rattle.std.specs.Prelude.{◌≡◌, ℕ, suc, ◌+◌, ◌≤◌, List, ◌++◌, length}
use Rattle.page.specs.declared.child.Child.{Child}
use Rattle.page.specs.Layout.{Layout}
use Rattle.store.specs.Steps.{Mem, hit, held, Step}
use Rattle.tree.specs.Tree.{total, uses, contents_of, uses_of, blocks_of, ChildrenOk, under}
use Rattle.tree.specs.declared.path.Branch.{Branch}
use Rattle.tree.specs.Paths.{left, right, Path, before, behind}

module _ {E : Type 0} (K : Layout E) where
  -- the climb: f was the memory, with s in stock; now it's g, with t, and what was b is now ms; when all is put together the contents are xs
  pub record Rising (f : Mem) (s : ℕ → ℕ) (H r : ℕ) (xs : List E) (h b : ℕ) (ws : List Branch) (g : Mem) (t : ℕ → ℕ) (ms : List Child) : Type 0 where
    pub path : Path K f h b ws H r
    pub fits : (c : ℕ) → uses K H f r c + s c ≤ held f c
    pub step : Step (λ c. uses K h f b c + s c) (λ c. uses_of K h g ms c + t c) f g
    pub whole : before K f h ws ++ (contents_of K h g ms ++ behind K f h ws) ≡ xs

  -- a turn in which neighbours are put right with what came up: ls and rs stood beside it in the node, and all these are ns in g₁; then the node is written
  pub record Mend (h : ℕ) (w : Branch) (f g g₁ g' : Mem) (t t₁ t' : ℕ → ℕ) (zs ls ms rs bs ns ps : List Child) : Type 0 where
    pub lefts : left K f w ≡ zs ++ ls
    pub rights : right K f w ≡ rs ++ bs
    pub mends : Step (λ c. uses_of K h g (ls ++ (ms ++ rs)) c + t c) (λ c. uses_of K h g₁ ns c + t₁ c) g g₁
    pub same : contents_of K h g₁ ns ≡ contents_of K h g (ls ++ (ms ++ rs))
    pub writes : Step (λ c. hit w.block c + t₁ c) (λ c. total (λ d. hit d c) ps + t' c) g₁ g'
    pub reads : under K g' ps ≡ zs ++ (ns ++ bs)

  pub record Mended (f : Mem) (s : ℕ → ℕ) (H r : ℕ) (xs : List E) (h : ℕ) (w : Branch) (ws : List Branch) (g₁ g' : Mem) (t' : ℕ → ℕ) (ns ps : List Child) : Type 0 where
    pub rising : Rising f s H r xs (suc h) w.block ws g' t' ps
    pub children : ChildrenOk K h g₁ ns → ChildrenOk K h g' (under K g' ps)

  -- pages are written anew, with the same below them
  pub record Repage (h : ℕ) (f g : Mem) (t t' : ℕ → ℕ) (ps qs : List Child) : Type 0 where
    pub fits : (c : ℕ) → uses_of K h f ps c + t c ≤ held f c
    pub writes : Step (λ c. total (λ d. hit d c) ps + t c) (λ c. total (λ d. hit d c) qs + t' c) f g

  pub record Repaged (h : ℕ) (f g : Mem) (t t' : ℕ → ℕ) (ps qs : List Child) : Type 0 where
    pub all : Step (λ c. uses_of K h f ps c + t c) (λ c. uses_of K h g qs c + t' c) f g
    pub same_contents : contents_of K h g qs ≡ contents_of K h f ps
    pub blocks_differ : blocks_of K h g qs + length ps ≡ blocks_of K h f ps + length qs
