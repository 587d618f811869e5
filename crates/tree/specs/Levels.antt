-- What changes at a level of a tree when other pages come to be below it.
-- Assumes nothing.
use Rattle.std.specs.Prelude.{◌≡◌, ℕ, suc, ◌+◌, ◌≤◌, List, ◌++◌, length}
use Rattle.page.specs.declared.child.Child.{Child}
use Rattle.page.specs.Layout.{Layout}
use Rattle.store.specs.Steps.{Mem, hit, held, Same, Step}
use Rattle.tree.specs.Tree.{total, contents_of, uses_of, blocks_of, ChildrenOk, under}

module _ {E : Type 0} (K : Layout E) where
  -- pages ps at the level above are ps' now: under them os have become ns, between xs and ys that are as they were
  pub record Change (h : ℕ) (f f' : Mem) (ps ps' xs os ns ys : List Child) : Type 0 where
    pub was : under K f ps ≡ xs ++ (os ++ ys)
    pub is : under K f' ps' ≡ xs ++ (ns ++ ys)
    pub left : Same (uses_of K h f xs) f f'
    pub right : Same (uses_of K h f ys) f f'

  pub record Changed (h : ℕ) (f f' : Mem) (ps ps' xs os ns ys : List Child) : Type 0 where
    pub contents_was : contents_of K (suc h) f ps ≡ contents_of K h f xs ++ (contents_of K h f os ++ contents_of K h f ys)
    pub contents_is : contents_of K (suc h) f' ps' ≡ contents_of K h f xs ++ (contents_of K h f' ns ++ contents_of K h f ys)
    pub uses_differ : (c : ℕ) → uses_of K (suc h) f' ps' c + (total (λ d. hit d c) ps + uses_of K h f os c) ≡ uses_of K (suc h) f ps c + (total (λ d. hit d c) ps' + uses_of K h f' ns c)
    pub blocks_differ : blocks_of K (suc h) f' ps' + (length ps + blocks_of K h f os) ≡ blocks_of K (suc h) f ps + (length ps' + blocks_of K h f' ns)
    pub children : ChildrenOk K h f (under K f ps) → ChildrenOk K h f' ns → ChildrenOk K h f' (under K f' ps')

  -- One level up. Before, in f, os lay between xs and ys under the pages ps, with s for blocks in stock. They became ns in g, with t in stock; then the pages were written, and are ps' in f', with t' in stock.
  pub record Rise (h : ℕ) (f g f' : Mem) (s t t' : ℕ → ℕ) (ps ps' xs os ns ys : List Child) : Type 0 where
    pub fits : (c : ℕ) → uses_of K (suc h) f ps c + s c ≤ held f c
    pub was : under K f ps ≡ xs ++ (os ++ ys)
    pub is : under K f' ps' ≡ xs ++ (ns ++ ys)
    pub below : Step (λ c. uses_of K h f os c + s c) (λ c. uses_of K h g ns c + t c) f g
    pub here : Step (λ c. total (λ d. hit d c) ps + t c) (λ c. total (λ d. hit d c) ps' + t' c) g f'

  pub record Risen (h : ℕ) (f g f' : Mem) (s t t' : ℕ → ℕ) (ps ps' xs os ns ys : List Child) : Type 0 where
    pub all : Step (λ c. uses_of K (suc h) f ps c + s c) (λ c. uses_of K (suc h) f' ps' c + t' c) f f'
    pub contents_was : contents_of K (suc h) f ps ≡ contents_of K h f xs ++ (contents_of K h f os ++ contents_of K h f ys)
    pub contents_is : contents_of K (suc h) f' ps' ≡ contents_of K h f xs ++ (contents_of K h g ns ++ contents_of K h f ys)
    pub blocks_differ : blocks_of K (suc h) f' ps' + (length ps + blocks_of K h f os) ≡ blocks_of K (suc h) f ps + (length ps' + blocks_of K h g ns)
    pub children : ChildrenOk K h f (under K f ps) → ChildrenOk K h g ns → ChildrenOk K h f' (under K f' ps')
