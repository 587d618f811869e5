-- Entries that are too many for a page go onto two; those of two neighbours onto one, or two that are full enough.
use Rattle.std.proofs.Common.{◌≡◌, ℕ, suc, ◌+◌, ◌-◌, ◌*◌, ◌/◌, ◌<◌, ◌≤◌, List, [], ◌∷◌, ◌++◌, length, take, drop, sym, ◌∙◌, subst, append-nil, arith, length-drop, take-append-drop, length-take}
use Rattle.page.specs.declared.child.Child.{Child}
use Rattle.page.specs.Layout.{Layout, Lawful, half, entry_of}
use Rattle.store.specs.Memory.{Stored}
use Rattle.store.specs.Steps.{Mem}
use Rattle.tree.specs.Tree.{flat, All, ChildOk, ChildrenOk, under}
use Rattle.tree.proofs.Each.{All-left, All-right}
use Rattle.tree.proofs.Entries.{node_is_child}

-- half of more than a page is half a page at least, and fits
pub halves : (n c l : ℕ) → c < n → n ≤ 2 * c → 2 * l ≤ c + 1 → (l ≤ n / 2) × (n / 2 ≤ c) × (l ≤ n - n / 2) × (n - n / 2 ≤ c)
halves n c l p q r = (omega arith, omega arith, omega arith, omega arith)

module _ {E : Type 0} (K : Layout E) (g : Lawful K) (h : ℕ) (f : Mem) where
  pub one_node : (b : ℕ) (ks : List Child) → Stored f b → K.children (f b) ≡ ks → half K.node_cap ≤ length ks → length ks ≤ K.node_cap → ChildrenOk K h f ks → ChildOk K (suc h) f (entry_of K b ks)
  one_node b ks s e l m a = subst (λ (xs : List Child). ChildOk K (suc h) f (entry_of K b xs)) e (node_is_child K g h f b s (rw e l) (rw e m) (rw e a))

  pub two_nodes : (b c m : ℕ) (ks : List Child) → Stored f b → Stored f c → K.children (f b) ≡ take m ks → K.children (f c) ≡ drop m ks
      → m ≤ length ks → half K.node_cap ≤ m → m ≤ K.node_cap → half K.node_cap ≤ length ks - m → length ks - m ≤ K.node_cap
      → ChildrenOk K h f ks → ChildrenOk K (suc h) f (entry_of K b (take m ks) ∷ entry_of K c (drop m ks) ∷ [])
  unfolding All
  two_nodes b c m ks s t e k i l n o p a =
      let q : ChildrenOk K h f (take m ks ++ drop m ks) = subst (All (ChildOk K h f)) (sym (take-append-drop m ks)) a in
      let x : length (take m ks) ≡ m = length-take m ks ∙ omega arith in
      let y : length (drop m ks) ≡ length ks - m = length-drop m ks in (
        one_node b (take m ks) s e (omega arith) (omega arith) (All-left (ChildOk K h f) (take m ks) (drop m ks) q),
        (
          one_node c (drop m ks) t k (omega arith) (omega arith) (All-right (ChildOk K h f) (take m ks) (drop m ks) q),
          tt,
        ),
      )

  pub under_two : (b c m : ℕ) (ks : List Child) → K.children (f b) ≡ take m ks → K.children (f c) ≡ drop m ks → under K f (entry_of K b (take m ks) ∷ entry_of K c (drop m ks) ∷ []) ≡ ks
  unfolding flat
  under_two b c m ks e k = rw (e, k, append-nil (drop m ks)) (take-append-drop m ks)
