-- What stands in a node of a page below it.
use Rattle.std.proofs.Common.{◌≡◌, ℕ, zero, suc, ◌<◌, ◌≤◌, List, [], ◌∷◌, ◌++◌, length, fold, sym, refl, ap, ◌∙◌, append_assoc, append-nil, arith, length-append}
use Rattle.page.specs.declared.child.Child.{Child}
use Rattle.page.specs.Layout.{Layout, Lawful, half, counts, summed, entry_of, entry_of_leaf}
use Rattle.store.specs.Memory.{Stored}
use Rattle.store.specs.Steps.{Mem}
use Rattle.tree.specs.Tree.{flat, All, contents, many, low, Sound, contents_of, ChildOk, ChildrenOk}
use Rattle.tree.proofs.Each.{All-map}

some_first : {E : Type 0} (g : ℕ → List E) (ks : List Child) → 0 < length ks → All (λ k. 0 < length (g k.block)) ks → 0 < length (flat g ks)
unfolding flat All
some_first g [] l a = absurd (omega arith)
some_first g (k ∷ ks) l a = omega (arith, a.0, length-append (g k.block) (flat g ks))

module _ {E : Type 0} (K : Layout E) where
  -- what stands above a page with its children, or a leaf
  pub counts_right : (h : ℕ) (f : Mem) (ks : List Child) → ChildrenOk K h f ks → counts ks ≡ length (contents_of K h f ks)
  unfolding counts flat All
  counts_right h f [] a = refl
  counts_right h f (k ∷ ks) a = omega (arith, a.0.counted, counts_right h f ks a.1, length-append (contents K h f k.block) (contents_of K h f ks))

  pub not_empty : Lawful K → (h : ℕ) (f : Mem) (b : ℕ) → Sound K h f b → low K h ≤ many K h (f b) → 0 < length (contents K h f b)
  unfolding Sound low many contents
  not_empty g zero f b a n = omega (arith, g.leaf_room)
  not_empty g (suc h) f b a n = some_first (contents K h f) (K.children (f b)) (omega (arith, g.node_room)) (All-map _ _ (λ k x. not_empty g h f k.block x.sound x.full) _ a.2)

  -- what is kept of a list, and of the children behind it
  summed_behind : Lawful K → (h : ℕ) (f : Mem) (xs : List E) (ks : List Child) → 0 < length xs → ChildrenOk K h f ks → fold (λ a c. K.join a c.summary) (K.summary xs) ks ≡ K.summary (xs ++ contents_of K h f ks)
  unfolding flat All
  summed_behind g h f xs [] l a = ap K.summary (sym (append-nil xs))
  summed_behind g h f xs (k ∷ ks) l a =
      let n : 0 < length (contents K h f k.block) = not_empty g h f k.block a.0.sound a.0.full in
      let e : K.join (K.summary xs) k.summary ≡ K.summary (xs ++ contents K h f k.block) = ap (K.join (K.summary xs)) a.0.summed ∙ sym (g.joins xs (contents K h f k.block) l n) in
      ap (λ s. fold (λ b c. K.join b c.summary) s ks) e
      ∙ summed_behind g h f (xs ++ contents K h f k.block) ks (simp length-append (omega arith)) a.1
      ∙ ap K.summary (append_assoc xs (contents K h f k.block) (contents_of K h f ks))

  pub summed_right : Lawful K → (h : ℕ) (f : Mem) (ks : List Child) → 0 < length ks → ChildrenOk K h f ks → summed K.join ks ≡ K.summary (contents_of K h f ks)
  unfolding summed flat All
  summed_right g h f [] l a = absurd (omega arith)
  summed_right g h f (k ∷ ks) l a =
      ap (λ s. fold (λ b c. K.join b c.summary) s ks) a.0.summed
      ∙ summed_behind g h f (contents K h f k.block) ks (not_empty g h f k.block a.0.sound a.0.full) a.1

  pub node_is_child : Lawful K → (h : ℕ) (f : Mem) (b : ℕ) → Stored f b → half K.node_cap ≤ length (K.children (f b)) → length (K.children (f b)) ≤ K.node_cap → ChildrenOk K h f (K.children (f b)) → ChildOk K (suc h) f (entry_of K b (K.children (f b)))
  unfolding Sound low many contents
  node_is_child g h f b e l m a = record {
    sound = (e, m, a);
    full = l;
    counted = counts_right h f (K.children (f b)) a;
    summed = summed_right g h f (K.children (f b)) (omega (arith, g.node_room)) a;
  }

  pub leaf_is_child : (f : Mem) (b : ℕ) → Stored f b → half K.leaf_cap ≤ length (K.items (f b)) → length (K.items (f b)) ≤ K.leaf_cap → ChildOk K 0 f (entry_of_leaf K b (K.items (f b)))
  unfolding Sound low many contents
  leaf_is_child f b e l m = record { sound = (e, m); full = l; counted = refl; summed = refl }
