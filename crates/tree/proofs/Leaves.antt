-- Where a climb begins: a leaf with other items.
use Rattle.std.proofs.Common.{◌≡◌, ℕ, ◌-◌, ◌/◌, ◌≤◌, List, [], ◌∷◌, length, take, drop, refl, ◌∙◌, subst, append-nil, arith, length-drop, take-append-drop, length-take}
use Rattle.page.specs.declared.child.Child.{Child}
use Rattle.page.specs.Layout.{Layout, half, entry_of_leaf}
use Rattle.store.specs.Memory.{Stored}
use Rattle.store.specs.Steps.{Mem}
use Rattle.store.proofs.Stepping.{step_as}
use Rattle.tree.specs.Tree.{total, flat, All, contents, uses, low, many, least, Root, Sound, ChildOk, ChildrenOk}
use Rattle.tree.specs.declared.path.Branch.{Branch}
use Rattle.tree.specs.Rising.{Rising}
use Rattle.tree.specs.Growing.{Loose, Growing}
use Rattle.tree.specs.Leaves.{Begun, OneLeaf, TwoLeaves}
use Rattle.tree.proofs.Each.{All-map}
use Rattle.tree.proofs.Entries.{leaf_is_child}
use Rattle.tree.proofs.Settle.{halves}

module _ {E : Type 0} (K : Layout E) where
  pub loose_leaf : (f : Mem) (b : ℕ) (ys : List E) → Stored f b → K.items (f b) ≡ ys → length ys ≤ K.leaf_cap → Loose K 0 f (entry_of_leaf K b ys)
  unfolding Sound contents
  loose_leaf f b ys s e m = record { sound = (s, rw e m); counted = rw e refl; summed = rw e refl }

  pub one_leaf : (f : Mem) (b : ℕ) (ys : List E) → Stored f b → K.items (f b) ≡ ys → half K.leaf_cap ≤ length ys → length ys ≤ K.leaf_cap → ChildOk K 0 f (entry_of_leaf K b ys)
  one_leaf f b ys s e l m = subst (λ (xs : List E). ChildOk K 0 f (entry_of_leaf K b xs)) e (leaf_is_child K f b s (rw e l) (rw e m))

  -- a leaf as a tree of its own
  pub leaf_root : (f : Mem) (b : ℕ) (ys : List E) → Stored f b → K.items (f b) ≡ ys → 1 ≤ length ys → length ys ≤ K.leaf_cap → Root K 0 f b
  unfolding Sound least many
  leaf_root f b ys s e l m = record { sound = (s, rw e m); full = rw e l }

  module _ (f : Mem) (s : ℕ → ℕ) (H r : ℕ) (xs : List E) (b : ℕ) (ws : List Branch) (ys : List E) (z : Begun K f s H r xs b ws ys) (g : Mem) (t : ℕ → ℕ) where
    pub rising_leaf : OneLeaf K f b ys g s t → Rising K f s H r xs 0 b ws g t (entry_of_leaf K b ys ∷ [])
    unfolding flat total contents uses
    rising_leaf p = record {
      path = z.path;
      fits = z.fits;
      step = step_as _ _ _ _ f g (λ c. refl) (λ c. omega arith) p.writes;
      whole = rw (p.reads, append-nil ys) z.whole;
    }

    -- with no fewer items than there were
    pub grow_leaf : OneLeaf K f b ys g s t → length (K.items (f b)) ≤ length ys → Growing K f s H r xs 0 b ws g t (entry_of_leaf K b ys ∷ [])
    unfolding All low many
    grow_leaf p l = record {
      was = z.was;
      rising = rising_leaf p;
      some = omega arith;
      loose = (loose_leaf g b ys p.there p.reads p.few, tt);
      full = λ n o m. (rw p.reads (omega arith), tt);
      parted = λ m. absurd (omega arith);
    }

    pub grow_leaves : (d : ℕ) → TwoLeaves K f b ys d g s t → Growing K f s H r xs 0 b ws g t (entry_of_leaf K b (take (length ys / 2) ys) ∷ entry_of_leaf K d (drop (length ys / 2) ys) ∷ [])
    unfolding All flat total contents uses
    grow_leaves d p = record {
      was = z.was;
      rising = record {
        path = z.path;
        fits = z.fits;
        step = step_as _ _ _ _ f g (λ c. refl) (λ c. omega arith) p.writes;
        whole = rw (p.first, p.second, append-nil (drop (length ys / 2) ys), take-append-drop (length ys / 2) ys) z.whole;
      };
      some = omega arith;
      loose = All-map (ChildOk K 0 g) (Loose K 0 g) (λ k x. record { sound = x.sound; counted = x.counted; summed = x.summed }) ms two;
      full = λ m o l. All-map (ChildOk K 0 g) (λ k. m ≤ many K 0 (g k.block)) (λ k x. omega (arith, o, x.full)) ms two;
      parted = λ l. All-map (ChildOk K 0 g) (λ k. low K 0 ≤ many K 0 (g k.block)) (λ k x. x.full) ms two;
    }
      where
        n : ℕ
        n = length ys

        ms : List Child
        ms = entry_of_leaf K b (take (n / 2) ys) ∷ entry_of_leaf K d (drop (n / 2) ys) ∷ []

        q : (half K.leaf_cap ≤ n / 2) × (n / 2 ≤ K.leaf_cap) × (half K.leaf_cap ≤ n - n / 2) × (n - n / 2 ≤ K.leaf_cap)
        q = halves n K.leaf_cap (half K.leaf_cap) p.too_many p.not_more (omega arith)

        x : length (take (n / 2) ys) ≡ n / 2
        x = length-take (n / 2) ys ∙ omega arith

        y : length (drop (n / 2) ys) ≡ n - n / 2
        y = length-drop (n / 2) ys

        two : ChildrenOk K 0 g ms
        two = (
          one_leaf g b (take (n / 2) ys) p.there p.first (omega (arith, q.0, x)) (omega (arith, q.1, x)),
          (one_leaf g d (drop (n / 2) ys) p.there' p.second (omega (arith, q.2, y)) (omega (arith, q.3, y)), tt),
        )
