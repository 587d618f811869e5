-- The end of an insertion's climb: one page is the tree, or a new root stands above several.
use Rattle.std.proofs.Common.{ℕ, zero, suc, ◌≤◌, List, [], ◌∷◌, refl, ◌∙◌, subst, append-nil, arith}
use Rattle.page.specs.declared.child.Child.{Child}
use Rattle.page.specs.Layout.{Layout, Lawful}
use Rattle.store.specs.Steps.{Mem}
use Rattle.store.proofs.Stepping.{step_as, step_then}
use Rattle.tree.specs.Tree.{total, All, many, low, least, Root, ChildOk, ChildrenOk}
use Rattle.tree.specs.Paths.{Path, before, behind}
use Rattle.tree.specs.Roots.{Rooted}
use Rattle.tree.specs.Growing.{Loose, Growing}
use Rattle.tree.specs.Grown.{Grown, NewRoot}
use Rattle.tree.proofs.Each.{All-map₂}
use Rattle.tree.proofs.Grows.{loose_child}
use Rattle.tree.proofs.Roots.{root_above, arrived}

module _ {E : Type 0} (K : Layout E) where
  least_low : Lawful K → (h : ℕ) → least K h ≤ low K h
  unfolding least low
  least_low lw zero = omega (arith, lw.leaf_room)
  least_low lw (suc h) = omega (arith, lw.node_room)

  module _ (f : Mem) (s : ℕ → ℕ) (H r : ℕ) (xs : List E) (g : Mem) (t : ℕ → ℕ) where
    -- with no branch left the climb is at the top
    at_top : (h b : ℕ) (ms : List Child) → Growing K f s H r xs h b [] g t ms → Growing K f s H r xs H r [] g t ms
    unfolding Path
    at_top h b ms v = subst (λ (c : ℕ). Growing K f s H r xs H c [] g t ms) v.rising.path.1 (subst (λ (m : ℕ). Growing K f s H r xs m b [] g t ms) v.rising.path.0 v)

    pub grown_one : Lawful K → (h b : ℕ) (k : Child) → Root K H f r → Growing K f s H r xs h b [] g t (k ∷ []) → Grown K f s H r xs g t H k.block
    unfolding All total
    grown_one lw h b k w u = record {
      step = step_as _ _ _ _ f g (λ c. refl) (λ c. omega arith) v.rising.step;
      root = record { sound = v.loose.0.sound; full = (v.full (least K H) (least_low lw H) w.full).0 };
      holds = arrived K f s H r xs H r g t k v.rising;
    }
      where
        v : Growing K f s H r xs H r [] g t (k ∷ [])
        v = at_top h b (k ∷ []) u

    pub grown_two : (h b : ℕ) (ms : List Child) (d : ℕ) (g' : Mem) (t' : ℕ → ℕ) → Growing K f s H r xs h b [] g t ms → NewRoot K ms d g g' t t' → Grown K f s H r xs g' t' (suc H) d
    unfolding before behind
    grown_two h b ms d g' t' u p = record {
      step = step_then _ _ _ f g g' v.rising.step a.all;
      root = a.root p.several;
      holds = a.same_contents ∙ simp append-nil at v.rising.whole;
    }
      where
        v : Growing K f s H r xs H r [] g t ms
        v = at_top h b ms u

        children : ChildrenOk K H g ms
        children = All-map₂ (Loose K H g) (λ k. low K H ≤ many K H (g k.block)) (ChildOk K H g) (loose_child K H g) ms v.loose (v.parted p.several)

        a : Rooted K H g g' t t' ms d
        a = root_above K H g g' t t' ms d (record {
          fits = λ c. omega (arith, v.rising.fits c, v.rising.step.balanced c);
          writes = p.writes;
          reads = p.reads;
          words = p.there;
          few = p.few;
          children = children;
        })
