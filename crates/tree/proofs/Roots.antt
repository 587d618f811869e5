-- A child as a tree of its own, a node above children, and the end of a climb.
use Rattle.std.proofs.Common.{◌≡◌, ℕ, zero, suc, List, [], ◌∷◌, append-nil, arith}
use Rattle.page.specs.declared.child.Child.{Child}
use Rattle.page.specs.Layout.{Layout, Lawful}
use Rattle.store.specs.Steps.{Mem}
use Rattle.store.proofs.Stepping.{step_beside, step_same, step_as}
use Rattle.tree.specs.Tree.{flat, contents, uses, blocks, many, low, Sound, uses_of, ChildOk, least, Root}
use Rattle.tree.specs.Paths.{Path, before, behind}
use Rattle.tree.specs.Rising.{Rising}
use Rattle.tree.specs.Roots.{NodeAbove, Rooted}
use Rattle.tree.proofs.Frames.{KeptAll, frame_all}

module _ {E : Type 0} (K : Layout E) where
  -- a child by itself is a tree
  pub child_root : Lawful K → (h : ℕ) (f : Mem) (k : Child) → ChildOk K h f k → Root K h f k.block
  unfolding low least
  child_root lw zero f k w = record { sound = w.sound; full = omega (arith, lw.leaf_room, lw.node_room, w.full) }
  child_root lw (suc h) f k w = record { sound = w.sound; full = omega (arith, lw.leaf_room, lw.node_room, w.full) }

  -- a node above children
  pub root_above : (h : ℕ) (f g : Mem) (t t' : ℕ → ℕ) (ms : List Child) (d : ℕ) → NodeAbove K h f g t t' ms d → Rooted K h f g t t' ms d
  unfolding contents uses blocks Sound least many
  root_above h f g t t' ms d w = record {
    all = step_as _ _ _ _ f g (λ c. omega arith) (λ c. rw w.reads (omega (arith, k.same_uses c))) (step_beside _ _ (uses_of K h f ms) f g w.writes);
    same_contents = rw w.reads k.same_contents;
    more_blocks = rw w.reads (omega (arith, k.same_blocks));
    sound = sound;
    root = λ n. record { sound = sound; full = rw w.reads n };
  }
    where
      k : KeptAll K h f g ms
      k = frame_all K h f g ms (step_same _ _ (uses_of K h f ms) f g w.writes (λ c. omega (arith, w.fits c)))

      sound : Sound K (suc h) g d
      sound = (w.words, rw w.reads w.few, rw w.reads (k.still_children w.children))

  -- the end of the climb: one page
  pub arrived : (f : Mem) (s : ℕ → ℕ) (H r : ℕ) (xs : List E) (h b : ℕ) (g : Mem) (t : ℕ → ℕ) (k : Child) → Rising K f s H r xs h b [] g t (k ∷ []) → contents K H g k.block ≡ xs
  unfolding Path before behind flat
  arrived f s H r xs h b g t k w = rw (← w.path.0) (simp append-nil at w.whole)
