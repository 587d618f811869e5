-- A turn of a climb, in which neighbours may be put right.
use Rattle.std.proofs.Common.{◌≡◌, ℕ, suc, ◌+◌, List, [], ◌∷◌, ◌++◌, length, sym, refl, ◌∙◌, append_assoc, append-nil, arith}
use Rattle.page.specs.declared.child.Child.{Child}
use Rattle.page.specs.Layout.{Layout}
use Rattle.store.specs.Steps.{Mem, Same}
use Rattle.store.proofs.Sums.{hit_same}
use Rattle.store.proofs.Stepping.{step_then, step_beside, step_same, step_as, step_none}
use Rattle.tree.specs.Tree.{total, flat, contents, uses, blocks, Sound, contents_of, uses_of, under}
use Rattle.tree.specs.Levels.{Risen}
use Rattle.tree.specs.declared.path.Branch.{Branch}
use Rattle.tree.specs.Paths.{left, right, Path, before, behind, around, Seen}
use Rattle.tree.specs.Rising.{Rising, Mend, Mended, Repage, Repaged}
use Rattle.tree.proofs.Each.{flat_append, total_append}
use Rattle.tree.proofs.Frames.{KeptAll, frame_all}
use Rattle.tree.proofs.Rises.{rise}
use Rattle.tree.proofs.Paths.{around_child, child, seen}

ones : (ks : List Child) → total (λ d. 1) ks ≡ length ks
unfolding total
ones [] = refl
ones (k ∷ ks) = omega (arith, ones ks)

module _ {E : Type 0} (K : Layout E) where
  pub repage_leaves : (f g : Mem) (t t' : ℕ → ℕ) (ps qs : List Child) → Repage K 0 f g t t' ps qs → flat (λ b. K.items (g b)) qs ≡ flat (λ b. K.items (f b)) ps → Repaged K 0 f g t t' ps qs
  unfolding uses contents blocks
  repage_leaves f g t t' ps qs w e = record {
    all = w.writes;
    same_contents = e;
    blocks_differ = omega (arith, ones ps, ones qs);
  }

  pub repage_nodes : (h : ℕ) (f g : Mem) (t t' : ℕ → ℕ) (ps qs : List Child) → Repage K (suc h) f g t t' ps qs → under K g qs ≡ under K f ps → Repaged K (suc h) f g t t' ps qs
  unfolding flat total
  repage_nodes h f g t t' ps qs w e = record {
    all = z.all;
    same_contents = z.contents_is ∙ sym z.contents_was;
    blocks_differ = omega (arith, z.blocks_differ);
  }
    where
      z : Risen K h f f g t t t' ps qs (under K f ps) [] [] []
      z = rise K h f f g t t t' ps qs (under K f ps) [] [] [] (record
          { fits = w.fits; was = sym (append-nil (under K f ps)); is = e ∙ sym (append-nil (under K f ps)); below = step_none _ f; here = w.writes })

  pub mend : (f : Mem) (s : ℕ → ℕ) (H r : ℕ) (xs : List E) (h b : ℕ) (w : Branch) (ws : List Branch) (g g₁ g' : Mem) (t t₁ t' : ℕ → ℕ) (zs ls ms rs bs ns ps : List Child) → Sound K H f r
      → Rising K f s H r xs h b (w ∷ ws) g t ms → Mend K h w f g g₁ g' t t₁ t' zs ls ms rs bs ns ps → Mended K f s H r xs h w ws g₁ g' t' ns ps
  unfolding Path before behind total flat Sound around
  mend f s H r xs h b w ws g g₁ g' t t₁ t' zs ls ms rs bs ns ps a c u = record {
    rising = record {
      path = c.path.2;
      fits = c.fits;
      step = step_as _ _ _ _ f g' (λ d. omega arith) (λ d. refl) z.all;
      whole = rw (z.contents_is, u.same, flat_append (contents K h g) ls (ms ++ rs), flat_append (contents K h g) ms rs, lr.same_contents, rr.same_contents) (simp append_assoc (simp append_assoc at (rw (flat_left, flat_right) at c.whole)));
    };
    children = λ q. z.children (rw (append-nil (K.children (f w.block))) (up.sound_seen a).2) q;
  }
    where
      p : List Child
      p = record { count = 0; block = w.block; summary = 0 } ∷ []

      os : List Child
      os = ls ++ (child K f w ∷ rs)

      up : Seen K f (suc h) w.block ws H r
      up = seen K f (suc h) w.block ws H r c.path.2

      here : Seen K f h b (w ∷ ws) H r
      here = seen K f h b (w ∷ ws) H r c.path

      flat_left : contents_of K h f (left K f w) ≡ contents_of K h f zs ++ contents_of K h f ls
      flat_left = rw u.lefts (flat_append (contents K h f) zs ls)

      flat_right : contents_of K h f (right K f w) ≡ contents_of K h f rs ++ contents_of K h f bs
      flat_right = rw u.rights (flat_append (contents K h f) rs bs)

      sum_left : (d : ℕ) → uses_of K h f (left K f w) d ≡ uses_of K h f zs d + uses_of K h f ls d
      sum_left d = rw u.lefts (total_append (λ e. uses K h f e d) zs ls)

      sum_right : (d : ℕ) → uses_of K h f (right K f w) d ≡ uses_of K h f rs d + uses_of K h f bs d
      sum_right d = rw u.rights (total_append (λ e. uses K h f e d) rs bs)

      same : Same (around K f h (w ∷ ws)) f g
      same = step_same _ _ (around K f h (w ∷ ws)) f g c.step (λ d. omega (arith, c.fits d, here.uses_seen d))

      lr : KeptAll K h f g ls
      lr = frame_all K h f g ls (λ d n. same d (λ z. n (omega (arith, sum_left d))))

      rr : KeptAll K h f g rs
      rr = frame_all K h f g rs (λ d n. same d (λ z. n (omega (arith, sum_right d))))

      beside : ℕ → ℕ
      beside d = uses_of K h f ls d + uses_of K h f rs d

      first : (d : ℕ) → uses_of K h f os d + s d ≡ uses K h f b d + s d + beside d
      first d = rw (c.path.1, total_append (λ e. uses K h f e d) ls (child K f w ∷ rs)) (omega arith)

      middle : (d : ℕ) → uses_of K h g ms d + t d + beside d ≡ uses_of K h g (ls ++ (ms ++ rs)) d + t d
      middle d = rw (total_append (λ e. uses K h g e d) ls (ms ++ rs), total_append (λ e. uses K h g e d) ms rs) (omega (arith, lr.same_uses d, rr.same_uses d))

      z : Risen K h f g₁ g' s t₁ t' p ps zs os ns bs
      z = rise K h f g₁ g' s t₁ t' p ps zs os ns bs (record {
        fits = λ d. omega (arith, c.fits d, up.uses_seen d);
        was = append-nil (K.children (f w.block)) ∙ around_child K f w c.path.0 ∙ rw (u.lefts, u.rights) (simp append_assoc);
        is = u.reads;
        below = step_as _ _ _ _ f g₁ first (λ d. refl) (step_then _ _ _ f g g₁ (step_beside _ _ beside f g c.step) (step_as _ _ _ _ g g₁ middle (λ d. refl) u.mends));
        here = step_as _ _ _ _ g₁ g' (λ d. omega arith) (λ d. refl) u.writes;
      })

  -- on the path up all but the path's end is as it was
  pub rising_same : (f : Mem) (s : ℕ → ℕ) (H r : ℕ) (xs : List E) (h b : ℕ) (ws : List Branch) (g : Mem) (t : ℕ → ℕ) (ms : List Child) → Rising K f s H r xs h b ws g t ms → Same (around K f h ws) f g
  rising_same f s H r xs h b ws g t ms c = step_same _ _ (around K f h ws) f g c.step (λ d. omega (arith, c.fits d, (seen K f h b ws H r c.path).uses_seen d))

  pub rising_page : (f : Mem) (s : ℕ → ℕ) (H r : ℕ) (xs : List E) (h b : ℕ) (w : Branch) (ws : List Branch) (g : Mem) (t : ℕ → ℕ) (ms : List Child) → Rising K f s H r xs h b (w ∷ ws) g t ms → g w.block ≡ f w.block
  unfolding around
  rising_page f s H r xs h b w ws g t ms c = rising_same f s H r xs h b (w ∷ ws) g t ms c w.block (λ z. omega (arith, hit_same w.block))
