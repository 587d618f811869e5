-- A leaf has other items, as many as it had, of which the same is kept: what becomes of the tree above it.
use Rattle.std.proofs.Common.{◌≡◌, ℕ, suc, ◌<◌, ◌≤◌, List, [], ◌∷◌, ◌++◌, length, sym, refl, ap, ◌∙◌, subst, append_assoc, append-nil, arith, length-append}
use Rattle.page.specs.declared.child.Child.{Child}
use Rattle.page.specs.Layout.{Layout}
use Rattle.store.specs.Memory.{Stored}
use Rattle.store.specs.Steps.{Mem, hit, held, Same, Step}
use Rattle.store.proofs.Sums.{hit_same}
use Rattle.store.proofs.Stepping.{step_same}
use Rattle.tree.specs.Tree.{total, flat, All, contents, uses, many, Sound, Root, contents_of, uses_of, ChildOk, ChildrenOk}
use Rattle.tree.specs.declared.path.Branch.{Branch}
use Rattle.tree.specs.Paths.{left, right, Path, before, behind, around}
use Rattle.tree.proofs.Each.{flat_append, total_append, All-++, All-left, All-right}
use Rattle.tree.proofs.Frames.{KeptAll, frame_all}
use Rattle.tree.proofs.Paths.{around_child, child, seen}

module _ {E : Type 0} (K : Layout E) (f g : Mem) where
  -- the page b of level h has the items zs under it now
  pub record Swapped (h b : ℕ) (zs : List E) : Type 0 where
    pub sound : Sound K h g b
    pub contents_is : contents K h g b ≡ zs
    pub same_uses : (c : ℕ) → uses K h g b c ≡ uses K h f b c
    pub same_many : many K h (g b) ≡ many K h (f b)
    pub as_many : length zs ≡ length (contents K h f b)
    pub kept : (xs ys : List E) → K.summary (xs ++ (zs ++ ys)) ≡ K.summary (xs ++ (contents K h f b ++ ys))

  -- one level up
  module _ (h : ℕ) (w : Branch) (zs : List E) (l : w.place < length (K.children (f w.block))) (s : Sound K (suc h) f w.block)
      (page : g w.block ≡ f w.block) (ls : Same (uses_of K h f (left K f w)) f g) (rs : Same (uses_of K h f (right K f w)) f g) (z : Swapped h (child K f w).block zs) where
    abbrev k : Child
    k = child K f w

    children_is : K.children (g w.block) ≡ left K f w ++ (k ∷ right K f w)
    children_is = ap K.children page ∙ around_child K f w l

    kl : KeptAll K h f g (left K f w)
    kl = frame_all K h f g (left K f w) ls

    kr : KeptAll K h f g (right K f w)
    kr = frame_all K h f g (right K f w) rs

    was : ChildrenOk K h f (left K f w ++ (k ∷ right K f w))
    unfolding Sound
    was = subst (ChildrenOk K h f) (around_child K f w l) s.2

    behind_was : ChildrenOk K h f (k ∷ right K f w)
    behind_was = All-right (ChildOk K h f) (left K f w) (k ∷ right K f w) was

    taken : ChildOk K h g k
    unfolding All
    taken =
        let o : ChildOk K h f k = behind_was.0 in
        let e : K.summary (zs ++ []) ≡ K.summary (contents K h f k.block ++ []) = z.kept [] [] in
        record {
          sound = z.sound;
          full = omega (arith, o.full, z.same_many);
          counted = omega (arith, o.counted, z.as_many, ap length z.contents_is);
          summed = o.summed ∙ sym (ap K.summary z.contents_is ∙ rw (append-nil zs, append-nil (contents K h f k.block)) at e);
        }

    children_ok : ChildrenOk K h g (left K f w ++ (k ∷ right K f w))
    unfolding All
    children_ok = All-++ (ChildOk K h g) (left K f w) (k ∷ right K f w) (kl.still_children (All-left (ChildOk K h f) (left K f w) (k ∷ right K f w) was)) (taken, kr.still_children behind_was.1)

    contents_was : contents K (suc h) f w.block ≡ contents_of K h f (left K f w) ++ (contents K h f k.block ++ contents_of K h f (right K f w))
    unfolding contents flat
    contents_was = ap (flat (contents K h f)) (around_child K f w l) ∙ flat_append (contents K h f) (left K f w) (k ∷ right K f w)

    contents_now : contents K (suc h) g w.block ≡ contents_of K h f (left K f w) ++ (zs ++ contents_of K h f (right K f w))
    unfolding contents flat
    contents_now = ap (flat (contents K h g)) children_is ∙ flat_append (contents K h g) (left K f w) (k ∷ right K f w) ∙ rw (kl.same_contents, z.contents_is, kr.same_contents)

    uses_now : (c : ℕ) → uses K (suc h) g w.block c ≡ uses K (suc h) f w.block c
    unfolding uses total
    uses_now c =
        omega (
          arith,
          ap (total (λ d. uses K h g d c)) children_is,
          ap (total (λ d. uses K h f d c)) (around_child K f w l),
          total_append (λ d. uses K h g d c) (left K f w) (k ∷ right K f w),
          total_append (λ d. uses K h f d c) (left K f w) (k ∷ right K f w),
          kl.same_uses c,
          kr.same_uses c,
          z.same_uses c,
        )

    pub swap_node : Swapped (suc h) w.block (contents_of K h f (left K f w) ++ (zs ++ contents_of K h f (right K f w)))
    unfolding Sound many
    swap_node = record {
      sound = ((s.0.0, ap length page ∙ s.0.1), omega (arith, s.1, ap (λ (ws : List ℕ). length (K.children ws)) page), subst (ChildrenOk K h g) (sym children_is) children_ok);
      contents_is = contents_now;
      same_uses = uses_now;
      same_many = ap (λ (ws : List ℕ). length (K.children ws)) page;
      as_many = rw contents_was (simp length-append (omega (arith, z.as_many)));
      kept = λ xs ys. rw contents_was (simp append_assoc (simp append_assoc at (z.kept (xs ++ contents_of K h f (left K f w)) (contents_of K h f (right K f w) ++ ys))));
    }

  -- up to the top
  swap_path : (h b : ℕ) (ws : List Branch) (H r : ℕ) (zs : List E) → Path K f h b ws H r → Sound K H f r → Same (around K f h ws) f g → Swapped h b zs → Swapped H r (before K f h ws ++ (zs ++ behind K f h ws))
  unfolding Path before behind around
  swap_path h b [] H r zs e s o z =
      subst (λ (xs : List E). Swapped H r xs) (sym (append-nil zs)) (subst (λ (x : ℕ). Swapped x r zs) e.0 (subst (λ (x : ℕ). Swapped h x zs) e.1 z))
  swap_path h b (w ∷ ws) H r zs e s o z =
      let up = seen K f (suc h) w.block ws H r e.2 in
      let n = swap_node h w zs e.0 (up.sound_seen s) (o w.block (λ q. omega (arith, hit_same w.block))) (λ c q. o c (λ p. q (omega arith))) (λ c q. o c (λ p. q (omega arith))) (subst (λ (x : ℕ). Swapped h x zs) e.1 z) in
      subst (λ (xs : List E). Swapped H r xs) (simp append_assoc)
      (swap_path (suc h) w.block ws H r (contents_of K h f (left K f w) ++ (zs ++ contents_of K h f (right K f w))) e.2 s (λ c q. o c (λ p. q (omega arith))) n)

  -- from the leaf b, which has the items ys now
  module _ (H r b : ℕ) (ws : List Branch) (ys : List E) (path : Path K f 0 b ws H r) (root : Root K H f r) (fits : (c : ℕ) → uses K H f r c ≤ held f c) (writes : Step (hit b) (hit b) f g) (there : Stored g b)
      (reads : K.items (g b) ≡ ys) (as_many : length ys ≡ length (K.items (f b))) (alike : (xs zs : List E) → K.summary (xs ++ (ys ++ zs)) ≡ K.summary (xs ++ (K.items (f b) ++ zs))) where
    leaf : Swapped 0 b ys
    unfolding Sound contents uses many
    leaf =
        record {
          sound = (there, omega (arith, ap length reads, as_many, ((seen K f 0 b ws H r path).sound_seen root.sound).1));
          contents_is = reads;
          same_uses = λ c. refl;
          same_many = ap length reads ∙ as_many;
          as_many = as_many;
          kept = alike;
        }

    pub swapped : Swapped H r (before K f 0 ws ++ (ys ++ behind K f 0 ws))
    unfolding uses
    swapped = swap_path 0 b ws H r ys path root.sound (step_same (hit b) (hit b) (around K f 0 ws) f g writes (λ c. omega (arith, fits c, (seen K f 0 b ws H r path).uses_seen c))) leaf

    pub swapped_root : Root K H g r
    swapped_root = record { sound = swapped.sound; full = rw swapped.same_many root.full }
