-- What a tree is depends on the blocks that it uses.
use Rattle.std.proofs.Common.{◌≡◌, ℕ, zero, suc, ◌+◌, List, [], ◌∷◌, refl, ap, arith}
use Rattle.page.specs.declared.child.Child.{Child}
use Rattle.page.specs.Layout.{Layout}
use Rattle.store.specs.Steps.{Mem, hit, Same}
use Rattle.store.proofs.Sums.{hit_same}
use Rattle.tree.specs.Tree.{total, All, contents, uses, blocks, Sound, contents_of, uses_of, blocks_of, ChildOk, ChildrenOk, Kept}
use Rattle.tree.proofs.Each.{All-map, All-map₂, flat_same, total_same}

-- what holds of each tree whose blocks are the same holds of each of several
pub each : (u : ℕ → ℕ → ℕ) (X : ℕ → Type 0) (f f' : Mem) → ((b : ℕ) → Same (u b) f f' → X b) → (ks : List Child) → Same (λ c. total (λ d. u d c) ks) f f' → All (λ k. X k.block) ks
unfolding All total
each u X f f' g [] s = tt
each u X f f' g (k ∷ ks) s = (
  g k.block (λ c n. s c (λ z. n (omega arith))),
  each u X f f' g ks (λ c n. s c (λ z. n (omega arith))),
)

module _ {E : Type 0} (K : Layout E) where
  still_child : (h : ℕ) (f f' : Mem) (k : Child) → Kept K h f f' k.block → ChildOk K h f k → ChildOk K h f' k
  still_child h f f' k x y = record { sound = x.still_sound y.sound; full = rw x.page y.full; counted = rw x.same_contents y.counted; summed = rw x.same_contents y.summed }

  pub frame : (h : ℕ) (f f' : Mem) (b : ℕ) → Same (uses K h f b) f f' → Kept K h f f' b
  unfolding uses contents blocks Sound
  frame zero f f' b s =
      let e : f' b ≡ f b = s b (λ z. omega (arith, hit_same b)) in
      record { page = e; same_contents = ap K.items e; same_uses = λ c. refl; same_blocks = refl; still_sound = λ a. rw e a }
  frame (suc h) f f' b s =
      let e : f' b ≡ f b = s b (λ z. omega (arith, hit_same b)) in
      let a : All (λ k. Kept K h f f' k.block) (K.children (f b)) = each (uses K h f) (Kept K h f f') f f' (frame h f f') (K.children (f b)) (λ c n. s c (λ z. n (omega arith))) in
      record {
        page = e;
        same_contents = rw e (flat_same (contents K h f) (contents K h f') (K.children (f b)) (All-map _ _ (λ k x. x.same_contents) _ a));
        same_uses = λ c. rw e (ap (λ n. hit b c + n) (total_same (λ d. uses K h f d c) (λ d. uses K h f' d c) (K.children (f b)) (All-map _ _ (λ k x. x.same_uses c) _ a)));
        same_blocks = rw e (ap (λ n. 1 + n) (total_same (blocks K h f) (blocks K h f') (K.children (f b)) (All-map _ _ (λ k x. x.same_blocks) _ a)));
        still_sound = λ w. rw e (w.0, w.1, All-map₂ _ _ _ (still_child h f f') _ a w.2);
      }

  -- children in a row whose blocks are the same
  pub record KeptAll (h : ℕ) (f f' : Mem) (ks : List Child) : Type 0 where
    pub same_contents : contents_of K h f' ks ≡ contents_of K h f ks
    pub same_uses : (c : ℕ) → uses_of K h f' ks c ≡ uses_of K h f ks c
    pub same_blocks : blocks_of K h f' ks ≡ blocks_of K h f ks
    pub still_children : ChildrenOk K h f ks → ChildrenOk K h f' ks

  pub frame_all : (h : ℕ) (f f' : Mem) (ks : List Child) → Same (uses_of K h f ks) f f' → KeptAll h f f' ks
  frame_all h f f' ks s =
      let a : All (λ k. Kept K h f f' k.block) ks = each (uses K h f) (Kept K h f f') f f' (frame h f f') ks s in
      record {
        same_contents = flat_same (contents K h f) (contents K h f') ks (All-map _ _ (λ k x. x.same_contents) _ a);
        same_uses = λ c. total_same (λ d. uses K h f d c) (λ d. uses K h f' d c) ks (All-map _ _ (λ k x. x.same_uses c) _ a);
        same_blocks = total_same (blocks K h f) (blocks K h f') ks (All-map _ _ (λ k x. x.same_blocks) _ a);
        still_children = λ w. All-map₂ _ _ _ (still_child h f f') ks a w;
      }
