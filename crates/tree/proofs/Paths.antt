-- What a tree is, seen from a block in it.
use Rattle.std.proofs.Common.{◌≡◌, ℕ, suc, ◌+◌, ◌<◌, List, [], ◌∷◌, ◌++◌, length, get_or, sym, ap, ◌∙◌, subst, append_assoc, append-nil, arith}
use lib.Seq.{split_at}
use Rattle.page.specs.declared.child.Child.{Child}
use Rattle.page.specs.Layout.{Layout}
use Rattle.store.specs.Steps.{Mem, hit}
use Rattle.tree.specs.Tree.{total, flat, All, contents, uses, Sound, contents_of, uses_of, ChildOk}
use Rattle.tree.specs.declared.path.Branch.{Branch}
use Rattle.tree.specs.Paths.{none, left, right, Path, before, behind, around, Seen}
use Rattle.tree.proofs.Each.{flat_append, total_append, All-right}

module _ {E : Type 0} (K : Layout E) where
  -- a node's children round the one that is taken
  pub around_child : (f : Mem) (w : Branch) → w.place < length (K.children (f w.block)) → K.children (f w.block) ≡ left K f w ++ (get_or (K.children (f w.block)) w.place none ∷ right K f w)
  around_child f w l = split_at (K.children (f w.block)) w.place none l

  abbrev pub child : Mem → Branch → Child
  child f w = get_or (K.children (f w.block)) w.place none

  node_contents : (h : ℕ) (f : Mem) (w : Branch) → w.place < length (K.children (f w.block)) → contents K (suc h) f w.block ≡ contents_of K h f (left K f w) ++ (contents K h f (child f w).block ++ contents_of K h f (right K f w))
  unfolding contents flat
  node_contents h f w l = ap (flat (contents K h f)) (around_child f w l) ∙ flat_append (contents K h f) (left K f w) (child f w ∷ right K f w)

  pub node_uses : (h : ℕ) (f : Mem) (w : Branch) (c : ℕ) → w.place < length (K.children (f w.block)) → uses K (suc h) f w.block c ≡ uses K h f (child f w).block c + (hit w.block c + (uses_of K h f (left K f w) c + uses_of K h f (right K f w) c))
  unfolding uses total
  node_uses h f w c l = omega (arith, ap (total (λ d. uses K h f d c)) (around_child f w l), total_append (λ d. uses K h f d c) (left K f w) (child f w ∷ right K f w))

  pub node_child : (h : ℕ) (f : Mem) (w : Branch) → w.place < length (K.children (f w.block)) → Sound K (suc h) f w.block → ChildOk K h f (child f w)
  unfolding Sound All
  node_child h f w l a = (All-right (ChildOk K h f) (left K f w) (child f w ∷ right K f w) (subst (All (ChildOk K h f)) (around_child f w l) a.2)).0

  pub seen : (f : Mem) (h b : ℕ) (ws : List Branch) (H r : ℕ) → Path K f h b ws H r → Seen K f h b ws H r
  unfolding Path before behind around
  seen f h b [] H r e = record {
    contents_seen = rw (e.0, e.1) (sym (append-nil (contents K H f r)));
    uses_seen = λ c. rw (e.0, e.1) (omega arith);
    sound_seen = λ a. rw (e.0, e.1) a;
  }
  seen f h b (w ∷ ws) H r e =
      let z = seen f (suc h) w.block ws H r e.2 in
      record {
        contents_seen = z.contents_seen ∙ rw (node_contents h f w e.0, e.1) (simp append_assoc);
        uses_seen = λ c. rw e.1 (omega (arith, z.uses_seen c, node_uses h f w c e.0));
        sound_seen = λ a. rw e.1 (node_child h f w e.0 (z.sound_seen a)).sound;
      }
