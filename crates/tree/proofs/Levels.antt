-- One level: pages with new pages below them.
use Rattle.std.proofs.Common.{◌≡◌, ℕ, suc, ◌+◌, List, [], ◌∷◌, ◌++◌, length, sym, refl, ap, ◌∙◌, arith}
use Rattle.page.specs.declared.child.Child.{Child}
use Rattle.page.specs.Layout.{Layout}
use Rattle.store.specs.Steps.{Mem, hit}
use Rattle.tree.specs.Tree.{total, flat, contents, uses, blocks, contents_of, uses_of, blocks_of, ChildrenOk, under}
use Rattle.tree.specs.Levels.{Change, Changed}
use Rattle.tree.proofs.Each.{flat_append, total_append, All-++, All-left, All-right}
use Rattle.tree.proofs.Frames.{frame_all}

module _ {E : Type 0} (K : Layout E) where
  -- pages in a row have what the children below them have
  pub contents_under : (h : ℕ) (f : Mem) (ps : List Child) → contents_of K (suc h) f ps ≡ contents_of K h f (under K f ps)
  unfolding flat contents
  contents_under h f [] = refl
  contents_under h f (p ∷ ps) = ap (λ z. flat (contents K h f) (K.children (f p.block)) ++ z) (contents_under h f ps) ∙ sym (flat_append (contents K h f) (K.children (f p.block)) (under K f ps))

  pub uses_under : (h : ℕ) (f : Mem) (ps : List Child) (c : ℕ) → uses_of K (suc h) f ps c ≡ total (λ d. hit d c) ps + uses_of K h f (under K f ps) c
  unfolding flat total uses
  uses_under h f [] c = refl
  uses_under h f (p ∷ ps) c = omega (arith, uses_under h f ps c, total_append (λ d. uses K h f d c) (K.children (f p.block)) (under K f ps))

  pub blocks_under : (h : ℕ) (f : Mem) (ps : List Child) → blocks_of K (suc h) f ps ≡ length ps + blocks_of K h f (under K f ps)
  unfolding flat total blocks
  blocks_under h f [] = refl
  blocks_under h f (p ∷ ps) = omega (arith, blocks_under h f ps, total_append (blocks K h f) (K.children (f p.block)) (under K f ps))

  pub change : (h : ℕ) (f f' : Mem) (ps ps' xs os ns ys : List Child) → Change K h f f' ps ps' xs os ns ys → Changed K h f f' ps ps' xs os ns ys
  change h f f' ps ps' xs os ns ys w =
      let l = frame_all K h f f' xs w.left in
      let r = frame_all K h f f' ys w.right in
      record {
        contents_was = contents_under h f ps ∙ rw w.was (simp flat_append);
        contents_is = contents_under h f' ps' ∙ rw w.is (simp (flat_append, l.same_contents, r.same_contents));
        uses_differ = λ c. omega (arith, uses_under h f ps c, uses_under h f' ps' c, sum_was c, sum_is c, l.same_uses c, r.same_uses c);
        blocks_differ = omega (arith, blocks_under h f ps, blocks_under h f' ps', blocks_was, blocks_is, l.same_blocks, r.same_blocks);
        children = λ a b.
            let a' : ChildrenOk K h f (xs ++ (os ++ ys)) = rw w.was at a in
            rw w.is (All-++ _ xs (ns ++ ys) (l.still_children (All-left _ xs _ a')) (All-++ _ ns ys b (r.still_children (All-right _ os ys (All-right _ xs _ a')))));
      }
    where
      sum_was : (c : ℕ) → uses_of K h f (under K f ps) c ≡ uses_of K h f xs c + (uses_of K h f os c + uses_of K h f ys c)
      sum_was c = rw w.was (simp total_append)

      sum_is : (c : ℕ) → uses_of K h f' (under K f' ps') c ≡ uses_of K h f' xs c + (uses_of K h f' ns c + uses_of K h f' ys c)
      sum_is c = rw w.is (simp total_append)

      blocks_was : blocks_of K h f (under K f ps) ≡ blocks_of K h f xs + (blocks_of K h f os + blocks_of K h f ys)
      blocks_was = rw w.was (simp total_append)

      blocks_is : blocks_of K h f' (under K f' ps') ≡ blocks_of K h f' xs + (blocks_of K h f' ns + blocks_of K h f' ys)
      blocks_is = rw w.is (simp total_append)
