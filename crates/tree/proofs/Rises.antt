-- One level up, where what is below has changed and the pages were written.
use Rattle.std.proofs.Common.{◌≡◌, ℕ, suc, ◌+◌, ◌≤◌, List, ◌++◌, refl, ◌∙◌, arith}
use Rattle.page.specs.declared.child.Child.{Child}
use Rattle.page.specs.Layout.{Layout}
use Rattle.store.specs.Steps.{Mem, hit, held, Same}
use Rattle.store.proofs.Stepping.{step_then, step_beside, step_same, step_fits, step_as}
use Rattle.tree.specs.Tree.{total, uses, uses_of, under}
use Rattle.tree.specs.Levels.{Changed, Rise, Risen}
use Rattle.tree.proofs.Each.{total_append}
use Rattle.tree.proofs.Frames.{KeptAll, frame_all}
use Rattle.tree.proofs.Levels.{uses_under, change}

module _ {E : Type 0} (K : Layout E) where
  pub rise : (h : ℕ) (f g f' : Mem) (s t t' : ℕ → ℕ) (ps ps' xs os ns ys : List Child) → Rise K h f g f' s t t' ps ps' xs os ns ys → Risen K h f g f' s t t' ps ps' xs os ns ys
  rise h f g f' s t t' ps ps' xs os ns ys w = record {
    all = step_as _ _ _ _ f f' (λ c. sum_was c) (λ c. omega (arith, uses_under K h f' ps' c, sum_is c, n2.same_uses c, x2.same_uses c, y2.same_uses c))
        (step_then _ _ _ f g f' (step_beside _ _ beside f g w.below)
        (step_as _ _ _ _ g f' (λ c. omega (arith, x1.same_uses c, y1.same_uses c)) (λ c. refl) (step_beside _ _ beside' g f' w.here)));
    contents_was = c.contents_was;
    contents_is = c.contents_is ∙ rw n2.same_contents;
    blocks_differ = omega (arith, c.blocks_differ, n2.same_blocks);
    children = λ a b. c.children a (n2.still_children b);
  }
    where
      beside : ℕ → ℕ
      beside c = total (λ d. hit d c) ps + (uses_of K h f xs c + uses_of K h f ys c)

      beside' : ℕ → ℕ
      beside' c = uses_of K h g ns c + (uses_of K h g xs c + uses_of K h g ys c)

      sum_was : (c : ℕ) → uses_of K (suc h) f ps c + s c ≡ uses_of K h f os c + s c + beside c
      sum_was c = rw (uses_under K h f ps c, w.was, total_append (λ d. uses K h f d c) xs (os ++ ys), total_append (λ d. uses K h f d c) os ys) (omega arith)

      fit : (c : ℕ) → uses_of K h f os c + s c + beside c ≤ held f c
      fit c = omega (arith, w.fits c, sum_was c)

      one : Same beside f g
      one = step_same _ _ beside f g w.below fit

      x1 : KeptAll K h f g xs
      x1 = frame_all K h f g xs (λ c n. one c (λ z. n (omega arith)))

      y1 : KeptAll K h f g ys
      y1 = frame_all K h f g ys (λ c n. one c (λ z. n (omega arith)))

      fit' : (c : ℕ) → total (λ d. hit d c) ps + t c + beside' c ≤ held g c
      fit' c = omega (arith, step_fits _ _ beside f g w.below fit c, x1.same_uses c, y1.same_uses c)

      two : Same beside' g f'
      two = step_same _ _ beside' g f' w.here fit'

      n2 : KeptAll K h g f' ns
      n2 = frame_all K h g f' ns (λ c n. two c (λ z. n (omega arith)))

      x2 : KeptAll K h g f' xs
      x2 = frame_all K h g f' xs (λ c n. two c (λ z. n (omega arith)))

      y2 : KeptAll K h g f' ys
      y2 = frame_all K h g f' ys (λ c n. two c (λ z. n (omega arith)))

      sum_is : (c : ℕ) → uses_of K h f' (under K f' ps') c ≡ uses_of K h f' xs c + (uses_of K h f' ns c + uses_of K h f' ys c)
      sum_is c = rw w.is (simp total_append)

      c : Changed K h f f' ps ps' xs os ns ys
      c = change K h f f' ps ps' xs os ns ys (record {
        was = w.was;
        is = w.is;
        left = λ c n. two c (λ z. n (omega (arith, x1.same_uses c))) ∙ one c (λ z. n (omega arith));
        right = λ c n. two c (λ z. n (omega (arith, y1.same_uses c))) ∙ one c (λ z. n (omega arith));
      })
