-- How many blocks a tree has is how often blocks are used.
use Rattle.std.proofs.Common.{◌≡◌, ℕ, zero, suc, ◌+◌, List, [], ◌∷◌, ap, ◌∙◌, ap₂}
use Rattle.page.specs.declared.child.Child.{Child}
use Rattle.page.specs.Layout.{Layout}
use Rattle.store.specs.Steps.{Mem, hit, sum_to}
use Rattle.store.proofs.Sums.{sum_to_add, sum_to_none, sum_to_hit}
use Rattle.tree.specs.Tree.{total, uses, blocks, Sound}
use Rattle.tree.proofs.Each.{All-map, total_same}

-- sums change places
sum_to_total : (n : ℕ) (u : ℕ → ℕ → ℕ) (ks : List Child) → sum_to n (λ c. total (λ d. u d c) ks) ≡ total (λ d. sum_to n (u d)) ks
unfolding total
sum_to_total n u [] = sum_to_none n
sum_to_total n u (k ∷ ks) = sum_to_add n (u k.block) (λ c. total (λ d. u d c) ks) ∙ ap (λ x. sum_to n (u k.block) + x) (sum_to_total n u ks)

module _ {E : Type 0} (K : Layout E) where
  pub blocks_used : (h : ℕ) (f : Mem) (b : ℕ) → Sound K h f b → sum_to 1048576 (uses K h f b) ≡ blocks K h f b
  unfolding Sound uses blocks
  blocks_used zero f b w = sum_to_hit 1048576 b w.0.0
  blocks_used (suc h) f b w =
      sum_to_add 1048576 (hit b) (λ c. total (λ d. uses K h f d c) (K.children (f b)))
      ∙ ap₂ (λ x y. x + y) (sum_to_hit 1048576 b w.0.0)
      (sum_to_total 1048576 (uses K h f) (K.children (f b)) ∙ total_same (blocks K h f) (λ d. sum_to 1048576 (uses K h f d)) (K.children (f b)) (All-map _ _ (λ k x. blocks_used h f k.block x.sound) _ w.2))
