-- How high a tree can be, and how many items it can have.
use Rattle.std.proofs.Common.{ℕ, zero, suc, ◌^◌, ◌<◌, ◌≤◌, length, mul-le-mul, lt_of_not-le, arith, lit<}
use native.Mathlib.Nat.{pow-le-pow_right}
use Rattle.page.specs.Layout.{Layout}
use Rattle.store.specs.Steps.{Mem, held, held_in, sum_to}
use Rattle.store.proofs.Sums.{sum_to_le}
use Rattle.store.proofs.Running.{held_le}
use Rattle.tree.specs.Tree.{contents, uses, blocks, Sound, Root}
use Rattle.tree.specs.Tall.{tall_uses, Tall}
use Rattle.tree.proofs.Bounds.{most}
use Rattle.tree.proofs.Counting.{blocks_used}
use Rattle.tree.proofs.Heights.{wide_root}

sum_to_ones : (n : ℕ) (g : ℕ → ℕ) → ((i : ℕ) → g i ≤ 1) → sum_to n g ≤ n
unfolding sum_to
sum_to_ones zero g e = omega arith
sum_to_ones (suc n) g e = omega (arith, sum_to_ones n g e, e n)

-- no more blocks are held than have a number
pub held_most : (f : Mem) → held_in f ≤ 1048576
held_most f = sum_to_ones 1048576 (held f) (held_le f)

module _ {E : Type 0} (K : Layout E) where
  -- no more blocks than there can be
  pub blocks_low : (h : ℕ) (f : Mem) (b : ℕ) → Sound K h f b → ((c : ℕ) → uses K h f b c ≤ held f c) → blocks K h f b ≤ 1048576
  blocks_low h f b s o = omega (arith, blocks_used K h f b s, sum_to_le 1048576 (uses K h f b) (held f) (λ c l. o c), held_most f)

  pub length_low : (h : ℕ) (f : Mem) (b : ℕ) → K.leaf_cap ≤ 62 → Sound K h f b → ((c : ℕ) → uses K h f b c ≤ held f c) → length (contents K h f b) < 2 ^ 64
  length_low h f b l s o = omega (arith, most K h f b s, mul-le-mul {n₁ = K.leaf_cap} {m₁ = blocks K h f b} {n₂ = 62} {m₂ = 1048576} l (blocks_low h f b s o))

  module _ (wide : 20 ≤ K.node_cap) where
    pub level_low : (h : ℕ) (f : Mem) (b : ℕ) → Root K h f b → ((c : ℕ) → uses K h f b c ≤ held f c) → h ≤ 6
    level_low zero f b w o = omega arith
    level_low (suc h) f b w o = lt_of_not-le (λ m. omega (arith, wide_root K 10 (omega arith) h f b w, pow-le-pow_right {n = 10} (lit< tt) {i = 6} {j = h} m, blocks_low (suc h) f b w.sound o))

    pub height_low : (h : ℕ) (f : Mem) (b : ℕ) → Tall K h f b → ((c : ℕ) → tall_uses K h f b c ≤ held f c) → h ≤ 7
    unfolding Tall tall_uses
    height_low zero f b w o = omega arith
    height_low (suc h) f b w o = omega (arith, level_low h f b w o)
