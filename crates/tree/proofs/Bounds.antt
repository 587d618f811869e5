-- How many blocks a tree has for what it holds.
use Rattle.std.proofs.Common.{ℕ, zero, suc, ◌+◌, ◌*◌, ◌≤◌, List, [], ◌∷◌, length, mul-le-mul_right, arith, length-append}
use Rattle.page.specs.declared.child.Child.{Child}
use Rattle.page.specs.Layout.{Layout, half}
use Rattle.store.specs.Steps.{Mem}
use Rattle.tree.specs.Tree.{total, flat, All, contents, blocks, many, low, Sound, least, Root}
use Rattle.tree.specs.Laws.{Bound}
use Rattle.tree.proofs.Each.{All-map}

-- over children: each has q times a number, and s more
pub sums : {E : Type 0} (q s : ℕ) (g : ℕ → ℕ) (l : ℕ → List E) (ks : List Child) → All (λ k. q * g k.block + s ≤ length (l k.block)) ks → q * total g ks + length ks * s ≤ length (flat l ks)
unfolding All total flat
sums q s g l [] a = omega arith
sums q s g l (k ∷ ks) a = omega (arith, a.0, sums q s g l ks a.1, length-append (l k.block) (flat l ks))

most_total : {E : Type 0} (m : ℕ) (g : ℕ → ℕ) (l : ℕ → List E) (ks : List Child) → All (λ k. length (l k.block) ≤ m * g k.block) ks → length (flat l ks) ≤ m * total g ks
unfolding All total flat
most_total m g l [] a = omega arith
most_total m g l (k ∷ ks) a = omega (arith, a.0, most_total m g l ks a.1, length-append (l k.block) (flat l ks))

module _ {E : Type 0} (K : Layout E) where
  module _ (q s : ℕ) (at_leaf : q + s ≤ half K.leaf_cap) (at-node : q + s ≤ half K.node_cap * s) where
    -- below the top
    pub rated : (h : ℕ) (f : Mem) (b : ℕ) → Sound K h f b → low K h ≤ many K h (f b) → q * blocks K h f b + s ≤ length (contents K h f b)
    unfolding Sound low many blocks contents
    rated zero f b w n = omega arith
    rated (suc h) f b w n = omega (
      arith,
      at-node,
      mul-le-mul_right s n,
      sums q s (blocks K h f) (contents K h f) (K.children (f b)) (All-map _ _ (λ k x. rated h f k.block x.sound x.full) _ w.2),
    )

    -- at the top
    pub rated_root : (h : ℕ) (f : Mem) (b : ℕ) → Root K h f b → q * blocks K h f b ≤ length (contents K h f b) + q
    unfolding Sound least many blocks contents
    rated_root zero f b w = omega arith
    rated_root (suc h) f b w = omega (
      arith,
      sums q s (blocks K h f) (contents K h f) (K.children (f b)) (All-map _ _ (λ k x. rated h f k.block x.sound x.full) _ w.sound.2),
    )

  -- and no more than fits into its blocks
  pub most : (h : ℕ) (f : Mem) (b : ℕ) → Sound K h f b → length (contents K h f b) ≤ K.leaf_cap * blocks K h f b
  unfolding Sound blocks contents
  most zero f b w = omega arith
  most (suc h) f b w = omega (arith, most_total K.leaf_cap (blocks K h f) (contents K h f) (K.children (f b)) (All-map _ _ (λ k x. most h f k.block x.sound) _ w.2))

pub bound_62_31 : {E : Type 0} → Bound E 62 31 24
bound_62_31 K l n h f b w = omega (arith, rated_root K 24 7 (omega arith) (omega arith) h f b w)

pub bound_31_20 : {E : Type 0} → Bound E 31 20 12
bound_31_20 K l n h f b w = omega (arith, rated_root K 12 4 (omega arith) (omega arith) h f b w)
