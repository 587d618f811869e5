-- How high a tree is for the blocks that it has.
use Rattle.std.proofs.Common.{ℕ, zero, suc, ◌*◌, ◌^◌, ◌≤◌, List, [], ◌∷◌, length, mul-le-mul_right, pow-suc, lt_of_not-le, arith, lit<}
use native.Mathlib.Nat.{pow-zero, pow-le-pow_right}
use Rattle.page.specs.declared.child.Child.{Child}
use Rattle.page.specs.Layout.{Layout, half}
use Rattle.store.specs.Steps.{Mem}
use Rattle.tree.specs.Tree.{total, All, blocks, many, low, Sound, least, Root}
use Rattle.tree.specs.Laws.{Height}
use Rattle.tree.proofs.Each.{All-map}

pub least_total : (m : ℕ) (g : ℕ → ℕ) (ks : List Child) → All (λ k. m ≤ g k.block) ks → length ks * m ≤ total g ks
unfolding All total
least_total m g [] a = omega arith
least_total m g (k ∷ ks) a = omega (arith, a.0, least_total m g ks a.1)

module _ {E : Type 0} (K : Layout E) (n : ℕ) (wide_enough : n ≤ half K.node_cap) where
  -- a tree of level h has at least so many blocks
  pub wide : (h : ℕ) (f : Mem) (b : ℕ) → Sound K h f b → low K h ≤ many K h (f b) → n ^ h ≤ blocks K h f b
  unfolding Sound low many blocks
  wide zero f b w l = omega (arith, pow-zero n)
  wide (suc h) f b w l =
      let m : n ≤ length (K.children (f b)) = omega arith in
      omega (
        arith,
        pow-suc n h,
        mul-le-mul_right (n ^ h) m,
        least_total (n ^ h) (blocks K h f) (K.children (f b)) (All-map _ _ (λ k x. wide h f k.block x.sound x.full) _ w.2),
      )

  pub wide_root : (h : ℕ) (f : Mem) (b : ℕ) → Root K (suc h) f b → 2 * n ^ h ≤ blocks K (suc h) f b
  unfolding Sound least many blocks
  wide_root h f b w = omega (
    arith,
    mul-le-mul_right (n ^ h) w.full,
    least_total (n ^ h) (blocks K h f) (K.children (f b)) (All-map _ _ (λ k x. wide h f k.block x.sound x.full) _ w.sound.2),
  )

pub height_31 : {E : Type 0} → Height E 31 5
height_31 K e zero f b w l = omega arith
height_31 K e (suc h) f b w l = lt_of_not-le (λ m. omega (arith, wide_root K 16 (omega arith) h f b w, pow-le-pow_right {n = 16} (lit< tt) {i = 5} {j = h} m))

pub height_20 : {E : Type 0} → Height E 20 6
height_20 K e zero f b w l = omega arith
height_20 K e (suc h) f b w l = lt_of_not-le (λ m. omega (arith, wide_root K 10 (omega arith) h f b w, pow-le-pow_right {n = 10} (lit< tt) {i = 6} {j = h} m))
