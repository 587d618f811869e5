-- The topmost page of a tree, by the tree's height.
use Rattle.std.proofs.Common.{◌≡◌, ℕ, zero, suc, ◌^◌, ◌<◌, ◌≤◌, length, arith}
use Rattle.page.specs.Layout.{Layout, counts}
use Rattle.store.specs.Memory.{Stored}
use Rattle.store.specs.Steps.{Mem, held}
use Rattle.tree.specs.Tree.{contents, Sound}
use Rattle.tree.specs.Tall.{tall_contents, tall_uses, Tall}
use Rattle.tree.proofs.Entries.{counts_right}
use Rattle.tree.proofs.Low.{length_low}

module _ {E : Type 0} (K : Layout E) where
  -- a node
  pub record TopNode (h : ℕ) (f : Mem) (b : ℕ) : Type 0 where
    pub there : Stored f b
    pub few : length (K.children (f b)) ≤ K.node_cap
    pub counted : counts (K.children (f b)) ≡ length (tall_contents K h f b)

  pub top_node : (h : ℕ) (f : Mem) (b : ℕ) → 2 ≤ h → Tall K h f b → TopNode h f b
  unfolding Tall tall_contents Sound contents
  top_node zero f b l w = absurd (omega arith)
  top_node (suc zero) f b l w = absurd (omega arith)
  top_node (suc (suc h)) f b l w = record { there = w.sound.0; few = w.sound.1; counted = counts_right K h f (K.children (f b)) w.sound.2 }

  pub tall_low : (h : ℕ) (f : Mem) (b : ℕ) → K.leaf_cap ≤ 62 → Tall K h f b → ((c : ℕ) → tall_uses K h f b c ≤ held f c) → length (tall_contents K h f b) < 2 ^ 64
  unfolding Tall tall_contents tall_uses
  tall_low zero f b l w o = omega arith
  tall_low (suc h) f b l w o = length_low K h f b l w.sound o
