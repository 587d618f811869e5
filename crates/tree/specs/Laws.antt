-- The theorems about trees in blocks.
-- Assumes nothing.
use Rattle.std.specs.Prelude.{◌≡◌, ℕ, ◌+◌, ◌/◌, ◌≤◌, length}
use Rattle.page.specs.Layout.{Layout}
use Rattle.store.specs.Steps.{Mem, Same, sum_to}
use Rattle.tree.specs.Tree.{Kept, Sound, Root, contents, uses, blocks}

-- what a tree is depends on the blocks that it uses
abbrev pub Frame : (E : Type 0) → Type 0
Frame E = (K : Layout E) (h : ℕ) (f f' : Mem) (b : ℕ) → Same (uses K h f b) f f' → Kept K h f f' b

-- with so many entries to a leaf and a node: how many items there are to a block
abbrev pub Bound : (E : Type 0) → ℕ → ℕ → ℕ → Type 0
Bound E leaf node rate = (K : Layout E) → K.leaf_cap ≡ leaf → K.node_cap ≡ node
    → (h : ℕ) (f : Mem) (b : ℕ) → Root K h f b → blocks K h f b ≤ 1 + length (contents K h f b) / rate

-- with so many entries to a node: how high a tree of 1,048,640 blocks may be
abbrev pub Height : (E : Type 0) → ℕ → ℕ → Type 0
Height E node level = (K : Layout E) → K.node_cap ≡ node
    → (h : ℕ) (f : Mem) (b : ℕ) → Root K h f b → blocks K h f b ≤ 1048640 → h ≤ level

-- over all blocks that there may be, the uses are as many as the tree has blocks
abbrev pub Number : (E : Type 0) → Type 0
Number E = (K : Layout E) (h : ℕ) (f : Mem) (b : ℕ) → Sound K h f b → sum_to 1048576 (uses K h f b) ≡ blocks K h f b
