-- The path down to a place in a tree.
-- Assumes nothing.
use Rattle.std.specs.Prelude.{◌≡◌, ℕ, ◌+◌, ◌-◌, cond, List, [], ◌∷◌, length, ◌==◌}
use Rattle.page.specs.Layout.{Layout}
use Rattle.store.specs.Memory.{Memory}
use Rattle.store.specs.Steps.{Mem}
use Rattle.tree.specs.declared.top.Tree.{Tree}
use Rattle.tree.specs.Down.{Down}
use Rattle.tree.specs.Pages.{Reading}
use Rattle.tree.specs.declared.path.Branch.{Branch}
use Rattle.seek.specs.declared.reached.Reached.{Reached}
use Rattle.seek.specs.declared.target.Target.{Target}
use Rattle.seek.specs.declared.target.Target.TheVariants.{Item, Gap}
use Rattle.seek.specs.Asks.{descend_asks}

-- for a gap the end is a place too
abbrev pub more : Target → ℕ
more Item = 0
more Gap = 1

-- after a run of full pages comes one with n entries of at most so many: it is one more, or the run ends
abbrev pub run_after : ℕ → ℕ → ℕ → ℕ
run_after run n most = cond (n == most) (run + 1) 0

module _ {E : Type 0} (K : Layout E) where
  -- how many nodes in a row are full, nearest first; and the leaf before them
  unfoldable pub nodes_full : Mem → List Branch → ℕ
  nodes_full f [] = 0
  nodes_full f (w ∷ ws) = run_after (nodes_full f ws) (length (K.children (f w.block))) K.node_cap

  abbrev pub full_run : Mem → ℕ → List Branch → ℕ
  full_run f b ws = run_after (nodes_full f ws) (length (K.items (f b))) K.leaf_cap

  -- the place p of the tree, or the gap before it, is under the path that was taken, and the memory was only read
  pub record Descended (m : Memory) (t : Tree) (p : ℕ) (target : Target) (r : Reached) (m' : Memory) : Type 0 where
    pub down : Down K m.block (t.height - 1) t.root p (more target) 0 r.leaf r.path r.at
    pub deep : length r.path + 1 ≡ t.height
    pub full : r.full ≡ full_run m.block r.leaf r.path
    pub same : Reading descend_asks m m'
