-- Runs of full pages: how long they can be.
use Rattle.std.proofs.Common.{ℕ, ◌+◌, ◌≤◌, true, false, cond, eqb, List, [], ◌∷◌, length, arith}
use Rattle.page.specs.Layout.{Layout}
use Rattle.store.specs.Steps.{Mem}
use Rattle.tree.specs.declared.path.Branch.{Branch}
use Rattle.seek.specs.Descent.{run_after, nodes_full, full_run}

run_le : (run n k : ℕ) → run_after run n k ≤ run + 1
run_le run n k = elim (eqb n k) as (λ v. cond v (run + 1) 0 ≤ run + 1) [ true ↦ omega arith | false ↦ omega arith ]

pub nodes_full_le : {E : Type 0} (K : Layout E) (f : Mem) (ws : List Branch) → nodes_full K f ws ≤ length ws
unfolding nodes_full
nodes_full_le K f [] = omega arith
nodes_full_le K f (w ∷ ws) = omega (arith, nodes_full_le K f ws, run_le (nodes_full K f ws) (length (K.children (f w.block))) K.node_cap)

pub full_le : {E : Type 0} (K : Layout E) (f : Mem) (b : ℕ) (ws : List Branch) → full_run K f b ws ≤ length ws + 1
full_le K f b ws = omega (arith, nodes_full_le K f ws, run_le (nodes_full K f ws) (length (K.items (f b))) K.leaf_cap)
