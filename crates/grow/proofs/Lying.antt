-- After an insertion the tree lies in memory as it did before.
use Rattle.std.proofs.Common.{ℕ, arith}
use Rattle.page.specs.Layout.{Layout}
use Rattle.store.specs.Memory.{Memory}
use Rattle.tree.specs.declared.top.Tree.{Tree}
use Rattle.tree.specs.Trees.{Lies}
use Rattle.grow.specs.Inserted.{Inserted}

pub inserted_lies : {E : Type 0} (K : Layout E) (at : ℕ) (x : E) (t : Tree) (m : Memory) (t' : Tree) (m' : Memory) → Lies K m t → Inserted K at x t m t' m' → Lies K m' t'
inserted_lies K at x t m t' m' l i = record {
  stands = i.stands;
  once = λ c. omega (arith, l.once c, i.ran.step.balanced c);
  number = omega (arith, l.number, i.ran.number);
}
