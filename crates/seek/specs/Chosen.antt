-- Which child of a node a place is under.
-- Assumes nothing.
use Rattle.std.specs.Prelude.{◌≡◌, ℕ, ◌+◌, ◌<◌, List, length, take, slice_index_or}
use Rattle.page.specs.declared.child.Child.{Child}
use Rattle.page.specs.Layout.{counts}
use Rattle.tree.specs.Paths.{none}
use Rattle.seek.specs.declared.step.Step.{Step}
use Rattle.seek.specs.declared.target.Target.{Target}
use Rattle.seek.specs.Descent.{more}

-- the place p of what is under these children, or the gap before it, is under the child that was taken
pub record Chosen (ks : List Child) (p : ℕ) (target : Target) (r : Step) : Type 0 where
  pub child : r.child < length ks
  pub before : counts (take r.child ks) + r.rest ≡ p
  pub within : r.rest < (slice_index_or ks r.child none).count + more target
  pub block : r.block ≡ (slice_index_or ks r.child none).block
  pub entries : r.entries ≡ length ks
