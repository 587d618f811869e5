-- Blocks that are owned, whole and each only once.
-- Assumes nothing.
use Rattle.std.specs.Prelude.{ℕ, ◌<◌, ◌≤◌}
use Rattle.store.specs.Memory.{Stored}
use Rattle.store.specs.Steps.{Mem, held}

-- every block that u counts is there, and counted once
pub record Stocked (u : ℕ → ℕ) (f : Mem) : Type 0 where
  pub fits : (c : ℕ) → u c ≤ held f c
  pub stored : (c : ℕ) → 0 < u c → Stored f c
