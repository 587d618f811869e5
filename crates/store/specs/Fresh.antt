-- A block is got, or given back.
-- Assumes nothing.
use Rattle.std.specs.Prelude.{◌≡◌, ℕ, ◌+◌, []}
use Rattle.store.specs.Memory.{Memory, Stored}
use Rattle.store.specs.Steps.{Ran, hit}

-- block b was got
pub record Obtained (m : Memory) (b : ℕ) (m' : Memory) : Type 0 where
  pub ran : Ran 1 (λ c. 0) (hit b) m m'
  pub stored : Stored m'.block b
  pub new : m.block b ≡ []
  pub many : m'.many ≡ m.many + 1
  pub left : m'.left + 1 ≡ m.left

-- block b was given back
pub record Returned (m : Memory) (b : ℕ) (m' : Memory) : Type 0 where
  pub ran : Ran 1 (hit b) (λ c. 0) m m'
  pub gone : m'.block b ≡ []
  pub many : m'.many + 1 ≡ m.many
  pub left : m'.left + 1 ≡ m.left
