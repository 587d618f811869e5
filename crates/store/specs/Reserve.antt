-- Blocks got in advance, by their numbers: what of the memory they own, and how they go between the reserve and the memory.
-- Assumes nothing.
use Rattle.std.specs.Prelude.{◌≡◌, ℕ, ◌+◌, ◌*◌, ◌<◌, ◌≤◌, true, List, [], ◌∷◌, length}
use Rattle.store.specs.Memory.{Memory}
use Rattle.store.specs.Steps.{Ran, hit}
use Rattle.store.specs.Stocked.{Stocked}

-- so many blocks fit into a reserve
abbrev pub capacity : ℕ
capacity = 16

-- how often block c is in it
unfoldable pub uses : List ℕ → ℕ → ℕ
uses [] c = 0
uses (b ∷ bs) c = hit b c + uses bs c

-- n blocks were got, and are the reserve
pub record Reserved (n : ℕ) (m : Memory) (r : List ℕ) (m' : Memory) : Type 0 where
  pub ran : Ran n (λ c. 0) (uses r) m m'
  pub all : length r ≡ n
  pub stocked : Stocked (uses r) m'.block
  pub many : m'.many ≡ m.many + n
  pub left : m'.left + n ≡ m.left

-- of n blocks one was refused, and all is as it was
pub record Undone (n : ℕ) (m m' : Memory) : Type 0 where
  pub same : (c : ℕ) → m'.block c ≡ m.block c
  pub many : m'.many ≡ m.many
  pub top : m'.top ≡ m.top
  pub failed : m'.failed ≡ true
  pub asked : m'.left < m.left
  pub asks : m.left ≤ m'.left + 2 * n

-- all blocks of the reserve were given back
pub record GivenAll (m : Memory) (r : List ℕ) (m' : Memory) : Type 0 where
  pub ran : Ran (length r) (uses r) (λ c. 0) m m'
  pub many : m'.many + length r ≡ m.many
  pub left : m'.left + length r ≡ m.left
