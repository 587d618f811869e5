-- What is read of the memory, and what is written to it, page by page.
-- Assumes nothing.
use Rattle.std.specs.Prelude.{◌≡◌, ℕ, ◌≤◌, List}
use Rattle.store.specs.Memory.{Memory, asked}
use Rattle.store.specs.Steps.{Ran, hit}
use Rattle.tree.specs.Writing.{Wrote}

-- a page is read or written in at most so many askings
abbrev pub page_asks : ℕ
page_asks = 65

-- the memory was only read, at most k times
pub record Reading (k : ℕ) (m m' : Memory) : Type 0 where
  pub times : ℕ
  pub few : times ≤ k
  pub is : m' ≡ asked times m

-- block b was written in at most k askings, and reads as xs now
pub record Writing {X : Type 0} (k : ℕ) (read : List ℕ → List X) (b : ℕ) (xs : List X) (m m' : Memory) : Type 0 where
  pub wrote : Wrote read m.block b xs m'.block
  pub ran : Ran k (hit b) (hit b) m m'
  pub many : m'.many ≡ m.many
