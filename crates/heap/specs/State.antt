-- What a contract sees of a heap.
-- Assumes nothing.
use Rattle.std.specs.Prelude.{ℕ, Bool, List, [], slice_index_or, slice_set}
use Rattle.things.specs.Ground.{Ground}
use Rattle.heap.specs.Owned.{ground_of}

-- what is in each block, and nothing for one that is not held; how often the heap may still be asked; how many blocks may be held; whether it refused
pub record State : Type 0 where
  pub words : List (List ℕ)
  pub left : ℕ
  pub top : ℕ
  pub failed : Bool

-- what it is as a ground
abbrev pub state_ground : State → Ground
state_ground s = ground_of s.words s.left s.top s.failed

-- the words of block b, and none if it is not held
abbrev pub block_at : State → ℕ → List ℕ
block_at s b = slice_index_or s.words b []

-- s with these words in block b
abbrev pub with_block : State → ℕ → List ℕ → State
with_block s b ws = record s { words = slice_set s.words b ws }
