-- A block that is lent, and the heap that has it back.
-- Assumes nothing.
use Rattle.std.specs.Prelude.{ℕ, List}
use Rattle.std.specs.Borrow.{Lends, MutBor, Fml, u64, Array}
use Rattle.heap.specs.Sizes.{block_words}
use Rattle.heap.specs.State.{State, with_block}
use Rattle.heap.specs.contracts.Heap.{the_row}

-- s ends with the words that are left behind r in block b
abbrev pub LendsBlock : MutBor State → ℕ → MutBor (List ℕ) → Fml
LendsBlock s b r = Lends the_row (Array u64 block_words) s r (with_block s.now b)
