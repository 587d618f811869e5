-- A ground of which one block is held, and what it is after each asking.
-- Assumes nothing.
use Rattle.std.specs.Prelude.{◌≡◌, ℕ, ◌+◌, ◌<◌, length, Option, MatchOption, slice_index, slice_index_or}
use Rattle.things.specs.Ground.{Ground}

-- b is held, and no other block
pub record Holds (b : ℕ) (g : Ground) : Type 0 where
  pub number : b < 1048576
  pub size : length (g.block b) ≡ 64
  pub many : g.many ≡ 1

-- b is held, and the ground may be asked n times more
pub record Taken (b n : ℕ) (g : Ground) : Type 0 where
  pub holds : Holds b g
  pub left : g.left ≡ n

-- a block was asked for: it was got, or nothing is held
abbrev pub Took : Option ℕ → ℕ → Ground → Type 0
Took r n g = MatchOption r (g.many ≡ 0) (λ b. Taken b n g)

-- x was written to word i of b
pub record Wrote (b i x : ℕ) (g g' : Ground) : Type 0 where
  pub holds : Holds b g'
  pub left : g'.left + 1 ≡ g.left
  pub word : slice_index_or (g'.block b) i 0 ≡ x

-- word i of b was read, and is x
pub record Read (b i x : ℕ) (g g' : Ground) : Type 0 where
  pub holds : Holds b g'
  pub left : g'.left + 1 ≡ g.left
  pub word : x ≡ slice_index (g.block b) i
