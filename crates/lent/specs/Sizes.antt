-- How large a block is, how many there may be, and how many two slices have room for.
-- Assumes nothing.
use Rattle.std.specs.Prelude.{ℕ, ◌/◌, min}

abbrev pub block_words : ℕ
block_words = 64

abbrev pub most_blocks : ℕ
most_blocks = 1048576

-- so many words and so many numbers are lent
abbrev pub blocks_within : ℕ → ℕ → ℕ
blocks_within words numbers = min (words / block_words) (min numbers most_blocks)
