-- The sizes of a heap, as src/lib.rt has them in WORDS and BLOCKS.
-- Assumes nothing.
use Rattle.std.specs.Prelude.{ℕ, ◌*◌}

-- the words of a block, of 8 bytes each
abbrev pub block_words : ℕ
block_words = 64

abbrev pub block_bytes : ℕ
block_bytes = 8 * block_words

-- how many blocks there are
abbrev pub block_count : ℕ
block_count = 1024
