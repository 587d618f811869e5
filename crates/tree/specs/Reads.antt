-- Where the entries of a page stand in its block.
-- Assumes nothing.
use Rattle.std.specs.Prelude.{ℕ, ◌+◌, ◌*◌}

-- entry i, of w words, begins here
abbrev pub word_of_entry : ℕ → ℕ → ℕ
word_of_entry w i = 2 + w * i
