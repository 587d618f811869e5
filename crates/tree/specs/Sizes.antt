-- How high trees can be, and how long the ways down them.
-- Assumes nothing.
use Rattle.std.specs.Prelude.{ℕ}

-- a root has this level at most, leaves having level 0
abbrev pub top_level : ℕ
top_level = 6

-- a path has room for so many nodes
abbrev pub longest : ℕ
longest = 8
