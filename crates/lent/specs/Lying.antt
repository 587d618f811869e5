-- What lent blocks are as a ground, when some of them are free.
-- Assumes nothing.
use Rattle.std.specs.Prelude.{ℕ, ◌-◌, cond, List, [], length, slice_index_or}
use Rattle.things.specs.Ground.{Ground}
use Rattle.meter.specs.declared.Meter.{Meter}
use Rattle.meter.specs.Metered.{metered}
use Rattle.lent.specs.declared.lent.Lent.{Lent}
use Rattle.lent.specs.Free.{is_free, on_stack}

-- of a block that isn't free its words, else none
abbrev pub block_of : List (List ℕ) → List ℕ → ℕ → List ℕ
block_of blocks free b = cond (is_free free b) [] (slice_index_or blocks b [])

abbrev pub lying : List (List ℕ) → List ℕ → Meter → Ground
lying blocks free meter = metered (block_of blocks free) (length blocks - length free) meter

abbrev pub ground_of : Lent → Ground
ground_of h = lying h.blocks.now (on_stack h.free) h.meter
