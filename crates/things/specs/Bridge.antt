-- What a ground is as memory.
-- Assumes nothing.
use Rattle.store.specs.Memory.{Memory}
use Rattle.things.specs.Ground.{Ground}

abbrev pub memory_of : Ground → Memory
memory_of g = record { block = g.block; many = g.many; left = g.left; top = g.top; failed = g.failed }
