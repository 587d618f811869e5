-- The calls that are built.
use Rattle.things.specs.declared.Op.TheVariants.{Row, Table, Free, Length, At, Set, Insert, Delete, Split, Join, Put, Get, Drop, Least, Count, Nth, Cut, Merge}
use Rattle.things.specs.Things.{core}
use Rattle.things.specs.Promise.{CoreBuilt}

pub core_is_built : CoreBuilt
unfolding core
core_is_built (Row n) h = tt
core_is_built (Table n) h = h
core_is_built (Free n) h = tt
core_is_built (Length n) h = tt
core_is_built (At n i) h = tt
core_is_built (Set n i x) h = tt
core_is_built (Insert n i x) h = tt
core_is_built (Delete n i) h = tt
core_is_built (Split n i m) h = h
core_is_built (Join n m) h = h
core_is_built (Put n k x) h = h
core_is_built (Get n k) h = h
core_is_built (Drop n k) h = h
core_is_built (Least n k) h = h
core_is_built (Count n k) h = h
core_is_built (Nth n i) h = h
core_is_built (Cut n k m) h = h
core_is_built (Merge n m) h = h
