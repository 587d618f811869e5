use Rattle.page.specs.Kinds.{row_layout, table_layout}
use Rattle.things.proofs.Closing.{tree_asks, tree_given}
use Rattle.things.proofs.clearing.give_kept.Goals as goal

pub give_back-requires : goal.give_back-requires
give_back-requires g c =
    let h = rw c.in-Row.is at c.requires.lies in
    record { lies = h; asks = tree_asks row_layout _ c.in-Row.t h _ (rw c.in-Row.is at c.requires.asks) }

pub give_back-requires-in-Table : goal.give_back-requires-in-Table
give_back-requires-in-Table g c =
    let h = rw c.in-Table.is at c.requires.lies in
    record { lies = h; asks = tree_asks table_layout _ c.in-Table.t h _ (rw c.in-Table.is at c.requires.asks) }

pub returns-in-Row : goal.returns-in-Row
returns-in-Row g c = rw c.in-Row.is (tree_given row_layout _ c.in-Row.t (rw c.in-Row.is at c.requires.lies) c.give_back.ensures)

pub returns-in-Table : goal.returns-in-Table
returns-in-Table g c = rw c.in-Table.is (tree_given table_layout _ c.in-Table.t (rw c.in-Table.is at c.requires.lies) c.give_back-in-Table.ensures)
