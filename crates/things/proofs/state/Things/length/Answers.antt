use Rattle.std.proofs.Common.{Some, Ok, sym, ap, ◌∙◌}
use Rattle.std.proofs.lemmas.Result.{err_from_is_err_and}
use Rattle.things.proofs.Grounds.{read_untouched}
use Rattle.things.proofs.Shelves.{slot_lies}
use Rattle.things.specs.declared.Op.TheVariants.{Length}
use Rattle.things.specs.declared.state.Kept.TheVariants as kept
use Rattle.things.specs.Names.{any_here}
use Rattle.things.proofs.Rules.{unchanged}
use Rattle.things.proofs.Naming.{low, found_slot, length_refused}
use Rattle.things.proofs.Serving.{length_served, length_table_served}
use Rattle.things.proofs.state.Things.length.Goals as goal

pub returns-in_err-t : goal.returns-in_err-t
returns-in_err-t g c =
    let p = err_from_is_err_and c.from_residual.result c.from_residual.ensures.1 in
    rw (p.1, p.2) (unchanged (Length c.args.n) tt (length_refused c.args.n c.args.self.now _ c.in_err-t.ensures) c.requires.sound)

pub length-requires-clause-lies : goal.length-requires-clause-lies
length-requires-clause-lies g c =
    let f = c.in_ok-t.ensures in
    slot_lies c.args.self.now _ c.args.n c.requires.sound (low any_here c.args.n c.args.self.now f) (Some (kept.Row c.in-Row.t))
    (found_slot c.args.n c.args.self.now f ∙ ap Some c.in-Row.is)

pub length-requires-in-Table-clause-lies : goal.length-requires-in-Table-clause-lies
length-requires-in-Table-clause-lies g c =
    let f = c.in_ok-t.ensures in
    slot_lies c.args.self.now _ c.args.n c.requires.sound (low any_here c.args.n c.args.self.now f) (Some (kept.Table c.in-Table.t))
    (found_slot c.args.n c.args.self.now f ∙ ap Some c.in-Table.is)

pub returns-in-Row : goal.returns-in-Row
returns-in-Row g c =
    length_served c.args.n c.args.self.now _ _ c.in-Row.t _ tt c.requires.sound (read_untouched c.length.ensures.same)
    (ap Ok (sym c.in-Row.is) ∙ c.in_ok-t.ensures) c.length.ensures.value

pub returns-in-Table : goal.returns-in-Table
returns-in-Table g c =
    length_table_served c.args.n c.args.self.now _ _ c.in-Table.t _ tt c.requires.sound (read_untouched c.length-in-Table.ensures.same)
    (ap Ok (sym c.in-Table.is) ∙ c.in_ok-t.ensures) c.length-in-Table.ensures.value
