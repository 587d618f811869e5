use Rattle.std.proofs.Common.{Some, None, sym, ◌∙◌, arith}
use Rattle.store.proofs.Running.{ran_none, ran_more}
use Rattle.clear.specs.Given.{give_asks}
use Rattle.things.specs.Bridge.{memory_of}
use Rattle.things.proofs.Shelves.{slot_lies}
use Rattle.things.proofs.Closing.{slot_asks, is_cleared}
use Rattle.things.proofs.state.Things.clear.Goals as goal

pub give_kept-requires-clause-lies : goal.give_kept-requires-clause-lies
give_kept-requires-clause-lies g c =
    slot_lies c.args.self.now (memory_of (g.B.Blocks.as_ground c.args.b.now)) c.args.n c.requires.sound c.requires.low (Some c.in-Some.x)
    (sym c.take.ensures.was ∙ c.in-Some.is)

pub give_kept-requires-clause-asks : goal.give_kept-requires-clause-asks
give_kept-requires-clause-asks g c = slot_asks give_asks c.args.n (Some c.in-Some.x) c.requires.sound c.requires.low (sym c.take.ensures.was ∙ c.in-Some.is) c.requires.asks

pub returns-in-Some : goal.returns-in-Some
returns-in-Some g c =
    is_cleared c.args.self.now _ _ _ c.args.n (Some c.in-Some.x) c.requires.sound c.requires.low (sym c.take.ensures.was ∙ c.in-Some.is)
    c.give_kept.ensures c.take.ensures.slots

pub returns-in_default : goal.returns-in_default
returns-in_default g c =
    let m = memory_of (g.B.Blocks.as_ground c.args.b.now) in
    is_cleared c.args.self.now _ _ _ c.args.n None c.requires.sound c.requires.low (sym c.take.ensures.was ∙ c.in_default.is)
    (ran_more _ _ _ _ _ (ran_none (λ d. 0) m) _ (omega arith)) c.take.ensures.slots
