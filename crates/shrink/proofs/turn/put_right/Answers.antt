use Rattle.std.proofs.Common.{arith}
use Rattle.tree.proofs.Imaging.{few_entries}
use Rattle.shrink.proofs.CodeTurns.{turn_there, turn_few, turn_inside, code_inside, code_entered, code_next, code_mended}
use Rattle.shrink.proofs.turn.put_right.Goals as goal

pub load_page-page-requires-clause-there : goal.load_page-page-requires-clause-there
load_page-page-requires-clause-there g c = turn_there g.met.L.Kind.Kind.lawful c.requires.1

pub load_page-page-requires-clause-few : goal.load_page-page-requires-clause-few
load_page-page-requires-clause-few g c = turn_few g.met.L.Kind.Kind.lawful c.requires.1

pub enter-requires-clause-there : goal.enter-requires-clause-there
enter-requires-clause-there g c = rw c.load_page-page.ensures.after (turn_inside g.met.L.Kind.Kind.lawful c.requires.1)

pub returns-in-Some : goal.returns-in-Some
returns-in-Some g c = λ s v. code_entered g.met.L.Kind.Kind.lawful v c.load_page-page.ensures.same c.load_page-page.ensures.after c.in-Some.is c.enter.ensures

pub mend-requires-clause-there : goal.mend-requires-clause-there
mend-requires-clause-there g c = code_inside g.met.L.Kind.Kind.lawful c.requires.1 c.load_page-page.ensures.same c.load_page-page.ensures.after c.left_of.ensures

pub mend-requires-clause-few : goal.mend-requires-clause-few
mend-requires-clause-few g c =
    let most = few_entries g.L.Kind.Kind.layout.node_cap _ 62 g.met.L.Kind.Node.Codec.some g.met.L.Kind.Kind.node_fits in
    rw c.load_page-page.ensures.after (omega (arith, most, turn_few g.met.L.Kind.Kind.lawful c.requires.1))

pub mend-requires-clause-next : goal.mend-requires-clause-next
mend-requires-clause-next g c = (c.requires.0.level, code_next g.met.L.Kind.Kind.lawful c.requires.1 c.load_page-page.ensures.same c.load_page-page.ensures.after c.left_of.ensures)

pub returns-in-None : goal.returns-in-None
returns-in-None g c = λ s v.
    let next = code_next g.met.L.Kind.Kind.lawful v c.load_page-page.ensures.same c.load_page-page.ensures.after c.left_of.ensures in
    code_mended g.met.L.Kind.Kind.lawful v c.load_page-page.ensures.same c.load_page-page.ensures.after c.left_of.ensures (c.mend.ensures s.level next)
