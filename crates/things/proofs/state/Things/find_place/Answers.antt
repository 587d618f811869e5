use Rattle.std.proofs.Common.{arith}
use Rattle.things.specs.State.{words_in}
use Rattle.things.proofs.Naming.{place_there, place_past}
use Rattle.things.proofs.Serving.{row_lies}
use Rattle.things.proofs.state.Things.find_place.Goals as goal

pub length-requires-clause-lies : goal.length-requires-clause-lies
length-requires-clause-lies g c = row_lies c.args.n c.args.self.now _ c.requires.sound c.in_ok-t.ensures

pub returns-then-i-length-clause-place : goal.returns-then-i-length-clause-place
unfolding words_in
returns-then-i-length-clause-place g c = place_there c.args.n c.args.i c.args.self.now _ c.in_ok-t.ensures (omega (arith, c.length.ensures.value))

pub returns-else-i-length-clause-place : goal.returns-else-i-length-clause-place
unfolding words_in
returns-else-i-length-clause-place g c = place_past c.args.n c.args.i c.args.self.now _ c.in_ok-t.ensures (omega (arith, c.length.ensures.value))
