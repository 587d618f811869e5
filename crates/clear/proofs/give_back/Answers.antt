use Rattle.std.proofs.Common.{arith}
use Rattle.clear.proofs.Clearing.{turn_stored, turn_few, turn_asks, turn_child, turn_room, last_held, last_going, next_held, next_going}
use Rattle.clear.proofs.Ends.{root_stored, low, started, finished, nothing}
use Rattle.clear.proofs.give_back.Goals as goal

pub returns-then-t-eq0 : goal.returns-then-t-eq0
returns-then-t-eq0 g c = nothing c.requires.lies (omega arith)

pub go_down-requires : goal.go_down-requires
go_down-requires g c =
    let s = root_stored c.requires.lies (omega arith) in
    record { asks = omega (arith, s.1, c.requires.asks); there = s.0; room = omega (arith, low c.requires.lies g.met.K.Kind.wide) }

pub loop-at-init : goal.loop-at-init
loop-at-init g c = started c.requires.lies c.requires.asks (omega arith) c.new-path.ensures c.go_down.ensures

pub next_child-requires : goal.next_child-requires
next_child-requires g c = record {
  asks = turn_asks c.loop-at.invariant c.in-Some.ensures;
  there = turn_stored c.loop-at.invariant c.in-Some.ensures;
  few = turn_few c.loop-at.invariant c.in-Some.ensures;
  low = λ l. (turn_child c.loop-at.invariant c.in-Some.ensures l).0;
}

pub push-requires : goal.push-requires
push-requires g c _ = omega (arith, turn_room c.loop-at.invariant c.in-Some.ensures (low c.requires.lies g.met.K.Kind.wide))

pub go_down-requires-in-Some-next_child : goal.go_down-requires-in-Some-next_child
go_down-requires-in-Some-next_child g c =
    let z = next_held c.loop-at.invariant c.in-Some.ensures c.in-Some-next_child.ensures in
    record { asks = z.0; there = z.1; room = omega (arith, low c.requires.lies g.met.K.Kind.wide) }

pub loop-at-smaller-in-Some-next_child : goal.loop-at-smaller-in-Some-next_child
loop-at-smaller-in-Some-next_child g c =
    (next_going c.loop-at.invariant c.in-Some.ensures c.in-Some-next_child.ensures c.push.ensures.pushed c.go_down-in-Some-next_child.ensures).1

pub loop-at-preserved-in-Some-next_child : goal.loop-at-preserved-in-Some-next_child
loop-at-preserved-in-Some-next_child g c =
    (next_going c.loop-at.invariant c.in-Some.ensures c.in-Some-next_child.ensures c.push.ensures.pushed c.go_down-in-Some-next_child.ensures).0

pub release-requires : goal.release-requires
release-requires g c =
    let z = last_held c.loop-at.invariant c.in-Some.ensures c.in-None.ensures in
    record { asks = z.0; there = z.1 }

pub loop-at-smaller : goal.loop-at-smaller
loop-at-smaller g c = (last_going c.loop-at.invariant c.in-Some.ensures c.in-None.ensures c.release.ensures).1

pub loop-at-preserved : goal.loop-at-preserved
loop-at-preserved g c = (last_going c.loop-at.invariant c.in-Some.ensures c.in-None.ensures c.release.ensures).0

pub returns : goal.returns
returns g c = finished c.requires.lies c.loop-at.invariant c.in_default.ensures.0
