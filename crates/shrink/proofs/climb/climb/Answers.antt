use Rattle.std.proofs.Common.{◌≡◌, ◌-◌, ◌<◌, length, refl, ap, arith}
use Rattle.shrink.proofs.CodeClimb.{site, climb_below, climb_on, climb_none}
use Rattle.shrink.proofs.climb.climb.Goals as goal
use Rattle.shrink.proofs.climb.climb.Goals.{in-Some, in_default}

pub turn-top-requires : goal.turn-top-requires
turn-top-requires g c =
    let z = c.requires.0 in
    (site g.K.Kind.layout z 0 _ c.pop.new.self _ c.in-Some.ensures, climb_below g.K.Kind.layout z 0 _ c.pop.new.self _ c.in-Some.ensures (λ h. h ≡ 0) _ _ refl c.requires.1)

pub loop-node-init : goal.loop-node-init
loop-node-init g c = elim c.match-pop.branch [
  | in-Some w ↦ (
    omega (arith, ap length w.in-Some.ensures),
    λ z v.
        let K = g.K.Kind.layout in
        let e = w.in-Some.ensures in
        rw (w.m-is, w.top-is) (climb_on K z _ _ 0 (length c.args.path) _ c.pop.new.self _ e (omega arith) (w.turn-top.ensures (site K z 0 _ c.pop.new.self _ e) (climb_below K z 0 _ c.pop.new.self _ e (λ h. h ≡ 0) _ _ refl v))),
  )
  | in_default w ↦ (omega (arith, ap length w.in_default.ensures.1), λ z v. rw (w.m-is, w.top-is) (climb_none g.K.Kind.layout z _ _ c.args.path c.pop.new.self w.in_default.ensures.0 w.in_default.ensures.1 v))
]

pub turn-top-requires-in-Some-pop : goal.turn-top-requires-in-Some-pop
turn-top-requires-in-Some-pop g c =
    let z = c.requires.0 in
    let h = length c.args.path - length c.loop-node.path in
    let e = c.in-Some-pop.ensures in
    (site g.K.Kind.layout z h _ c.pop-in-loop-node.new.self _ e, climb_below g.K.Kind.layout z h _ c.pop-in-loop-node.new.self _ e (λ h. 0 < h) _ _ (omega (arith, c.loop-node.invariant.0, ap length e)) (c.loop-node.invariant.1 z c.requires.1))

pub loop-node-preserved : goal.loop-node-preserved
loop-node-preserved g c =
    let h = length c.args.path - length c.loop-node.path in
    let e = c.in-Some-pop.ensures in (
      omega (arith, c.loop-node.invariant.0, ap length e),
      λ z v.
          climb_on g.K.Kind.layout z _ _ h (length c.args.path) _ c.pop-in-loop-node.new.self _ e (omega (arith, c.loop-node.invariant.0))
          (c.turn-top-in-Some-pop.ensures (site g.K.Kind.layout z h _ c.pop-in-loop-node.new.self _ e) (climb_below g.K.Kind.layout z h _ c.pop-in-loop-node.new.self _ e (λ h. 0 < h) _ _ (omega (arith, c.loop-node.invariant.0, ap length e)) (c.loop-node.invariant.1 z v))),
    )
