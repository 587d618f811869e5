use Rattle.std.proofs.Common.{◌||◌, sym, subst}
use Rattle.things.specs.Ground.{Obtains}
use Rattle.heap.specs.State.{State, state_ground}
use Rattle.heap.proofs.Turns.{asked}
use Rattle.heap.proofs.ground.HeapBlocks.obtain.Goals as goal

pub returns : goal.returns
returns c =
    let s = c.args.self.now in let a = c.acquire-got in let y = c.is_none.result in
    subst (λ (t : State). Obtains (state_ground s) a.result (state_ground (record t { failed = t.failed || y }))) (sym c.self-2.view_is)
    (rw (← c.self.view_is) (asked _ a.new.self a.result y c.is_none.ensures c.self.invariant.sized a.ensures.unchanged a.ensures.number a.ensures.unheld a.ensures.block))
