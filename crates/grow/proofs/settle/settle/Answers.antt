use Rattle.std.proofs.Common.{ap, arith}
use Rattle.grow.proofs.Settling.{over_halves, in_both}
use Rattle.grow.proofs.settle.settle.Goals as goal

pub page_entry-requires-2-clause-few : goal.page_entry-requires-2-clause-few
page_entry-requires-2-clause-few g c = let n = g.L.Level.items_under in omega (arith, c.requires.counts, ap n c.split-upper.ensures.stay, over_halves n g.met.L.Level.adds c.args.page)

pub page_entry-requires-3-clause-few : goal.page_entry-requires-3-clause-few
page_entry-requires-3-clause-few g c = let n = g.L.Level.items_under in omega (arith, c.requires.counts, ap n c.split-upper.ensures.leave, over_halves n g.met.L.Level.adds c.args.page)

pub returns : goal.returns
returns g c =
    let p = c.split-upper.ensures in
    in_both g.L.Level.read g.L.Level.entry _ _ _ _ _ _ g.met.L.Level.placed _ _ _ _ _ _ (omega (arith, c.len.ensures.len, c.most.ensures, c.if-len-most.false)) p.parted c.page_entry-2.ensures.value p.stay c.page_entry-3.ensures.value p.leave
