use Rattle.std.proofs.Common.{arith}
use Rattle.store.proofs.Loading.{storing_more}
use Rattle.store.proofs.words.store.Goals as goal

pub loop-i-preserved : goal.loop-i-preserved
loop-i-preserved g c = storing_more c.args.b c.args.first c.args.words.now (g.W.Store.memory c.args.m.now) c.loop-i.i _ _ (omega (arith, c.requires.there.1)) (omega arith) c.loop-i.invariant c.put.ensures
