use Rattle.grow.specs.Asks.{insert_undone}
use Rattle.store.specs.Reserve.{Undone}
use Rattle.grow.proofs.Planting.{planted_inserted}
use Rattle.grow.proofs.insert.insert.Goals as goal

pub returns-then-t-eq0 : goal.returns-then-t-eq0
returns-then-t-eq0 g c =
    planted_inserted g.K.Kind.layout c.args.at c.args.x c.args.t (g.W.Store.memory c.args.m.now) (g.W.Store.memory c.plant.new.m) c.if-t-eq0.true c.requires.place
    (λ _. Undone insert_undone (g.W.Store.memory c.args.m.now) (g.W.Store.memory c.plant.new.m)) c.plant.result c.plant.ensures
