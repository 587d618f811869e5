use Rattle.std.proofs.Common.{ℕ, ◌<◌, ◌≤◌, arith}
use Rattle.std.proofs.lemmas.Result.{MatchResult-from_err}
use Rattle.store.specs.Memory.{Memory}
use Rattle.tree.specs.declared.top.Tree.{Tree}
use Rattle.tree.specs.Trees.{Lies}
use Rattle.tree.proofs.Imaging.{few_entries}
use Rattle.grow.specs.Asks.{insert_asks}
use Rattle.grow.proofs.Inserting.{Insertion}
use Rattle.grow.proofs.Course.{low, shallow, reserve_takes, gave_up, leaf_takes, from_leaf, climbed, topped, rest_takes, done}
use Rattle.grow.proofs.insert.insert_below.Given as given
use Rattle.grow.proofs.insert.insert_below.Goals as goal

call : (g : given.Over) (t : Tree) (at : ℕ) (x : g.row.K-Item.Denot) (m : Memory) → Lies g.K.Kind.layout m t → 0 < t.height → insert_asks ≤ m.left → Insertion g.K.Kind.layout t at x m
call g t at x m lies tall ample = record {
  lawful = g.met.K.Kind.lawful;
  thin = few_entries g.K.Kind.layout.leaf_cap g.K.Leaf.Codec.width 62 g.met.K.Leaf.Codec.some g.met.K.Kind.leaf_fits;
  wide = g.met.K.Kind.wide;
  lies = lies;
  tall = tall;
  ample = ample;
}

pub reserve-requires : goal.reserve-requires
reserve-requires g c =
    let p = c.requires in
    let q = call g _ c.args.at c.args.x _ p.lies p.tall p.asks in
    reserve_takes q c.descend-reached.ensures c.len.ensures.len c.blocks_for-blocks.ensures p.room

pub returns-in_err-stock : goal.returns-in_err-stock
returns-in_err-stock g c =
    let p = c.requires in
    let q = call g _ c.args.at c.args.x _ p.lies p.tall p.asks in
    MatchResult-from_err _ _ _ c.from_residual.ensures.0 (λ _. gave_up q c.descend-reached.ensures c.len.ensures.len c.blocks_for-blocks.ensures c.in_err-stock.ensures)

pub insert_leaf-split-requires : goal.insert_leaf-split-requires
insert_leaf-split-requires g c =
    let p = c.requires in
    let q = call g _ c.args.at c.args.x _ p.lies p.tall p.asks in
    leaf_takes q c.descend-reached.ensures c.len.ensures.len c.blocks_for-blocks.ensures c.in_ok-stock.ensures

pub climb-top-requires : goal.climb-top-requires
climb-top-requires g c =
    let p = c.requires in
    let d = c.descend-reached.ensures in
    let q = call g _ c.args.at c.args.x _ p.lies p.tall p.asks in
    let u = from_leaf q d c.len.ensures.len c.blocks_for-blocks.ensures c.in_ok-stock.ensures c.insert_leaf-split.ensures in
    record { asks = omega (arith, p.asks, u.spent.asks, shallow q d); rises = (_, u.rises) }

pub new_root-tree-requires : goal.new_root-tree-requires
new_root-tree-requires g c =
    let p = c.requires in
    let d = c.descend-reached.ensures in
    let r = c.climb-top.ensures in
    let q = call g _ c.args.at c.args.x _ p.lies p.tall p.asks in
    let u = from_leaf q d c.len.ensures.len c.blocks_for-blocks.ensures c.in_ok-stock.ensures c.insert_leaf-split.ensures in
    let v = climbed q u r.climbs r.spent r.fewer in
    record { asks = omega (arith, p.asks, v.spent.asks, shallow q d); low = omega (arith, low q); rises = (_, v.rises) }

pub give_all-requires : goal.give_all-requires
give_all-requires g c =
    let p = c.requires in
    let d = c.descend-reached.ensures in
    let r = c.climb-top.ensures in
    let o = c.new_root-tree.ensures in
    let q = call g _ c.args.at c.args.x _ p.lies p.tall p.asks in
    let u = from_leaf q d c.len.ensures.len c.blocks_for-blocks.ensures c.in_ok-stock.ensures c.insert_leaf-split.ensures in
    let w = topped q (climbed q u r.climbs r.spent r.fewer) o.crowns o.spent o.fewer in
    rest_takes q w (omega (arith, shallow q d))

pub returns : goal.returns
returns g c =
    let p = c.requires in
    let d = c.descend-reached.ensures in
    let r = c.climb-top.ensures in
    let o = c.new_root-tree.ensures in
    let q = call g _ c.args.at c.args.x _ p.lies p.tall p.asks in
    let u = from_leaf q d c.len.ensures.len c.blocks_for-blocks.ensures c.in_ok-stock.ensures c.insert_leaf-split.ensures in
    let w = topped q (climbed q u r.climbs r.spent r.fewer) o.crowns o.spent o.fewer in
    done q w (omega (arith, shallow q d)) c.give_all.ensures
