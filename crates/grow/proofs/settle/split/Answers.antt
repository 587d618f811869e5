use Rattle.std.proofs.Common.{ap, ◌∙◌, ◌/◌, take, drop}
use Rattle.grow.proofs.Settling.{upper_there, in_two}
use Rattle.grow.proofs.settle.split.Goals as goal

pub store_page-requires-2-clause-there : goal.store_page-requires-2-clause-there
store_page-requires-2-clause-there g c = let p = c.requires in upper_there _ _ _ c.take_block-block.ensures _ _ _ _ _ p.there p.stocked p.beside c.store_page.ensures

pub returns-clause-parted : goal.returns-clause-parted
returns-clause-parted g c =
    let p = c.requires in
    let xs = c.args.page.now in
    let q = c.split_off-upper.ensures in
    in_two _ _ _ c.take_block-block.ensures _ _ _ _ _ p.there p.stocked p.beside c.store_page.ensures _ _ _ (q.stay ∙ ap (λ n. take (n / 2) xs) c.len.ensures.len) (q.leave ∙ ap (λ n. drop (n / 2) xs) c.len.ensures.len) c.store_page-2.ensures
