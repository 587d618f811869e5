use Rattle.std.proofs.Common.{add-zero, arith}
use Rattle.page.proofs.Images.{get_d_part}
use Rattle.page.proofs.codec.children.RowChildrenCodec.read.Goals as goal

pub returns : goal.returns
returns c =
    let a = rw add-zero at (get_d_part c.args.words.now c.args.at 2 0 (omega arith)) in
    let b = get_d_part c.args.words.now c.args.at 2 1 (omega arith) in
    cc (a, b)
