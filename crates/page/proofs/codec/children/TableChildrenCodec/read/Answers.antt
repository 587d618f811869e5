use Rattle.std.proofs.Common.{add-zero, arith}
use Rattle.page.proofs.Images.{get_d_part}
use Rattle.page.proofs.codec.children.TableChildrenCodec.read.Goals as goal

pub returns : goal.returns
returns c =
    let a = rw add-zero at (get_d_part c.args.words.now c.args.at 3 0 (omega arith)) in
    let b = get_d_part c.args.words.now c.args.at 3 1 (omega arith) in
    let d = get_d_part c.args.words.now c.args.at 3 2 (omega arith) in
    cc (a, b, d)
