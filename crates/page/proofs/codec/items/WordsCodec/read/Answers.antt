use Rattle.std.proofs.Common.{sym, add-zero, arith}
use Rattle.page.proofs.Images.{get_d_part}
use Rattle.page.proofs.codec.items.WordsCodec.read.Goals as goal

pub returns : goal.returns
returns c = sym (rw add-zero at (get_d_part c.args.words.now c.args.at 1 0 (omega arith)))
