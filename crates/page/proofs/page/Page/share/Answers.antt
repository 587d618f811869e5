use Rattle.std.proofs.Common.{arith}
use Rattle.page.proofs.Lists.{moved_down, moved_up}
use Rattle.page.proofs.page.Page.share.Goals as goal

pub returns-then-len-count : goal.returns-then-len-count
returns-then-len-count g c =
    record {
      same = moved_down c.args.self.now c.args.right.now _ c.take_from_right.ensures.left c.take_from_right.ensures.right;
      left_len = omega arith;
      total = omega arith;
      right_few = omega arith;
      left_lent = omega arith;
      right_lent = omega arith;
    }

pub returns : goal.returns
returns g c =
    record {
      same = moved_up c.args.self.now c.args.right.now _ c.take_from_left.ensures.left c.take_from_left.ensures.right;
      left_len = omega arith;
      total = omega arith;
      right_few = omega arith;
      left_lent = omega arith;
      right_lent = omega arith;
    }
