use Rattle.std.proofs.Common.{arith}
use Rattle.playback.proofs.Replies.{delivered}
use Rattle.playback.proofs.player.Player.deliver.Goals as goal

pub returns : goal.returns
returns c =
    delivered c.args.calls.now c.copy_out.new.out c.written-notes.result.now c.min-n.result (omega arith) (omega arith) (omega arith) (rw c.written-notes.ensures c.args.self.now.honest) (λ j k. c.matching.ensures.same j (omega arith)) c.copy_out.ensures
