use Rattle.std.proofs.Common.{length}
use Rattle.playback.specs.Played.{asks_in, replies_in, played}
use Rattle.playback.proofs.Replies.{noted_played, noted_honest, tells_honest}
use Rattle.playback.proofs.player.PlayerUsers.told.Goals as goal

pub invariant_of-self : goal.invariant_of-self
invariant_of-self c =
    let ns = c.args.self.now.notes.written in
    let x = c.of.result in
    let r = tells_honest c.args.o c.args.a c.args.failed c.args.many x (played (asks_in ns) (replies_in ns) (length ns)) c.of.ensures c.requires.1.0 c.requires.1.1 in
    record { honest = rw c.push.ensures.written (noted_honest ns x c.args.self.now.honest r) }

pub returns : goal.returns
returns c = rw c.push.ensures.written (noted_played c.args.o c.args.a c.args.failed c.args.many c.args.self.now.notes.written c.of.result c.of.ensures)
