use Rattle.std.proofs.Common.{◌≡◌, ℕ, ◌<◌}
use Rattle.playback.specs.Played.{replies, replies_in}
use Rattle.playback.proofs.player.copy_out.Given as goal

abbrev pub invariant-loop-j : goal.invariant-loop-j
invariant-loop-j l = (k : ℕ) → k < l.j → replies l.out k ≡ replies_in l.notes k
