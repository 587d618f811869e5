-- Notes on lent memory: those that are written, and how many more have room.
-- Assumes nothing.
use Rattle.std.specs.Prelude.{ℕ, List}
use Rattle.playback.specs.declared.note.Note.{Note}

pub record Noted : Type 0 where
  pub written : List Note
  pub room : ℕ
