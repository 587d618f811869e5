-- What calls and the replies to them come to, and when replies may be given.
-- Assumes nothing.
use Rattle.std.specs.Prelude.{◌≡◌, ℕ, zero, suc, ◌<◌, ◌≤◌, Bool, List, length, get_or, ◌==◌, nat_eq, slice_index_or}
use Rattle.things.specs.declared.Op.{Op}
use Rattle.things.specs.declared.Answer.{Answer}
use Rattle.things.specs.Things.{Shelf, Right, after, empty, may_hold}
use Rattle.things.specs.Promise.{can}
use Rattle.playback.specs.declared.call.Call.{Call}
use Rattle.playback.specs.declared.note.Note.{Note}
use Rattle.playback.specs.declared.note.Reply.{Reply}
use Rattle.playback.specs.Numbers.{op_of, answer_of}

-- what stands behind the last
abbrev pub idle : Call
idle = record { asked = record { code = 0; name = 0; other = 0; «at» = 0; word = 0 }; refuse = 0; room = 0 }

abbrev pub silent : Reply
silent = record { tag = 0; reason = 0; a = 0; b = 0; refused = 0; held = 0 }

abbrev pub blank : Note
blank = record { asked = idle.asked; reply = silent }

-- what is asked j-th, and the reply: by calls and replies, and by notes
abbrev pub asks : List Call → ℕ → Op
asks cs j = op_of (get_or cs j idle).asked

abbrev pub replies : List Reply → ℕ → Reply
replies rs j = slice_index_or rs j silent

abbrev pub asks_in : List Note → ℕ → Op
asks_in ns j = op_of (get_or ns j blank).asked

abbrev pub replies_in : List Note → ℕ → Reply
replies_in ns j = (get_or ns j blank).reply

-- things after the first n calls, if these were the replies
unfoldable pub played : (ℕ → Op) → (ℕ → Reply) → ℕ → Shelf
played o r zero = empty
played o r (suc n) = after (o n) (answer_of (r n)) (played o r n)

-- the reply may be given to this call, and so many blocks may be held, when things are s
pub record Honest (o : Op) (x : Reply) (s : Shelf) : Type 0 where
  pub right : Right can s o (x.refused == 1) (answer_of x) (after o (answer_of x) s)
  pub few : x.held ≤ may_hold (after o (answer_of x) s)

-- the first n replies may, each after those before it
abbrev pub AllHonest : (ℕ → Op) → (ℕ → Reply) → ℕ → Type 0
AllHonest o r n = (j : ℕ) → j < n → ∥ Honest (o j) (r j) (played o r j) ∥₁

-- a note of this call and this answer
pub record Tells (o : Op) (a : Answer) (failed : Bool) (many : ℕ) (x : Note) : Type 0 where
  pub asked : op_of x.asked ≡ o
  pub told : answer_of x.reply ≡ a
  pub refused : nat_eq x.reply.refused 1 ≡ failed
  pub held : x.reply.held ≡ many

-- n calls have their replies
pub record Answered (n : ℕ) (cs : List Call) (rs : List Reply) : Type 0 where
  pub calls : n ≤ length cs
  pub room : n ≤ length rs
  pub honest : AllHonest (asks cs) (replies rs) n
