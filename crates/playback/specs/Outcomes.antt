-- What comes of a script from outside.
-- Assumes nothing.
use Rattle.std.specs.Prelude.{◌≡◌, ℕ, ◌<◌, ◌≤◌, List, length, ◌≢◌, slice_index_or}
use Rattle.playback.specs.declared.call.Call.{Call}
use Rattle.playback.specs.declared.note.Note.{Note}
use Rattle.playback.specs.declared.note.Reply.{Reply}
use Rattle.playback.specs.declared.outcome.Outcome.{Outcome}
use Rattle.playback.specs.declared.outcome.Refused.{Refused}
use Rattle.playback.specs.declared.outcome.Refused.TheVariants.{UnknownCall, TooShort}
use Rattle.playback.specs.Played.{idle, Answered}

abbrev pub code_at : List Call → ℕ → ℕ
code_at cs j = (slice_index_or cs j idle).asked.code

-- the first whose code is of no call, or how many there are
pub record FirstUnknown (cs : List Call) (n : ℕ) : Type 0 where
  pub within : n ≤ length cs
  pub known : (j : ℕ) → j < n → code_at cs j < 18
  pub unknown : n < length cs → 18 ≤ code_at cs n

-- there is room for what is noted of each call
pub record Room (cs : List Call) (ds : List Note) (rs : List Reply) (ks : List ℕ) : Type 0 where
  pub draft : length cs ≤ length ds
  pub replies : length cs ≤ length rs
  pub asks : length cs ≤ length ks

-- nothing was written
pub record Untouched (ds : List Note) (rs : List Reply) (ks : List ℕ) (ds' : List Note) (rs' : List Reply) (ks' : List ℕ) : Type 0 where
  pub draft : ds' ≡ ds
  pub replies : rs' ≡ rs
  pub asks : ks' ≡ ks

-- the number by which it is refused
abbrev pub number_of : Refused → ℕ
number_of UnknownCall = 1
number_of TooShort = 2

-- played; or refused, by 1 for a code of no call and by 2 for want of room, and then nothing was written
pub record Ended (cs : List Call) (ds : List Note) (rs : List Reply) (ks : List ℕ) (r : Outcome) (ds' : List Note) (rs' : List Reply) (ks' : List ℕ) : Type 0 where
  pub known : (FirstUnknown cs (length cs) → r.refused ≢ 1)
  pub unknown : (n : ℕ) → n < length cs → 18 ≤ code_at cs n → r.refused ≡ 1
  pub short : (Room cs ds rs ks → ⊥) → r.refused ≢ 0
  pub roomy : Room cs ds rs ks → r.refused ≢ 2
  pub few : r.refused ≤ 2
  pub played : r.refused ≡ 0 → Answered r.told cs rs'
  pub untouched : 0 < r.refused → Untouched ds rs ks ds' rs' ks'
