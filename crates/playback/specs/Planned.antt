-- Which blocks a call is refused by its plan, and what is noted of its askings.
-- Assumes nothing.
use Rattle.std.specs.Prelude.{ℕ, ◌+◌, cond, List, length, nat_lt, slice_index_or, slice_set}
use Rattle.ration.specs.declared.Ration.{Ration}
use Rattle.ration.specs.Refusing.{refusing, limited}
use Rattle.playback.specs.declared.call.Call.{Call}
use Rattle.playback.specs.Played.{idle}

-- call j is to begin
abbrev pub planned : {B : Type 0} → List Call → ℕ → Ration B → Ration B
planned calls j s = limited (slice_index_or calls j idle).room (refusing (slice_index_or calls j idle).refuse s)

-- call j is over, and has asked so often
abbrev pub spent : List ℕ → ℕ → ℕ → List ℕ
spent asks j n = cond (nat_lt j (length asks)) (slice_set asks j n) asks

-- the call after call j, of so many
abbrev pub following : ℕ → ℕ → ℕ
following n j = cond (nat_lt j n) (j + 1) j
