-- What a ration shows of the ground below it, and when it refuses.
-- Assumes nothing.
use Rattle.std.specs.Prelude.{◌≡◌, ℕ, zero, suc, Bool, true, false, ◌||◌, Some, None, Option, nat_le}
use Rattle.things.specs.Ground.{Ground, Obtains, allowed}
use Rattle.meter.specs.Metered.{metered, unset, allowing, counting, counting_obtain, looking}
use Rattle.ration.specs.declared.Ration.{Ration}

-- the blocks of the ground below, within bounds of the ration's own
abbrev pub ground_of : {B : Type 0} → (B → Ground) → Ration B → Ground
ground_of as_ground s = metered (as_ground s.inner).block (as_ground s.inner).many s.meter

-- a ration that refuses nothing
abbrev pub fresh : {B : Type 0} → B → Ration B
fresh b = record { inner = b; meter = unset; pending = None; due = None; limit = None }

-- the k-th is to be refused: so many go through before it
abbrev pub before : ℕ → Option ℕ
before zero = None
before (suc k) = Some k

-- so many are the limit; 0: there is none
abbrev pub limit_at : ℕ → Option ℕ
limit_at zero = None
limit_at (suc n) = Some (suc n)

-- the k-th getting of the next call is to be refused
abbrev pub refusing : {B : Type 0} → ℕ → Ration B → Ration B
refusing k s = record s { pending = before k }

-- n blocks are the limit
abbrev pub limited : {B : Type 0} → ℕ → Ration B → Ration B
limited n s = record s { limit = limit_at n }

-- a call begins: what was named for it is due, and what was due is not
abbrev pub begun : {B : Type 0} → ℕ → ℕ → Ration B → Ration B
begun asks top s = record s { meter = allowing asks top s.meter; pending = None; due = s.pending }

-- it was looked whether a block was refused
abbrev pub seen : {B : Type 0} → Ration B → Ration B
seen s = record s { meter = looking s.meter }

-- the getting now is the one that was named
abbrev pub is_due : Option ℕ → Bool
is_due None = false
is_due (Some zero) = true
is_due (Some (suc n)) = false

-- what is due after a getting
abbrev pub due_next : Option ℕ → Option ℕ
due_next None = None
due_next (Some n) = before n

-- so many are held that no more may be
abbrev pub limit_reached : Option ℕ → ℕ → Bool
limit_reached None many = false
limit_reached (Some limit) many = nat_le limit many

-- a getting is refused: it is the one that was named, or no more may be held
abbrev pub is_refused : {B : Type 0} → (B → Ground) → Ration B → Bool
is_refused as_ground s = is_due s.due || limit_reached s.limit (as_ground s.inner).many

-- the ration, and what it stands on, is as it was
pub record Kept {B : Type 0} (as_ground : B → Ground) (s s' : Ration B) : Type 0 where
  pub below : as_ground s'.inner ≡ as_ground s.inner
  pub same : s' ≡ record s { inner = s'.inner }

-- it was found whether no more may be held
pub record Looked {B : Type 0} (as_ground : B → Ground) (s : Ration B) (r : Bool) (s' : Ration B) : Type 0 where
  pub answer : r ≡ limit_reached s.limit (as_ground s.inner).many
  pub kept : Kept as_ground s s'

-- the ground below was asked for one thing, and nothing else changed
pub record Passed {B : Type 0} (as_ground : B → Ground) (does : Ground → Ground) (s s' : Ration B) : Type 0 where
  pub below : as_ground s'.inner ≡ does (allowed 1 s.meter.top (as_ground s.inner))
  pub same : s' ≡ record s { inner = s'.inner; meter = counting s.meter }

-- it was found whether a getting is to be refused, and it counts
pub record Decided {B : Type 0} (as_ground : B → Ground) (s : Ration B) (r : Bool) (s' : Ration B) : Type 0 where
  pub answer : r ≡ is_refused as_ground s
  pub below : as_ground s'.inner ≡ as_ground s.inner
  pub same : s' ≡ record s { inner = s'.inner; due = due_next s.due }

-- a getting: refused, with the ground below untouched, or what that one gives; and it counts
pub record Rationed {B : Type 0} (as_ground : B → Ground) (s : Ration B) (r : Option ℕ) (s' : Ration B) : Type 0 where
  pub refused : is_refused as_ground s ≡ true → (r ≡ None) × (as_ground s'.inner ≡ as_ground s.inner)
  pub passed : is_refused as_ground s ≡ false → Obtains (allowed 1 s.meter.top (as_ground s.inner)) r (as_ground s'.inner)
  pub same : s' ≡ record s { inner = s'.inner; meter = counting_obtain r s.meter; due = due_next s.due }
