-- What a meter counts, and blocks within its bounds as a ground.
-- Assumes nothing.
use Rattle.std.specs.Prelude.{ℕ, ◌-◌, false, not, ◌||◌, List, Option, is_some}
use Rattle.things.specs.Ground.{Ground}
use Rattle.meter.specs.declared.Meter.{Meter}

-- these blocks, of which so many are held
abbrev pub metered : (ℕ → List ℕ) → ℕ → Meter → Ground
metered block many m = record { block = block; many = many; left = m.left; top = m.top; failed = m.failed }

-- nothing is allowed yet, and nothing was refused
abbrev pub unset : Meter
unset = record { left = 0; top = 0; failed = false }

-- so many askings are allowed, and so many blocks may be held
abbrev pub allowing : ℕ → ℕ → Meter → Meter
allowing asks top m = record m { left = asks; top = top }

-- one asking is made
abbrev pub counting : Meter → Meter
counting m = record m { left = m.left - 1 }

-- one asking for a block is made, and comes to this
abbrev pub counting_obtain : Option ℕ → Meter → Meter
counting_obtain got m = record m { left = m.left - 1; failed = m.failed || not (is_some got) }

-- it is looked whether a block was refused
abbrev pub looking : Meter → Meter
looking m = record m { failed = false }
