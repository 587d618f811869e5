-- The ground as memory, and what is left alone of it.
use Rattle.std.proofs.Common.{◌≡◌, ℕ, true, eqb, Option, refl, ap, eq-eqb, MatchOption}
use Rattle.store.specs.Memory.{Memory, Got, refused}
use Rattle.store.specs.Reserve.{Undone}
use Rattle.tree.specs.Pages.{Reading}
use Rattle.things.specs.Ground.{Ground, Obtains, got, none}
use Rattle.things.specs.Bridge.{memory_of}

-- a block was got, or refused
pub obtained : (g : Ground) (r : Option ℕ) (g' : Ground) → Obtains g r g' → MatchOption r (memory_of g' ≡ refused (memory_of g)) (λ b. Got (memory_of g) b (memory_of g'))
obtained g r g' (got b ws small new whole) =
    let e : eqb b b ≡ true = eq-eqb b b refl in record { small = small; new = new; whole = rw e whole; same = rw e refl }
obtained g r g' none = refl

-- no block is another than it was, and as many are held
pub record Untouched (g g' : Ground) : Type 0 where
  pub blocks : (c : ℕ) → g'.block c ≡ g.block c
  pub many : g'.many ≡ g.many

-- where it was only read
pub read_untouched : {k : ℕ} {g g' : Ground} → Reading k (memory_of g) (memory_of g') → Untouched g g'
read_untouched r = record { blocks = λ c. ap (λ (m : Memory). m.block c) r.is; many = ap (λ (m : Memory). m.many) r.is }

-- where a block was refused, and what was got before it was given back
pub undone_untouched : {k : ℕ} {g g' : Ground} → Undone k (memory_of g) (memory_of g') → Untouched g g'
undone_untouched u = record { blocks = u.same; many = u.many }
