-- What a ration gives is what a ground may give.
use Rattle.std.proofs.Common.{◌≡◌, ℕ, Bool, true, false, None, Option, refl, sym, subst}
use Rattle.std.proofs.Math.Bool.{or-false, or-true}
use Rattle.things.specs.Ground.{Ground, Obtains, got, none, allowed}
use Rattle.meter.specs.declared.Meter.{Meter}
use Rattle.meter.specs.Metered.{metered, counting_obtain}
use Rattle.ration.specs.declared.Ration.{Ration}
use Rattle.ration.specs.Refusing.{ground_of, is_refused, Rationed}

-- what the ground below gives, seen within the bounds of a meter
through : (m : Meter) (top : ℕ) (g h : Ground) (r : Option ℕ) → Obtains (allowed 1 top g) r h → Obtains (metered g.block g.many m) r (metered h.block h.many (counting_obtain r m))
through m top g _ _ (got b ws small new long) = rw (or-false m.failed) (got b ws small new long)
through m top g _ _ none = rw (or-true m.failed) none

-- what it gives, or a refusal of the ration's own
either : (m : Meter) (top : ℕ) (g h : Ground) (r : Option ℕ) (b : Bool) → (b ≡ true → (r ≡ None) × (h ≡ g)) → (b ≡ false → Obtains (allowed 1 top g) r h)
    → Obtains (metered g.block g.many m) r (metered h.block h.many (counting_obtain r m))
either m top g h r true refused passed = let (p, q) = refused refl in rw (p, q, or-true m.failed) none
either m top g h r false refused passed = through m top g h r (passed refl)

module _ {B : Type 0} (as_ground : B → Ground) (s : Ration B) (r : Option ℕ) (s' : Ration B) (a : Rationed as_ground s r s') where
  pub rationed_obtains : Obtains (ground_of as_ground s) r (ground_of as_ground s')
  rationed_obtains =
      subst (λ (v : Ration B). Obtains (ground_of as_ground s) r (metered (as_ground s'.inner).block (as_ground s'.inner).many v.meter)) (sym a.same)
      (either s.meter s.meter.top (as_ground s.inner) (as_ground s'.inner) r (is_refused as_ground s) a.refused a.passed)
