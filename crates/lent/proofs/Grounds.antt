-- What a change of the free numbers is to the ground.
use Rattle.std.proofs.Common.{◌≡◌, ℕ, ◌+◌, ◌-◌, ◌<◌, ◌≤◌, false, List, [], ◌∷◌, length, get_or, nat_eq, Some, None, MatchOption, Option, sym, ◌∙◌, subst, inl, inr, arith}
use mathlib.Core.Path.{fun_ext}
use Rattle.std.specs.List.{All, IsDistinct}
use Rattle.std.proofs.Math.Bool.{or-false, or-true}
use Rattle.std.proofs.lemmas.Bool.Decides.{nat_tests, eqb_tells, leb_tells}
use Rattle.std.proofs.lemmas.List.{get_or_past}
use Rattle.things.specs.Ground.{Ground, AtStart, Obtains, got, none, at}
use Rattle.meter.specs.declared.Meter.{Meter}
use Rattle.meter.specs.Metered.{counting_obtain}
use Rattle.lent.specs.Sizes.{block_words, most_blocks}
use Rattle.lent.specs.Free.{AreBelow, down_from, is_free}
use Rattle.lent.specs.Lying.{block_of, lying}
use Rattle.lent.proofs.Numbers.{few, popped_below, popped_apart, popped_gone, is_free-down_from, length-down_from}

-- a block that is held is one of them, and isn't free
pub held_not_free : (bs : List (List ℕ)) (free : List ℕ) (b : ℕ) → length (block_of bs free b) ≡ block_words → is_free free b ≡ false
held_not_free bs free b h = grind arith

pub held_below : (bs : List (List ℕ)) (free : List ℕ) (b : ℕ) → length (block_of bs free b) ≡ block_words → b < length bs
held_below bs free b h = elim (leb_tells (length bs) b) [
  | inl p ↦ let e = get_or_past bs b [] p.1 in grind (arith, e)
  | inr p ↦ p.1
]

module _ (bs : List (List ℕ)) (b : ℕ) (free : List ℕ) (whole : All (λ ws. length ws ≡ block_words) bs) (few_blocks : length bs ≤ most_blocks) where
  block_got : is_free free b ≡ false → block_of bs free ≡ at b (get_or bs b []) (block_of bs (b ∷ free))
  block_got h = fun_ext (λ c. elim (eqb_tells c b) [
    | inl e ↦ grind (arith, nat_tests, e)
    | inr e ↦ grind (arith, nat_tests, e)
  ])

  block_free : block_of bs (b ∷ free) b ≡ []
  block_free = grind (arith, nat_tests)

  -- the number on top goes
  pub obtained : (m : Meter) → AreBelow (length bs) (b ∷ free) → IsDistinct nat_eq (b ∷ free)
      → Obtains (lying bs (b ∷ free) m) (Some b) (lying bs free (counting_obtain (Some b) m))
  obtained m below apart =
      let lt : b < length bs = below b (grind (arith, nat_tests)) in
      let fit : length free < length bs = few (length bs) (b ∷ free) below apart in
      let ws : List ℕ = get_or bs b [] in
      let e : length bs - length (b ∷ free) + 1 ≡ length bs - length free = omega arith in
      let f : at b ws (block_of bs (b ∷ free)) ≡ block_of bs free = sym (block_got (popped_gone (length bs) b free apart)) in
      subst (λ (g : Ground). Obtains (lying bs (b ∷ free) m) (Some b) g) (λ i. record { block = f i; many = e i; left = m.left - 1; top = m.top; failed = sym (or-false m.failed) i })
      (got b ws (omega arith) block_free (whole b [] lt))

-- none is left
pub refused : (bs : List (List ℕ)) (m : Meter) → Obtains (lying bs [] m) None (lying bs [] (counting_obtain None m))
refused bs m = rw (or-true m.failed) none

-- what a pop is to the numbers that are free, and to the ground
abbrev pub Pops : List ℕ → Option ℕ → List ℕ → Type 0
Pops free r free' = MatchOption r ((free ≡ []) × (free' ≡ [])) (λ b. free ≡ b ∷ free')

module _ (n : ℕ) (free free' : List ℕ) where
  pub still_below : (r : Option ℕ) → Pops free r free' → AreBelow n free → AreBelow n free'
  still_below None (p, q) below = subst (AreBelow n) (p ∙ sym q) below
  still_below (Some b) p below = popped_below n b free' (subst (AreBelow n) p below)

  pub still_apart : (r : Option ℕ) → Pops free r free' → IsDistinct nat_eq free → IsDistinct nat_eq free'
  still_apart None (p, q) apart = subst (IsDistinct nat_eq) (p ∙ sym q) apart
  still_apart (Some b) p apart = popped_apart n b free' (subst (IsDistinct nat_eq) p apart)

module _ (bs : List (List ℕ)) (whole : All (λ ws. length ws ≡ block_words) bs) (few_blocks : length bs ≤ most_blocks) (free free' : List ℕ) (m m' : Meter) where
  pub popped : (r : Option ℕ) → Pops free r free' → AreBelow (length bs) free → IsDistinct nat_eq free → m' ≡ counting_obtain r m
      → Obtains (lying bs free m) r (lying bs free' m')
  popped None (p, q) below apart e = rw (e, p, q) (refused bs m)
  popped (Some b) p below apart e =
      subst (λ (v : Meter). Obtains (lying bs free m) (Some b) (lying bs free' v)) (sym e)
      (subst (λ (xs : List ℕ). Obtains (lying bs xs m) (Some b) (lying bs free' (counting_obtain (Some b) m))) (sym p)
      (obtained bs b free' whole few_blocks m (subst (AreBelow (length bs)) p below) (subst (IsDistinct nat_eq) p apart)))

-- at the start
pub at_start : (bs : List (List ℕ)) (m : Meter) → m.failed ≡ false → AtStart (lying bs (down_from (length bs)) m)
at_start bs m quiet = (
  λ b. let i = is_free-down_from (length bs) b in
      elim (leb_tells (length bs) b) [
        | inl p ↦ let e = get_or_past bs b [] p.1 in grind (arith, nat_tests, e)
        | inr p ↦ grind (arith, nat_tests, p)
      ],
  (let e = length-down_from (length bs) in omega (arith, e)),
  quiet,
)
