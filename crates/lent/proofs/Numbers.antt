-- Numbers that are free: below a limit, and no two alike.
use Rattle.std.proofs.Common.{◌≡◌, ℕ, zero, suc, ◌*◌, ◌<◌, ◌≤◌, false, min, nat_lt, nat_eq, List, [], ◌∷◌, length, take, drop, refl, inl, inr, arith, length-take, length-drop}
use Rattle.std.specs.List.{All, AllByRecursion, IsDistinct}
use Rattle.std.specs.Simd.{first_chunks}
use Rattle.std.proofs.lemmas.Bool.Decides.{nat_tests, eqb_tells}
use Rattle.std.proofs.lemmas.List.Elements.{All-from_recursion}
use Rattle.std.proofs.lemmas.List.Folds.{list_any_none}
use Rattle.std.proofs.lemmas.Map.Keys.{IsDistinct-head, IsDistinct-tail, IsDistinct-cons}
use Rattle.std.proofs.lemmas.Map.Steps.{length-le_from_distinct_below}
use Rattle.lent.specs.Free.{AreBelow, down_from, is_free}

-- a number that isn't among others differs from each
none_alike : (b : ℕ) (xs : List ℕ) → is_free xs b ≡ false → AllByRecursion (λ y. nat_eq b y ≡ false) xs
none_alike b [] h = tt
none_alike b (x ∷ xs) h = elim (eqb_tells b x) [
  | inl e ↦ grind (arith, e)
  | inr e ↦ (e.0, none_alike b xs (grind (arith, e)))
]

module _ (n b : ℕ) (xs : List ℕ) where
  pub pushed_below : b < n → AreBelow n xs → AreBelow n (b ∷ xs)
  pushed_below lt below c h = elim (eqb_tells c b) [
    | inl e ↦ rw e.1 lt
    | inr e ↦ below c (grind (arith, e))
  ]

  pub pushed_apart : is_free xs b ≡ false → IsDistinct nat_eq xs → IsDistinct nat_eq (b ∷ xs)
  pushed_apart h apart = IsDistinct-cons nat_eq b xs (none_alike b xs h) apart

  pub popped_below : AreBelow n (b ∷ xs) → AreBelow n xs
  popped_below below c h = below c (grind (arith, h))

  pub popped_apart : IsDistinct nat_eq (b ∷ xs) → IsDistinct nat_eq xs
  popped_apart = IsDistinct-tail nat_eq b xs

  pub popped_gone : IsDistinct nat_eq (b ∷ xs) → is_free xs b ≡ false
  popped_gone apart = list_any_none (nat_eq b) xs (All-from_recursion (λ y. nat_eq b y ≡ false) xs (IsDistinct-head nat_eq b xs apart))

-- there are at most as many of them as there are numbers
pub few : (n : ℕ) (xs : List ℕ) → AreBelow n xs → IsDistinct nat_eq xs → length xs ≤ n
few n xs below apart = length-le_from_distinct_below xs n apart below

-- one that isn't free leaves room for it
pub room_left : (n b : ℕ) (xs : List ℕ) → AreBelow n xs → IsDistinct nat_eq xs → b < n → is_free xs b ≡ false → length xs < n
room_left n b xs below apart lt h = few n (b ∷ xs) (pushed_below n b xs lt below) (pushed_apart n b xs h apart)

-- all below n
pub is_free-down_from : (n b : ℕ) → is_free (down_from n) b ≡ nat_lt b n
is_free-down_from zero b = grind (arith, nat_tests)
is_free-down_from (suc n) b = let i = is_free-down_from n b in grind (arith, nat_tests)

pub length-down_from : (n : ℕ) → length (down_from n) ≡ n
length-down_from zero = refl
length-down_from (suc n) = let i = length-down_from n in omega arith

pub all_below : (n : ℕ) → AreBelow n (down_from n)
all_below n b h = let i = is_free-down_from n b in grind (arith, nat_tests)

pub all_apart : (n : ℕ) → IsDistinct nat_eq (down_from n)
unfolding IsDistinct
all_apart zero = tt
all_apart (suc n) = let i = is_free-down_from n n in pushed_apart n n (down_from n) (grind (arith, nat_tests)) (all_apart n)

-- what is cut to the length of the shorter is as long
pub cut_alike : {X Y : Type 0} (xs : List X) (ys : List Y) (most k : ℕ) → k ≡ min (length xs) (min (length ys) most) → length (take k ys) ≡ length (take k xs)
cut_alike xs ys most k e = simp length-take (grind (arith, e))

-- chunks are whole
pub whole_chunks : (n k : ℕ) (xs : List ℕ) → k * n ≤ length xs → All (λ ws. length ws ≡ n) (first_chunks n k xs)
whole_chunks n zero xs h i d l = absurd (omega arith)
whole_chunks n (suc k) xs h zero d l = simp length-take (omega arith)
whole_chunks n (suc k) xs h (suc i) d l = whole_chunks n k (drop n xs) (simp length-drop (omega arith)) i d (omega arith)
