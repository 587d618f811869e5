-- Where a key is in pairs by rising keys.
use Rattle.std.proofs.Common.{◌≡◌, ℕ, ◌≤◌, true, false, cond, ltb, List, [], ◌∷◌, ◌++◌, refl, ap, ◌∙◌, arith}
use Rattle.std.proofs.lemmas.Bool.{lt-ltb, le-ltb}
use Rattle.page.specs.declared.entry.Pair.{Pair}
use Rattle.tree.specs.Keys.{below, from, Starts, AllAbove, AllBelow, Sorted}

above_parts : (m : ℕ) (xs ys : List Pair) → AllAbove m (xs ++ ys) → AllAbove m xs × AllAbove m ys
unfolding AllAbove
above_parts m [] ys w = (tt, w)
above_parts m (x ∷ xs) ys w = let z = above_parts m xs ys w.1 in ((w.0, z.0), z.1)

-- what rises, in two parts
pub sorted_parts : (xs : List Pair) (y : Pair) (ys : List Pair) → Sorted (xs ++ (y ∷ ys)) → Sorted xs × AllBelow y.key xs × Sorted (y ∷ ys)
unfolding Sorted AllAbove AllBelow
sorted_parts [] y ys w = (tt, tt, w)
sorted_parts (x ∷ xs) y ys w =
    let z = sorted_parts xs y ys w.1 in
    let o = above_parts x.key xs (y ∷ ys) w.0 in
    ((o.0, z.0), (o.1.0, z.1), z.2)

pub below_more : (m k : ℕ) (xs : List Pair) → m ≤ k → AllBelow m xs → AllBelow k xs
unfolding AllBelow
below_more m k [] l w = tt
below_more m k (x ∷ xs) l w = (omega (arith, w.0), below_more m k xs l w.1)

-- past what is below the key
pub below_past : (k : ℕ) (xs ys : List Pair) → AllBelow k xs → below k (xs ++ ys) ≡ xs ++ below k ys
unfolding below AllBelow
below_past k [] ys w = refl
below_past k (x ∷ xs) ys w = rw (lt-ltb x.key k w.0) (ap (λ z. x ∷ z) (below_past k xs ys w.1))

pub from_past : (k : ℕ) (xs ys : List Pair) → AllBelow k xs → from k (xs ++ ys) ≡ from k ys
unfolding from AllBelow
from_past k [] ys w = refl
from_past k (x ∷ xs) ys w = rw (lt-ltb x.key k w.0) (from_past k xs ys w.1)

-- before what begins at the key or above it
pub below_before : (k : ℕ) (xs ys : List Pair) → Starts k ys → below k (xs ++ ys) ≡ below k xs
unfolding below Starts
below_before k [] [] w = refl
below_before k [] (y ∷ ys) w = rw (le-ltb y.key k w)
below_before k (x ∷ xs) ys w = ap (λ z. cond (ltb x.key k) (x ∷ z) []) (below_before k xs ys w)

pub from_before : (k : ℕ) (xs ys : List Pair) → Starts k ys → from k (xs ++ ys) ≡ from k xs ++ ys
unfolding from Starts
from_before k [] [] w = refl
from_before k [] (y ∷ ys) w = rw (le-ltb y.key k w)
from_before k (x ∷ xs) ys w = elim (ltb x.key k) as (λ v. cond v (from k (xs ++ ys)) (x ∷ (xs ++ ys)) ≡ cond v (from k xs) (x ∷ xs) ++ ys) [ true ↦ from_before k xs ys w | false ↦ refl ]

-- in the middle
pub below_middle : (k : ℕ) (xs ys zs : List Pair) → AllBelow k xs → Starts k zs → below k (xs ++ (ys ++ zs)) ≡ xs ++ below k ys
below_middle k xs ys zs u s = below_past k xs (ys ++ zs) u ∙ ap (λ z. xs ++ z) (below_before k ys zs s)

pub from_middle : (k : ℕ) (xs ys zs : List Pair) → AllBelow k xs → Starts k zs → from k (xs ++ (ys ++ zs)) ≡ from k ys ++ zs
from_middle k xs ys zs u s = from_past k xs (ys ++ zs) u ∙ from_before k ys zs s
