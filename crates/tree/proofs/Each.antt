-- Sums over children, lists in a row, and what holds of each.
use Rattle.std.proofs.Common.{◌≡◌, ℕ, ◌+◌, List, [], ◌∷◌, ◌++◌, sym, refl, ap, ◌∙◌, ap₂, append_assoc, arith}
use Rattle.page.specs.declared.child.Child.{Child}
use Rattle.tree.specs.Tree.{total, flat, All}

pub All-map : (P Q : Child → Type 0) → ((k : Child) → P k → Q k) → (ks : List Child) → All P ks → All Q ks
unfolding All
All-map P Q g [] a = tt
All-map P Q g (k ∷ ks) a = (g k a.0, All-map P Q g ks a.1)

pub All-map₂ : (P Q R : Child → Type 0) → ((k : Child) → P k → Q k → R k) → (ks : List Child) → All P ks → All Q ks → All R ks
unfolding All
All-map₂ P Q R g [] a b = tt
All-map₂ P Q R g (k ∷ ks) a b = (g k a.0 b.0, All-map₂ P Q R g ks a.1 b.1)

pub flat_same : {E : Type 0} (g g' : ℕ → List E) (ks : List Child) → All (λ k. g' k.block ≡ g k.block) ks → flat g' ks ≡ flat g ks
unfolding All flat
flat_same g g' [] a = refl
flat_same g g' (k ∷ ks) a = ap₂ (λ x y. x ++ y) a.0 (flat_same g g' ks a.1)

pub total_same : (g g' : ℕ → ℕ) (ks : List Child) → All (λ k. g' k.block ≡ g k.block) ks → total g' ks ≡ total g ks
unfolding All total
total_same g g' [] a = refl
total_same g g' (k ∷ ks) a = ap₂ (λ x y. x + y) a.0 (total_same g g' ks a.1)

pub flat_append : {E : Type 0} (g : ℕ → List E) (xs ys : List Child) → flat g (xs ++ ys) ≡ flat g xs ++ flat g ys
unfolding flat
flat_append g [] ys = refl
flat_append g (x ∷ xs) ys = ap (λ z. g x.block ++ z) (flat_append g xs ys) ∙ sym (append_assoc (g x.block) (flat g xs) (flat g ys))

pub total_append : (g : ℕ → ℕ) (xs ys : List Child) → total g (xs ++ ys) ≡ total g xs + total g ys
unfolding total
total_append g [] ys = omega arith
total_append g (x ∷ xs) ys = omega (arith, total_append g xs ys)

pub All-++ : (P : Child → Type 0) (xs ys : List Child) → All P xs → All P ys → All P (xs ++ ys)
unfolding All
All-++ P [] ys a b = b
All-++ P (x ∷ xs) ys a b = (a.0, All-++ P xs ys a.1 b)

pub All-left : (P : Child → Type 0) (xs ys : List Child) → All P (xs ++ ys) → All P xs
unfolding All
All-left P [] ys a = tt
All-left P (x ∷ xs) ys a = (a.0, All-left P xs ys a.1)

pub All-right : (P : Child → Type 0) (xs ys : List Child) → All P (xs ++ ys) → All P ys
unfolding All
All-right P [] ys a = a
All-right P (x ∷ xs) ys a = All-right P xs ys a.1
