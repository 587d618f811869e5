-- Sums over the numbers below n.
use Rattle.std.proofs.Common.{◌≡◌, ℕ, zero, suc, ◌+◌, ◌<◌, ◌≤◌, refl, ap, ◌∙◌, arith}
use native.Mathlib.Decide.{ℕ_discrete}
use Rattle.std.proofs.lemmas.Bool.{eq-eqb, ne_eqb}
use Rattle.store.specs.Steps.{sum_to, hit}

pub hit_same : (b : ℕ) → hit b b ≡ 1
unfolding hit
hit_same b = rw (eq-eqb b b refl)

pub hit_other : (b c : ℕ) → (c ≡ b → ⊥) → hit b c ≡ 0
unfolding hit
hit_other b c n = rw (ne_eqb c b n)

pub sum_to_same : (n : ℕ) (g g' : ℕ → ℕ) → ((i : ℕ) → i < n → g' i ≡ g i) → sum_to n g' ≡ sum_to n g
unfolding sum_to
sum_to_same zero g g' e = refl
sum_to_same (suc n) g g' e = omega (arith, sum_to_same n g g' (λ i l. e i (omega arith)), e n (omega arith))

-- only at j
pub sum_to_one : (n j : ℕ) (g g' : ℕ → ℕ) → j < n → ((i : ℕ) → i < n → (i ≡ j → ⊥) → g' i ≡ g i) → sum_to n g' + g j ≡ sum_to n g + g' j
unfolding sum_to
sum_to_one zero j g g' l e = absurd (omega arith)
sum_to_one (suc n) j g g' l e = elim (ℕ_discrete n j) [
  | yes p ↦ omega (arith, ap g p, ap g' p, sum_to_same n g g' (λ i m. e i (omega arith) (λ z. omega arith)))
  | no p ↦ omega (arith, sum_to_one n j g g' (omega arith) (λ i m z. e i (omega arith) z), e n (omega arith) p)
]

-- at j and k
pub sum_to_two : (n j k : ℕ) (g g' : ℕ → ℕ) → j < n → k < n → (j ≡ k → ⊥) → ((i : ℕ) → i < n → (i ≡ j → ⊥) → (i ≡ k → ⊥) → g' i ≡ g i) → sum_to n g' + (g j + g k) ≡ sum_to n g + (g' j + g' k)
unfolding sum_to
sum_to_two zero j k g g' l m d e = absurd (omega arith)
sum_to_two (suc n) j k g g' l m d e = elim (ℕ_discrete n j) [
  | yes p ↦ omega (arith, ap g p, ap g' p, sum_to_one n k g g' (omega arith) (λ i o z. e i (omega arith) (λ y. omega arith) z))
  | no p ↦ elim (ℕ_discrete n k) [
    | yes q ↦ omega (arith, ap g q, ap g' q, sum_to_one n j g g' (omega arith) (λ i o z. e i (omega arith) z (λ y. omega arith)))
    | no q ↦ omega (arith, sum_to_two n j k g g' (omega arith) (omega arith) d (λ i o y z. e i (omega arith) y z), e n (omega arith) p q)
  ]
]

pub sum_to_le : (n : ℕ) (g g' : ℕ → ℕ) → ((i : ℕ) → i < n → g i ≤ g' i) → sum_to n g ≤ sum_to n g'
unfolding sum_to
sum_to_le zero g g' e = omega arith
sum_to_le (suc n) g g' e = omega (arith, sum_to_le n g g' (λ i l. e i (omega arith)), e n (omega arith))

pub at_sum_to : (n j : ℕ) (g : ℕ → ℕ) → j < n → g j ≤ sum_to n g
unfolding sum_to
at_sum_to zero j g l = absurd (omega arith)
at_sum_to (suc n) j g l = elim (ℕ_discrete n j) [ yes p ↦ omega (arith, ap g p) | no p ↦ omega (arith, at_sum_to n j g (omega arith)) ]

pub sum_to_add : (n : ℕ) (g k : ℕ → ℕ) → sum_to n (λ i. g i + k i) ≡ sum_to n g + sum_to n k
unfolding sum_to
sum_to_add zero g k = refl
sum_to_add (suc n) g k = omega (arith, sum_to_add n g k)

pub sum_to_none : (n : ℕ) → sum_to n (λ i. 0) ≡ 0
unfolding sum_to
sum_to_none zero = refl
sum_to_none (suc n) = omega (arith, sum_to_none n)

pub sum_to_hit : (n b : ℕ) → b < n → sum_to n (hit b) ≡ 1
sum_to_hit n b l = omega (arith, sum_to_one n b (λ i. 0) (hit b) l (λ i m e. hit_other b i e), sum_to_none n, hit_same b)

pub sum_to_swap : (n m : ℕ) (u : ℕ → ℕ → ℕ) → sum_to n (λ c. sum_to m (λ j. u j c)) ≡ sum_to m (λ j. sum_to n (u j))
unfolding sum_to
sum_to_swap n zero u = sum_to_none n
sum_to_swap n (suc m) u = sum_to_add n (λ c. sum_to m (λ j. u j c)) (u m) ∙ ap (λ x. x + sum_to n (u m)) (sum_to_swap n m u)
