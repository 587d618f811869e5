-- The ground that a heap is, when the words of one block change. Assumes nothing.
use Rattle.std.proofs.Common.{inl, inr, ◌≡◌, ℕ, zero, suc, ◌<◌, Bool, cond, eqb, ◌≢◌, List, [], ◌∷◌, length, get_or, set, sym, refl, ap, ◌∙◌, get_or-set_other, get_or-set_same}
use Rattle.std.proofs.lemmas.Bool.{cases_eq, cond-true, cond-false, eq-eqb, ne_eqb}
use Rattle.things.specs.Ground.{Ground}

pub ground_is : (f g : ℕ → List ℕ) → ((c : ℕ) → f c ≡ g c) → (m n : ℕ) → m ≡ n → (l t : ℕ) (y : Bool)
    → ◌≡◌ {A = Ground} (record { block = f; many = m; left = l; top = t; failed = y }) (record { block = g; many = n; left = l; top = t; failed = y })
ground_is f g p m n e l t y = λ j. record { block = λ c. p c j; many = e j; left = l; top = t; failed = y }

pub by_eq : {X : Type 0} (j k : ℕ) → (j ≡ k → X) → (j ≢ k → X) → X
by_eq j k f g = elim (cases_eq j k) [ inl e ↦ f e | inr ne ↦ g ne ]

pub block_set : (wss : List (List ℕ)) (b : ℕ) (ws : List ℕ) → b < length wss → (c : ℕ) → get_or (set wss b ws) c [] ≡ cond (eqb c b) ws (get_or wss c [])
block_set wss b ws l c = by_eq c b
    (λ e. ap (λ (z : ℕ). get_or (set wss b ws) z []) e ∙ get_or-set_same wss b ws [] l ∙ sym (cond-true (eqb c b) ws (get_or wss c []) (eq-eqb c b e)))
    (λ ne. get_or-set_other wss b c ws [] ne ∙ sym (cond-false (eqb c b) ws (get_or wss c []) (ne_eqb c b ne)))

-- the lengths of all blocks, when one gets as many other words, and those of the others
pub lengths_same : (wss : List (List ℕ)) (b : ℕ) (ws : List ℕ) → length ws ≡ length (get_or wss b []) → (c : ℕ) → length (get_or (set wss b ws) c []) ≡ length (get_or wss c [])
lengths_same [] b ws e c = refl
lengths_same (v ∷ wss) zero ws e zero = e
lengths_same (v ∷ wss) zero ws e (suc c) = refl
lengths_same (v ∷ wss) (suc b) ws e zero = refl
lengths_same (v ∷ wss) (suc b) ws e (suc c) = lengths_same wss b ws e c

pub lengths_other : (wss : List (List ℕ)) (b : ℕ) (ws : List ℕ) (c : ℕ) → c ≢ b → length (get_or (set wss b ws) c []) ≡ length (get_or wss c [])
lengths_other wss b ws c ne = ap length (get_or-set_other wss b c ws [] ne)
