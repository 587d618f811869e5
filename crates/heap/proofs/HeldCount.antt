-- How many blocks are held, when one is obtained, written or released. Assumes nothing.
use Rattle.std.proofs.Common.{◌≡◌, ℕ, zero, suc, ◌+◌, ◌<◌, ◌≤◌, List, [], ◌∷◌, length, get_or, set, refl, ap, le_of_suc-le-suc, not-suc-le-zero, arith}
use Rattle.heap.specs.Owned.{held}

-- one more is held
pub held_more : (wss : List (List ℕ)) (b : ℕ) (w : ℕ) (ws : List ℕ) → b < length wss → length (get_or wss b []) ≡ 0 → held (set wss b (w ∷ ws)) ≡ held wss + 1
unfolding held
held_more [] b w ws l e = absurd (not-suc-le-zero l)
held_more ([] ∷ wss) zero w ws l e = refl
held_more ((v ∷ vs) ∷ wss) zero w ws l e = let z : suc (length vs) ≤ 0 = omega arith in absurd (not-suc-le-zero z)
held_more ([] ∷ wss) (suc b) w ws l e = held_more wss b w ws (le_of_suc-le-suc l) e
held_more ((v ∷ vs) ∷ wss) (suc b) w ws l e = ap (λ (n : ℕ). n + 1) (held_more wss b w ws (le_of_suc-le-suc l) e)

-- one fewer is held
pub held_less : (wss : List (List ℕ)) (b : ℕ) → b < length wss → 0 < length (get_or wss b []) → held wss ≡ held (set wss b []) + 1
unfolding held
held_less [] b l e = absurd (not-suc-le-zero l)
held_less ([] ∷ wss) zero l e = absurd (not-suc-le-zero e)
held_less ((v ∷ vs) ∷ wss) zero l e = refl
held_less ([] ∷ wss) (suc b) l e = held_less wss b (le_of_suc-le-suc l) e
held_less ((v ∷ vs) ∷ wss) (suc b) l e = ap (λ (n : ℕ). n + 1) (held_less wss b (le_of_suc-le-suc l) e)

-- as many are held when the words of one change
pub held_same : (wss : List (List ℕ)) (b : ℕ) (ws : List ℕ) → length ws ≡ length (get_or wss b []) → held (set wss b ws) ≡ held wss
unfolding held
held_same [] b ws e = refl
held_same ([] ∷ wss) zero [] e = refl
held_same ([] ∷ wss) zero (w ∷ ws) e = let z : suc (length ws) ≤ 0 = omega arith in absurd (not-suc-le-zero z)
held_same ((v ∷ vs) ∷ wss) zero [] e = let z : suc (length vs) ≤ 0 = omega arith in absurd (not-suc-le-zero z)
held_same ((v ∷ vs) ∷ wss) zero (w ∷ ws) e = refl
held_same ([] ∷ wss) (suc b) ws e = held_same wss b ws e
held_same ((v ∷ vs) ∷ wss) (suc b) ws e = ap (λ (n : ℕ). n + 1) (held_same wss b ws e)

-- a block that is held is one of the heap's
pub below_length : (wss : List (List ℕ)) (b : ℕ) → 0 < length (get_or wss b []) → b < length wss
below_length [] b l = absurd (not-suc-le-zero l)
below_length (ws ∷ wss) zero l = omega arith
below_length (ws ∷ wss) (suc b) l = let h : b < length wss = below_length wss b l in omega arith
