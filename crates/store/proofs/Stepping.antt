-- Steps one after the other, and beside what they leave alone.
use Rattle.std.proofs.Common.{◌≡◌, ℕ, ◌+◌, ◌*◌, ◌<◌, ◌≤◌, List, [], refl, ap, ◌∙◌, arith}
use native.Mathlib.Decide.{ℕ_discrete}
use Rattle.std.proofs.lemmas.Bool.{eq-eqb, ne_eqb}
use Rattle.store.specs.Memory.{at}
use Rattle.store.specs.Steps.{Mem, Same, Step, held, hit, some, sum_to}
use Rattle.store.proofs.Sums.{hit_same, hit_other, sum_to_one}

module _ (u v w : ℕ → ℕ) (f g h : Mem) where
  pub step_then : Step u v f g → Step v w g h → Step u w f h
  step_then p q = record {
    balanced = λ c. omega (arith, p.balanced c, q.balanced c);
    leaves = λ c n.
        let e : g c ≡ f c = p.leaves c n in
        q.leaves c (omega (arith, p.balanced c, ap some e)) ∙ e;
  }

module _ (u u' v : ℕ → ℕ) (f g : Mem) (s : Step u u' f g) where
  pub step_beside : Step (λ c. u c + v c) (λ c. u' c + v c) f g
  step_beside = record {
    balanced = λ c. omega (arith, s.balanced c);
    leaves = λ c n. s.leaves c (omega arith);
  }

  -- what fits beside is the same, and fits beside afterwards
  pub step_same : ((c : ℕ) → u c + v c ≤ held f c) → Same v f g
  step_same a c n = s.leaves c (omega (arith, a c))

  pub step_fits : ((c : ℕ) → u c + v c ≤ held f c) → (c : ℕ) → u' c + v c ≤ held g c
  step_fits a c = omega (arith, a c, s.balanced c)

pub step_as : (u u' v v' : ℕ → ℕ) (f g : Mem) → ((c : ℕ) → v c ≡ u c) → ((c : ℕ) → v' c ≡ u' c) → Step u u' f g → Step v v' f g
step_as u u' v v' f g a b s = record {
  balanced = λ c. omega (arith, a c, b c, s.balanced c);
  leaves = λ c n. s.leaves c (omega (arith, a c));
}

pub step_none : (u : ℕ → ℕ) (f : Mem) → Step u u f f
step_none u f = record { balanced = λ c. refl; leaves = λ c n. refl }

-- the memory's own steps
pub at_same : (b : ℕ) (ws : List ℕ) (f : Mem) → at b ws f b ≡ ws
at_same b ws f = rw (eq-eqb b b refl)

pub at_other : (b : ℕ) (ws : List ℕ) (f : Mem) (c : ℕ) → (c ≡ b → ⊥) → at b ws f c ≡ f c
at_other b ws f c n = rw (ne_eqb c b n)

-- a block's words are others now: n uses of it before, n' after
pub step_at : (b : ℕ) (ws : List ℕ) (f : Mem) (n n' : ℕ) → n' + held f b ≡ n + some ws → held f b ≤ n → Step (λ c. n * hit b c) (λ c. n' * hit b c) f (at b ws f)
step_at b ws f n n' e l = record { balanced = λ c. bal c (ℕ_discrete c b); leaves = λ c m. leave c m (ℕ_discrete c b) }
  where
    here : n' * hit b b + held f b ≡ n * hit b b + held (at b ws f) b
    here = rw (hit_same b, at_same b ws f) (omega arith)

    bal : (c : ℕ) → Dec (c ≡ b) → n' * hit b c + held f c ≡ n * hit b c + held (at b ws f) c
    bal c (yes p) = rw p here
    bal c (no p) = rw (hit_other b c p, at_other b ws f c p) (omega arith)

    leave : (c : ℕ) → n * hit b c < held f c → Dec (c ≡ b) → at b ws f c ≡ f c
    leave c m (yes p) = absurd (omega (arith, l, rw (p, hit_same b) at m))
    leave c m (no p) = at_other b ws f c p

pub step_obtain : (b : ℕ) (ws : List ℕ) (f : Mem) → held f b ≡ 0 → some ws ≡ 1 → Step (λ c. 0) (hit b) f (at b ws f)
step_obtain b ws f e w = step_as _ _ _ _ f (at b ws f) (λ c. omega arith) (λ c. omega arith) (step_at b ws f 0 1 (omega arith) (omega arith))

pub step_release : (b : ℕ) (f : Mem) → held f b ≡ 1 → Step (hit b) (λ c. 0) f (at b [] f)
unfolding some
step_release b f e = step_as _ _ _ _ f (at b [] f) (λ c. omega arith) (λ c. omega arith) (step_at b [] f 1 0 (omega arith) (omega arith))

pub step_write : (b : ℕ) (ws : List ℕ) (f : Mem) → held f b ≡ 1 → some ws ≡ 1 → Step (hit b) (hit b) f (at b ws f)
step_write b ws f e w = step_as _ _ _ _ f (at b ws f) (λ c. omega arith) (λ c. omega arith) (step_at b ws f 1 1 (omega arith) (omega arith))

-- After a step that owns v, a part of that, u, makes a step of its own: the rest, w, is as it was.
module _ (t v u u' w : ℕ → ℕ) (f g h : Mem) (all : Step t v f g) (fits : (c : ℕ) → t c ≤ held f c) (parts : (c : ℕ) → v c ≡ u c + w c) (part : Step u u' g h) where
  pub part_then : Step t (λ c. u' c + w c) f h
  part_then = step_then t v (λ c. u' c + w c) f g h all (step_as _ _ v (λ c. u' c + w c) g h parts (λ c. refl) (step_beside u u' w g h part))

  pub part_same : Same w g h
  part_same = step_same u u' w g h part (λ c. omega (arith, fits c, all.balanced c, parts c))

-- how many are held, where a block changes
pub held_at : (f : Mem) (b : ℕ) (ws : List ℕ) → b < 1048576 → sum_to 1048576 (held (at b ws f)) + held f b ≡ sum_to 1048576 (held f) + some ws
held_at f b ws l = sum_to_one 1048576 b (held f) (held (at b ws f)) l (λ i m e. ap some (at_other b ws f i e)) ∙ ap (λ x. sum_to 1048576 (held f) + x) (ap some (at_same b ws f))
