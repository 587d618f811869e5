-- What a reserve owns, in memory: whole, apart from all else, and the same while others step.
use Rattle.std.proofs.Common.{◌≡◌, ℕ, ◌+◌, ◌-◌, ◌<◌, ◌≤◌, List, [], ◌∷◌, length, sym, refl, ap, ◌∙◌, subst, arith}
use native.Mathlib.Decide.{ℕ_discrete}
use Rattle.store.specs.Memory.{Memory, Stored, refused}
use Rattle.store.specs.Steps.{Mem, Step, Ran, held, held_in, hit, sum_to}
use Rattle.store.specs.Fresh.{Obtained, Returned}
use Rattle.store.specs.Stocked.{Stocked}
use Rattle.store.specs.Reserve.{uses, Reserved, Undone, GivenAll}
use Rattle.store.proofs.Sums.{hit_same, hit_other, sum_to_le, sum_to_add, sum_to_none, sum_to_hit}
use Rattle.store.proofs.Stepping.{step_then, step_same, step_fits}
use Rattle.store.proofs.Memories.{by_place}
use Rattle.store.proofs.Running.{none_some, ran_none, ran_as, ran_part, ran_more}

-- where nothing is owned before and after, nothing changed
step_still : (f g : Mem) → Step (λ c. 0) (λ c. 0) f g → (c : ℕ) → g c ≡ f c
step_still f g s c = elim (ℕ_discrete (held f c) 0) [
  | yes p ↦ none_some (g c) (omega (arith, s.balanced c)) ∙ sym (none_some (f c) p)
  | no p ↦ s.leaves c (let l : 0 < held f c = omega (arith, p) in l)
]

stored_at : (f g : Mem) (c : ℕ) → g c ≡ f c → Stored f c → Stored g c
stored_at f g c e s = (s.0, ap length e ∙ s.1)

module _ (u : ℕ → ℕ) (f : Mem) where
  -- somebody else, who owns v and then v', makes a step
  pub stocked_beside : (v v' : ℕ → ℕ) (g : Mem) → Step v v' f g → ((c : ℕ) → v c + u c ≤ held f c) → Stocked u f → Stocked u g
  stocked_beside v v' g p a s = record {
    fits = λ c. omega (arith, step_fits v v' u f g p a c);
    stored = λ c l. stored_at f g c (step_same v v' u f g p a c (λ z. omega arith)) (s.stored c l);
  }

  -- a part of what is owned
  pub stocked_part : (v : ℕ → ℕ) → ((c : ℕ) → v c ≤ u c) → Stocked u f → Stocked v f
  stocked_part v e s = record { fits = λ c. omega (arith, e c, s.fits c); stored = λ c l. s.stored c (omega (arith, e c)) }

pub unused : (c : ℕ) → uses [] c ≡ 0
unfolding uses
unused c = refl

-- a reserve with a block on top
pub uses_more : (b : ℕ) (r : List ℕ) (c : ℕ) → uses (b ∷ r) c ≡ uses r c + hit b c
unfolding uses
uses_more b r c = omega arith

-- the block on top is whole, and so is the rest
module _ (b : ℕ) (r : List ℕ) (f : Mem) (s : Stocked (uses (b ∷ r)) f) where
  pub stocked_top : Stored f b
  stocked_top = s.stored b (omega (arith, uses_more b r b, hit_same b))

  pub stocked_rest : Stocked (uses r) f
  stocked_rest = stocked_part (uses (b ∷ r)) f (uses r) (λ c. omega (arith, uses_more b r c)) s

-- its blocks, counted off
uses_total : (r : List ℕ) (f : Mem) → Stocked (uses r) f → sum_to 1048576 (uses r) ≡ length r
unfolding uses
uses_total [] f s = sum_to_none 1048576
uses_total (b ∷ r) f s = omega (arith, sum_to_add 1048576 (hit b) (uses r), sum_to_hit 1048576 b (stocked_top b r f s).0, uses_total r f (stocked_rest b r f s))

pub reserve_few : (r : List ℕ) (m : Memory) → Stocked (uses r) m.block → held_in m.block ≤ m.many → length r ≤ m.many
reserve_few r m s l = omega (arith, uses_total r m.block s, sum_to_le 1048576 (uses r) (held m.block) (λ c h. s.fits c))

-- nothing was got yet
pub reserved_none : (m : Memory) → Reserved 0 m [] m
unfolding uses
reserved_none m = record {
  ran = ran_none (λ c. 0) m;
  all = refl;
  stocked = record { fits = λ c. omega arith; stored = λ c l. absurd (let z : ⊥ = omega arith in z) };
  many = omega arith;
  left = omega arith;
}

-- one block more
module _ (k : ℕ) (m m' m'' : Memory) (r : List ℕ) (b : ℕ) (p : Reserved k m r m') (o : Obtained m' b m'') where
  pub reserved_more : Reserved (k + 1) m (b ∷ r) m''
  reserved_more = record {
    ran = ran_as (k + 1) _ _ m m'' (ran_part k 1 (λ c. 0) (uses r) (λ c. 0) (hit b) (uses r) m m' m'' p.ran (λ c. omega arith) o.ran) (λ c. 0) (uses (b ∷ r)) (λ c. refl) (λ c. omega (arith, uses_more b r c));
    all = omega (arith, p.all);
    stocked = record { fits = fits; stored = by_place (λ c. 0 < uses (b ∷ r) c → Stored m''.block c) b (λ l. o.stored) stored };
    many = omega (arith, o.many, p.many);
    left = omega (arith, o.left, p.left);
  }
    where
      owned : (c : ℕ) → 0 + uses r c ≤ held m'.block c
      owned c = omega (arith, p.stocked.fits c)

      fits : (c : ℕ) → uses (b ∷ r) c ≤ held m''.block c
      fits c = omega (arith, uses_more b r c, step_fits (λ c. 0) (hit b) (uses r) m'.block m''.block o.ran.step owned c)

      stored : (c : ℕ) → (c ≡ b → ⊥) → 0 < uses (b ∷ r) c → Stored m''.block c
      stored c n l =
          let h : 0 < uses r c = omega (arith, uses_more b r c, hit_other b c n) in
          stored_at m'.block m''.block c (step_same (λ c. 0) (hit b) (uses r) m'.block m''.block o.ran.step owned c (λ z. omega arith)) (p.stocked.stored c h)

-- a block was refused, and those that were got are given back
module _ (k : ℕ) (m m' m'' : Memory) (r : List ℕ) (p : Reserved k m r m') (e : m'' ≡ refused m') where
  pub refused_undone : (n : ℕ) (h : Memory) → k < n → 0 < m'.left → GivenAll m'' r h → Undone n m h
  refused_undone n h l z g = record {
    same = step_still m.block h.block still;
    many = omega (arith, p.many, p.all, g.many, ap (λ (x : Memory). x.many) e);
    top = g.ran.top ∙ ap (λ (x : Memory). x.top) e ∙ p.ran.top;
    failed = g.ran.failed ∙ ap (λ (x : Memory). x.failed) e;
    asked = omega (arith, p.left, p.all, g.left, ap (λ (x : Memory). x.left) e);
    asks = omega (arith, p.left, p.all, g.left, ap (λ (x : Memory). x.left) e);
  }
    where
      still : Step (λ c. 0) (λ c. 0) m.block h.block
      still = step_then (λ c. 0) (uses r) (λ c. 0) m.block m'.block h.block p.ran.step (subst (λ (x : Mem). Step (uses r) (λ c. 0) x h.block) (ap (λ (x : Memory). x.block) e) g.ran.step)

-- some of the reserve's blocks, r, were given back, and r' are left
pub record Giving (m : Memory) (r : List ℕ) (m' : Memory) (r' : List ℕ) : Type 0 where
  pub ran : Ran (length r - length r') (uses r) (uses r') m m'
  pub stocked : Stocked (uses r') m'.block
  pub fewer : length r' ≤ length r
  pub many : m'.many + length r ≡ m.many + length r'
  pub left : m'.left + length r ≡ m.left + length r'

pub giving_none : (m : Memory) (r : List ℕ) → Stocked (uses r) m.block → Giving m r m r
giving_none m r s = record { ran = ran_more 0 _ _ m m (ran_none (uses r) m) (length r - length r) (omega arith); stocked = s; fewer = omega arith; many = refl; left = refl }

-- one block less
pub giving_more : (m m' m'' : Memory) (r r' : List ℕ) (b : ℕ) → Giving m r m' (b ∷ r') → Returned m' b m'' → Giving m r m'' r'
giving_more m m' m'' r r' b p g = record {
  ran = ran_more _ _ _ m m''
      (ran_as _ _ _ m m'' (ran_part _ 1 (uses r) (uses (b ∷ r')) (hit b) (λ c. 0) (uses r') m m' m'' p.ran (λ c. omega (arith, uses_more b r' c)) g.ran) (uses r) (uses r') (λ c. refl) (λ c. omega arith))
      (length r - length r') (omega (arith, p.fewer));
  stocked = stocked_beside (uses r') m'.block (hit b) (λ c. 0) m''.block g.ran.step (λ c. omega (arith, uses_more b r' c, p.stocked.fits c)) (stocked_rest b r' m'.block p.stocked);
  fewer = omega (arith, p.fewer);
  many = omega (arith, g.many, p.many);
  left = omega (arith, g.left, p.left);
}

pub giving_all : (m m' : Memory) (r : List ℕ) → Giving m r m' [] → GivenAll m r m'
giving_all m m' r p = record {
  ran = ran_as (length r) _ _ m m' (ran_more _ _ _ m m' p.ran (length r) (omega arith)) (uses r) (λ c. 0) (λ c. refl) (λ c. sym (unused c));
  many = omega (arith, p.many);
  left = omega (arith, p.left);
}
