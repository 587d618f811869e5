-- Each asking as something that ran, and runs one after the other and beside what they leave alone.
use Rattle.std.proofs.Common.{◌≡◌, ℕ, ◌+◌, ◌<◌, ◌≤◌, List, [], ◌∷◌, length, sym, refl, ap, ◌∙◌, subst, arith}
use Rattle.store.specs.Memory.{Memory, Got, Stored, asked, wrote, released}
use Rattle.store.specs.Steps.{Mem, Ran, held, hit, some}
use Rattle.store.specs.Fresh.{Obtained, Returned}
use Rattle.store.proofs.Stepping.{step_then, step_beside, step_as, step_none, step_obtain, step_release, step_write, held_at, at_same}

pub some_whole : (ws : List ℕ) → 0 < length ws → some ws ≡ 1
unfolding some
some_whole [] l = absurd (omega arith)
some_whole (w ∷ ws) l = refl

pub some_none : (ws : List ℕ) → ws ≡ [] → some ws ≡ 0
unfolding some
some_none ws e = ap some e

pub none_some : (ws : List ℕ) → some ws ≡ 0 → ws ≡ []
unfolding some
none_some [] e = refl
none_some (w ∷ ws) e = absurd (omega arith)

pub some_le : (ws : List ℕ) → some ws ≤ 1
unfolding some
some_le [] = omega arith
some_le (w ∷ ws) = omega arith

pub held_le : (f : Mem) (c : ℕ) → held f c ≤ 1
held_le f c = some_le (f c)

pub stored_held : (f : Mem) (b : ℕ) → Stored f b → held f b ≡ 1
stored_held f b s = some_whole (f b) (omega (arith, s.1))

pub ran_none : (u : ℕ → ℕ) (m : Memory) → Ran 0 u u m m
ran_none u m = record { step = step_none u m.block; number = refl; asks = omega arith; top = refl; failed = refl }

module _ (k k' : ℕ) (u v w : ℕ → ℕ) (m m' m'' : Memory) (p : Ran k u v m m') (q : Ran k' v w m' m'') where
  pub ran_then : Ran (k + k') u w m m''
  ran_then = record {
    step = step_then u v w m.block m'.block m''.block p.step q.step;
    number = omega (arith, p.number, q.number);
    asks = omega (arith, p.asks, q.asks);
    top = q.top ∙ p.top;
    failed = q.failed ∙ p.failed;
  }

module _ (k : ℕ) (u u' : ℕ → ℕ) (m m' : Memory) (p : Ran k u u' m m') where
  -- v stands beside
  pub ran_beside : (v : ℕ → ℕ) → Ran k (λ c. u c + v c) (λ c. u' c + v c) m m'
  ran_beside v = record { step = step_beside u u' v m.block m'.block p.step; number = p.number; asks = p.asks; top = p.top; failed = p.failed }

  -- the same uses, said otherwise
  pub ran_as : (v v' : ℕ → ℕ) → ((c : ℕ) → v c ≡ u c) → ((c : ℕ) → v' c ≡ u' c) → Ran k v v' m m'
  ran_as v v' a b = record { step = step_as u u' v v' m.block m'.block a b p.step; number = p.number; asks = p.asks; top = p.top; failed = p.failed }

  pub ran_more : (k' : ℕ) → k ≤ k' → Ran k' u u' m m'
  ran_more k' l = record { step = p.step; number = p.number; asks = omega (arith, p.asks); top = p.top; failed = p.failed }

-- After a run that ends with v, a part of that, u, runs on: the rest, w, stands beside.
module _ (k k' : ℕ) (t v u u' w : ℕ → ℕ) (m m' m'' : Memory) (all : Ran k t v m m') (parts : (c : ℕ) → v c ≡ u c + w c) (part : Ran k' u u' m' m'') where
  pub ran_part : Ran (k + k') t (λ c. u' c + w c) m m''
  ran_part = ran_then k k' t v (λ c. u' c + w c) m m' m'' all (ran_as k' _ _ m' m'' (ran_beside k' u u' m' m'' part w) v (λ c. u' c + w c) parts (λ c. refl))

-- reading
pub ran_asked : (k : ℕ) (u : ℕ → ℕ) (m : Memory) → Ran k u u m (asked k m)
ran_asked k u m = record { step = step_none u m.block; number = refl; asks = omega arith; top = refl; failed = refl }

-- writing
pub ran_wrote : (k b : ℕ) (ws : List ℕ) (m : Memory) → Stored m.block b → 0 < length ws → Ran k (hit b) (hit b) m (wrote k b ws m)
ran_wrote k b ws m s l =
    let h : held m.block b ≡ 1 = stored_held m.block b s in
    let w : some ws ≡ 1 = some_whole ws l in
    record {
      step = step_write b ws m.block h w;
      number = omega (arith, held_at m.block b ws s.0);
      asks = omega arith;
      top = refl;
      failed = refl;
    }

-- obtaining
pub ran_obtain : (b : ℕ) (m m' : Memory) → Got m b m' → Ran 1 (λ c. 0) (hit b) m m'
ran_obtain b m m' g =
    let ws : List ℕ = m'.block b in
    let h : held m.block b ≡ 0 = some_none (m.block b) g.new in
    let w : some ws ≡ 1 = some_whole ws (omega (arith, g.whole)) in
    subst (λ (x : Memory). Ran 1 (λ c. 0) (hit b) m x) (sym g.same) (record {
      step = step_obtain b ws m.block h w;
      number = omega (arith, held_at m.block b ws g.small);
      asks = omega arith;
      top = refl;
      failed = refl;
    })

-- releasing
pub ran_release : (b : ℕ) (m : Memory) → Stored m.block b → 0 < m.many → Ran 1 (hit b) (λ c. 0) m (released b m)
ran_release b m s l =
    let h : held m.block b ≡ 1 = stored_held m.block b s in
    record {
      step = step_release b m.block h;
      number = omega (arith, held_at m.block b [] s.0, some_none [] refl);
      asks = omega arith;
      top = refl;
      failed = refl;
    }

-- what getting and giving back a block says
pub got_obtained : (b : ℕ) (m m' : Memory) → 0 < m.left → Got m b m' → Obtained m b m'
got_obtained b m m' l g = record {
  ran = ran_obtain b m m' g;
  stored = (g.small, g.whole);
  new = g.new;
  many = ap (λ (x : Memory). x.many) g.same;
  left = omega (arith, ap (λ (x : Memory). x.left) g.same);
}

pub released_returned : (b : ℕ) (m m' : Memory) → 0 < m.left → 0 < m.many → Stored m.block b → m' ≡ released b m → Returned m b m'
released_returned b m m' l n s e = record {
  ran = subst (λ (x : Memory). Ran 1 (hit b) (λ c. 0) m x) (sym e) (ran_release b m s n);
  gone = ap (λ (x : Memory). x.block b) e ∙ at_same b [] m.block;
  many = omega (arith, ap (λ (x : Memory). x.many) e);
  left = omega (arith, ap (λ (x : Memory). x.left) e);
}
