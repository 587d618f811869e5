-- The end of a climb.
use Rattle.std.proofs.Common.{◌≡◌, ℕ, zero, suc, ◌+◌, ◌<◌, ◌≤◌, Bool, T, List, [], ◌∷◌, length, Some, None, Option, sym, subst, arith}
use Rattle.page.specs.declared.child.Child.{Child}
use Rattle.page.specs.Layout.{Layout, Lawful}
use Rattle.store.specs.Memory.{Memory, Stored}
use Rattle.store.specs.Steps.{Mem}
use Rattle.store.specs.Reserve.{uses}
use Rattle.tree.specs.Tree.{All, Sound, Root}
use Rattle.tree.specs.Growing.{Loose}
use Rattle.tree.specs.Climb.{one_or_two, Start}
use Rattle.tree.specs.declared.risen.Risen.{Risen}
use Rattle.tree.proofs.Grown.{grown_one, grown_two}
use Rattle.grow.specs.Rises.{Valid, needed, Rises}
use Rattle.grow.specs.Settle.{Filled}
use Rattle.grow.specs.Crown.{Crowned}
use Rattle.grow.proofs.Climbing.{valid_come}

module _ {E : Type 0} (K : Layout E) where
  pub sound_stored : (h : ℕ) (f : Mem) (b : ℕ) → Sound K h f b → Stored f b
  unfolding Sound
  sound_stored zero f b w = w.0
  sound_stored (suc h) f b w = w.0

  first_stored : (h : ℕ) (f : Mem) (one : Child) (two : Option Child) → All (Loose K h f) (one_or_two one two) → Stored f one.block
  unfolding All one_or_two
  first_stored h f one None a = sound_stored h f one.block a.0.sound
  first_stored h f one (Some other) a = sound_stored h f one.block a.0.sound

  module _ (z : Start E) (m : Memory) (s : List ℕ) (r : Risen) (v : Rises K z [] m s r) where
    pub low_block : r.first.block < 1048576
    low_block = (first_stored v.grows.level m.block r.first r.second v.grows.growing.loose).0

    pub can_write : (valid : Child → Bool) → ((n b : ℕ) (xs : List E) → T (valid (record { count = n; block = b; summary = K.summary xs }))) → (other : Child) → r.second ≡ Some other → T (valid r.first) × T (valid other)
    can_write valid law other e = subst (λ (o : Option Child). Valid valid (record { first = r.first; second = o })) e (valid_come K valid law v.grows.level m.block r v.grows.growing.loose)

    pub spare : (other : Child) → r.second ≡ Some other → 0 < length s
    unfolding one_or_two needed
    spare other e = omega (arith, v.enough (subst (λ (o : Option Child). 2 ≤ length (one_or_two r.first o)) (sym e) (omega arith)))

    risen_as : (o : Option Child) → r.second ≡ o → Rises K z [] m s (record { first = r.first; second = o })
    risen_as o e = subst (λ (q : Option Child). Rises K z [] m s (record { first = r.first; second = q })) e v

    module _ (height : ℕ) (e : height ≡ suc z.level) (lw : Lawful K) where
      pub crown_one : Root K z.level z.memory z.top → r.second ≡ None → Crowned K z m s (record { root = r.first.block; height = height })
      unfolding one_or_two
      crown_one w n = let u = risen_as None n in record {
        level = z.level;
        height = e;
        grown = grown_one K z.memory z.stock z.level z.top z.goal m.block (uses s) lw u.grows.level u.grows.block r.first w u.grows.growing;
        stocked = v.stocked;
      }

      pub crown_two : (k : ℕ) (other : Child) → r.second ≡ Some other → (d : ℕ) (m' : Memory) (s' : List ℕ) → Filled K.children k (r.first ∷ (other ∷ [])) m s d m' s' → Crowned K z m' s' (record { root = d; height = height + 1 })
      unfolding one_or_two
      crown_two k other q d m' s' p = let u = risen_as (Some other) q in record {
        level = suc z.level;
        height = omega (arith, e);
        grown = grown_two K z.memory z.stock z.level z.top z.goal m.block (uses s) u.grows.level u.grows.block (r.first ∷ (other ∷ [])) d m'.block (uses s') u.grows.growing (record {
          several = omega arith;
          few = omega (arith, lw.node_room);
          reads = p.reads;
          there = p.there;
          writes = p.ran.step;
        });
        stocked = p.stocked;
      }
