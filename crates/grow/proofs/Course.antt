-- The course of an insertion, call by call.
use Rattle.std.proofs.Common.{◌≡◌, ℕ, ◌+◌, ◌*◌, ◌<◌, ◌≤◌, List, [], length, ap, ◌∙◌, arith}
use Rattle.std.specs.List.{insert}
use Rattle.tree.specs.declared.risen.Risen.{Risen}
use Rattle.tree.specs.declared.path.Branch.{Branch}
use Rattle.page.specs.Layout.{Layout, entry_of_leaf}
use Rattle.store.specs.Memory.{Memory, Stored}
use Rattle.store.specs.Stocked.{Stocked}
use Rattle.store.specs.Reserve.{capacity, uses, Reserved, Undone, GivenAll}
use Rattle.tree.specs.declared.top.Tree.{Tree}
use Rattle.seek.specs.declared.reached.Reached.{Reached}
use Rattle.seek.specs.Asks.{descend_asks}
use Rattle.tree.specs.Sizes.{top_level}
use Rattle.seek.specs.Descent.{Descended}
use Rattle.seek.specs.declared.target.Target.TheVariants.{Gap}
use Rattle.tree.proofs.Low.{height_low}
use Rattle.seek.proofs.Readings.{reading_left, reading_many}
use Rattle.grow.specs.Asks.{turn_asks, most_blocks, insert_asks, insert_undone}
use Rattle.grow.specs.Settle.{Settled}
use Rattle.grow.specs.Rises.{Spent, needed, Rises, Climbs}
use Rattle.grow.specs.Crown.{Crowned, Crowns}
use Rattle.grow.specs.Inserted.{blocks_needed, Inserted}
use Rattle.grow.proofs.Climbing.{spent_none, spent_ran, spent_then, settled_went}
use Rattle.grow.proofs.Inserting.{Insertion, Stock, stock, undone, few_blocks, leaf_blocks, start, is_root, is_height, leaf_there, leaf_few, leaf_place, leaf_beside, leaf_room, leaf_rises, rest_few, finished}

module _ {E : Type 0} {K : Layout E} {t : Tree} {at : ℕ} {x : E} {m : Memory} (q : Insertion K t at x m) where
  pub low : t.height ≤ 7
  low = height_low K q.wide t.height m.block t.root q.lies.stands q.lies.once

  -- on the climb: which nodes are left, what was spent, and what came up
  pub record Under (k : ℕ) (ws : List Branch) (m' : Memory) (s : List ℕ) (r : Risen) : Type 0 where
    pub rises : Rises K (start K q) ws m' s r
    pub spent : Spent k m m'
    pub few : length s ≤ most_blocks

  pub climbed : {j k : ℕ} {ws : List Branch} {m' m'' : Memory} {s s' : List ℕ} {r r' : Risen} → Under j ws m' s r → Climbs K ws m' s r [] m'' s' r' → Spent k m' m'' → length s' ≤ length s → Under (j + k) [] m'' s' r'
  climbed u c p l = record { rises = c (start K q) u.rises; spent = spent_then _ _ _ m _ _ (omega arith) u.spent p; few = omega (arith, u.few, l) }

  -- at the end: what the tree is, and what of the reserve is left
  pub record Topped (k : ℕ) (m' : Memory) (s : List ℕ) (t' : Tree) : Type 0 where
    pub crowned : Crowned K (start K q) m' s t'
    pub spent : Spent k m m'
    pub few : length s ≤ most_blocks

  pub topped : {j k : ℕ} {m' m'' : Memory} {s s' : List ℕ} {r : Risen} {t' : Tree} → Under j [] m' s r → Crowns K t.height m' s r m'' s' t' → Spent k m' m'' → length s' ≤ length s → Topped (j + k) m'' s' t'
  topped u c p l = record { crowned = c (start K q) (is_height K q) (is_root K q) u.rises; spent = spent_then _ _ _ m _ _ (omega arith) u.spent p; few = omega (arith, u.few, l) }

  module _ {k : ℕ} {m' : Memory} {s : List ℕ} {t' : Tree} (p : Topped k m' s t') (l : k + most_blocks ≤ insert_asks) where
    pub rest_takes : record {
      asks : length s ≤ m'.left;
      held : length s ≤ m'.many;
      there : Stocked (uses s) m'.block;
    }
    rest_takes = record {
      asks = omega (arith, l, q.ample, p.few, p.spent.asks);
      held = rest_few K q p.crowned p.spent;
      there = p.crowned.stocked;
    }

    pub done : {m'' : Memory} → GivenAll m' s m'' → Inserted K at x t m t' m''
    done g = finished K q p.crowned p.spent _ g (omega (arith, l, p.few))

  module _ {r : Reached} {m₁ : Memory} (d : Descended K m t at Gap r m₁) where
    pub shallow : length r.path ≤ top_level
    shallow = omega (arith, low, d.deep)

    module _ {depth n : ℕ} (ed : depth ≡ length r.path) (eb : n ≡ blocks_needed r.full depth) where
      en : n ≡ blocks_needed r.full (length r.path)
      en = eb ∙ ap (blocks_needed r.full) ed

      few : n ≤ most_blocks
      few = omega (arith, shallow, few_blocks K m.block r.leaf r.path n r.full en d.full)

      pub reserve_takes : m.many + most_blocks ≤ m.top → record {
        few : n ≤ capacity;
        asks : 2 * n ≤ m₁.left;
        room : m₁.many + n ≤ m₁.top;
      }
      reserve_takes l = record {
        few = omega (arith, few);
        asks = omega (arith, few, q.ample, reading_left descend_asks m m₁ d.same);
        room = omega (arith, l, few, reading_many descend_asks m m₁ d.same, ap (λ (y : Memory). y.top) d.same.is);
      }

      pub gave_up : {m₂ : Memory} → Undone n m₁ m₂ → Undone insert_undone m m₂
      gave_up u = undone descend_asks n insert_undone m m₁ _ (omega (arith, few)) d.same u

      module _ {s : List ℕ} {m₂ : Memory} (rv : Reserved n m₁ s m₂) where
        st : Stock (descend_asks + n) n m s m₂
        st = stock descend_asks n m m₁ m₂ s d.same rv

        full : length (K.items (m.block r.leaf)) ≡ K.leaf_cap → 1 + needed K m.block r.path ≤ n
        full = leaf_blocks K m.block r.leaf r.path n r.full en d.full

        spent₂ : Spent (descend_asks + most_blocks) m m₂
        spent₂ = spent_then (descend_asks + n) 0 _ m m₂ m₂ (omega (arith, few)) (spent_ran _ _ _ m m₂ st.ran) (spent_none m₂)

        pub leaf_takes : record {
          asks : turn_asks ≤ m₂.left;
          there : Stored m₂.block r.leaf;
          few : length (K.items (m₂.block r.leaf)) ≤ K.leaf_cap;
          place : r.at ≤ length (K.items (m₂.block r.leaf));
          room : K.leaf_cap ≤ length (K.items (m₂.block r.leaf)) → 0 < length s;
          stocked : Stocked (uses s) m₂.block;
          beside : uses s r.leaf ≡ 0;
        }
        leaf_takes = record {
          asks = omega (arith, q.ample, spent₂.asks);
          there = leaf_there K q d.down st;
          few = leaf_few K q d.down st;
          place = leaf_place K q d.down st;
          room = leaf_room K q d.down st full;
          stocked = rv.stocked;
          beside = leaf_beside K q d.down st;
        }

        pub from_leaf : {m₃ : Memory} {s₃ : List ℕ} {y : Risen} → Settled K.items (entry_of_leaf K) K.leaf_cap turn_asks r.leaf (insert (K.items (m₂.block r.leaf)) r.at x) m₂ s y m₃ s₃ → Under (descend_asks + most_blocks + turn_asks) r.path m₃ s₃ y
        from_leaf p = let w = settled_went _ _ _ turn_asks _ _ m₂ s _ _ _ p in record {
          rises = leaf_rises K q d.down st full turn_asks _ _ _ p;
          spent = spent_then _ turn_asks _ m m₂ _ (omega arith) spent₂ w.spent;
          few = omega (arith, few, rv.all, w.fewer);
        }
