-- An insertion from its beginning to its end.
use Rattle.std.proofs.Common.{◌≡◌, ℕ, zero, suc, ◌+◌, ◌-◌, ◌*◌, ◌^◌, ◌<◌, ◌≤◌, eqb, ltb, List, [], ◌∷◌, length, take, drop, sym, refl, ap, ◌∙◌, subst, ap₂, mul-le-mul, arith, length-append, length-drop, length-take}
use native.Mathlib.Decide.{ℕ_discrete}
use Rattle.std.proofs.lemmas.Bool.{eq-eqb, ne_eqb, ltb-true, ltb-false, cond_both}
use Rattle.std.specs.List.{insert}
use Rattle.page.specs.Layout.{Layout, Lawful, entry_of_leaf}
use Rattle.store.specs.Memory.{Memory, Stored}
use Rattle.store.specs.Steps.{Mem, Step, Ran, hit, held}
use Rattle.store.specs.Stocked.{Stocked}
use Rattle.store.specs.Reserve.{uses, Reserved, Undone, GivenAll}
use Rattle.store.proofs.Stepping.{step_then, step_as, step_beside, step_same}
use Rattle.store.proofs.Running.{held_le, stored_held, ran_then}
use Rattle.store.proofs.Stocking.{reserve_few}
use Rattle.tree.specs.declared.top.Tree.{Tree}
use Rattle.tree.specs.Tree.{contents, uses as treeUses, Sound, Root, blocks, Kept}
use Rattle.tree.specs.Tall.{tall_contents, tall_uses, Tall}
use Rattle.tree.specs.Trees.{Lies}
use Rattle.tree.specs.declared.path.Branch.{Branch}
use Rattle.tree.specs.Paths.{before, behind}
use Rattle.tree.specs.Down.{Down}
use Rattle.tree.specs.Leaves.{Begun}
use Rattle.tree.specs.Climb.{Start}
use Rattle.tree.specs.declared.risen.Risen.{Risen}
use Rattle.tree.specs.Pages.{Reading}
use Rattle.tree.proofs.Bounds.{most}
use Rattle.tree.proofs.Frames.{frame}
use Rattle.tree.proofs.Leaves.{grow_leaf, grow_leaves}
use Rattle.tree.proofs.Paths.{seen}
use Rattle.tree.proofs.Places.{inserted as inserted_below}
use Rattle.seek.specs.Descent.{nodes_full, full_run}
use Rattle.tree.proofs.Low.{blocks_low}
use Rattle.seek.proofs.Readings.{reading_left, reading_ran}
use Rattle.grow.specs.Asks.{insert_asks}
use Rattle.grow.specs.Settle.{Settled}
use Rattle.grow.specs.Rises.{Spent, needed, Rises}
use Rattle.grow.proofs.Climbing.{rises_on}
use Rattle.grow.specs.Crown.{Crowned}
use Rattle.grow.specs.Inserted.{blocks_needed, Inserted}

-- the blocks got after a descent
pub record Stock (k : ℕ) (n : ℕ) (m : Memory) (s : List ℕ) (m' : Memory) : Type 0 where
  pub ran : Ran k (λ c. 0) (uses s) m m'
  pub stocked : Stocked (uses s) m'.block
  pub all : length s ≡ n

pub stock : (k n : ℕ) (m m₁ m₂ : Memory) (s : List ℕ) → Reading k m m₁ → Reserved n m₁ s m₂ → Stock (k + n) n m s m₂
stock k n m m₁ m₂ s r v = record { ran = ran_then k n _ _ _ m m₁ m₂ (reading_ran k m m₁ r (λ c. 0)) v.ran; stocked = v.stocked; all = v.all }

-- or one was refused
pub undone : (k n j : ℕ) (m m₁ m₂ : Memory) → k + 2 * n ≤ 2 * j → Reading k m m₁ → Undone n m₁ m₂ → Undone j m m₂
undone k n j m m₁ m₂ l r u = record {
  same = λ c. u.same c ∙ ap (λ (x : Memory). x.block c) r.is;
  many = u.many ∙ ap (λ (x : Memory). x.many) r.is;
  top = u.top ∙ ap (λ (x : Memory). x.top) r.is;
  failed = u.failed;
  asked = omega (arith, u.asked, ap (λ (x : Memory). x.left) r.is);
  asks = omega (arith, u.asks, reading_left k m m₁ r);
}

module _ {E : Type 0} (K : Layout E) (f : Mem) where
  -- the run of full nodes, and what a climb through them takes
  pub record Run (ws : List Branch) : Type 0 where
    pub short : nodes_full K f ws ≤ length ws
    pub whole : nodes_full K f ws ≡ length ws → needed K f ws ≡ nodes_full K f ws + 1
    pub part : nodes_full K f ws < length ws → needed K f ws ≡ nodes_full K f ws

  pub run : (ws : List Branch) → Run ws
  unfolding nodes_full needed
  run [] = record { short = omega arith; whole = λ e. refl; part = λ l. absurd (omega arith) }
  run (w ∷ ws) = let z = run ws in elim (ℕ_discrete (length (K.children (f w.block))) K.node_cap) [
    | yes e ↦ record {
      short = rw (eq-eqb _ _ e) (omega (arith, z.short));
      whole = rw (eq-eqb _ _ e) (λ q. omega (arith, z.whole (omega arith)));
      part = rw (eq-eqb _ _ e) (λ q. omega (arith, z.part (omega arith)));
    }
    | no e ↦ record {
      short = rw (ne_eqb _ _ e) (omega arith);
      whole = rw (ne_eqb _ _ e) (λ q. absurd (omega arith));
      part = rw (ne_eqb _ _ e) (λ q. refl);
    }
  ]

  module _ (b : ℕ) (ws : List Branch) (n full : ℕ) (en : n ≡ blocks_needed full (length ws)) (ef : full ≡ full_run K f b ws) where
    few_full : full ≤ length ws + 1
    few_full = subst (λ (k : ℕ). k ≤ length ws + 1) (sym ef) (cond_both (eqb (length (K.items (f b))) K.leaf_cap) (nodes_full K f ws + 1) 0 (λ k. k ≤ length ws + 1) (λ q. omega (arith, (run ws).short)) (λ q. omega arith))

    pub few_blocks : n ≤ length ws + 2
    few_blocks = subst (λ (k : ℕ). k ≤ length ws + 2) (sym en) (cond_both (ltb (length ws) full) (full + 1) full (λ k. k ≤ length ws + 2) (λ q. omega (arith, few_full)) (λ q. omega (arith, few_full)))

    pub leaf_blocks : length (K.items (f b)) ≡ K.leaf_cap → 1 + needed K f ws ≤ n
    leaf_blocks e =
        let q : full ≡ nodes_full K f ws + 1 = ef ∙ rw (eq-eqb (length (K.items (f b))) K.leaf_cap e) in
        subst (λ (k : ℕ). 1 + needed K f ws ≤ k) (sym en) (cond_both (ltb (length ws) full) (full + 1) full (λ k. 1 + needed K f ws ≤ k)
        (λ t. omega (arith, (run ws).short, (run ws).whole (let z : nodes_full K f ws ≡ length ws = omega (arith, (run ws).short, ltb-true (length ws) full t) in z)))
        (λ t. omega (arith, (run ws).part (let z : nodes_full K f ws < length ws = omega (arith, ltb-false (length ws) full t) in z))))

-- a tree that has a root
module _ {E : Type 0} (K : Layout E) where
  pub record HasRoot (h : ℕ) (f : Mem) (b : ℕ) : Type 0 where
    pub height : h ≡ suc (h - 1)
    pub root : Root K (h - 1) f b
    pub contents_is : tall_contents K h f b ≡ contents K (h - 1) f b
    pub uses_is : (c : ℕ) → tall_uses K h f b c ≡ treeUses K (h - 1) f b c

  pub has_root : (h : ℕ) (f : Mem) (b : ℕ) → 0 < h → Tall K h f b → HasRoot h f b
  unfolding Tall tall_contents tall_uses
  has_root zero f b l w = absurd (omega arith)
  has_root (suc h) f b l w =
      let e : h ≡ suc h - 1 = omega arith in
      record { height = omega arith; root = subst (λ (k : ℕ). Root K k f b) e w; contents_is = ap (λ (k : ℕ). contents K k f b) e; uses_is = λ c. ap (λ (k : ℕ). treeUses K k f b c) e }

  -- and one of which the root's level is known
  pub as_tall : (h l : ℕ) (f : Mem) (b : ℕ) → h ≡ suc l → Root K l f b → Tall K h f b
  unfolding Tall
  as_tall h l f b e w = subst (λ (k : ℕ). Tall K k f b) (sym e) w

  pub contents_when_tall : (h l : ℕ) (f : Mem) (b : ℕ) → h ≡ suc l → tall_contents K h f b ≡ contents K l f b
  unfolding tall_contents
  contents_when_tall h l f b e = ap (λ (k : ℕ). tall_contents K k f b) e

  pub uses_when_tall : (h l : ℕ) (f : Mem) (b c : ℕ) → h ≡ suc l → tall_uses K h f b c ≡ treeUses K l f b c
  unfolding tall_uses
  uses_when_tall h l f b c e = ap (λ (k : ℕ). tall_uses K k f b c) e

  few_items : K.leaf_cap ≤ 62 → (h : ℕ) (f : Mem) (b : ℕ) → Sound K h f b → ((c : ℕ) → treeUses K h f b c ≤ held f c) → length (contents K h f b) ≤ 62 * 1048576
  few_items l h f b w o = omega (arith, most K h f b w, mul-le-mul {n₁ = K.leaf_cap} {m₁ = blocks K h f b} {n₂ = 62} {m₂ = 1048576} l (blocks_low K h f b w o))

  length_inserted : (xs : List E) (i : ℕ) (x : E) → length (insert xs i x) ≡ length xs + 1
  length_inserted xs i x = omega (arith, length-append (take i xs) (x ∷ drop i xs), length-take i xs, length-drop i xs)

  -- an insertion into a tree that has a root, and what may be taken for granted of the kind of tree
  pub record Insertion (t : Tree) (at : ℕ) (x : E) (m : Memory) : Type 0 where
    pub lawful : Lawful K
    pub thin : K.leaf_cap ≤ 62
    pub wide : 20 ≤ K.node_cap
    pub lies : Lies K m t
    pub tall : 0 < t.height
    pub ample : insert_asks ≤ m.left

  module _ {t : Tree} {at : ℕ} {x : E} {m : Memory} (q : Insertion t at x m) where
    abbrev f : Mem
    f = m.block

    abbrev H : ℕ
    H = t.height - 1

    top : HasRoot t.height f t.root
    top = has_root t.height f t.root q.tall q.lies.stands

    pub once : (c : ℕ) → treeUses K H f t.root c ≤ held f c
    once c = omega (arith, q.lies.once c, top.uses_is c)

    -- what the climb is to make
    abbrev pub start : Start E
    start = record { memory = f; stock = λ c. 0; level = H; top = t.root; goal = insert (contents K H f t.root) at x }

    pub is_root : Root K H f t.root
    is_root = top.root

    pub is_height : t.height ≡ suc H
    is_height = top.height

    module _ {b a : ℕ} {ws : List Branch} (d : Down K f H t.root at 1 0 b ws a) where
      leaf : Stored f b
      unfolding Sound
      leaf = d.sound.0

      place : a ≤ length (K.items (f b))
      unfolding contents
      place = omega (arith, d.inside)

      begun : Begun K f (λ c. 0) H t.root start.goal b ws (insert (K.items (f b)) a x)
      unfolding contents
      begun = record {
        was = top.root.sound;
        path = d.path;
        fits = λ c. omega (arith, once c);
        whole = inserted_below (before K f 0 ws) (K.items (f b)) (behind K f 0 ws) a x place
            ∙ ap₂ (λ (n : ℕ) (ys : List E). insert ys n x) (sym d.place) (sym (seen K f 0 b ws H t.root d.path).contents_seen);
      }

      module _ {k n : ℕ} {s : List ℕ} {m₂ : Memory} (st : Stock k n m s m₂) where
        same_leaf : m₂.block b ≡ f b
        same_leaf = st.ran.step.leaves b (let l : 0 < held f b = omega (arith, stored_held f b leaf) in l)

        -- the leaf can take the item
        pub leaf_there : Stored m₂.block b
        leaf_there = (leaf.0, ap length same_leaf ∙ leaf.1)

        pub leaf_few : length (K.items (m₂.block b)) ≤ K.leaf_cap
        unfolding Sound
        leaf_few = omega (arith, d.sound.1, ap (λ (ws : List ℕ). length (K.items ws)) same_leaf)

        pub leaf_place : a ≤ length (K.items (m₂.block b))
        leaf_place = omega (arith, place, ap (λ (ws : List ℕ). length (K.items ws)) same_leaf)

        pub leaf_beside : uses s b ≡ 0
        leaf_beside = omega (arith, st.ran.step.balanced b, stored_held f b leaf, held_le m₂.block b)

        items_are : insert (K.items (m₂.block b)) a x ≡ insert (K.items (f b)) a x
        items_are = ap (λ (ws : List ℕ). insert (K.items ws) a x) same_leaf

        leaf_most : length (K.items (f b)) ≤ K.leaf_cap
        unfolding Sound
        leaf_most = d.sound.1

        small : length start.goal < 2 ^ 64
        small = omega (arith, length_inserted (contents K H f t.root) at x, few_items q.thin H f t.root top.root.sound once)

        from_start : (v : ℕ → ℕ) (m₃ : Memory) → Step (λ c. hit b c + uses s c) v m₂.block m₃.block → Step (λ c. hit b c + 0) v f m₃.block
        from_start v m₃ p = step_as _ _ _ _ f m₃.block (λ c. omega arith) (λ c. refl)
            (step_then (λ c. 0 + hit b c) (λ c. uses s c + hit b c) v f m₂.block m₃.block (step_beside (λ c. 0) (uses s) (hit b) f m₂.block st.ran.step)
            (step_as _ _ (λ c. uses s c + hit b c) v m₂.block m₃.block (λ c. omega arith) (λ c. refl) p))

        module _ (full : length (K.items (f b)) ≡ K.leaf_cap → 1 + needed K f ws ≤ n) where
          pub leaf_room : K.leaf_cap ≤ length (K.items (m₂.block b)) → 0 < length s
          leaf_room l =
              let e : length (K.items (f b)) ≡ K.leaf_cap = omega (arith, leaf_few, ap (λ (ws : List ℕ). length (K.items ws)) same_leaf) in
              omega (arith, full e, st.all)

          pub leaf_rises : (j : ℕ) (m₃ : Memory) (s₃ : List ℕ) (r : Risen) → Settled K.items (entry_of_leaf K) K.leaf_cap j b (insert (K.items (m₂.block b)) a x) m₂ s r m₃ s₃ → Rises K start ws m₃ s₃ r
          leaf_rises j m₃ s₃ r p =
              let n = length_inserted (K.items (f b)) a x in
              rises_on K start ws 0 b small K.items (entry_of_leaf K) K.leaf_cap j (insert (K.items (f b)) a x) m₂ s m₃ s₃
              (λ l. let e : length (K.items (f b)) ≡ K.leaf_cap = omega (arith, l, n, leaf_most) in omega (arith, full e, st.all))
              (λ o y. grow_leaf K f (λ c. 0) H t.root start.goal b ws (insert (K.items (f b)) a x) begun m₃.block (uses s₃) (record { few = y.few; reads = y.reads; there = y.there; writes = from_start _ m₃ y.ran.step }) (omega (arith, n)))
              (λ d l y. grow_leaves K f (λ c. 0) H t.root start.goal b ws (insert (K.items (f b)) a x) begun m₃.block (uses s₃) d (record {
                too_many = l;
                not_more = omega (arith, n, leaf_most, q.lawful.leaf_room);
                first = y.first;
                second = y.second;
                there = y.there;
                there' = y.there';
                writes = from_start _ m₃ y.ran.step;
              }))
              r (subst (λ (xs : List E). Settled K.items (entry_of_leaf K) K.leaf_cap j b xs m₂ s r m₃ s₃) items_are p)

    -- the end
    module _ {m₅ : Memory} {s₅ : List ℕ} {t' : Tree} (v : Crowned K start m₅ s₅ t') {k : ℕ} (sp : Spent k m m₅) where
      pub rest_few : length s₅ ≤ m₅.many
      rest_few = reserve_few s₅ m₅ v.stocked (omega (arith, sp.number, q.lies.number))

      pub finished : (m₆ : Memory) → GivenAll m₅ s₅ m₆ → k + length s₅ ≤ insert_asks → Inserted K at x t m t' m₆
      finished m₆ ga l = record {
        ran = record {
          step = step_as _ _ _ _ f m₆.block (λ c. omega (arith, top.uses_is c)) (λ c. uses_when_tall t'.height v.level m₆.block t'.root c v.height ∙ kept.same_uses c)
              (step_then _ _ _ f m₅.block m₆.block v.grown.step
              (step_as _ _ _ _ m₅.block m₆.block (λ c. omega arith) (λ c. omega arith) (step_beside (uses s₅) (λ c. 0) (treeUses K v.level m₅.block t'.root) m₅.block m₆.block ga.ran.step)));
          number = omega (arith, sp.number, ga.ran.number);
          asks = omega (arith, sp.asks, ga.ran.asks);
          top = ga.ran.top ∙ sp.top;
          failed = ga.ran.failed ∙ sp.failed;
        };
        holds = contents_when_tall t'.height v.level m₆.block t'.root v.height ∙ kept.same_contents ∙ v.grown.holds ∙ ap (λ (ys : List E). insert ys at x) (sym top.contents_is);
        stands = as_tall t'.height v.level m₆.block t'.root v.height (record { sound = kept.still_sound v.grown.root.sound; full = rw kept.page v.grown.root.full });
      }
        where
          fits : (c : ℕ) → uses s₅ c + treeUses K v.level m₅.block t'.root c ≤ held m₅.block c
          fits c = omega (arith, v.grown.step.balanced c, once c)

          kept : Kept K v.level m₅.block m₆.block t'.root
          kept = frame K v.level m₅.block m₆.block t'.root (step_same (uses s₅) (λ c. 0) (treeUses K v.level m₅.block t'.root) m₅.block m₆.block ga.ran.step fits)
