-- Turns of the climb of an insertion.
use Rattle.std.proofs.Common.{◌≡◌, ℕ, suc, ◌+◌, ◌-◌, ◌/◌, ◌<◌, ◌≤◌, List, [], ◌∷◌, ◌++◌, length, get_or, take, drop, sym, refl, ap, ◌∙◌, subst, append-nil, arith, length-append}
use Rattle.page.specs.declared.child.Child.{Child}
use Rattle.page.specs.Layout.{Layout, Lawful, half, entry_of}
use Rattle.store.specs.Memory.{Stored}
use Rattle.store.specs.Steps.{Mem, hit, Step}
use Rattle.store.proofs.Stepping.{step_as, step_none}
use Rattle.tree.specs.Tree.{total, flat, All, contents, uses, many, low, Sound, ChildOk, ChildrenOk, under}
use Rattle.tree.specs.declared.path.Branch.{Branch}
use Rattle.tree.specs.Paths.{none, left, right, Path}
use Rattle.tree.specs.Rising.{Mended}
use Rattle.tree.specs.Growing.{Loose, Growing, now, OnePage, TwoPages}
use Rattle.tree.proofs.Each.{All-map, All-map₂}
use Rattle.tree.proofs.Paths.{around_child, node_child, seen}
use Rattle.tree.proofs.Entries.{counts_right, summed_right}
use Rattle.tree.proofs.Mending.{mend}
use Rattle.tree.proofs.Settle.{halves, two_nodes, under_two}

module _ {E : Type 0} (K : Layout E) (lw : Lawful K) (f : Mem) (s : ℕ → ℕ) (H r : ℕ) (xs : List E) (h b : ℕ) (w : Branch) (ws : List Branch) (g g' : Mem) (t t' : ℕ → ℕ) (ms : List Child)
    (v : Growing K f s H r xs h b (w ∷ ws) g t ms) where
  inside : w.place < length (K.children (f w.block))
  unfolding Path
  inside = v.rising.path.0

  sound_f : Sound K (suc h) f w.block
  unfolding Path
  sound_f = (seen K f (suc h) w.block ws H r v.rising.path.2).sound_seen v.was

  -- below the top all is full enough
  children : ChildrenOk K h g ms
  unfolding Path
  children = All-map₂ (Loose K h g) (λ k. low K h ≤ many K h (g k.block)) (ChildOk K h g) (λ k x y. record { sound = x.sound; full = y; counted = x.counted; summed = x.summed }) ms v.loose
      (v.full (low K h) (omega arith) (subst (λ (c : ℕ). low K h ≤ many K h (f c)) (sym v.rising.path.1) (node_child K h f w inside sound_f).full))

  -- the node has no fewer children than it had
  longer : length (K.children (f w.block)) ≤ length (now K f w ms)
  longer = omega (
    arith,
    v.some,
    ap length (around_child K f w inside),
    length-append (left K f w) (get_or (K.children (f w.block)) w.place none ∷ right K f w),
    length-append (left K f w) (ms ++ right K f w),
    length-append ms (right K f w),
  )

  mended : (ps : List Child) → under K g' ps ≡ now K f w ms → Step (λ c. hit w.block c + t c) (λ c. total (λ d. hit d c) ps + t' c) g g' → Mended K f s H r xs h w ws g g' t' ms ps
  unfolding flat
  mended ps e st = mend K f s H r xs h b w ws g g g' t t t' (left K f w) [] ms [] (right K f w) ms ps v.was v.rising (record {
    lefts = sym (append-nil (left K f w));
    rights = refl;
    mends = step_as _ _ _ _ g g (λ c. refl) (λ c. ap (λ (ks : List Child). total (λ d. uses K h g d c) ks + t c) (sym (append-nil ms))) (step_none _ g);
    same = ap (flat (contents K h g)) (sym (append-nil ms));
    writes = st;
    reads = e;
  })

  pub grow_one : OnePage K f w ms g g' t t' → Growing K f s H r xs (suc h) w.block ws g' t' (entry_of K w.block (now K f w ms) ∷ [])
  unfolding All Sound low many contents flat total
  grow_one p = record {
    was = v.was;
    rising = m.rising;
    some = omega arith;
    loose = (
      record {
        sound = (p.there, rw p.reads p.few, rw p.reads below);
        counted = rw p.reads (counts_right K h g' (now K f w ms) below);
        summed = rw p.reads (summed_right K lw h g' (now K f w ms) (omega (arith, longer, inside)) below);
      },
      tt,
    );
    full = λ n o l. (rw p.reads (omega (arith, l, longer)), tt);
    parted = λ l. absurd (omega arith);
  }
    where
      e : under K g' (entry_of K w.block (now K f w ms) ∷ []) ≡ now K f w ms
      e = append-nil (K.children (g' w.block)) ∙ p.reads

      m : Mended K f s H r xs h w ws g g' t' ms (entry_of K w.block (now K f w ms) ∷ [])
      m = mended (entry_of K w.block (now K f w ms) ∷ []) e (step_as _ _ _ _ g g' (λ c. refl) (λ c. omega arith) p.writes)

      below : ChildrenOk K h g' (now K f w ms)
      below = subst (All (ChildOk K h g')) e (m.children children)

  pub grow_two : (d : ℕ) → TwoPages K f w ms d g g' t t'
      → Growing K f s H r xs (suc h) w.block ws g' t' (entry_of K w.block (take (length (now K f w ms) / 2) (now K f w ms)) ∷ entry_of K d (drop (length (now K f w ms) / 2) (now K f w ms)) ∷ [])
  unfolding All total
  grow_two d p = record {
    was = v.was;
    rising = m.rising;
    some = omega arith;
    loose = All-map (ChildOk K (suc h) g') (Loose K (suc h) g') (λ k x. record { sound = x.sound; counted = x.counted; summed = x.summed }) ps two;
    full = λ m o l. All-map (ChildOk K (suc h) g') (λ k. m ≤ many K (suc h) (g' k.block)) (λ k x. omega (arith, o, x.full)) ps two;
    parted = λ l. All-map (ChildOk K (suc h) g') (λ k. low K (suc h) ≤ many K (suc h) (g' k.block)) (λ k x. x.full) ps two;
  }
    where
      n : ℕ
      n = length (now K f w ms)

      ps : List Child
      ps = entry_of K w.block (take (n / 2) (now K f w ms)) ∷ entry_of K d (drop (n / 2) (now K f w ms)) ∷ []

      e : under K g' ps ≡ now K f w ms
      e = under_two K lw h g' w.block d (n / 2) (now K f w ms) p.first p.second

      m : Mended K f s H r xs h w ws g g' t' ms ps
      m = mended ps e (step_as _ _ _ _ g g' (λ c. refl) (λ c. omega arith) p.writes)

      q : (half K.node_cap ≤ n / 2) × (n / 2 ≤ K.node_cap) × (half K.node_cap ≤ n - n / 2) × (n - n / 2 ≤ K.node_cap)
      q = halves n K.node_cap (half K.node_cap) p.too_many p.not_more (omega arith)

      two : ChildrenOk K (suc h) g' ps
      two = two_nodes K lw h g' w.block d (n / 2) (now K f w ms) p.there p.there' p.first p.second (omega arith) q.0 q.1 q.2 q.3 (subst (All (ChildOk K h g')) e (m.children children))

-- a node that may have too few children, as deleting leaves one
pub loose_node : {E : Type 0} (K : Layout E) → Lawful K → (h : ℕ) (f : Mem) (b : ℕ) → Stored f b → length (K.children (f b)) ≤ K.node_cap → 0 < length (K.children (f b)) → ChildrenOk K h f (K.children (f b)) → Loose K (suc h) f (entry_of K b (K.children (f b)))
unfolding Sound contents
loose_node K lw h f b s m n a = record { sound = (s, m, a); counted = counts_right K h f (K.children (f b)) a; summed = summed_right K lw h f (K.children (f b)) n a }

-- and one that turns out to be full enough
pub loose_child : {E : Type 0} (K : Layout E) (h : ℕ) (f : Mem) (k : Child) → Loose K h f k → low K h ≤ many K h (f k.block) → ChildOk K h f k
loose_child K h f k x n = record { sound = x.sound; full = n; counted = x.counted; summed = x.summed }
