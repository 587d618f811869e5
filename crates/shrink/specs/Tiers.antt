-- What it means on the levels of a tree that two neighbours share: their entries were put onto one page, or evenly onto both. Assumes nothing.
use Rattle.std.proofs.Common.{◌≡◌, ℕ, zero, suc, ◌+◌, ◌^◌, ◌<◌, ◌≤◌, List, [], ◌∷◌, ◌++◌, length, Some, None, Option, MatchOption, sym, ap, ◌∙◌, subst, append-nil, arith, length-append}
use Rattle.page.specs.declared.child.Child.{Child}
use Rattle.page.specs.Layout.{Layout, Lawful, half, counts, summed, entry_of, entry_of_leaf}
use Rattle.store.specs.Memory.{Memory, Stored}
use Rattle.store.specs.Steps.{Mem, Ran, Step, hit, held, held_in}
use Rattle.store.proofs.Sums.{hit_same, at_sum_to}
use Rattle.store.proofs.Running.{stored_held}
use Rattle.store.proofs.Stepping.{step_as, step_same}
use Rattle.tree.specs.Climb.{one_or_two, risen_list}
use Rattle.tree.specs.Tree.{total, flat, All, contents, uses, many, low, Sound, contents_of, uses_of, ChildOk, ChildrenOk, under}
use Rattle.tree.specs.Rising.{Repage, Repaged}
use Rattle.tree.proofs.Each.{flat_append, All-++, All-left, All-right}
use Rattle.tree.proofs.Frames.{frame_all}
use Rattle.tree.proofs.Levels.{uses_under}
use Rattle.tree.proofs.Entries.{counts_right}
use Rattle.tree.proofs.Leaves.{one_leaf}
use Rattle.tree.proofs.Settle.{one_node}
use Rattle.tree.proofs.Mending.{repage_leaves, repage_nodes}
use Rattle.tree.specs.declared.risen.Risen.{Risen}
use Rattle.shrink.specs.Sharing.{Sharable, InOne, InTwo, OneAbove, TwoAbove, Above, Neighbours, Shared}
use Rattle.shrink.specs.Asks.{share_asks}

-- a block that is held is counted
pub some_held : (m : Memory) (b : ℕ) → Stored m.block b → m.many ≡ held_in m.block → 0 < m.many
some_held m b s e = omega (arith, at_sum_to 1048576 b (held m.block) s.0, stored_held m.block b s)

-- a page that is sound is held
pub stored_of : {E : Type 0} (K : Layout E) (h : ℕ) (f : Mem) (b : ℕ) → Sound K h f b → Stored f b
unfolding Sound
stored_of K zero f b s = s.0
stored_of K (suc h) f b s = s.0

-- what stands above one page or two: what holds in both cases holds of it
above_in : {X : Type 0} (read : List ℕ → List X) (cap a b : ℕ) (m : Memory) (k : ℕ) (entry : ℕ → List X → Child) (m' : Memory) (S : List Child → Type 0)
    → ((xs : List X) → InOne read cap a b m k xs m' → S (one_or_two (entry a xs) None)) → ((xs ys : List X) → InTwo read cap a b m k xs ys m' → S (one_or_two (entry a xs) (Some (entry b ys))))
    → (r : Risen) → Above read cap a b m k entry r m' → S (risen_list r)
above_in {X} read cap a b m k entry m' S one two r = go r.first r.second
  where
    go : (x : Child) (o : Option Child) → MatchOption o (OneAbove read cap a b m k entry x m') (λ y. TwoAbove read cap a b m k entry x y m') → S (one_or_two x o)
    go x None p = subst (λ (q : Child). S (one_or_two q None)) (sym p.above) (one p.xs p.all)
    go x (Some y) p = subst (λ (q : Child). S (one_or_two q (Some y))) (sym p.first_above) (subst (λ (q : Child). S (one_or_two (entry a p.xs) (Some q))) (sym p.second_above) (two p.xs p.ys p.both))

-- two blocks that are used at most once are two
two_blocks : (a b : ℕ) (f : Mem) (u v : ℕ → ℕ) → Stored f a → ((c : ℕ) → hit a c ≤ u c) → ((c : ℕ) → hit b c ≤ v c) → ((c : ℕ) → u c + v c ≤ held f c) → a ≡ b → ⊥
two_blocks a b f u v s p q o e = omega (arith, p a, q a, o a, stored_held f a s, hit_same a, ap (λ (x : ℕ). hit x a) e)

-- the same run, with another step
ran_with : (k : ℕ) (u u' v v' : ℕ → ℕ) (m m' : Memory) → Ran k u u' m m' → Step v v' m.block m'.block → Ran k v v' m m'
ran_with k u u' v v' m m' r s = record { step = s; number = r.number; asks = r.asks; top = r.top; failed = r.failed }

-- a block's entry, of which nothing but the block matters
abbrev only : ℕ → Child
only b = record { count = 0; block = b; summary = 0 }

-- two neighbours of level h
module _ {E : Type 0} (K : Layout E) (h a b : ℕ) (m : Memory) (n : Neighbours K h a b m) where
  abbrev g : Mem
  g = m.block

  abbrev both : List Child
  both = only a ∷ (only b ∷ [])

  hit_uses : (i : ℕ) (f : Mem) (d c : ℕ) → hit d c ≤ uses K i f d c
  unfolding uses
  hit_uses zero f d c = omega arith
  hit_uses (suc i) f d c = omega arith

  apart : a ≡ b → ⊥
  apart = two_blocks a b g _ _ (stored_of K h g a n.first) (hit_uses h g a) (hit_uses h g b) n.apart

  fits : (c : ℕ) → uses_of K h g both c + 0 ≤ held g c
  unfolding total
  fits c = omega (arith, n.apart c)

  -- pages of this level: what their words read as, how many entries fit, and how many items are under them
  module _ {X : Type 0} (read : List ℕ → List X) (cap : ℕ) (items_under : List X → ℕ) where
    near : ((d : ℕ) → Sound K h g d → length (read (g d)) ≤ cap) → half cap ≤ length (read (g a)) + length (read (g b)) → items_under (read (g a) ++ read (g b)) < 2 ^ 64 → Sharable read cap a b m items_under
    near few enough counted = record {
      first = stored_of K h g a n.first;
      second = stored_of K h g b n.second;
      apart = apart;
      first_few = few a n.first;
      second_few = few b n.second;
      enough = enough;
      counted = counted;
      held = some_held m a (stored_of K h g a n.first) n.number;
    }

    -- what a node keeps of them; what is true of each entry; and a page with enough of them
    module _ (summary : List X → ℕ) (Good : Mem → List X → Type 0) (left : (f : Mem) (xs ys : List X) → Good f (xs ++ ys) → Good f xs) (right : (f : Mem) (xs ys : List X) → Good f (xs ++ ys) → Good f ys)
        (kept : (u : ℕ → ℕ) (f : Mem) → Step (λ c. hit a c + hit b c) u g f → Good f (read (g a) ++ read (g b)))
        (child : (f : Mem) (c : ℕ) (xs : List X) → Stored f c → read (f c) ≡ xs → half cap ≤ length xs → length xs ≤ cap → Good f xs → ChildOk K h f (record { count = items_under xs; block = c; summary = summary xs }))
        (repage : (f : Mem) (ns : List Child) → Repage K h g f (λ c. 0) (λ c. 0) both ns → flat (λ d. read (f d)) ns ≡ flat (λ d. read (g d)) both → Repaged K h g f (λ c. 0) (λ c. 0) both ns)
        (enough : half cap ≤ length (read (g a)) + length (read (g b))) where
      abbrev entry : ℕ → List X → Child
      entry c xs = record { count = items_under xs; block = c; summary = summary xs }

      shared_of : (u' : ℕ → ℕ) (ns : List Child) (m' : Memory) → Ran share_asks (λ c. hit a c + hit b c) u' m m' → ((c : ℕ) → u' c ≡ total (λ d. hit d c) ns) → flat (λ d. read (m'.block d)) ns ≡ flat (λ d. read (g d)) both
          → ChildrenOk K h m'.block ns → 1 ≤ length ns → length ns ≤ 2 → Shared K share_asks h a b m ns m'
      unfolding total flat
      shared_of u' ns m' r e w ok some few = record {
        ran = ran_with share_asks _ _ _ _ m m' r (step_as _ _ _ _ g m'.block (λ c. omega arith) (λ c. omega arith) p.all);
        same = p.same_contents ∙ ap (λ (xs : List E). contents K h g a ++ xs) (append-nil (contents K h g b));
        children = ok;
        some = some;
        few = few;
      }
        where
          p : Repaged K h g m'.block (λ c. 0) (λ c. 0) both ns
          p = repage m'.block ns (record { fits = fits; writes = step_as _ _ _ _ g m'.block (λ c. omega arith) (λ c. omega (arith, e c)) r.step }) w

      in_one : (m' : Memory) (xs : List X) → InOne read cap a b m share_asks xs m' → Shared K share_asks h a b m (one_or_two (entry a xs) None) m'
      unfolding total flat All one_or_two
      in_one m' xs p = shared_of _ (entry a xs ∷ []) m' p.ran (λ c. omega arith)
          (append-nil (read (m'.block a)) ∙ p.reads ∙ p.same ∙ ap (λ (ys : List X). read (g a) ++ ys) (sym (append-nil (read (g b)))))
          (child m'.block a xs p.there p.reads (omega (arith, enough, ap length p.same, length-append (read (g a)) (read (g b)))) p.few (subst (Good m'.block) (sym p.same) (kept _ m'.block p.ran.step)), tt) (omega arith) (omega arith)

      in_two : (m' : Memory) (xs ys : List X) → InTwo read cap a b m share_asks xs ys m' → Shared K share_asks h a b m (one_or_two (entry a xs) (Some (entry b ys))) m'
      unfolding total flat All one_or_two
      in_two m' xs ys p = shared_of _ (entry a xs ∷ (entry b ys ∷ [])) m' p.ran (λ c. omega arith)
          (rw (append-nil (read (m'.block b)), append-nil (read (g b)), p.first, p.second) p.same) (
            child m'.block a xs p.there p.first p.first_full p.first_few (left m'.block xs ys good),
            (child m'.block b ys p.there' p.second p.second_full p.second_few (right m'.block xs ys good), tt),
          )
          (omega arith) (omega arith)
        where
          good : Good m'.block (xs ++ ys)
          good = subst (Good m'.block) (sym p.same) (kept _ m'.block p.ran.step)

      shared : (m' : Memory) (r : Risen) → Above read cap a b m share_asks entry r m' → Shared K share_asks h a b m (risen_list r) m'
      shared m' r = above_in read cap a b m share_asks entry m' (λ ns. Shared K share_asks h a b m ns m') (in_one m') (in_two m') r

-- children of two nodes
module _ {E : Type 0} (K : Layout E) (h a b : ℕ) (m : Memory) (n : Neighbours K (suc h) a b m) where
  abbrev kids : List Child
  kids = K.children (m.block a) ++ K.children (m.block b)

  kids_ok : ChildrenOk K h m.block kids
  unfolding Sound
  kids_ok = All-++ (ChildOk K h m.block) (K.children (m.block a)) (K.children (m.block b)) n.first.2 n.second.2

  -- how many items there are under them
  kids_counted : counts kids < 2 ^ 64
  unfolding contents
  kids_counted = omega (
    arith,
    n.counted,
    counts_right K h m.block kids kids_ok,
    ap length (flat_append (contents K h m.block) (K.children (m.block a)) (K.children (m.block b))),
    length-append (contents_of K h m.block (K.children (m.block a))) (contents_of K h m.block (K.children (m.block b))),
  )

  under_both : under K m.block (only a ∷ (only b ∷ [])) ≡ kids
  unfolding flat
  under_both = ap (λ (ks : List Child). K.children (m.block a) ++ ks) (append-nil (K.children (m.block b)))

  -- what is below is as it was
  kids_kept : (u : ℕ → ℕ) (f : Mem) → Step (λ c. hit a c + hit b c) u m.block f → ChildrenOk K h f kids
  unfolding total
  kids_kept u f s = (frame_all K h m.block f kids (step_same _ _ (λ c. uses_of K h m.block kids c) m.block f s
      (λ c. omega (arith, n.apart c, uses_under K h m.block (only a ∷ (only b ∷ [])) c, ap (total (λ d. uses K h m.block d c)) under_both)))).still_children kids_ok

-- as the laws of levels ask it
module _ {E : Type 0} (K : Layout E) where
  pub leaves_sharable : (h a b : ℕ) (m : Memory) → h ≡ 0 → Neighbours K h a b m → Sharable K.items K.leaf_cap a b m length
  unfolding Sound low many contents
  leaves_sharable zero a b m e n = near K 0 a b m n K.items K.leaf_cap length (λ d s. s.1) n.enough (omega (arith, n.counted, length-append (K.items (m.block a)) (K.items (m.block b))))
  leaves_sharable (suc h) a b m e n = absurd (omega arith)

  pub leaves_shared : (h a b : ℕ) (m m' : Memory) (r : Risen) → h ≡ 0 → Neighbours K h a b m → Above K.items K.leaf_cap a b m share_asks (entry_of_leaf K) r m' → Shared K share_asks h a b m (risen_list r) m'
  unfolding low many
  leaves_shared zero a b m m' r e n = shared K 0 a b m n K.items K.leaf_cap length K.summary (λ f xs. Unit {0}) (λ f xs ys u. tt) (λ f xs ys u. tt) (λ u f s. tt)
      (λ f c xs s q l u t. one_leaf K f c xs s q l u) (λ f ns. repage_leaves K m.block f (λ c. 0) (λ c. 0) (only a ∷ (only b ∷ [])) ns) n.enough m' r
  leaves_shared (suc h) a b m m' r e n = absurd (omega arith)

  module _ (lw : Lawful K) where
    pub nodes_sharable : (h a b : ℕ) (m : Memory) → 0 < h → Neighbours K h a b m → Sharable K.children K.node_cap a b m counts
    unfolding Sound low many
    nodes_sharable zero a b m l n = absurd (omega arith)
    nodes_sharable (suc h) a b m l n = near K (suc h) a b m n K.children K.node_cap counts (λ d s. s.1) n.enough (kids_counted K h a b m n)

    pub nodes_shared : (h a b : ℕ) (m m' : Memory) (r : Risen) → 0 < h → Neighbours K h a b m → Above K.children K.node_cap a b m share_asks (entry_of K) r m' → Shared K share_asks h a b m (risen_list r) m'
    unfolding low many
    nodes_shared zero a b m m' r l n = absurd (omega arith)
    nodes_shared (suc h) a b m m' r l n = shared K (suc h) a b m n K.children K.node_cap counts (summed K.join) (ChildrenOk K h) (λ f. All-left (ChildOk K h f)) (λ f. All-right (ChildOk K h f)) (kids_kept K h a b m n)
        (one_node K lw h) (λ f ns. repage_nodes K h m.block f (λ c. 0) (λ c. 0) (only a ∷ (only b ∷ [])) ns) n.enough m' r
