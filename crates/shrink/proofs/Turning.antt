-- A turn of the climb: the entry of the child that changed is put into the node, or two neighbours are put right.
use Rattle.std.proofs.Common.{◌≡◌, ℕ, suc, ◌+◌, ◌<◌, ◌≤◌, ◌⊎◌, List, [], ◌∷◌, ◌++◌, length, get_or, take, drop, Some, Option, sym, refl, ap, ◌∙◌, subst, inl, inr, append_assoc, append-nil, arith, length-append, drop-cons, take-suc}
use Rattle.page.specs.declared.child.Child.{Child}
use Rattle.page.specs.Layout.{Layout, Lawful}
use Rattle.store.specs.Memory.{Memory, asked}
use Rattle.store.specs.Steps.{Mem, Ran, Same, hit}
use Rattle.store.proofs.Sums.{hit_same}
use Rattle.store.proofs.Stepping.{step_same}
use Rattle.store.proofs.Running.{ran_as, ran_part, ran_then, ran_asked}
use Rattle.tree.specs.Pages.{page_asks, Reading}
use Rattle.tree.specs.Tree.{total, flat, All, contents, uses, many, low, Sound, contents_of, uses_of, ChildOk, ChildrenOk}
use Rattle.tree.specs.declared.path.Branch.{Branch}
use Rattle.tree.specs.Paths.{none, left, right, before, behind}
use Rattle.tree.proofs.Each.{flat_append, total_append, All-++, All-left, All-right}
use Rattle.tree.proofs.Frames.{KeptAll, frame_all}
use Rattle.tree.proofs.Paths.{around_child, child}
use Rattle.shrink.specs.Asks.{share_asks}
use Rattle.shrink.specs.Sharing.{Neighbours, Shared}
use Rattle.shrink.specs.Shrinking.{Start, Climbing, Ready}
use Rattle.shrink.proofs.Opening as opening

module _ {E : Type 0} (K : Layout E) (lw : Lawful K) (z : Start E) (h : ℕ) (w : Branch) (ws : List Branch) (m : Memory) where
  abbrev f : Mem
  f = z.memory.block

  abbrev g : Mem
  g = m.block

  abbrev kids : List Child
  kids = K.children (f w.block)

  module _ (o : Option Child) (v : Climbing K z h (w ∷ ws) m o) where
    inside : w.place < length kids
    inside = opening.inside K lw z h w ws m o v

    -- ls and rs stand beside the child; they and it are ns now
    module _ (zs ls rs bs ns : List Child) (m₁ : Memory) (j : ℕ) (el : left K f w ≡ zs ++ ls) (er : right K f w ≡ rs ++ bs)
        (ran : Ran j (λ c. uses_of K h g (ls ++ (child K f w ∷ rs)) c) (λ c. uses_of K h m₁.block ns c) m m₁)
        (same : contents_of K h m₁.block ns ≡ contents_of K h g (ls ++ (child K f w ∷ rs))) (ok : ChildrenOk K h m₁.block ns)
        (some : 1 ≤ length ns) (few : length ns ≤ suc (length ls + length rs)) (fewer : length ls + length rs ≤ length ns) (lj : j ≤ page_asks + share_asks) where
      abbrev os : List Child
      os = ls ++ (child K f w ∷ rs)

      kids_are : kids ≡ zs ++ (os ++ bs)
      kids_are = around_child K f w inside ∙ rw (el, er) (simp append_assoc)

      sum_kids : (c : ℕ) → uses_of K h g kids c ≡ uses_of K h g zs c + (uses_of K h g os c + uses_of K h g bs c)
      sum_kids c = ap (total (λ d. uses K h g d c)) kids_are ∙ total_append (λ d. uses K h g d c) zs (os ++ bs) ∙ ap (λ (n : ℕ). uses_of K h g zs c + n) (total_append (λ d. uses K h g d c) os bs)

      abbrev rest : ℕ → ℕ
      rest c = hit w.block c + (uses_of K h g zs c + uses_of K h g bs c)

      same_rest : Same rest g m₁.block
      same_rest = step_same _ _ rest g m₁.block ran.step (λ c. omega (arith, opening.fits_now K lw z h w ws m o v c, sum_kids c))

      kept_zs : KeptAll K h g m₁.block zs
      kept_zs = frame_all K h g m₁.block zs (λ c n. same_rest c (λ e. n (omega arith)))

      kept_bs : KeptAll K h g m₁.block bs
      kept_bs = frame_all K h g m₁.block bs (λ c n. same_rest c (λ e. n (omega arith)))

      zs_ok : ChildrenOk K h g zs
      zs_ok = All-left (ChildOk K h g) zs ls (subst (All (ChildOk K h g)) el (opening.lefts K lw z h w ws m o v))

      bs_ok : ChildrenOk K h g bs
      bs_ok = All-right (ChildOk K h g) rs bs (subst (All (ChildOk K h g)) er (opening.rights K lw z h w ws m o v))

      sum_new : (c : ℕ) → uses_of K h m₁.block (zs ++ (ns ++ bs)) c ≡ uses_of K h m₁.block zs c + (uses_of K h m₁.block ns c + uses_of K h m₁.block bs c)
      sum_new c = total_append (λ d. uses K h m₁.block d c) zs (ns ++ bs) ∙ ap (λ (n : ℕ). uses_of K h m₁.block zs c + n) (total_append (λ d. uses K h m₁.block d c) ns bs)

      contents_new : contents_of K h m₁.block (zs ++ (ns ++ bs)) ≡ contents_of K h g kids
      contents_new = after ∙ sym (ap (flat (contents K h g)) kids_are ∙ simp flat_append)
        where
          after : contents_of K h m₁.block (zs ++ (ns ++ bs)) ≡ contents_of K h g zs ++ ((contents_of K h g ls ++ contents_of K h g (child K f w ∷ rs)) ++ contents_of K h g bs)
          after = simp (flat_append, kept_zs.same_contents, kept_bs.same_contents, same)

      long : length kids ≡ length zs + ((length ls + suc (length rs)) + length bs)
      long = ap length kids_are ∙ simp length-append

      long_new : length (zs ++ (ns ++ bs)) ≡ length zs + (length ns + length bs)
      long_new = simp length-append

      pub replaced : Ready K z h w.block ws m₁ (zs ++ (ns ++ bs))
      unfolding many
      replaced = record {
        used = v.used + j;
        starts = v.starts;
        path = opening.up K lw z h w ws m o v;
        ran = ran_as _ _ _ z.memory m₁ (ran_part v.used j _ _ _ _ rest z.memory m m₁ (opening.open_ran K lw z h w ws m o v) (λ c. omega (arith, sum_kids c)) ran) _ _
            (λ c. refl) (λ c. omega (arith, sum_new c, kept_zs.same_uses c, kept_bs.same_uses c));
        room = omega (arith, v.room, lj);
        whole = rw contents_new (opening.open_whole K lw z h w ws m o v);
        there = ((opening.there K lw z h w ws m o v).0, ap length (same_rest w.block (λ e. omega (arith, hit_same w.block))) ∙ (opening.there K lw z h w ws m o v).1);
        children = All-++ (ChildOk K h m₁.block) zs (ns ++ bs) (kept_zs.still_children zs_ok) (All-++ (ChildOk K h m₁.block) ns bs ok (kept_bs.still_children bs_ok));
        some = omega (arith, long_new);
        few = omega (arith, long_new, long, opening.few K lw z h w ws m o v);
        fewer = omega (arith, long_new, long);
      }

  -- the child is full enough: its entry is put in
  pub entered : (k : Child) (v : Climbing K z h (w ∷ ws) m (Some k)) (m₁ : Memory) → Reading page_asks m m₁ → Ready K z h w.block ws m₁ (take w.place kids ++ (k ∷ drop (suc w.place) kids))
  unfolding All total flat
  entered k v m₁ r =
      subst (λ (x : Memory). Ready K z h w.block ws x (take w.place kids ++ (k ∷ drop (suc w.place) kids))) (sym r.is)
      (replaced (Some k) v (left K f w) [] [] (right K f w) (k ∷ []) (asked r.times m) r.times (sym (append-nil (left K f w))) refl
      (ran_as r.times _ _ m (asked r.times m) (ran_asked r.times (uses K h g v.block) m) _ _
      (λ c. omega (arith, ap (λ (b : ℕ). uses K h g b c) (opening.child_is K lw z h w ws m (Some k) v)))
      (λ c. omega (arith, ap (λ (b : ℕ). uses K h g b c) v.risen.0)))
      (ap (λ (b : ℕ). contents K h g b ++ []) (v.risen.0 ∙ opening.child_is K lw z h w ws m (Some k) v))
      (v.risen.1, tt) (omega arith) (omega arith) (omega arith) (omega (arith, r.few)))

  -- the children at i and behind it, one of which is the child that changed
  abbrev pub at : ℕ → Child
  at i = get_or kids i none

  pub record Beside (i : ℕ) : Type 0 where
    pub ls : List Child
    pub rs : List Child
    pub lefts_are : left K f w ≡ take i kids ++ ls
    pub rights_are : right K f w ≡ rs ++ drop (suc (suc i)) kids
    pub pair : ls ++ (child K f w ∷ rs) ≡ at i ∷ (at (suc i) ∷ [])
    pub one_more : length ls + length rs ≡ 1
    pub first : Sound K h g (at i).block
    pub second : Sound K h g (at (suc i)).block
    pub enough : low K h ≤ many K h (g (at i).block) + many K h (g (at (suc i)).block)

  module _ (o : Option Child) (v : Climbing K z h (w ∷ ws) m o) where
    -- the neighbour on the right
    beside_right : (i : ℕ) → w.place ≡ i → suc i < length kids → Beside i
    unfolding All
    beside_right i e l = record {
      ls = [];
      rs = at (suc i) ∷ [];
      lefts_are = ap (λ (n : ℕ). take n kids) e ∙ sym (append-nil (take i kids));
      rights_are = behind_it;
      pair = ap (λ (n : ℕ). at n ∷ (at (suc i) ∷ [])) e;
      one_more = refl;
      first = subst (λ (n : ℕ). Sound K h g (at n).block) e (opening.sound_child K lw z h w ws m o v);
      second = next.sound;
      enough = omega (arith, next.full);
    }
      where
        behind_it : right K f w ≡ at (suc i) ∷ drop (suc (suc i)) kids
        behind_it = ap (λ (n : ℕ). drop (suc n) kids) e ∙ drop-cons kids (suc i) none l

        next : ChildOk K h g (at (suc i))
        next = (subst (All (ChildOk K h g)) behind_it (opening.rights K lw z h w ws m o v)).0

    -- the neighbour on the left
    beside_left : (i : ℕ) → w.place ≡ suc i → suc i < length kids → Beside i
    unfolding All
    beside_left i e l = record {
      ls = at i ∷ [];
      rs = [];
      lefts_are = before_it;
      rights_are = ap (λ (n : ℕ). drop (suc n) kids) e;
      pair = ap (λ (n : ℕ). at i ∷ (at n ∷ [])) e;
      one_more = refl;
      first = last.sound;
      second = subst (λ (n : ℕ). Sound K h g (at n).block) e (opening.sound_child K lw z h w ws m o v);
      enough = omega (arith, last.full);
    }
      where
        before_it : left K f w ≡ take i kids ++ (at i ∷ [])
        before_it = ap (λ (n : ℕ). take n kids) e ∙ take-suc kids i none (omega arith)

        last : ChildOk K h g (at i)
        last = (All-right (ChildOk K h g) (take i kids) (at i ∷ []) (subst (All (ChildOk K h g)) before_it (opening.lefts K lw z h w ws m o v))).0

    pub beside : (i : ℕ) → (w.place ≡ i) ⊎ (w.place ≡ suc i) → suc i < length kids → Beside i
    beside i (inl e) l = beside_right i e l
    beside i (inr e) l = beside_left i e l

    module _ (i : ℕ) (q : Beside i) where
      split : kids ≡ take i kids ++ ((at i ∷ (at (suc i) ∷ [])) ++ drop (suc (suc i)) kids)
      split = around_child K f w inside' ∙ rw (q.lefts_are, q.rights_are) (simp append_assoc) ∙ ap (λ (ks : List Child). take i kids ++ (ks ++ drop (suc (suc i)) kids)) q.pair
        where
          inside' : w.place < length kids
          inside' = opening.inside K lw z h w ws m o v

      sum_pair : (c : ℕ) → uses K h g (at i).block c + uses K h g (at (suc i)).block c ≤ uses_of K h g kids c
      unfolding total
      sum_pair c = omega (
        arith,
        ap (total (λ d. uses K h g d c)) split,
        total_append (λ d. uses K h g d c) (take i kids) ((at i ∷ (at (suc i) ∷ [])) ++ drop (suc (suc i)) kids),
      )

      long_pair : length (contents K h g (at i).block) + length (contents K h g (at (suc i)).block) ≤ length (contents_of K h g kids)
      unfolding flat
      long_pair = omega (
        arith,
        ap (λ (ks : List Child). length (contents_of K h g ks)) split,
        ap length (flat_append (contents K h g) (take i kids) ((at i ∷ (at (suc i) ∷ [])) ++ drop (suc (suc i)) kids)),
        length-append (contents_of K h g (take i kids)) (contents_of K h g ((at i ∷ (at (suc i) ∷ [])) ++ drop (suc (suc i)) kids)),
        length-append (contents K h g (at i).block) (contents K h g (at (suc i)).block ++ contents_of K h g (drop (suc (suc i)) kids)),
        length-append (contents K h g (at (suc i)).block) (contents_of K h g (drop (suc (suc i)) kids)),
      )

      pub neighbours : (m₁ : Memory) → Reading page_asks m m₁ → Neighbours K h (at i).block (at (suc i)).block m₁
      neighbours m₁ r = subst (Neighbours K h (at i).block (at (suc i)).block) (sym r.is) (record {
        first = q.first;
        second = q.second;
        enough = q.enough;
        apart = λ c. omega (arith, sum_pair c, opening.fits_now K lw z h w ws m o v c);
        counted = omega (
          arith,
          long_pair,
          ap length (opening.open_whole K lw z h w ws m o v),
          length-append (before K f (suc h) ws) (contents_of K h g kids ++ behind K f (suc h) ws),
          length-append (contents_of K h g kids) (behind K f (suc h) ws),
          v.starts.small,
        );
        number = opening.number_now K lw z h w ws m o v;
      })

      pub mended : (m₁ m₂ : Memory) (ns : List Child) → Reading page_asks m m₁ → Shared K share_asks h (at i).block (at (suc i)).block m₁ ns m₂ → Ready K z h w.block ws m₂ (take i kids ++ (ns ++ drop (suc (suc i)) kids))
      unfolding total flat
      mended m₁ m₂ ns r s₁ =
          let s : Shared K share_asks h (at i).block (at (suc i)).block (asked r.times m) ns m₂ = subst (λ (x : Memory). Shared K share_asks h (at i).block (at (suc i)).block x ns m₂) r.is s₁ in
          replaced o v (take i kids) q.ls q.rs (drop (suc (suc i)) kids) ns m₂ (r.times + share_asks) q.lefts_are q.rights_are
          (ran_as (r.times + share_asks) _ _ m m₂ (ran_then r.times share_asks _ _ _ m (asked r.times m) m₂ (ran_asked r.times _ m) s.ran) _ _
          (λ c. rw q.pair (omega arith)) (λ c. refl))
          (s.same ∙ rw (q.pair, append-nil (contents K h g (at (suc i)).block)) refl)
          s.children s.some (omega (arith, s.few, q.one_more)) (omega (arith, s.some, q.one_more)) (omega (arith, r.few))
