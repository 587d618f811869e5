-- A node on the path: what is below it is as it was, but for the child that the path takes.
use Rattle.std.proofs.Common.{◌≡◌, ℕ, suc, ◌+◌, ◌<◌, ◌≤◌, List, [], ◌∷◌, ◌++◌, length, Option, sym, ap, ◌∙◌, subst, append_assoc, arith}
use Rattle.page.specs.declared.child.Child.{Child}
use Rattle.page.specs.Layout.{Layout, Lawful}
use Rattle.store.specs.Memory.{Memory, Stored}
use Rattle.store.specs.Steps.{Mem, Ran, Same, hit, held, held_in}
use Rattle.store.proofs.Sums.{hit_same}
use Rattle.store.proofs.Stepping.{step_same}
use Rattle.store.proofs.Running.{ran_as, ran_beside}
use Rattle.tree.specs.Tree.{total, flat, All, contents, uses, many, low, least, Sound, contents_of, uses_of, ChildOk, ChildrenOk, Root}
use Rattle.tree.specs.declared.path.Branch.{Branch}
use Rattle.tree.specs.Paths.{left, right, Path, before, behind, around, Seen}
use Rattle.tree.proofs.Each.{flat_append, total_append, All-left, All-right}
use Rattle.tree.proofs.Frames.{KeptAll, frame_all}
use Rattle.tree.proofs.Paths.{around_child, child, node_child, node_uses, seen}
use Rattle.shrink.specs.Shrinking.{Start, Climbing}

module _ {E : Type 0} (K : Layout E) (lw : Lawful K) where
  -- a node on a path has two children at least
  pub two_children : (f : Mem) (H r h b : ℕ) (ws : List Branch) → Root K H f r → Path K f (suc h) b ws H r → 2 ≤ length (K.children (f b))
  unfolding Path least many low
  two_children f H r h b [] w p = subst (λ (x : ℕ). 2 ≤ length (K.children (f x))) (sym p.1) (subst (λ (n : ℕ). least K n ≤ many K n (f r)) (sym p.0) w.full)
  two_children f H r h b (v ∷ vs) w p =
      let c : ChildOk K (suc h) f (child K f v) = node_child K (suc h) f v p.0 ((seen K f (suc (suc h)) v.block vs H r p.2).sound_seen w.sound) in
      subst (λ (x : ℕ). 2 ≤ length (K.children (f x))) (sym p.1) (omega (arith, c.full, lw.node_room))

  module _ (z : Start E) (h : ℕ) (w : Branch) (ws : List Branch) (m : Memory) (o : Option Child) (v : Climbing K z h (w ∷ ws) m o) where
    abbrev f : Mem
    f = z.memory.block

    abbrev g : Mem
    g = m.block

    abbrev pub kids : List Child
    kids = K.children (f w.block)

    pub inside : w.place < length kids
    unfolding Path
    inside = v.path.0

    pub child_is : v.block ≡ (child K f w).block
    unfolding Path
    child_is = v.path.1

    pub up : Path K f (suc h) w.block ws z.level z.top
    unfolding Path
    up = v.path.2

    here : Seen K f h v.block (w ∷ ws) z.level z.top
    here = seen K f h v.block (w ∷ ws) z.level z.top v.path

    same : Same (around K f h (w ∷ ws)) f g
    same = step_same _ _ (around K f h (w ∷ ws)) f g v.ran.step (λ c. omega (arith, v.starts.fits c, here.uses_seen c))

    pub page : g w.block ≡ f w.block
    unfolding around
    page = same w.block (λ e. omega (arith, hit_same w.block))

    pub sound_f : Sound K (suc h) f w.block
    sound_f = (seen K f (suc h) w.block ws z.level z.top up).sound_seen v.starts.was.sound

    pub there : Stored g w.block
    unfolding Sound
    there = (sound_f.0.0, ap length page ∙ sound_f.0.1)

    pub reads : K.children (g w.block) ≡ kids
    reads = ap K.children page

    pub few : length kids ≤ K.node_cap
    unfolding Sound
    few = sound_f.1

    pub two : 2 ≤ length kids
    two = two_children f z.level z.top h w.block ws v.starts.was up

    kept_left : KeptAll K h f g (left K f w)
    unfolding around
    kept_left = frame_all K h f g (left K f w) (λ c n. same c (λ e. n (omega arith)))

    kept_right : KeptAll K h f g (right K f w)
    unfolding around
    kept_right = frame_all K h f g (right K f w) (λ c n. same c (λ e. n (omega arith)))

    parts_f : ChildrenOk K h f (left K f w ++ (child K f w ∷ right K f w))
    unfolding Sound
    parts_f = subst (All (ChildOk K h f)) (around_child K f w inside) sound_f.2

    pub lefts : ChildrenOk K h g (left K f w)
    lefts = kept_left.still_children (All-left (ChildOk K h f) (left K f w) (child K f w ∷ right K f w) parts_f)

    pub rights : ChildrenOk K h g (right K f w)
    unfolding All
    rights = kept_right.still_children (All-right (ChildOk K h f) (left K f w) (child K f w ∷ right K f w) parts_f).1

    pub sound_child : Sound K h g (child K f w).block
    sound_child = subst (Sound K h g) child_is v.sound

    -- the uses of the node: its own block, and what is below it now
    uses_now : (c : ℕ) → uses_of K h g kids c ≡ uses K h g v.block c + (uses_of K h f (left K f w) c + uses_of K h f (right K f w) c)
    unfolding total
    uses_now c = omega (
      arith,
      ap (total (λ d. uses K h g d c)) (around_child K f w inside),
      total_append (λ d. uses K h g d c) (left K f w) (child K f w ∷ right K f w),
      kept_left.same_uses c,
      kept_right.same_uses c,
      ap (λ (d : ℕ). uses K h g d c) child_is,
    )

    pub open_ran : Ran v.used (uses K (suc h) f w.block) (λ c. hit w.block c + uses_of K h g kids c) z.memory m
    open_ran = ran_as v.used _ _ z.memory m (ran_beside v.used _ _ z.memory m v.ran (λ c. hit w.block c + (uses_of K h f (left K f w) c + uses_of K h f (right K f w) c))) _ _
        (λ c. omega (arith, node_uses K h f w c inside, ap (λ (d : ℕ). uses K h f d c) child_is))
        (λ c. omega (arith, uses_now c))

    pub fits_now : (c : ℕ) → hit w.block c + uses_of K h g kids c ≤ held g c
    fits_now c = omega (arith, v.starts.fits c, (seen K f (suc h) w.block ws z.level z.top up).uses_seen c, open_ran.step.balanced c)

    pub open_whole : before K f (suc h) ws ++ (contents_of K h g kids ++ behind K f (suc h) ws) ≡ z.goal
    unfolding before behind flat
    open_whole = rw (around_child K f w inside, flat_append (contents K h g) (left K f w) (child K f w ∷ right K f w), kept_left.same_contents, kept_right.same_contents, ← child_is) (simp append_assoc (simp append_assoc at v.whole))

    pub number_now : m.many ≡ held_in g
    number_now = omega (arith, v.ran.number, v.starts.number)
