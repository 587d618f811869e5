-- A tree is given back, block by block.
use Rattle.std.proofs.Common.{◌≡◌, ℕ, zero, suc, ◌+◌, ◌<◌, ◌≤◌, List, [], ◌∷◌, length, get_or, drop, sym, refl, arith, drop_of_length-le, drop-cons}
use Rattle.page.specs.Layout.{Layout}
use Rattle.store.specs.Memory.{Stored, at}
use Rattle.store.specs.Steps.{Mem, hit, held, Same, Step}
use Rattle.store.proofs.Sums.{hit_same}
use Rattle.store.proofs.Stepping.{step_then, step_beside, step_same, step_as, step_none, step_release}
use Rattle.tree.specs.Tree.{total, All, uses, blocks, Sound, ChildOk, ChildrenOk}
use Rattle.tree.specs.declared.path.Branch.{Branch}
use Rattle.tree.specs.Paths.{none}
use Rattle.tree.specs.Taking.{rest, to_do, remaining, Pending, Waits, Giving}
use Rattle.tree.proofs.Frames.{frame_all}
use Rattle.tree.proofs.Writing.{some_long}

module _ {E : Type 0} (K : Layout E) where
  -- what is still to do depends on the blocks that are still to be given back
  pub waits : (f f' : Mem) (h : ℕ) (ws : List Branch) → Same (to_do K f h ws) f f' → Waits K f f' h ws
  unfolding to_do remaining Pending
  waits f f' h [] s = record { same_to_do = λ c. refl; same_remaining = refl; still_pending = λ p. p }
  waits f f' h (w ∷ ws) s =
      let e : f' w.block ≡ f w.block = s w.block (λ z. omega (arith, hit_same w.block)) in
      let k = frame_all K h f f' (rest K f w) (λ c n. s c (λ z. n (omega arith))) in
      let r = waits f f' (suc h) ws (λ c n. s c (λ z. n (omega arith))) in
      record {
        same_to_do = λ c. rw e (omega (arith, k.same_uses c, r.same_to_do c));
        same_remaining = rw e (omega (arith, k.same_blocks, r.same_remaining));
        still_pending = λ p. rw e (p.0, p.1, k.still_children p.2, r.still_pending p.3);
      }

  -- a child that is a node goes on the row; nothing is given back
  pub push : (f : Mem) (h : ℕ) (w : Branch) (ws : List Branch) (c : ℕ) → w.place < length (K.children (f w.block))
      → to_do K f h (record { block = (get_or (K.children (f w.block)) w.place none).block; place = 0 } ∷ record { block = w.block; place = suc w.place } ∷ ws) c ≡ to_do K f (suc h) (w ∷ ws) c
  unfolding to_do uses total
  push f h w ws c l = rw (drop-cons (K.children (f w.block)) w.place none l) (omega arith)

  -- a child that is a leaf is given back
  pub pick : (f : Mem) (w : Branch) (ws : List Branch) (c : ℕ) → w.place < length (K.children (f w.block))
      → hit (get_or (K.children (f w.block)) w.place none).block c + to_do K f 0 (record { block = w.block; place = suc w.place } ∷ ws) c ≡ to_do K f 0 (w ∷ ws) c
  unfolding to_do uses total
  pick f w ws c l = rw (drop-cons (K.children (f w.block)) w.place none l) (omega arith)

  -- a node of which no child is left
  pub pop : (f : Mem) (h : ℕ) (w : Branch) (ws : List Branch) (c : ℕ) → length (K.children (f w.block)) ≤ w.place
      → hit w.block c + to_do K f (suc h) ws c ≡ to_do K f h (w ∷ ws) c
  unfolding to_do total
  pop f h w ws c e = rw (drop_of_length-le (K.children (f w.block)) e) (omega arith)

  -- one block is given back, of those that are to do
  pub given : (f : Mem) (h : ℕ) (ws : List Branch) (b : ℕ) → ((c : ℕ) → hit b c + to_do K f h ws c ≤ held f c) → held f b ≡ 1
      → Step (λ c. hit b c + to_do K f h ws c) (to_do K (at b [] f) h ws) f (at b [] f)
  given f h ws b a e = step_as _ _ _ _ f (at b [] f) (λ c. refl) (λ c. omega (arith, w.same_to_do c)) (step_beside _ _ (to_do K f h ws) f (at b [] f) r)
    where
      r : Step (hit b) (λ c. 0) f (at b [] f)
      r = step_release b f e

      w : Waits K f (at b [] f) h ws
      w = waits f (at b [] f) h ws (step_same _ _ (to_do K f h ws) f (at b [] f) r a)

  -- blocks that are left
  pub push_remaining : (f : Mem) (h : ℕ) (w : Branch) (ws : List Branch) → w.place < length (K.children (f w.block))
      → remaining K f h (record { block = (get_or (K.children (f w.block)) w.place none).block; place = 0 } ∷ record { block = w.block; place = suc w.place } ∷ ws) ≡ remaining K f (suc h) (w ∷ ws)
  unfolding remaining blocks total
  push_remaining f h w ws l = rw (drop-cons (K.children (f w.block)) w.place none l) (omega arith)

  pub pick_remaining : (f : Mem) (w : Branch) (ws : List Branch) → w.place < length (K.children (f w.block)) → 1 + remaining K f 0 (record { block = w.block; place = suc w.place } ∷ ws) ≡ remaining K f 0 (w ∷ ws)
  unfolding remaining blocks total
  pick_remaining f w ws l = rw (drop-cons (K.children (f w.block)) w.place none l) (omega arith)

  pub pop_remaining : (f : Mem) (h : ℕ) (w : Branch) (ws : List Branch) → length (K.children (f w.block)) ≤ w.place → 1 + remaining K f (suc h) ws ≡ remaining K f h (w ∷ ws)
  unfolding remaining total
  pop_remaining f h w ws e = rw (drop_of_length-le (K.children (f w.block)) e) (omega arith)

  -- and what is pending
  following_child : (f : Mem) (h : ℕ) (w : Branch) (ws : List Branch) → w.place < length (K.children (f w.block)) → Pending K f h (w ∷ ws)
      → ChildOk K h f (get_or (K.children (f w.block)) w.place none) × Pending K f h (record { block = w.block; place = suc w.place } ∷ ws)
  unfolding Pending All
  following_child f h w ws l p =
      let a : ChildrenOk K h f (get_or (K.children (f w.block)) w.place none ∷ drop (suc w.place) (K.children (f w.block))) = rw (drop-cons (K.children (f w.block)) w.place none l) at p.2 in
      (a.0, (p.0, p.1, a.1, p.3))

  pub pick_stored : (f : Mem) (h : ℕ) (w : Branch) (ws : List Branch) → w.place < length (K.children (f w.block)) → Pending K f h (w ∷ ws) → Stored f (get_or (K.children (f w.block)) w.place none).block
  unfolding Sound
  pick_stored f zero w ws l p = (following_child f zero w ws l p).0.sound.0
  pick_stored f (suc h) w ws l p = (following_child f (suc h) w ws l p).0.sound.0

  push_pending : (f : Mem) (h : ℕ) (w : Branch) (ws : List Branch) → w.place < length (K.children (f w.block)) → Pending K f (suc h) (w ∷ ws)
      → Pending K f h (record { block = (get_or (K.children (f w.block)) w.place none).block; place = 0 } ∷ record { block = w.block; place = suc w.place } ∷ ws)
  unfolding Pending Sound
  push_pending f h w ws l p = let n = following_child f (suc h) w ws l p in (n.0.sound.0, n.0.sound.1, n.0.sound.2, n.1)

  -- one block more is given back
  give : (u : ℕ → ℕ) (f : Mem) (h h' : ℕ) (vs ws : List Branch) (b : ℕ) (g : Mem) → Giving K u f h vs g → Stored g b → ((c : ℕ) → hit b c + to_do K g h' ws c ≡ to_do K g h vs c) → Pending K g h' ws
      → Giving K u f h' ws (at b [] g) × (remaining K (at b [] g) h' ws ≡ remaining K g h' ws)
  give u f h h' vs ws b g v s e p = (
    record {
      step = step_then u (to_do K g h vs) _ f g (at b [] g) v.step (step_as _ _ _ _ g (at b [] g) (λ c. sym (e c)) (λ c. refl) (given g h' ws b fit held_b));
      fits = λ c. omega (arith, w.same_to_do c, r.balanced c, fit c);
      pending = w.still_pending p;
    },
    w.same_remaining,
  )
    where
      held_b : held g b ≡ 1
      held_b = some_long (g b) s.1

      fit : (c : ℕ) → hit b c + to_do K g h' ws c ≤ held g c
      fit c = omega (arith, e c, v.fits c)

      r : Step (hit b) (λ c. 0) g (at b [] g)
      r = step_release b g held_b

      w : Waits K g (at b [] g) h' ws
      w = waits g (at b [] g) h' ws (step_same _ _ (to_do K g h' ws) g (at b [] g) r fit)

  -- the three turns
  pub give_push : (u : ℕ → ℕ) (f : Mem) (h : ℕ) (w : Branch) (ws : List Branch) (g : Mem) → Giving K u f (suc h) (w ∷ ws) g → w.place < length (K.children (g w.block))
      → Giving K u f h (record { block = (get_or (K.children (g w.block)) w.place none).block; place = 0 } ∷ record { block = w.block; place = suc w.place } ∷ ws) g
  give_push u f h w ws g v l = record {
    step = step_as _ _ _ _ f g (λ c. refl) (λ c. push g h w ws c l) v.step;
    fits = λ c. omega (arith, v.fits c, push g h w ws c l);
    pending = push_pending g h w ws l v.pending;
  }

  pub give_pop : (u : ℕ → ℕ) (f : Mem) (h : ℕ) (w : Branch) (ws : List Branch) (g : Mem) → Giving K u f h (w ∷ ws) g → length (K.children (g w.block)) ≤ w.place
      → Giving K u f (suc h) ws (at w.block [] g) × (1 + remaining K (at w.block [] g) (suc h) ws ≡ remaining K g h (w ∷ ws))
  unfolding Pending
  give_pop u f h w ws g v e =
      let z = give u f h (suc h) (w ∷ ws) ws w.block g v v.pending.0 (λ c. pop g h w ws c e) v.pending.3 in
      (z.0, omega (arith, z.1, pop_remaining g h w ws e))

  pub give_pick : (u : ℕ → ℕ) (f : Mem) (w : Branch) (ws : List Branch) (g : Mem) → Giving K u f 0 (w ∷ ws) g → w.place < length (K.children (g w.block))
      → Giving K u f 0 (record { block = w.block; place = suc w.place } ∷ ws) (at (get_or (K.children (g w.block)) w.place none).block [] g)
      × (1 + remaining K (at (get_or (K.children (g w.block)) w.place none).block [] g) 0 (record { block = w.block; place = suc w.place } ∷ ws) ≡ remaining K g 0 (w ∷ ws))
  give_pick u f w ws g v l =
      let z = give u f 0 0 (w ∷ ws) (record { block = w.block; place = suc w.place } ∷ ws) (get_or (K.children (g w.block)) w.place none).block g v (pick_stored g 0 w ws l v.pending) (λ c. pick g w ws c l) (following_child g 0 w ws l v.pending).1 in
      (z.0, omega (arith, z.1, pick_remaining g w ws l))

  -- the start, and the end
  pub give_start : (f : Mem) (h b : ℕ) → Sound K (suc h) f b → ((c : ℕ) → uses K (suc h) f b c ≤ held f c) → Giving K (uses K (suc h) f b) f h (record { block = b; place = 0 } ∷ []) f × (remaining K f h (record { block = b; place = 0 } ∷ []) ≡ blocks K (suc h) f b)
  unfolding Sound Pending to_do remaining uses blocks
  give_start f h b s a = (
    record { step = step_as _ _ _ _ f f (λ c. refl) (λ c. omega arith) (step_none (uses K (suc h) f b) f); fits = λ c. omega (arith, a c); pending = (s.0, s.1, s.2, tt) },
    omega arith,
  )

  pub give_end : (u : ℕ → ℕ) (f : Mem) (h : ℕ) (g : Mem) → Giving K u f h [] g → Step u (λ c. 0) f g
  unfolding to_do
  give_end u f h g v = v.step
