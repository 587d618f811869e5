-- The end of the climb: the root stays, its one child is the root, or nothing is left.
use Rattle.std.proofs.Common.{◌≡◌, ℕ, zero, suc, ◌+◌, ◌<◌, ◌≤◌, List, [], ◌∷◌, length, get_or, Some, Option, sym, refl, ap, ◌∙◌, subst, append-nil, arith}
use Rattle.page.specs.declared.child.Child.{Child}
use Rattle.page.specs.Layout.{Layout, Lawful}
use Rattle.store.specs.Memory.{Memory, asked, released}
use Rattle.store.specs.Steps.{Mem, Ran, hit, held_in}
use Rattle.store.proofs.Stepping.{step_same}
use Rattle.store.proofs.Running.{ran_as, ran_part, ran_then, ran_asked, ran_more, ran_release}
use Rattle.tree.specs.Pages.{page_asks, Reading}
use Rattle.tree.specs.Tree.{total, flat, All, contents, uses, many, low, least, Sound, Root, Kept, ChildOk}
use Rattle.tree.specs.Paths.{Path, before, behind, none}
use Rattle.tree.specs.Tall.{tall_contents, tall_uses, Tall}
use Rattle.tree.proofs.Frames.{frame}
use Rattle.tree.proofs.Roots.{child_root}
use Rattle.shrink.specs.Asks.{top_asks}
use Rattle.shrink.specs.Tiers.{some_held, stored_of}
use Rattle.shrink.specs.Shrinking.{Start, Climbing, Trimmed}

pub one_of : (xs : List Child) → length xs ≡ 1 → xs ≡ get_or xs 0 none ∷ []
one_of [] e = absurd (omega arith)
one_of (x ∷ []) e = refl
one_of (x ∷ (y ∷ ys)) e = absurd (omega arith)

module _ {E : Type 0} (K : Layout E) (lw : Lawful K) (z : Start E) where
  least_low : (h : ℕ) → least K h ≤ low K h
  unfolding least low
  least_low zero = omega (arith, lw.leaf_room)
  least_low (suc h) = omega (arith, lw.node_room)

  module _ (h : ℕ) (m : Memory) (o : Option Child) (v : Climbing K z h [] m o) where
    abbrev g : Mem
    g = m.block

    -- with no node left the climb is at the top
    at_top : h ≡ z.level
    unfolding Path
    at_top = v.path.0

    root_is : v.block ≡ z.top
    unfolding Path
    root_is = v.path.1

    ran_top : Ran v.used (uses K z.level z.memory.block z.top) (uses K h g z.top) z.memory m
    ran_top = ran_as _ _ _ z.memory m v.ran _ _ (λ c. rw (at_top, root_is) refl) (λ c. rw root_is refl)

    whole_top : contents K h g z.top ≡ z.goal
    unfolding before behind
    whole_top = ap (contents K h g) (sym root_is) ∙ sym (append-nil (contents K h g v.block)) ∙ v.whole

    pub sound_top : Sound K h g z.top
    sound_top = subst (Sound K h g) root_is v.sound

    fewer_top : least K h ≤ suc (many K h (g z.top))
    fewer_top = omega (
      arith,
      v.fewer,
      ap (λ (b : ℕ). many K h (g b)) root_is,
      ap (λ (b : ℕ). many K h (z.memory.block b)) root_is,
      subst (λ (n : ℕ). least K n ≤ many K n (z.memory.block z.top)) (sym at_top) v.starts.was.full,
    )

    pub number_top : m.many ≡ held_in g
    number_top = omega (arith, v.ran.number, v.starts.number)

    -- the root stays; the memory was only read
    pub stays : least K h ≤ many K h (g z.top) → (m' : Memory) → Reading top_asks m m' → Trimmed K z (suc h) z.top m'
    unfolding tall_uses tall_contents Tall
    stays l m' r = subst (Trimmed K z (suc h) z.top) (sym r.is) (record {
      ran = ran_more _ _ _ z.memory (asked r.times m) (ran_then v.used r.times _ _ _ z.memory m (asked r.times m) ran_top (ran_asked r.times _ m)) z.asks (omega (arith, v.room, r.few));
      holds = whole_top;
      stands = record { sound = sound_top; full = l };
    })

  -- a page that is full enough
  pub stays_full : (h : ℕ) (m : Memory) (k : Child) (v : Climbing K z h [] m (Some k)) → (m' : Memory) → Reading top_asks m m' → Trimmed K z (suc h) z.top m'
  stays_full h m k v m' r = stays h m (Some k) v
      (omega (arith, least_low h, v.risen.1.full, ap (λ (b : ℕ). many K h (m.block b)) (v.risen.0 ∙ root_is h m (Some k) v))) m' r

  -- a node
  module _ (h : ℕ) (m : Memory) (o : Option Child) (v : Climbing K z (suc h) [] m o) where
    abbrev kids : List Child
    kids = K.children (m.block z.top)

    pub some_kids : 1 ≤ length kids
    unfolding least many
    some_kids = omega (arith, fewer_top (suc h) m o v)

    pub stays_node : 2 ≤ length kids → (m' : Memory) → Reading top_asks m m' → Trimmed K z (suc (suc h)) z.top m'
    unfolding least many
    stays_node l m' r = stays (suc h) m o v l m' r

    -- the only child
    abbrev only : Child
    only = get_or kids 0 none

    module _ (e : length kids ≡ 1) where
      only_ok : ChildOk K h m.block only
      unfolding Sound All
      only_ok = (subst (All (ChildOk K h m.block)) (one_of kids e) (sound_top (suc h) m o v).2).0

      pub only_small : only.block < 1048576
      only_small = (stored_of K h m.block only.block only_ok.sound).0

      root_uses : (c : ℕ) → uses K (suc h) m.block z.top c ≡ hit z.top c + uses K h m.block only.block c
      unfolding uses total
      root_uses c = omega (arith, ap (total (λ d. uses K h m.block d c)) (one_of kids e))

      root_holds : contents K (suc h) m.block z.top ≡ contents K h m.block only.block
      unfolding contents flat
      root_holds = ap (flat (contents K h m.block)) (one_of kids e) ∙ append-nil (contents K h m.block only.block)

      pub taken_up : (m₁ m' : Memory) → Reading page_asks m m₁ → m' ≡ released z.top m₁ → Trimmed K z (suc h) only.block m'
      unfolding tall_uses tall_contents Tall Sound
      taken_up m₁ m' r q = subst (Trimmed K z (suc h) only.block) (sym (q ∙ ap (released z.top) r.is)) (record {
        ran = ran_more _ _ _ z.memory m₃
            (ran_as _ _ _ z.memory m₃
            (ran_part (v.used + r.times) 1 _ _ (hit z.top) (λ c. 0) (uses K h m.block only.block) z.memory m₂ m₃
            (ran_then v.used r.times _ _ _ z.memory m m₂ (ran_top (suc h) m o v) (ran_asked r.times _ m)) root_uses gave) _ _
            (λ c. refl) (λ c. omega (arith, kept.same_uses c)))
            z.asks (omega (arith, v.room, r.few));
        holds = kept.same_contents ∙ sym root_holds ∙ whole_top (suc h) m o v;
        stands = record { sound = kept.still_sound root.sound; full = rw kept.page root.full };
      })
        where
          m₂ : Memory
          m₂ = asked r.times m

          m₃ : Memory
          m₃ = released z.top m₂

          gave : Ran 1 (hit z.top) (λ c. 0) m₂ m₃
          gave = ran_release z.top m₂ (sound_top (suc h) m o v).0 (some_held m₂ z.top (sound_top (suc h) m o v).0 (number_top (suc h) m o v))

          kept : Kept K h m.block m₃.block only.block
          kept = frame K h m.block m₃.block only.block (step_same _ _ (uses K h m.block only.block) m.block m₃.block gave.step
              (λ c. omega (arith, root_uses c, (ran_top (suc h) m o v).step.balanced c, v.starts.fits c)))

          root : Root K h m.block only.block
          root = child_root K lw h m.block only only_ok

  -- a leaf
  module _ (m : Memory) (o : Option Child) (v : Climbing K z 0 [] m o) where
    pub stays_leaf : 1 ≤ length (K.items (m.block z.top)) → (m' : Memory) → Reading top_asks m m' → Trimmed K z 1 z.top m'
    unfolding least many
    stays_leaf l m' r = stays 0 m o v l m' r

    pub emptied : length (K.items (m.block z.top)) ≡ 0 → (m₁ m' : Memory) → Reading page_asks m m₁ → m' ≡ released z.top m₁ → (b : ℕ) → Trimmed K z 0 b m'
    unfolding tall_uses tall_contents Tall Sound contents uses
    emptied e m₁ m' r q b = subst (Trimmed K z 0 b) (sym (q ∙ ap (released z.top) r.is)) (record {
      ran = ran_more _ _ _ z.memory m₃
          (ran_then (v.used + r.times) 1 _ _ _ z.memory m₂ m₃
          (ran_then v.used r.times _ _ _ z.memory m m₂ (ran_top 0 m o v) (ran_asked r.times _ m)) gave)
          z.asks (omega (arith, v.room, r.few));
      holds = nothing (K.items (m.block z.top)) e ∙ whole_top 0 m o v;
      stands = tt;
    })
      where
        m₂ : Memory
        m₂ = asked r.times m

        m₃ : Memory
        m₃ = released z.top m₂

        gave : Ran 1 (hit z.top) (λ c. 0) m₂ m₃
        gave = ran_release z.top m₂ (sound_top 0 m o v).0 (some_held m₂ z.top (sound_top 0 m o v).0 (number_top 0 m o v))

        nothing : (xs : List E) → length xs ≡ 0 → [] ≡ xs
        nothing [] n = refl
        nothing (x ∷ xs) n = absurd (omega arith)
