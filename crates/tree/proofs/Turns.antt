-- Turns of the climb of an insertion, as a loop has them: a node is read, what came up is put in, and it is written as one page or two.
use Rattle.std.proofs.Common.{◌≡◌, ℕ, suc, ◌+◌, ◌/◌, ◌<◌, ◌≤◌, List, [], ◌∷◌, ◌++◌, length, take, drop, Some, None, sym, refl, ap, ◌∙◌, subst, ap₂, arith, length-append, length-drop, length-take, take_all}
use Rattle.page.specs.declared.child.Child.{Child}
use Rattle.page.specs.Layout.{Layout, Lawful, entry_of}
use Rattle.store.specs.Memory.{Stored}
use Rattle.store.specs.Steps.{Mem, hit, held}
use Rattle.store.proofs.Sums.{hit_same}
use Rattle.store.proofs.Stepping.{step_then, step_beside, step_fits, step_as, at_other}
use Rattle.tree.specs.Tree.{Sound}
use Rattle.tree.specs.declared.path.Branch.{Branch}
use Rattle.tree.specs.Paths.{Path, around}
use Rattle.tree.specs.Growing.{Growing, now}
use Rattle.tree.proofs.Paths.{seen}
use Rattle.tree.proofs.Mending.{rising_page}
use Rattle.tree.proofs.Grows.{grow_one, grow_two}
use Rattle.tree.specs.Writing.{Wrote}
use Rattle.tree.specs.Climb.{one_or_two, Start, Grows}
use Rattle.tree.proofs.Writing.{some_long, stored_after, wrote_step, wrote_reads}

module _ {E : Type 0} (K : Layout E) (lw : Lawful K) (z : Start E) (w : Branch) (ws : List Branch) (g : Mem) (t : ℕ → ℕ) (ms : List Child) (v : Grows K z (w ∷ ws) g t ms) where
  abbrev f : Mem
  f = z.memory

  abbrev h : ℕ
  h = v.level

  grown : Growing K f z.stock z.level z.top z.goal h v.block (w ∷ ws) g t ms
  grown = v.growing

  page : g w.block ≡ f w.block
  page = rising_page K f z.stock z.level z.top z.goal h v.block w ws g t ms grown.rising

  inside : w.place < length (K.children (f w.block))
  unfolding Path
  inside = grown.rising.path.0

  sound_f : Sound K (suc h) f w.block
  unfolding Path
  sound_f = (seen K f (suc h) w.block ws z.level z.top grown.rising.path.2).sound_seen grown.was

  pub there : Stored g w.block
  unfolding Sound
  there = (sound_f.0.0, ap length page ∙ sound_f.0.1)

  pub few : length (K.children (g w.block)) ≤ K.node_cap
  unfolding Sound
  few = omega (arith, sound_f.1, ap (λ (x : List ℕ). length (K.children x)) page)

  pub in_page : w.place < length (K.children (g w.block))
  in_page = omega (arith, inside, ap (λ (x : List ℕ). length (K.children x)) page)

  -- what the buffer has when it's read and what came up is put in
  module _ (ks : List Child) (e : ks ≡ take w.place (K.children (g w.block)) ++ (ms ++ drop (suc w.place) (K.children (g w.block)))) where
    is_now : ks ≡ now K f w ms
    is_now = e ∙ ap (λ (x : List ℕ). take w.place (K.children x) ++ (ms ++ drop (suc w.place) (K.children x))) page

    sizes : length ks + 1 ≡ length (K.children (g w.block)) + length ms
    sizes = omega (
      arith,
      ap length e,
      in_page,
      length-append (take w.place (K.children (g w.block))) (ms ++ drop (suc w.place) (K.children (g w.block))),
      length-append ms (drop (suc w.place) (K.children (g w.block))),
      length-take w.place (K.children (g w.block)),
      length-drop (suc w.place) (K.children (g w.block)),
    )

    pub most : length ks ≤ K.node_cap + 1
    most = omega (arith, v.few, sizes, few)

    pub some_there : 0 < length ks
    some_there = omega (arith, grown.some, sizes, in_page)

    pub one : (n : ℕ) → n ≡ length ks → n ≤ K.node_cap → (g' : Mem) (t' : ℕ → ℕ) → Wrote K.children g w.block (drop 0 (take n ks)) g' → ((c : ℕ) → t' c ≡ t c) → Grows K z ws g' t' (entry_of K w.block (drop 0 (take n ks)) ∷ [])
    one n en m g' t' wr et = record {
      level = suc h;
      block = w.block;
      growing = subst (λ (xs : List Child). Growing K f z.stock z.level z.top z.goal (suc h) w.block ws g' t' (entry_of K w.block xs ∷ [])) (sym all)
          (grow_one K lw f z.stock z.level z.top z.goal h v.block w ws g g' t t' ms grown (record {
            few = omega (arith, en, ap length is_now);
            reads = wrote_reads K.children g g' w.block _ wr ∙ all;
            there = stored_after K.children g g' w.block w.block _ wr there;
            writes = step_as _ _ _ _ g g' (λ c. refl) (λ c. omega (arith, et c)) (step_beside _ _ t g g' (wrote_step K.children g g' w.block _ wr there));
          }));
      few = omega arith;
    }
      where
        all : drop 0 (take n ks) ≡ now K f w ms
        all = take_all n ks (omega arith) ∙ is_now

    pub two : (n : ℕ) → n ≡ length ks → K.node_cap < n → (g₂ g₃ : Mem) (t' : ℕ → ℕ) (c : ℕ) → Stored g c → ((x : ℕ) → t' x + hit c x ≡ t x)
        → Wrote K.children g w.block (drop 0 (take (n / 2) ks)) g₂ → Wrote K.children g₂ c (drop (n / 2) (take n ks)) g₃
        → Grows K z ws g₃ t' (entry_of K w.block (drop 0 (take (n / 2) ks)) ∷ entry_of K c (drop (n / 2) (take n ks)) ∷ [])
    unfolding around
    two n en m g₂ g₃ t' c sc et w₂ w₃ = record {
      level = suc h;
      block = w.block;
      growing = subst (λ (xs : List Child). Growing K f z.stock z.level z.top z.goal (suc h) w.block ws g₃ t' (entry_of K w.block xs ∷ entry_of K c (drop (n / 2) (take n ks)) ∷ [])) (sym first)
          (subst (λ (xs : List Child). Growing K f z.stock z.level z.top z.goal (suc h) w.block ws g₃ t' (entry_of K w.block (take (length (now K f w ms) / 2) (now K f w ms)) ∷ entry_of K c xs ∷ [])) (sym second)
          (grow_two K lw f z.stock z.level z.top z.goal h v.block w ws g g₃ t t' ms grown c (record {
            too_many = omega (arith, len);
            not_more = omega (arith, lw.node_room, len, most);
            first = ap K.children (ap (λ (k : Mem). k w.block) w₃.is ∙ at_other c w₃.words g₂ w.block (λ q. apart (sym q))) ∙ wrote_reads K.children g g₂ w.block _ w₂ ∙ first;
            second = wrote_reads K.children g₂ g₃ c _ w₃ ∙ second;
            there = stored_after K.children g₂ g₃ c w.block _ w₃ (stored_after K.children g g₂ w.block w.block _ w₂ there);
            there' = stored_after K.children g₂ g₃ c c _ w₃ c₂;
            writes = step_as _ _ _ _ g g₃ (λ x. omega (arith, et x)) (λ x. omega arith)
                (step_then _ _ _ g g₂ g₃ (step_beside _ _ (λ x. hit c x + t' x) g g₂ (wrote_step K.children g g₂ w.block _ w₂ there))
                (step_as _ _ _ _ g₂ g₃ (λ x. omega arith) (λ x. refl) (step_beside _ _ (λ x. hit w.block x + t' x) g₂ g₃ (wrote_step K.children g₂ g₃ c _ w₃ c₂))));
          })));
      few = omega arith;
    }
      where
        len : n ≡ length (now K f w ms)
        len = en ∙ ap length is_now

        first : drop 0 (take (n / 2) ks) ≡ take (length (now K f w ms) / 2) (now K f w ms)
        first = ap₂ (λ (k : ℕ) (xs : List Child). take (k / 2) xs) len is_now

        second : drop (n / 2) (take n ks) ≡ drop (length (now K f w ms) / 2) (now K f w ms)
        second = ap (drop (n / 2)) (take_all n ks (omega arith)) ∙ ap₂ (λ (k : ℕ) (xs : List Child). drop (k / 2) xs) len is_now

        c₂ : Stored g₂ c
        c₂ = stored_after K.children g g₂ w.block c _ w₂ sc

        fit : (x : ℕ) → hit w.block x + t x ≤ held g x
        fit x = omega (arith, step_fits _ _ (around K f h (w ∷ ws)) f g grown.rising.step (λ y. omega (arith, grown.rising.fits y, (seen K f h v.block (w ∷ ws) z.level z.top grown.rising.path).uses_seen y)) x)

        apart : c ≡ w.block → ⊥
        apart q = omega (arith, fit w.block, some_long (g w.block) there.1, hit_same w.block, et w.block, ap (λ (y : ℕ). hit y w.block) q)

  -- after a load, and a put
  module _ (k k' : List Child) (load : k ≡ K.children (g w.block)) (put : k' ≡ take w.place k ++ (ms ++ drop (suc w.place) k)) where
    pub loaded : k' ≡ take w.place (K.children (g w.block)) ++ (ms ++ drop (suc w.place) (K.children (g w.block)))
    loaded = put ∙ ap (λ (x : List Child). take w.place x ++ (ms ++ drop (suc w.place) x)) load

    module _ (n : ℕ) (en : n ≡ length k') (g₁ : Mem) (t₁ : ℕ → ℕ) (e₁ : g₁ ≡ g) (s₁ : (x : ℕ) → t₁ x ≡ t x) where
      pub code_one : n ≤ K.node_cap → (g' : Mem) (t' : ℕ → ℕ) → Wrote K.children g₁ w.block (drop 0 (take n k')) g' → ((x : ℕ) → t' x ≡ t₁ x) → (r : Child) → r ≡ entry_of K w.block (drop 0 (take n k')) → Grows K z ws g' t' (one_or_two r None)
      unfolding one_or_two
      code_one m g' t' wr st r er =
          subst (λ (q : Child). Grows K z ws g' t' (q ∷ [])) (sym er)
          (one k' loaded n en m g' t' (subst (λ (x : Mem). Wrote K.children x w.block (drop 0 (take n k')) g') e₁ wr) (λ x. st x ∙ s₁ x))

      pub code_two : K.node_cap < n → (c : ℕ) → Stored g₁ c → (g₂ g₃ g₄ : Mem) (t₂ t₃ t₄ : ℕ → ℕ) → g₂ ≡ g₁ → ((x : ℕ) → t₂ x + hit c x ≡ t₁ x)
          → Wrote K.children g₂ w.block (drop 0 (take (n / 2) k')) g₃ → ((x : ℕ) → t₃ x ≡ t₂ x) → Wrote K.children g₃ c (drop (n / 2) (take n k')) g₄ → ((x : ℕ) → t₄ x ≡ t₃ x)
          → (r q : Child) → r ≡ entry_of K w.block (drop 0 (take (n / 2) k')) → q ≡ entry_of K c (drop (n / 2) (take n k')) → Grows K z ws g₄ t₄ (one_or_two r (Some q))
      unfolding one_or_two
      code_two m c sc g₂ g₃ g₄ t₂ t₃ t₄ e₂ s₂ w₃ s₃ w₄ s₄ r q er eq =
          subst (λ (x : Child). Grows K z ws g₄ t₄ (x ∷ q ∷ [])) (sym er) (subst (λ (x : Child). Grows K z ws g₄ t₄ (entry_of K w.block (drop 0 (take (n / 2) k')) ∷ x ∷ [])) (sym eq)
          (two k' loaded n en m g₃ g₄ t₄ c (subst (λ (x : Mem). Stored x c) e₁ sc) (λ x. omega (arith, s₁ x, s₂ x, s₃ x, s₄ x)) (subst (λ (x : Mem). Wrote K.children x w.block (drop 0 (take (n / 2) k')) g₃) (e₂ ∙ e₁) w₃) w₄))
