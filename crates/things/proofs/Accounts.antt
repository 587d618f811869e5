-- The account over all names: it is kept when what is under one name, or two, changes and all else is left alone.
use Rattle.std.proofs.Common.{◌≡◌, ℕ, zero, suc, ◌+◌, ◌<◌, ◌≤◌, length, set, Option, sym, refl, ap, ◌∙◌, inl, inr, arith}
use mathlib.Core.Path.{fun_ext, subst⁻¹}
use native.Mathlib.Decide.{ℕ_discrete}
use Rattle.std.proofs.lemmas.Bool.{eq-eqb, ne_eqb}
use Rattle.std.proofs.lemmas.Bool.Decides.{leb_tells}
use Rattle.store.specs.Steps.{Step, held_in, sum_to}
use Rattle.store.proofs.Sums.{sum_to_one, sum_to_two, at_sum_to}
use Rattle.store.proofs.Stepping.{step_same}
use Rattle.things.specs.declared.state.Kept.{Kept}
use Rattle.things.specs.declared.state.Things.{Things}
use Rattle.things.specs.Things.{Thing, Shelf, put}
use Rattle.things.specs.State.{names, Words, Whole, Parts, Sound, thing, shelf_of, slot_of, slot_uses, SlotStands}
use Rattle.things.proofs.Slots.{SlotKept, slot_frame, laid_size, laid_here, laid_other, slot_past}

-- two names among all, and three
pub at_two : (n j k : ℕ) (g : ℕ → ℕ) → j < n → k < n → (j ≡ k → ⊥) → g j + g k ≤ sum_to n g
unfolding sum_to
at_two zero j k g l m d = absurd (omega arith)
at_two (suc n) j k g l m d = elim (ℕ_discrete n j) [
  | yes p ↦ omega (arith, ap g p, at_sum_to n k g (omega arith))
  | no p ↦ elim (ℕ_discrete n k) [
    | yes q ↦ omega (arith, ap g q, at_sum_to n j g (omega arith))
    | no q ↦ omega (arith, at_two n j k g (omega arith) (omega arith) d)
  ]
]

pub at_three : (n i j k : ℕ) (g : ℕ → ℕ) → i < n → j < n → k < n → (i ≡ j → ⊥) → (i ≡ k → ⊥) → (j ≡ k → ⊥) → g i + (g j + g k) ≤ sum_to n g
unfolding sum_to
at_three zero i j k g h l m a b d = absurd (omega arith)
at_three (suc n) i j k g h l m a b d = elim (ℕ_discrete n i) [
  | yes p ↦ omega (arith, ap g p, at_two n j k g (omega arith) (omega arith) d)
  | no p ↦ elim (ℕ_discrete n j) [
    | yes q ↦ omega (arith, ap g q, at_two n i k g (omega arith) (omega arith) b)
    | no q ↦ elim (ℕ_discrete n k) [
      | yes r ↦ omega (arith, ap g r, at_two n i j g (omega arith) (omega arith) a)
      | no r ↦ omega (arith, at_three n i j k g (omega arith) (omega arith) (omega arith) a b d)
    ]
  ]
]

-- the shelf, changed at a name
put_here : (n : ℕ) (t : Thing) (v : Shelf) → put n t v n ≡ t
put_here n t v = rw (eq-eqb n n refl)

put_other : (n k : ℕ) (t : Thing) (v : Shelf) → (k ≡ n → ⊥) → put n t v k ≡ v k
put_other n k t v d = rw (ne_eqb k n d)

-- what is past the names looks the same in any blocks
past_thing : (s : Things) (f f' : Words) (k : ℕ) → length s.slots ≡ names → names ≤ k → thing (slot_of s k) f' ≡ thing (slot_of s k) f
past_thing s f f' k e l = rw (slot_past s k e l)

-- the things are sound in these blocks, and the shelf is v
pub record Settled (s : Things) (f : Words) (many : ℕ) (v : Shelf) : Type 0 where
  pub sound : Sound s f many
  pub shelf : shelf_of s f ≡ v

module _ (s s' : Things) (f f' : Words) (m m' n : ℕ) (x : Option Kept) (h : Sound s f m) (low : n < names) (e : s'.slots ≡ set s.slots n x)
    (st : Step (slot_uses f (slot_of s n)) (slot_uses f' x) f f') (ok : SlotStands f' x) (num : m' + held_in f ≡ m + held_in f') where
  one_kept : (k : ℕ) → k < names → (k ≡ n → ⊥) → SlotKept f f' (slot_of s k)
  unfolding Whole
  one_kept k l d = slot_frame f f' (slot_of s k) (step_same _ _ (slot_uses f (slot_of s k)) f f' st
      (λ c. omega (arith, h.whole.account c, at_two names k n (λ i. slot_uses f (slot_of s i) c) l low d)))

  one_here : slot_of s' n ≡ x
  unfolding Whole
  one_here = laid_here s s' n x e (omega (arith, h.whole.size))

  one_parts : Parts s' f' m'
  unfolding Whole
  one_parts = record {
    size = laid_size s s' n x e ∙ h.whole.size;
    stand = λ k l. elim (ℕ_discrete k n) [
      | yes p ↦ rw (p, one_here) ok
      | no p ↦ rw (laid_other s s' n x e k p) ((one_kept k l p).still_stands (h.whole.stand k l))
    ];
    account = λ c. omega (
      arith,
      h.whole.account c,
      st.balanced c,
      ap (λ y. slot_uses f' y c) one_here,
      sum_to_one names n (λ k. slot_uses f (slot_of s k) c) (λ k. slot_uses f' (slot_of s' k) c) low
          (λ k l p. ap (λ y. slot_uses f' y c) (laid_other s s' n x e k p) ∙ (one_kept k l p).same_uses c),
    );
    number = omega (arith, h.whole.number, num);
  }

  one_shelf : (k : ℕ) → shelf_of s' f' k ≡ put n (thing x f') (shelf_of s f) k
  unfolding Whole shelf_of
  one_shelf k = elim (ℕ_discrete k n) [
    | yes p ↦ rw (p, one_here) (sym (put_here n (thing x f') (shelf_of s f)))
    | no p ↦
        ap (λ y. thing y f') (laid_other s s' n x e k p)
        ∙ elim (leb_tells names k) [ inl l ↦ past_thing s f f' k h.whole.size l.1 | inr l ↦ (one_kept k l.1 p).same_thing ]
        ∙ sym (put_other n k (thing x f') (shelf_of s f) p)
  ]

  -- what is under n is x now
  pub one_name : Settled s' f' m' (put n (thing x f') (shelf_of s f))
  unfolding Whole
  one_name = record { sound = record { whole = one_parts }; shelf = fun_ext one_shelf }

module _ (s s' : Things) (f f' : Words) (m m' n j : ℕ) (x y : Option Kept) (h : Sound s f m) (low : n < names) (low' : j < names) (apart : n ≡ j → ⊥)
    (e : s'.slots ≡ set (set s.slots n x) j y)
    (st : Step (λ c. slot_uses f (slot_of s n) c + slot_uses f (slot_of s j) c) (λ c. slot_uses f' x c + slot_uses f' y c) f f')
    (ok : SlotStands f' x) (ok' : SlotStands f' y) (num : m' + held_in f ≡ m + held_in f') where
  between : Things
  between = record { slots = set s.slots n x }

  two_kept : (k : ℕ) → k < names → (k ≡ n → ⊥) → (k ≡ j → ⊥) → SlotKept f f' (slot_of s k)
  unfolding Whole
  two_kept k l d d' = slot_frame f f' (slot_of s k) (step_same _ _ (slot_uses f (slot_of s k)) f f' st
      (λ c. omega (arith, h.whole.account c, at_three names k n j (λ i. slot_uses f (slot_of s i) c) l low low' d d' apart)))

  two_size : length s'.slots ≡ names
  unfolding Whole between
  two_size = laid_size between s' j y e ∙ laid_size s between n x refl ∙ h.whole.size

  two_first : slot_of s' n ≡ x
  unfolding Whole between
  two_first = laid_other between s' j y e n apart ∙ laid_here s between n x refl (omega (arith, h.whole.size))

  two_second : slot_of s' j ≡ y
  unfolding Whole between
  two_second = laid_here between s' j y e (omega (arith, laid_size s between n x refl, h.whole.size))

  two_other : (k : ℕ) → (k ≡ n → ⊥) → (k ≡ j → ⊥) → slot_of s' k ≡ slot_of s k
  unfolding between
  two_other k d d' = laid_other between s' j y e k d' ∙ laid_other s between n x refl k d

  two_parts : Parts s' f' m'
  unfolding Whole
  two_parts = record {
    size = two_size;
    stand = λ k l. elim (ℕ_discrete k n) [
      | yes p ↦ rw (p, two_first) ok
      | no p ↦ elim (ℕ_discrete k j) [
        | yes q ↦ rw (q, two_second) ok'
        | no q ↦ rw (two_other k p q) ((two_kept k l p q).still_stands (h.whole.stand k l))
      ]
    ];
    account = λ c. omega (
      arith,
      h.whole.account c,
      st.balanced c,
      ap (λ z. slot_uses f' z c) two_first,
      ap (λ z. slot_uses f' z c) two_second,
      sum_to_two names n j (λ k. slot_uses f (slot_of s k) c) (λ k. slot_uses f' (slot_of s' k) c) low low' apart
          (λ k l p q. ap (λ z. slot_uses f' z c) (two_other k p q) ∙ (two_kept k l p q).same_uses c),
    );
    number = omega (arith, h.whole.number, num);
  }

  two_shelf : (k : ℕ) → shelf_of s' f' k ≡ put j (thing y f') (put n (thing x f') (shelf_of s f)) k
  unfolding Whole shelf_of
  two_shelf k = elim (ℕ_discrete k j) [
    | yes q ↦ rw (q, two_second) (sym (put_here j (thing y f') (put n (thing x f') (shelf_of s f))))
    | no q ↦
        elim (ℕ_discrete k n) [
          | yes p ↦ rw (p, two_first) (sym (put_here n (thing x f') (shelf_of s f)))
          | no p ↦
              ap (λ z. thing z f') (two_other k p q)
              ∙ elim (leb_tells names k) [ inl l ↦ past_thing s f f' k h.whole.size l.1 | inr l ↦ (two_kept k l.1 p q).same_thing ]
              ∙ sym (put_other n k (thing x f') (shelf_of s f) p)
        ]
        ∙ sym (put_other j k (thing y f') (put n (thing x f') (shelf_of s f)) q)
  ]

  -- what is under n is x now, and under j y
  pub two_names : Settled s' f' m' (put j (thing y f') (put n (thing x f') (shelf_of s f)))
  unfolding Whole
  two_names = record { sound = record { whole = two_parts }; shelf = fun_ext two_shelf }

-- the blocks are the same, and as many
pub unchanged_blocks : {s : Things} {f f' : Words} {m m' : ℕ} → Sound s f m → ((c : ℕ) → f' c ≡ f c) → m' ≡ m → Settled s f' m' (shelf_of s f)
unchanged_blocks {s} {f} {f'} {m} {m'} h same e =
    let p : f' ≡ f = fun_ext same in
    record {
      sound = subst⁻¹ (λ (k : ℕ). Sound s f' k) e (subst⁻¹ (λ (g : Words). Sound s g m) p h);
      shelf = ap (λ (g : Words). shelf_of s g) p;
    }
