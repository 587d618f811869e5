-- A page goes to its block, or in two halves to it and to a block of the reserve.
use Rattle.std.proofs.Common.{◌≡◌, ℕ, ◌+◌, ◌/◌, ◌<◌, ◌≤◌, List, ◌∷◌, ◌++◌, length, sym, refl, ap, ◌∙◌, subst, arith, take-append-drop}
use Rattle.page.specs.declared.child.Child.{Child}
use Rattle.store.specs.Memory.{Memory, Stored}
use Rattle.store.specs.Steps.{Mem, hit, held}
use Rattle.store.specs.Stocked.{Stocked}
use Rattle.store.specs.Reserve.{uses}
use Rattle.store.proofs.Sums.{hit_same, hit_other}
use Rattle.store.proofs.Stepping.{at_other}
use Rattle.store.proofs.Memories.{by_place}
use Rattle.store.proofs.Running.{stored_held, ran_then, ran_as, ran_beside}
use Rattle.store.proofs.Stocking.{stocked_beside, stocked_part}
use Rattle.tree.specs.Pages.{page_asks, Writing}
use Rattle.tree.proofs.Writing.{stored_after, wrote_reads}
use Rattle.grow.specs.Asks.{settle_asks}
use Rattle.grow.specs.Settle.{lower, upper, Parted, Filled, InTwo}

-- a block that is held and in no reserve stands beside the reserve
pub beside_fits : (b : ℕ) (u : ℕ → ℕ) (f : Mem) → Stored f b → u b ≡ 0 → Stocked u f → (c : ℕ) → hit b c + u c ≤ held f c
beside_fits b u f s e t = by_place (λ c. hit b c + u c ≤ held f c) b (omega (arith, hit_same b, stored_held f b s)) (λ c n. omega (arith, hit_other b c n, t.fits c))

-- what is counted over all entries is counted over the two halves
pub over_halves : {X : Type 0} (n : List X → ℕ) → ((xs ys : List X) → n (xs ++ ys) ≡ n xs + n ys) → (xs : List X) → n (lower xs) + n (upper xs) ≡ n xs
over_halves n add xs = sym (add (lower xs) (upper xs)) ∙ ap n (take-append-drop (length xs / 2) xs)

-- what stands above two pages
module _ {X : Type 0} (read : List ℕ → List X) (entry : ℕ → List X → Child) (cap b : ℕ) (xs : List X) (m m' : Memory) (s : List ℕ) where
  pub in_both : ((d : ℕ) (ys : List X) → (entry d ys).block ≡ d) → (s' : List ℕ) (one other : Child) (d : ℕ) (ys zs : List X) → cap < length xs → Parted read settle_asks b xs m s d m' s'
      → one ≡ entry b ys → ys ≡ lower xs → other ≡ entry d zs → zs ≡ upper xs → InTwo read entry cap settle_asks b xs m s one other m' s'
  in_both at_block s' one other d ys zs l p e q e' q' =
      let at-d : d ≡ other.block = sym (ap (λ (k : Child). k.block) e' ∙ at_block d zs) in
      record {
        full = l;
        first_is = e ∙ ap (entry b) q;
        second_is = e' ∙ ap (entry d) q' ∙ ap (λ (c : ℕ). entry c (upper xs)) at-d;
        parted = subst (λ (c : ℕ). Parted read settle_asks b xs m s c m' s') at-d p;
      }

-- a block is taken from the reserve
module _ (d : ℕ) (s s' : List ℕ) (tk : s ≡ d ∷ s') where
  pub used : (c : ℕ) → uses s c ≡ hit d c + uses s' c
  unfolding uses
  used c = ap (λ (r : List ℕ). uses r c) tk

  pub taken_there : (f : Mem) → Stocked (uses s) f → Stored f d
  taken_there f k = k.stored d (omega (arith, used d, hit_same d))

  -- and written
  pub filled : {X : Type 0} (read : List ℕ → List X) (xs : List X) (m m' : Memory) → Stocked (uses s) m.block → Writing page_asks read d xs m m' → Filled read page_asks xs m s d m' s'
  filled read xs m m' k w = record {
    reads = wrote_reads read m.block m'.block d xs w.wrote;
    there = stored_after read m.block m'.block d d xs w.wrote (taken_there m.block k);
    ran = ran_as page_asks _ _ m m' (ran_beside page_asks (hit d) (hit d) m m' w.ran (uses s')) (uses s) (λ c. hit d c + uses s' c) (λ c. omega (arith, used c)) (λ c. refl);
    stocked = stocked_beside (uses s') m.block (hit d) (hit d) m'.block w.ran.step (λ c. omega (arith, used c, k.fits c)) (stocked_part (uses s) m.block (uses s') (λ c. omega (arith, used c)) k);
    fewer = omega (arith, ap length tk);
  }

  -- two pages
  module _ {X : Type 0} (read : List ℕ → List X) (b : ℕ) (ys : List X) (m m₁ : Memory) (t : Stored m.block b) (k : Stocked (uses s) m.block) (z : uses s b ≡ 0) (w₁ : Writing page_asks read b ys m m₁) where
    stocked₁ : Stocked (uses s) m₁.block
    stocked₁ = stocked_beside (uses s) m.block (hit b) (hit b) m₁.block w₁.ran.step (beside_fits b (uses s) m.block t z k) k

    pub upper_there : Stored m₁.block d
    upper_there = taken_there m₁.block stocked₁

    apart : b ≡ d → ⊥
    apart e = omega (arith, z, used d, hit_same d, ap (uses s) e)

    pub in_two : (xs zs : List X) (m₂ : Memory) → ys ≡ lower xs → zs ≡ upper xs → Writing page_asks read d zs m₁ m₂ → Parted read settle_asks b xs m s d m₂ s'
    in_two xs zs m₂ e e' w₂ = let p = filled read zs m₁ m₂ stocked₁ w₂ in record {
      first = ap (λ (f : Mem). read (f b)) w₂.wrote.is ∙ ap read (at_other d w₂.wrote.words m₁.block b apart) ∙ wrote_reads read m.block m₁.block b ys w₁.wrote ∙ e;
      second = p.reads ∙ e';
      there = stored_after read m₁.block m₂.block d b zs w₂.wrote (stored_after read m.block m₁.block b b ys w₁.wrote t);
      there' = p.there;
      ran = ran_then page_asks page_asks _ _ _ m m₁ m₂ (ran_beside page_asks (hit b) (hit b) m m₁ w₁.ran (uses s))
          (ran_as page_asks _ _ m₁ m₂ (ran_beside page_asks (uses s) (λ c. hit d c + uses s' c) m₁ m₂ p.ran (hit b)) _ (λ c. (hit b c + hit d c) + uses s' c) (λ c. omega arith) (λ c. omega arith));
      stocked = p.stocked;
      fewer = p.fewer;
    }
