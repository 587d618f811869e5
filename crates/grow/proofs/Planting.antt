-- The first item of a tree.
use Rattle.std.proofs.Common.{◌≡◌, ℕ, ◌≤◌, List, [], ◌∷◌, length, Ok, Err, Result, sym, refl, ap, ◌∙◌, subst, arith, MatchResult}
use Rattle.std.specs.List.{insert}
use Rattle.page.specs.Layout.{Layout, Lawful}
use Rattle.store.specs.Memory.{Memory, Stored}
use Rattle.store.specs.Steps.{Mem, Ran, hit}
use Rattle.store.specs.Fresh.{Obtained}
use Rattle.store.proofs.Running.{ran_then, ran_as, ran_more}
use Rattle.tree.specs.declared.top.Tree.{Tree}
use Rattle.tree.specs.Tree.{contents, uses}
use Rattle.tree.specs.Tall.{tall_contents, tall_uses, Tall}
use Rattle.tree.specs.Pages.{page_asks, Writing}
use Rattle.tree.proofs.Leaves.{leaf_root}
use Rattle.tree.proofs.Writing.{stored_after, wrote_reads}
use Rattle.grow.specs.Asks.{plant_asks, insert_asks}
use Rattle.grow.specs.Inserted.{Planted, Inserted}

module _ {E : Type 0} (K : Layout E) where
  pub planted : Lawful K → (x : E) (b d : ℕ) (ys : List E) (m m₁ m₂ : Memory) → Obtained m b m₁ → d ≡ b → ys ≡ x ∷ [] → Writing page_asks K.items d ys m₁ m₂ → Planted K x m (record { root = d; height = 1 }) m₂
  unfolding tall_contents tall_uses Tall contents uses
  planted lw x b d ys m m₁ m₂ o q e w = let reads = wrote_reads K.items m₁.block m₂.block d ys w.wrote ∙ e in record {
    ran = ran_then 1 page_asks (λ c. 0) (hit d) (hit d) m m₁ m₂ (subst (λ (c : ℕ). Ran 1 (λ c. 0) (hit c) m m₁) (sym q) o.ran) w.ran;
    holds = reads;
    stands = leaf_root K m₂.block d (x ∷ []) (stored_after K.items m₁.block m₂.block d d ys w.wrote (subst (Stored m₁.block) (sym q) o.stored)) reads (omega arith) (omega (arith, lw.leaf_room));
  }

  nothing : (h : ℕ) (f : Mem) (b : ℕ) → h ≡ 0 → tall_contents K h f b ≡ []
  unfolding tall_contents
  nothing h f b e = ap (λ (n : ℕ). tall_contents K n f b) e

  no_uses : (h : ℕ) (f : Mem) (b c : ℕ) → h ≡ 0 → tall_uses K h f b c ≡ 0
  unfolding tall_uses
  no_uses h f b c e = ap (λ (n : ℕ). tall_uses K n f b c) e

  first_in : (xs : List E) (i : ℕ) (x : E) → xs ≡ [] → i ≡ 0 → insert xs i x ≡ x ∷ []
  first_in xs i x e z = rw (e, z)

  module _ (at : ℕ) (x : E) (t : Tree) (m m' : Memory) (none : t.height ≡ 0) (place : at ≤ length (tall_contents K t.height m.block t.root)) where
    planted_in : (t' : Tree) → Planted K x m t' m' → Inserted K at x t m t' m'
    planted_in t' p = record {
      ran = ran_as insert_asks _ _ m m' (ran_more plant_asks _ _ m m' p.ran insert_asks (omega arith)) _ _ (λ c. no_uses t.height m.block t.root c none) (λ c. refl);
      holds = p.holds ∙ sym (first_in (tall_contents K t.height m.block t.root) at x empty (let z : at ≡ 0 = omega (arith, place, ap length empty) in z));
      stands = p.stands;
    }
      where
        empty : tall_contents K t.height m.block t.root ≡ []
        empty = nothing t.height m.block t.root none

    pub planted_inserted : {X : Type 0} (Q : X → Type 0) (r : Result Tree X) → MatchResult r (λ t'. Planted K x m t' m') Q → MatchResult r (λ t'. Inserted K at x t m t' m') Q
    planted_inserted Q (Ok t') p = planted_in t' p
    planted_inserted Q (Err e) p = p
