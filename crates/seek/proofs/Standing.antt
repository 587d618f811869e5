-- A tree that was read, or in which an item was set, still lies in the memory.
use Rattle.std.proofs.Common.{◌≡◌, ℕ, ◌≤◌, sym, ap, ◌∙◌, subst, arith}
use Rattle.page.specs.Layout.{Layout}
use Rattle.store.specs.Memory.{Memory}
use Rattle.store.specs.Steps.{Mem, held, held_in}
use Rattle.tree.specs.declared.top.Tree.{Tree}
use Rattle.tree.specs.Pages.{Reading}
use Rattle.tree.specs.Trees.{owns, Stands, Lies}
use Rattle.seek.specs.Items.{Updated}
use Rattle.seek.proofs.Readings.{reading_blocks, reading_many}

module _ {E : Type 0} (K : Layout E) where
  pub reading_lies : (k : ℕ) (m m' : Memory) (t : Tree) → Reading k m m' → Lies K m t → Lies K m' t
  reading_lies k m m' t p l =
      let e : m'.block ≡ m.block = reading_blocks k m m' p in
      record {
        stands = subst (λ (f : Mem). Stands K f t) (sym e) l.stands;
        once = subst (λ (f : Mem). (c : ℕ) → owns K f t c ≤ held f c) (sym e) l.once;
        number = reading_many k m m' p ∙ l.number ∙ ap held_in (sym e);
      }

  pub updated_lies : (m m' : Memory) (t : Tree) (i : ℕ) (x : E) → Updated K t i x m m' → Lies K m t → Lies K m' t
  updated_lies m m' t i x u l = record {
    stands = u.stands;
    once = λ c. omega (arith, u.ran.step.balanced c, l.once c);
    number = omega (arith, u.ran.number, l.number);
  }
