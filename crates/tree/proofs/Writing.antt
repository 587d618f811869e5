-- After a page was written.
use Rattle.std.proofs.Common.{◌≡◌, ℕ, List, [], ◌∷◌, length, sym, refl, ap, ◌∙◌, subst, arith}
use native.Mathlib.Decide.{ℕ_discrete}
use Rattle.store.specs.Memory.{Stored}
use Rattle.store.specs.Steps.{Mem, hit, some, Step}
use Rattle.store.proofs.Stepping.{at_same, at_other, step_write}
use Rattle.tree.specs.Writing.{Wrote}

pub some_long : (ws : List ℕ) → length ws ≡ 64 → some ws ≡ 1
unfolding some
some_long [] e = absurd (omega arith)
some_long (w ∷ ws) e = refl

module _ {X : Type 0} (read : List ℕ → List X) where
  pub stored_after : (f g : Mem) (b c : ℕ) (xs : List X) → Wrote read f b xs g → Stored f c → Stored g c
  stored_after f g b c xs w s = (s.0, go (ℕ_discrete c b))
    where
      go : Dec (c ≡ b) → length (g c) ≡ 64
      go (yes e) = ap length (ap g e ∙ ap (λ (k : Mem). k b) w.is ∙ at_same b w.words f) ∙ w.long
      go (no n) = ap length (ap (λ (k : Mem). k c) w.is ∙ at_other b w.words f c n) ∙ s.1

  pub wrote_step : (f g : Mem) (b : ℕ) (xs : List X) → Wrote read f b xs g → Stored f b → Step (hit b) (hit b) f g
  wrote_step f g b xs w s = subst (λ (k : Mem). Step (hit b) (hit b) f k) (sym w.is) (step_write b w.words f (some_long (f b) s.1) (some_long w.words w.long))

  pub wrote_reads : (f g : Mem) (b : ℕ) (xs : List X) → Wrote read f b xs g → read (g b) ≡ xs
  wrote_reads f g b xs w = ap read (ap (λ (k : Mem). k b) w.is ∙ at_same b w.words f) ∙ w.reads
