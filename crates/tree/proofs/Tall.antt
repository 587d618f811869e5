-- What a tree is by its height depends on the blocks that it uses.
use Rattle.std.proofs.Common.{ℕ, zero, suc, refl}
use Rattle.page.specs.Layout.{Layout}
use Rattle.store.specs.Steps.{Mem, Same}
use Rattle.tree.specs.Tall.{tall_contents, tall_uses, Tall, TallKept}
use Rattle.tree.proofs.Frames.{frame}

module _ {E : Type 0} (K : Layout E) where
  pub tall_frame : (h : ℕ) (f f' : Mem) (b : ℕ) → Same (tall_uses K h f b) f f' → TallKept K h f f' b
  unfolding tall_contents tall_uses Tall
  tall_frame zero f f' b s = record { same_contents = refl; same_uses = λ c. refl; still_tall = λ w. w }
  tall_frame (suc h) f f' b s = let k = frame K h f f' b s in record {
    same_contents = k.same_contents;
    same_uses = k.same_uses;
    still_tall = λ w. record { sound = k.still_sound w.sound; full = rw k.page w.full };
  }
