-- How long a page is that is seen as a list. Assumes nothing.
use Rattle.std.proofs.Common.{◌≡◌, ℕ, List, length, sym, ap, ◌∙◌}
use Rattle.page.specs.Layout.{rows}
use Rattle.page.proofs.Images.{length_rows}

pub long : {X : Type 0} {xs : List X} (w : ℕ) (dec : List ℕ → X) (n : ℕ) (ws : List ℕ) → rows w dec n ws ≡ xs → length xs ≡ n
long w dec n ws e = sym (ap length e) ∙ length_rows w dec n ws
