-- A page is written, and what stands above it is made where the page is full enough.
-- Assumes nothing.
use Rattle.std.specs.Prelude.{◌≡◌, ℕ, ◌<◌, ◌≤◌, List, length, Option, IfSome, MatchOption}
use Rattle.page.specs.declared.child.Child.{Child}
use Rattle.page.specs.Layout.{half}
use Rattle.store.specs.Memory.{Memory}
use Rattle.tree.specs.Pages.{page_asks, Writing}

-- read is `items` or `children` of a layout, entry what stands above such a page, and cap how many entries fit
pub record Put {X : Type 0} (read : List ℕ → List X) (entry : ℕ → List X → Child) (cap b : ℕ) (xs : List X) (m : Memory) (o : Option Child) (m' : Memory) : Type 0 where
  pub writing : Writing page_asks read b xs m m'
  pub risen : MatchOption o (length xs < half cap) (λ k. k ≡ entry b xs)
  pub full : IfSome o (λ _. half cap ≤ length xs)
