-- A page is written: entries go onto a block.
-- Assumes nothing.
use Rattle.std.specs.Prelude.{◌≡◌, ℕ, List, length}
use Rattle.store.specs.Memory.{at}
use Rattle.store.specs.Steps.{Mem}

-- block b has other words now, which read as xs; read is `items` or `children` of a layout
pub record Wrote {X : Type 0} (read : List ℕ → List X) (f : Mem) (b : ℕ) (xs : List X) (g : Mem) : Type 0 where
  pub words : List ℕ
  pub long : length words ≡ 64
  pub reads : read words ≡ xs
  pub is : g ≡ at b words f
