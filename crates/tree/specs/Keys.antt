-- Pairs by rising keys.
-- Assumes nothing.
use Rattle.std.specs.Prelude.{◌≡◌, ℕ, ◌<◌, ◌≤◌, cond, List, [], ◌∷◌, nat_lt}
use Rattle.page.specs.declared.entry.Pair.{Pair}
use Rattle.page.specs.Layout.{Layout}

-- the pairs before the first whose key is k or more, and those from it on
unfoldable pub below : ℕ → List Pair → List Pair
below k [] = []
below k (p ∷ ps) = cond (nat_lt p.key k) (p ∷ below k ps) []

unfoldable pub from : ℕ → List Pair → List Pair
from k [] = []
from k (p ∷ ps) = cond (nat_lt p.key k) (from k ps) (p ∷ ps)

-- all keys above m, all below m, the first at m or above
unfoldable pub AllAbove : ℕ → List Pair → Type 0
AllAbove m [] = Unit {0}
AllAbove m (p ∷ ps) = (m < p.key) × AllAbove m ps

unfoldable pub AllBelow : ℕ → List Pair → Type 0
AllBelow m [] = Unit {0}
AllBelow m (p ∷ ps) = (p.key < m) × AllBelow m ps

unfoldable pub Starts : ℕ → List Pair → Type 0
Starts m [] = Unit {0}
Starts m (p ∷ ps) = m ≤ p.key

unfoldable pub Sorted : List Pair → Type 0
Sorted [] = Unit {0}
Sorted (p ∷ ps) = AllAbove p.key ps × Sorted ps

-- what is kept of pairs is the first key
abbrev pub ByKey : Layout Pair → Type 0
ByKey K = (p : Pair) (ps : List Pair) → K.summary (p ∷ ps) ≡ p.key
