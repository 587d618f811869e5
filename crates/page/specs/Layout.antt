-- How the pages of a kind of tree are read off the 64 words of a block, and what a node keeps of a child.
-- Assumes nothing.
use Rattle.std.specs.Prelude.{◌≡◌, ℕ, zero, suc, ◌+◌, ◌/◌, ◌<◌, ◌≤◌, List, [], ◌∷◌, ◌++◌, length, take, drop, fold, slice_index}
use Rattle.page.specs.declared.child.Child.{Child}

-- n entries of w words each, one after the other
unfoldable pub rows : {X : Type 0} → ℕ → (List ℕ → X) → ℕ → List ℕ → List X
rows w dec zero ws = []
rows w dec (suc n) ws = dec (take w ws) ∷ rows w dec n (drop w ws)

-- a block's words: how many entries there are, a spare word, the entries
abbrev pub imaged : {X : Type 0} → ℕ → (List ℕ → X) → List ℕ → List X
imaged w dec ws = rows w dec (slice_index ws 0) (drop 2 ws)

-- items: the entries of a leaf; children: those of a node; summary: what is kept of a list of items, and join, of two lists in a row; so many entries fit
pub record Layout (E : Type 0) : Type 0 where
  pub items : List ℕ → List E
  pub children : List ℕ → List Child
  pub summary : List E → ℕ
  pub join : ℕ → ℕ → ℕ
  pub leaf_cap : ℕ
  pub node_cap : ℕ

-- at least so many stand on a page below the top
abbrev pub half : ℕ → ℕ
half cap = (cap + 1) / 2

-- what the trees ask of a layout
pub record Lawful {E : Type 0} (K : Layout E) : Type 0 where
  pub joins : (xs ys : List E) → 0 < length xs → 0 < length ys → K.summary (xs ++ ys) ≡ K.join (K.summary xs) (K.summary ys)
  pub leaf_room : 2 ≤ K.leaf_cap
  pub node_room : 3 ≤ K.node_cap

-- of the children of a node: how many items there are, and what is kept of them all
unfoldable pub counts : List Child → ℕ
counts [] = 0
counts (k ∷ ks) = k.count + counts ks

unfoldable pub summed : (ℕ → ℕ → ℕ) → List Child → ℕ
summed j [] = 0
summed j (k ∷ ks) = fold (λ a c. j a c.summary) k.summary ks

-- what stands in the node above of a node at block b with these children
abbrev pub entry_of : {E : Type 0} → Layout E → ℕ → List Child → Child
entry_of K b ks = record { count = counts ks; block = b; summary = summed K.join ks }

-- and of a leaf with these items
abbrev pub entry_of_leaf : {E : Type 0} → Layout E → ℕ → List E → Child
entry_of_leaf K b xs = record { count = length xs; block = b; summary = K.summary xs }
