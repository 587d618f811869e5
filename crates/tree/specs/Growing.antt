-- The climb of an insertion, or of a join: what came up goes into the node, which becomes one page or two.
-- Assumes nothing.
use Rattle.std.specs.Prelude.{◌≡◌, ℕ, ◌+◌, ◌*◌, ◌/◌, ◌<◌, ◌≤◌, List, ◌++◌, length, take, drop}
use Rattle.page.specs.declared.child.Child.{Child}
use Rattle.page.specs.Layout.{Layout}
use Rattle.store.specs.Memory.{Stored}
use Rattle.store.specs.Steps.{Mem, hit, Step}
use Rattle.tree.specs.Tree.{All, contents, many, low, Sound}
use Rattle.tree.specs.declared.path.Branch.{Branch}
use Rattle.tree.specs.Paths.{left, right}
use Rattle.tree.specs.Rising.{Rising}

module _ {E : Type 0} (K : Layout E) where
  -- a child but for how full it is
  pub record Loose (h : ℕ) (f : Mem) (k : Child) : Type 0 where
    pub sound : Sound K h f k.block
    pub counted : k.count ≡ length (contents K h f k.block)
    pub summed : k.summary ≡ K.summary (contents K h f k.block)

  -- where b had n entries at least, so has all that it became, for any n that a page must have; and where it became several these are full enough
  pub record Growing (f : Mem) (s : ℕ → ℕ) (H r : ℕ) (xs : List E) (h b : ℕ) (ws : List Branch) (g : Mem) (t : ℕ → ℕ) (ms : List Child) : Type 0 where
    pub was : Sound K H f r
    pub rising : Rising K f s H r xs h b ws g t ms
    pub some : 1 ≤ length ms
    pub loose : All (Loose h g) ms
    pub full : (n : ℕ) → n ≤ low K h → n ≤ many K h (f b) → All (λ k. n ≤ many K h (g k.block)) ms
    pub parted : 2 ≤ length ms → All (λ k. low K h ≤ many K h (g k.block)) ms

  -- the node's children now
  abbrev pub now : Mem → Branch → List Child → List Child
  now f w ms = left K f w ++ (ms ++ right K f w)

  pub record OnePage (f : Mem) (w : Branch) (ms : List Child) (g g' : Mem) (t t' : ℕ → ℕ) : Type 0 where
    pub few : length (now f w ms) ≤ K.node_cap
    pub reads : K.children (g' w.block) ≡ now f w ms
    pub there : Stored g' w.block
    pub writes : Step (λ c. hit w.block c + t c) (λ c. hit w.block c + t' c) g g'

  pub record TwoPages (f : Mem) (w : Branch) (ms : List Child) (d : ℕ) (g g' : Mem) (t t' : ℕ → ℕ) : Type 0 where
    pub too_many : K.node_cap < length (now f w ms)
    pub not_more : length (now f w ms) ≤ 2 * K.node_cap
    pub first : K.children (g' w.block) ≡ take (length (now f w ms) / 2) (now f w ms)
    pub second : K.children (g' d) ≡ drop (length (now f w ms) / 2) (now f w ms)
    pub there : Stored g' w.block
    pub there' : Stored g' d
    pub writes : Step (λ c. hit w.block c + t c) (λ c. (hit w.block c + hit d c) + t' c) g g'
