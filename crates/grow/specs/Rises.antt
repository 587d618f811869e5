-- The climb of an insertion: one or two entries come up from a page, and go into the node above it.
-- Assumes nothing.
use Rattle.std.specs.Prelude.{◌≡◌, ℕ, suc, ◌+◌, ◌^◌, ◌<◌, ◌≤◌, Bool, cond, T, List, [], ◌∷◌, ◌++◌, length, take, drop, IfSome, ◌==◌}
use Rattle.page.specs.declared.child.Child.{Child}
use Rattle.page.specs.Layout.{Layout, counts}
use Rattle.store.specs.Memory.{Memory, Stored}
use Rattle.store.specs.Steps.{Mem, held_in}
use Rattle.store.specs.Stocked.{Stocked}
use Rattle.store.specs.Reserve.{uses}
use Rattle.tree.specs.declared.path.Branch.{Branch}
use Rattle.tree.specs.Climb.{risen_list, Start, Grows}
use Rattle.tree.specs.declared.risen.Risen.{Risen}

-- the entry at a place gives way to one or two
abbrev pub placed : List Child → ℕ → Risen → List Child
placed ks i r = take i ks ++ (risen_list r ++ drop (suc i) ks)

-- what can be written of what comes up
abbrev pub Valid : (Child → Bool) → Risen → Type 0
Valid valid r = T (valid r.first) × IfSome r.second (λ other. T (valid other))

-- many counts along in at most k askings, and nothing is refused
pub record Spent (k : ℕ) (m m' : Memory) : Type 0 where
  pub number : m'.many + held_in m.block ≡ m.many + held_in m'.block
  pub asks : m.left ≤ m'.left + k
  pub top : m'.top ≡ m.top
  pub failed : m'.failed ≡ m.failed

module _ {E : Type 0} (K : Layout E) where
  -- how many blocks a climb takes where two entries come up: one for each node in a row that is full, and one for a new root if that is all
  unfoldable pub needed : Mem → List Branch → ℕ
  needed f [] = 1
  needed f (w ∷ ws) = cond (length (K.children (f w.block)) == K.node_cap) (1 + needed f ws) 0

  -- the node of a branch can take what comes up
  pub record Ready (valid : Child → Bool) (w : Branch) (m : Memory) (s : List ℕ) (r : Risen) : Type 0 where
    pub there : Stored m.block w.block
    pub few : length (K.children (m.block w.block)) ≤ K.node_cap
    pub inside : w.place < length (K.children (m.block w.block))
    pub can : Valid valid r
    pub small : counts (placed (K.children (m.block w.block)) w.place r) < 2 ^ 64
    pub room : K.node_cap < length (placed (K.children (m.block w.block)) w.place r) → 0 < length s
    pub stocked : Stocked (uses s) m.block
    pub beside : uses s w.block ≡ 0

  -- one or two came up to the nodes ws, and the reserve s has the blocks for the rest of the climb
  pub record Rises (z : Start E) (ws : List Branch) (m : Memory) (s : List ℕ) (r : Risen) : Type 0 where
    pub grows : Grows K z ws m.block (uses s) (risen_list r)
    pub stocked : Stocked (uses s) m.block
    pub enough : 2 ≤ length (risen_list r) → needed z.memory ws ≤ length s
    pub small : length z.goal < 2 ^ 64

  -- for some tree, and for every tree
  abbrev pub CanRise : List Branch → Memory → List ℕ → Risen → Type 0
  CanRise ws m s r = (z : Start E) × Rises z ws m s r

  abbrev pub Climbs : List Branch → Memory → List ℕ → Risen → List Branch → Memory → List ℕ → Risen → Type 0
  Climbs ws m s r ws' m' s' r' = (z : Start E) → Rises z ws m s r → Rises z ws' m' s' r'
