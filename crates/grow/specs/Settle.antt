-- The entries of a page, one more perhaps than fit, go to a block, or in two halves to it and to a block of the reserve.
-- Assumes nothing.
use Rattle.std.specs.Prelude.{◌≡◌, ℕ, ◌+◌, ◌/◌, ◌<◌, ◌≤◌, List, length, take, drop, MatchOption}
use Rattle.page.specs.declared.child.Child.{Child}
use Rattle.store.specs.Memory.{Memory, Stored}
use Rattle.store.specs.Steps.{Ran, hit}
use Rattle.store.specs.Stocked.{Stocked}
use Rattle.store.specs.Reserve.{uses}
use Rattle.tree.specs.declared.risen.Risen.{Risen}

abbrev pub lower : {X : Type 0} → List X → List X
lower xs = take (length xs / 2) xs

abbrev pub upper : {X : Type 0} → List X → List X
upper xs = drop (length xs / 2) xs

-- read is `items` or `children` of a layout, and entry what stands above such a page
module _ {X : Type 0} (read : List ℕ → List X) where
  -- the lower half is at b, and the upper half at d, which was in the reserve s
  pub record Parted (k b : ℕ) (xs : List X) (m : Memory) (s : List ℕ) (d : ℕ) (m' : Memory) (s' : List ℕ) : Type 0 where
    pub first : read (m'.block b) ≡ lower xs
    pub second : read (m'.block d) ≡ upper xs
    pub there : Stored m'.block b
    pub there' : Stored m'.block d
    pub ran : Ran k (λ c. hit b c + uses s c) (λ c. (hit b c + hit d c) + uses s' c) m m'
    pub stocked : Stocked (uses s') m'.block
    pub fewer : length s' + 1 ≡ length s

  -- a block of the reserve, d, has the entries xs now
  pub record Filled (k : ℕ) (xs : List X) (m : Memory) (s : List ℕ) (d : ℕ) (m' : Memory) (s' : List ℕ) : Type 0 where
    pub reads : read (m'.block d) ≡ xs
    pub there : Stored m'.block d
    pub ran : Ran k (uses s) (λ c. hit d c + uses s' c) m m'
    pub stocked : Stocked (uses s') m'.block
    pub fewer : length s' + 1 ≡ length s

  module _ (entry : ℕ → List X → Child) (cap : ℕ) where
    pub record InOne (k b : ℕ) (xs : List X) (m : Memory) (s : List ℕ) (one : Child) (m' : Memory) (s' : List ℕ) : Type 0 where
      pub few : length xs ≤ cap
      pub is : one ≡ entry b xs
      pub reads : read (m'.block b) ≡ xs
      pub there : Stored m'.block b
      pub ran : Ran k (λ c. hit b c + uses s c) (λ c. hit b c + uses s' c) m m'
      pub stocked : Stocked (uses s') m'.block
      pub same : s' ≡ s

    pub record InTwo (k b : ℕ) (xs : List X) (m : Memory) (s : List ℕ) (one other : Child) (m' : Memory) (s' : List ℕ) : Type 0 where
      pub full : cap < length xs
      pub first_is : one ≡ entry b (lower xs)
      pub second_is : other ≡ entry other.block (upper xs)
      pub parted : Parted k b xs m s other.block m' s'

    -- what stands above it now: one entry or two
    abbrev pub Settled : ℕ → ℕ → List X → Memory → List ℕ → Risen → Memory → List ℕ → Type 0
    Settled k b xs m s r m' s' = MatchOption r.second (InOne k b xs m s r.first m' s') (λ other. InTwo k b xs m s r.first other m' s')
