-- Two neighbours of which one may be too empty: their entries go onto one page, or evenly onto both.
-- Assumes nothing.
use Rattle.std.specs.Prelude.{◌≡◌, ◌≢◌, ℕ, ◌+◌, ◌^◌, ◌<◌, ◌≤◌, List, ◌++◌, length, MatchOption}
use Rattle.page.specs.declared.child.Child.{Child}
use Rattle.page.specs.Layout.{Layout, half}
use Rattle.store.specs.Memory.{Memory, Stored}
use Rattle.store.specs.Steps.{Ran, hit, held, held_in}
use Rattle.tree.specs.Tree.{contents, uses, many, low, Sound, contents_of, uses_of, ChildrenOk}
use Rattle.tree.specs.declared.risen.Risen.{Risen}

-- read is what a block's words hold, and cap how many entries fit; a and b are the blocks
module _ {X : Type 0} (read : List ℕ → List X) (cap a b : ℕ) (m : Memory) where
  -- two pages that have enough for one, and no more than can be counted; items_under says how many items are under entries
  pub record Sharable (items_under : List X → ℕ) : Type 0 where
    pub first : Stored m.block a
    pub second : Stored m.block b
    pub apart : a ≢ b
    pub first_few : length (read (m.block a)) ≤ cap
    pub second_few : length (read (m.block b)) ≤ cap
    pub enough : half cap ≤ length (read (m.block a)) + length (read (m.block b))
    pub counted : items_under (read (m.block a) ++ read (m.block b)) < 2 ^ 64
    pub held : 0 < m.many

  module _ (k : ℕ) where
    -- all entries are at a, and b was given back
    pub record InOne (xs : List X) (m' : Memory) : Type 0 where
      pub same : xs ≡ read (m.block a) ++ read (m.block b)
      pub few : length xs ≤ cap
      pub reads : read (m'.block a) ≡ xs
      pub there : Stored m'.block a
      pub ran : Ran k (λ c. hit a c + hit b c) (hit a) m m'

    -- about half of them are at each
    pub record InTwo (xs ys : List X) (m' : Memory) : Type 0 where
      pub same : xs ++ ys ≡ read (m.block a) ++ read (m.block b)
      pub first_few : length xs ≤ cap
      pub second_few : length ys ≤ cap
      pub first_full : half cap ≤ length xs
      pub second_full : half cap ≤ length ys
      pub first : read (m'.block a) ≡ xs
      pub second : read (m'.block b) ≡ ys
      pub there : Stored m'.block a
      pub there' : Stored m'.block b
      pub ran : Ran k (λ c. hit a c + hit b c) (λ c. hit a c + hit b c) m m'

    -- entry is what a node keeps of a page at a block
    module _ (entry : ℕ → List X → Child) where
      pub record OneAbove (x : Child) (m' : Memory) : Type 0 where
        pub xs : List X
        pub all : InOne xs m'
        pub above : x ≡ entry a xs

      pub record TwoAbove (x y : Child) (m' : Memory) : Type 0 where
        pub xs : List X
        pub ys : List X
        pub both : InTwo xs ys m'
        pub first_above : x ≡ entry a xs
        pub second_above : y ≡ entry b ys

      -- what stands above them then
      abbrev pub Above : Risen → Memory → Type 0
      Above r m' = MatchOption r.second (OneAbove r.first m') (λ y. TwoAbove r.first y m')

module _ {E : Type 0} (K : Layout E) where
  -- two pages of level h that have enough for one
  pub record Neighbours (h a b : ℕ) (m : Memory) : Type 0 where
    pub first : Sound K h m.block a
    pub second : Sound K h m.block b
    pub enough : low K h ≤ many K h (m.block a) + many K h (m.block b)
    pub apart : (c : ℕ) → uses K h m.block a c + uses K h m.block b c ≤ held m.block c
    pub counted : length (contents K h m.block a) + length (contents K h m.block b) < 2 ^ 64
    pub number : m.many ≡ held_in m.block

  -- they are ns now, one or two that are full enough
  pub record Shared (k h a b : ℕ) (m : Memory) (ns : List Child) (m' : Memory) : Type 0 where
    pub ran : Ran k (λ c. uses K h m.block a c + uses K h m.block b c) (λ c. uses_of K h m'.block ns c) m m'
    pub same : contents_of K h m'.block ns ≡ contents K h m.block a ++ contents K h m.block b
    pub children : ChildrenOk K h m'.block ns
    pub some : 1 ≤ length ns
    pub few : length ns ≤ 2
