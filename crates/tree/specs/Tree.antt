-- Trees that lie in blocks of memory: what they hold, which blocks they use, and when they are sound.
-- Assumes nothing.
use Rattle.std.specs.Prelude.{◌≡◌, ℕ, zero, suc, ◌+◌, ◌≤◌, List, [], ◌∷◌, ◌++◌, length}
use Rattle.page.specs.declared.child.Child.{Child}
use Rattle.page.specs.Layout.{Layout, half}
use Rattle.store.specs.Memory.{Stored}
use Rattle.store.specs.Steps.{Mem, hit}

-- over children: sums, lists in a row, what holds of each
unfoldable pub total : (ℕ → ℕ) → List Child → ℕ
total g [] = 0
total g (k ∷ ks) = g k.block + total g ks

unfoldable pub flat : {E : Type 0} → (ℕ → List E) → List Child → List E
flat g [] = []
flat g (k ∷ ks) = g k.block ++ flat g ks

unfoldable pub All : (Child → Type 0) → List Child → Type 0
All P [] = Unit {0}
All P (k ∷ ks) = P k × All P ks

module _ {E : Type 0} (K : Layout E) where
  -- a tree is a block and a level, 0 for a leaf
  unfoldable pub contents : ℕ → Mem → ℕ → List E
  contents zero f b = K.items (f b)
  contents (suc h) f b = flat (contents h f) (K.children (f b))

  unfoldable pub uses : ℕ → Mem → ℕ → ℕ → ℕ
  uses zero f b c = hit b c
  uses (suc h) f b c = hit b c + total (λ d. uses h f d c) (K.children (f b))

  unfoldable pub blocks : ℕ → Mem → ℕ → ℕ
  blocks zero f b = 1
  blocks (suc h) f b = 1 + total (blocks h f) (K.children (f b))

  -- entries of a page, and how many there must be below the top
  unfoldable pub many : ℕ → List ℕ → ℕ
  many zero ws = length (K.items ws)
  many (suc h) ws = length (K.children ws)

  unfoldable pub low : ℕ → ℕ
  low zero = half K.leaf_cap
  low (suc h) = half K.node_cap

  -- a child below a node: sound, full enough, and what the node has of it is right
  pub record Fits (S : ℕ → Type 0) (h : ℕ) (f : Mem) (k : Child) : Type 0 where
    pub sound : S k.block
    pub full : low h ≤ many h (f k.block)
    pub counted : k.count ≡ length (contents h f k.block)
    pub summed : k.summary ≡ K.summary (contents h f k.block)

  -- sound, but perhaps with few entries on the topmost page
  unfoldable pub Sound : ℕ → Mem → ℕ → Type 0
  Sound zero f b = Stored f b × (length (K.items (f b)) ≤ K.leaf_cap)
  Sound (suc h) f b = Stored f b × (length (K.children (f b)) ≤ K.node_cap) × All (Fits (Sound h f) h f) (K.children (f b))

  -- children in a row
  abbrev pub contents_of : ℕ → Mem → List Child → List E
  contents_of h f ks = flat (contents h f) ks

  abbrev pub uses_of : ℕ → Mem → List Child → ℕ → ℕ
  uses_of h f ks c = total (λ d. uses h f d c) ks

  abbrev pub blocks_of : ℕ → Mem → List Child → ℕ
  blocks_of h f ks = total (blocks h f) ks

  abbrev pub ChildOk : ℕ → Mem → Child → Type 0
  ChildOk h f k = Fits (Sound h f) h f k

  abbrev pub ChildrenOk : ℕ → Mem → List Child → Type 0
  ChildrenOk h f ks = All (ChildOk h f) ks

  abbrev pub under : Mem → List Child → List Child
  under f ps = flat (λ b. K.children (f b)) ps

  -- what the topmost page must have
  unfoldable pub least : ℕ → ℕ
  least zero = 1
  least (suc h) = 2

  pub record Root (h : ℕ) (f : Mem) (b : ℕ) : Type 0 where
    pub sound : Sound h f b
    pub full : least h ≤ many h (f b)

  pub record Kept (h : ℕ) (f f' : Mem) (b : ℕ) : Type 0 where
    pub page : f' b ≡ f b
    pub same_contents : contents h f' b ≡ contents h f b
    pub same_uses : (c : ℕ) → uses h f' b c ≡ uses h f b c
    pub same_blocks : blocks h f' b ≡ blocks h f b
    pub still_sound : Sound h f b → Sound h f' b
