-- The path from the top of a tree to a block in it.
-- Assumes nothing.
use Rattle.std.specs.Prelude.{◌≡◌, ℕ, suc, ◌+◌, ◌<◌, List, [], ◌∷◌, ◌++◌, length, take, drop, slice_index_or}
use Rattle.page.specs.declared.child.Child.{Child}
use Rattle.tree.specs.declared.path.Branch.{Branch}
use Rattle.page.specs.Layout.{Layout}
use Rattle.store.specs.Steps.{Mem, hit}
use Rattle.tree.specs.Tree.{contents, uses, Sound, contents_of, uses_of}

abbrev pub none : Child
none = record { count = 0; block = 0; summary = 0 }

module _ {E : Type 0} (K : Layout E) where
  abbrev pub left : Mem → Branch → List Child
  left f w = take w.place (K.children (f w.block))

  abbrev pub right : Mem → Branch → List Child
  right f w = drop (suc w.place) (K.children (f w.block))

  -- the block b of level h lies below the nodes ws, nearest first, the last of which is the top
  unfoldable pub Path : Mem → ℕ → ℕ → List Branch → ℕ → ℕ → Type 0
  Path f h b [] H r = (h ≡ H) × (b ≡ r)
  Path f h b (w ∷ ws) H r = (w.place < length (K.children (f w.block))) × (b ≡ (slice_index_or (K.children (f w.block)) w.place none).block) × Path f (suc h) w.block ws H r

  unfoldable pub before : Mem → ℕ → List Branch → List E
  before f h [] = []
  before f h (w ∷ ws) = before f (suc h) ws ++ contents_of K h f (left f w)

  unfoldable pub behind : Mem → ℕ → List Branch → List E
  behind f h [] = []
  behind f h (w ∷ ws) = contents_of K h f (right f w) ++ behind f (suc h) ws

  unfoldable pub around : Mem → ℕ → List Branch → ℕ → ℕ
  around f h [] c = 0
  around f h (w ∷ ws) c = (hit w.block c + (uses_of K h f (left f w) c + uses_of K h f (right f w) c)) + around f (suc h) ws c

  -- what a tree is, seen from a block in it
  pub record Seen (f : Mem) (h b : ℕ) (ws : List Branch) (H r : ℕ) : Type 0 where
    pub contents_seen : contents K H f r ≡ before f h ws ++ (contents K h f b ++ behind f h ws)
    pub uses_seen : (c : ℕ) → uses K H f r c ≡ uses K h f b c + around f h ws c
    pub sound_seen : Sound K H f r → Sound K h f b
