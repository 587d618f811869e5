-- Blocks of 64 words, as the trees see them.
-- Assumes nothing.
use Rattle.std.specs.Prelude.{◌≡◌, ℕ, ◌+◌, ◌-◌, ◌<◌, Bool, true, cond, List, [], length, ◌==◌, slice_set}

-- block b: none, or its 64 words. many: how many are held; left: how often the memory may still be asked; top: so many may be held; failed: a block was refused.
pub record Memory : Type 0 where
  pub block : ℕ → List ℕ
  pub many : ℕ
  pub left : ℕ
  pub top : ℕ
  pub failed : Bool

abbrev pub at : ℕ → List ℕ → (ℕ → List ℕ) → ℕ → List ℕ
at b ws f c = cond (c == b) ws (f c)

-- n askings later, with these blocks
abbrev pub later : ℕ → (ℕ → List ℕ) → ℕ → Memory → Memory
later n f m g = record { block = f; many = m; left = g.left - n; top = g.top; failed = g.failed }

-- n words were read
abbrev pub asked : ℕ → Memory → Memory
asked n g = later n g.block g.many g

-- block b was written, in n askings
abbrev pub wrote : ℕ → ℕ → List ℕ → Memory → Memory
wrote n b ws g = later n (at b ws g.block) g.many g

abbrev pub written : ℕ → ℕ → ℕ → Memory → Memory
written b i x g = wrote 1 b (slice_set (g.block b) i x) g

abbrev pub released : ℕ → Memory → Memory
released b g = later 1 (at b [] g.block) (g.many - 1) g

abbrev pub refused : Memory → Memory
refused g = record { block = g.block; many = g.many; left = g.left - 1; top = g.top; failed = true }

-- a block that is held
abbrev pub Stored : (ℕ → List ℕ) → ℕ → Type 0
Stored f b = (b < 1048576) × (length (f b) ≡ 64)

-- block b was got: it wasn't held, and holds anything
pub record Got (g : Memory) (b : ℕ) (h : Memory) : Type 0 where
  pub small : b < 1048576
  pub new : g.block b ≡ []
  pub whole : length (h.block b) ≡ 64
  pub same : h ≡ later 1 (at b (h.block b) g.block) (g.many + 1) g
