-- What a part of a call does to the memory: which blocks it owns before and after, by counts, and that it leaves alone what isn't its own.
-- Assumes nothing.
use Rattle.std.specs.Prelude.{◌≡◌, ℕ, zero, suc, ◌+◌, ◌<◌, ◌≤◌, cond, List, [], ◌∷◌, ◌==◌, ◌≢◌}
use Rattle.store.specs.Memory.{Memory}

-- what blocks hold: 64 words, or none
abbrev pub Mem : Type 0
Mem = ℕ → List ℕ

-- 1 for the block itself
unfoldable pub hit : ℕ → ℕ → ℕ
hit b c = cond (c == b) 1 0

unfoldable pub some : List ℕ → ℕ
some [] = 0
some (w ∷ ws) = 1

abbrev pub held : Mem → ℕ → ℕ
held f c = some (f c)

-- where a use is counted the memory is the same
abbrev pub Same : (ℕ → ℕ) → Mem → Mem → Type 0
Same u f f' = (c : ℕ) → (u c ≢ 0) → f' c ≡ f c

-- u is what it owns before, u' after
pub record Step (u u' : ℕ → ℕ) (f f' : Mem) : Type 0 where
  pub balanced : (c : ℕ) → u' c + held f c ≡ u c + held f' c
  pub leaves : (c : ℕ) → u c < held f c → f' c ≡ f c

unfoldable pub sum_to : ℕ → (ℕ → ℕ) → ℕ
sum_to zero g = 0
sum_to (suc n) g = sum_to n g + g n

-- how many blocks are held, counted off
abbrev pub held_in : Mem → ℕ
held_in f = sum_to 1048576 (held f)

-- what code does in at most k askings: a step, many counts along, and nothing else
pub record Ran (k : ℕ) (u u' : ℕ → ℕ) (m m' : Memory) : Type 0 where
  pub step : Step u u' m.block m'.block
  pub number : m'.many + held_in m.block ≡ m.many + held_in m'.block
  pub asks : m.left ≤ m'.left + k
  pub top : m'.top ≡ m.top
  pub failed : m'.failed ≡ m.failed
