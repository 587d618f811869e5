-- Words of a block, read one after the other and written so.
use Rattle.std.proofs.Common.{◌≡◌, ℕ, ◌+◌, ◌<◌, ◌≤◌, List, length, get_or, take, drop, ap, ◌∙◌, add_comm}
use lib.Seq.{paste}
use Rattle.std.proofs.lemmas.List.Edits.{paste_more}
use Rattle.store.specs.Memory.{Memory, asked, wrote, written}
use Rattle.store.proofs.Memories.{written_wrote}

-- ws: the first i of n words are those of block b from word a on, and the others are 0
pub record Loading (a b n i : ℕ) (ws : List ℕ) (m m' : Memory) : Type 0 where
  pub words : take i ws ≡ take i (drop a (m.block b))
  pub behind : (k : ℕ) → i ≤ k → get_or ws k 0 ≡ 0
  pub len : length ws ≡ n
  pub same : m' ≡ asked i m

-- what was written to block b from word a on
module _ (b a : ℕ) (ws : List ℕ) (m : Memory) where
  -- one word more was written
  pub storing_more : (i : ℕ) (m' m'' : Memory) → a + i < length (m.block b) → i < length ws → m' ≡ wrote i b (paste (m.block b) a ws i) m → m'' ≡ written b (a + i) (get_or ws i 0) m' → m'' ≡ wrote (i + 1) b (paste (m.block b) a ws (i + 1)) m
  storing_more i m' m'' l h e f =
      let old : List ℕ = m.block b in
      f ∙ ap (written b (a + i) (get_or ws i 0)) e ∙ written_wrote i b (a + i) (get_or ws i 0) (paste old a ws i) (paste old a ws (i + 1)) m (paste_more old a ws i 0 l h)
      ∙ ap (λ (k : ℕ). wrote k b (paste old a ws (i + 1)) m) (add_comm 1 i)
