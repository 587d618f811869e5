-- The climb of a deletion: what is below is put right in each node on the path, which may then be too empty itself.
-- Assumes nothing.
use Rattle.std.specs.Prelude.{◌≡◌, ℕ, suc, ◌+◌, ◌*◌, ◌^◌, ◌<◌, ◌≤◌, List, ◌++◌, length, Option, MatchOption}
use Rattle.page.specs.declared.child.Child.{Child}
use Rattle.page.specs.Layout.{Layout}
use Rattle.store.specs.Memory.{Memory, Stored}
use Rattle.store.specs.Steps.{Ran, hit, held, held_in}
use Rattle.tree.specs.Pages.{page_asks}
use Rattle.tree.specs.Tree.{contents, uses, many, low, Sound, contents_of, uses_of, ChildOk, ChildrenOk, Root}
use Rattle.tree.specs.declared.path.Branch.{Branch}
use Rattle.tree.specs.Paths.{Path, before, behind}
use Rattle.tree.specs.Tall.{tall_contents, tall_uses, Tall}
use Rattle.shrink.specs.Asks.{turn_asks, top_asks}

-- what the memory was, which tree it was, what its contents shall be, and in how many askings
pub record Start (E : Type 0) : Type 0 where
  pub memory : Memory
  pub level : ℕ
  pub top : ℕ
  pub goal : List E
  pub asks : ℕ

module _ {E : Type 0} (K : Layout E) where
  pub record Starts (z : Start E) : Type 0 where
    pub was : Root K z.level z.memory.block z.top
    pub fits : (c : ℕ) → uses K z.level z.memory.block z.top c ≤ held z.memory.block c
    pub number : z.memory.many ≡ held_in z.memory.block
    pub small : length z.goal < 2 ^ 64
    pub left : z.asks ≤ z.memory.left

  -- what stands above a page at b: its entry, or none where it is too empty
  abbrev pub Risen : ℕ → Memory → ℕ → Option Child → Type 0
  Risen h m b o = MatchOption o (many K h (m.block b) < low K h) (λ k. (k.block ≡ b) × ChildOk K h m.block k)

  -- the page at block, of level h, was written with at most one entry less than it had; ws are the nodes above it
  pub record Climbing (z : Start E) (h : ℕ) (ws : List Branch) (m : Memory) (o : Option Child) : Type 0 where
    pub block : ℕ
    pub used : ℕ
    pub starts : Starts z
    pub path : Path K z.memory.block h block ws z.level z.top
    pub ran : Ran used (uses K h z.memory.block block) (uses K h m.block block) z.memory m
    pub room : used + (length ws * turn_asks + top_asks) ≤ z.asks
    pub whole : before K z.memory.block h ws ++ (contents K h m.block block ++ behind K z.memory.block h ws) ≡ z.goal
    pub sound : Sound K h m.block block
    pub fewer : many K h (z.memory.block block) ≤ suc (many K h (m.block block))
    pub risen : Risen h m block o

  -- the node at b is still to be written with the children ks, of level h, which are right
  pub record Ready (z : Start E) (h b : ℕ) (ws : List Branch) (m : Memory) (ks : List Child) : Type 0 where
    pub used : ℕ
    pub starts : Starts z
    pub path : Path K z.memory.block (suc h) b ws z.level z.top
    pub ran : Ran used (uses K (suc h) z.memory.block b) (λ c. hit b c + uses_of K h m.block ks c) z.memory m
    pub room : used + (page_asks + (length ws * turn_asks + top_asks)) ≤ z.asks
    pub whole : before K z.memory.block (suc h) ws ++ (contents_of K h m.block ks ++ behind K z.memory.block (suc h) ws) ≡ z.goal
    pub there : Stored m.block b
    pub children : ChildrenOk K h m.block ks
    pub some : 1 ≤ length ks
    pub few : length ks ≤ K.node_cap
    pub fewer : many K (suc h) (z.memory.block b) ≤ suc (length ks)

  -- the tree is at b now, and has this height
  pub record Trimmed (z : Start E) (t b : ℕ) (m : Memory) : Type 0 where
    pub ran : Ran z.asks (uses K z.level z.memory.block z.top) (tall_uses K t m.block b) z.memory m
    pub holds : tall_contents K t m.block b ≡ z.goal
    pub stands : Tall K t m.block b
