-- The climb of an insertion as a loop has it: a row of branches, and one or two entries that came up.
-- Assumes nothing.
use Rattle.std.specs.Prelude.{ℕ, ◌≤◌, List, [], ◌∷◌, length, Some, None, Option}
use Rattle.page.specs.declared.child.Child.{Child}
use Rattle.page.specs.Layout.{Layout}
use Rattle.store.specs.Steps.{Mem}
use Rattle.tree.specs.declared.path.Branch.{Branch}
use Rattle.tree.specs.declared.risen.Risen.{Risen}
use Rattle.tree.specs.Growing.{Growing}

-- one entry or two
unfoldable pub one_or_two : Child → Option Child → List Child
one_or_two k None = k ∷ []
one_or_two k (Some j) = k ∷ j ∷ []

abbrev pub risen_list : Risen → List Child
risen_list r = one_or_two r.first r.second

-- what the memory and the stock were, which tree it was, and what its contents shall be
pub record Start (E : Type 0) : Type 0 where
  pub memory : Mem
  pub stock : ℕ → ℕ
  pub level : ℕ
  pub top : ℕ
  pub goal : List E

pub record Grows {E : Type 0} (K : Layout E) (z : Start E) (ws : List Branch) (g : Mem) (t : ℕ → ℕ) (ms : List Child) : Type 0 where
  pub level : ℕ
  pub block : ℕ
  pub growing : Growing K z.memory z.stock z.level z.top z.goal level block ws g t ms
  pub few : length ms ≤ 2
