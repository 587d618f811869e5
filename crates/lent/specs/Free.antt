-- The numbers of the blocks that are free, on a stack.
-- Assumes nothing.
use Rattle.std.specs.Prelude.{◌≡◌, ℕ, zero, suc, ◌<◌, Bool, true, List, [], ◌∷◌, nat_eq, take, reverse}
use Rattle.std.specs.List.{list_any}
use Rattle.lent.specs.declared.stack.Stack.{Stack}

-- the numbers on a stack, the top one first
abbrev pub on_stack : Stack → List ℕ
on_stack s = reverse (take s.count s.numbers.now)

-- the numbers below n, the last one first
abbrev pub down_from : ℕ → List ℕ
down_from zero = []
down_from (suc n) = n ∷ down_from n

-- whether b is one of them
abbrev pub is_free : List ℕ → ℕ → Bool
is_free free b = list_any (nat_eq b) free

-- each is below n
abbrev pub AreBelow : ℕ → List ℕ → Type 0
AreBelow n free = (b : ℕ) → is_free free b ≡ true → b < n
