-- Two pages whose entries were put together or evened out. Assumes nothing.
use Rattle.std.specs.Prelude.{◌≡◌, ℕ, ◌+◌, ◌<◌, ◌≤◌, List, ◌++◌, length}
use Rattle.page.specs.Sizes.{page_limit}

-- one page has them all
pub record Merged {X : Type 0} (most : ℕ) (all now : List X) : Type 0 where
  pub same : now ≡ all
  pub few : length now ≤ most

-- they didn't fit on one: two have them, as evenly as can be
pub record Evened {X : Type 0} (most : ℕ) (all left right : List X) : Type 0 where
  pub same : left ++ right ≡ all
  pub many : most < length left + length right
  pub not_more : length left ≤ length right
  pub even : length right ≤ length left + 1

-- the same, and neither has more entries than a page may have
pub record EvenedFew {X : Type 0} (most : ℕ) (all left right : List X) : Type 0 where
  pub same : left ++ right ≡ all
  pub many : most < length left + length right
  pub not_more : length left ≤ length right
  pub even : length right ≤ length left + 1
  pub left_few : length left ≤ page_limit
  pub right_few : length right ≤ page_limit

-- with that left out
pub evened : {X : Type 0} {most : ℕ} {all left right : List X} → EvenedFew most all left right → Evened most all left right
evened v = record { same = v.same; many = v.many; not_more = v.not_more; even = v.even }
