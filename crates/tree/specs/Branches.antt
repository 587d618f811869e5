-- The branches of a path fill the first places of an array, and the others are blank, so that the list gives the array back.
-- Assumes nothing.
use Rattle.std.proofs.Common.{◌≡◌, ℕ, ◌+◌, ◌-◌, ◌<◌, ◌≤◌, List, ◌++◌, length, take, drop, get_or, replicate, reverse, sym, ◌∙◌, ap, arith, take-append-drop, length-take-le}
use Rattle.std.proofs.lemmas.List.{ext_get_or, get_or-drop, get_or-replicate, reverse-reverse, length-reverse, length-drop, length-replicate}
use Rattle.tree.specs.declared.path.Branch.{Branch}
use Rattle.tree.specs.Sizes.{longest}

-- what stands in a place behind the last branch
abbrev pub no_branch : Branch
no_branch = record { block = 0; place = 0 }

module _ (count : ℕ) (branches : List Branch) (few : count ≤ longest) (long : length branches ≡ longest) (rest : (i : ℕ) → count ≤ i → get_or branches i no_branch ≡ no_branch) where
  rest_blank : drop count branches ≡ replicate (longest - count) no_branch
  rest_blank = ext_get_or no_branch (drop count branches) (replicate (longest - count) no_branch)
      (omega (arith, length-drop count branches, length-replicate (longest - count) no_branch, long))
      (λ i lt. get_or-drop count branches i no_branch ∙ rest (count + i) (omega arith) ∙ sym (get_or-replicate (longest - count) i no_branch no_branch (omega (arith, lt, length-drop count branches, long))))

  pub counted : length (reverse (take count branches)) ≡ count
  counted = length-reverse (take count branches) ∙ length-take-le count branches (omega (arith, few, long))

  pub given_back : reverse (reverse (take count branches)) ++ replicate (longest - length (reverse (take count branches))) no_branch ≡ branches
  given_back = rw (counted, reverse-reverse (take count branches), ← rest_blank) (take-append-drop count branches)
