-- The free list, when a number is pushed or popped. Assumes nothing.
use Rattle.std.proofs.Common.{◌≡◌, ℕ, ◌+◌, ◌-◌, ◌<◌, ◌≤◌, ◌≢◌, List, [], length, get_or, set, sym, ap, ◌∙◌, subst, not-suc-le-zero, arith, get_or-set_other, get_or-set_same}
use Rattle.heap.specs.Sizes.{block_count}
use Rattle.heap.specs.FreeList.{Unheld, Valid, Distinct}
use Rattle.heap.proofs.Grounds.{by_eq, lengths_other}

-- block b is not held any more
pub emptied : (wss : List (List ℕ)) (b c : ℕ) → b < length wss → (c ≢ b → length (get_or wss c []) ≡ 0) → length (get_or (set wss b []) c []) ≡ 0
emptied wss b c l k = by_eq c b
    (λ e. ap (λ (z : ℕ). length (get_or (set wss b []) z [])) e ∙ ap length (get_or-set_same wss b [] [] l))
    (λ ne. lengths_other wss b [] c ne ∙ k ne)

module _ (xs : List ℕ) (n b : ℕ) (lt : n < length xs) where
  at_top : get_or (set xs n b) n 0 ≡ b
  at_top = get_or-set_same xs n b 0 lt

  at_below : (j : ℕ) → j < n → get_or (set xs n b) j 0 ≡ get_or xs j 0
  at_below j h = let ne : j ≢ n = omega arith in get_or-set_other xs n j b 0 ne

  pub push_valid : Valid xs n → b < block_count → Valid (set xs n b) (n + 1)
  push_valid low lb j h = by_eq j n
      (λ e. subst (λ (z : ℕ). z < block_count) (sym (ap (λ (z : ℕ). get_or (set xs n b) z 0) e ∙ at_top)) lb)
      (λ ne. let lj : j < n = omega arith in subst (λ (z : ℕ). z < block_count) (sym (at_below j lj)) (low j lj))

  pub push_unheld : (wss : List (List ℕ)) → Unheld xs n wss → b < length wss → Unheld (set xs n b) (n + 1) (set wss b [])
  push_unheld wss ready lb j h = emptied wss b (get_or (set xs n b) j 0) lb (λ ne.
      by_eq j n
      (λ e. absurd (ne (ap (λ (z : ℕ). get_or (set xs n b) z 0) e ∙ at_top)))
      (λ nj. let lj : j < n = omega arith in ap (λ (z : ℕ). length (get_or wss z [])) (at_below j lj) ∙ ready j lj))

  pub push_distinct : (wss : List (List ℕ)) → Unheld xs n wss → 0 < length (get_or wss b []) → Distinct xs n → Distinct (set xs n b) (n + 1)
  push_distinct wss ready used apart j k (lt', lk, e) = by_eq k n
      (λ ek. let lj : j < n = omega arith in
      let is : get_or xs j 0 ≡ b = sym (at_below j lj) ∙ e ∙ ap (λ (z : ℕ). get_or (set xs n b) z 0) ek ∙ at_top in
      let z : length (get_or wss b []) ≡ 0 = ap (λ (c : ℕ). length (get_or wss c [])) (sym is) ∙ ready j lj in
      let bad : 1 ≤ 0 = omega arith in not-suc-le-zero bad)
      (λ nk. let lk' : k < n = omega arith in let lj : j < n = omega arith in
      apart j k (lt', lk', sym (at_below j lj) ∙ e ∙ at_below k lk'))

-- the last of the first n is popped
module _ (xs : List ℕ) (n : ℕ) (pos : 0 < n) where
  abbrev k : ℕ
  k = n - 1

  pub pop_valid : Valid xs n → Valid xs (n - 1)
  pop_valid low j h = low j (omega arith)

  pub pop_distinct : Distinct xs n → Distinct xs (n - 1)
  pop_distinct apart j i (lt, li, e) = apart j i (lt, omega arith, e)

  pub pop_unheld : (wss : List (List ℕ)) (ws : List ℕ) → Distinct xs n → Unheld xs n wss → Unheld xs (n - 1) (set wss (get_or xs (n - 1) 0) ws)
  pop_unheld wss ws apart ready j h =
      let lj : j < n = omega arith in
      let top : n - 1 < n = omega arith in
      lengths_other wss (get_or xs (n - 1) 0) ws (get_or xs j 0) (λ e. apart j (n - 1) (h, top, e)) ∙ ready j lj
