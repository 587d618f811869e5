-- The path down to a key.
use Rattle.std.proofs.Common.{◌≡◌, ℕ, ◌<◌, ◌≤◌, List, [], ◌∷◌, ◌++◌, length, get_or, sym, ◌∙◌, arith, length-append}
use Rattle.page.specs.declared.child.Child.{Child}
use Rattle.page.specs.declared.entry.Pair.{Pair}
use Rattle.page.specs.Layout.{Layout, Lawful}
use Rattle.store.specs.Steps.{Mem}
use Rattle.tree.specs.Tree.{flat, All, contents, contents_of, ChildOk, ChildrenOk}
use Rattle.tree.specs.Paths.{none}
use Rattle.tree.specs.Keys.{Starts, AllBelow, Sorted, ByKey}
use Rattle.tree.proofs.Entries.{not_empty}
use Rattle.tree.proofs.Keying.{sorted_parts, below_more}

module _ (K : Layout Pair) (lw : Lawful K) (by_key : ByKey K) where
  first_kept : (xs ys : List Pair) → 0 < length xs → K.summary (xs ++ ys) ≡ K.summary xs
  first_kept [] ys l = absurd (omega arith)
  first_kept (x ∷ xs) ys l = by_key x (xs ++ ys) ∙ sym (by_key x xs)

  starts_kept : (k : ℕ) (xs ys : List Pair) → 0 < length xs → k ≤ K.summary xs → Starts k (xs ++ ys)
  unfolding Starts
  starts_kept k [] ys l m = absurd (omega arith)
  starts_kept k (x ∷ xs) ys l m = omega (arith, m, by_key x xs)

  -- children of which the first has a summary of k or more have no key below k
  pub starts_summary : (h : ℕ) (f : Mem) (k : ℕ) (ks : List Child) → ChildrenOk K h f ks → (0 < length ks → k ≤ (get_or ks 0 none).summary) → Starts k (contents_of K h f ks)
  unfolding All flat Starts
  starts_summary h f k [] a m = tt
  starts_summary h f k (x ∷ ks) a m =
      starts_kept k (contents K h f x.block) (contents_of K h f ks) (not_empty K lw h f x.block a.0.sound a.0.full) (omega (arith, a.0.summed, m (omega arith)))

  sorted_kept : (xs ys : List Pair) → 0 < length ys → Sorted (xs ++ ys) → AllBelow (K.summary ys) xs
  sorted_kept xs [] l w = absurd (omega arith)
  sorted_kept xs (y ∷ ys) l w = rw (by_key y ys) (sorted_parts xs y ys w).1

  -- what stands left of a child with a summary of k or less has keys below k
  pub below_summary : (h : ℕ) (f : Mem) (k : ℕ) (xs zs : List Pair) (c : Child) → ChildOk K h f c → Sorted (xs ++ (contents K h f c.block ++ zs)) → c.summary ≤ k → AllBelow k xs
  below_summary h f k xs zs c w r l =
      let n : 0 < length (contents K h f c.block) = not_empty K lw h f c.block w.sound w.full in
      below_more (K.summary (contents K h f c.block ++ zs)) k xs (omega (arith, w.summed, first_kept (contents K h f c.block) zs n))
      (sorted_kept xs (contents K h f c.block ++ zs) (omega (arith, n, length-append (contents K h f c.block) zs)) r)
