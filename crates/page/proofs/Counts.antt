-- What is known of the children of a node, child by child. Assumes nothing.
use Rattle.std.proofs.Common.{◌≡◌, ℕ, ◌+◌, ◌<◌, ◌≤◌, List, [], ◌∷◌, ◌++◌, length, get_or, take, drop, sym, refl, ap, ◌∙◌, arith, take-append-drop, length-take-le}
use Rattle.std.proofs.lemmas.List.Sums.{fold_push}
use Rattle.page.specs.declared.child.Child.{Child}
use Rattle.page.specs.Layout.{Layout, counts, summed, entry_of}
use Rattle.page.specs.Readers.{counts_add}
use Rattle.page.proofs.Lists.{take_more_get}

pub counts_none : counts [] ≡ 0
unfolding counts
counts_none = refl

pub counts_cons : (k : Child) (ks : List Child) → counts (k ∷ ks) ≡ k.count + counts ks
unfolding counts
counts_cons k ks = refl

pub counts_append : (xs ys : List Child) → counts (xs ++ ys) ≡ counts xs + counts ys
counts_append = counts_add

-- before and from a place on
pub counts_parts : (i : ℕ) (ks : List Child) → counts (take i ks) + counts (drop i ks) ≡ counts ks
counts_parts i ks = sym (counts_append (take i ks) (drop i ks)) ∙ ap counts (take-append-drop i ks)

pub summed_push : (j : ℕ → ℕ → ℕ) (xs : List Child) (x : Child) → 0 < length xs → summed j (xs ++ (x ∷ [])) ≡ j (summed j xs) x.summary
unfolding summed
summed_push j [] x h = absurd (omega arith)
summed_push j (k ∷ ks) x h = fold_push (λ a c. j a c.summary) k.summary ks x

module _ (ks : List Child) (i : ℕ) (x : Child) where
  -- one child more
  pub counts_more : i < length ks → ((d : Child) → x ≡ get_or ks i d) → counts (take (i + 1) ks) ≡ counts (take i ks) + x.count
  unfolding counts
  counts_more h e = omega (arith, ap counts (take_more_get ks i x h e), counts_append (take i ks) (x ∷ []))

  pub counts_upto : i < length ks → ((d : Child) → x ≡ get_or ks i d) → counts (take i ks) + x.count ≤ counts ks
  counts_upto h e = omega (arith, counts_more h e, counts_parts (i + 1) ks)

  pub summed_more : (j : ℕ → ℕ → ℕ) → 0 < i → i < length ks → ((d : Child) → x ≡ get_or ks i d) → summed j (take (i + 1) ks) ≡ j (summed j (take i ks)) x.summary
  summed_more j l h e = ap (summed j) (take_more_get ks i x h e) ∙ summed_push j (take i ks) x (omega (arith, length-take-le i ks (omega arith)))

module _ {E : Type 0} (K : Layout E) (b : ℕ) (ks : List Child) where
  pub entry_one : (x : Child) → 0 < length ks → ((d : Child) → x ≡ get_or ks 0 d) → entry_of K b (take 1 ks) ≡ record { count = x.count; block = b; summary = x.summary }
  unfolding counts summed
  entry_one x h e =
      let t : take 1 ks ≡ x ∷ [] = take_more_get ks 0 x h e in
      let n : counts (take 1 ks) ≡ x.count = ap counts t ∙ omega arith in
      let s : summed K.join (take 1 ks) ≡ x.summary = ap (summed K.join) t in
      cc (n, s)

  pub entry_more : {a : Child} (i : ℕ) (x : Child) → 0 < i → i < length ks → ((d : Child) → x ≡ get_or ks i d) → a ≡ entry_of K b (take i ks) →
      record { count = a.count + x.count; block = a.block; summary = K.join a.summary x.summary } ≡ entry_of K b (take (i + 1) ks)
  entry_more i x l h e was =
      let n = counts_more ks i x h e in
      let s = summed_more ks i x K.join l h e in
      rw was (cc (n, s))
