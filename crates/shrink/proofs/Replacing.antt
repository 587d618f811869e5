-- Entries of a node that are replaced: one, or two by one or two.
use Rattle.std.proofs.Common.{◌≡◌, ℕ, zero, suc, ◌+◌, ◌<◌, List, [], ◌∷◌, ◌++◌, length, take, drop, set, Some, None, Option, sym, refl, ap, ◌∙◌, add-one, arith}
use Rattle.page.specs.declared.child.Child.{Child}
use Rattle.tree.specs.Climb.{one_or_two}

set_two : {X : Type 0} (es : List X) (i : ℕ) (a b : X) → suc i < length es → set (set es i a) (suc i) b ≡ take i es ++ (a ∷ (b ∷ drop (suc (suc i)) es))
set_two [] i a b l = absurd (omega arith)
set_two (x ∷ []) zero a b l = absurd (omega arith)
set_two (x ∷ (y ∷ ys)) zero a b l = refl
set_two (x ∷ xs) (suc i) a b l = ap (λ (ys : List _). x ∷ ys) (set_two xs i a b (omega arith))

set_cut : {X : Type 0} (es : List X) (i : ℕ) (a : X) → suc i < length es → take (suc i) (set es i a) ++ drop (suc (suc i)) (set es i a) ≡ take i es ++ (a ∷ drop (suc (suc i)) es)
set_cut [] i a l = absurd (omega arith)
set_cut (x ∷ xs) zero a l = refl
set_cut (x ∷ xs) (suc i) a l = ap (λ (ys : List _). x ∷ ys) (set_cut xs i a (omega arith))

-- as code has them: vs after the first change, us after the second
module _ (es vs us : List Child) (i : ℕ) (k : Child) (o : Option Child) (l : i + 1 < length es) (first : vs ≡ set es i k) where
  pub replaced_two : (j : Child) → o ≡ Some j → us ≡ set vs (i + 1) j → us ≡ take i es ++ (one_or_two k o ++ drop (suc (suc i)) es)
  unfolding one_or_two
  replaced_two j is second = second ∙ ap (λ (ys : List Child). set ys (i + 1) j) first ∙ ap (λ (n : ℕ). set (set es i k) n j) (add-one i) ∙ set_two es i k j (omega arith)
      ∙ ap (λ (x : Option Child). take i es ++ (one_or_two k x ++ drop (suc (suc i)) es)) (sym is)

  pub replaced_one : o ≡ None → us ≡ take (i + 1) vs ++ drop (i + 1 + 1) vs → us ≡ take i es ++ (one_or_two k o ++ drop (suc (suc i)) es)
  unfolding one_or_two
  replaced_one is second =
      second ∙ ap (λ (ys : List Child). take (i + 1) ys ++ drop (i + 1 + 1) ys) first ∙ ap (λ (n : ℕ). take n (set es i k) ++ drop (n + 1) (set es i k)) (add-one i)
      ∙ ap (λ (n : ℕ). take (suc i) (set es i k) ++ drop n (set es i k)) (add-one (suc i)) ∙ set_cut es i k (omega arith)
      ∙ ap (λ (x : Option Child). take i es ++ (one_or_two k x ++ drop (suc (suc i)) es)) (sym is)
