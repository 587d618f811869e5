-- One element of an array in memory: it is taken out, and it or another is put back. Assumes `Logic`.
use Rattle.std.proofs.Common.{◌≡◌, ℕ, ◌+◌, ◌*◌, ◌<◌, List, [], ◌∷◌, length, get_or, set, sym, refl, ◌∙◌, subst, length-set}
use seplogic.Ra.Ura.{Ura}
use base.Fraction.{full_share}
use base.Logic.{SProp, ent, sep, guard}
use base.Fml.{Fml, feq, fsep}
use types.Logic.{Logic, sem}
use types.Kit.{‵, ◌⊛◌, ◌$◌, ◌∵◌, !, qed, by, use1, use2, split, rewrite, fsplit, fjoin, feq_i, feq_l, check, done}
use denote.RattleType.{RattleType}
use denote.Memory.{part_at, shares, mem}
use denote.Array.{Array}
use denote.ArrayMemory.{Single, Array-apart, Array-whole}
use denote.Index.{place, place_is, others, takes, puts, row}

module _ {M : Type 1} {𝓤 : Ura M} (𝓛 : Logic 𝓤) (R : RattleType) (one : Single R.mir) where
  abbrev ◌⊢◌ : SProp 𝓤 → SProp 𝓤 → Type 1
  P ⊢ Q = ent 𝓤 P Q

  abbrev ◌∗◌ : SProp 𝓤 → SProp 𝓤 → SProp 𝓤
  P ∗ Q = sep 𝓤 P Q

  abbrev ⟦◌⟧ : Fml → SProp 𝓤
  ⟦ P ⟧ = sem 𝓛 P

  infix 26 ◌⊢◌
  infixr 35 ◌∗◌
  abbrev s : ℕ
  s = (mem R).size

  abbrev arr : ℕ → List R.Denot → ℕ → ℕ → Fml
  arr n xs b o = part_at (Array R n) full_share xs b o

  pub array_length : (n : ℕ) (xs : List R.Denot) (b o : ℕ) → ⟦ arr n xs b o ⟧ ⊢ guard 𝓤 (length xs ≡ n) ⟦ arr n xs b o ⟧
  array_length n xs b o = qed 𝓛 (‵ (arr n xs b o) ∷ []) ∵ use1 𝓛 (‵ (fsep (feq ℕ (length xs) n) (row R full_share xs b o))) (Array-apart 𝓛 R full_share one n xs b o) $ fsplit ! $ feq_l ! (λ l. check ! l $
      feq_i ! ℕ (length xs) n l $ fjoin ! $ by ! (Array-whole 𝓛 R full_share n xs b o))

  -- element i, at the place where the machine finds it, and the others
  pub take_out : (n : ℕ) (xs : List R.Denot) (i : ℕ) (d : R.Denot) (b o : ℕ) → i < n → ⟦ arr n xs b o ⟧
      ⊢ guard 𝓤 (length xs ≡ n) (⟦ part_at R full_share (get_or xs i d) b (i * s + o) ⟧ ∗ ⟦ others (shares R) full_share xs i b o ⟧)
  take_out n xs i d b o lt = qed 𝓛 (‵ (arr n xs b o) ∷ []) ∵ use1 𝓛 (‵ (fsep (feq ℕ (length xs) n) (row R full_share xs b o))) (Array-apart 𝓛 R full_share one n xs b o) $ fsplit ! $ feq_l ! (λ l.
      use1 𝓛 (‵ (part_at R full_share (get_or xs i d) b (place s o i)) ⊛ ‵ (others (shares R) full_share xs i b o)) (takes (shares R) full_share 𝓛 xs i d b o (subst (λ (k : ℕ). i < k) (sym l) lt)) $ split ! $
      rewrite ! 0 (λ (k : ℕ). ‵ (part_at R full_share (get_or xs i d) b k)) (place_is s o i) refl $ check ! l $ done !)

  pub put_in : (n : ℕ) (xs : List R.Denot) (i : ℕ) (y : R.Denot) (b o : ℕ) → i < n → length xs ≡ n
      → ⟦ part_at R full_share y b (i * s + o) ⟧ ∗ ⟦ others (shares R) full_share xs i b o ⟧ ⊢ ⟦ arr n (set xs i y) b o ⟧
  put_in n xs i y b o lt l = qed 𝓛 (‵ (part_at R full_share y b (i * s + o)) ∷ ‵ (others (shares R) full_share xs i b o) ∷ []) ∵
      rewrite ! 0 (λ (k : ℕ). ‵ (part_at R full_share y b k)) (sym (place_is s o i)) refl $
      use2 𝓛 (‵ (row R full_share (set xs i y) b o)) (puts (shares R) full_share 𝓛 xs i y b o (subst (λ (k : ℕ). i < k) (sym l) lt)) $
      feq_i ! ℕ (length (set xs i y)) n (length-set xs i y ∙ l) $ fjoin ! $ by ! (Array-whole 𝓛 R full_share n (set xs i y) b o)
