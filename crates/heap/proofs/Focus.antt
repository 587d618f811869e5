-- What `owned` has of one block, and of the others: the one is taken out, and another is put in its place. Assumes `Logic`.
use Rattle.std.proofs.Common.{ℕ, zero, suc, ◌<◌, List, [], ◌∷◌, length, get_or, set, le_of_suc-le-suc, not-suc-le-zero}
use seplogic.Ra.Ura.{Ura}
use base.Logic.{SProp, ent, sep, id⊢, via, snd∗, never_e}
use base.Fml.{Fml, ftrue, ffalse, fsep}
use types.Logic.{Logic, sem}
use types.Kit.{‵, ◌⊛◌, ◌$◌, ◌∵◌, !, qed, move, use1, use2, split, fsplit, frame, done}
use denote.RawPtr.{Ptr, null_ptr}
use Rattle.heap.specs.Owned.{one, owned}

-- what is owned of all blocks but b
unfoldable pub without : List Ptr → List (List ℕ) → ℕ → Fml
without [] [] b = ftrue
without [] (ws ∷ wss) b = ffalse
without (p ∷ ps) [] b = ffalse
without (p ∷ ps) (ws ∷ wss) zero = owned ps wss
without (p ∷ ps) (ws ∷ wss) (suc b) = fsep (one p ws) (without ps wss b)

module _ {M : Type 1} {𝓤 : Ura M} (𝓛 : Logic 𝓤) where
  abbrev ◌⊢◌ : SProp 𝓤 → SProp 𝓤 → Type 1
  P ⊢ Q = ent 𝓤 P Q

  abbrev ◌∗◌ : SProp 𝓤 → SProp 𝓤 → SProp 𝓤
  P ∗ Q = sep 𝓤 P Q

  abbrev ⟦◌⟧ : Fml → SProp 𝓤
  ⟦ P ⟧ = sem 𝓛 P

  infix 26 ◌⊢◌
  infixr 35 ◌∗◌
  pub focus : (ps : List Ptr) (wss : List (List ℕ)) (b : ℕ) → b < length ps → ⟦ owned ps wss ⟧ ⊢ ⟦ one (get_or ps b null_ptr) (get_or wss b []) ⟧ ∗ ⟦ without ps wss b ⟧
  unfolding owned without
  focus [] wss b l = absurd (not-suc-le-zero l)
  focus (p ∷ ps) [] b l = never_e 𝓤 _
  focus (p ∷ ps) (ws ∷ wss) zero l = id⊢ 𝓤 _
  focus (p ∷ ps) (ws ∷ wss) (suc b) l =
      qed 𝓛 (‵ (fsep (one p ws) (owned ps wss)) ∷ []) ∵ fsplit ! $ move ! (1 ∷ []) $
      use1 𝓛 (‵ (one (get_or ps b null_ptr) (get_or wss b [])) ⊛ ‵ (without ps wss b)) (focus ps wss b (le_of_suc-le-suc l)) $ split ! $ frame ! $ move ! (1 ∷ 0 ∷ []) $ done !

  pub unfocus : (ps : List Ptr) (wss : List (List ℕ)) (b : ℕ) (p : Ptr) (ws : List ℕ) → b < length ps → ⟦ one p ws ⟧ ∗ ⟦ without ps wss b ⟧ ⊢ ⟦ owned (set ps b p) (set wss b ws) ⟧
  unfolding owned without
  unfocus [] wss b p ws l = absurd (not-suc-le-zero l)
  unfocus (r ∷ ps) [] b p ws l = via 𝓤 ⟦ ffalse ⟧ (snd∗ 𝓤 ⟦ one p ws ⟧ ⟦ ffalse ⟧) (never_e 𝓤 _)
  unfocus (r ∷ ps) (vs ∷ wss) zero p ws l = id⊢ 𝓤 _
  unfocus (r ∷ ps) (vs ∷ wss) (suc b) p ws l =
      qed 𝓛 (‵ (one p ws) ∷ ‵ (fsep (one r vs) (without ps wss b)) ∷ []) ∵ move ! (1 ∷ []) $ fsplit ! $ move ! (2 ∷ 1 ∷ []) $
      use2 𝓛 (‵ (owned (set ps b p) (set wss b ws))) (unfocus ps wss b p ws (le_of_suc-le-suc l)) $ move ! (1 ∷ 0 ∷ []) $ done !
