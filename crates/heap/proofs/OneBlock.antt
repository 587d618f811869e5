-- One block of a heap: its pointer, its words and the allocator's token for it are taken out of what the heap owns, and put back with other words. Assumes `Logic`.
use Rattle.std.proofs.Common.{◌≡◌, ℕ, ◌+◌, ◌*◌, ◌<◌, List, [], ◌∷◌, length, get_or, set, sym, refl, ap, ◌∙◌, subst, not-suc-le-zero, w64}
use lib.Seq.{set-get_or}
use seplogic.Ra.Ura.{Ura}
use base.Fraction.{full_share}
use mir.Syntax.{Ty, ty_int, ty_ptr, ty_array}
use mir.Val.{vptr}
use types.Kit.{drop}
use base.Logic.{ent, id⊢, fst∗, never}
use base.Fml.{fsep, fat}
use types.Logic.{Logic, sem}
use types.Kit.{Goal, Step, step, Seq, Item, ‵, ◌⊛◌, given, ◌$◌, move, use1, use2, split, learn, rewrite, fsplit, fjoin}
use denote.Steps.{nothing}
use denote.Memory.{part_at, shares}
use denote.Builtin.{u64}
use denote.Array.{Array}
use denote.RawPtr.{Ptr, RawPtr, block_ptr, null_ptr, ptr_val, lies_at, in_a_block}
use denote.Index.{others}
use Rattle.heap.specs.Sizes.{block_words, block_count}
use Rattle.heap.specs.Owned.{token, one, owned}
use Rattle.heap.proofs.Focus.{without, focus, unfocus}
use Rattle.heap.proofs.Elements.{take_out, put_in}
use Rattle.heap.proofs.OpenHeap.{ptr_out, ptr_in}

abbrev pub block_ty : Ty
block_ty = ty_array (ty_int w64) block_words

module _ {M : Type 1} {𝓤 : Ura M} (𝓛 : Logic 𝓤) where
  pub one_out : (p : Ptr) (ws : List ℕ) → 0 < length ws → ent 𝓤 (sem 𝓛 (one p ws)) (sem 𝓛 (fsep (lies_at (Array u64 block_words) full_share p ws) (token p)))
  unfolding one
  one_out p [] l = absurd (not-suc-le-zero l)
  one_out p (w ∷ ws) l = id⊢ 𝓤 _

  pub one_in : (p : Ptr) (ws : List ℕ) → 0 < length ws → ent 𝓤 (sem 𝓛 (fsep (lies_at (Array u64 block_words) full_share p ws) (token p))) (sem 𝓛 (one p ws))
  unfolding one
  one_in p [] l = absurd (not-suc-le-zero l)
  one_in p (w ∷ ws) l = id⊢ 𝓤 _

module _ {M : Type 1} {𝓤 : Ura M} {𝓛 : Logic 𝓤} {K : Type 0} {Γ : List (Item 𝓤)} {G : Goal 𝓤 𝓛.H} where
  -- [0 the pointer's cell; 1 the other pointers; 2 the words; 3 the token; 4 the other blocks]
  pub block_out : K → (ps : List Ptr) (wss : List (List ℕ)) (b rb o : ℕ) → b < block_count → length ps ≡ block_count → 0 < length (get_or wss b [])
      → ((bb oo : ℕ) → get_or ps b null_ptr ≡ block_ptr bb oo
      → Seq K 𝓛 (‵ (fat full_share ty_ptr rb (b * 8 + o) (vptr bb oo)) ∷ ‵ (others (shares RawPtr) full_share ps b rb o) ∷ ‵ (part_at (Array u64 block_words) full_share (get_or wss b []) bb oo) ∷ ‵ (token (block_ptr bb oo)) ∷ ‵ (without ps wss b) ∷ Γ) G)
      → Seq K 𝓛 (‵ (part_at (Array RawPtr block_count) full_share ps rb o) ∷ ‵ (owned ps wss) ∷ Γ) G
  block_out t ps wss b rb o lt lp used k =
      use1 𝓛 (given (length ps ≡ block_count) (‵ (part_at RawPtr full_share (get_or ps b null_ptr) rb (b * 8 + o)) ⊛ ‵ (others (shares RawPtr) full_share ps b rb o))) (take_out 𝓛 RawPtr tt block_count ps b null_ptr rb o lt) $ learn t (λ _. split t $
      use1 𝓛 (‵ (fat full_share ty_ptr rb (b * 8 + o) (ptr_val (get_or ps b null_ptr)))) (ptr_out 𝓛 (get_or ps b null_ptr) rb (b * 8 + o)) $
      move t (2 ∷ []) $ use1 𝓛 (‵ (one (get_or ps b null_ptr) (get_or wss b [])) ⊛ ‵ (without ps wss b)) (focus 𝓛 ps wss b (subst (λ (n : ℕ). b < n) (sym lp) lt)) $ split t $
      use1 𝓛 (‵ (fsep (lies_at (Array u64 block_words) full_share (get_or ps b null_ptr) (get_or wss b [])) (token (get_or ps b null_ptr)))) (one_out 𝓛 (get_or ps b null_ptr) (get_or wss b []) used) $
      in_a_block t (get_or ps b null_ptr) (λ p. fsep (lies_at (Array u64 block_words) full_share p (get_or wss b [])) (token p)) (fst∗ 𝓤 (never 𝓤) (sem 𝓛 (token null_ptr))) (λ bb oo e.
      fsplit t $ move t (3 ∷ 4 ∷ 0 ∷ 1 ∷ 2 ∷ []) $ rewrite t 0 (λ (p : Ptr). ‵ (fat full_share ty_ptr rb (b * 8 + o) (ptr_val p))) e refl $ k bb oo e))

  -- it is put back, with the words ws
  pub block_in : K → (ps : List Ptr) (wss : List (List ℕ)) (b rb o bb oo : ℕ) (ws : List ℕ) → b < block_count → length ps ≡ block_count → get_or ps b null_ptr ≡ block_ptr bb oo → 0 < length ws
      → Step K 𝓛 (‵ (part_at (Array RawPtr block_count) full_share ps rb o) ∷ ‵ (owned ps (set wss b ws)) ∷ Γ) G
      (‵ (fat full_share ty_ptr rb (b * 8 + o) (vptr bb oo)) ∷ ‵ (others (shares RawPtr) full_share ps b rb o) ∷ ‵ (part_at (Array u64 block_words) full_share ws bb oo) ∷ ‵ (token (block_ptr bb oo)) ∷ ‵ (without ps wss b) ∷ Γ) G
  block_in t ps wss b rb o bb oo ws lt lp e nn = step (λ s.
      use1 𝓛 (‵ (part_at RawPtr full_share (block_ptr bb oo) rb (b * 8 + o))) (ptr_in 𝓛 (block_ptr bb oo) rb (b * 8 + o)) $
      use2 𝓛 (‵ (part_at (Array RawPtr block_count) full_share (set ps b (block_ptr bb oo)) rb o)) (put_in 𝓛 RawPtr tt block_count ps b (block_ptr bb oo) rb o lt lp) $
      move t (1 ∷ 2 ∷ []) $ fjoin t $ use1 𝓛 (‵ (one (block_ptr bb oo) ws)) (one_in 𝓛 (block_ptr bb oo) ws nn) $
      move t (0 ∷ 2 ∷ []) $ use2 𝓛 (‵ (owned (set ps b (block_ptr bb oo)) (set wss b ws))) (unfocus 𝓛 ps wss b (block_ptr bb oo) ws (subst (λ (n : ℕ). b < n) (sym lp) lt)) $
      let back : set ps b (block_ptr bb oo) ≡ ps = ap (set ps b) (sym e) ∙ set-get_or ps b null_ptr in
      rewrite t 0 (λ (rs : List Ptr). ‵ (owned rs (set wss b ws))) back refl $
      rewrite t 1 (λ (rs : List Ptr). ‵ (part_at (Array RawPtr block_count) full_share rs rb o)) back refl $ move t (1 ∷ 0 ∷ []) $ s)

  -- it was given back to the allocator: b is not held any more, and what its pointer is does not matter
  pub block_gone : K → (ps : List Ptr) (wss : List (List ℕ)) (b rb o bb oo : ℕ) → b < block_count → length ps ≡ block_count → get_or ps b null_ptr ≡ block_ptr bb oo
      → Step K 𝓛 (‵ (part_at (Array RawPtr block_count) full_share ps rb o) ∷ ‵ (owned ps (set wss b [])) ∷ Γ) G
      (‵ (fat full_share ty_ptr rb (b * 8 + o) (vptr bb oo)) ∷ ‵ (others (shares RawPtr) full_share ps b rb o) ∷ ‵ (without ps wss b) ∷ Γ) G
  unfolding one
  block_gone t ps wss b rb o bb oo lt lp e = step (λ s.
      use1 𝓛 (‵ (part_at RawPtr full_share (block_ptr bb oo) rb (b * 8 + o))) (ptr_in 𝓛 (block_ptr bb oo) rb (b * 8 + o)) $
      use2 𝓛 (‵ (part_at (Array RawPtr block_count) full_share (set ps b (block_ptr bb oo)) rb o)) (put_in 𝓛 RawPtr tt block_count ps b (block_ptr bb oo) rb o lt lp) $
      nothing t $ move t (0 ∷ 2 ∷ []) $ use2 𝓛 (‵ (owned (set ps b (block_ptr bb oo)) (set wss b []))) (unfocus 𝓛 ps wss b (block_ptr bb oo) [] (subst (λ (n : ℕ). b < n) (sym lp) lt)) $
      let back : set ps b (block_ptr bb oo) ≡ ps = ap (set ps b) (sym e) ∙ set-get_or ps b null_ptr in
      rewrite t 0 (λ (rs : List Ptr). ‵ (owned rs (set wss b []))) back refl $
      rewrite t 1 (λ (rs : List Ptr). ‵ (part_at (Array RawPtr block_count) full_share rs rb o)) back refl $ move t (1 ∷ 0 ∷ []) $ s)

  -- b is not held: [0 its pointer's cell; 1 the other pointers; 2 the blocks]
  pub slot_out : K → (ps : List Ptr) (wss : List (List ℕ)) (b rb o : ℕ) → b < block_count → length ps ≡ block_count
      → Step K 𝓛 (‵ (fat full_share ty_ptr rb (b * 8 + o) (ptr_val (get_or ps b null_ptr))) ∷ ‵ (others (shares RawPtr) full_share ps b rb o) ∷ ‵ (without ps wss b) ∷ Γ) G
      (‵ (part_at (Array RawPtr block_count) full_share ps rb o) ∷ ‵ (owned ps wss) ∷ Γ) G
  slot_out t ps wss b rb o lt lp = step (λ s.
      use1 𝓛 (given (length ps ≡ block_count) (‵ (part_at RawPtr full_share (get_or ps b null_ptr) rb (b * 8 + o)) ⊛ ‵ (others (shares RawPtr) full_share ps b rb o))) (take_out 𝓛 RawPtr tt block_count ps b null_ptr rb o lt) $ learn t (λ _. split t $
      use1 𝓛 (‵ (fat full_share ty_ptr rb (b * 8 + o) (ptr_val (get_or ps b null_ptr)))) (ptr_out 𝓛 (get_or ps b null_ptr) rb (b * 8 + o)) $
      move t (2 ∷ []) $ use1 𝓛 (‵ (one (get_or ps b null_ptr) (get_or wss b [])) ⊛ ‵ (without ps wss b)) (focus 𝓛 ps wss b (subst (λ (n : ℕ). b < n) (sym lp) lt)) $ split t $ drop t $ move t (1 ∷ 2 ∷ 0 ∷ []) $ s))

  -- b is held, and what was obtained is its block
  pub slot_in : K → (ps : List Ptr) (wss : List (List ℕ)) (b rb o bb oo : ℕ) (ws : List ℕ) → b < block_count → length ps ≡ block_count → 0 < length ws
      → Step K 𝓛 (‵ (part_at (Array RawPtr block_count) full_share (set ps b (block_ptr bb oo)) rb o) ∷ ‵ (owned (set ps b (block_ptr bb oo)) (set wss b ws)) ∷ Γ) G
      (‵ (fat full_share ty_ptr rb (b * 8 + o) (vptr bb oo)) ∷ ‵ (others (shares RawPtr) full_share ps b rb o) ∷ ‵ (without ps wss b) ∷ ‵ (part_at (Array u64 block_words) full_share ws bb oo) ∷ ‵ (token (block_ptr bb oo)) ∷ Γ) G
  slot_in t ps wss b rb o bb oo ws lt lp nn = step (λ s.
      use1 𝓛 (‵ (part_at RawPtr full_share (block_ptr bb oo) rb (b * 8 + o))) (ptr_in 𝓛 (block_ptr bb oo) rb (b * 8 + o)) $
      use2 𝓛 (‵ (part_at (Array RawPtr block_count) full_share (set ps b (block_ptr bb oo)) rb o)) (put_in 𝓛 RawPtr tt block_count ps b (block_ptr bb oo) rb o lt lp) $
      move t (2 ∷ 3 ∷ []) $ fjoin t $ use1 𝓛 (‵ (one (block_ptr bb oo) ws)) (one_in 𝓛 (block_ptr bb oo) ws nn) $
      move t (0 ∷ 2 ∷ []) $ use2 𝓛 (‵ (owned (set ps b (block_ptr bb oo)) (set wss b ws))) (unfocus 𝓛 ps wss b (block_ptr bb oo) ws (subst (λ (n : ℕ). b < n) (sym lp) lt)) $
      move t (1 ∷ 0 ∷ []) $ s)
