-- A `&mut Heap` is opened, which gives each field in memory and what the heap owns, and closed at other fields. Assumes `Logic`.
use Rattle.std.proofs.Common.{◌≡◌, ℕ, zero, ◌+◌, ◌*◌, ◌^◌, ◌<◌, List, [], ◌∷◌, length, refl, w64}
use seplogic.Ra.Ura.{Ura}
use base.Fraction.{full_share}
use mir.Syntax.{ty_int, ty_ptr, ty_struct}
use mir.Val.{Val, vint}
use base.Logic.{ent}
use base.Stored.{Gv}
use base.Fml.{Lft, GName, Share, Fml, fsep, fat, flft, fobs, fauth, fbor, fobor, fleft}
use types.Logic.{Logic, sem}
use types.Kit.{Goal, Soaks, Step, step, Seq, Item, ‵, ◌⊛◌, given, some, ◌$◌, ◌∵◌, !, qed, move, use1, use2, split, pick, learn, rewrite, fsplit, fjoin, fpick, fpack, feq_l, feq_i, drop, done}
use types.Mut.{open_ref, close_ref}
use types.SemTy.{Body}
use types.Run.{well_typed}
use denote.RattleType.{RattleType}
use denote.Memory.{lone, cell_at, part_at, part_of, mem}
use denote.Builtin.{u32, u64}
use denote.Array.{Array}
use denote.Plain.{Boolean, uint_out, uint_in}
use denote.RawPtr.{Ptr, RawPtr, ptr_val}
use denote.Steps.{nothing}
use denote.Model.Fields.{plain_out, Plain-in, view_made}
use denote.Struct.Laws.{lawfuls}
use denote.Struct.Members.{Member, rows_of, parts_at, raw_tys, Lones, lawful_Lones}
use denote.Struct.Parts.{Struct-left, left_Struct}
use denote.Struct.Struct.{Struct}
use denote.Struct.Owning.{shape, to, fields}
use denote.Struct.OwningLaws.{part_out, part_in}
use Rattle.std.specs.contracts.alloc.Global as heap
use Rattle.heap.specs.Sizes.{block_count}
use Rattle.heap.specs.Owned.{owned}
use Rattle.heap.specs.Kept.{Kept}
use Rattle.heap.specs.State.{State}
use Rattle.heap.specs.declared.Heap.{the_code}
use Rattle.heap.specs.declared.Heap.TheInside.{Inside}
use Rattle.heap.specs.declared.Heap.TheView.{view, invariant}
use Rattle.heap.specs.contracts.Heap as T
use Rattle.heap.specs.contracts.Heap.TheInside as I
use Rattle.heap.proofs.Heap.TheLaws as T'
use Rattle.heap.proofs.Heap.TheInside.TheLaws as I'
use Rattle.heap.proofs.Elements.{array_length}

abbrev members_of : List RattleType → List Member
members_of [] = []
members_of (R ∷ Rs) = record { row = R; ty = lone R.mir } ∷ members_of Rs

abbrev ms : List Member
ms = members_of (fields I.the_type)

-- ---- where each field lies in the struct, in bytes
abbrev pub left_at : ℕ
left_at = 8 * block_count

abbrev pub top_at : ℕ
top_at = left_at + 8

abbrev pub failed_at : ℕ
failed_at = top_at + 8

abbrev pub free_at : ℕ
free_at = failed_at + 4

-- after 4 bytes that lie unused, since it is aligned to 8
abbrev pub spare_at : ℕ
spare_at = free_at + 4 * block_count + 4

abbrev pub alloc_at : ℕ
alloc_at = spare_at + 8

-- ---- the struct in memory, but for the pointers, the free list and its length, which the walks reach
abbrev pub Rest : Inside → ℕ → ℕ → Fml
Rest h b o = fsep (part_at u64 full_share h.left b (o + left_at)) (fsep (part_at u64 full_share h.top b (o + top_at)) (fsep (part_at Boolean full_share h.failed b (o + failed_at))
    (fsep (part_at heap.the_row full_share h.alloc b (o + alloc_at)) (fleft full_share (ty_struct [] (raw_tys ms)) (raw_tys ms) b o))))

-- ---- a pointer's cell
module _ {M : Type 1} {𝓤 : Ura M} (𝓛 : Logic 𝓤) where
  open 𝓛 use {H}

  pub ptr_out : (p : Ptr) (b o : ℕ) → ent 𝓤 (sem 𝓛 (part_at RawPtr full_share p b o)) (H.at full_share ty_ptr b o (ptr_val p))
  unfolding part_of
  ptr_out p b o = qed 𝓛 (‵ (part_at RawPtr full_share p b o) ∷ []) ∵ fpick ! (λ vs. fsplit ! $ move ! (1 ∷ []) $ feq_l ! (λ e.
      rewrite ! 0 (λ (us : List Val). ‵ (cell_at full_share (ty_ptr ∷ []) us b o)) e refl $ done !))

  pub ptr_in : (p : Ptr) (b o : ℕ) → ent 𝓤 (H.at full_share ty_ptr b o (ptr_val p)) (sem 𝓛 (part_at RawPtr full_share p b o))
  unfolding part_of
  ptr_in p b o = qed 𝓛 (‵ (fat full_share ty_ptr b o (ptr_val p)) ∷ []) ∵ feq_i ! (List Val) (ptr_val p ∷ []) (ptr_val p ∷ []) refl $ move ! (1 ∷ 0 ∷ []) $ fjoin ! $
      fpack ! (List Val) (λ vs. fsep (cell_at full_share (ty_ptr ∷ []) vs b o) (RawPtr.own_val p vs)) (ptr_val p ∷ []) $ done !

  abbrev pub lones : Lones (rows_of ms)
  lones = lawful_Lones 𝓛 ms (lawfuls 𝓛 (I.the_type).parts I'.the_laws)

module _ {M : Type 1} {𝓤 : Ura M} {𝓛 : Logic 𝓤} {K : Type 0} {Γ : List (Item 𝓤)} {G : Goal 𝓤 𝓛.H} where
  -- [0 the pointers; 1 what is owned; 2 the free list; 3 spare; 4 the rest; 5 the open borrow; 6 obs; 7 auth]
  pub heap_opens : K → Soaks G → {κ : Lft} {q : Share} {γ : GName} (s : State) (rb ro : ℕ)
      → ((h : Inside) → view h ≡ s → Kept h.words h.free h.spare → length h.at ≡ block_count → length h.free ≡ block_count → h.spare < 2 ^ 64
      → Seq K 𝓛 (‵ (part_at (Array RawPtr block_count) full_share h.at rb (ro + 0)) ∷ ‵ (owned h.at h.words)
      ∷ ‵ (part_at (Array u32 block_count) full_share h.free rb (ro + free_at)) ∷ ‵ (fat full_share (ty_int w64) rb (ro + spare_at) (vint w64 h.spare)) ∷ ‵ (Rest h rb ro)
      ∷ ‵ (fobor κ q (Body (mem T.the_row) rb ro γ)) ∷ ‵ (fobs γ ((T.the_row).coded.code s)) ∷ ‵ (fauth γ ((T.the_row).coded.code s)) ∷ Γ) G)
      → Seq K 𝓛 (‵ (fobs γ ((T.the_row).coded.code s)) ∷ ‵ (fbor κ (Body (mem T.the_row) rb ro γ)) ∷ ‵ (flft κ q) ∷ Γ) G
  unfolding part_of
  heap_opens t z s rb ro k =
      open_ref t z (mem T.the_row) {x = s} {b = rb} {o = ro} $
      use1 𝓛 (some (λ (a : (a : Inside) × (T'.the_opens).Known s a). ‵ (part_at I.the_row full_share a.0 rb ro))) (plain_out T.the_row I.the_row T'.the_opens 𝓛 full_share s rb ro) $ pick t (λ a.
      let h : Inside = a.0 in
      use1 𝓛 (‵ (part_at (Struct (shape I.the_type)) full_share (to I.the_type h) rb ro) ⊛ ‵ (owned h.at h.words)) (part_out 𝓛 I.the_type full_share h rb ro) $ split t $
      use1 𝓛 (‵ (parts_at full_share ms zero (to I.the_type h) rb ro) ⊛ ‵ (fleft full_share (ty_struct [] (raw_tys ms)) (raw_tys ms) rb ro)) (Struct-left 𝓛 full_share (I.the_type).name ms (lones 𝓛) (to I.the_type h) rb ro) $ split t $
      -- [the fields; what is left of the struct; what is owned]
      fsplit t $ use1 𝓛 (given (length h.at ≡ block_count) (‵ (part_at (Array RawPtr block_count) full_share h.at rb (ro + 0)))) (array_length 𝓛 RawPtr tt block_count h.at rb (ro + 0)) $ learn t (λ la. move t (1 ∷ []) $
      fsplit t $ move t (1 ∷ []) $ fsplit t $ move t (1 ∷ []) $ fsplit t $ move t (1 ∷ []) $
      -- [free and on; failed; top; left; the pointers; ..]
      fsplit t $ use1 𝓛 (given (length h.free ≡ block_count) (‵ (part_at (Array u32 block_count) full_share h.free rb (ro + free_at)))) (array_length 𝓛 u32 tt block_count h.free rb (ro + free_at)) $ learn t (λ lf. move t (1 ∷ []) $
      fsplit t $ use1 𝓛 (‵ (fat full_share (ty_int w64) rb (ro + spare_at) (vint w64 h.spare))) (uint_out 𝓛 full_share w64 h.spare rb (ro + spare_at)) $ well_typed t (λ fs. move t (1 ∷ []) $
      fsplit t $ move t (1 ∷ []) $ drop t $
      -- [alloc; spare; free; failed; top; left; the pointers; what is left of the struct; what is owned]
      move t (0 ∷ 7 ∷ []) $ fjoin t $ move t (3 ∷ 0 ∷ []) $ fjoin t $ move t (3 ∷ 0 ∷ []) $ fjoin t $ move t (3 ∷ 0 ∷ []) $ fjoin t $
      -- [the rest; spare; free; the pointers; what is owned]
      move t (3 ∷ 4 ∷ 2 ∷ 1 ∷ 0 ∷ []) $ k h a.1.0 a.1.1 la lf fs.1.fits))))

  pub heap_made : K → (h : Inside) → Kept h.words h.free h.spare → (rb ro : ℕ)
      → Step K 𝓛 (‵ (part_at T.the_row full_share (view h) rb ro) ∷ Γ) G
      (‵ (part_at (Array RawPtr block_count) full_share h.at rb (ro + 0)) ∷ ‵ (owned h.at h.words)
      ∷ ‵ (part_at (Array u32 block_count) full_share h.free rb (ro + free_at)) ∷ ‵ (fat full_share (ty_int w64) rb (ro + spare_at) (vint w64 h.spare)) ∷ ‵ (Rest h rb ro) ∷ Γ) G
  unfolding part_of
  heap_made t h kept rb ro = step (λ rest.
      move t (4 ∷ []) $ fsplit t $ move t (1 ∷ []) $ fsplit t $ move t (1 ∷ []) $ fsplit t $ move t (1 ∷ []) $ fsplit t $
      -- [alloc; what is left of the struct; failed; top; left; the pointers; what is owned; free; spare]
      nothing t $ move t (1 ∷ 0 ∷ []) $ fjoin t $
      move t (8 ∷ []) $ use1 𝓛 (‵ (part_at u64 full_share h.spare rb (ro + spare_at))) (uint_in 𝓛 full_share w64 h.spare rb (ro + spare_at)) $ move t (0 ∷ 1 ∷ []) $ fjoin t $
      move t (7 ∷ 0 ∷ []) $ fjoin t $ move t (2 ∷ 0 ∷ []) $ fjoin t $ move t (2 ∷ 0 ∷ []) $ fjoin t $ move t (2 ∷ 0 ∷ []) $ fjoin t $ move t (2 ∷ 0 ∷ []) $ fjoin t $
      use2 𝓛 (‵ (part_at (Struct (shape I.the_type)) full_share (to I.the_type h) rb ro)) (left_Struct 𝓛 full_share (I.the_type).name ms (to I.the_type h) rb ro) $
      use2 𝓛 (‵ (part_at I.the_row full_share h rb ro)) (part_in 𝓛 I.the_type full_share h rb ro) $
      use1 𝓛 (‵ (part_at T.the_row full_share (view h) rb ro)) (Plain-in T.the_row I.the_row T'.the_opens 𝓛 full_share (view h) h (view_made I.the_row State the_code view invariant 𝓛 (view h) h (refl, kept)) rb ro) $ rest)

module _ {M : Type 1} {𝓤 : Ura M} {𝓛 : Logic 𝓤} {K : Type 0} {Γ : List (Item 𝓤)} {G : Goal 𝓤 𝓛.H} where
  pub heap_closes : K → Soaks G → {κ : Lft} {q : Share} {u v : Gv} {γ : GName} (h : Inside) → Kept h.words h.free h.spare → (rb ro : ℕ)
      → Step K 𝓛 (‵ (fobs γ ((T.the_row).coded.code (view h))) ∷ ‵ (fbor κ (Body (mem T.the_row) rb ro γ)) ∷ ‵ (flft κ q) ∷ Γ) G
      (‵ (part_at (Array RawPtr block_count) full_share h.at rb (ro + 0)) ∷ ‵ (owned h.at h.words)
      ∷ ‵ (part_at (Array u32 block_count) full_share h.free rb (ro + free_at)) ∷ ‵ (fat full_share (ty_int w64) rb (ro + spare_at) (vint w64 h.spare)) ∷ ‵ (Rest h rb ro)
      ∷ ‵ (fobor κ q (Body (mem T.the_row) rb ro γ)) ∷ ‵ (fobs γ u) ∷ ‵ (fauth γ v) ∷ Γ) G
  unfolding part_of
  heap_closes t z h kept rb ro = step (λ rest. heap_made t h kept rb ro $ close_ref t z (mem T.the_row) (view h) {b = rb} {o = ro} $ rest)
