-- While a block is lent: what else there is of the heap, which has the block back with any words. Assumes `Logic`.
use Rattle.std.proofs.Common.{◌≡◌, ℕ, ◌+◌, ◌*◌, ◌<◌, List, [], ◌∷◌, length, get_or, set, sym, refl, ◌∙◌, arith, w64}
use seplogic.Ra.Ura.{Ura}
use base.Fraction.{full_share}
use base.Logic.{ent, sep}
use base.Fml.{Fml, fsep, fat}
use mir.Syntax.{ty_int, ty_ptr}
use mir.Val.{vint, vptr}
use types.Logic.{Logic, sem}
use types.Kit.{‵, given, ◌$◌, ◌∵◌, !, qed, move, use1, learn, rewrite, fsplit, done}
use denote.Memory.{part_at, part_of, shares, mem}
use denote.Array.{Array}
use denote.Builtin.{u32, u64}
use denote.Index.{others}
use denote.RawPtr.{RawPtr, block_ptr, null_ptr}
use Rattle.heap.specs.Sizes.{block_words, block_count}
use Rattle.heap.specs.Kept.{Kept}
use Rattle.heap.specs.Owned.{token}
use Rattle.heap.specs.State.{State, with_block}
use Rattle.heap.specs.contracts.Heap.{the_row as R}
use Rattle.heap.specs.declared.Heap.TheInside.{Inside}
use Rattle.heap.specs.declared.Heap.TheView.{view}
use Rattle.heap.proofs.Elements.{array_length}
use Rattle.heap.proofs.Focus.{without}
use Rattle.heap.proofs.OneBlock.{block_in}
use Rattle.heap.proofs.OpenHeap.{free_at, spare_at, Rest, heap_made}
use Rattle.heap.proofs.Turns.{changed_keeps}

module _ (h : Inside) (b rb ro bb oo : ℕ) where
  -- the pointer; the other pointers; the right to free the block; the other blocks; the other fields
  abbrev pub Else : Fml
  Else = fsep (fat full_share ty_ptr rb (b * 8 + (ro + 0)) (vptr bb oo)) (fsep (others (shares RawPtr) full_share h.at b rb (ro + 0)) (fsep (token (block_ptr bb oo)) (fsep (without h.at h.words b)
      (fsep (part_at (Array u32 block_count) full_share h.free rb (ro + free_at)) (fsep (fat full_share (ty_int w64) rb (ro + spare_at) (vint w64 h.spare)) (Rest h rb ro))))))

  module _ {M : Type 1} {𝓤 : Ura M} (𝓛 : Logic 𝓤) (s : State) (seen : view h ≡ s) (kept : Kept h.words h.free h.spare) (full : length (get_or h.words b []) ≡ block_words)
      (la : length h.at ≡ block_count) (lt : b < block_count) (e : get_or h.at b null_ptr ≡ block_ptr bb oo) where
    pub back : (w : List ℕ) → ent 𝓤 (sep 𝓤 (sem 𝓛 ((mem (Array u64 block_words)).own_at w bb oo)) (sem 𝓛 Else)) (sem 𝓛 ((mem R).own_at (with_block s b w) rb ro))
    unfolding part_of
    back w =
        qed 𝓛 (‵ (part_at (Array u64 block_words) full_share w bb oo) ∷ ‵ Else ∷ []) ∵
        use1 𝓛 (given (length w ≡ block_words) (‵ (part_at (Array u64 block_words) full_share w bb oo))) (array_length 𝓛 u64 tt block_words w bb oo) $ learn ! (λ long.
        let some : 0 < length w = omega (arith, long) in
        move ! (1 ∷ []) $ fsplit ! $ move ! (1 ∷ []) $ fsplit ! $ move ! (1 ∷ []) $ fsplit ! $ move ! (1 ∷ []) $ fsplit ! $ move ! (1 ∷ []) $ fsplit ! $ move ! (1 ∷ []) $ fsplit ! $
        -- [spare; the rest; the free list; the other blocks; the right to free it; the other pointers; the pointer; the words]
        move ! (6 ∷ 5 ∷ 7 ∷ 4 ∷ 3 ∷ 2 ∷ 0 ∷ 1 ∷ []) $ block_in ! h.at h.words b rb (ro + 0) bb oo w lt la e some $
        heap_made ! (record h { words = set h.words b w }) (changed_keeps h.words h.free h.spare kept b w (long ∙ sym full)) rb ro $
        rewrite ! 0 (λ (t : State). ‵ (part_at R full_share (with_block t b w) rb ro)) seen refl $ done !)
