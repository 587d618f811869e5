-- `hold` keeps a block's pointer, under the number on top of the free list. Assumes `Logic`.
use Rattle.std.proofs.Common.{◌≡◌, ℕ, ◌+◌, ◌-◌, sym, subst, ◌*◌, ◌^◌, ◌<◌, List, [], ◌∷◌, ◌++◌, length, get_or, set, refl, ap, ◌∙◌, arith, w32}
use Rattle.std.proofs.raw_atomic.Walks.{proved_at}
use base.Fraction.{full_share}
use base.Fml.{ftrue, fat, flft}
use base.Logic.{emp, id⊢, fst∗, never}
use base.Share as share
use mir.Syntax.{named, ty_int}
use mir.Val.{Val, vint}
use prog.Wp.{WpFn}
use types.Logic.{sem}
use contract.BorrowLft.{◌⊑◌, ⊑_static}
use contract.Monad.{fact, fact_i}
use contract.Running.{tables}
use lib.Seq.{set-get_or}
use types.Kit.{‵, raw, ◌⊛◌, given, prop, some, later, ◌$◌, ◌∵◌, !, qed, move, keep, drop, use0, use1, use2, rewrite, learn, split, join, regoal, fsplit, fsplit3, fjoin, feq_l, pick, await, suffices, frame, group, done}
use types.Run.{enter, of_opd, lit, un, bin, addr, load, look, store, stop, fld, assigns, no_more, and_then, returns}
use types.Tokens.{lft_new}
use types.ByLocal.{alloc_all, pass_all, free_all, look_at, get, through, sets, lands_as}
use denote.Exit.{yes}
use denote.Memory.{part_at, shares}
use denote.Array.{Array}
use denote.Builtin.{u32, u64}
use denote.Plain.{uint_out, uint_in, uint_Makes}
use denote.Index.{others}
use denote.RawPtr.{Ptr, RawPtr, ptr_val, null_ptr, block_ptr, in_a_block}
use denote.Ref.{MutRef, mut_Tells}
use denote.Signature.{plain}
use denote.Steps.{owned as owns_it, nothing, heard, only}
use denote.Param.NoDrop.{glues}
use denote.Triple.Call.{calls_at}
use denote.Triple.Clauses.{Lasts, lasts}
use denote.Triple.Spec.{triple_of}
use denote.Triple.Table.{framed}
use denote.Triple.Walked.{Stays, walk_of, stay_dropped, stay_ref, Goes-ref, ends_at}
use Rattle.std.proofs.alloc.Calls.{Goes-blank}
use Rattle.std.proofs.BoxSteps.Form as box
use Rattle.std.proofs.BoxSteps.Steps.{box_out, box_in}
use Rattle.std.specs.Box.Ownership.{box_owns}
use Rattle.std.specs.contracts.impls.GlobalAllocator.TheImpl.{ghosts, dict}
use Rattle.std.proofs.impls.GlobalAllocator.TheImpl.Met.{passed}
use Rattle.std.specs.contracts.boxed.Box.into_raw as callee
use Rattle.std.proofs.boxed.Box.into_raw.Met.{met}
use Rattle.heap.specs.Sizes.{block_words, block_count}
use Rattle.heap.specs.Owned.{token, held}
use Rattle.heap.specs.State.{State}
use Rattle.heap.specs.declared.Heap.TheInside.{Inside}
use Rattle.heap.specs.declared.Heap.TheView.{view}
use Rattle.heap.specs.contracts.Heap.{the_row as R}
use Rattle.heap.specs.contracts.Heap.hold as f
use Rattle.heap.proofs.Destruct++none.drop.Code as dropped
use Rattle.heap.proofs.BlockBox.{Words, words_laws, Handle, handle_laws, no_drop, E}
use Rattle.heap.proofs.Elements.{array_length, take_out, put_in}
use Rattle.heap.proofs.Facts.{says_three}
use Rattle.heap.proofs.Turns.{obtained_below, obtained_list, obtained_unheld, obtained_keeps}
use Rattle.heap.proofs.OpenHeap.{free_at, heap_opens, heap_closes}
use Rattle.heap.proofs.OneBlock.{slot_out, slot_in}
use Rattle.heap.proofs.Heap.hold.Statement.{statement}
use Rattle.heap.proofs.Heap.hold.Code as code

abbrev stayed : Stays f.ended.signature.params f.ended.kept
stayed = (stay_ref (0 ∷ []) tt (plain (λ _. R)), (stay_dropped _ yes, tt))

pub hold_spec : {M : Type 1} → statement M
unfolding dropped.code
hold_spec 𝓤 𝓛 𝓜 𝓡 wired =
    let c = f.clauses 𝓛 𝓜.mem 𝓡.returns in let W = walk_of 𝓛 f.ended stayed c in let 𝓣 = tables 𝓤 𝓛.H 𝓜 𝓡 𝓡.env in
    proved_at 𝓛 f.ended stayed c 𝓜 𝓡 (Goes-ref 𝓛 1 0 tt (plain (λ _. R)), (Goes-blank 𝓛 1 (plain (λ _. box.B E)) yes (λ κs x w. tt), tt))
    f.Key.name code.function (code.unfolded 𝓤 𝓛.H 𝓜 𝓡 wired) (λ z are.
    let κ = z.0.0.0 in let q = z.0.1.0 in let a = z.0.3 in let vss = z.0.4 in
    let rb = a.0.ref_ptr.0 in let ro = a.0.ref_ptr.1 in let s = a.0.now in let d = a.1.0 in
    qed 𝓛 (((‵ (flft κ q) ⊛ ‵ ftrue) ⊛ ‵ ((MutRef (named 0) κ R).own_val a.0 vss.0) ⊛ ‵ ((box.B E).own_val d vss.1.0) ⊛ ‵ ftrue) ∷ raw (fact 𝓤 (held s.words < block_count)) ∷ []) ∵
    move ! (1 ∷ []) $ heard ! _ (λ room.
    split ! $ split ! $ move ! (2 ∷ []) $ split ! $ move ! (1 ∷ []) $ split ! $ keep ! (0 ∷ 2 ∷ 3 ∷ []) $
    box_out E ! d vss.1.0 (λ bb oo hv e ws fits.
    use1 𝓛 (given (length d.value ≡ block_words) (‵ (part_at (Array u64 block_words) full_share d.value bb oo))) (array_length 𝓛 u64 tt block_words d.value bb oo) $ learn ! (λ full.
    box_in E ! d bb oo d.value e refl $
    -- [the box; self; the token of its lifetime]
    let w = box.word E hv bb oo in let typed = box.box_typed E hv bb oo fits in
    regoal ! (λ (us : List Val). prop (WpFn 𝓤 𝓛.H 𝓣.C 𝓣.Λ code.function us (W.post z))) (λ i. mut_Tells (named 0) κ R a.0 vss.0 are.0 i ++ (ws i ++ [])) refl $
    enter ! _ _ _ _ _ $
    alloc_all ! (λ l. pass_all ! refl ((tt, tt), (typed, tt)) $
    sets ! (of_opd ! (get ! refl)) refl typed $
    let k = triple_of 𝓛 (callee.signature Words Handle ghosts dict (no_drop Handle) (no_drop Words)) (callee.spec Words Handle ghosts dict (no_drop Handle) (no_drop Words) 𝓛 𝓜.mem 𝓡.returns) in
    lft_new ! tt (λ α.
    let y : k.Ghost = (((α ∷ [], (α ∷ [], tt)), (share.left full_share, (share.right full_share, tt)), tt, (d, tt), (w ∷ [], tt)), tt) in
    use1 𝓛 (‵ (flft (α ∷ []) (share.left full_share)) ⊛ ‵ (flft (α ∷ []) (share.right full_share))) (𝓛.lfts.lft_split (α ∷ []) full_share) $ split ! $
    nothing ! $ move ! (2 ∷ 0 ∷ []) $ join ! $ move ! (1 ∷ 0 ∷ []) $ join ! $ nothing ! $ move ! (2 ∷ 0 ∷ []) $ fjoin ! $ move ! (1 ∷ 0 ∷ []) $ join ! $
    nothing ! $ use0 𝓛 (raw (fact 𝓤 (α ∷ [] ⊑ Handle.lives))) (fact_i 𝓤 (α ∷ [] ⊑ Handle.lives) (emp 𝓤) (⊑_static (α ∷ []))) $ join ! $
    use0 𝓛 (raw (fact 𝓤 (α ∷ [] ⊑ Words.lives))) (fact_i 𝓤 (α ∷ [] ⊑ Words.lives) (emp 𝓤) (⊑_static (α ∷ []))) $ join ! $ move ! (1 ∷ 0 ∷ []) $ join ! $
    use1 𝓛 (raw (k.pre y)) (id⊢ 𝓤 _) $
    calls_at ! (framed 𝓤 𝓛.H 𝓜 𝓣) k (met 𝓤 𝓛 𝓜 𝓡 (code.calls-std_alloc::boxed::Box::into_raw 𝓡.env wired) Words Handle words_laws handle_laws ghosts dict (no_drop Handle) (no_drop Words)
    (passed 𝓡.env (code.calls-std_heap::GlobalAllocator::allocate 𝓡.env wired) (code.calls-std_heap::GlobalAllocator::deallocate 𝓡.env wired) (code.calls-std_heap::GlobalAllocator::grow 𝓡.env wired) (code.calls-std_heap::GlobalAllocator::shrink 𝓡.env wired) _ 𝓤 𝓛 𝓜 𝓡)
    (glues "heap::Destruct++none::drop" 𝓡.env (code.calls-heap::Destruct++none::drop 𝓡.env wired) Handle handle_laws _ 𝓤 𝓛 𝓜 𝓡)
    (glues "heap::Destruct++none::drop" 𝓡.env (code.calls-heap::Destruct++none::drop 𝓡.env wired) Words words_laws _ 𝓤 𝓛 𝓜 𝓡)) y
    (and_then ! (get ! refl) (no_more !)) (λ v.
    let T = callee.ended Words Handle ghosts dict (no_drop Handle) (no_drop Words) in
    use1 𝓛 (later (some (λ (r : Ptr). ((‵ (flft (α ∷ []) (share.left full_share)) ⊛ ‵ (flft (α ∷ []) (share.right full_share)) ⊛ ‵ ftrue) ⊛ ‵ (RawPtr.own_val r (v ∷ []))) ⊛
    some (λ (ls : Lasts T y.0.0 y.0.3). ‵ (lasts T y.0.0 y.0.3 ls) ⊛ ‵ (box_owns (ghosts.dealloc_token d.alloc) (box.R E) r d.value))))) (id⊢ 𝓤 _) $
    await ! tt $ pick ! (λ r. split ! $ move ! (1 ∷ []) $ pick ! (λ ls. split ! $ drop ! $ move ! (1 ∷ []) $ split ! $ drop ! $ feq_l ! (λ is.
    in_a_block ! r (λ p. box_owns (ghosts.dealloc_token d.alloc) (box.R E) p d.value) (fst∗ 𝓤 (never 𝓤) (sem 𝓛 (token null_ptr))) (λ pb po at. fsplit ! $
    -- [the words; the right to free them; self; the token of its lifetime]
    lands_as ! (ap only is ∙ ap ptr_val at) refl (tt, tt) $
    move ! (2 ∷ []) $ fsplit3 ! $ move ! (1 ∷ 2 ∷ 5 ∷ []) $
    heap_opens ! tt s rb ro (λ h seen kept la lf fs.
    let k : ℕ = h.spare - 1 in let b : ℕ = get_or h.free k 0 in
    let room' : held h.words < block_count = subst (λ (t : State). held t.words < block_count) (sym seen) room in
    let pos : 0 < h.spare = omega (arith, room', kept.counts) in
    let bl : b < block_count = obtained_below h.words h.free h.spare kept pos d.value full in
    let kl : k < block_count = obtained_list h.words h.free h.spare kept pos d.value full in
    let fk : k < 2 ^ 64 = omega (arith, kl) in let fk4 : k * 4 < 2 ^ 64 = omega (arith, kl) in
    let fb' : b < 2 ^ 32 = omega (arith, bl) in let fb : b < 2 ^ 64 = omega (arith, bl) in let fb8 : b * 8 < 2 ^ 64 = omega (arith, bl) in
    let some' : 0 < length d.value = omega (arith, full) in
    slot_out ! h.at h.words b rb (ro + 0) bl la $
    move ! (3 ∷ []) $ use1 𝓛 (given (length h.free ≡ block_count) (‵ (part_at u32 full_share b rb (k * 4 + (ro + free_at))) ⊛ ‵ (others (shares u32) full_share h.free k rb (ro + free_at)))) (take_out 𝓛 u32 tt block_count h.free k 0 rb (ro + free_at) kl) $ learn ! (λ lf'. split ! $
    use1 𝓛 (‵ (fat full_share (ty_int w32) rb (k * 4 + (ro + free_at)) (vint w32 b))) (uint_out 𝓛 full_share w32 b rb (k * 4 + (ro + free_at))) $
    -- [the number; the others of the list; the pointer; the other pointers; the other blocks; spare; the rest; the open borrow, in three entries; self's first part; the words; the right to free them]
    sets ! (of_opd ! (load ! (through ! refl (fld ! refl (stop !))) (look ! 5 refl))) refl (tt, record { fits = fs }) $
    sets ! (bin ! (get ! refl) (lit ! tt) pos) refl (tt, record { fits = fk }) $
    sets ! (bin ! (get ! refl) (lit ! tt) (record { fits = fk4 })) refl (tt, record { fits = fk4 }) $
    sets ! (addr ! (through ! refl (fld ! refl (stop !)))) refl (tt, tt) $
    sets ! (bin ! (get ! refl) (get ! refl) tt) refl (tt, tt) $
    sets ! (of_opd ! (load ! (through ! refl (stop !)) (look ! 0 refl))) refl (tt, record { fits = fb' }) $
    sets ! (of_opd ! (get ! refl)) refl (tt, record { fits = fb' }) $
    assigns ! (of_opd ! (get ! refl)) (through ! refl (fld ! refl (stop !))) (store ! 5 refl (tt, record { fits = fk })) $
    sets ! (un ! (get ! refl) (record { fits = fb })) refl (tt, record { fits = fb }) $
    sets ! (bin ! (get ! refl) (lit ! tt) (record { fits = fb8 })) refl (tt, record { fits = fb8 }) $
    sets ! (addr ! (through ! refl (fld ! refl (stop !)))) refl (tt, tt) $
    sets ! (bin ! (get ! refl) (get ! refl) tt) refl (tt, tt) $
    assigns ! (of_opd ! (get ! refl)) (through ! refl (stop !)) (store ! 2 refl (tt, tt)) $
    sets ! (of_opd ! (get ! refl)) refl (tt, record { fits = fb' }) $
    use1 𝓛 (‵ (part_at u32 full_share b rb (k * 4 + (ro + free_at)))) (uint_in 𝓛 full_share w32 b rb (k * 4 + (ro + free_at))) $
    use2 𝓛 (‵ (part_at (Array u32 block_count) full_share (set h.free k b) rb (ro + free_at))) (put_in 𝓛 u32 tt block_count h.free k b rb (ro + free_at) kl lf') $
    rewrite ! 0 (λ (xs : List ℕ). ‵ (part_at (Array u32 block_count) full_share xs rb (ro + free_at))) (set-get_or h.free k 0) refl $
    move ! (1 ∷ 2 ∷ 3 ∷ 10 ∷ 11 ∷ []) $ slot_in ! h.at h.words b rb (ro + 0) pb po d.value bl la some' $
    let keeps = obtained_keeps h.words h.free h.spare kept pos d.value full in
    let h' : Inside = record h { at = set h.at b (block_ptr pb po); spare = k; words = set h.words b d.value } in
    heap_closes ! tt h' keeps rb ro $
    returns ! (look_at ! 0 refl) $ free_all ! refl $
    -- [two parts of self; the token; self's first part]
    move ! (3 ∷ []) $
    suffices ! _ (ends_at 𝓛 f.ended stayed c z (vint w32 b) b (view h', (tt, tt)) (tt, (tt, tt))) $
    says_three ! bl (subst (λ (t : State). length (get_or t.words b []) ≡ 0) seen (obtained_unheld h.words h.free h.spare kept pos d.value full))
    (subst (λ (t : State). view h' ≡ record t { words = set t.words b d.value }) seen refl) $
    group ! 3 $ nothing ! $ nothing ! $ join ! $ move ! (1 ∷ 0 ∷ []) $ join ! $ nothing ! $ move ! (2 ∷ 0 ∷ []) $ join ! $ frame ! $ frame ! $
    owns_it ! u32 _ (uint_Makes 𝓛 w32) b _ (refl, fb') $ done !)))))))))))))
