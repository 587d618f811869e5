-- `let_go` gives a block away, and puts its number on the free list. Assumes `Logic`.
use Rattle.std.proofs.Common.{◌≡◌, ℕ, ◌+◌, ◌*◌, ◌^◌, ◌<◌, List, [], ◌∷◌, ◌++◌, length, get_or, set, T, sym, subst, refl, ap, arith, w32}
use Rattle.std.proofs.raw_atomic.Walks.{proved_at}
use base.Fraction.{full_share}
use base.Fml.{ftrue, fat, flft}
use base.Logic.{emp, id⊢}
use base.Share as share
use mir.Syntax.{named, ty_int}
use mir.Val.{Val, vint, vptr, has_ty, WT}
use prog.Wp.{WpFn}
use contract.BorrowLft.{◌⊑◌, ⊑_static}
use contract.Monad.{fact, fact_i}
use contract.Running.{tables}
use types.Kit.{‵, raw, ◌⊛◌, given, learn, use2, prop, some, later, at_ret, ◌$◌, ◌∵◌, !, qed, move, keep, drop, use0, use1, rewrite, split, split3, join, regoal, fsplit3, fjoin, feq_i, pick, await, suffices, frame, group, done}
use types.Run.{enter, of_opd, lit, un, bin, addr, load, look, store, stop, fld, assigns, first, blocks, exec, no_more, and_then, returns}
use types.Tokens.{lft_new}
use types.ByLocal.{alloc_all, pass_all, free_all, look_at, get, through, sets, lands_last, env}
use denote.Exit.{yes}
use denote.Builtin.{u32}
use denote.Array.{Array}
use denote.Index.{others}
use denote.Memory.{part_at, shares}
use denote.Plain.{uint_Tells, uint_out, uint_in}
use denote.RawPtr.{block_ptr}
use denote.Ref.{MutRef, mut_Tells}
use denote.Signature.{plain}
use denote.Steps.{nothing, heard, only}
use denote.Param.NoDrop.{glues}
use denote.Triple.Call.{calls_at_last}
use denote.Triple.Clauses.{Lasts, lasts}
use denote.Triple.Spec.{triple_of}
use denote.Triple.Table.{framed}
use denote.Triple.Walked.{Stays, walk_of, stay_dropped, Goes-dropped, stay_ref, Goes-ref, ends_at}
use Rattle.std.proofs.alloc.Calls.{Goes-blank, handle_tells}
use Rattle.std.specs.contracts.alloc.Global as heap
use Rattle.std.proofs.VecSteps.Shapes.{after}
use Rattle.std.proofs.BoxSteps.Form as box
use Rattle.std.proofs.BoxSteps.Steps.{box_out, box_in}
use Rattle.std.specs.contracts.impls.GlobalAllocator.TheImpl.{ghosts, dict}
use Rattle.std.proofs.impls.GlobalAllocator.TheImpl.Met.{passed}
use Rattle.std.specs.contracts.boxed.Box.from_raw as callee
use Rattle.std.proofs.boxed.Box.from_raw.Met.{met}
use Rattle.heap.specs.Sizes.{block_words, block_count}
use Rattle.heap.specs.State.{State}
use Rattle.heap.specs.declared.Heap.TheInside.{Inside}
use Rattle.heap.specs.declared.Heap.TheView.{view}
use Rattle.heap.specs.contracts.Heap.{the_row as R}
use Rattle.heap.specs.contracts.Heap.let_go as f
use Rattle.heap.proofs.Destruct++none.drop.Code as dropped
use Rattle.heap.proofs.BlockBox.{Words, words_laws, Handle, handle_laws, no_drop, E}
use Rattle.heap.proofs.Facts.{says_two}
use Rattle.heap.proofs.Elements.{take_out, put_in}
use Rattle.heap.proofs.Turns.{released_below, released_room, released_keeps}
use Rattle.heap.proofs.OpenHeap.{free_at, heap_opens, heap_closes}
use Rattle.heap.proofs.OneBlock.{block_out, block_gone}
use Rattle.heap.proofs.Heap.let_go.Statement.{statement}
use Rattle.heap.proofs.Heap.let_go.Code as code

abbrev stayed : Stays f.ended.signature.params f.ended.kept
stayed = (stay_ref (0 ∷ []) tt (plain (λ _. R)), (stay_dropped _ yes, (stay_dropped _ yes, tt)))

pub let_go_spec : {M : Type 1} → statement M
unfolding dropped.code
let_go_spec 𝓤 𝓛 𝓜 𝓡 wired =
    let c = f.clauses 𝓛 𝓜.mem 𝓡.returns in let W = walk_of 𝓛 f.ended stayed c in let 𝓣 = tables 𝓤 𝓛.H 𝓜 𝓡 𝓡.env in
    proved_at 𝓛 f.ended stayed c 𝓜 𝓡 (Goes-ref 𝓛 1 0 tt (plain (λ _. R)), (Goes-blank 𝓛 1 (plain (λ _. heap.the_row)) yes (λ κs x w. tt), (Goes-dropped 𝓛 1 (plain (λ _. u32)) yes (λ κs x w. refl), tt)))
    f.Key.name code.function (code.unfolded 𝓤 𝓛.H 𝓜 𝓡 wired) (λ z are.
    let κ = z.0.0.0 in let q = z.0.1.0 in let a = z.0.3 in let vss = z.0.4 in
    let rb = a.0.ref_ptr.0 in let ro = a.0.ref_ptr.1 in let s = a.0.now in let alloc = a.1.0 in let b = a.1.1.0 in
    qed 𝓛 (((‵ (flft κ q) ⊛ ‵ ftrue) ⊛ ‵ ((MutRef (named 0) κ R).own_val a.0 vss.0) ⊛ ‵ (Handle.own_val alloc vss.1.0) ⊛ ‵ (u32.own_val b vss.1.1.0) ⊛ ‵ ftrue) ∷ raw (fact 𝓤 (length (get_or s.words b []) ≡ block_words)) ∷ []) ∵
    move ! (1 ∷ []) $ heard ! _ (λ full₀.
    split ! $ split ! $ move ! (2 ∷ []) $ split ! $ move ! (1 ∷ []) $ split ! $ keep ! (0 ∷ 2 ∷ 3 ∷ []) $
    handle_tells E.al ! alloc vss.1.0 (λ hv eh fits.
    regoal ! (λ (us : List Val). prop (WpFn 𝓤 𝓛.H 𝓣.C 𝓣.Λ code.function us (W.post z))) (λ i. mut_Tells (named 0) κ R a.0 vss.0 are.0 i ++ (eh i ++ (uint_Tells w32 b vss.1.1.0 are.1.1.0 i ++ []))) refl $
    enter ! _ _ _ _ _ $
    alloc_all ! (λ l. pass_all ! refl ((tt, tt), (fits, ((tt, record { fits = are.1.1.0.1 }), tt))) $
    move ! (1 ∷ []) $ fsplit3 ! $ move ! (1 ∷ 2 ∷ 4 ∷ []) $
    -- [self's first part; the handle]
    heap_opens ! tt s rb ro (λ h seen kept la lf fs.
    let ws : List ℕ = get_or h.words b [] in let k : ℕ = h.spare in
    let full : length ws ≡ block_words = subst (λ (t : State). length (get_or t.words b []) ≡ block_words) (sym seen) full₀ in
    let used : 0 < length ws = omega (arith, full) in
    let bl : b < block_count = released_below h.words h.free k kept b full in
    let kl : k < block_count = released_room h.words h.free k kept b full in
    let fk4 : k * 4 < 2 ^ 64 = omega (arith, kl) in let fk1 : k + 1 < 2 ^ 64 = omega (arith, kl) in
    let fb : b < 2 ^ 64 = omega (arith, bl) in let fb8 : b * 8 < 2 ^ 64 = omega (arith, bl) in
    block_out ! h.at h.words b rb (ro + 0) bl la used (λ bb oo e.
    move ! (5 ∷ []) $ use1 𝓛 (given (length h.free ≡ block_count) (‵ (part_at u32 full_share (get_or h.free k 0) rb (k * 4 + (ro + free_at))) ⊛ ‵ (others (shares u32) full_share h.free k rb (ro + free_at)))) (take_out 𝓛 u32 tt block_count h.free k 0 rb (ro + free_at) kl) $ learn ! (λ lf'. split ! $
    use1 𝓛 (‵ (fat full_share (ty_int w32) rb (k * 4 + (ro + free_at)) (vint w32 (get_or h.free k 0)))) (uint_out 𝓛 full_share w32 (get_or h.free k 0) rb (k * 4 + (ro + free_at))) $
    -- [the place above the free list; the others of the list; the pointer; the other pointers; the words; the right to free them; the other blocks; spare; the rest; the open borrow, in three entries; ..]
    sets ! (un ! (get ! refl) (record { fits = fb })) refl (tt, record { fits = fb }) $
    sets ! (bin ! (get ! refl) (lit ! tt) (record { fits = fb8 })) refl (tt, record { fits = fb8 }) $
    sets ! (addr ! (through ! refl (fld ! refl (stop !)))) refl (tt, tt) $
    sets ! (bin ! (get ! refl) (get ! refl) tt) refl (tt, tt) $
    sets ! (of_opd ! (load ! (through ! refl (stop !)) (look ! 2 refl))) refl (tt, tt) $
    sets ! (of_opd ! (get ! refl)) refl (tt, tt) $
    sets ! (of_opd ! (load ! (through ! refl (fld ! refl (stop !))) (look ! 7 refl))) refl (tt, record { fits = fs }) $
    sets ! (bin ! (get ! refl) (lit ! tt) (record { fits = fk4 })) refl (tt, record { fits = fk4 }) $
    sets ! (addr ! (through ! refl (fld ! refl (stop !)))) refl (tt, tt) $
    sets ! (bin ! (get ! refl) (get ! refl) tt) refl (tt, tt) $
    assigns ! (of_opd ! (get ! refl)) (through ! refl (stop !)) (store ! 0 refl (tt, record { fits = are.1.1.0.1 })) $
    sets ! (bin ! (get ! refl) (lit ! tt) (record { fits = fk1 })) refl (tt, record { fits = fk1 }) $
    assigns ! (of_opd ! (get ! refl)) (through ! refl (fld ! refl (stop !))) (store ! 7 refl (tt, record { fits = fk1 })) $
    use1 𝓛 (‵ (part_at u32 full_share b rb (k * 4 + (ro + free_at)))) (uint_in 𝓛 full_share w32 b rb (k * 4 + (ro + free_at))) $
    use2 𝓛 (‵ (part_at (Array u32 block_count) full_share (set h.free k b) rb (ro + free_at))) (put_in 𝓛 u32 tt block_count h.free k b rb (ro + free_at) kl lf') $
    move ! (1 ∷ 2 ∷ 5 ∷ []) $ block_gone ! h.at h.words b rb (ro + 0) bb oo bl la e $
    let keeps = released_keeps h.words h.free k kept b full lf in
    let h' : Inside = record h { free = set h.free k b; spare = k + 1; words = set h.words b [] } in
    move ! (0 ∷ 1 ∷ 2 ∷ 5 ∷ 6 ∷ 7 ∷ 8 ∷ 9 ∷ []) $ heap_closes ! tt h' keeps rb ro $
    -- [two parts of self; the token of its lifetime; the words; the right to free them; self's first part; the handle]
    first ! $ blocks ! $
    let k = triple_of 𝓛 (callee.signature Words Handle ghosts dict (no_drop Handle)) (callee.spec Words Handle ghosts dict (no_drop Handle) 𝓛 𝓜.mem 𝓡.returns) in
    lft_new ! tt (λ α.
    let y : k.Ghost = (((α ∷ [], (α ∷ [], tt)), (share.left full_share, (share.right full_share, tt)), tt, (alloc, (block_ptr bb oo, tt)), (hv ∷ [], (vptr bb oo ∷ [], tt))), ws) in
    use1 𝓛 (‵ (flft (α ∷ []) (share.left full_share)) ⊛ ‵ (flft (α ∷ []) (share.right full_share))) (𝓛.lfts.lft_split (α ∷ []) full_share) $ split ! $
    nothing ! $ move ! (2 ∷ 0 ∷ []) $ join ! $ move ! (1 ∷ 0 ∷ []) $ join ! $
    nothing ! $ feq_i ! _ (vptr bb oo ∷ []) _ refl $ fjoin ! $ move ! (8 ∷ 0 ∷ []) $ fjoin ! $ move ! (1 ∷ 0 ∷ []) $ join ! $
    move ! (4 ∷ 5 ∷ []) $ fjoin ! $ use0 𝓛 (raw (fact 𝓤 (α ∷ [] ⊑ Handle.lives))) (fact_i 𝓤 (α ∷ [] ⊑ Handle.lives) (emp 𝓤) (⊑_static (α ∷ []))) $ join ! $
    use0 𝓛 (raw (fact 𝓤 (α ∷ [] ⊑ Words.lives))) (fact_i 𝓤 (α ∷ [] ⊑ Words.lives) (emp 𝓤) (⊑_static (α ∷ []))) $ join ! $ move ! (1 ∷ 0 ∷ []) $ join ! $
    use1 𝓛 (raw (k.pre y)) (id⊢ 𝓤 _) $
    calls_at_last ! (framed 𝓤 𝓛.H 𝓜 𝓣) k (met 𝓤 𝓛 𝓜 𝓡 (code.calls-std_alloc::boxed::Box::from_raw 𝓡.env wired) Words Handle words_laws handle_laws ghosts dict (no_drop Handle)
    (passed 𝓡.env (code.calls-std_heap::GlobalAllocator::allocate 𝓡.env wired) (code.calls-std_heap::GlobalAllocator::deallocate 𝓡.env wired) (code.calls-std_heap::GlobalAllocator::grow 𝓡.env wired) (code.calls-std_heap::GlobalAllocator::shrink 𝓡.env wired) _ 𝓤 𝓛 𝓜 𝓡)
    (glues "heap::Destruct++none::drop" 𝓡.env (code.calls-heap::Destruct++none::drop 𝓡.env wired) Handle handle_laws _ 𝓤 𝓛 𝓜 𝓡)) y
    (and_then ! (get ! refl) (and_then ! (get ! refl) (no_more !))) (λ v.
    let Done = callee.ended Words Handle ghosts dict (no_drop Handle) in
    use1 𝓛 (later (some (λ (r : (box.B E).Denot). ((‵ (flft (α ∷ []) (share.left full_share)) ⊛ ‵ (flft (α ∷ []) (share.right full_share)) ⊛ ‵ ftrue) ⊛ ‵ ((box.B E).own_val r (v ∷ []))) ⊛
    some (λ (ls : Lasts Done y.0.0 y.0.3). ‵ (lasts Done y.0.0 y.0.3 ls) ⊛ (raw (fact 𝓤 (r.value ≡ ws)) ⊛ raw (fact 𝓤 (r.alloc ≡ alloc))))))) (id⊢ 𝓤 _) $
    await ! tt $ pick ! (λ r. split ! $ move ! (1 ∷ []) $ pick ! (λ ls. split3 ! $ drop ! $ heard ! _ (λ is. drop ! $ split ! $ drop ! $
    box_out E ! r (v ∷ []) (λ pb po hv' at us fits'. box_in E ! r pb po r.value at refl $ rewrite ! 0 (λ (xs : List Val). ‵ ((box.B E).own_val r xs)) (sym us) refl $
    let good = subst (λ (u : Val). T (has_ty (box.box_ty E) u) × WT u) (sym (ap only us)) (box.box_typed E hv' pb po fits') in
    lands_last ! refl good $
    exec ! 𝓣.C 𝓣.Λ (env code.Mir.locals l) (after 14 (code.function).body) (at_ret _ (W.post z)) $
    sets ! (of_opd ! (get ! refl)) refl good $
    returns ! (look_at ! 0 refl) $ free_all ! refl $
    -- [the box; two parts of self; the token of its lifetime; self's first part]
    suffices ! _ (ends_at 𝓛 f.ended stayed c z v r (view h', (tt, (tt, tt))) (tt, (tt, (tt, tt)))) $ says_two ! (subst (λ (t : State). r.value ≡ get_or t.words b []) seen is, subst (λ (t : State). view h' ≡ record t { words = set t.words b [] }) seen refl) $
    move ! (4 ∷ 1 ∷ 2 ∷ []) $ group ! 3 $ nothing ! $ nothing ! $ join ! $ nothing ! $ join ! $ move ! (1 ∷ 0 ∷ []) $ join ! $ nothing ! $ move ! (3 ∷ 0 ∷ []) $ join ! $ frame ! $ frame ! $ done !)))))))))))))
