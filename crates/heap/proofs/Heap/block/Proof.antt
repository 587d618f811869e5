-- `block` lends a block. Assumes `Logic`.
use Rattle.std.proofs.Common.{◌≡◌, ℕ, ◌+◌, ◌*◌, ◌^◌, ◌<◌, List, [], ◌∷◌, length, get_or, sym, subst, refl, arith, w32}
use Rattle.std.proofs.raw_atomic.Walks.{proved}
use base.Fml.{ftrue, flft, GName}
use mir.Syntax.{named}
use mir.Val.{vint, vptr}
use contract.Monad.{fact}
use contract.Running.{tables}
use types.Logic.{sem}
use types.Kit.{later, some, await, pick, fjoin, ‵, raw, ◌⊛◌, at_ret, ◌$◌, ◌∵◌, !, qed, move, keep, use1, split, split3, join, fsplit3, suffices, frame, group, done}
use types.Run.{enter, of_opd, lit, un, bin, addr, load, look, stop, fld, first, blocks, exec, returns}
use types.ByLocal.{sets_last, alloc_all, pass_all, free_all, look_at, get, through, sets, env}
use denote.Exit.{yes, no}
use denote.RattleType.{owns, Valss}
use denote.Memory.{part_of}
use denote.Array.{Array}
use denote.Builtin.{u32, u64}
use denote.Follow.{follows, lends_Part}
use denote.Plain.{uint_vals, uint_Tells}
use denote.Ref.{MutRef, mut_vals, mut_Tells}
use denote.Signature.{plain, mut_ref_to}
use denote.Steps.{nothing, heard}
use denote.Triple.Walked.{Stays, walk_of, says, stay_dropped, Goes-dropped, Goes-spent_ref, ends_at}
use Rattle.heap.specs.Sizes.{block_words, block_count}
use Rattle.heap.specs.State.{State, with_block}
use Rattle.heap.specs.contracts.Heap.{the_row as R}
use Rattle.heap.specs.contracts.Heap.block as f
use Rattle.std.proofs.VecSteps.Shapes.{after}
use Rattle.heap.proofs.HeldCount.{below_length}
use Rattle.heap.proofs.LentBlock.{Else, back}
use Rattle.heap.proofs.OpenHeap.{heap_opens}
use Rattle.heap.proofs.OneBlock.{block_out}
use Rattle.heap.proofs.Heap.block.Statement.{statement}
use Rattle.heap.proofs.Heap.block.Code as code

abbrev stayed : Stays f.ended.signature.params f.ended.kept
stayed = (stay_dropped (mut_ref_to (0 ∷ []) tt (plain (λ _. R))) no, (stay_dropped _ yes, tt))

pub block_spec : {M : Type 1} → statement M
unfolding part_of
block_spec 𝓤 𝓛 𝓜 𝓡 wired =
    let c = f.clauses 𝓛 𝓜.mem 𝓡.returns in let W = walk_of 𝓛 f.ended stayed c in let 𝓣 = tables 𝓤 𝓛.H 𝓜 𝓡 𝓡.env in
    proved 𝓛 f.ended stayed c 𝓜 𝓡 (Goes-spent_ref 𝓛 1 (0 ∷ []) tt (plain (λ _. R)), (Goes-dropped 𝓛 1 (plain (λ _. u32)) yes (λ κs x w. refl), tt))
    f.Key.name code.function (code.unfolded 𝓤 𝓛.H 𝓜 𝓡 wired)
    (λ κs. (mut_vals, (uint_vals w32, tt))) (λ κs. (mut_Tells (named 0) κs.0 R, (uint_Tells w32, tt))) (λ κs qs bounds a _ are.
    let rb = a.0.ref_ptr.0 in let ro = a.0.ref_ptr.1 in let s = a.0.now in let b = a.1.0 in
    let numbers : Valss (u32 ∷ []) = (vint w32 b ∷ [], tt) in
    let y : W.Ghost = ((κs, qs, bounds, a, (mut_vals a.0, numbers)), tt) in
    qed 𝓛 (((‵ (flft κs.0 qs.0) ⊛ ‵ ftrue) ⊛ ‵ ((MutRef (named 0) κs.0 R).own_val a.0 (mut_vals a.0)) ⊛ ‵ (owns (u32 ∷ []) a.1 numbers)) ∷ raw (fact 𝓤 (length (get_or s.words b []) ≡ block_words)) ∷ []) ∵
    move ! (1 ∷ []) $ heard ! _ (λ full₀.
    split ! $ split ! $ move ! (2 ∷ []) $ split ! $ keep ! (0 ∷ 2 ∷ []) $
    enter ! _ _ _ _ _ $
    alloc_all ! (λ l. pass_all ! refl ((tt, tt), ((tt, record { fits = are.1.0.1 }), tt)) $
    fsplit3 ! $ move ! (1 ∷ 2 ∷ 3 ∷ []) $
    heap_opens ! tt s rb ro (λ h seen kept la lf fs.
    let ws : List ℕ = get_or h.words b [] in
    let full : length ws ≡ block_words = subst (λ (t : State). length (get_or t.words b []) ≡ block_words) (sym seen) full₀ in
    let used : 0 < length ws = omega (arith, full) in
    let lt : b < length h.words = below_length h.words b used in let bl : b < block_count = omega (arith, lt, kept.sized) in
    let fb : b < 2 ^ 64 = omega (arith, bl) in let fb8 : b * 8 < 2 ^ 64 = omega (arith, bl) in
    block_out ! h.at h.words b rb (ro + 0) bl la used (λ bb oo e.
    -- [the pointer; the other pointers; the words; the token; the other blocks; the free list; spare; the rest; the open borrow, in three entries; ..]
    sets ! (un ! (get ! refl) (record { fits = fb })) refl (tt, record { fits = fb }) $
    sets ! (bin ! (get ! refl) (lit ! tt) (record { fits = fb8 })) refl (tt, record { fits = fb8 }) $
    sets ! (addr ! (through ! refl (fld ! refl (stop !)))) refl (tt, tt) $
    sets ! (bin ! (get ! refl) (get ! refl) tt) refl (tt, tt) $
    sets ! (of_opd ! (load ! (through ! refl (stop !)) (look ! 0 refl))) refl (tt, tt) $
    sets ! (of_opd ! (get ! refl)) refl (tt, tt) $
    first ! $ blocks ! $
    sets_last ! (addr ! (through ! refl (stop !))) refl (tt, tt) $
    exec ! 𝓣.C 𝓣.Λ (env code.Mir.locals l) (after 7 (code.function).body) (at_ret _ (W.post y)) $
    sets ! (of_opd ! (get ! refl)) refl (tt, tt) $
    move ! (6 ∷ 7 ∷ []) $ fjoin ! $ move ! (6 ∷ 0 ∷ []) $ fjoin ! $ move ! (5 ∷ 0 ∷ []) $ fjoin ! $ move ! (4 ∷ 0 ∷ []) $ fjoin ! $ move ! (2 ∷ 0 ∷ []) $ fjoin ! $ move ! (1 ∷ 0 ∷ []) $ fjoin ! $
    -- [what else there is of the heap; the words; the open borrow, in three entries; ..]
    move ! (2 ∷ 3 ∷ 4 ∷ 1 ∷ 0 ∷ []) $ group ! 5 $
    let F : List ℕ → State = with_block s b in let Q = back h b rb ro bb oo 𝓛 s seen kept full la bl e in
    use1 𝓛 (later (some (λ (γ : GName). ‵ ((MutRef (named 0) κs.0 (Array u64 block_words)).own_val (record { ref_ptr = (bb, oo); ghost_name = γ; now = ws }) (vptr bb oo ∷ [])) ⊛ ‵ (flft κs.0 qs.0) ⊛ ‵ (follows R (Array u64 block_words) a.0.ghost_name γ F))))
    (lends_Part 𝓛 R (Array u64 block_words) F (named 0) κs.0 qs.0 rb ro bb oo a.0.ghost_name (sem 𝓛 (Else h b rb ro bb oo)) Q _ _ ws) $ await ! tt $ pick ! (λ γ.
    returns ! (look_at ! 0 refl) $ free_all ! refl $ keep ! (0 ∷ []) $ split3 ! $
    -- [the loan; the token; what the heap is afterwards]
    suffices ! _ (ends_at 𝓛 f.ended stayed c y (vptr bb oo) (record { ref_ptr = (bb, oo); ghost_name = γ; now = ws }) (tt, (tt, tt)) (tt, (tt, tt))) $
    nothing ! $ nothing ! $ fjoin ! $ nothing ! $ fjoin ! $ join ! $ nothing ! $ move ! (2 ∷ 0 ∷ []) $ join ! $ join ! $ frame ! $
    says ! (subst (λ (t : State). ws ≡ get_or t.words b []) seen refl) $ done !))))))
