-- `empty` makes a heap that holds nothing. Assumes `Logic`.
use Rattle.std.proofs.Common.{ℕ, List, [], ◌∷◌, ◌++◌, refl, lit<, w32}
use Rattle.std.proofs.raw_atomic.Walks.{proved_at}
use base.Logic.{id⊢}
use base.Fml.{ftrue}
use mir.Val.{Val}
use prog.Wp.{WpFn}
use contract.Monad.{fact}
use contract.Running.{tables}
use types.Kit.{‵, raw, ◌⊛◌, prop, some, later, ◌$◌, ◌∵◌, !, qed, move, keep, drop, use0, use1, use2, await, pick, split, join, regoal, fjoin, suffices, done}
use types.Part.{agg, rep}
use types.Run.{enter, lit, false_lit, and_then, no_more, returns}
use types.ByLocal.{alloc_all, pass_all, free_all, look_at, get, sets, lands_as, is}
use denote.Exit.{yes}
use denote.Laws.{Is, shows}
use denote.Array.{Array, Array-Lawful}
use denote.Builtin.{u32}
use denote.Plain.{uint_Lawful}
use denote.RawPtr.{RawPtr, rawptr_Lawful}
use denote.Signature.{plain}
use denote.Steps.{nothing, heard, peeks}
use denote.Struct.OwningLaws.{lawful}
use denote.Triple.Call.{calls_at}
use denote.Triple.Spec.{triple_of}
use denote.Triple.Table.{framed}
use denote.Triple.Walked.{Stays, walk_of, says, stay_dropped, ends_at}
use Rattle.std.proofs.alloc.Calls.{Goes-blank, handle_tells}
use Rattle.std.specs.contracts.alloc.Global as heap
use Rattle.heap.specs.Sizes.{block_count}
use Rattle.heap.specs.declared.Heap.TheView.{view}
use Rattle.heap.specs.contracts.Heap as T
use Rattle.heap.specs.contracts.Heap.TheInside as I
use Rattle.heap.proofs.Heap.TheInside.TheLaws as I'
use Rattle.heap.specs.contracts.free_list.all_free as callee
use Rattle.heap.proofs.free_list.all_free.Met.{met}
use Rattle.heap.specs.contracts.Heap.empty as f
use Rattle.heap.proofs.Lits.{big_lit}
use Rattle.heap.proofs.BlockBox.{Handle, E}
use Rattle.heap.proofs.EmptyHeap.{Every, nulls, nulls_val, nulls_is, nulls_own, nones_none, held_none, fresh, word, fresh_own, empty_own}
use Rattle.heap.proofs.Heap.empty.Statement.{statement}
use Rattle.heap.proofs.Heap.empty.Code as code

abbrev stayed : Stays f.ended.signature.params f.ended.kept
stayed = (stay_dropped _ yes, tt)

pub empty_spec : {M : Type 1} → statement M
empty_spec 𝓤 𝓛 𝓜 𝓡 wired =
    let c = f.clauses 𝓛 𝓜.mem 𝓡.returns in let W = walk_of 𝓛 f.ended stayed c in let 𝓣 = tables 𝓤 𝓛.H 𝓜 𝓡 𝓡.env in
    proved_at 𝓛 f.ended stayed c 𝓜 𝓡 (Goes-blank 𝓛 0 (plain (λ _. heap.the_row)) yes (λ κs x w. tt), tt)
    f.Key.name code.function (code.unfolded 𝓤 𝓛.H 𝓜 𝓡 wired) (λ z are.
    let alloc = z.0.3.0 in let vs = z.0.4.0 in
    qed 𝓛 ((‵ ftrue ⊛ ‵ (Handle.own_val alloc vs) ⊛ ‵ ftrue) ∷ ‵ ftrue ∷ []) ∵
    split ! $ move ! (1 ∷ []) $ split ! $ keep ! (0 ∷ []) $
    handle_tells E.al ! alloc vs (λ w eh fits.
    regoal ! (λ (us : List Val). prop (WpFn 𝓤 𝓛.H 𝓣.C 𝓣.Λ code.function us (W.post z))) (λ i. eh i ++ []) refl $
    enter ! _ _ _ _ _ $
    alloc_all ! (λ l. pass_all ! refl (fits, tt) $
    let k = triple_of 𝓛 callee.signature (callee.spec 𝓛 𝓜.mem 𝓡.returns) in
    let y : k.Ghost = ((tt, tt, tt, tt, tt), tt) in
    nothing ! $ nothing ! $ nothing ! $ join ! $ join ! $ use1 𝓛 (raw (k.pre y)) (id⊢ 𝓤 _) $
    calls_at ! (framed 𝓤 𝓛.H 𝓜 𝓣) k (met 𝓤 𝓛 𝓜 𝓡 (code.calls-heap::free_list::all_free 𝓡.env wired)) y (no_more !) (λ v.
    use1 𝓛 (later (some (λ (r : List ℕ). (‵ ftrue ⊛ ‵ ((Array u32 block_count).own_val r (v ∷ []))) ⊛ some (λ (ws : Unit {0}). ‵ ftrue ⊛ raw (fact 𝓤 (Every r)))))) (id⊢ 𝓤 _) $
    await ! tt $ pick ! (λ free. split ! $ move ! (1 ∷ []) $ pick ! (λ ws. split ! $ drop ! $ heard ! (Every free) (λ every. split ! $ drop ! $
    -- [the free list; the handle]
    peeks ! (Array u32 block_count) (Is (Array u32 block_count)) (shows 𝓛 (Array u32 block_count)) free (v ∷ []) (λ is_free.
    lands_as ! refl refl ((Array-Lawful 𝓛 u32 (uint_Lawful 𝓛 w32) block_count).typed free (v ∷ []) is_free).0 $
    use0 𝓛 (‵ ((Array RawPtr block_count).own_val nulls (nulls_val ∷ []))) (nulls_own 𝓛) $ peeks ! (Array RawPtr block_count) (Is (Array RawPtr block_count)) (shows 𝓛 (Array RawPtr block_count)) nulls (nulls_val ∷ []) (λ is_null. drop ! $
    sets ! (is ! (rep ! block_count (lit ! tt)) nulls_is) refl ((Array-Lawful 𝓛 RawPtr (rawptr_Lawful 𝓛) block_count).typed nulls (nulls_val ∷ []) is_null).0 $
    use2 𝓛 (‵ ((I.the_row).own_val (fresh free alloc) (word v w ∷ []))) (fresh_own 𝓛 free alloc v w) $ peeks ! I.the_row (Is I.the_row) (shows 𝓛 I.the_row) (fresh free alloc) (word v w ∷ []) (λ is_heap.
    sets ! (agg ! (and_then ! (get ! refl) (and_then ! (lit ! tt) (and_then ! (lit ! tt) (and_then ! (false_lit !) (and_then ! (get ! refl)
    (and_then ! (big_lit ! (record { fits = lit< tt })) (and_then ! (get ! refl) (no_more !)))))))))
    refl ((lawful I.the_type I'.the_laws 𝓛).typed (fresh free alloc) (word v w ∷ []) is_heap).0 $
    use1 𝓛 (‵ ((T.the_row).own_val (view (fresh free alloc)) (word v w ∷ []))) (empty_own 𝓛 free alloc every (word v w ∷ [])) $
    returns ! (look_at ! 0 refl) $ free_all ! refl $ keep ! (0 ∷ []) $
    suffices ! _ (ends_at 𝓛 f.ended stayed c z (word v w) (view (fresh free alloc)) (tt, tt) (tt, tt)) $ says ! (nones_none, held_none, refl) $
    nothing ! $ nothing ! $ fjoin ! $ join ! $ nothing ! $ join ! $ done !))))))))))
