-- A heap that holds nothing. Assumes `Logic`.
use Rattle.std.proofs.Common.{◌≡◌, ℕ, zero, suc, ◌+◌, ◌^◌, ◌<◌, false, List, [], ◌∷◌, length, get_or, replicate, sym, refl, ap, ◌∙◌, subst, arith, lit<, w64}
use seplogic.Ra.Ura.{Ura}
use mir.Val.{Val, vint, vbool, vnull, vstruct, vnil, vcons}
use base.Logic.{ent, sep, emp, id⊢, via, mono∗, emp∗}
use types.Logic.{Logic, sem}
use types.Kit.{‵, ◌$◌, ◌∵◌, !, qed, by, move, use0, fjoin, fpack, feq_i, flt_i, done}
use denote.RattleType.{Valss}
use denote.Array.{Array, array_val, Array-repeat}
use denote.Builtin.{u32}
use denote.Model.Fields.{view_made}
use denote.RawPtr.{Ptr, RawPtr, null_ptr, rawptr_copy}
use denote.Steps.{nothing}
use denote.Struct.Struct.{within}
use denote.Struct.Owning.{shape, to}
use Rattle.std.specs.Global.{Global}
use Rattle.std.specs.contracts.alloc.Global as heap
use Rattle.heap.specs.Sizes.{block_count}
use Rattle.heap.specs.Owned.{one, owned, held}
use Rattle.heap.specs.Kept.{Kept}
use Rattle.heap.specs.State.{State}
use Rattle.heap.specs.declared.Heap.{the_code}
use Rattle.heap.specs.declared.Heap.TheInside.{Inside}
use Rattle.heap.specs.declared.Heap.TheView.{view, invariant}
use Rattle.heap.specs.contracts.Heap as T
use Rattle.heap.specs.contracts.Heap.TheInside as I
use Rattle.heap.proofs.Heap.TheLaws as T'

-- no abbreviations, so that no check writes their entries out
pub nulls : List Ptr
nulls = replicate block_count null_ptr

pub nones : List (List ℕ)
nones = replicate block_count []

pub nulls_val : Val
nulls_val = array_val (replicate block_count vnull)

pub nulls_is : array_val (replicate block_count vnull) ≡ nulls_val
unfolding nulls_val
nulls_is = refl

none_at : (n b : ℕ) → ◌≡◌ {A = List ℕ} (get_or (replicate n []) b []) []
none_at zero b = refl
none_at (suc n) zero = refl
none_at (suc n) (suc b) = none_at n b

pub nones_none : (b : ℕ) → get_or nones b [] ≡ []
unfolding nones
nones_none b = none_at block_count b

held_at : (n : ℕ) → held (replicate n []) ≡ 0
unfolding held
held_at zero = refl
held_at (suc n) = held_at n

pub held_none : held nones ≡ 0
unfolding nones
held_none = held_at block_count

many_at : (n : ℕ) → length {A = List ℕ} (replicate n []) ≡ n
many_at zero = refl
many_at (suc n) = ap suc (many_at n)

pub nones_many : length nones ≡ block_count
unfolding nones
nones_many = many_at block_count

-- every number is on this list
abbrev pub Every : List ℕ → Type 0
Every free = (j : ℕ) → j < block_count → get_or free j 0 ≡ j

abbrev pub fresh : (free : List ℕ) → Global → Inside
fresh free alloc = record {
  at = nulls;
  left = 0;
  top = 0;
  failed = false;
  free = free;
  spare = block_count;
  alloc = alloc;
  words = nones;
}

fresh_kept : (free : List ℕ) → Every free → Kept nones free block_count
fresh_kept free e = record {
  sized = nones_many;
  counts = ap (λ (n : ℕ). n + block_count) held_none;
  valid = λ j h. subst (λ (n : ℕ). n < block_count) (sym (e j h)) h;
  unheld = λ j h. ap length (nones_none (get_or free j 0));
  distinct = λ (j k : ℕ) (t : (j < k) × (k < block_count) × (get_or free j 0 ≡ get_or free k 0)).
      let lt : j < k = t.0 in let lk : k < block_count = t.1 in let lj : j < block_count = omega (arith, lt, lk) in
      let is : j ≡ k = sym (e j lj) ∙ t.2 ∙ e k lk in native.Mathlib.Nat.lt_irrefl k (subst (λ (n : ℕ). n < k) is lt);
}

abbrev pub word : Val → Val → Val
word v w = vstruct (vcons nulls_val (vcons (vint w64 0) (vcons (vint w64 0) (vcons (vbool false) (vcons v (vcons (vint w64 block_count) (vcons w vnil)))))))

module _ {M : Type 1} {𝓤 : Ura M} (𝓛 : Logic 𝓤) where
  owned_at : (n : ℕ) → ent 𝓤 (emp 𝓤) (sem 𝓛 (owned (replicate n null_ptr) (replicate n [])))
  unfolding owned one
  owned_at zero = id⊢ 𝓤 (emp 𝓤)
  owned_at (suc n) = via 𝓤 (sep 𝓤 (emp 𝓤) (emp 𝓤)) (emp∗ 𝓤 (emp 𝓤)) (mono∗ 𝓤 (id⊢ 𝓤 (emp 𝓤)) (owned_at n))

  owned_none : ent 𝓤 (emp 𝓤) (sem 𝓛 (owned nulls nones))
  unfolding nulls nones
  owned_none = owned_at block_count

  pub nulls_own : ent 𝓤 (emp 𝓤) (sem 𝓛 ((Array RawPtr block_count).own_val nulls (nulls_val ∷ [])))
  unfolding nulls nulls_val
  nulls_own = qed 𝓛 [] ∵ feq_i ! (List Val) (vnull ∷ []) (vnull ∷ []) refl $ by ! (Array-repeat 𝓛 RawPtr (rawptr_copy 𝓛) block_count null_ptr vnull)

  -- the fields
  pub fresh_own : (free : List ℕ) (alloc : Global) (v w : Val)
      → ent 𝓤 (sep 𝓤 (sem 𝓛 ((Array u32 block_count).own_val free (v ∷ []))) (sem 𝓛 ((heap.the_row).own_val alloc (w ∷ [])))) (sem 𝓛 ((I.the_row).own_val (fresh free alloc) (word v w ∷ [])))
  fresh_own free alloc v w =
      qed 𝓛 (‵ ((Array u32 block_count).own_val free (v ∷ [])) ∷ ‵ ((heap.the_row).own_val alloc (w ∷ [])) ∷ []) ∵
      nothing ! $ move ! (2 ∷ 0 ∷ []) $ fjoin ! $
      flt_i ! block_count (2 ^ 64) (lit< tt) $ feq_i ! (List Val) (vint w64 block_count ∷ []) (vint w64 block_count ∷ []) refl $ fjoin ! $ fjoin ! $
      move ! (1 ∷ 0 ∷ []) $ fjoin ! $
      feq_i ! (List Val) (vbool false ∷ []) (vbool false ∷ []) refl $ fjoin ! $
      flt_i ! 0 (2 ^ 64) (lit< tt) $ feq_i ! (List Val) (vint w64 0 ∷ []) (vint w64 0 ∷ []) refl $ fjoin ! $ fjoin ! $
      flt_i ! 0 (2 ^ 64) (lit< tt) $ feq_i ! (List Val) (vint w64 0 ∷ []) (vint w64 0 ∷ []) refl $ fjoin ! $ fjoin ! $
      use0 𝓛 (‵ ((Array RawPtr block_count).own_val nulls (nulls_val ∷ []))) nulls_own $ fjoin ! $
      feq_i ! (List Val) (word v w ∷ []) (word v w ∷ []) refl $ fjoin ! $
      fpack ! (Valss (shape I.the_type).fields) (within (shape I.the_type) (to I.the_type (fresh free alloc)) (word v w ∷ []))
      (nulls_val ∷ [], (vint w64 0 ∷ [], (vint w64 0 ∷ [], (vbool false ∷ [], (v ∷ [], (vint w64 block_count ∷ [], (w ∷ [], tt))))))) $
      use0 𝓛 (‵ (owned nulls nones)) owned_none $ move ! (1 ∷ 0 ∷ []) $ fjoin ! $ done !

  -- the heap
  pub empty_own : (free : List ℕ) (alloc : Global) (e : Every free) (vs : List Val) → ent 𝓤 (sem 𝓛 ((I.the_row).own_val (fresh free alloc) vs)) (sem 𝓛 ((T.the_row).own_val (view (fresh free alloc)) vs))
  empty_own free alloc e vs = qed 𝓛 (‵ ((I.the_row).own_val (fresh free alloc) vs) ∷ []) ∵
      use0 𝓛 (‵ ((T'.the_opens).rest (view (fresh free alloc)) (fresh free alloc))) (view_made I.the_row State the_code view invariant 𝓛 (view (fresh free alloc)) (fresh free alloc) (refl, fresh_kept free e)) $
      move ! (1 ∷ 0 ∷ []) $ by ! ((T'.the_opens).joins M 𝓤 𝓛 (view (fresh free alloc)) (fresh free alloc) vs)
