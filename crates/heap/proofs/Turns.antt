-- What stays true of a heap when a block is obtained or released, and what the ground is then. Assumes nothing.
use Rattle.std.proofs.Common.{◌≡◌, ℕ, ◌+◌, ◌-◌, ◌<◌, ◌≤◌, Bool, true, false, not, ◌||◌, cond, eqb, List, [], ◌∷◌, length, get_or, set, replicate, Option, Some, None, is_some, IfNone, IfSome, sym, refl, ap, ◌∙◌, subst, length-set, arith, not-suc-le-zero}
use Rattle.std.proofs.lemmas.List.{nil_from_length}
use Rattle.std.proofs.Math.Bool.{or-false, or-true}
use Rattle.things.specs.Ground.{Obtains, got as gets, none as refuses, released, written}
use Rattle.heap.specs.Sizes.{block_words, block_count}
use Rattle.heap.specs.Owned.{held, ground_of}
use Rattle.heap.specs.Kept.{Kept}
use Rattle.heap.specs.State.{State, state_ground, block_at, with_block}
use Rattle.heap.proofs.Grounds.{ground_is, block_set, lengths_same}
use Rattle.heap.proofs.HeldCount.{held_more, held_less, held_same, below_length}
use Rattle.heap.proofs.FreeList.{push_valid, push_unheld, push_distinct, pop_valid, pop_unheld, pop_distinct}

filled : (wss : List (List ℕ)) (b : ℕ) (ws : List ℕ) → b < length wss → length (get_or wss b []) ≡ 0 → length ws ≡ block_words → held (set wss b ws) ≡ held wss + 1
filled wss b [] l e f = let z : 1 ≤ 0 = omega arith in absurd (not-suc-le-zero z)
filled wss b (w ∷ ws) l e f = held_more wss b w ws l e

module _ (wss : List (List ℕ)) (free : List ℕ) (n : ℕ) (kept : Kept wss free n) where
  open kept use {sized, counts, valid, unheld, distinct}

  module _ (pos : 0 < n) (ws : List ℕ) (full : length ws ≡ block_words) where
    abbrev b : ℕ
    b = get_or free (n - 1) 0

    top : n - 1 < n
    top = omega arith

    pub obtained_below : b < block_count
    obtained_below = valid (n - 1) top

    -- its place on the free list
    pub obtained_list : n - 1 < block_count
    obtained_list = omega (arith, pos, counts)

    inside : b < length wss
    inside = let v = obtained_below in omega arith

    pub obtained_unheld : length (get_or wss b []) ≡ 0
    obtained_unheld = unheld (n - 1) top

    more : held (set wss b ws) ≡ held wss + 1
    more = filled wss b ws inside (unheld (n - 1) top) full

    pub obtained_keeps : Kept (set wss b ws) free (n - 1)
    obtained_keeps = record {
      sized = length-set wss b ws ∙ sized;
      counts = let e = more in omega arith;
      valid = pop_valid free n pos valid;
      unheld = pop_unheld free n pos wss ws distinct unheld;
      distinct = pop_distinct free n pos distinct;
    }

  module _ (b : ℕ) (full : length (get_or wss b []) ≡ block_words) where
    used : 0 < length (get_or wss b [])
    used = omega arith

    within : b < length wss
    within = below_length wss b used

    fewer : held wss ≡ held (set wss b []) + 1
    fewer = held_less wss b within used

    pub released_room : n < block_count
    released_room = let e = fewer in omega arith

    pub released_below : b < block_count
    released_below = let l = within in omega arith

    pub released_keeps : length free ≡ block_count → Kept (set wss b []) (set free n b) (n + 1)
    released_keeps lf =
        let fit : n < length free = let r = released_room in omega arith in
        record {
          sized = length-set wss b [] ∙ sized;
          counts = let e = fewer in omega arith;
          valid = push_valid free n b fit valid released_below;
          unheld = push_unheld free n b fit wss unheld within;
          distinct = push_distinct free n b fit wss unheld used distinct;
        }

  pub changed_keeps : (b : ℕ) (ws : List ℕ) → length ws ≡ length (get_or wss b []) → Kept (set wss b ws) free n
  changed_keeps b ws same = record {
    sized = length-set wss b ws ∙ sized;
    counts = ap (λ (m : ℕ). m + n) (held_same wss b ws same) ∙ counts;
    valid = valid;
    unheld = λ j l. lengths_same wss b ws same (get_or free j 0) ∙ unheld j l;
    distinct = distinct;
  }

-- what the ground is then
module _ (wss : List (List ℕ)) where
  pub obtained : (b : ℕ) (ws : List ℕ) → length wss ≡ block_count → b < block_count → length (get_or wss b []) ≡ 0 → length ws ≡ block_words
      → (l t : ℕ) (y : Bool) → Obtains (ground_of wss l t y) (Some b) (ground_of (set wss b ws) (l - 1) t y)
  obtained b ws sized below none full l t y =
      let inside : b < length wss = omega (arith, sized, below) in
      subst (Obtains (ground_of wss l t y) (Some b))
      (sym (ground_is (λ c. get_or (set wss b ws) c []) (λ c. cond (eqb c b) ws (get_or wss c [])) (block_set wss b ws inside) (held (set wss b ws)) (held wss + 1) (filled wss b ws inside none full) (l - 1) t y))
      (gets b ws (omega (arith, below)) (nil_from_length (get_or wss b []) none) full)

  pub released_is : (b : ℕ) → length (get_or wss b []) ≡ block_words → (l t : ℕ) (y : Bool) → ground_of (set wss b []) (l - 1) t y ≡ released b (ground_of wss l t y)
  released_is b full l t y =
      let used : 0 < length (get_or wss b []) = omega arith in let within : b < length wss = below_length wss b used in
      let fewer : held wss ≡ held (set wss b []) + 1 = held_less wss b within used in
      ground_is (λ c. get_or (set wss b []) c []) (λ c. cond (eqb c b) [] (get_or wss c [])) (block_set wss b [] within) (held (set wss b [])) (held wss - 1) (omega arith) (l - 1) t y

  pub written_is : (b i x : ℕ) → length (get_or wss b []) ≡ block_words
      → (l t : ℕ) (y : Bool) → ground_of (set wss b (set (get_or wss b []) i x)) (l - 1) t y ≡ written b i x (ground_of wss l t y)
  written_is b i x full l t y =
      let used : 0 < length (get_or wss b []) = omega arith in let within : b < length wss = below_length wss b used in
      let ws : List ℕ = set (get_or wss b []) i x in
      ground_is (λ c. get_or (set wss b ws) c []) (λ c. cond (eqb c b) ws (get_or wss c [])) (block_set wss b ws within) (held (set wss b ws)) (held wss) (held_same wss b ws (length-set (get_or wss b []) i x)) (l - 1) t y

-- a heap s that counted an asking, and then acquired r, and noted whether it was refused
module _ (s t : State) where
  abbrev counted : State
  counted = record s { left = s.left - 1 }

  pub asked : (r : Option ℕ) (y : Bool) → is_some r ≡ not y → length s.words ≡ block_count
      → IfNone r (t ≡ counted) → IfSome r (λ b. b < block_count) → IfSome r (λ b. length (block_at counted b) ≡ 0)
      → IfSome r (λ b. t ≡ with_block counted b (replicate block_words 0)) → Obtains (state_ground s) r (state_ground (record t { failed = t.failed || y }))
  asked None true e sized same number unheld block = rw (same, or-true s.failed) refuses
  asked None false e sized same number unheld block = grind (arith, e)
  asked (Some n) true e sized same number unheld block = grind (arith, e)
  asked (Some n) false e sized same number unheld block = rw (block, or-false s.failed) (obtained s.words n (replicate block_words 0) sized number unheld refl s.left s.top s.failed)
