-- From what was done to the tree under a name, and to the ground, to what the call has to leave.
use Rattle.std.proofs.Common.{◌≡◌, ℕ, suc, ◌+◌, ◌<◌, ◌≤◌, true, not, T, ◌∷◌, ◌++◌, cond, nat_le, length, get_or, take, drop, set, Option, Some, None, Ok, Err, sym, refl, ap, ◌∙◌, add-zero, zero-add, arith}
use mathlib.Core.Path.{subst⁻¹}
use lib.ListN.{length-map}
use lib.Seq.{set-get_or}
use Rattle.page.specs.Kinds.{row_layout, table_layout}
use Rattle.store.specs.Memory.{Memory}
use Rattle.store.specs.Steps.{Ran, Step}
use Rattle.tree.specs.declared.top.Tree.{Tree}
use Rattle.tree.specs.Tall.{tall_contents, tall_uses, Tall}
use Rattle.tree.specs.Pages.{Reading}
use Rattle.tree.specs.Trees.{holds, owns, Lies}
use Rattle.seek.specs.Asks.{length_asks}
use Rattle.things.specs.declared.Op.TheVariants.{Row, Length, At, Set, Insert, Delete}
use Rattle.things.specs.declared.Answer.TheVariants.{Done, Word, No, Full}
use Rattle.things.specs.declared.reason.Reason.{Reason}
use Rattle.things.specs.declared.state.Kept.{Kept}
use Rattle.things.specs.declared.state.Kept.TheVariants as kept
use Rattle.things.specs.declared.state.Things.{Things}
use Rattle.things.specs.Ground.{Ground}
use Rattle.things.specs.Bridge.{memory_of}
use Rattle.things.specs.Names.{row_here, none_here, found, row_at, place_at, vacant}
use Rattle.things.specs.Reasons.{refusal}
use Rattle.things.specs.Things.{Shelf, ARow, Out, out, no, put, does, refuses, may_fill}
use Rattle.things.specs.Promise.{can}
use Rattle.things.specs.State.{names, call_room, CanServe, Sound, Ready, Served, two, thing, words_in, pairs_in, shelf_of, slot_of, slot_uses, SlotStands}
use Rattle.things.proofs.Grounds.{Untouched, read_untouched}
use Rattle.things.proofs.Accounts.{Settled, one_name, unchanged_blocks}
use Rattle.things.proofs.Shelves.{slot_lies}
use Rattle.things.proofs.Rules.{served_settled, served_full, unchanged}
use Rattle.things.proofs.Naming.{low, off_row, row_slot, vacant_slot, place_row, place_inside, on_place, off_place, row_is, length_of_row, length_of_table, insert_is, insert_past}

-- a row or table without a word
abbrev pub empty_tree : Tree
empty_tree = record { root = 0; height = 0 }

-- what was y under n is x now, and the ground has changed by that alone
module _ (s s' : Things) (g g' : Ground) (n k : ℕ) (y x : Option Kept) (h : Sound s g.block g.many) (low : n < names) (was : slot_of s n ≡ y)
    (e : s'.slots ≡ set s.slots n x) (r : Ran k (slot_uses g.block y) (slot_uses g'.block x) (memory_of g) (memory_of g'))
    (ok : SlotStands g'.block x) where
  pub renewed : Settled s' g'.block g'.many (put n (thing x g'.block) (shelf_of s g.block))
  renewed =
      one_name s s' g.block g'.block g.many g'.many n x h low e
      (subst⁻¹ (λ z. Step (slot_uses g.block z) (slot_uses g'.block x) g.block g'.block) was r.step) ok r.number

-- things are as they were, where the ground is
pub left_alone : {s : Things} {g g' : Ground} → Sound s g.block g.many → Untouched g g' → Settled s g'.block g'.many (shelf_of s g.block)
left_alone h u = unchanged_blocks h u.blocks u.many

-- what may be taken for granted after it was read at most k times
pub ready_after : {k asks room : ℕ} {s : Things} {g g' : Ground} → Ready (k + asks) room s g → Reading k (memory_of g) (memory_of g') → Ready asks room s g'
ready_after {k} {asks} {room} {s} {g} {g'} y r =
    let u = read_untouched r in
    record {
      sound = (left_alone y.sound u).sound;
      enough = omega (arith, y.enough, r.few, ap (λ (m : Memory). m.left) r.is);
      space = omega (arith, y.space, u.many, ap (λ (m : Memory). m.top) r.is);
      few = omega (arith, y.few, u.many);
    }

-- the tree of a row that was found
pub row_lies : (n : ℕ) (s : Things) (g : Ground) {t : Tree} → Sound s g.block g.many → Ok t ≡ row_at n s → Lies row_layout (memory_of g) t
row_lies n s g {t} h f = slot_lies s (memory_of g) n h (low row_here n s f) (Some (kept.Row t)) (row_slot n s f)

-- how often may still be asked when the length of a row was looked up
abbrev pub rest_asks : ℕ
rest_asks = 16319

-- t is the row under n, and has a place i
pub record Placed (n i : ℕ) (s : Things) (g : Ground) (t : Tree) : Type 0 where
  pub ready : Ready rest_asks call_room s g
  pub place : Ok t ≡ place_at n i s g.block
  pub row : Ok t ≡ row_at n s
  pub inside : i < length (holds row_layout g.block t)
  pub lies : Lies row_layout (memory_of g) t

-- so it is after its length was looked up
pub placed : (n i : ℕ) (s : Things) {g g' : Ground} {t : Tree} → CanServe s g → Reading length_asks (memory_of g) (memory_of g') → Ok t ≡ place_at n i s g.block
    → Placed n i s g' t
unfolding words_in
placed n i s {g} {g'} {t} y r p =
    let q : Ready rest_asks call_room s g' = ready_after y r in
    let p' : Ok t ≡ place_at n i s g'.block = subst⁻¹ (λ (m : Memory). Ok t ≡ place_at n i s m.block) r.is p in
    let f : Ok t ≡ row_at n s = place_row n i s g'.block p' in
    record { ready = q; place = p'; row = f; inside = place_inside n i s g'.block p'; lies = row_lies n s g' q.sound f }

-- t is the row under n, and has i places or more
pub record Gapped (i : ℕ) (s : Things) (g : Ground) (t : Tree) : Type 0 where
  pub ready : Ready rest_asks call_room s g
  pub inside : i ≤ length (holds row_layout g.block t)
  pub lies : Lies row_layout (memory_of g) t

pub gapped : (n i : ℕ) (s : Things) {g g' : Ground} {t : Tree} → CanServe s g → Reading length_asks (memory_of g) (memory_of g') → Ok t ≡ row_at n s
    → i ≤ length (holds row_layout g.block t) → Gapped i s g' t
gapped n i s {g} {g'} {t} y r f l =
    let q : Ready rest_asks call_room s g' = ready_after y r in
    record {
      ready = q;
      inside = subst⁻¹ (λ (m : Memory). i ≤ length (holds row_layout m.block t)) r.is l;
      lies = row_lies n s g' q.sound f;
    }

-- an empty row is under n
pub row_served : (n : ℕ) (s s' : Things) (g : Ground) {u : Unit {0}} → Sound s g.block g.many → Ok u ≡ vacant n s → T (can (Row n))
    → s'.slots ≡ set s.slots n (Some (kept.Row empty_tree)) → Served (Row n) s g Done s' g
unfolding words_in tall_contents tall_uses Tall
row_served n s s' g h v built e =
    served_settled (Row n) built (row_is n s g.block v)
    (one_name s s' g.block g.block g.many g.many n (Some (kept.Row empty_tree)) h (low none_here n s v) e
    (subst⁻¹ (λ z. Step (slot_uses g.block z) (λ c. 0) g.block g.block) (vacant_slot n s v) (record { balanced = λ c. refl; leaves = λ c l. refl }))
    tt refl)

-- how long a row or table is
module _ (n : ℕ) (s : Things) (g g' : Ground) (t : Tree) (y : ℕ) (built : T (can (Length n))) (h : Sound s g.block g.many) (u : Untouched g g') where
  pub length_served : Ok (kept.Row t) ≡ found n s → y ≡ length (holds row_layout g.block t) → Served (Length n) s g (Word y) s g'
  unfolding words_in
  length_served f e =
      served_settled (Length n) built
      (length_of_row n s g.block f ∙ ap (λ j. out (Word j) (shelf_of s g.block)) (add-zero (length (holds row_layout g.block t)) ∙ sym e))
      (left_alone h u)

  pub length_table_served : Ok (kept.Table t) ≡ found n s → y ≡ length (holds table_layout g.block t) → Served (Length n) s g (Word y) s g'
  unfolding pairs_in
  length_table_served f e =
      served_settled (Length n) built
      (length_of_table n s g.block f
      ∙ ap (λ j. out (Word j) (shelf_of s g.block)) (zero-add (length (pairs_in t g.block)) ∙ length-map (holds table_layout g.block t) two ∙ sym e))
      (left_alone h u)

-- calls that find no such place
module _ (n i : ℕ) (s : Things) (g g' : Ground) {e : Reason} (h : Sound s g.block g.many) (u : Untouched g g') (p : Err e ≡ place_at n i s g.block) where
  here : Shelf
  here = shelf_of s g.block

  pub at_turned : T (can (At n i)) → Served (At n i) s g (refusal e) s g'
  unfolding does here
  at_turned built = served_settled (At n i) built (off_place n s g.block (λ xs. out (Word (get_or xs i 0)) here) i p) (left_alone h u)

  pub set_turned : (x : ℕ) → T (can (Set n i x)) → Served (Set n i x) s g (refusal e) s g'
  unfolding does here
  set_turned x built = served_settled (Set n i x) built (off_place n s g.block (λ xs. out Done (put n (ARow (set xs i x)) here)) i p) (left_alone h u)

  pub delete_turned : T (can (Delete n i)) → Served (Delete n i) s g (refusal e) s g'
  unfolding does here
  delete_turned built =
      served_settled (Delete n i) built
      (off_place n s g.block (λ xs. out (Word (get_or xs i 0)) (put n (ARow (take i xs ++ drop (suc i) xs)) here)) i p) (left_alone h u)

-- the word at i
pub at_served : (n i y : ℕ) (s : Things) (g g' : Ground) {t : Tree} → T (can (At n i)) → Placed n i s g t → y ≡ get_or (holds row_layout g.block t) i 0 → Untouched g g'
    → Served (At n i) s g (Word y) s g'
unfolding does words_in
at_served n i y s g g' built q e u =
    let v : Shelf = shelf_of s g.block in
    served_settled (At n i) built (on_place n s g.block (λ xs. out (Word (get_or xs i 0)) v) i q.place ∙ ap (λ j. out (Word j) v) (sym e)) (left_alone q.ready.sound u)

-- a call that finds no row
pub insert_turned : (n : ℕ) (s : Things) (g : Ground) {e : Reason} → Sound s g.block g.many → (i x : ℕ) → T (can (Insert n i x)) → Err e ≡ row_at n s
    → Served (Insert n i x) s g (refusal e) s g
unfolding does
insert_turned n s g h i x built p =
    let v : Shelf = shelf_of s g.block in
    unchanged (Insert n i x) built (off_row n s g.block (λ xs. cond (nat_le i (length xs)) (out Done (put n (ARow (take i xs ++ (x ∷ drop i xs))) v)) (no 5 v)) p) h

-- calls on the row t under n that find no gap at i, or no room
module _ (n : ℕ) (s : Things) (g g' : Ground) (t : Tree) (h : Sound s g.block g.many) (f : Ok t ≡ row_at n s) (u : Untouched g g') (i x : ℕ) (built : T (can (Insert n i x))) where
  pub insert_no_place : length (holds row_layout g.block t) < i → Served (Insert n i x) s g (No 5) s g'
  unfolding words_in
  insert_no_place l = served_settled (Insert n i x) built (insert_past n s g.block i x f l) (left_alone h u)

  pub insert_full : i ≤ length (holds row_layout g.block t) → g'.failed ≡ true → Served (Insert n i x) s g Full s g'
  unfolding words_in may_fill refuses
  insert_full l failed =
      served_full (Insert n i x) built tt (subst⁻¹ T failed tt)
      (subst⁻¹ (λ (o : Out). T (not (refuses o.answer))) (insert_is n s g.block i x f l) tt)
      (left_alone h u).shelf (left_alone h u).sound

-- the row t under n has become t'
module _ (n k : ℕ) (s s' : Things) (g g' : Ground) (t t' : Tree) (h : Sound s g.block g.many) (f : Ok t ≡ row_at n s)
    (e : s'.slots ≡ set s.slots n (Some (kept.Row t')))
    (r : Ran k (owns row_layout g.block t) (owns row_layout g'.block t') (memory_of g) (memory_of g')) (ok : SlotStands g'.block (Some (kept.Row t'))) (i : ℕ) where
  row_renewed : Settled s' g'.block g'.many (put n (ARow (words_in t' g'.block)) (shelf_of s g.block))
  row_renewed = renewed s s' g g' n k (Some (kept.Row t)) (Some (kept.Row t')) h (low row_here n s f) (row_slot n s f) e r ok

  pub insert_served : (x : ℕ) → T (can (Insert n i x)) → i ≤ length (holds row_layout g.block t)
      → holds row_layout g'.block t' ≡ take i (holds row_layout g.block t) ++ (x ∷ drop i (holds row_layout g.block t)) → Served (Insert n i x) s g Done s' g'
  unfolding words_in
  insert_served x built l w =
      served_settled (Insert n i x) built (insert_is n s g.block i x f l ∙ ap (λ ws. out Done (put n (ARow ws) (shelf_of s g.block))) (sym w)) row_renewed

  pub delete_served : (y : ℕ) → T (can (Delete n i)) → Ok t ≡ place_at n i s g.block → y ≡ get_or (holds row_layout g.block t) i 0
      → holds row_layout g'.block t' ≡ take i (holds row_layout g.block t) ++ drop (suc i) (holds row_layout g.block t) → Served (Delete n i) s g (Word y) s' g'
  unfolding does words_in
  delete_served y built p q w =
      let v : Shelf = shelf_of s g.block in
      served_settled (Delete n i) built
      (on_place n s g.block (λ xs. out (Word (get_or xs i 0)) (put n (ARow (take i xs ++ drop (suc i) xs)) v)) i p
      ∙ ap (λ j. out (Word j) (put n (ARow (take i (words_in t g.block) ++ drop (suc i) (words_in t g.block))) v)) (sym q)
      ∙ ap (λ ws. out (Word y) (put n (ARow ws) v)) (sym w))
      row_renewed

  pub set_laid : (x : ℕ) → T (can (Set n i x)) → Ok t ≡ place_at n i s g.block
      → holds row_layout g'.block t' ≡ set (holds row_layout g.block t) i x → Served (Set n i x) s g Done s' g'
  unfolding does words_in
  set_laid x built p w =
      let v : Shelf = shelf_of s g.block in
      served_settled (Set n i x) built
      (on_place n s g.block (λ xs. out Done (put n (ARow (set xs i x)) v)) i p ∙ ap (λ ws. out Done (put n (ARow ws) v)) (sym w)) row_renewed

-- a word is set in place: the tree is the same, and no slot is laid
pub set_served : (n k i x : ℕ) (s : Things) (g g' : Ground) (t : Tree) → T (can (Set n i x)) → Placed n i s g t
    → holds row_layout g'.block t ≡ set (holds row_layout g.block t) i x
    → Ran k (owns row_layout g.block t) (owns row_layout g'.block t) (memory_of g) (memory_of g') → SlotStands g'.block (Some (kept.Row t))
    → Served (Set n i x) s g Done s g'
set_served n k i x s g g' t built q w r ok = set_laid n k s s g g' t t q.ready.sound q.row same r ok i x built q.place w
  where
    same : s.slots ≡ set s.slots n (Some (kept.Row t))
    same = sym (set-get_or s.slots n None) ∙ ap (set s.slots n) (row_slot n s q.row)
