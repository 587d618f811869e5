-- What a name gives, and what a call on it then comes to.
use Rattle.std.proofs.Common.{◌≡◌, ℕ, ◌+◌, ◌<◌, ◌≤◌, List, [], ◌∷◌, ◌++◌, length, take, drop, cond, nat_lt, Option, Some, None, Ok, Err, Result, arith}
use Rattle.std.proofs.lemmas.Bool.Decides.{nat_tests}
use Rattle.tree.specs.declared.top.Tree.{Tree}
use Rattle.things.specs.declared.Op.TheVariants.{Row, Free, Length, Insert}
use Rattle.things.specs.declared.Answer.TheVariants.{Done, Word, No}
use Rattle.things.specs.declared.reason.Reason.{Reason}
use Rattle.things.specs.declared.reason.Reason.TheVariants.{NoPlace}
use Rattle.things.specs.declared.state.Kept.{Kept}
use Rattle.things.specs.declared.state.Kept.TheVariants as kept
use Rattle.things.specs.declared.state.Things.{Things}
use Rattle.things.specs.Names.{at_name, found, row_at, place_at, vacant}
use Rattle.things.specs.Reasons.{refusal}
use Rattle.things.specs.Things.{Nothing, ARow, Out, out, no, put, does, of_row, is_nothing, is_row, words_of, pairs_of}
use Rattle.things.specs.State.{Words, names, shelf_of, slot_of, words_in, pairs_in}

-- a name at which something is had is one of the 256
pub low : {A : Type 0} (k : Option Kept → Result A Reason) (n : ℕ) (s : Things) {a : A} → Ok a ≡ at_name k n s → n < names
low k n s h = grind (arith, nat_tests)

-- and what is there
pub found_slot : (n : ℕ) (s : Things) {x : Kept} → Ok x ≡ found n s → slot_of s n ≡ Some x
found_slot n s h = grind (arith, nat_tests)

pub row_slot : (n : ℕ) (s : Things) {t : Tree} → Ok t ≡ row_at n s → slot_of s n ≡ Some (kept.Row t)
row_slot n s h = grind (arith, nat_tests)

pub vacant_slot : (n : ℕ) (s : Things) {u : Unit {0}} → Ok u ≡ vacant n s → slot_of s n ≡ None
vacant_slot n s h = grind (arith, nat_tests)

-- a row with a place is a row, and has that place
module _ (n i : ℕ) (s : Things) (f : Words) {t : Tree} where
  pub place_row : Ok t ≡ place_at n i s f → Ok t ≡ row_at n s
  place_row h = grind (arith, nat_tests)

  pub place_inside : Ok t ≡ place_at n i s f → i < length (words_in t f)
  place_inside h = grind (arith, nat_tests)

  pub place_there : Ok t ≡ row_at n s → i < length (words_in t f) → Ok t ≡ place_at n i s f
  place_there h l = grind (arith, nat_tests)

  pub place_past : Ok t ≡ row_at n s → length (words_in t f) ≤ i → Err NoPlace ≡ place_at n i s f
  place_past h l = grind (arith, nat_tests)

-- what a call on a row comes to: at the row, at a place of it, or turned away
module _ (n : ℕ) (s : Things) (f : Words) (F : List ℕ → Out) where
  pub off_row : {e : Reason} → Err e ≡ row_at n s → of_row n (shelf_of s f) F ≡ out (refusal e) (shelf_of s f)
  unfolding shelf_of is_nothing is_row
  off_row h = grind (arith, nat_tests)

  pub on_place : (i : ℕ) {t : Tree} → Ok t ≡ place_at n i s f
      → of_row n (shelf_of s f) (λ xs. cond (nat_lt i (length xs)) (F xs) (no 5 (shelf_of s f))) ≡ F (words_in t f)
  unfolding shelf_of is_nothing is_row words_of
  on_place i h = grind (arith, nat_tests)

  pub off_place : (i : ℕ) {e : Reason} → Err e ≡ place_at n i s f
      → of_row n (shelf_of s f) (λ xs. cond (nat_lt i (length xs)) (F xs) (no 5 (shelf_of s f))) ≡ out (refusal e) (shelf_of s f)
  unfolding shelf_of is_nothing is_row words_of
  off_place i h = grind (arith, nat_tests)

-- what other calls come to
module _ (n : ℕ) (s : Things) (f : Words) where
  pub row_refused : {e : Reason} → Err e ≡ vacant n s → does (Row n) (shelf_of s f) ≡ out (refusal e) (shelf_of s f)
  unfolding does shelf_of is_nothing
  row_refused h = grind (arith, nat_tests)

  pub row_is : {u : Unit {0}} → Ok u ≡ vacant n s → does (Row n) (shelf_of s f) ≡ out Done (put n (ARow []) (shelf_of s f))
  unfolding does shelf_of is_nothing
  row_is h = grind (arith, nat_tests)

  pub free_refused : {e : Reason} → Err e ≡ found n s → does (Free n) (shelf_of s f) ≡ out (refusal e) (shelf_of s f)
  unfolding does shelf_of is_nothing
  free_refused h = grind (arith, nat_tests)

  pub free_is : {x : Kept} → Ok x ≡ found n s → does (Free n) (shelf_of s f) ≡ out Done (put n Nothing (shelf_of s f))
  unfolding does shelf_of is_nothing
  free_is h = grind (arith, nat_tests)

  pub length_refused : {e : Reason} → Err e ≡ found n s → does (Length n) (shelf_of s f) ≡ out (refusal e) (shelf_of s f)
  unfolding does shelf_of is_nothing
  length_refused h = grind (arith, nat_tests)

  pub length_of_row : {t : Tree} → Ok (kept.Row t) ≡ found n s → does (Length n) (shelf_of s f) ≡ out (Word (length (words_in t f) + 0)) (shelf_of s f)
  unfolding does shelf_of is_nothing words_of pairs_of
  length_of_row h = grind (arith, nat_tests)

  pub length_of_table : {t : Tree} → Ok (kept.Table t) ≡ found n s → does (Length n) (shelf_of s f) ≡ out (Word (0 + length (pairs_in t f))) (shelf_of s f)
  unfolding does shelf_of is_nothing words_of pairs_of
  length_of_table h = grind (arith, nat_tests)

  pub insert_is : (i x : ℕ) {t : Tree} → Ok t ≡ row_at n s → i ≤ length (words_in t f)
      → does (Insert n i x) (shelf_of s f) ≡ out Done (put n (ARow (take i (words_in t f) ++ (x ∷ drop i (words_in t f)))) (shelf_of s f))
  unfolding does shelf_of is_nothing is_row words_of
  insert_is i x h l = grind (arith, nat_tests)

  pub insert_past : (i x : ℕ) {t : Tree} → Ok t ≡ row_at n s → length (words_in t f) < i → does (Insert n i x) (shelf_of s f) ≡ out (No 5) (shelf_of s f)
  unfolding does shelf_of is_nothing is_row words_of
  insert_past i x h l = grind (arith, nat_tests)
