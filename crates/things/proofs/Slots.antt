-- What is under one name: it depends on its blocks, and has no more of them than it may.
use Rattle.std.proofs.Common.{◌≡◌, ℕ, zero, suc, ◌+◌, ◌/◌, ◌<◌, ◌≤◌, map, length, set, Option, Some, None, refl, ap, ◌∙◌, arith, length-set, get_or-set_other, get_or-set_same}
use lib.ListN.{length-map}
use Rattle.std.proofs.lemmas.List.{get_or_past}
use Rattle.page.specs.Layout.{Layout}
use Rattle.page.specs.Kinds.{row_layout, table_layout}
use Rattle.store.specs.Steps.{Mem, Same, sum_to}
use Rattle.store.proofs.Sums.{sum_to_none}
use Rattle.tree.specs.Tree.{Root, contents, blocks}
use Rattle.tree.specs.Tall.{tall_contents, tall_uses, Tall}
use Rattle.tree.specs.Trees.{holds}
use Rattle.tree.proofs.Tall.{tall_frame}
use Rattle.tree.proofs.Counting.{blocks_used}
use Rattle.tree.proofs.Bounds.{bound_62_31, bound_31_20}
use Rattle.things.specs.declared.state.Kept.{Kept}
use Rattle.things.specs.declared.state.Kept.TheVariants as kept
use Rattle.things.specs.declared.state.Things.{Things}
use Rattle.things.specs.Things.{ARow, ATable, weight}
use Rattle.things.specs.State.{names, Words, words_in, pairs_in, two, thing, slot_of, slot_uses, slot_blocks, SlotStands}

pub record SlotKept (f f' : Words) (x : Option Kept) : Type 0 where
  pub same_thing : thing x f' ≡ thing x f
  pub same_uses : (c : ℕ) → slot_uses f' x c ≡ slot_uses f x c
  pub still_stands : SlotStands f x → SlotStands f' x

pub slot_frame : (f f' : Words) (x : Option Kept) → Same (slot_uses f x) f f' → SlotKept f f' x
unfolding words_in pairs_in
slot_frame f f' None s = record { same_thing = refl; same_uses = λ c. refl; still_stands = λ w. w }
slot_frame f f' (Some (kept.Row t)) s =
    let k = tall_frame row_layout t.height f f' t.root s in
    record { same_thing = ap ARow k.same_contents; same_uses = k.same_uses; still_stands = k.still_tall }
slot_frame f f' (Some (kept.Table t)) s =
    let k = tall_frame table_layout t.height f f' t.root s in
    record { same_thing = ap (λ ps. ATable (map two ps)) k.same_contents; same_uses = k.same_uses; still_stands = k.still_tall }

-- the uses of a tree are as many as its blocks
pub blocks_when_tall : {E : Type 0} (K : Layout E) (h : ℕ) (f : Mem) (b : ℕ) → Tall K (suc h) f b → sum_to 1048576 (tall_uses K (suc h) f b) ≡ blocks K h f b
unfolding Tall tall_uses
blocks_when_tall K h f b w = blocks_used K h f b w.sound

module _ {E : Type 0} (K : Layout E) (rate : ℕ) (bound : (h : ℕ) (f : Mem) (b : ℕ) → Root K h f b → blocks K h f b ≤ 1 + length (contents K h f b) / rate) where
  tall_weighs : (h : ℕ) (f : Mem) (b : ℕ) → Tall K h f b → sum_to 1048576 (tall_uses K h f b) ≤ 2 + length (tall_contents K h f b) / rate
  unfolding Tall tall_uses tall_contents
  tall_weighs zero f b w = let z : sum_to 1048576 (tall_uses K zero f b) ≡ 0 = sum_to_none 1048576 in omega arith
  tall_weighs (suc h) f b w = omega (arith, blocks_when_tall K h f b w, bound h f b w)

pub slot_weighs : (f : Words) (x : Option Kept) → SlotStands f x → slot_blocks f x ≤ weight (thing x f)
unfolding weight words_in pairs_in
slot_weighs f None w = omega (arith, sum_to_none 1048576)
slot_weighs f (Some (kept.Row t)) w = tall_weighs row_layout 24 (bound_62_31 row_layout refl refl) t.height f t.root w
slot_weighs f (Some (kept.Table t)) w =
    rw (length-map (holds table_layout f t) two)
    (tall_weighs table_layout 12 (bound_31_20 table_layout refl refl) t.height f t.root w)

-- a slot is laid: it is under its name, and all else is as it was
module _ (s s' : Things) (n : ℕ) (x : Option Kept) (e : s'.slots ≡ set s.slots n x) where
  pub laid_size : length s'.slots ≡ length s.slots
  laid_size = ap length e ∙ length-set s.slots n x

  pub laid_here : n < length s.slots → slot_of s' n ≡ x
  laid_here l = rw e (get_or-set_same s.slots n x None l)

  pub laid_other : (k : ℕ) → (k ≡ n → ⊥) → slot_of s' k ≡ slot_of s k
  laid_other k d = rw e (get_or-set_other s.slots n k x None d)

-- past the names is nothing
pub slot_past : (s : Things) (n : ℕ) → length s.slots ≡ names → names ≤ n → slot_of s n ≡ None
slot_past s n e l = get_or_past s.slots n None (omega arith)
