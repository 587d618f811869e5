-- What lies under a name, or why it can't be had.
-- Assumes nothing.
use Rattle.std.specs.Prelude.{ℕ, cond, Option, Some, None, Ok, Err, Result, length, nat_le, nat_lt}
use Rattle.tree.specs.declared.top.Tree.{Tree}
use Rattle.things.specs.declared.reason.Reason.{Reason}
use Rattle.things.specs.declared.reason.Reason.TheVariants as reason
use Rattle.things.specs.declared.state.Kept.{Kept}
use Rattle.things.specs.declared.state.Kept.TheVariants as kept
use Rattle.things.specs.declared.state.Things.{Things}
use Rattle.things.specs.State.{Words, words_in, names, slot_of}

abbrev pub any_here : Option Kept → Result Kept Reason
any_here None = Err reason.Absent
any_here (Some x) = Ok x

abbrev pub row_here : Option Kept → Result Tree Reason
row_here None = Err reason.Absent
row_here (Some (kept.Row t)) = Ok t
row_here (Some (kept.Table t)) = Err reason.OtherKind

abbrev pub table_here : Option Kept → Result Tree Reason
table_here None = Err reason.Absent
table_here (Some (kept.Row t)) = Err reason.OtherKind
table_here (Some (kept.Table t)) = Ok t

-- a row that has a place i
abbrev pub place_here : ℕ → Words → Option Kept → Result Tree Reason
place_here i f None = Err reason.Absent
place_here i f (Some (kept.Row t)) = cond (nat_lt i (length (words_in t f))) (Ok t) (Err reason.NoPlace)
place_here i f (Some (kept.Table t)) = Err reason.OtherKind

abbrev pub none_here : Option Kept → Result (Unit {0}) Reason
none_here None = Ok tt
none_here (Some x) = Err reason.Taken

-- what is under a name, as one of these takes it
abbrev pub at_name : {A : Type 0} → (Option Kept → Result A Reason) → ℕ → Things → Result A Reason
at_name f n s = cond (nat_le names n) (Err reason.NoName) (f (slot_of s n))

abbrev pub slot_at : ℕ → Things → Result (Option Kept) Reason
slot_at = at_name Ok

abbrev pub found : ℕ → Things → Result Kept Reason
found = at_name any_here

abbrev pub row_at : ℕ → Things → Result Tree Reason
row_at = at_name row_here

abbrev pub table_at : ℕ → Things → Result Tree Reason
table_at = at_name table_here

abbrev pub place_at : ℕ → ℕ → Things → Words → Result Tree Reason
place_at n i s f = at_name (place_here i f) n s

abbrev pub vacant : ℕ → Things → Result (Unit {0}) Reason
vacant = at_name none_here
