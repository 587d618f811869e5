-- What is told of a refusal, and of what a call comes to.
-- Assumes nothing.
use Rattle.std.specs.Prelude.{ℕ, Ok, Err, Result}
use Rattle.things.specs.declared.Answer.{Answer}
use Rattle.things.specs.declared.Answer.TheVariants.{Done, Word, Pair, No, Full}
use Rattle.things.specs.declared.reason.Reason.{Reason}
use Rattle.things.specs.declared.reason.Reason.TheVariants as reason

abbrev pub refusal : Reason → Answer
refusal reason.NoName = No 1
refusal reason.Taken = No 2
refusal reason.Absent = No 3
refusal reason.OtherKind = No 4
refusal reason.NoPlace = No 5
refusal reason.NotBelow = No 6
refusal reason.NoKey = No 7
refusal reason.NotBuilt = No 9
refusal reason.NoRoom = Full

-- what is told of a call: what it came to, or why it was turned away
abbrev pub told : {A : Type 0} → (A → Answer) → Result A Reason → Answer
told f (Ok x) = f x
told f (Err r) = refusal r

abbrev pub told_done : Result (Unit {0}) Reason → Answer
told_done = told (λ u. Done)

abbrev pub told_word : Result ℕ Reason → Answer
told_word = told Word

abbrev pub told_pair : Result (ℕ × ℕ) Reason → Answer
told_pair = told (λ p. Pair p.0 p.1)
