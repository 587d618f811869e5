-- What is written of a line is read back as that line. Assumes nothing.
use Rattle.std.specs.Prelude.{◌≡◌, ℕ, ◌^◌, ◌<◌, List, [], ◌∷◌, ◌++◌, Some, codes, decimal}
use Prim.Native.String.{String}
use Rattle.things.specs.declared.Op.TheVariants.{Row, Table, Free, Length, At, Set, Insert, Delete, Split, Join, Put, Get, Drop, Least, Count, Nth, Cut, Merge}
use Rattle.script.specs.declared.line.Line.{Line}
use Rattle.script.specs.declared.line.Line.TheVariants.{Call, Refuse, Room, Held}
use Rattle.script.specs.Lines.{line_of}

-- each number in decimal, after a space
abbrev pub spaced : List ℕ → List ℕ
spaced [] = []
spaced (n ∷ ns) = 32 ∷ (decimal n ++ spaced ns)

abbrev pub line : String → List ℕ → List ℕ
line w ns = codes w ++ spaced ns

abbrev pub text_of_line : Line → List ℕ
text_of_line (Call (Row n)) = line "row" (n ∷ [])
text_of_line (Call (Table n)) = line "table" (n ∷ [])
text_of_line (Call (Free n)) = line "free" (n ∷ [])
text_of_line (Call (Length n)) = line "length" (n ∷ [])
text_of_line (Call (At n i)) = line "at" (n ∷ i ∷ [])
text_of_line (Call (Set n i x)) = line "set" (n ∷ i ∷ x ∷ [])
text_of_line (Call (Insert n i x)) = line "insert" (n ∷ i ∷ x ∷ [])
text_of_line (Call (Delete n i)) = line "delete" (n ∷ i ∷ [])
text_of_line (Call (Split n i m)) = line "split" (n ∷ i ∷ m ∷ [])
text_of_line (Call (Join n m)) = line "join" (n ∷ m ∷ [])
text_of_line (Call (Put n k x)) = line "put" (n ∷ k ∷ x ∷ [])
text_of_line (Call (Get n k)) = line "get" (n ∷ k ∷ [])
text_of_line (Call (Drop n k)) = line "drop" (n ∷ k ∷ [])
text_of_line (Call (Least n k)) = line "least" (n ∷ k ∷ [])
text_of_line (Call (Count n k)) = line "count" (n ∷ k ∷ [])
text_of_line (Call (Nth n i)) = line "nth" (n ∷ i ∷ [])
text_of_line (Call (Cut n k m)) = line "cut" (n ∷ k ∷ m ∷ [])
text_of_line (Call (Merge n m)) = line "merge" (n ∷ m ∷ [])
text_of_line (Refuse k) = line "refuse" (k ∷ [])
text_of_line (Room n) = line "room" (n ∷ [])
text_of_line Held = line "held" []

-- what fits into the 32 bits of a name, and into the 64 bits of a word
abbrev pub Name : ℕ → Type 0
Name n = n < 2 ^ 32

abbrev pub Word : ℕ → Type 0
Word x = x < 2 ^ 64

-- what the code can hold
abbrev pub InRange : Line → Type 0
InRange (Call (Row n)) = Name n
InRange (Call (Table n)) = Name n
InRange (Call (Free n)) = Name n
InRange (Call (Length n)) = Name n
InRange (Call (At n i)) = Name n × Word i
InRange (Call (Set n i x)) = Name n × Word i × Word x
InRange (Call (Insert n i x)) = Name n × Word i × Word x
InRange (Call (Delete n i)) = Name n × Word i
InRange (Call (Split n i m)) = Name n × Word i × Name m
InRange (Call (Join n m)) = Name n × Name m
InRange (Call (Put n k x)) = Name n × Word k × Word x
InRange (Call (Get n k)) = Name n × Word k
InRange (Call (Drop n k)) = Name n × Word k
InRange (Call (Least n k)) = Name n × Word k
InRange (Call (Count n k)) = Name n × Word k
InRange (Call (Nth n i)) = Name n × Word i
InRange (Call (Cut n k m)) = Name n × Word k × Name m
InRange (Call (Merge n m)) = Name n × Name m
InRange (Refuse k) = Word k
InRange (Room n) = Word n
InRange Held = Unit {0}

abbrev pub ReadsBack : Type 0
ReadsBack = (l : Line) → InRange l → line_of (text_of_line l) ≡ Some l
