-- What a line of text asks. `line_of` is the whole of it: the words of the line, the numbers among them, and one table.
-- Assumes nothing.
use Rattle.std.specs.Prelude.{ℕ, zero, suc, ◌-◌, ◌^◌, min, Bool, true, false, cond, ◌&&◌, List, [], ◌∷◌, Some, None, codes, Option, ◌==◌, nat_lt, slice_index}
use Prim.Native.String.{String}
use Rattle.std.specs.Str.Parse.{digits_value}
use Rattle.std.specs.Str.{all_ascii_digits, bytes_eq}
use Rattle.things.specs.declared.Op.TheVariants.{Row, Table, Free, Length, At, Set, Insert, Delete, Split, Join, Put, Get, Drop, Least, Count, Nth, Cut, Merge}
use Rattle.script.specs.declared.line.Line.{Line}
use Rattle.script.specs.declared.line.Line.TheVariants.{Call, Refuse, Room, Held}

-- a byte before the first word
abbrev pub onto : ℕ → List (List ℕ) → List (List ℕ)
onto c [] = (c ∷ []) ∷ []
onto c (w ∷ ws) = (c ∷ w) ∷ ws

-- the words of a text: it is cut at each space, so two spaces have an empty word between them
abbrev pub words : List ℕ → List (List ℕ)
words [] = [] ∷ []
words (c ∷ cs) = cond (c == 32) ([] ∷ words cs) (onto c (words cs))

-- one decimal digit or more, below 2^64
abbrev pub number : List ℕ → Option ℕ
number [] = None
number (c ∷ cs) = cond (all_ascii_digits (c ∷ cs) && nat_lt (digits_value 10 (c ∷ cs)) (2 ^ 64)) (Some (digits_value 10 (c ∷ cs))) None

abbrev pub both : Option ℕ → Option (List ℕ) → Option (List ℕ)
both None p = None
both (Some n) None = None
both (Some n) (Some ns) = Some (n ∷ ns)

-- each word a number
abbrev pub numbers : List (List ℕ) → Option (List ℕ)
numbers [] = Some []
numbers (w ∷ ws) = both (number w) (numbers ws)

-- the number at a place
abbrev pub nth : List ℕ → ℕ → ℕ
nth a i = slice_index a i

-- the name at a place; one that does not fit into 32 bits is the largest that does, which is no name either
abbrev pub name : List ℕ → ℕ → ℕ
name a i = min (nth a i) (2 ^ 32 - 1)

-- a keyword, how many numbers follow it, and what that asks
pub record Entry : Type 0 where
  pub word : List ℕ
  pub count : ℕ
  pub line : List ℕ → Line

abbrev pub entry : String → ℕ → (List ℕ → Line) → Entry
entry w n f = record { word = codes w; count = n; line = f }

abbrev pub table : List Entry
table =
    entry "row" 1 (λ a. Call (Row (name a 0)))
    ∷ entry "table" 1 (λ a. Call (Table (name a 0)))
    ∷ entry "free" 1 (λ a. Call (Free (name a 0)))
    ∷ entry "length" 1 (λ a. Call (Length (name a 0)))
    ∷ entry "at" 2 (λ a. Call (At (name a 0) (nth a 1)))
    ∷ entry "set" 3 (λ a. Call (Set (name a 0) (nth a 1) (nth a 2)))
    ∷ entry "insert" 3 (λ a. Call (Insert (name a 0) (nth a 1) (nth a 2)))
    ∷ entry "delete" 2 (λ a. Call (Delete (name a 0) (nth a 1)))
    ∷ entry "split" 3 (λ a. Call (Split (name a 0) (nth a 1) (name a 2)))
    ∷ entry "join" 2 (λ a. Call (Join (name a 0) (name a 1)))
    ∷ entry "put" 3 (λ a. Call (Put (name a 0) (nth a 1) (nth a 2)))
    ∷ entry "get" 2 (λ a. Call (Get (name a 0) (nth a 1)))
    ∷ entry "drop" 2 (λ a. Call (Drop (name a 0) (nth a 1)))
    ∷ entry "least" 2 (λ a. Call (Least (name a 0) (nth a 1)))
    ∷ entry "count" 2 (λ a. Call (Count (name a 0) (nth a 1)))
    ∷ entry "nth" 2 (λ a. Call (Nth (name a 0) (nth a 1)))
    ∷ entry "cut" 3 (λ a. Call (Cut (name a 0) (nth a 1) (name a 2)))
    ∷ entry "merge" 2 (λ a. Call (Merge (name a 0) (name a 1)))
    ∷ entry "refuse" 1 (λ a. Refuse (nth a 0))
    ∷ entry "room" 1 (λ a. Room (nth a 0))
    ∷ entry "held" 0 (λ a. Held)
    ∷ []

-- so many, and no more
abbrev pub many : ℕ → List ℕ → Bool
many zero [] = true
many zero (n ∷ ns) = false
many (suc k) [] = false
many (suc k) (n ∷ ns) = many k ns

-- what the entry with this keyword and as many numbers asks, if there is one
abbrev pub found : List Entry → List ℕ → List ℕ → Option Line
found [] w a = None
found (e ∷ es) w a = cond (many e.count a && bytes_eq w e.word) (Some (e.line a)) (found es w a)

abbrev pub meant : List ℕ → Option (List ℕ) → Option Line
meant w None = None
meant w (Some a) = found table w a

abbrev pub asked : List (List ℕ) → Option Line
asked [] = None
asked (w ∷ ws) = meant w (numbers ws)

abbrev pub line_of : List ℕ → Option Line
line_of text = asked (words text)
