-- What is written of a line, cut into its words and read again.
use Rattle.std.proofs.Common.{◌≡◌, ℕ, ◌-◌, ◌^◌, ◌<◌, min, true, List, [], ◌∷◌, ◌++◌, map, Some, codes, decimal, refl, ap, ◌∙◌, append-nil, arith}
use native.Mathlib.Nat.{min-eq_left}
use Rattle.std.specs.Char.{is_ascii_lowercase}
use Rattle.std.specs.List.{list_all, AllByRecursion as All}
use Rattle.std.proofs.lemmas.List.Sums.{AllPass-from_list_all}
use Rattle.std.proofs.lemmas.Fmt.{digits_decimal, digits_value-decimal, decimal_nonempty}
use Rattle.things.specs.declared.Op.TheVariants.{Row, Table, Free, Length, At, Set, Insert, Delete, Split, Join, Put, Get, Drop, Least, Count, Nth, Cut, Merge}
use Rattle.script.specs.declared.line.Line.TheVariants.{Call, Refuse, Room, Held}
use Rattle.script.specs.Lines.{words, number, numbers, found, table, meant, asked, line_of}
use Rattle.script.specs.Back.{spaced, Name, Word, ReadsBack}
use Rattle.script.proofs.Cuts.{Whole, words_one, words_cut}
use Rattle.script.proofs.Figures.{own, number_of, digits_whole}

number_decimal : (n : ℕ) → n < 2 ^ 64 → number (decimal n) ≡ Some n
number_decimal n s = let v = digits_value-decimal own n s in number_of (decimal n) (digits_decimal own n s) (decimal_nonempty n s) (rw v s) ∙ ap (λ (m : ℕ). Some m) v

decimal_whole : (n : ℕ) → n < 2 ^ 64 → Whole (decimal n)
decimal_whole n s = digits_whole (decimal n) (digits_decimal own n s)

words_spaced : (w ns : List ℕ) → Whole w → All Word ns → words (w ++ spaced ns) ≡ w ∷ map decimal ns
words_spaced w [] h a = ap words (append-nil w) ∙ words_one w h
words_spaced w (n ∷ ns) h a =
    words_cut w (decimal n ++ spaced ns) h ∙ ap (λ (ws : List (List ℕ)). w ∷ ws) (words_spaced (decimal n) ns (decimal_whole n a.0) a.1)

numbers_decimal : (ns : List ℕ) → All Word ns → numbers (map decimal ns) ≡ Some ns
numbers_decimal [] a = refl
numbers_decimal (n ∷ ns) a = rw (number_decimal n a.0, numbers_decimal ns a.1)

-- a keyword has letters alone, so no space
letters_whole : (w : List ℕ) → list_all is_ascii_lowercase w ≡ true → Whole w
letters_whole w e i l h = let k = rw h at (AllPass-from_list_all is_ascii_lowercase w e i 0 l) in cc

-- a keyword and its numbers come out of the text as they went in
line_back : (w ns : List ℕ) → list_all is_ascii_lowercase w ≡ true → All Word ns → line_of (w ++ spaced ns) ≡ found table w ns
line_back w ns h a = ap asked (words_spaced w ns (letters_whole w h) a) ∙ ap (meant w) (numbers_decimal ns a)

-- a name that fits stays as it is, and is a word
kept : (n : ℕ) → Name n → min n (2 ^ 32 - 1) ≡ n
kept n h = min-eq_left (omega arith)

word : (n : ℕ) → Name n → Word n
word n h = omega arith

pub reads_back : ReadsBack
reads_back (Call (Row n)) h = rw (line_back (codes "row") (n ∷ []) refl (word n h, tt), kept n h)
reads_back (Call (Table n)) h = rw (line_back (codes "table") (n ∷ []) refl (word n h, tt), kept n h)
reads_back (Call (Free n)) h = rw (line_back (codes "free") (n ∷ []) refl (word n h, tt), kept n h)
reads_back (Call (Length n)) h = rw (line_back (codes "length") (n ∷ []) refl (word n h, tt), kept n h)
reads_back (Call (At n i)) h = rw (line_back (codes "at") (n ∷ i ∷ []) refl (word n h.0, (h.1, tt)), kept n h.0)
reads_back (Call (Set n i x)) h = rw (line_back (codes "set") (n ∷ i ∷ x ∷ []) refl (word n h.0, (h.1, (h.2, tt))), kept n h.0)
reads_back (Call (Insert n i x)) h = rw (line_back (codes "insert") (n ∷ i ∷ x ∷ []) refl (word n h.0, (h.1, (h.2, tt))), kept n h.0)
reads_back (Call (Delete n i)) h = rw (line_back (codes "delete") (n ∷ i ∷ []) refl (word n h.0, (h.1, tt)), kept n h.0)
reads_back (Call (Split n i m)) h = rw (line_back (codes "split") (n ∷ i ∷ m ∷ []) refl (word n h.0, (h.1, (word m h.2, tt))), kept n h.0, kept m h.2)
reads_back (Call (Join n m)) h = rw (line_back (codes "join") (n ∷ m ∷ []) refl (word n h.0, (word m h.1, tt)), kept n h.0, kept m h.1)
reads_back (Call (Put n i x)) h = rw (line_back (codes "put") (n ∷ i ∷ x ∷ []) refl (word n h.0, (h.1, (h.2, tt))), kept n h.0)
reads_back (Call (Get n i)) h = rw (line_back (codes "get") (n ∷ i ∷ []) refl (word n h.0, (h.1, tt)), kept n h.0)
reads_back (Call (Drop n i)) h = rw (line_back (codes "drop") (n ∷ i ∷ []) refl (word n h.0, (h.1, tt)), kept n h.0)
reads_back (Call (Least n i)) h = rw (line_back (codes "least") (n ∷ i ∷ []) refl (word n h.0, (h.1, tt)), kept n h.0)
reads_back (Call (Count n i)) h = rw (line_back (codes "count") (n ∷ i ∷ []) refl (word n h.0, (h.1, tt)), kept n h.0)
reads_back (Call (Nth n i)) h = rw (line_back (codes "nth") (n ∷ i ∷ []) refl (word n h.0, (h.1, tt)), kept n h.0)
reads_back (Call (Cut n i m)) h = rw (line_back (codes "cut") (n ∷ i ∷ m ∷ []) refl (word n h.0, (h.1, (word m h.2, tt))), kept n h.0, kept m h.2)
reads_back (Call (Merge n m)) h = rw (line_back (codes "merge") (n ∷ m ∷ []) refl (word n h.0, (word m h.1, tt)), kept n h.0, kept m h.1)
reads_back (Refuse k) h = line_back (codes "refuse") (k ∷ []) refl (h, tt)
reads_back (Room n) h = line_back (codes "room") (n ∷ []) refl (h, tt)
reads_back Held h = line_back (codes "held") [] refl tt
