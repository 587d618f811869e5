-- A line is text: each byte of it is a keyword's, a digit or a space.
use Rattle.std.proofs.Common.{◌≡◌, ℕ, suc, ◌<◌, Bool, true, false, cond, ◌&&◌, List, [], ◌∷◌, ◌++◌, get_or, Some, None, IsUtf8, IsAscii, Decides, Option, refl, arith}
use Rattle.std.specs.Char.{is_ascii_lowercase}
use Rattle.std.specs.List.{list_all}
use Rattle.std.specs.Str.{bytes_eq}
use Rattle.std.proofs.lemmas.Bool.{and_parts}
use Rattle.std.proofs.lemmas.Bool.Decides.{nat_tests}
use Rattle.std.proofs.lemmas.Fmt.{IsAscii-from_digits}
use Rattle.std.proofs.lemmas.List.Sums.{AllPass-from_list_all}
use Rattle.std.proofs.lemmas.Slice.Eq.{bytes_eq-Decides}
use Rattle.std.proofs.lemmas.Str.{IsAscii-append, IsUtf8-from_ascii}
use Rattle.std.proofs.lemmas.Str.Ascii.{IsAscii-nil, IsAscii-cons, IsAscii-from_all}
use Rattle.script.specs.declared.line.Line.{Line}
use Rattle.script.specs.Lines.{Entry, words, number, numbers, both, many, found, table, meant, asked, line_of}
use Rattle.script.proofs.Cuts.{joined, joined_words}
use Rattle.script.proofs.Figures.{own, number_digits}

after_space : (w r : List ℕ) → IsAscii w → IsAscii r → IsAscii (32 ∷ (w ++ r))
after_space w r h k = IsAscii-cons 32 (w ++ r) (omega arith) (IsAscii-append w r h k)

numbers_ascii_by : (w : List ℕ) (ws : List (List ℕ)) (x : Option ℕ) (y : Option (List ℕ)) (a : List ℕ) → number w ≡ x → numbers ws ≡ y
    → ((b : List ℕ) → numbers ws ≡ Some b → IsAscii (joined ws)) → both x y ≡ Some a → IsAscii (32 ∷ (w ++ joined ws))
numbers_ascii_by w ws None y a p q k e = absurd cc
numbers_ascii_by w ws (Some x) None a p q k e = absurd cc
numbers_ascii_by w ws (Some x) (Some y) a p q k e = after_space w (joined ws) (IsAscii-from_digits w (own.to w (number_digits w x p))) (k y q)

numbers_ascii : (ws : List (List ℕ)) (a : List ℕ) → numbers ws ≡ Some a → IsAscii (joined ws)
numbers_ascii [] a e = IsAscii-nil
numbers_ascii (w ∷ ws) a e = numbers_ascii_by w ws (number w) (numbers ws) a refl refl (numbers_ascii ws) e

letter_low : (c : ℕ) → is_ascii_lowercase c ≡ true → c < 128
letter_low c e = grind (arith, nat_tests)

letters_ascii : (w : List ℕ) → list_all is_ascii_lowercase w ≡ true → IsAscii w
letters_ascii w e = IsAscii-from_all w (λ k d l. letter_low (get_or w k d) (AllPass-from_list_all is_ascii_lowercase w e k d l))

found_ascii_by : (e : Entry) (w : List ℕ) (b s : Bool) (x : Line) (y : Option Line) (l : Line) → Decides s (w ≡ e.word) → IsAscii e.word → (y ≡ Some l → IsAscii w)
    → cond (b && s) (Some x) y ≡ Some l → IsAscii w
found_ascii_by e w true true x y l d p k h = rw (d.0 refl) p
found_ascii_by e w true false x y l d p k h = k h
found_ascii_by e w false s x y l d p k h = k h

found_ascii : (es : List Entry) (w a : List ℕ) (l : Line) → list_all (λ (e : Entry). list_all is_ascii_lowercase e.word) es ≡ true → found es w a ≡ Some l → IsAscii w
found_ascii [] w a l p h = absurd cc
found_ascii (e ∷ es) w a l p h =
    let q = and_parts (list_all is_ascii_lowercase e.word) (list_all (λ (e : Entry). list_all is_ascii_lowercase e.word) es) p in
    found_ascii_by e w (many e.count a) (bytes_eq w e.word) (e.line a) (found es w a) l (bytes_eq-Decides w e.word) (letters_ascii e.word q.0) (found_ascii es w a l q.1) h

meant_ascii : (w : List ℕ) (ws : List (List ℕ)) (o : Option (List ℕ)) (l : Line) → numbers ws ≡ o → meant w o ≡ Some l → IsAscii (joined (w ∷ ws))
meant_ascii w ws None l p h = absurd cc
meant_ascii w ws (Some a) l p h = after_space w (joined ws) (found_ascii table w a l refl h) (numbers_ascii ws a p)

asked_ascii : (ws : List (List ℕ)) (l : Line) → asked ws ≡ Some l → IsAscii (joined ws)
asked_ascii [] l h = IsAscii-nil
asked_ascii (w ∷ ws) l h = meant_ascii w ws (numbers ws) l refl h

line_ascii : (bs : List ℕ) (l : Line) → line_of bs ≡ Some l → IsAscii bs
line_ascii bs l h = let k = rw (joined_words bs) at (asked_ascii (words bs) l h) in λ i. k (suc i)

not_some : (bs : List ℕ) (o : Option Line) → line_of bs ≡ o → (IsUtf8 bs → ⊥) → None ≡ o
not_some bs None e n = refl
not_some bs (Some l) e n = absurd (n (IsUtf8-from_ascii bs (line_ascii bs l e)))

-- what is not text is not a line
pub not_text : (bs : List ℕ) → (IsUtf8 bs → ⊥) → None ≡ line_of bs
not_text bs n = not_some bs (line_of bs) refl n
