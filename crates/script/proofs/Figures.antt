-- What is read of a number.
use Rattle.std.proofs.Common.{◌≡◌, ℕ, ◌^◌, ◌<◌, Bool, true, false, cond, ◌&&◌, ltb, List, [], ◌∷◌, length, get_or, Some, None, Ok, Err, Option, Result, refl, append-nil, arith, lt-ltb, ltb-true}
use Rattle.std.specs.Result.{result_ok}
use Rattle.std.specs.Str.Parse.{digits_value, ParsesUnsigned}
use Rattle.std.specs.Str.{all_ascii_digits}
use Rattle.std.proofs.lemmas.Str.Parse.{IsNumeralModel, numerals_by_value, tells_all_ascii_digits, parse_plain, not_in_digits}
use Rattle.script.specs.Reads.{Reads}
use Rattle.script.specs.Lines.{words, number, numbers, both, meant}
use Rattle.script.proofs.Cuts.{Whole, words_one, joined, joined_words}

pub own : IsNumeralModel (λ ds. all_ascii_digits ds ≡ true) (digits_value 10)
own = numerals_by_value _ tells_all_ascii_digits

pub number_of : (bs : List ℕ) → all_ascii_digits bs ≡ true → 0 < length bs → digits_value 10 bs < 2 ^ 64 → number bs ≡ Some (digits_value 10 bs)
number_of [] d l s = absurd (omega arith)
number_of (c ∷ cs) d l s = rw (d, lt-ltb (digits_value 10 (c ∷ cs)) (2 ^ 64) s)

refused : (d s : Bool) (n : ℕ) → (d ≡ true → s ≡ true → ⊥) → None ≡ cond (d && s) (Some n) None
refused true true n h = absurd (h refl refl)
refused true false n h = refl
refused false s n h = refl

-- with no sign before it, what `parse` reads is the number
pub parsed : {E : Type 0} (bs : List ℕ) (r : Result ℕ E) → (get_or bs 0 0 ≡ 43 → ⊥) → ParsesUnsigned 64 10 bs r → result_ok r ≡ number bs
parsed {E} bs (Ok x) n h = let k = parse_plain own {E = E} 64 bs (Ok x) h n in rw (k.1, number_of bs k.0.0 k.0.1 k.0.2)
parsed [] (Err e) n h = refl
parsed (c ∷ cs) (Err e) n h =
    refused (all_ascii_digits (c ∷ cs)) (ltb (digits_value 10 (c ∷ cs)) (2 ^ 64)) (digits_value 10 (c ∷ cs)) (λ d s. parse_plain own 64 (c ∷ cs) (Err e) h n (d, omega arith, ltb-true _ _ s))

pub signless : (bs : List ℕ) (r : Option ℕ) → (get_or bs 0 0 ≡ 43 → ⊥) → Reads bs r → r ≡ number bs
signless bs (Some x) n h = parsed {E = ℕ} bs (Ok x) n h
signless bs None n h = parsed {E = ℕ} bs (Err 0) n h

pub digits_whole : (bs : List ℕ) → all_ascii_digits bs ≡ true → Whole bs
digits_whole bs d = not_in_digits own bs 32 d (λ h. omega arith)

of_digits : (d s : Bool) (v n : ℕ) → cond (d && s) (Some v) None ≡ Some n → d ≡ true
of_digits true s v n e = refl
of_digits false s v n e = cc

pub number_digits : (bs : List ℕ) (n : ℕ) → number bs ≡ Some n → all_ascii_digits bs ≡ true
number_digits [] n e = refl
number_digits (c ∷ cs) n e = of_digits (all_ascii_digits (c ∷ cs)) (ltb (digits_value 10 (c ∷ cs)) (2 ^ 64)) (digits_value 10 (c ∷ cs)) n e

-- no entry of the table has four numbers or more
too_many : (w : List ℕ) (a b : ℕ) (x y : Option ℕ) (z : Option (List ℕ)) → meant w (both (Some a) (both (Some b) (both x (both y z)))) ≡ None
too_many w a b None y z = refl
too_many w a b (Some x) None z = refl
too_many w a b (Some x) (Some y) None = refl
too_many w a b (Some x) (Some y) (Some z) = refl

no_third : (w third : List ℕ) (a b : ℕ) (ws : List (List ℕ)) → joined ws ≡ 32 ∷ third → number third ≡ None → meant w (both (Some a) (both (Some b) (numbers ws))) ≡ None
no_third w third a b [] e n = cc
no_third w third a b (v ∷ []) e n = let is : v ≡ third = cc (append-nil v) in rw (is, n)
no_third w third a b (v ∷ u ∷ us) e n = too_many w a b (number v) (number u) (numbers us)

as_one_by : (w third : List ℕ) (a b : ℕ) (x : Option ℕ) → number third ≡ x → meant w (both (Some a) (both (Some b) (numbers (words third)))) ≡ meant w (both (Some a) (both (Some b) (both x (Some []))))
as_one_by w third a b (Some c) e = rw (words_one third (digits_whole third (number_digits third c e)), e)
as_one_by w third a b None e = no_third w third a b (words third) (joined_words third) e

-- what follows two numbers may be read as one word, though there be a space in it
pub as_one : (w third : List ℕ) (a b : ℕ) → meant w (both (Some a) (both (Some b) (numbers (words third)))) ≡ meant w (both (Some a) (both (Some b) (both (number third) (Some []))))
as_one w third a b = as_one_by w third a b (number third) refl
