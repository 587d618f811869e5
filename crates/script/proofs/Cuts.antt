-- A text that is cut at its first space, and the words put together again.
use Rattle.std.proofs.Common.{◌≡◌, ℕ, suc, ◌<◌, Bool, true, false, cond, eqb, List, [], ◌∷◌, ◌++◌, length, get_or, Some, None, Option, refl, ap, ◌∙◌, arith, Bor, ne_eqb, eqb-true, MatchOption}
use Rattle.std.proofs.lemmas.Str.Pattern.{IsSplitOnceResult, split_parts}
use Rattle.script.specs.Lines.{words, onto}

-- no space in it
abbrev pub Whole : List ℕ → Type 0
Whole bs = (i : ℕ) → i < length bs → get_or bs i 0 ≡ 32 → ⊥

first_not : (c : ℕ) (cs : List ℕ) → Whole (c ∷ cs) → eqb c 32 ≡ false
first_not c cs h = ne_eqb c 32 (h 0 (omega arith))

rest_whole : (c : ℕ) (cs : List ℕ) → Whole (c ∷ cs) → Whole cs
rest_whole c cs h i l = h (suc i) (omega arith)

pub words_one : (bs : List ℕ) → Whole bs → words bs ≡ bs ∷ []
words_one [] h = refl
words_one (c ∷ cs) h = rw (first_not c cs h, words_one cs (rest_whole c cs h))

pub words_cut : (xs ys : List ℕ) → Whole xs → words (xs ++ (32 ∷ ys)) ≡ xs ∷ words ys
words_cut [] ys h = refl
words_cut (c ∷ cs) ys h = rw (first_not c cs h, words_cut cs ys (rest_whole c cs h))

pub cut_words : (bs : List ℕ) (r : Option (Bor (List ℕ) × Bor (List ℕ))) → IsSplitOnceResult 32 bs r
    → MatchOption r (words bs ≡ bs ∷ []) (λ p. words bs ≡ p.0.now ∷ words p.1.now)
cut_words bs None h = words_one bs (split_parts 32 bs None h (omega arith))
cut_words bs (Some p) h =
    let k = split_parts 32 bs (Some p) h (omega arith) in
    ap words k.0 ∙ words_cut p.0.now p.1.now k.1

-- each word after a space
abbrev pub joined : List (List ℕ) → List ℕ
joined [] = []
joined (w ∷ ws) = 32 ∷ (w ++ joined ws)

joined_onto : (c : ℕ) (cs : List ℕ) (ws : List (List ℕ)) → joined ws ≡ 32 ∷ cs → joined (onto c ws) ≡ 32 ∷ (c ∷ cs)
joined_onto c cs [] e = cc
joined_onto c cs (w ∷ ws) e = cc

joined_more : (c : ℕ) (cs : List ℕ) (b : Bool) → eqb c 32 ≡ b → joined (words cs) ≡ 32 ∷ cs → joined (cond b ([] ∷ words cs) (onto c (words cs))) ≡ 32 ∷ (c ∷ cs)
joined_more c cs true t e = let is : c ≡ 32 = eqb-true c 32 t in cc
joined_more c cs false t e = joined_onto c cs (words cs) e

pub joined_words : (bs : List ℕ) → joined (words bs) ≡ 32 ∷ bs
joined_words [] = refl
joined_words (c ∷ cs) = joined_more c cs (eqb c 32) refl (joined_words cs)
