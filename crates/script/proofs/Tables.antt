-- A word that the table does not have with so many numbers.
use Rattle.std.proofs.Common.{◌≡◌, ℕ, Bool, true, false, cond, ◌&&◌, List, [], ◌∷◌, Some, None, Decides, Option, refl, length, arith}
use Rattle.std.specs.Str.{bytes_eq}
use Rattle.std.proofs.lemmas.Slice.Eq.{bytes_eq-Decides}
use Rattle.script.specs.declared.line.Line.{Line}
use Rattle.script.specs.Lines.{Entry, found, many, table}

abbrev pub Besides : Bool → Type 0 → Type 0 → Type 0
Besides true P Q = P × Q
Besides false P Q = Q

-- w is none of the keywords with as many numbers as a
abbrev pub Absent : List Entry → List ℕ → List ℕ → Type 0
Absent [] w a = Unit {0}
Absent (e ∷ es) w a = Besides (many e.count a) (w ≡ e.word → ⊥) (Absent es w a)

passed : (b s : Bool) (P Q : Type 0) (x y : Option Line) → Decides s P → (Q → None ≡ y) → Besides b (P → ⊥) Q → None ≡ cond (b && s) x y
passed true true P Q x y d k h = absurd (h.0 (d.0 refl))
passed true false P Q x y d k h = k h.1
passed false s P Q x y d k h = k h

pub absent : (es : List Entry) (w a : List ℕ) → Absent es w a → None ≡ found es w a
absent [] w a h = refl
absent (e ∷ es) w a h = passed (many e.count a) (bytes_eq w e.word) (w ≡ e.word) (Absent es w a) (Some (e.line a)) (found es w a) (bytes_eq-Decides w e.word) (absent es w a) h

module _ (w : List ℕ) where
  pub no_one : (xs : List ℕ) → length xs ≡ 1 → Absent table w (0 ∷ []) → None ≡ found table w xs
  no_one [] l h = absurd (omega arith)
  no_one (a ∷ []) l h = absent table w (a ∷ []) h
  no_one (a ∷ b ∷ xs) l h = absurd (omega arith)

  pub no_two : (xs : List ℕ) → length xs ≡ 2 → Absent table w (0 ∷ 0 ∷ []) → None ≡ found table w xs
  no_two [] l h = absurd (omega arith)
  no_two (a ∷ []) l h = absurd (omega arith)
  no_two (a ∷ b ∷ []) l h = absent table w (a ∷ b ∷ []) h
  no_two (a ∷ b ∷ c ∷ xs) l h = absurd (omega arith)

  pub no_three : (xs : List ℕ) → length xs ≡ 3 → Absent table w (0 ∷ 0 ∷ 0 ∷ []) → None ≡ found table w xs
  no_three [] l h = absurd (omega arith)
  no_three (a ∷ []) l h = absurd (omega arith)
  no_three (a ∷ b ∷ []) l h = absurd (omega arith)
  no_three (a ∷ b ∷ c ∷ []) l h = absent table w (a ∷ b ∷ c ∷ []) h
  no_three (a ∷ b ∷ c ∷ d ∷ xs) l h = absurd (omega arith)
