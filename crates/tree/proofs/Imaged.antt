-- Pages as they lie in blocks: how many entries there are, and that they fit.
use Rattle.std.proofs.Common.{◌≡◌, ℕ, suc, ◌+◌, ◌*◌, ◌<◌, ◌≤◌, List, length, get_or, take, drop, sym, ap, ◌∙◌, mul-le-mul_right, suc-mul, mul_comm, arith}
use Rattle.std.proofs.lemmas.List.{drop-drop}
use Rattle.page.specs.Layout.{imaged}
use Rattle.page.proofs.Images.{rows_get}
use Rattle.tree.proofs.Imaging.{first_word}

module _ {X : Type 0} (w : ℕ) (dec : List ℕ → X) (read : List ℕ → List X) (law : (ws : List ℕ) → read ws ≡ imaged w dec ws) where
  -- entry i, by its words
  pub entry_at : (ws : List ℕ) (i : ℕ) (d : X) → i < length (read ws) → dec (take w (drop (2 + w * i) ws)) ≡ get_or (read ws) i d
  entry_at ws i d l =
      let e : 2 + w * i ≡ 2 + i * w = omega (arith, mul_comm i w) in
      ap (λ (k : ℕ). dec (take w (drop k ws))) e ∙ ap (λ (vs : List ℕ). dec (take w vs)) (sym (drop-drop (i * w) 2 ws))
      ∙ rows_get w dec i (get_or ws 0 0) (drop 2 ws) d (omega (arith, first_word w dec read law ws)) ∙ ap (λ (es : List X). get_or es i d) (sym (law ws))

-- the words of an entry of a page are words of its block
pub entry_inside : (w most i : ℕ) → most * w ≤ 62 → i < most → 2 + w * i + w ≤ 64
entry_inside w most i f l = omega (arith, f, mul_comm i w, suc-mul i w, mul-le-mul_right {m = suc i} {n = most} w (omega arith))
