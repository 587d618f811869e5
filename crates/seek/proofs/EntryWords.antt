-- The words of an entry are written.
use Rattle.std.proofs.Common.{◌≡◌, ℕ, suc, ◌+◌, ◌*◌, ◌<◌, ◌≤◌, List, ◌++◌, length, get_or, take, drop, set, sym, ap, ◌∙◌, subst, mul-le-mul_right, suc-mul, mul_comm, arith, length-drop, rules}
use lib.Seq.{paste}
use Rattle.std.proofs.lemmas.List.{take-append-le, take_all, same_lists, places}
use Rattle.std.proofs.lemmas.List.Edits.{length-paste}
use Rattle.page.specs.Layout.{rows, imaged}
use Rattle.page.proofs.Images.{rows_set}
use Rattle.store.specs.Memory.{Memory, Stored, wrote}
use Rattle.store.specs.Steps.{Ran, hit}
use Rattle.store.proofs.Running.{ran_wrote, ran_more}
use Rattle.tree.specs.Pages.{Writing}
use Rattle.tree.proofs.Imaging.{first_word}

-- at the front
pub take_pasted : (w : ℕ) (d s : List ℕ) → length s ≡ w → take w (paste d 0 s w) ≡ s
take_pasted w d s k =
    let e : take w s ≡ s = take_all w s (omega (arith, k)) in
    take-append-le w (take w s) (drop (0 + w) d) (omega (arith, ap length e, k)) ∙ ap (take w) e ∙ e

-- behind the first h words, over variables
module _ (h a w : ℕ) (d s : List ℕ) (l : h + a + w ≤ length d) (k : length s ≡ w) where
  drop_pasted : drop h (paste d (h + a) s w) ≡ paste (drop h d) a s w
  drop_pasted = same_lists _ _ (search (rules, places)) (λ j e q. grind (arith, places))

  first_pasted : 0 < h → get_or (paste d (h + a) s w) 0 0 ≡ get_or d 0 0
  first_pasted p = grind (arith, places)

-- the words of entry i of a page are those of x now
module _ {X : Type 0} (w : ℕ) (dec : List ℕ → X) (read : List ℕ → List X) (law : (ws : List ℕ) → read ws ≡ imaged w dec ws) (i : ℕ) (x : X) (enc : List ℕ) (sized : length enc ≡ w) (back : dec enc ≡ x) where
  pasted_reads : (ws : List ℕ) → i < length (read ws) → length (read ws) * w + 2 ≤ length ws → read (paste ws (2 + i * w) enc w) ≡ set (read ws) i x
  pasted_reads ws l h =
      let n = first_word w dec read law ws in
      let room : length (read ws) * w ≤ length (drop 2 ws) = omega (arith, length-drop 2 ws) in
      let within : 2 + i * w + w ≤ length ws = omega (arith, h, suc-mul i w, mul-le-mul_right {m = suc i} {n = length (read ws)} w (omega arith)) in
      let zs : List ℕ = paste ws (2 + i * w) enc w in
      let same : get_or zs 0 0 ≡ get_or ws 0 0 = first_pasted 2 (i * w) w ws enc within sized (omega arith) in
      law zs ∙ ap (λ (k : ℕ). rows w dec k (drop 2 zs)) same
      ∙ rows_set w dec (get_or ws 0 0) i x enc (drop 2 ws) (drop 2 zs) (omega (arith, n)) (rw n at room) sized back (drop_pasted 2 (i * w) w ws enc within sized)
      ∙ ap (λ (es : List X). set es i x) (sym (law ws))

  pub writing_entry : (b k : ℕ) (us : List ℕ) (m m' : Memory) → Stored m.block b → i < length (read (m.block b)) → length (read (m.block b)) * w ≤ 62 → w ≤ k → take w us ≡ enc
      → m' ≡ wrote w b (paste (m.block b) (2 + w * i) us w) m → Writing k read b (set (read (m.block b)) i x) m m'
  writing_entry b k us m m' s l h q t e =
      let old : List ℕ = m.block b in
      let zs : List ℕ = paste old (2 + i * w) enc w in
      let within : 2 + i * w + w ≤ 64 = omega (arith, h, suc-mul i w, mul-le-mul_right {m = suc i} {n = length (read old)} w (omega arith)) in
      let long : length zs ≡ 64 = length-paste old (2 + i * w) enc w (omega (arith, s.1)) (omega (arith, sized)) ∙ s.1 in
      let c : 2 + w * i ≡ 2 + i * w = omega (arith, mul_comm i w) in
      let full : take w us ≡ take w enc = t ∙ sym (take_all w enc (omega (arith, sized))) in
      let is : m' ≡ wrote w b zs m = e ∙ ap (λ (a : ℕ). wrote w b (paste old a us w) m) c ∙ ap (λ (vs : List ℕ). wrote w b ((take (2 + i * w) old ++ vs) ++ drop (2 + i * w + w) old) m) full in
      record {
        wrote = record { words = zs; long = long; reads = pasted_reads old l (omega (arith, h, s.1)); is = ap (λ (y : Memory). y.block) is };
        ran = subst (λ (y : Memory). Ran k (hit b) (hit b) m y) (sym is) (ran_more _ _ _ _ _ (ran_wrote w b zs m s (omega (arith, long))) k q);
        many = ap (λ (y : Memory). y.many) is;
      }
