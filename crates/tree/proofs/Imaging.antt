-- A page is read from the words of a block that it uses, and written to them.
use Rattle.std.proofs.Common.{◌≡◌, ℕ, ◌+◌, ◌*◌, ◌<◌, ◌≤◌, List, ◌++◌, length, get_or, take, drop, sym, ap, ◌∙◌, subst, mul-le-mul_left, mul-le-mul_right, mul-one, mul_comm, zero-add, arith, length-append, length-drop, length-take-le, get_or-take}
use Rattle.std.proofs.lemmas.List.{drop-take, take-take, take-append-le}
use lib.Seq.{paste}
use Rattle.page.specs.Layout.{imaged}
use Rattle.page.proofs.Images.{imaged_part, length_rows}
use Rattle.store.specs.Memory.{Memory, Stored, asked, wrote}
use Rattle.store.specs.Steps.{Ran, hit}
use Rattle.store.proofs.Memories.{asked_then}
use Rattle.store.proofs.Running.{ran_wrote, ran_more}
use Rattle.tree.specs.Pages.{page_asks, Reading, Writing}
use Rattle.tree.specs.Reads.{word_of_entry}

-- entries have a word at least, so there are no more of them than words
pub few_entries : (n w k : ℕ) → 0 < w → n * w ≤ k → n ≤ k
few_entries n w k p h = omega (arith, mul-le-mul_left n p, mul-one n, h)

-- two lists with the same beginning
pub same_word : (k : ℕ) (xs ys : List ℕ) (i : ℕ) → i < k → take k xs ≡ take k ys → get_or xs i 0 ≡ get_or ys i 0
same_word k xs ys i l e = sym (get_or-take k xs i 0 l) ∙ ap (λ (zs : List ℕ). get_or zs i 0) e ∙ get_or-take k ys i 0 l

pub same_part : (a k : ℕ) (xs ys : List ℕ) → take (a + k) xs ≡ take (a + k) ys → take k (drop a xs) ≡ take k (drop a ys)
same_part a k xs ys e = sym (drop-take a k xs) ∙ ap (drop a) e ∙ drop-take a k ys

-- where the words of n entries end
pub words_of : (w n v : ℕ) → v ≡ word_of_entry w n → v ≡ 2 + n * w
words_of w n v e = omega (arith, e, mul_comm n w)

-- written from the first word on
pub paste_front : (n : ℕ) (d s : List ℕ) → paste d 0 s n ≡ take n s ++ drop n d
paste_front n d s = ap (λ (k : ℕ). take n s ++ drop k d) (zero-add n)

module _ {E : Type 0} (w : ℕ) (dec : List ℕ → E) where
  -- the words that are used are the same, so the page is
  pub same_image : (xs ys : List ℕ) (n : ℕ) → n ≡ get_or ys 0 0 → take (2 + n * w) xs ≡ take (2 + n * w) ys → imaged w dec xs ≡ imaged w dec ys
  same_image xs ys n en e =
      let z : get_or xs 0 0 ≡ get_or ys 0 0 = same_word (2 + n * w) xs ys 0 (omega arith) e in
      let q : n ≡ get_or xs 0 0 = en ∙ sym z in
      imaged_part w dec xs ys z (subst (λ (k : ℕ). take (k * w) (drop 2 xs) ≡ take (k * w) (drop 2 ys)) q (same_part 2 (n * w) xs ys e))

-- read twice
pub reading_two : (a b k : ℕ) (m m' m'' : Memory) → m' ≡ asked a m → m'' ≡ asked b m' → b + a ≤ k → Reading k m m''
reading_two a b k m m' m'' e f l = record { times = b + a; few = l; is = f ∙ ap (asked b) e ∙ asked_then b a m }

module _ {E : Type 0} (w : ℕ) (dec : List ℕ → E) where
  -- the first words of a block are those of an image, and so the block reads as the image does
  pub writing_image : (b n : ℕ) (image : List ℕ) (es : List E) (m m' : Memory) → Stored m.block b → length image ≡ 64 → n * w ≤ 62 → get_or image 0 0 ≡ n
      → imaged w dec image ≡ es → m' ≡ wrote (2 + n * w) b (take (2 + n * w) image ++ drop (2 + n * w) (m.block b)) m → Writing page_asks (imaged w dec) b es m m'
  writing_image b n image es m m' s l h z e is =
      let k = 2 + n * w in
      let ws : List ℕ = take k image ++ drop k (m.block b) in
      let lt : length (take k image) ≡ k = length-take-le k image (omega arith) in
      let long : length ws ≡ 64 = omega (arith, length-append (take k image) (drop k (m.block b)), lt, length-drop k (m.block b), s.1) in
      let front : take k ws ≡ take k image = take-append-le k (take k image) (drop k (m.block b)) (omega (arith, lt)) ∙ take-take k k image (omega arith) in
      record {
        wrote = record { words = ws; long = long; reads = same_image w dec ws image n (sym z) front ∙ e; is = ap (λ (x : Memory). x.block) is };
        ran = subst (λ (x : Memory). Ran page_asks (hit b) (hit b) m x) (sym is) (ran_more _ _ _ _ _ (ran_wrote k b ws m s (omega (arith, long))) page_asks (omega arith));
        many = ap (λ (x : Memory). x.many) is;
      }

-- a page of a level, as it lies in a block
module _ {X : Type 0} (w : ℕ) (dec : List ℕ → X) (read : List ℕ → List X) (law : (ws : List ℕ) → read ws ≡ imaged w dec ws) where
  pub first_word : (ws : List ℕ) → length (read ws) ≡ get_or ws 0 0
  first_word ws = ap length (law ws) ∙ length_rows w dec (get_or ws 0 0) (drop 2 ws)

  pub page_fits : (most : ℕ) → most * w ≤ 62 → (ws : List ℕ) → length (read ws) ≤ most → get_or ws 0 0 * w ≤ 62
  page_fits most f ws l =
      let k : get_or ws 0 0 ≤ most = omega (arith, first_word ws) in
      omega (arith, mul-le-mul_right w k)

  -- with the number of entries and their width as the code has them
  pub read_fits : {n v : ℕ} (most : ℕ) → most * w ≤ 62 → (ws : List ℕ) → length (read ws) ≤ most → n ≡ get_or ws 0 0 → v ≡ w → n * v ≤ 62
  read_fits most f ws l e q = rw (e, q) (page_fits most f ws l)

  -- a block that reads as a page of the codec reads as one of the level
  pub writing_page : {k b : ℕ} {xs : List X} {m m' : Memory} → Writing k (imaged w dec) b xs m m' → Writing k read b xs m m'
  writing_page v = record {
    wrote = record { words = v.wrote.words; long = v.wrote.long; reads = law v.wrote.words ∙ v.wrote.reads; is = v.wrote.is };
    ran = v.ran;
    many = v.many;
  }
