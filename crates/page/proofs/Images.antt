-- Entries in the words of a block. Assumes nothing.
use Rattle.std.proofs.Common.{◌≡◌, ℕ, zero, suc, ◌+◌, ◌-◌, ◌*◌, ◌<◌, ◌≤◌, List, [], ◌∷◌, ◌++◌, length, get_or, take, drop, set, sym, refl, ap, ◌∙◌, append_assoc, suc-mul, add-mul, mul-le-mul, one-mul, zero-mul, le-mul_of_pos_right, add-one, arith, take-append-drop, rules}
use lib.Seq.{set_split, paste}
use native.Mathlib.Nat.{suc-sub-suc, sub-zero}
use Rattle.std.proofs.lemmas.List.{places, same_lists, take-take, drop-take, drop-drop, get_or-take, get_or-drop, get_or-set_same, get_or-set_other, drop-set-lt, length-take-le, length-set, ext_get_or}
use borrow.Rule.Slice.PartMut.{put_mid}
use Rattle.page.specs.Layout.{rows, imaged}

module _ {E : Type 0} (w : ℕ) (dec : List ℕ → E) where
  pub take_rows : (i n : ℕ) (ws : List ℕ) → i ≤ n → take i (rows w dec n ws) ≡ rows w dec i ws
  unfolding rows
  take_rows zero n ws h = refl
  take_rows (suc i) zero ws h = absurd (omega arith)
  take_rows (suc i) (suc n) ws h = ap (λ es. dec (take w ws) ∷ es) (take_rows i n (drop w ws) (omega arith))

  pub drop_rows : (i n : ℕ) (ws : List ℕ) → i ≤ n → drop i (rows w dec n ws) ≡ rows w dec (n - i) (drop (i * w) ws)
  unfolding rows
  drop_rows zero n ws h = rw (sub-zero, zero-mul)
  drop_rows (suc i) zero ws h = absurd (omega arith)
  drop_rows (suc i) (suc n) ws h =
      let e : suc i * w ≡ w + i * w = omega (arith, suc-mul i w) in
      rw (e, suc-sub-suc, ← drop-drop) (drop_rows i n (drop w ws) (omega arith))

  pub same_rows : (n : ℕ) (xs ys : List ℕ) → take (n * w) xs ≡ take (n * w) ys → rows w dec n xs ≡ rows w dec n ys
  unfolding rows
  same_rows zero xs ys e = refl
  same_rows (suc n) xs ys e =
      let m : suc n * w ≡ w + n * w = omega (arith, suc-mul n w) in
      let f : take (w + n * w) xs ≡ take (w + n * w) ys = rw m at e in
      let h : w ≤ w + n * w = omega arith in
      let first : take w xs ≡ take w ys = sym (take-take w (w + n * w) xs h) ∙ ap (take w) f ∙ take-take w (w + n * w) ys h in
      let rest : take (n * w) (drop w xs) ≡ take (n * w) (drop w ys) = sym (drop-take w (n * w) xs) ∙ ap (drop w) f ∙ drop-take w (n * w) ys in
      rw (first, same_rows n (drop w xs) (drop w ys) rest)

  pub rows_add : (i m : ℕ) (ws : List ℕ) → rows w dec (i + m) ws ≡ rows w dec i ws ++ rows w dec m (drop (i * w) ws)
  rows_add i m ws =
      let e : i + m - i ≡ m = omega arith in
      let t = take_rows i (i + m) ws (omega arith) in
      let d = rw e at (drop_rows i (i + m) ws (omega arith)) in
      sym (take-append-drop i (rows w dec (i + m) ws)) ∙ rw (t, d)

  pub rows_one : (ws : List ℕ) → rows w dec 1 ws ≡ dec (take w ws) ∷ []
  unfolding rows
  rows_one ws = refl

  -- one entry more
  pub rows_more : (n : ℕ) (x : E) (ws : List ℕ) → x ≡ dec (take w (drop (n * w) ws)) → rows w dec (n + 1) ws ≡ rows w dec n ws ++ (x ∷ [])
  rows_more n x ws e = rw (rows_add n 1 ws, rows_one, ← e)

  pub rows_pushed : (n x₀ : ℕ) (x : E) (enc ws us : List ℕ) → n * w + w + x₀ ≤ length ws → length enc ≡ w → dec enc ≡ x → us ≡ paste ws (x₀ + n * w) enc w →
      rows w dec (n + 1) (drop x₀ us) ≡ rows w dec n (drop x₀ ws) ++ (x ∷ [])
  rows_pushed n x₀ x enc ws us k l e f =
      let low : take (n * w) (drop x₀ us) ≡ take (n * w) (drop x₀ ws) = rw f (same_lists _ _ (search (rules, places)) (λ j d q. grind (arith, places))) in
      let mid : take w (drop (n * w) (drop x₀ us)) ≡ enc = rw f (same_lists _ _ (search (rules, places)) (λ j d q. grind (arith, places))) in
      rw (rows_more n x (drop x₀ us) (sym e ∙ ap dec (sym mid)), same_rows n (drop x₀ us) (drop x₀ ws) low)

-- a word of a part, by its place
pub get_d_part : (ws : List ℕ) (at w i : ℕ) → i < w → get_or (take w (drop at ws)) i 0 ≡ get_or ws (at + i) 0
get_d_part ws at w i h = get_or-take w (drop at ws) i 0 h ∙ get_or-drop at ws i 0

-- entry i of at most 64 is within the words
pub entry_fits : (i w v : ℕ) → i < 64 → w ≤ 3 → v ≡ w → i * v + w ≤ 192
entry_fits i w v h k e = rw e (omega (arith, suc-mul i w, mul-le-mul {n₁ = suc i} {m₁ = w} {n₂ = 64} {m₂ = 3} (omega arith) k))

module _ {E : Type 0} (w : ℕ) (dec : List ℕ → E) where
  pub length_rows : (n : ℕ) (ws : List ℕ) → length (rows w dec n ws) ≡ n
  unfolding rows
  length_rows zero ws = refl
  length_rows (suc n) ws = ap suc (length_rows n (drop w ws))

  pub rows_get : (i n : ℕ) (ws : List ℕ) (d : E) → i < n → dec (take w (drop (i * w) ws)) ≡ get_or (rows w dec n ws) i d
  unfolding rows
  rows_get i zero ws d h = absurd (omega arith)
  rows_get zero (suc n) ws d h = rw zero-mul
  rows_get (suc i) (suc n) ws d h =
      let e : suc i * w ≡ w + i * w = omega (arith, suc-mul i w) in
      rw (e, ← drop-drop) (rows_get i n (drop w ws) d (omega arith))

  pub rows_set : (n i : ℕ) (x : E) (enc ws us : List ℕ) → i < n → n * w ≤ length ws → length enc ≡ w → dec enc ≡ x → us ≡ paste ws (i * w) enc w → rows w dec n us ≡ set (rows w dec n ws) i x
  rows_set n i x enc ws us h k l e f =
      let m : ℕ = n - (i + 1) in
      let n1 : n ≡ i + 1 + m = omega arith in
      let nw : n * w ≡ (i + 1) * w + m * w = ap (λ z. z * w) n1 ∙ add-mul (i + 1) m w in
      let iw : (i + 1) * w ≡ i * w + w = omega (arith, add-mul i 1 w, one-mul w) in
      let long : i * w + w + m * w ≤ length ws = omega arith in
      let low : take (i * w) us ≡ take (i * w) ws = rw f (same_lists _ _ (search (rules, places)) (λ j d q. grind (arith, places))) in
      let mid : take w (drop (i * w) us) ≡ enc = rw f (same_lists _ _ (search (rules, places)) (λ j d q. grind (arith, places))) in
      let high : take (m * w) (drop (i * w + w) us) ≡ take (m * w) (drop (i * w + w) ws) = rw f (same_lists _ _ (search (rules, places)) (λ j d q. grind (arith, places))) in
      let s1 : rows w dec i us ≡ rows w dec i ws = same_rows w dec i us ws low in
      let s2 : rows w dec m (drop ((i + 1) * w) us) ≡ rows w dec m (drop ((i + 1) * w) ws) = rw iw (same_rows w dec m (drop (i * w + w) us) (drop (i * w + w) ws) high) in
      let left : rows w dec n us ≡ rows w dec i ws ++ (x ∷ rows w dec m (drop ((i + 1) * w) ws)) =
      ap (λ z. rows w dec z us) n1 ∙ rows_add w dec (i + 1) m us ∙ rw (rows_add w dec i 1 us, rows_one w dec (drop (i * w) us), mid, e, s1, s2) (append_assoc (rows w dec i ws) (x ∷ []) (rows w dec m (drop ((i + 1) * w) ws))) in
      let t = take_rows w dec i n ws (omega arith) in
      let d : drop (suc i) (rows w dec n ws) ≡ rows w dec m (drop ((i + 1) * w) ws) = rw (← add-one) (drop_rows w dec (i + 1) n ws (omega arith)) in
      left ∙ sym (set_split (rows w dec n ws) i x (rw length_rows h) ∙ rw (t, d))

-- a part that is copied, over variables: at numerals `take 2` computes, and search and grind lose it
module _ {X : Type 0} (a k : ℕ) (xs ys : List X) where
  pub copied_front : (m : ℕ) (zs : List X) → m ≤ k → a + k ≤ length xs → ys ≡ take k (drop a xs) → take m (ys ++ zs) ≡ take m (drop a xs)
  copied_front m zs h l e = rw e (same_lists _ _ (search (rules, places)) (λ j d q. grind (arith, places)))

  pub length_put_mid : a + k ≤ length xs → length ys ≡ k → length (put_mid a k xs ys) ≡ length xs
  length_put_mid h l = search (rules, places)

  pub get_or_put_mid_below : (i : ℕ) (d : X) → i < a → a ≤ length xs → get_or (put_mid a k xs ys) i d ≡ get_or xs i d
  get_or_put_mid_below i d h l = grind (arith, places)

  pub put_front : (m : ℕ) (ws : List X) → m ≤ k → a + k ≤ length xs → k ≤ length ws → ys ≡ take k ws → take m (drop a (put_mid a k xs ys)) ≡ take m ws
  put_front m ws h l n e = rw e (same_lists _ _ (search (rules, places)) (λ j d q. grind (arith, places)))

module _ {E : Type 0} (w : ℕ) (dec : List ℕ → E) where
  -- the entries of a block are read off word 0 and the words that they take, and off no others
  pub imaged_part : (xs ys : List ℕ) → get_or xs 0 0 ≡ get_or ys 0 0 → take (get_or xs 0 0 * w) (drop 2 xs) ≡ take (get_or xs 0 0 * w) (drop 2 ys) → imaged w dec xs ≡ imaged w dec ys
  imaged_part xs ys n e = same_rows w dec (get_or xs 0 0) (drop 2 xs) (drop 2 ys) e ∙ ap (λ m. rows w dec m (drop 2 ys)) n

  -- by the first words of two blocks, and word by word
  pub imaged_front : (xs ys : List ℕ) → take (2 + get_or xs 0 0 * w) xs ≡ take (2 + get_or xs 0 0 * w) ys → imaged w dec xs ≡ imaged w dec ys
  imaged_front xs ys e =
      let m : ℕ = get_or xs 0 0 * w in
      let n : get_or xs 0 0 ≡ get_or ys 0 0 = sym (get_or-take (2 + m) xs 0 0 (omega arith)) ∙ ap (λ zs. get_or zs 0 0) e ∙ get_or-take (2 + m) ys 0 0 (omega arith) in
      imaged_part xs ys n (sym (drop-take 2 m xs) ∙ ap (drop 2) e ∙ drop-take 2 m ys)

  pub imaged_words : (xs ys : List ℕ) → 2 + get_or xs 0 0 * w ≤ length xs → 2 + get_or xs 0 0 * w ≤ length ys → ((k : ℕ) → k < 2 + get_or xs 0 0 * w → get_or xs k 0 ≡ get_or ys k 0) → imaged w dec xs ≡ imaged w dec ys
  imaged_words xs ys h l e =
      let m : ℕ = 2 + get_or xs 0 0 * w in
      let a = length-take-le m xs h in
      let b = length-take-le m ys l in
      imaged_front xs ys (ext_get_or 0 (take m xs) (take m ys) (a ∙ sym b) (λ k q. get_or-take m xs k 0 (omega arith) ∙ e k (omega arith) ∙ sym (get_or-take m ys k 0 (omega arith))))

  pub length_imaged : (ws : List ℕ) → length (imaged w dec ws) ≡ get_or ws 0 0
  length_imaged ws = length_rows w dec (get_or ws 0 0) (drop 2 ws)

  -- words that are copied from a block's words 2 to 63, and back
  pub unpacked : (n : ℕ) (image ys zs : List ℕ) → n ≡ get_or image 0 0 → get_or image 0 0 * w ≤ 62 → length image ≡ 64 → ys ≡ take 62 (drop 2 image) → rows w dec n (ys ++ zs) ≡ imaged w dec image
  unpacked n image ys zs m h l e = rw m (same_rows w dec (get_or image 0 0) (ys ++ zs) (drop 2 image) (copied_front 2 62 image ys (get_or image 0 0 * w) zs h (omega arith) e))

  pub packed : (n : ℕ) (image ys ws zs : List ℕ) → n * w ≤ 62 → length image ≡ 64 → 62 ≤ length ws → ys ≡ take 62 ws → zs ≡ set (set (put_mid 2 62 image ys) 0 n) 1 0 →
      (get_or zs 0 0 ≡ n) × (get_or zs 1 0 ≡ 0) × (imaged w dec zs ≡ rows w dec n ws)
  packed n image ys ws zs h l k e z =
      let us : List ℕ = put_mid 2 62 image ys in
      let big = length_put_mid 2 62 image ys (omega arith) (ap length e ∙ length-take-le 62 ws k) in
      let long : length (set us 0 n) ≡ length us = length-set us 0 n in
      let none : get_or zs 0 0 ≡ n = ap (λ vs. get_or vs 0 0) z ∙ get_or-set_other (set us 0 n) 1 0 0 0 (λ q. omega arith) ∙ get_or-set_same us 0 n 0 (omega arith) in
      let spare : get_or zs 1 0 ≡ 0 = ap (λ vs. get_or vs 1 0) z ∙ get_or-set_same (set us 0 n) 1 0 0 (omega arith) in
      let kept : drop 2 zs ≡ drop 2 us = ap (drop 2) z ∙ drop-set-lt 2 (set us 0 n) 1 0 (omega arith) ∙ drop-set-lt 2 us 0 n (omega arith) in
      (none, spare, ap (λ m. rows w dec m (drop 2 zs)) none ∙ ap (rows w dec n) kept ∙ same_rows w dec n (drop 2 us) ws (put_front 2 62 image ys (n * w) ws h (omega arith) k e))

-- an entry has a word at least, so there are no more entries than words
pub few_entries : (n w m : ℕ) → 0 < w → n * w ≤ m → n ≤ m
few_entries n w m h k = omega (arith, le-mul_of_pos_right {m = w} n h)
