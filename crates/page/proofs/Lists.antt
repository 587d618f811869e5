-- Lists that are edited in place. Assumes nothing.
use Rattle.std.proofs.Common.{◌≡◌, ℕ, ◌+◌, ◌-◌, ◌<◌, ◌≤◌, List, [], ◌∷◌, ◌++◌, length, get_or, take, drop, set, sym, ap, ◌∙◌, append_assoc, add-one, arith, rules}
use Rattle.std.specs.List.{insert, between}
use Rattle.std.proofs.lemmas.List.Edits.{between_more}
use Rattle.std.proofs.lemmas.List.{places, same_lists, get_or-set_same, take_more, take-set, drop-set, take-append-drop}
use Rattle.std.proofs.lemmas.Bool.{cases_eq}

module _ {X : Type 0} (xs : List X) where
  -- one element more
  pub take_more_get : (i : ℕ) (x : X) → i < length xs → ((d : X) → x ≡ get_or xs i d) → take (i + 1) xs ≡ take i xs ++ (x ∷ [])
  take_more_get i x h e = take_more xs i x h ∙ ap (λ y. take i xs ++ (y ∷ [])) (sym (e x))

  -- two in the place of one, and one in the place of two
  pub parted : {ys zs : List X} (i : ℕ) (a b : X) → i < length xs → ys ≡ set xs i b → zs ≡ insert ys i a → zs ≡ take i xs ++ (a ∷ (b ∷ drop (i + 1) xs))
  parted i a b h y z = rw (z, y, take-set xs i b, drop-set xs i b h, add-one)

  pub merged : {ys zs : List X} (i : ℕ) (x : X) → i + 1 < length xs → ys ≡ take i xs ++ drop (i + 1) xs → zs ≡ set ys i x → zs ≡ take i xs ++ (x ∷ drop (i + 2) xs)
  merged i x h y z = rw (z, y) (same_lists _ _ (search (rules, places)) (λ j d l. grind (arith, places, get_or-set_same, cases_eq j i)))

  -- what goes from one list to its neighbour
  pub moved_down : {vs ws : List X} (ys : List X) (k : ℕ) → vs ≡ xs ++ take k ys → ws ≡ drop k ys → vs ++ ws ≡ xs ++ ys
  moved_down ys k v w = rw (v, w, append_assoc) (ap (λ l. xs ++ l) (take-append-drop k ys))

  pub moved_up : {vs ws : List X} (ys : List X) (k : ℕ) → vs ≡ take k xs → ws ≡ drop k xs ++ ys → vs ++ ws ≡ xs ++ ys
  moved_up ys k v w = rw (v, w, ← append_assoc) (ap (λ l. l ++ ys) (take-append-drop k xs))

  -- an insertion into one of two parts
  pub inserted_low : {us vs ws : List X} (h i : ℕ) (x : X) → i ≤ h → h ≤ length xs → us ≡ take h xs → vs ≡ insert us i x → ws ≡ drop h xs → vs ++ ws ≡ insert xs i x
  inserted_low h i x l k u v w = rw (v, u, w) (same_lists _ _ (search (rules, places)) (λ j d m. grind (arith, places)))

  pub inserted_high : {us vs ws : List X} (h i : ℕ) (x : X) → h < i → i ≤ length xs → us ≡ take h xs → ws ≡ drop h xs → vs ≡ insert ws (i - h) x → us ++ vs ≡ insert xs i x
  inserted_high h i x l k u w v = rw (v, u, w) (same_lists _ _ (search (rules, places)) (λ j d m. grind (arith, places)))

  -- an element and then a list, behind the others
  pub pushed_and_appended : {vs zs : List X} (ws : List X) (x : X) → vs ≡ xs ++ (x ∷ []) → zs ≡ vs ++ ws → zs ≡ xs ++ (x ∷ ws)
  pushed_and_appended ws x v z = rw (z, v) (append_assoc xs (x ∷ []) ws)

  -- one element more of a part of another list
  pub extended_more : {vs ws : List X} (ys : List X) (from i : ℕ) (y : X) → from ≤ i → i < length ys → vs ≡ xs ++ between from i ys → ((d : X) → y ≡ get_or ys i d) → ws ≡ vs ++ (y ∷ []) → ws ≡ xs ++ between from (i + 1) ys
  extended_more ys from i y l h v e w = rw (w, v, append_assoc, between_more ys from i y l h) (ap (λ z. xs ++ (between from i ys ++ (z ∷ []))) (e y))
