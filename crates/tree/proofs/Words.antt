-- Where the number of a node's children and their blocks stand in its words.
use Rattle.std.proofs.Common.{◌≡◌, ℕ, suc, ◌+◌, ◌*◌, ◌<◌, ◌≤◌, Bool, T, List, [], length, get_or, take, drop, sym, ap, ◌∙◌, mul-le-mul_right, suc-mul, mul_comm, mul-le-mul_left, lt_of_not-le, arith}
use Rattle.std.proofs.lemmas.List.{get_or_past, get_or-drop}
use Rattle.page.specs.declared.child.Child.{Child}
use Rattle.page.specs.Layout.{Layout, imaged}
use Rattle.page.proofs.Images.{length_rows, rows_get, get_d_part}
use Rattle.tree.specs.Paths.{none}

-- what the words of a node say, w to a child
pub record Nodes {E : Type 0} (K : Layout E) (w : ℕ) : Type 0 where
  pub many_at : (ws : List ℕ) → length (K.children ws) ≡ get_or ws 0 0
  pub count_at : (ws : List ℕ) (i : ℕ) → i < length (K.children ws) → (get_or (K.children ws) i none).count ≡ get_or ws (2 + w * i) 0
  pub block_at : (ws : List ℕ) (i : ℕ) → i < length (K.children ws) → (get_or (K.children ws) i none).block ≡ get_or ws (3 + w * i) 0
  pub within : (i : ℕ) → i < K.node_cap → 3 + w * i < 64
  pub narrow : K.node_cap ≤ 31

-- word j of child i
word_of : (w : ℕ) (ws : List ℕ) (i j : ℕ) → j < w → get_or (take w (drop (i * w) (drop 2 ws))) j 0 ≡ get_or ws (2 + j + w * i) 0
word_of w ws i j l =
    let e : 2 + (i * w + j) ≡ 2 + j + w * i = omega (arith, mul_comm i w) in
    get_d_part (drop 2 ws) (i * w) w j l ∙ get_or-drop 2 ws (i * w + j) 0 ∙ ap (λ k. get_or ws k 0) e

-- count and block take two words at least: any block can be written and read back
module _ {E : Type 0} (K : Layout E) (w : ℕ) (dec : List ℕ → Child) (enc : Child → List ℕ) (valid : Child → Bool)
    (sized : (x : Child) → length (enc x) ≡ w) (back : (x : Child) → T (valid x) → dec (enc x) ≡ x)
    (entries-valid : (n b : ℕ) (xs : List E) → T (valid (record { count = n; block = b; summary = K.summary xs })))
    (Block-of : (ws : List ℕ) → (dec ws).block ≡ get_or ws 1 0) where
  pub two_words : 2 ≤ w
  two_words =
      let x : Child = record { count = 0; block = 1; summary = K.summary [] } in
      let e : get_or (enc x) 1 0 ≡ 1 = sym (Block-of (enc x)) ∙ ap (λ (k : Child). k.block) (back x (entries-valid 0 1 [])) in
      lt_of_not-le (λ (m : w ≤ 1). omega (arith, get_or_past (enc x) 1 0 (omega (arith, sized x))))

  module _ (nodes : (ws : List ℕ) → K.children ws ≡ imaged w dec ws) (count_of : (ws : List ℕ) → (dec ws).count ≡ get_or ws 0 0) (room : K.node_cap * w ≤ 62) where
    number : (ws : List ℕ) → length (K.children ws) ≡ get_or ws 0 0
    number ws = ap length (nodes ws) ∙ length_rows w dec (get_or ws 0 0) (drop 2 ws)

    child_of : (ws : List ℕ) (i : ℕ) → i < length (K.children ws) → get_or (K.children ws) i none ≡ dec (take w (drop (i * w) (drop 2 ws)))
    child_of ws i l = ap (λ ks. get_or ks i none) (nodes ws) ∙ sym (rows_get w dec i (get_or ws 0 0) (drop 2 ws) none (omega (arith, number ws)))

    pub nodes_read : Nodes K w
    nodes_read = record {
      many_at = number;
      count_at = λ ws i l. ap (λ (k : Child). k.count) (child_of ws i l) ∙ count_of _ ∙ word_of w ws i 0 (omega (arith, two_words));
      block_at = λ ws i l. ap (λ (k : Child). k.block) (child_of ws i l) ∙ Block-of _ ∙ word_of w ws i 1 (omega (arith, two_words));
      within = λ i l. omega (arith, two_words, room, mul_comm i w, suc-mul i w, mul-le-mul_right {m = suc i} {n = K.node_cap} w (omega arith));
      narrow = omega (arith, room, mul-le-mul_left {m = 2} {n = w} K.node_cap two_words);
    }
