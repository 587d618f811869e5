-- An item is set: the path down, and its words written.
use Rattle.std.proofs.Common.{◌≡◌, ℕ, suc, ◌+◌, ◌-◌, ◌<◌, ◌≤◌, List, ◌∷◌, ◌++◌, length, get_or, take, drop, set, sym, ap, ◌∙◌, subst, append_assoc, arith, length-set}
use lib.Seq.{split_at, set_split}
use Rattle.std.proofs.lemmas.List.{get_or_default}
use Rattle.page.specs.Layout.{Layout}
use Rattle.store.specs.Memory.{Memory, Stored}
use Rattle.store.specs.Steps.{Mem, hit, held, Step, Ran}
use Rattle.store.proofs.Running.{ran_then, ran_beside, ran_as}
use Rattle.tree.specs.declared.top.Tree.{Tree}
use Rattle.tree.specs.Tree.{uses, Root}
use Rattle.tree.specs.Pages.{Writing}
use Rattle.tree.specs.declared.path.Branch.{Branch}
use Rattle.tree.specs.Paths.{Path, before, behind, around}
use Rattle.tree.specs.Trees.{holds, owns, Lies}
use Rattle.tree.proofs.Paths.{seen}
use Rattle.tree.proofs.Writing.{stored_after, wrote_reads}
use Rattle.seek.specs.declared.reached.Reached.{Reached}
use Rattle.seek.specs.declared.target.Target.TheVariants.{Item}
use Rattle.seek.specs.Asks.{descend_asks, item_asks, set_asks}
use Rattle.seek.specs.Descent.{Descended}
use Rattle.seek.specs.Items.{Updated}
use Rattle.seek.proofs.Exchange.{Swapped, swapped, swapped_root}
use Rattle.seek.proofs.Landing.{set_middle, contents_when_tall, uses_when_tall, tall_root, root_tall, leaf_stored, leaf_inside, leaf_holds, leaf_item}
use Rattle.seek.proofs.Readings.{reading_blocks, reading_many, reading_ran}

-- an element is another one, and nothing tells them apart
alike_set : {E : Type 0} (S : List E → ℕ) (xs : List E) (i : ℕ) (x y : E) → i < length xs → ((d : E) → y ≡ get_or xs i d) → ((us vs : List E) → S (us ++ (x ∷ vs)) ≡ S (us ++ (y ∷ vs)))
    → (us vs : List E) → S (us ++ (set xs i x ++ vs)) ≡ S (us ++ (xs ++ vs))
alike_set S xs i x y l e k us vs =
    let t : xs ≡ take i xs ++ (y ∷ drop (suc i) xs) = split_at xs i y l ∙ ap (λ z. take i xs ++ (z ∷ drop (suc i) xs)) (sym (e y)) in
    let n : S (us ++ ((take i xs ++ (x ∷ drop (suc i) xs)) ++ vs)) ≡ S (us ++ ((take i xs ++ (y ∷ drop (suc i) xs)) ++ vs)) =
    simp append_assoc (simp append_assoc at (k (us ++ take i xs) (drop (suc i) xs ++ vs))) in
    ap (λ zs. S (us ++ (zs ++ vs))) (set_split xs i x l) ∙ n ∙ sym (ap (λ zs. S (us ++ (zs ++ vs))) t)

module _ {E : Type 0} (K : Layout E) (m m₁ m₂ : Memory) (t : Tree) (i : ℕ) (x : E) (r : Reached) (lies : Lies K m t) (z : Descended K m t i Item r m₁)
    (w : Writing item_asks K.items r.leaf (set (K.items (m₁.block r.leaf)) r.at x) m₁ m₂)
    (alike : (us vs : List E) → K.summary (us ++ (x ∷ vs)) ≡ K.summary (us ++ (get_or (holds K m.block t) i x ∷ vs))) where
  abbrev f : Mem
  f = m.block

  abbrev g : Mem
  g = m₂.block

  abbrev b : ℕ
  b = r.leaf

  abbrev ws : List Branch
  ws = r.path

  abbrev H : ℕ
  H = t.height - 1

  tall : 0 < t.height
  tall = omega (arith, z.deep)

  abbrev ys : List E
  ys = set (K.items (m₁.block b)) r.at x

  same_then : m₁.block b ≡ f b
  same_then = ap (λ (k : Mem). k b) (reading_blocks _ m m₁ z.same)

  inside : r.at < length (K.items (f b))
  inside = omega (arith, leaf_inside K m m₁ t i Item r z, ap (λ (k : List ℕ). length (K.items k)) same_then)

  put_is : ys ≡ set (K.items (f b)) r.at x
  put_is = ap (λ (k : List ℕ). set (K.items k) r.at x) same_then

  old : (d : E) → get_or (K.items (f b)) r.at d ≡ get_or (holds K f t) i d
  old d = ap (λ (k : List ℕ). get_or (K.items k) r.at d) (sym same_then) ∙ leaf_item K m m₁ t i r z d

  keeps : (us vs : List E) → K.summary (us ++ (ys ++ vs)) ≡ K.summary (us ++ (K.items (f b) ++ vs))
  keeps us vs =
      ap (λ (zs : List E). K.summary (us ++ (zs ++ vs))) put_is
      ∙ alike_set K.summary (K.items (f b)) r.at x (get_or (holds K f t) i x) inside (λ d. sym (old x) ∙ get_or_default (K.items (f b)) r.at x d inside) alike us vs

  path : Path K f 0 b ws H t.root
  path = z.down.path

  root : Root K H f t.root
  root = tall_root K t.height f t.root tall lies.stands

  fits : (c : ℕ) → uses K H f t.root c ≤ held f c
  fits c = omega (arith, lies.once c, uses_when_tall K t.height f t.root tall c)

  writes : Step (hit b) (hit b) f g
  writes = subst (λ (k : Mem). Step (hit b) (hit b) k g) (reading_blocks _ m m₁ z.same) w.ran.step

  there : Stored g b
  there = stored_after K.items m₁.block g b b ys w.wrote (leaf_stored K m m₁ t i Item r z)

  reads : K.items (g b) ≡ ys
  reads = wrote_reads K.items m₁.block g b ys w.wrote

  as_many : length ys ≡ length (K.items (f b))
  as_many = ap length put_is ∙ length-set (K.items (f b)) r.at x

  sw : Swapped K f g H t.root (before K f 0 ws ++ (ys ++ behind K f 0 ws))
  sw = swapped K f g H t.root b ws ys path root fits writes there reads as_many keeps

  was : (c : ℕ) → owns K f t c ≡ hit b c + around K f 0 ws c
  unfolding uses
  was c = uses_when_tall K t.height f t.root tall c ∙ (seen K f 0 b ws H t.root path).uses_seen c

  now : (c : ℕ) → owns K g t c ≡ hit b c + around K f 0 ws c
  unfolding uses
  now c = uses_when_tall K t.height g t.root tall c ∙ sw.same_uses c ∙ (seen K f 0 b ws H t.root path).uses_seen c

  ran : Ran set_asks (owns K f t) (owns K g t) m m₂
  ran =
      let p : Ran set_asks (hit b) (hit b) m m₂ = ran_then descend_asks item_asks (hit b) (hit b) (hit b) m m₁ m₂ (reading_ran _ m m₁ z.same (hit b)) w.ran in
      ran_as set_asks _ _ m m₂ (ran_beside set_asks (hit b) (hit b) m m₂ p (around K f 0 ws)) (owns K f t) (owns K g t) was now

  is : holds K g t ≡ set (holds K f t) i x
  is =
      contents_when_tall K t.height g t.root tall ∙ sw.contents_is ∙ ap (λ (v : List E). before K f 0 ws ++ (v ++ behind K f 0 ws)) put_is
      ∙ sym (rw (leaf_holds K m m₁ t i Item r z, z.down.place) (set_middle (before K f 0 ws) (K.items (f b)) (behind K f 0 ws) r.at x inside))

  pub updated : Updated K t i x m m₂
  updated = record {
    ran = ran;
    is = is;
    stands = root_tall K t.height g t.root tall (swapped_root K f g H t.root b ws ys path root fits writes there reads as_many keeps);
    many = w.many ∙ reading_many _ m m₁ z.same;
  }
