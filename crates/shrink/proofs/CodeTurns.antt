-- A turn of the climb as code has it.
use Rattle.std.proofs.Common.{◌≡◌, ℕ, zero, suc, ◌+◌, ◌-◌, ◌<◌, ◌≤◌, ◌⊎◌, List, ◌∷◌, ◌++◌, length, get_or, take, drop, set, Some, Option, sym, ap, ◌∙◌, subst, inl, inr, add-one, arith}
use Rattle.std.proofs.lemmas.List.{set_split}
use Rattle.page.specs.declared.child.Child.{Child}
use Rattle.page.specs.Layout.{Layout, Lawful}
use Rattle.store.specs.Memory.{Memory, Stored}
use Rattle.tree.specs.Pages.{page_asks, Reading}
use Rattle.tree.specs.declared.path.Branch.{Branch}
use Rattle.tree.specs.Paths.{none}
use Rattle.shrink.specs.Asks.{share_asks}
use Rattle.shrink.specs.Sharing.{Neighbours, Shared}
use Rattle.shrink.specs.Shrinking.{Start, Climbing, Ready}
use Rattle.shrink.specs.Turning.{Site, Next, Below, Mended}
use Rattle.shrink.proofs.Opening as opening
use Rattle.shrink.specs.Tiers.{stored_of}
use Rattle.shrink.proofs.Turning as turning

-- the blocks at two entries of a node
block_at : (es : List Child) (i : ℕ) (x : Child) → ((d : Child) → x ≡ get_or es i d) → x.block ≡ (get_or es i none).block
block_at es i x e = ap (λ (k : Child). k.block) (e none)

block_behind : (es : List Child) (i : ℕ) (y : Child) → ((d : Child) → y ≡ get_or es (i + 1) d) → y.block ≡ (get_or es (suc i) none).block
block_behind es i y e = block_at es (i + 1) y e ∙ ap (λ (j : ℕ). (get_or es j none).block) (add-one i)

-- neighbours there
module _ {E : Type 0} {K : Layout E} {on : ℕ → Type 0} (es : List Child) (i : ℕ) {m : Memory} where
  pub first_small : {h b : ℕ} {x : Child} → ((d : Child) → x ≡ get_or es i d) → Next K on h (get_or es i none).block b m → x.block < 1048576
  first_small {h} {b} {x} e n = omega (arith, (stored_of K h m.block (get_or es i none).block n.neighbours.first).0, block_at es i x e)

  pub second_small : {h a : ℕ} {y : Child} → ((d : Child) → y ≡ get_or es (i + 1) d) → Next K on h a (get_or es (suc i) none).block m → y.block < 1048576
  second_small {h} {a} {y} e n = omega (arith, (stored_of K h m.block (get_or es (suc i) none).block n.neighbours.second).0, block_behind es i y e)

  module _ {x y : Child} (ex : (d : Child) → x ≡ get_or es i d) (ey : (d : Child) → y ≡ get_or es (i + 1) d) where
    pub next_at : {h : ℕ} → Next K on h (get_or es i none).block (get_or es (suc i) none).block m → Next K on h x.block y.block m
    next_at {h} n = subst (λ (a : ℕ). Next K on h a y.block m) (sym (block_at es i x ex)) (subst (λ (b : ℕ). Next K on h (get_or es i none).block b m) (sym (block_behind es i y ey)) n)

    pub mended_at : {ns es' : List Child} {m' : Memory} → ((h : ℕ) → Next K on h x.block y.block m → Shared K share_asks h x.block y.block m ns m') → es' ≡ take i es ++ (ns ++ drop (suc (suc i)) es)
        → (h : ℕ) → Next K on h (get_or es i none).block (get_or es (suc i) none).block m → Mended K h i es m es' m'
    mended_at {ns} {es'} {m'} f e h n = record {
      now = ns;
      shared = subst (λ (b : ℕ). Shared K share_asks h (get_or es i none).block b m ns m') (block_behind es i y ey) (subst (λ (a : ℕ). Shared K share_asks h a y.block m ns m') (block_at es i x ex) (f h (next_at n)));
      reads = e;
    }

-- the neighbour on the left, or that on the right of the first child
side : (place i : ℕ) → i ≡ place - 1 → (place ≡ i) ⊎ (place ≡ suc i)
side zero i e = inl (omega arith)
side (suc p) i e = inr (omega arith)

module _ {E : Type 0} {K : Layout E} (lw : Lawful K) {on : ℕ → Type 0} {s : Site E} {w : Branch} {m : Memory} {o : Option Child} (v : Below K on s w m o) where
  abbrev z : Start E
  z = s.start

  abbrev h : ℕ
  h = s.level

  abbrev ws : List Branch
  ws = s.above

  abbrev kids : List Child
  kids = K.children (z.memory.block w.block)

  pub turn_there : Stored m.block w.block
  turn_there = opening.there K lw z h w ws m o v.climbing

  reads : K.children (m.block w.block) ≡ kids
  reads = opening.reads K lw z h w ws m o v.climbing

  pub turn_few : length (K.children (m.block w.block)) ≤ K.node_cap
  turn_few = rw reads (opening.few K lw z h w ws m o v.climbing)

  pub turn_inside : w.place < length (K.children (m.block w.block))
  turn_inside = rw reads (opening.inside K lw z h w ws m o v.climbing)

  pub turn_two : 2 ≤ length (K.children (m.block w.block))
  turn_two = rw reads (opening.two K lw z h w ws m o v.climbing)

  -- the node was read
  module _ {m₁ : Memory} (r : Reading page_asks m m₁) {es : List Child} (e : es ≡ K.children (m.block w.block)) where
    pub code_entered : {es' : List Child} {k : Child} → o ≡ Some k → es' ≡ set es w.place k → Ready K z h w.block ws m₁ es'
    code_entered {es'} {k} is e' =
        subst (Ready K z h w.block ws m₁) (sym (e' ∙ set_split es w.place k (omega (arith, turn_inside, ap length e)) ∙ ap (λ (xs : List Child). take w.place xs ++ (k ∷ drop (suc w.place) xs)) (e ∙ reads)))
        (turning.entered K lw z h w ws m k (subst (λ (x : Option Child). Climbing K z h (w ∷ ws) m x) is v.climbing) m₁ r)

    module _ {i : ℕ} (ei : i ≡ w.place - 1) where
      pub code_inside : i + 1 < length es
      code_inside = omega (arith, turn_inside, turn_two, ap length e)

      beside : turning.Beside K lw z h w ws m i
      beside = turning.beside K lw z h w ws m o v.climbing i (side w.place i ei) (omega (arith, code_inside, ap length (e ∙ reads)))

      pub code_next : Next K on h (get_or es i none).block (get_or es (suc i) none).block m₁
      code_next = record {
        level = v.level;
        neighbours = subst (λ (xs : List Child). Neighbours K h (get_or xs i none).block (get_or xs (suc i) none).block m₁) (sym (e ∙ reads)) (turning.neighbours K lw z h w ws m o v.climbing i beside m₁ r);
      }

      pub code_mended : {es' : List Child} {m₂ : Memory} → Mended K h i es m₁ es' m₂ → Ready K z h w.block ws m₂ es'
      code_mended {es'} {m₂} n =
          subst (Ready K z h w.block ws m₂) (sym (n.reads ∙ ap (λ (xs : List Child). take i xs ++ (n.now ++ drop (suc (suc i)) xs)) (e ∙ reads)))
          (turning.mended K lw z h w ws m o v.climbing i beside m₁ m₂ n.now r
          (subst (λ (xs : List Child). Shared K share_asks h (get_or xs i none).block (get_or xs (suc i) none).block m₁ n.now m₂) (e ∙ reads) n.shared))
