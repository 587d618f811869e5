-- At the leaf that a place is in.
use Rattle.std.proofs.Common.{◌≡◌, ℕ, zero, suc, ◌+◌, ◌-◌, ◌<◌, ◌≤◌, List, ◌++◌, length, get_or, set, sym, refl, ap, ◌∙◌, subst, arith}
use Rattle.std.proofs.lemmas.List.{get_or_append_left, get_or-append-add, set-append_left, set-append_right}
use Rattle.page.specs.Layout.{Layout}
use Rattle.store.specs.Memory.{Memory, Stored}
use Rattle.store.specs.Steps.{Mem}
use Rattle.tree.specs.declared.top.Tree.{Tree}
use Rattle.tree.specs.Tree.{contents, uses, Sound, Root}
use Rattle.tree.specs.Tall.{tall_contents, tall_uses, Tall}
use Rattle.tree.specs.Trees.{holds}
use Rattle.tree.specs.Paths.{before, behind}
use Rattle.tree.proofs.Paths.{seen}
use Rattle.seek.specs.declared.reached.Reached.{Reached}
use Rattle.seek.specs.declared.target.Target.{Target}
use Rattle.seek.specs.declared.target.Target.TheVariants.{Item}
use Rattle.seek.specs.Asks.{descend_asks}
use Rattle.seek.specs.Descent.{more, Descended}
use Rattle.seek.proofs.Readings.{reading_blocks, reading_left, reading_stored}

-- in the middle of three parts
pub get_or_middle : {X : Type 0} (xs ys zs : List X) (i : ℕ) (d : X) → i < length ys → get_or (xs ++ (ys ++ zs)) (length xs + i) d ≡ get_or ys i d
get_or_middle xs ys zs i d l = get_or-append-add xs (ys ++ zs) i d ∙ get_or_append_left ys zs d i l

pub set_middle : {X : Type 0} (xs ys zs : List X) (i : ℕ) (y : X) → i < length ys → set (xs ++ (ys ++ zs)) (length xs + i) y ≡ xs ++ (set ys i y ++ zs)
set_middle xs ys zs i y l =
    let e : length xs + i - length xs ≡ i = omega arith in
    set-append_right xs (ys ++ zs) (length xs) (length xs + i) y refl (omega arith) ∙ ap (λ (vs : List _). xs ++ vs) (ap (λ (k : ℕ). set (ys ++ zs) k y) e ∙ set-append_left ys zs i y l)

module _ {E : Type 0} (K : Layout E) where
  -- a tree that has items has a root, of the level below its height
  pub tall_some : (h : ℕ) (f : Mem) (b i : ℕ) → i < length (tall_contents K h f b) → 0 < h
  unfolding tall_contents
  tall_some zero f b i l = absurd (omega arith)
  tall_some (suc h) f b i l = omega arith

  pub contents_when_tall : (h : ℕ) (f : Mem) (b : ℕ) → 0 < h → tall_contents K h f b ≡ contents K (h - 1) f b
  unfolding tall_contents
  contents_when_tall zero f b l = absurd (omega arith)
  contents_when_tall (suc h) f b l = ap (λ (x : ℕ). contents K x f b) (let e : h ≡ suc h - 1 = omega arith in e)

  pub uses_when_tall : (h : ℕ) (f : Mem) (b : ℕ) → 0 < h → (c : ℕ) → tall_uses K h f b c ≡ uses K (h - 1) f b c
  unfolding tall_uses
  uses_when_tall zero f b l c = absurd (omega arith)
  uses_when_tall (suc h) f b l c = ap (λ (x : ℕ). uses K x f b c) (let e : h ≡ suc h - 1 = omega arith in e)

  pub tall_root : (h : ℕ) (f : Mem) (b : ℕ) → 0 < h → Tall K h f b → Root K (h - 1) f b
  unfolding Tall
  tall_root zero f b l w = absurd (omega arith)
  tall_root (suc h) f b l w = subst (λ (x : ℕ). Root K x f b) (let e : h ≡ suc h - 1 = omega arith in e) w

  pub root_tall : (h : ℕ) (f : Mem) (b : ℕ) → 0 < h → Root K (h - 1) f b → Tall K h f b
  unfolding Tall
  root_tall zero f b l w = absurd (omega arith)
  root_tall (suc h) f b l w = subst (λ (x : ℕ). Root K x f b) (let e : suc h - 1 ≡ h = omega arith in e) w

  module _ (m m' : Memory) (t : Tree) (p : ℕ) (target : Target) (r : Reached) (z : Descended K m t p target r m') where
    abbrev f : Mem
    f = m.block

    same_page : m'.block r.leaf ≡ f r.leaf
    same_page = ap (λ (g : Mem). g r.leaf) (reading_blocks _ m m' z.same)

    pub leaf_stored : Stored m'.block r.leaf
    unfolding Sound
    leaf_stored = reading_stored _ m m' z.same r.leaf z.down.sound.0

    pub leaf_few : length (K.items (m'.block r.leaf)) ≤ K.leaf_cap
    unfolding Sound
    leaf_few = omega (arith, z.down.sound.1, ap (λ (ws : List ℕ). length (K.items ws)) same_page)

    pub leaf_inside : r.at < length (K.items (m'.block r.leaf)) + more target
    unfolding contents
    leaf_inside = omega (arith, z.down.inside, ap (λ (ws : List ℕ). length (K.items ws)) same_page)

    pub asks_of_leaf : (k : ℕ) → descend_asks + k ≤ m.left → k ≤ m'.left
    asks_of_leaf k l = omega (arith, reading_left _ m m' z.same)

    -- the tree's items round those of the leaf
    pub leaf_holds : holds K f t ≡ before K f 0 r.path ++ (K.items (f r.leaf) ++ behind K f 0 r.path)
    unfolding contents
    leaf_holds = contents_when_tall t.height f t.root (omega (arith, z.deep)) ∙ (seen K f 0 r.leaf r.path (t.height - 1) t.root z.down.path).contents_seen

  module _ (m m' : Memory) (t : Tree) (p : ℕ) (r : Reached) (z : Descended K m t p Item r m') where
    pub leaf_item : (d : E) → get_or (K.items (m'.block r.leaf)) r.at d ≡ get_or (holds K m.block t) p d
    leaf_item d =
        let ps = r.path in
        let s = same_page m m' t p Item r z in
        let l : r.at < length (K.items (m.block r.leaf)) = omega (arith, leaf_inside m m' t p Item r z, ap (λ (ws : List ℕ). length (K.items ws)) s) in
        ap (λ (ws : List ℕ). get_or (K.items ws) r.at d) s
        ∙ sym (rw (leaf_holds m m' t p Item r z, z.down.place) (get_or_middle (before K m.block 0 ps) (K.items (m.block r.leaf)) (behind K m.block 0 ps) r.at d l))
