-- A deletion as code has it: the path down, the leaf, the climb and the top.
use Rattle.std.proofs.Common.{◌≡◌, ℕ, suc, ◌+◌, ◌-◌, ◌*◌, ◌<◌, ◌≤◌, List, [], ◌++◌, length, get_or, take, drop, Option, refl, ap, ◌∙◌, subst, arith, length-append, length-drop, length-take}
use Rattle.page.specs.declared.child.Child.{Child}
use Rattle.page.specs.Layout.{Layout, Lawful, entry_of_leaf}
use Rattle.store.specs.Memory.{Memory}
use Rattle.store.specs.Steps.{Mem}
use Rattle.store.proofs.Running.{ran_as}
use Rattle.tree.specs.declared.top.Tree.{Tree}
use Rattle.tree.specs.Pages.{page_asks, Reading}
use Rattle.tree.specs.Tree.{contents}
use Rattle.tree.specs.Trees.{holds, Lies}
use Rattle.seek.specs.declared.reached.Reached.{Reached}
use Rattle.seek.specs.declared.target.Target.TheVariants.{Item}
use Rattle.seek.specs.Asks.{descend_asks}
use Rattle.seek.specs.Descent.{Descended}
use Rattle.seek.proofs.Readings.{reading_then, reading_blocks}
use Rattle.tree.proofs.Low.{height_low}
use Rattle.seek.proofs.Tops.{tall_low}
use Rattle.seek.proofs.Landing.{tall_some, contents_when_tall, uses_when_tall, tall_root, leaf_item}
use Rattle.shrink.specs.Asks.{delete_asks, turn_asks, top_asks, leaf_asks}
use Rattle.shrink.specs.Deleting.{Topmost, Deleted}
use Rattle.shrink.specs.Putting.{Put}
use Rattle.shrink.specs.Shrinking.{Start, Starts, Climbing, Trimmed}
use Rattle.shrink.proofs.Written.{begun}

-- how long a list is without one of its items
pub length_without : {X : Type 0} (xs : List X) (i : ℕ) → i < length xs → length (take i xs ++ drop (suc i) xs) + 1 ≡ length xs
length_without xs i l = omega (arith, length-append (take i xs) (drop (suc i) xs), length-take i xs, length-drop (suc i) xs)

module _ {E : Type 0} {K : Layout E} (lw : Lawful K) (wide : 20 ≤ K.node_cap) (narrow : K.leaf_cap ≤ 62) {m : Memory} {t : Tree} {p : ℕ} (lies : Lies K m t) (place : p < length (holds K m.block t)) (asks : delete_asks ≤ m.left) where
  abbrev f : Mem
  f = m.block

  abbrev xs : List E
  xs = holds K f t

  abbrev pub start : Start E
  start = record { memory = m; level = t.height - 1; top = t.root; goal = take p xs ++ drop (suc p) xs; asks = delete_asks }

  tall : 0 < t.height
  tall = tall_some K t.height f t.root p place

  starts : Starts K start
  starts = record {
    was = tall_root K t.height f t.root tall lies.stands;
    fits = λ c. omega (arith, lies.once c, uses_when_tall K t.height f t.root tall c);
    number = lies.number;
    small = omega (arith, length_without xs p place, tall_low K t.height f t.root narrow lies.stands lies.once);
    left = asks;
  }

  module _ {r : Reached} {m₁ m₂ : Memory} (d : Descended K m t p Item r m₁) (read : Reading page_asks m₁ m₂) {es : List E} (after : es ≡ K.items (m₁.block r.leaf)) where
    items : es ≡ K.items (f r.leaf)
    items = after ∙ ap (λ (g : Mem). K.items (g r.leaf)) (reading_blocks descend_asks m m₁ d.same)

    room : descend_asks + leaf_asks + (length r.path * turn_asks + top_asks) ≤ delete_asks
    room = omega (arith, d.deep, height_low K wide t.height f t.root lies.stands lies.once)

    -- the leaf was written without the item: the climb begins
    pub climb_start : {es' : List E} {o : Option Child} {m₃ : Memory} → es' ≡ take r.at es ++ drop (suc r.at) es → Put K.items (entry_of_leaf K) K.leaf_cap r.leaf es' m₂ o m₃ → Climbing K start 0 r.path m₃ o
    unfolding contents
    climb_start {es'} {o} {m₃} rest q =
        begun K lw start starts p r.leaf r.at r.path d.down m₂ m₃ o (ap (λ (ys : List E). take p ys ++ drop (suc p) ys) (contents_when_tall K t.height f t.root tall)) room
        (reading_then descend_asks page_asks (descend_asks + page_asks) m m₁ m₂ (omega arith) d.same read) (length_without (K.items (f r.leaf)) r.at (omega (arith, d.down.inside)))
        (subst (λ (ys : List E). Put K.items (entry_of_leaf K) K.leaf_cap r.leaf ys m₂ o m₃) (rest ∙ ap (λ (ys : List E). take r.at ys ++ drop (suc r.at) ys) items) q)

    -- it is at the top
    pub climb_top : {o : Option Child} {m₄ : Memory} → Climbing K start (length r.path) [] m₄ o → Topmost K start t m₄ o
    climb_top {o} {m₄} v = record { level = omega (arith, tall); root = refl; climbing = subst (λ (h : ℕ). Climbing K start h [] m₄ o) (omega (arith, d.deep)) v }

    pub climb_done : {x : E} {t' : Tree} {m₅ : Memory} → ((y : E) → x ≡ get_or es r.at y) → Trimmed K start t'.height t'.root m₅ → Deleted K p t m t' x m₅
    climb_done {x} {t'} {m₅} item v = record {
      ran = ran_as delete_asks _ _ m m₅ v.ran _ _ (λ c. uses_when_tall K t.height f t.root tall c) (λ c. refl);
      holds = v.holds;
      stands = v.stands;
      item = λ y. item y ∙ ap (λ (ys : List E). get_or ys r.at y) after ∙ leaf_item K m m₁ t p r d y;
    }

-- the tree that is left lies in the memory
pub deleted_lies : {E : Type 0} (K : Layout E) (i : ℕ) (t t' : Tree) (m m' : Memory) (x : E) → Deleted K i t m t' x m' → Lies K m t → Lies K m' t'
deleted_lies K i t t' m m' x d l = record {
  stands = d.stands;
  once = λ c. omega (arith, d.ran.step.balanced c, l.once c);
  number = omega (arith, d.ran.number, l.number);
}
