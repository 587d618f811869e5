-- The top of a tree as code has it.
use Rattle.std.proofs.Common.{◌≡◌, ℕ, suc, ◌-◌, ◌<◌, ◌≤◌, List, [], length, get_or, Some, Option, sym, refl, ap, ◌∙◌, subst, arith}
use Rattle.page.specs.declared.child.Child.{Child}
use Rattle.page.specs.Layout.{Layout, Lawful}
use Rattle.store.specs.Memory.{Memory, Stored, asked, released}
use Rattle.tree.specs.declared.top.Tree.{Tree}
use Rattle.tree.specs.Pages.{page_asks, Reading}
use Rattle.tree.specs.Tree.{Sound}
use Rattle.tree.specs.Paths.{none}
use Rattle.seek.proofs.Readings.{reading_none, reading_asked}
use Rattle.shrink.specs.Asks.{top_asks}
use Rattle.shrink.specs.Deleting.{Topmost}
use Rattle.shrink.specs.Shrinking.{Start, Climbing, Trimmed}
use Rattle.shrink.specs.Tiers.{stored_of}
use Rattle.shrink.proofs.Topping as topping

module _ {E : Type 0} {K : Layout E} (lw : Lawful K) {z : Start E} {t : Tree} {m : Memory} {o : Option Child} (v : Topmost K z t m o) where
  pub top_stored : Stored m.block t.root
  top_stored = subst (Stored m.block) v.root (stored_of K z.level m.block z.top (topping.sound_top K lw z z.level m o v.climbing))

  -- as the theorems say it, and as code does
  as_code : (b n : ℕ) (m' : Memory) → b ≡ z.top → n ≡ suc z.level → Trimmed K z n b m' → Trimmed K z t.height t.root m'
  as_code b n m' eb en w = subst (λ (x : ℕ). Trimmed K z x t.root m') (omega (arith, en, v.level)) (subst (λ (x : ℕ). Trimmed K z n x m') (eb ∙ v.root) w)

  pub code_full : {k : Child} → o ≡ Some k → Trimmed K z t.height t.root m
  code_full {k} is = as_code z.top (suc z.level) m refl refl (topping.stays_full K lw z z.level m k (subst (λ (x : Option Child). Climbing K z z.level [] m x) is v.climbing) m (reading_none top_asks m))

  -- a leaf
  module _ (e : t.height ≡ 1) where
    leaf_climb : Climbing K z 0 [] m o
    leaf_climb = subst (λ (h : ℕ). Climbing K z h [] m o) (omega (arith, v.level)) v.climbing

    pub code_leaf_stays : {m₁ : Memory} → m₁ ≡ asked 1 m → 0 < length (K.items (m.block t.root)) → Trimmed K z t.height t.root m₁
    code_leaf_stays {m₁} r l = as_code z.top 1 m₁ refl (omega (arith, v.level))
        (topping.stays_leaf K lw z m o leaf_climb (omega (arith, ap (λ (b : ℕ). length (K.items (m.block b))) v.root)) m₁ (reading_asked top_asks 1 m m₁ (omega arith) r))

    pub code_leaf_gone : {m₁ m₂ : Memory} → m₁ ≡ asked 1 m → m₂ ≡ released t.root m₁ → length (K.items (m.block t.root)) ≤ 0 → Trimmed K z 0 0 m₂
    code_leaf_gone {m₁} {m₂} r q l = topping.emptied K lw z m o leaf_climb (omega (arith, ap (λ (b : ℕ). length (K.items (m.block b))) v.root)) m₁ m₂
        (reading_asked page_asks 1 m m₁ (omega arith) r) (q ∙ ap (λ (b : ℕ). released b m₁) (sym v.root)) 0

  -- a node
  module _ (l : 2 ≤ t.height) where
    abbrev h : ℕ
    h = t.height - 2

    node_climb : Climbing K z (suc h) [] m o
    node_climb = subst (λ (n : ℕ). Climbing K z n [] m o) (omega (arith, v.level)) v.climbing

    abbrev kids : List Child
    kids = K.children (m.block t.root)

    same_kids : K.children (m.block z.top) ≡ kids
    same_kids = ap (λ (b : ℕ). K.children (m.block b)) v.root

    pub node_few : length kids ≤ K.node_cap
    unfolding Sound
    node_few = omega (arith, (topping.sound_top K lw z (suc h) m o node_climb).1, ap length same_kids)

    pub node_some : 1 ≤ length kids
    node_some = omega (arith, topping.some_kids K lw z h m o node_climb, ap length same_kids)

    module _ {m₁ : Memory} (r : Reading page_asks m m₁) where
      pub code_node_stays : 1 < length kids → Trimmed K z t.height t.root m₁
      code_node_stays n = as_code z.top (suc (suc h)) m₁ refl (omega (arith, v.level)) (topping.stays_node K lw z h m o node_climb (omega (arith, ap length same_kids)) m₁
          (record { times = r.times; few = omega (arith, r.few); is = r.is }))

      module _ (n : length kids ≡ 1) where
        pub code_small : (get_or kids 0 none).block < 1048576
        code_small = omega (arith, topping.only_small K lw z h m o node_climb (ap length same_kids ∙ n), ap (λ (ks : List Child). (get_or ks 0 none).block) same_kids)

        pub code_node_gone : {t' : Tree} → t'.root ≡ (get_or kids 0 none).block → t'.height ≡ t.height - 1 → {m₂ : Memory} → m₂ ≡ released t.root m₁ → Trimmed K z t'.height t'.root m₂
        code_node_gone {t'} e eh {m₂} q =
            subst (λ (x : ℕ). Trimmed K z x t'.root m₂) (omega arith)
            (subst (λ (b : ℕ). Trimmed K z (suc h) b m₂) (sym (e ∙ ap (λ (ks : List Child). (get_or ks 0 none).block) (sym same_kids)))
            (topping.taken_up K lw z h m o node_climb (ap length same_kids ∙ n) m₁ m₂ r (q ∙ ap (λ (b : ℕ). released b m₁) (sym v.root))))
