-- The climb up a path as code has it: the nodes are taken off it, the lowest first.
use Rattle.std.proofs.Common.{◌≡◌, ℕ, suc, ◌+◌, ◌-◌, List, [], ◌∷◌, length, Option, ap, subst, arith}
use Rattle.page.specs.declared.child.Child.{Child}
use Rattle.page.specs.Layout.{Layout}
use Rattle.store.specs.Memory.{Memory}
use Rattle.tree.specs.declared.path.Branch.{Branch}
use Rattle.shrink.specs.Shrinking.{Start, Climbing}
use Rattle.shrink.specs.Turning.{Site, Below}

module _ {E : Type 0} (K : Layout E) (z : Start E) (h : ℕ) (w : Branch) (ws ps : List Branch) (e : ps ≡ w ∷ ws) where
  -- the climb has come to level h, and w is taken off
  abbrev pub site : Site E
  site = record { start = z; level = h; above = ws }

  pub climb_below : (on : ℕ → Type 0) (m : Memory) (o : Option Child) → on h → Climbing K z h ps m o → Below K on site w m o
  climb_below on m o l v = record { level = l; climbing = subst (λ (qs : List Branch). Climbing K z h qs m o) e v }

-- of n nodes so many are left: the level
module _ {E : Type 0} (K : Layout E) (z : Start E) (m : Memory) (o : Option Child) where
  pub climb_on : (h n : ℕ) (w : Branch) (ws ps : List Branch) → ps ≡ w ∷ ws → h + length ps ≡ n → Climbing K z (suc h) ws m o → Climbing K z (n - length ws) ws m o
  climb_on h n w ws ps e l v = subst (λ (i : ℕ). Climbing K z i ws m o) (omega (arith, l, ap length e)) v

  pub climb_none : (ps ws : List Branch) → ps ≡ [] → ws ≡ [] → Climbing K z 0 ps m o → Climbing K z (length ps - length ws) ws m o
  climb_none ps ws e f v = rw (e, f) (subst (λ (qs : List Branch). Climbing K z 0 qs m o) e v)
