-- A turn of a split's climb.
use Rattle.std.proofs.Common.{◌≡◌, ℕ, suc, ◌+◌, ◌≤◌, List, ◌∷◌, refl, append_assoc, arith}
use Rattle.page.specs.Layout.{Layout}
use Rattle.store.specs.Steps.{Mem, hit, held, Same, Step}
use Rattle.store.proofs.Stepping.{step_beside, step_as, part_then, part_same}
use Rattle.tree.specs.Tree.{uses, uses_of}
use Rattle.tree.specs.declared.path.Branch.{Branch}
use Rattle.tree.specs.Paths.{left, right, Path, before, behind}
use Rattle.tree.specs.Tall.{TallKept}
use Rattle.tree.specs.Parting.{Top, owns, Joined, Parting, Grouped}
use Rattle.tree.proofs.Paths.{node_uses, seen}
use Rattle.tree.proofs.Tall.{tall_frame}

module _ {E : Type 0} (K : Layout E) where
  -- what a tree is after a step that leaves it alone
  pub keeps : (f g : Mem) (t : Top) (w : ℕ → ℕ) → Same w f g → ((c : ℕ) → owns K f t c ≤ w c) → TallKept K t.height f g t.block
  keeps f g t w s a = tall_frame K t.height f g t.block (λ c n. s c (λ z. n (omega (arith, a c))))

  module _ (f : Mem) (s : ℕ → ℕ) (H top : ℕ) (xs ys : List E) (h b : ℕ) (w : Branch) (ws : List Branch) (g g₁ g₂ g₃ : Mem) (t t₁ t₂ t₃ : ℕ → ℕ) (l r a c l' r' : Top)
      (v : Parting K f s H top xs ys h b (w ∷ ws) g t l r) (gr : Grouped K h w f g g₁ t t₁ a c) where
    U : ℕ → ℕ
    U d = uses K (suc h) f w.block d + s d

    V : ℕ → ℕ
    V d = hit w.block d + (uses_of K h f (left K f w) d + uses_of K h f (right K f w) d)

    up : Path K f (suc h) w.block ws H top
    unfolding Path
    up = v.path.2

    fits : (d : ℕ) → U d ≤ held f d
    unfolding U
    fits d = omega (arith, v.fits d, (seen K f (suc h) w.block ws H top up).uses_seen d)

    node : (d : ℕ) → U d ≡ (uses K h f b d + s d) + V d
    unfolding U V Path
    node d = rw v.path.1 (omega (arith, node_uses K h f w d v.path.0))

    S0 : Step U (λ d. (owns K g l d + (owns K g r d + t d)) + V d) f g
    S0 = step_as _ _ _ _ f g node (λ d. refl) (step_beside _ _ V f g v.step)

    rest₁ : ℕ → ℕ
    rest₁ d = owns K g l d + owns K g r d

    S1 : Step U (λ d. (owns K g₁ a d + (owns K g₁ c d + t₁ d)) + rest₁ d) f g₁
    unfolding V rest₁
    S1 = part_then U _ _ _ rest₁ f g g₁ S0 fits (λ d. omega arith) gr.all

    same₁ : Same rest₁ g g₁
    unfolding V rest₁
    same₁ = part_same U _ _ _ rest₁ f g g₁ S0 fits (λ d. omega arith) gr.all

    pub l₁ : TallKept K l.height g g₁ l.block
    unfolding rest₁
    l₁ = keeps g g₁ l rest₁ same₁ (λ d. omega arith)

    pub r₁ : TallKept K r.height g g₁ r.block
    unfolding rest₁
    r₁ = keeps g g₁ r rest₁ same₁ (λ d. omega arith)

    module _ (j : Joined K g₁ g₂ t₁ t₂ a l l') where
      rest₂ : ℕ → ℕ
      rest₂ d = owns K g₁ c d + owns K g₁ r d

      S2 : Step U (λ d. (owns K g₂ l' d + t₂ d) + rest₂ d) f g₂
      unfolding rest₁ rest₂
      S2 = part_then U _ _ _ rest₂ f g₁ g₂ S1 fits (λ d. omega (arith, l₁.same_uses d, r₁.same_uses d)) j.all

      same₂ : Same rest₂ g₁ g₂
      unfolding rest₁ rest₂
      same₂ = part_same U _ _ _ rest₂ f g₁ g₂ S1 fits (λ d. omega (arith, l₁.same_uses d, r₁.same_uses d)) j.all

      pub r₂ : TallKept K r.height g₁ g₂ r.block
      unfolding rest₂
      r₂ = keeps g₁ g₂ r rest₂ same₂ (λ d. omega arith)

      pub c₂ : TallKept K c.height g₁ g₂ c.block
      unfolding rest₂
      c₂ = keeps g₁ g₂ c rest₂ same₂ (λ d. omega arith)

      module _ (k : Joined K g₂ g₃ t₂ t₃ r c r') where
        rest₃ : ℕ → ℕ
        rest₃ d = owns K g₂ l' d

        S3 : Step U (λ d. (owns K g₃ r' d + t₃ d) + rest₃ d) f g₃
        unfolding rest₂ rest₃
        S3 = part_then U _ _ _ rest₃ f g₂ g₃ S2 fits (λ d. omega (arith, r₂.same_uses d, c₂.same_uses d)) k.all

        same₃ : Same rest₃ g₂ g₃
        unfolding rest₂ rest₃
        same₃ = part_same U _ _ _ rest₃ f g₂ g₃ S2 fits (λ d. omega (arith, r₂.same_uses d, c₂.same_uses d)) k.all

        l₃ : TallKept K l'.height g₂ g₃ l'.block
        unfolding rest₃
        l₃ = keeps g₂ g₃ l' rest₃ same₃ (λ d. omega arith)

        pub part : Parting K f s H top xs ys (suc h) w.block ws g₃ t₃ l' r'
        unfolding U rest₃ before behind
        part = record {
          path = up;
          fits = v.fits;
          step = step_as _ _ _ _ f g₃ (λ d. refl) (λ d. omega (arith, l₃.same_uses d)) S3;
          lefts = rw (l₃.same_contents, j.same, gr.left_same, l₁.same_contents) (simp append_assoc at v.lefts);
          rights = rw (k.same, r₂.same_contents, c₂.same_contents, r₁.same_contents, gr.right_same) (simp append_assoc v.rights);
          left_stands = l₃.still_tall j.stands;
          right_stands = k.stands;
        }
