-- Another tree meets a tree at its side.
use Rattle.std.proofs.Common.{◌≡◌, ℕ, suc, List, [], ◌∷◌, ◌++◌, refl, append_assoc, append-nil}
use Rattle.page.specs.Layout.{Layout}
use Rattle.store.specs.Steps.{Mem}
use Rattle.tree.specs.Tree.{flat, contents}
use Rattle.tree.specs.declared.path.Branch.{Branch}
use Rattle.tree.specs.Paths.{Path, before, behind}
use Rattle.tree.specs.Sides.{Rightmost, Leftmost}
use Rattle.tree.proofs.Paths.{seen}

module _ {E : Type 0} (K : Layout E) where
  pub behind_none : (f : Mem) (h : ℕ) (ws : List Branch) → Rightmost K f ws → behind K f h ws ≡ []
  unfolding behind Rightmost flat
  behind_none f h [] w = refl
  behind_none f h (x ∷ ws) w = rw w.0 (behind_none f (suc h) ws w.1)

  pub before_none : (f : Mem) (h : ℕ) (ws : List Branch) → Leftmost K f ws → before K f h ws ≡ []
  unfolding before Leftmost flat
  before_none f h [] w = refl
  before_none f h (x ∷ ws) w = rw (w.0, before_none f (suc h) ws w.1)

  -- another tree joins at the right side
  pub meet_right : (f : Mem) (H r h b : ℕ) (ws : List Branch) (ys : List E) → Path K f h b ws H r → Rightmost K f ws → before K f h ws ++ ((contents K h f b ++ ys) ++ behind K f h ws) ≡ contents K H f r ++ ys
  meet_right f H r h b ws ys w s = rw ((seen K f h b ws H r w).contents_seen, behind_none f h ws s) (simp (append_assoc, append-nil))

  pub meet_left : (f : Mem) (H r h b : ℕ) (ws : List Branch) (ys : List E) → Path K f h b ws H r → Leftmost K f ws → before K f h ws ++ ((ys ++ contents K h f b) ++ behind K f h ws) ≡ ys ++ contents K H f r
  meet_left f H r h b ws ys w s = rw ((seen K f h b ws H r w).contents_seen, before_none f h ws s) (simp append_assoc)
