-- Places in a list, and the path down to one.
use Rattle.std.proofs.Common.{◌≡◌, ℕ, suc, ◌+◌, ◌-◌, ◌<◌, ◌≤◌, List, [], ◌∷◌, ◌++◌, length, get_or, take, drop, sym, refl, ap, subst, append_assoc, add-suc, arith, length-append, take-append-drop, take-suc}
use lib.Seq.{take-append-add, drop-append-add, take-append-le, drop-append-le}
use Rattle.page.specs.declared.child.Child.{Child}
use Rattle.page.specs.Layout.{Layout, counts}
use Rattle.store.specs.Steps.{Mem}
use Rattle.tree.specs.Tree.{All, Sound, contents_of, ChildOk, ChildrenOk}
use Rattle.tree.specs.declared.path.Branch.{Branch}
use Rattle.tree.specs.Paths.{none, left, Path, before}
use Rattle.tree.specs.Down.{Down, turn}
use Rattle.tree.proofs.Each.{All-left}
use Rattle.tree.proofs.Paths.{node_child}
use Rattle.tree.proofs.Entries.{counts_right}

-- an element more in the middle, one less
pub inserted : {E : Type 0} (bs xs cs : List E) (i : ℕ) (x : E) → i ≤ length xs → bs ++ ((take i xs ++ (x ∷ drop i xs)) ++ cs) ≡ take (length bs + i) (bs ++ (xs ++ cs)) ++ (x ∷ drop (length bs + i) (bs ++ (xs ++ cs)))
inserted bs xs cs i x l = rw (take-append-add bs (xs ++ cs) i, drop-append-add bs (xs ++ cs) i, take-append-le i xs cs l, drop-append-le i xs cs l) (simp append_assoc)

pub deleted : {E : Type 0} (bs xs cs : List E) (i : ℕ) → i < length xs → bs ++ ((take i xs ++ drop (suc i) xs) ++ cs) ≡ take (length bs + i) (bs ++ (xs ++ cs)) ++ drop (suc (length bs + i)) (bs ++ (xs ++ cs))
deleted bs xs cs i l = rw (← add-suc (length bs) i, take-append-add bs (xs ++ cs) i, drop-append-add bs (xs ++ cs) (suc i), take-append-le i xs cs (omega arith), drop-append-le (suc i) xs cs l) (simp append_assoc)

pub counts_of_append : (xs ys : List Child) → counts (xs ++ ys) ≡ counts xs + counts ys
unfolding counts
counts_of_append [] ys = omega arith
counts_of_append (x ∷ xs) ys = omega (arith, counts_of_append xs ys)

counts_one : (k : Child) → counts (k ∷ []) ≡ k.count
unfolding counts
counts_one k = omega arith

module _ {E : Type 0} (K : Layout E) where
  -- one level down, to the child i
  pub down : (f : Mem) (H r p more h b : ℕ) (ws : List Branch) (a i : ℕ) → Down K f H r p more (suc h) b ws a
      → i < length (K.children (f b)) → counts (take i (K.children (f b))) ≤ a → a < counts (take (suc i) (K.children (f b))) + more
      → Down K f H r p more h (turn K f b i) (record { block = b; place = i } ∷ ws) (a - counts (take i (K.children (f b))))
  unfolding Path before Sound
  down f H r p more h b ws a i d l m n = record {
    path = (l, refl, d.path);
    sound = c.sound;
    place = omega (arith, d.place, length-append (before K f (suc h) ws) (contents_of K h f (left K f w)), counts_right K h f (left K f w) lefts);
    inside = omega (arith, c.counted, counts_of_append (take i (K.children (f b))) (get_or (K.children (f b)) i none ∷ []), ap counts (take-suc (K.children (f b)) i none l), one);
  }
    where
      w : Branch
      w = record { block = b; place = i }

      c : ChildOk K h f (get_or (K.children (f b)) i none)
      c = node_child K h f w l d.sound

      lefts : ChildrenOk K h f (left K f w)
      lefts = All-left (ChildOk K h f) (left K f w) (drop i (K.children (f b))) (subst (All (ChildOk K h f)) (sym (take-append-drop i (K.children (f b)))) d.sound.2)

      one : counts (get_or (K.children (f b)) i none ∷ []) ≡ (get_or (K.children (f b)) i none).count
      one = counts_one (get_or (K.children (f b)) i none)
