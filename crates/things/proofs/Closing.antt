-- What is under a name is given back, and so one name after the other, until nothing is held.
use Rattle.std.proofs.Common.{◌≡◌, ℕ, ◌+◌, ◌*◌, ◌<◌, ◌≤◌, T, set, Option, None, Ok, sym, ◌∙◌, subst, mul-le-mul_left, arith}
use native.Mathlib.Decide.{ℕ_discrete}
use Rattle.store.specs.Memory.{Memory}
use Rattle.store.specs.Steps.{Ran, held, held_in, sum_to}
use Rattle.store.proofs.Sums.{sum_to_same, sum_to_add}
use Rattle.things.specs.declared.state.Kept.{Kept}
use Rattle.things.specs.declared.state.Things.{Things}
use Rattle.things.specs.Ground.{Ground}
use Rattle.things.specs.Bridge.{memory_of}
use Rattle.page.specs.Layout.{Layout}
use Rattle.tree.specs.declared.top.Tree.{Tree}
use Rattle.tree.specs.Trees.{owns, Lies}
use Rattle.clear.specs.Given.{give_asks, tall_blocks, GivenBack}
use Rattle.clear.proofs.Low.{tall_used}
use Rattle.things.specs.State.{Words, names, Sound, SlotGiven, Served, Cleared, slot_of, slot_uses, slot_blocks}
use Rattle.things.proofs.Slots.{laid_here, laid_other}
use Rattle.things.proofs.Shelves.{size, slot_few}
use Rattle.things.specs.declared.Op.TheVariants.{Free}
use Rattle.things.specs.declared.Answer.TheVariants.{Done}
use Rattle.things.specs.Names.{found}
use Rattle.things.specs.Promise.{can}
use Rattle.things.proofs.Rules.{served_settled}
use Rattle.things.proofs.Naming.{free_is}
use Rattle.things.proofs.Serving.{renewed}

-- so many askings for a block that is held are enough for one name
pub slot_asks : (rate : ℕ) {s : Things} {f : Words} {m l : ℕ} (n : ℕ) (x : Option Kept) → Sound s f m → n < names → slot_of s n ≡ x → rate * m ≤ l → rate * slot_blocks f x ≤ l
slot_asks rate {f = f} {m = m} n x h low e enough =
    let k : slot_blocks f x ≤ m = subst (λ (y : Option Kept). slot_blocks f y ≤ m) e (slot_few n low h) in
    omega (arith, mul-le-mul_left rate k)

-- of a tree: its blocks are its uses, all together
module _ {E : Type 0} (K : Layout E) (mem : Memory) (t : Tree) (h : Lies K mem t) where
  used : tall_blocks K t.height mem.block t.root ≡ sum_to 1048576 (owns K mem.block t)
  used = sym (tall_used K t.height mem.block t.root h.stands)

  pub tree_asks : (l : ℕ) → give_asks * sum_to 1048576 (owns K mem.block t) ≤ l → give_asks * tall_blocks K t.height mem.block t.root ≤ l
  tree_asks l e = omega (arith, used)

  pub tree_given : {mem' : Memory} → GivenBack K t mem mem' → Ran (give_asks * sum_to 1048576 (owns K mem.block t)) (owns K mem.block t) (λ c. 0) mem mem'
  tree_given {mem'} r = subst (λ (n : ℕ). Ran (give_asks * n) (owns K mem.block t) (λ c. 0) mem mem') used r.ran

-- what is given back is held no more
pub fewer : (k : ℕ) (u : ℕ → ℕ) (m m' : Memory) → Ran k u (λ c. 0) m m' → m'.many + sum_to 1048576 u ≡ m.many
fewer k u m m' r =
    let e : held_in m.block ≡ sum_to 1048576 u + held_in m'.block =
    sum_to_same 1048576 (λ c. u c + held m'.block c) (held m.block) (λ c l. omega (arith, r.step.balanced c))
    ∙ sum_to_add 1048576 u (held m'.block) in
    omega (arith, r.number)

-- nothing is under n any more
pub is_cleared : (s s' : Things) (g g' : Ground) (n : ℕ) (x : Option Kept) → Sound s g.block g.many → n < names → slot_of s n ≡ x
    → SlotGiven x (memory_of g) (memory_of g') → s'.slots ≡ set s.slots n None → Cleared n s g s' g'
is_cleared s s' g g' n x h low e r l =
    let c = renewed s s' g g' n _ x None h low e l r tt in
    record { slots = l; shelf = c.shelf; sound = c.sound; asks = omega (arith, fewer _ (slot_uses g.block x) (memory_of g) (memory_of g') r, r.asks) }

-- nothing is under the names up to n
pub none_below : {f : Words} {m : ℕ} (s s' : Things) (n : ℕ) → Sound s f m → n < names → s'.slots ≡ set s.slots n None
    → ((k : ℕ) → k < n → slot_of s k ≡ None) → (k : ℕ) → k < n + 1 → slot_of s' k ≡ None
none_below s s' n h low e below k l =
    elim (ℕ_discrete k n) [
      | yes p ↦ rw p (laid_here s s' n None e (omega (arith, size h)))
      | no p ↦ laid_other s s' n None e k p ∙ below k (omega (arith, p))
    ]

-- free: what was under a name is given back
pub free_cleared : (n : ℕ) (s s' : Things) (g g' : Ground) (x : Kept) → T (can (Free n)) → Ok x ≡ found n s → Cleared n s g s' g' → Served (Free n) s g Done s' g'
free_cleared n s s' g g' x built f c = served_settled (Free n) built (free_is n s g.block f) (record { sound = c.sound; shelf = c.shelf })
