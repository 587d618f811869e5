-- The turns of giving back a tree.
use Rattle.std.proofs.Common.{◌≡◌, ℕ, zero, suc, ◌+◌, ◌-◌, ◌*◌, ◌<◌, ◌≤◌, List, [], ◌∷◌, length, refl, ap, subst, add-one, arith}
use Rattle.page.specs.Layout.{Layout}
use Rattle.store.specs.Memory.{Memory, Stored, at, released}
use Rattle.store.specs.Steps.{Mem, held_in}
use Rattle.store.proofs.Stepping.{held_at}
use Rattle.store.proofs.Running.{some_none, stored_held}
use Rattle.tree.specs.Tall.{tall_uses}
use Rattle.tree.specs.declared.path.Branch.{Branch}
use Rattle.tree.specs.Down.{turn}
use Rattle.tree.specs.Taking.{remaining, Pending, Giving}
use Rattle.tree.proofs.Takes.{give_push, give_pick, give_pop, push_remaining, pick_remaining, pick_stored}
use Rattle.clear.specs.Given.{give_asks, tall_blocks}
use Rattle.clear.specs.Visits.{Childless, NextChild, GoneDown}

-- one block less is held
pub held_less : (b : ℕ) (m : Memory) → Stored m.block b → m.many ≡ held_in m.block → m.many - 1 ≡ held_in (at b [] m.block)
held_less b m s e = omega (arith, held_at m.block b [] s.0, some_none [] refl, stored_held m.block b s)

module _ {E : Type 0} (K : Layout E) where
  -- the row, with w a child further
  abbrev ahead : Branch → List Branch → List Branch
  ahead w ws = record { block = w.block; place = suc w.place } ∷ ws

  -- each node is a block that remains
  few_nodes : (f : Mem) (h : ℕ) (ws : List Branch) → length ws ≤ remaining K f h ws
  unfolding remaining
  few_nodes f h [] = omega arith
  few_nodes f h (w ∷ ws) = omega (arith, few_nodes f (suc h) ws)

  -- and so is a child
  more_nodes : (f : Mem) (h : ℕ) (w : Branch) (ws : List Branch) → w.place < length (K.children (f w.block)) → 1 + length (w ∷ ws) ≤ remaining K f h (w ∷ ws)
  more_nodes f zero w ws l = omega (arith, pick_remaining K f w ws l, few_nodes f 0 (ahead w ws))
  more_nodes f (suc h) w ws l = omega (arith, push_remaining K f h w ws l, few_nodes f h (record { block = turn K f w.block w.place; place = 0 } ∷ ahead w ws))

  -- the tree of height H at r was to be given back in m₀; the nodes ws, whose children have level h, are still to do in m
  -- each of them was paid half when it was found
  pub record Clearing (H r : ℕ) (m₀ : Memory) (h : ℕ) (ws : List Branch) (m : Memory) : Type 0 where
    pub enough : give_asks * tall_blocks K H m₀.block r ≤ m₀.left
    pub giving : Giving K (tall_uses K H m₀.block r) m₀.block h ws m.block
    pub deep : h + length ws + 1 ≡ H
    pub number : m.many ≡ held_in m.block
    pub asks : m₀.left + give_asks * remaining K m.block h ws ≤ m.left + 2 * length ws + give_asks * tall_blocks K H m₀.block r
    pub top : m.top ≡ m₀.top
    pub failed : m.failed ≡ m₀.failed

  abbrev pub Going : ℕ → ℕ → Memory → List Branch → Memory → Type 0
  Going H r m₀ ws m = (h : ℕ) × Clearing H r m₀ h ws m

-- a node w is taken off the row s
module _ {E : Type 0} {K : Layout E} {H r : ℕ} {m₀ : Memory} {w : Branch} {s ws : List Branch} {m : Memory} (i : Going K H r m₀ s m) (e : s ≡ w ∷ ws) where
  here : Clearing K H r m₀ i.0 (w ∷ ws) m
  here = subst (λ (x : List Branch). Clearing K H r m₀ i.0 x m) e i.1

  pub turn_stored : Stored m.block w.block
  unfolding Pending
  turn_stored = here.giving.pending.0

  pub turn_few : length (K.children (m.block w.block)) ≤ K.node_cap
  unfolding Pending
  turn_few = here.giving.pending.1

  pub turn_asks : 2 ≤ m.left
  turn_asks = omega (arith, here.asks, here.enough, few_nodes K m.block i.0 (w ∷ ws))

  pub turn_child : w.place < length (K.children (m.block w.block)) → Stored m.block (turn K m.block w.block w.place)
  turn_child l = pick_stored K m.block i.0 w ws l here.giving.pending

  pub turn_room : H ≤ 7 → length ws + 2 ≤ 7
  turn_room l = omega (arith, here.deep, l)

  -- all children have been, and the node goes back
  module _ {m₁ : Memory} (n : Childless K w m m₁) where
    pub last_held : (0 < m₁.left) × Stored m₁.block w.block
    last_held = rw n.same (omega (arith, turn_asks), turn_stored)

    pub last_going : {m₂ : Memory} → m₂ ≡ released w.block m₁ → Going K H r m₀ ws m₂ × (m₂.left < m.left)
    last_going q =
        let z = give_pop K _ m₀.block i.0 w ws m.block here.giving n.none in
        rw (q, n.same) (
          (
            suc i.0,
            record {
              enough = here.enough;
              giving = z.0;
              deep = omega (arith, here.deep);
              number = held_less w.block m turn_stored here.number;
              asks = omega (arith, z.1, here.asks, turn_asks);
              top = here.top;
              failed = here.failed;
            },
          ),
          omega (arith, turn_asks),
        )

  -- c is next
  module _ {c : ℕ} {m₁ : Memory} (n : NextChild K w c m m₁) where
    pub next_asks : 3 ≤ m.left
    next_asks = omega (arith, here.asks, here.enough, more_nodes K m.block i.0 w ws n.some)

    pub next_held : (0 < m₁.left) × Stored m₁.block c
    next_held = rw (n.same, n.is) (omega (arith, next_asks), turn_child n.some)

    module _ {s₂ s₃ : List Branch} {m₂ : Memory} (p : s₂ ≡ record { block = w.block; place = w.place + 1 } ∷ ws) (d : GoneDown H c s₂ m₁ s₃ m₂) where
      down : (h : ℕ) → Clearing K H r m₀ h (w ∷ ws) m → Going K H r m₀ s₃ m₂ × (m₂.left < m.left)
      down zero v =
          let l : H ≤ length s₂ + 1 = omega (arith, v.deep, ap length p) in
          let z = give_pick K _ m₀.block w ws m.block v.giving n.some in
          rw (d.as_long l, p, add-one w.place, d.gone l, n.same, n.is) (
            (
              0,
              record {
                enough = v.enough;
                giving = z.0;
                deep = v.deep;
                number = held_less _ m (turn_child n.some) v.number;
                asks = omega (arith, z.1, v.asks, next_asks);
                top = v.top;
                failed = v.failed;
              },
            ),
            omega (arith, next_asks),
          )
      down (suc h) v =
          let l : length s₂ + 1 < H = omega (arith, v.deep, ap length p) in
          rw (d.longer l, p, add-one w.place, d.waits l, n.same, n.is) (
            (
              h,
              record {
                enough = v.enough;
                giving = give_push K _ m₀.block h w ws m.block v.giving n.some;
                deep = omega (arith, v.deep);
                number = v.number;
                asks = omega (arith, push_remaining K m.block h w ws n.some, v.asks, next_asks);
                top = v.top;
                failed = v.failed;
              },
            ),
            omega (arith, next_asks),
          )

      pub next_going : Going K H r m₀ s₃ m₂ × (m₂.left < m.left)
      next_going = down i.0 here
