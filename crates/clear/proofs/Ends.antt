-- The start of giving back a tree, and the end.
use Rattle.std.proofs.Common.{◌≡◌, ℕ, zero, suc, ◌+◌, ◌*◌, ◌<◌, ◌≤◌, List, [], refl, ◌∙◌, subst, arith}
use Rattle.page.specs.Layout.{Layout}
use Rattle.store.specs.Memory.{Memory, Stored, at}
use Rattle.store.specs.Steps.{Mem, Ran, held, held_in, sum_to}
use Rattle.store.proofs.Sums.{sum_to_add, sum_to_same}
use Rattle.store.proofs.Stepping.{step_release}
use Rattle.store.proofs.Running.{stored_held, ran_none}
use Rattle.tree.specs.declared.top.Tree.{Tree}
use Rattle.tree.specs.declared.path.Branch.{Branch}
use Rattle.tree.specs.Tree.{uses, blocks, Sound}
use Rattle.tree.specs.Tall.{tall_uses, Tall}
use Rattle.tree.specs.Trees.{owns, Lies}
use Rattle.tree.specs.Taking.{to_do, remaining, Pending, Giving}
use Rattle.tree.proofs.Low.{height_low}
use Rattle.tree.proofs.Takes.{give_start, give_end}
use Rattle.clear.specs.Given.{give_asks, tall_blocks, GivenBack}
use Rattle.clear.specs.Visits.{GoneDown}
use Rattle.clear.proofs.Low.{tall_used}
use Rattle.clear.proofs.Clearing.{held_less, Clearing, Going}

-- what is given back is held no more
pub fewer : (k : ℕ) (u : ℕ → ℕ) (m m' : Memory) → Ran k u (λ c. 0) m m' → m'.many + sum_to 1048576 u ≡ m.many
fewer k u m m' r =
    let e : held_in m.block ≡ sum_to 1048576 u + held_in m'.block =
    sum_to_same 1048576 (λ c. u c + held m'.block c) (held m.block) (λ c l. omega (arith, r.step.balanced c))
    ∙ sum_to_add 1048576 u (held m'.block) in
    omega (arith, r.number)

-- a leaf was given back, and nothing is to do
leaf_given : {E : Type 0} (K : Layout E) {f : Mem} (r : ℕ) → Stored f r → Giving K (uses K 0 f r) f 0 [] (at r [] f)
unfolding uses to_do Pending
leaf_given K {f} r s = record { step = step_release r f (stored_held f r s); fits = λ c. omega arith; pending = tt }

module _ {E : Type 0} {K : Layout E} {t : Tree} {m₀ : Memory} (lies : Lies K m₀ t) where
  -- the start
  pub root_stored : 0 < t.height → Stored m₀.block t.root × (0 < tall_blocks K t.height m₀.block t.root)
  unfolding Tall Sound tall_blocks blocks
  root_stored l = stored t.height t.root l lies.stands
    where
      stored : (H r : ℕ) → 0 < H → Tall K H m₀.block r → Stored m₀.block r × (0 < tall_blocks K H m₀.block r)
      stored zero r l w = absurd (omega arith)
      stored (suc zero) r l w = (w.sound.0, omega arith)
      stored (suc (suc h)) r l w = (w.sound.0, omega arith)

  pub low : 20 ≤ K.node_cap → t.height ≤ 7
  low wide = height_low K wide t.height m₀.block t.root lies.stands lies.once

  pub started : {s ws : List Branch} {m : Memory} → give_asks * tall_blocks K t.height m₀.block t.root ≤ m₀.left → 0 < t.height → s ≡ [] → GoneDown t.height t.root s m₀ ws m → Going K t.height t.root m₀ ws m
  unfolding Tall Sound tall_uses uses tall_blocks blocks remaining
  started {s} {ws} {m} enough l e d = start t.height t.root l lies.stands lies.once enough (subst (λ (x : List Branch). GoneDown t.height t.root x m₀ ws m) e d)
    where
      start : (H r : ℕ) → 0 < H → Tall K H m₀.block r → ((c : ℕ) → tall_uses K H m₀.block r c ≤ held m₀.block c) → give_asks * tall_blocks K H m₀.block r ≤ m₀.left → GoneDown H r [] m₀ ws m → Going K H r m₀ ws m
      start zero r l w a k d = absurd (omega arith)
      start (suc zero) r l w a k d = rw (d.as_long (omega arith), d.gone (omega arith)) (
        0,
        record {
          enough = k;
          giving = leaf_given K r w.sound.0;
          deep = omega arith;
          number = held_less r m₀ w.sound.0 lies.number;
          asks = omega (arith, k);
          top = refl;
          failed = refl;
        },
      )
      start (suc (suc h)) r l w a k d =
          let z = give_start K m₀.block h r w.sound a in
          rw (d.longer (omega arith), d.waits (omega arith)) (
            h,
            record { enough = k; giving = z.0; deep = omega arith; number = lies.number; asks = omega (arith, z.1); top = refl; failed = refl },
          )

  -- the end: what was given back is as many blocks as the tree had
  given_by : (m : Memory) → Ran (give_asks * tall_blocks K t.height m₀.block t.root) (owns K m₀.block t) (λ c. 0) m₀ m → GivenBack K t m₀ m
  given_by m p = record { ran = p; many = omega (arith, fewer _ _ m₀ m p, tall_used K t.height m₀.block t.root lies.stands) }

  pub finished : {s : List Branch} {m : Memory} → Going K t.height t.root m₀ s m → s ≡ [] → GivenBack K t m₀ m
  unfolding remaining
  finished {s} {m} i e =
      let v = subst (λ (x : List Branch). Clearing K t.height t.root m₀ i.0 x m) e i.1 in
      given_by m (record {
        step = give_end K _ m₀.block i.0 m.block v.giving;
        number = omega (arith, v.number, lies.number);
        asks = omega (arith, v.asks);
        top = v.top;
        failed = v.failed;
      })

  -- a tree without blocks
  pub nothing : t.height ≡ 0 → GivenBack K t m₀ m₀
  unfolding tall_blocks tall_uses
  nothing e = given_by m₀ (rw e (ran_none (λ c. 0) m₀))
