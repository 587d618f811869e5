-- On the path down, turn by turn.
use Rattle.std.proofs.Common.{◌≡◌, ℕ, zero, suc, ◌+◌, ◌-◌, ◌*◌, ◌<◌, ◌≤◌, List, [], ◌∷◌, length, get_or, take, refl, ap, ◌∙◌, subst, ap₂, add-one, arith}
use Rattle.std.proofs.lemmas.List.{get_or_default}
use Rattle.page.specs.declared.child.Child.{Child}
use Rattle.page.specs.Layout.{Layout, Lawful, counts}
use Rattle.page.proofs.Counts.{counts_more}
use Rattle.store.specs.Memory.{Memory, Stored, asked}
use Rattle.store.specs.Steps.{Mem}
use Rattle.tree.specs.declared.path.Branch.{Branch}
use Rattle.tree.specs.declared.top.Tree.{Tree}
use Rattle.tree.specs.Tree.{contents, many, low, Sound, least, Root, ChildOk}
use Rattle.tree.specs.Trees.{holds, Lies}
use Rattle.tree.specs.Paths.{none, Path, before}
use Rattle.tree.specs.Down.{Down}
use Rattle.tree.specs.Pages.{Reading, page_asks}
use Rattle.tree.specs.Sizes.{top_level, longest}
use Rattle.tree.proofs.Entries.{counts_right}
use Rattle.tree.proofs.Low.{height_low}
use Rattle.tree.proofs.Paths.{node_child}
use Rattle.tree.proofs.Places.{down}
use Rattle.seek.specs.declared.step.Step.{Step}
use Rattle.seek.specs.declared.target.Target.{Target}
use Rattle.seek.specs.Asks.{descend_asks}
use Rattle.seek.specs.Chosen.{Chosen}
use Rattle.seek.specs.Descent.{more, run_after, nodes_full, Descended}
use Rattle.seek.proofs.Landing.{contents_when_tall, tall_root}
use Rattle.seek.proofs.Readings.{reading_none, reading_asked, reading_then, reading_blocks, reading_stored}
use Rattle.seek.proofs.Runs.{nodes_full_le}

module _ {E : Type 0} (K : Layout E) where
  sound_stored : (h : ℕ) (f : Mem) (b : ℕ) → Sound K h f b → Stored f b
  unfolding Sound
  sound_stored zero f b s = s.0
  sound_stored (suc h) f b s = s.0

  -- the topmost page has entries
  root_some : (h : ℕ) (f : Mem) (b : ℕ) → Root K h f b → 0 < many K h (f b)
  unfolding least
  root_some zero f b w = omega (arith, w.full)
  root_some (suc h) f b w = omega (arith, w.full)

  child_some : Lawful K → (h : ℕ) (f : Mem) (k : Child) → ChildOk K h f k → 0 < many K h (f k.block)
  unfolding low
  child_some g zero f k w = omega (arith, w.full, g.leaf_room)
  child_some g (suc h) f k w = omega (arith, w.full, g.node_room)

  -- m was the memory, and is m' now: at the page b of this level, below the nodes ws; rest is its part of the place
  pub record Going (m : Memory) (t : Tree) (p : ℕ) (target : Target) (level b : ℕ) (ws : List Branch) (rest full : ℕ) (m' : Memory) : Type 0 where
    pub place : Down K m.block (t.height - 1) t.root p (more target) level b ws rest
    pub some : 0 < many K level (m.block b)
    pub deep : length ws + level + 1 ≡ t.height
    pub shallow : t.height ≤ top_level + 1
    pub read : Reading (length ws * page_asks) m m'
    pub run : full ≡ nodes_full K m.block ws

  pub going_start : {m : Memory} {t : Tree} {p : ℕ} {target : Target} {ws : List Branch} → 20 ≤ K.node_cap → ws ≡ [] → 0 < t.height → Lies K m t → p < length (holds K m.block t) + more target
      → Going m t p target (t.height - 1) t.root ws p 0 m
  unfolding Path before nodes_full
  going_start {m = m} {t = t} wide e l w i =
      let root : Root K (t.height - 1) m.block t.root = tall_root K t.height m.block t.root l w.stands in
      rw e (record {
        place = record { path = (refl, refl); sound = root.sound; place = omega arith; inside = omega (arith, i, ap length (contents_when_tall K t.height m.block t.root l)) };
        some = root_some (t.height - 1) m.block t.root root;
        deep = omega arith;
        shallow = height_low K wide t.height m.block t.root w.stands w.once;
        read = reading_none _ m;
        run = refl;
      })

  module _ {m m' : Memory} {t : Tree} {p : ℕ} {target : Target} {level b : ℕ} {ws : List Branch} {rest full : ℕ} (z : Going m t p target level b ws rest full m') where
    abbrev f : Mem
    f = m.block

    same_page : m'.block b ≡ f b
    same_page = ap (λ (g : Mem). g b) (reading_blocks _ m m' z.read)

    pub going_stored : Stored m'.block b
    going_stored = reading_stored _ m m' z.read b (sound_stored level f b z.place.sound)

    pub going_short : full < longest
    going_short = omega (arith, z.run, nodes_full_le K f ws, z.deep, z.shallow)

    -- at the leaf
    pub going_end : level ≡ 0 → {full' : ℕ} → full' ≡ run_after full (length (K.items (m'.block b))) K.leaf_cap → {m'' : Memory} → m'' ≡ asked 1 m'
        → Descended K m t p target (record { path = ws; leaf = b; at = rest; full = full' }) m''
    going_end e ef {m'' = m''} q = record {
      down = subst (λ (x : ℕ). Down K f (t.height - 1) t.root p (more target) x b ws rest) e z.place;
      deep = omega (arith, z.deep);
      full = ef ∙ ap₂ (λ (x : ℕ) (us : List ℕ). run_after x (length (K.items us)) K.leaf_cap) z.run same_page;
      same = reading_then (length ws * page_asks) 1 descend_asks m m' m'' (omega (arith, z.deep, z.shallow)) z.read (reading_asked 1 1 m' m'' (omega arith) q);
    }

    -- at a node
    module _ (ln : 0 < level) where
      abbrev h : ℕ
      h = level - 1

      here : Down K f (t.height - 1) t.root p (more target) (suc h) b ws rest
      here = subst (λ (x : ℕ). Down K f (t.height - 1) t.root p (more target) x b ws rest) (let e : level ≡ suc h = omega arith in e) z.place

      abbrev ks : List Child
      ks = K.children (f b)

      children_same : K.children (m'.block b) ≡ ks
      children_same = ap K.children same_page

      pub node_few : length (K.children (m'.block b)) ≤ K.node_cap
      unfolding Sound
      node_few = omega (arith, here.sound.1, ap length children_same)

      pub node_some : 0 < length (K.children (m'.block b))
      unfolding many
      node_some =
          let some : 0 < many K (suc h) (f b) = subst (λ (x : ℕ). 0 < many K x (f b)) (let e : level ≡ suc h = omega arith in e) z.some in
          omega (arith, some, ap length children_same)

      pub node_there : rest < counts (K.children (m'.block b)) + more target
      unfolding Sound contents
      node_there = omega (arith, here.inside, counts_right K h f ks here.sound.2, ap counts children_same)

      -- and a child is taken
      module _ (s : Step) (taken : Chosen (K.children (m'.block b)) rest target s) where
        chosen : Chosen ks rest target s
        chosen = rw children_same at taken

        abbrev k : Child
        k = get_or ks s.child none

        child_ok : ChildOk K h f k
        child_ok = node_child K h f (record { block = b; place = s.child }) chosen.child here.sound

        pub child_small : s.block < 1048576
        child_small = rw chosen.block (sound_stored h f k.block child_ok.sound).0

        pub going_turn : Lawful K → {ws' : List Branch} → ws' ≡ record { block = b; place = s.child } ∷ ws → {full' : ℕ} → full' ≡ run_after full (length (K.children (m'.block b))) K.node_cap
            → {m'' : Memory} → Reading page_asks m' m'' → {level' : ℕ} → level' + 1 ≡ level → Going m t p target level' s.block ws' s.rest full' m''
        unfolding nodes_full
        going_turn g ew ef {m'' = m''} q {level' = level'} el =
            let x : s.rest ≡ rest - counts (take s.child ks) = omega (arith, chosen.before) in
            let upto : rest < counts (take (suc s.child) ks) + more target =
            omega (arith, chosen.before, chosen.within, counts_more ks s.child k chosen.child (λ d. get_or_default ks s.child none d chosen.child), ap (λ (i : ℕ). counts (take i ks)) (add-one s.child)) in
            let e : level' ≡ h = omega arith in
            rw (ew, e) (record {
              place = rw (chosen.block, x) (down K f (t.height - 1) t.root p (more target) h b ws rest s.child here chosen.child (omega (arith, chosen.before)) upto);
              some = rw chosen.block (child_some g h f k child_ok);
              deep = omega (arith, z.deep);
              shallow = z.shallow;
              read = reading_then (length ws * page_asks) page_asks (suc (length ws) * page_asks) m m' m'' (omega arith) z.read q;
              run = ef ∙ ap₂ (λ (y n : ℕ). run_after y n K.node_cap) z.run (ap length children_same);
            })
