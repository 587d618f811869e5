-- A turn of the climb: a node takes what came up.
use Rattle.std.proofs.Common.{◌≡◌, ℕ, suc, ◌+◌, ◌-◌, ◌*◌, ◌^◌, ◌<◌, ◌≤◌, Bool, T, List, [], ◌∷◌, ◌++◌, length, take, drop, set, Some, None, Option, sym, refl, ap, ◌∙◌, subst, add-one, arith, length-append, length-drop, take-append-drop, length-take}
use lib.Seq.{set_split}
use Rattle.std.proofs.lemmas.Bool.{eq-eqb}
use Rattle.page.specs.declared.child.Child.{Child}
use Rattle.page.specs.Layout.{Layout, Lawful, counts, entry_of}
use Rattle.page.proofs.Counts.{counts_none, counts_cons, counts_append}
use Rattle.store.specs.Memory.{Memory, Stored}
use Rattle.store.specs.Steps.{Mem, Ran, hit, held}
use Rattle.store.specs.Reserve.{uses}
use Rattle.store.proofs.Sums.{hit_same}
use Rattle.store.proofs.Stepping.{step_fits}
use Rattle.store.proofs.Running.{held_le}
use Rattle.tree.specs.Tree.{flat, All, contents, Sound, contents_of, ChildOk}
use Rattle.tree.specs.declared.path.Branch.{Branch}
use Rattle.tree.specs.Paths.{left, right, Path, before, behind, around}
use Rattle.tree.specs.Growing.{Loose, Growing, now}
use Rattle.tree.specs.Climb.{one_or_two, risen_list, Start}
use Rattle.tree.specs.declared.risen.Risen.{Risen}
use Rattle.tree.proofs.Each.{All-left, All-right}
use Rattle.tree.proofs.Entries.{counts_right}
use Rattle.tree.proofs.Paths.{seen}
use Rattle.tree.proofs.Mending.{rising_page}
use Rattle.tree.proofs.Grows.{grow_one, grow_two}
use Rattle.grow.specs.Asks.{turn_asks}
use Rattle.grow.specs.Settle.{lower, upper, Parted, InOne, Settled}
use Rattle.grow.specs.Rises.{placed, Valid, Spent, needed, Ready, Rises, Climbs}

-- lists
pub length_one_or_two : (one : Child) (two : Option Child) → (1 ≤ length (one_or_two one two)) × (length (one_or_two one two) ≤ 2)
unfolding one_or_two
length_one_or_two one None = (omega arith, omega arith)
length_one_or_two one (Some other) = (omega arith, omega arith)

pub length_placed : (ks : List Child) (i : ℕ) (r : Risen) → i < length ks → length (placed ks i r) + 1 ≡ length ks + length (risen_list r)
length_placed ks i r l = omega (
  arith,
  length-append (take i ks) (risen_list r ++ drop (suc i) ks),
  length-append (risen_list r) (drop (suc i) ks),
  length-take i ks,
  length-drop (suc i) ks,
)

pub few_placed : (ks : List Child) (i : ℕ) (r : Risen) → i < length ks → (0 < length (placed ks i r)) × (length (placed ks i r) ≤ length ks + 1)
few_placed ks i r l = let n = length_placed ks i r l in let k = length_one_or_two r.first r.second in (omega (arith, n, k.0), omega (arith, n, k.1))

-- runs
pub spent_none : (m : Memory) → Spent 0 m m
spent_none m = record { number = refl; asks = omega arith; top = refl; failed = refl }

pub spent_ran : (k : ℕ) (u u' : ℕ → ℕ) (m m' : Memory) → Ran k u u' m m' → Spent k m m'
spent_ran k u u' m m' r = record { number = r.number; asks = r.asks; top = r.top; failed = r.failed }

pub spent_then : (j k n : ℕ) (m m' m'' : Memory) → j + k ≤ n → Spent j m m' → Spent k m' m'' → Spent n m m''
spent_then j k n m m' m'' l p q = record { number = omega (arith, p.number, q.number); asks = omega (arith, p.asks, q.asks); top = q.top ∙ p.top; failed = q.failed ∙ p.failed }

-- what a page takes to go to its block
module _ {X : Type 0} (read : List ℕ → List X) (entry : ℕ → List X → Child) (cap k b : ℕ) (xs : List X) (m : Memory) (s : List ℕ) (m' : Memory) (s' : List ℕ) where
  pub record Went : Type 0 where
    pub spent : Spent k m m'
    pub fewer : length s' ≤ length s

  pub settled_went : (r : Risen) → Settled read entry cap k b xs m s r m' s' → Went
  settled_went r = go r.second
    where
      go : (o : Option Child) → Settled read entry cap k b xs m s (record { first = r.first; second = o }) m' s' → Went
      go None p = record { spent = spent_ran k _ _ m m' p.ran; fewer = omega (arith, ap length p.same) }
      go (Some other) p = record { spent = spent_ran k _ _ m m' p.parted.ran; fewer = omega (arith, p.parted.fewer) }

module _ {E : Type 0} (K : Layout E) where
  counts_loose : (h : ℕ) (g : Mem) (ks : List Child) → All (Loose K h g) ks → counts ks ≡ length (contents_of K h g ks)
  unfolding flat All
  counts_loose h g [] a = counts_none
  counts_loose h g (k ∷ ks) a = omega (arith, counts_cons k ks, a.0.counted, counts_loose h g ks a.1, length-append (contents K h g k.block) (contents_of K h g ks))

  -- what is sound can be written
  module _ (valid : Child → Bool) (law : (n b : ℕ) (xs : List E) → T (valid (record { count = n; block = b; summary = K.summary xs }))) (h : ℕ) (g : Mem) where
    valid_loose : (k : Child) → Loose K h g k → T (valid k)
    valid_loose k l = subst (λ (x : ℕ). T (valid (record { count = k.count; block = k.block; summary = x }))) (sym l.summed) (law k.count k.block (contents K h g k.block))

    valid_each : (one : Child) (two : Option Child) → All (Loose K h g) (one_or_two one two) → Valid valid (record { first = one; second = two })
    unfolding one_or_two All
    valid_each one None a = (valid_loose one a.0, tt)
    valid_each one (Some other) a = (valid_loose one a.0, valid_loose other a.1.0)

    pub valid_come : (r : Risen) → All (Loose K h g) (risen_list r) → Valid valid r
    valid_come r = valid_each r.first r.second

  -- a page of the tree went to its block: what stands above it rises on
  module _ (z : Start E) (ws : List Branch) (level b : ℕ) (small : length z.goal < 2 ^ 64) {X : Type 0} (read : List ℕ → List X) (entry : ℕ → List X → Child) (cap k : ℕ) (xs : List X)
      (m : Memory) (s : List ℕ) (m' : Memory) (s' : List ℕ) where
    abbrev Grown : List Child → Type 0
    Grown ks = Growing K z.memory z.stock z.level z.top z.goal level b ws m'.block (uses s') ks

    module _ (enough : cap < length xs → 1 + needed K z.memory ws ≤ length s) (one_page : (one : Child) → InOne read entry cap k b xs m s one m' s' → Grown (entry b xs ∷ []))
        (two_pages : (d : ℕ) → cap < length xs → Parted read k b xs m s d m' s' → Grown (entry b (lower xs) ∷ entry d (upper xs) ∷ [])) where
      rise_on : (one : Child) (two : Option Child) → Settled read entry cap k b xs m s (record { first = one; second = two }) m' s' → Rises K z ws m' s' (record { first = one; second = two })
      unfolding one_or_two
      rise_on one None p = record {
        grows = record { level = level; block = b; growing = subst (λ (y : Child). Grown (y ∷ [])) (sym p.is) (one_page one p); few = omega arith };
        stocked = p.stocked;
        enough = λ l. absurd (omega arith);
        small = small;
      }
      rise_on one (Some other) p = record {
        grows = record {
          level = level;
          block = b;
          growing = subst (λ (y : Child). Grown (y ∷ other ∷ [])) (sym p.first_is) (subst (λ (y : Child). Grown (entry b (lower xs) ∷ y ∷ [])) (sym p.second_is) (two_pages other.block p.full p.parted));
          few = omega arith;
        };
        stocked = p.parted.stocked;
        enough = λ l. omega (arith, enough p.full, p.parted.fewer);
        small = small;
      }

      pub rises_on : (r : Risen) → Settled read entry cap k b xs m s r m' s' → Rises K z ws m' s' r
      rises_on r = rise_on r.first r.second

  module _ (lw : Lawful K) (z : Start E) (w : Branch) (ws : List Branch) (m : Memory) (s : List ℕ) (r : Risen) (v : Rises K z (w ∷ ws) m s r) where
    abbrev f : Mem
    f = z.memory

    abbrev g : Mem
    g = m.block

    abbrev ms : List Child
    ms = risen_list r

    abbrev h : ℕ
    h = v.grows.level

    abbrev ks : List Child
    ks = K.children (g w.block)

    grown : Growing K f z.stock z.level z.top z.goal h v.grows.block (w ∷ ws) g (uses s) ms
    grown = v.grows.growing

    page : g w.block ≡ f w.block
    page = rising_page K f z.stock z.level z.top z.goal h v.grows.block w ws g (uses s) ms grown.rising

    inside_f : w.place < length (K.children (f w.block))
    unfolding Path
    inside_f = grown.rising.path.0

    sound_f : Sound K (suc h) f w.block
    unfolding Path
    sound_f = (seen K f (suc h) w.block ws z.level z.top grown.rising.path.2).sound_seen grown.was

    is_now : placed ks w.place r ≡ now K f w ms
    is_now = ap (λ (x : List ℕ). placed (K.children x) w.place r) page

    there : Stored g w.block
    unfolding Sound
    there = (sound_f.0.0, ap length page ∙ sound_f.0.1)

    few : length ks ≤ K.node_cap
    unfolding Sound
    few = omega (arith, sound_f.1, ap (λ (x : List ℕ). length (K.children x)) page)

    inside : w.place < length ks
    inside = omega (arith, inside_f, ap (λ (x : List ℕ). length (K.children x)) page)

    -- the node's items are some of all
    small : counts (now K f w ms) ≤ length z.goal
    unfolding before behind Sound
    small = omega (
      arith,
      counts_append (left K f w) (ms ++ right K f w),
      counts_append ms (right K f w),
      counts_right K h f (left K f w) (All-left (ChildOk K h f) (left K f w) (drop w.place (K.children (f w.block))) (subst (All (ChildOk K h f)) (sym (take-append-drop w.place (K.children (f w.block)))) sound_f.2)),
      counts_right K h f (right K f w) (All-right (ChildOk K h f) (take (suc w.place) (K.children (f w.block))) (right K f w) (subst (All (ChildOk K h f)) (sym (take-append-drop (suc w.place) (K.children (f w.block)))) sound_f.2)),
      counts_loose h g ms grown.loose,
      ap length grown.rising.whole,
      length-append (before K f h (w ∷ ws)) (contents_of K h g ms ++ behind K f h (w ∷ ws)),
      length-append (contents_of K h g ms) (behind K f h (w ∷ ws)),
      length-append (before K f (suc h) ws) (contents_of K h f (left K f w)),
      length-append (contents_of K h f (right K f w)) (behind K f (suc h) ws),
    )

    -- where it splits, it was full, and two came up
    full : K.node_cap < length (placed ks w.place r) → 1 + needed K f ws ≤ length s
    unfolding needed
    full l =
        let len = length_placed ks w.place r inside in
        let e : length (K.children (f w.block)) ≡ K.node_cap = omega (arith, len, few, length_one_or_two r.first r.second, ap (λ (x : List ℕ). length (K.children x)) page) in
        let q : 2 ≤ length ms = omega (arith, len, few) in
        rw (eq-eqb (length (K.children (f w.block))) K.node_cap e) at (v.enough q)

    fits : (c : ℕ) → hit w.block c + uses s c ≤ held g c
    unfolding around
    fits c = omega (arith, step_fits _ _ (around K f h (w ∷ ws)) f g grown.rising.step (λ y. omega (arith, grown.rising.fits y, (seen K f h v.grows.block (w ∷ ws) z.level z.top grown.rising.path).uses_seen y)) c)

    pub ready : (valid : Child → Bool) → ((n b : ℕ) (xs : List E) → T (valid (record { count = n; block = b; summary = K.summary xs }))) → Ready K valid w m s r
    ready valid law = record {
      there = there;
      few = few;
      inside = inside;
      can = valid_come valid law h g r grown.loose;
      small = omega (arith, small, ap counts is_now, v.small);
      room = λ l. omega (arith, full l);
      stocked = v.stocked;
      beside = omega (arith, fits w.block, hit_same w.block, held_le g w.block);
    }

    pub turn : (k : ℕ) (m' : Memory) (s' : List ℕ) (r' : Risen) → Settled K.children (entry_of K) K.node_cap k w.block (placed ks w.place r) m s r' m' s' → Rises K z ws m' s' r'
    turn k m' s' r' p = rises_on z ws (suc h) w.block v.small K.children (entry_of K) K.node_cap k (now K f w ms) m s m' s'
        (λ l. full (omega (arith, l, ap length is_now)))
        (λ o q. grow_one K lw f z.stock z.level z.top z.goal h v.grows.block w ws g m'.block (uses s) (uses s') ms grown (record { few = q.few; reads = q.reads; there = q.there; writes = q.ran.step }))
        (λ d l q. grow_two K lw f z.stock z.level z.top z.goal h v.grows.block w ws g m'.block (uses s) (uses s') ms grown d (record {
          too_many = l;
          not_more = omega (arith, length_placed ks w.place r inside, ap length is_now, few, length_one_or_two r.first r.second, lw.node_room);
          first = q.first;
          second = q.second;
          there = q.there;
          there' = q.there';
          writes = q.ran.step;
        }))
        r' (subst (λ (xs : List Child). Settled K.children (entry_of K) K.node_cap k w.block xs m s r' m' s') is_now p)

-- an entry gives way to one or two
pub placed_one : (ks : List Child) (i : ℕ) (r : Risen) → i < length ks → r.second ≡ None → set ks i r.first ≡ placed ks i r
unfolding one_or_two
placed_one ks i r l e = set_split ks i r.first l ∙ ap (λ (o : Option Child). placed ks i (record { first = r.first; second = o })) (sym e)

pub placed_two : (ks : List Child) (i : ℕ) (r : Risen) (other : Child) → r.second ≡ Some other → take i ks ++ (r.first ∷ (other ∷ drop (i + 1) ks)) ≡ placed ks i r
unfolding one_or_two
placed_two ks i r other e = ap (λ (n : ℕ). take i ks ++ (r.first ∷ (other ∷ drop n ks))) (add-one i) ∙ ap (λ (o : Option Child). placed ks i (record { first = r.first; second = o })) (sym e)

-- a part of the climb: the nodes ws' are left of ws
module _ {E : Type 0} (K : Layout E) (ws : List Branch) (m : Memory) (s : List ℕ) (r : Risen) where
  pub record Climbing (ws' : List Branch) (m' : Memory) (s' : List ℕ) (r' : Risen) : Type 0 where
    pub shorter : length ws' ≤ length ws
    pub spent : Spent ((length ws - length ws') * turn_asks) m m'
    pub fewer : length s' ≤ length s
    pub climbs : Climbs K ws m s r ws' m' s' r'

  -- a turn more
  pub climbing_more : Lawful K → (w : Branch) (ws' : List Branch) (m' m'' : Memory) (s' s'' : List ℕ) (r' r'' : Risen) → Climbing (w ∷ ws') m' s' r'
      → Settled K.children (entry_of K) K.node_cap turn_asks w.block (placed (K.children (m'.block w.block)) w.place r') m' s' r'' m'' s'' → Climbing ws' m'' s'' r''
  climbing_more lw w ws' m' m'' s' s'' r' r'' p q = let t = settled_went _ _ _ turn_asks _ _ m' s' m'' s'' r'' q in record {
    shorter = omega (arith, p.shorter);
    spent = spent_then _ turn_asks _ m m' m'' (omega (arith, p.shorter)) p.spent t.spent;
    fewer = omega (arith, p.fewer, t.fewer);
    climbs = λ z a. turn K lw z w ws' m' s' r' (p.climbs z a) turn_asks m'' s'' r'' q;
  }
