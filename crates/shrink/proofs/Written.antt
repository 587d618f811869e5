-- A page is written, and the climb is one level further up, or begins.
use Rattle.std.proofs.Common.{◌≡◌, ℕ, suc, ◌+◌, ◌*◌, ◌^◌, ◌<◌, ◌≤◌, List, ◌++◌, length, take, drop, Some, None, Option, sym, refl, ap, ◌∙◌, subst, arith, length-append, MatchOption, IfSome}
use Rattle.page.specs.declared.child.Child.{Child}
use Rattle.page.specs.Layout.{Layout, Lawful, half, counts, entry_of, entry_of_leaf}
use Rattle.store.specs.Memory.{Memory, Stored}
use Rattle.store.specs.Steps.{Mem, Ran, hit}
use Rattle.store.proofs.Stepping.{step_as}
use Rattle.store.proofs.Running.{ran_as, ran_part, ran_then, ran_asked, ran_more}
use Rattle.tree.specs.Pages.{page_asks, Reading}
use Rattle.tree.specs.Tree.{contents, uses, many, low, Sound, contents_of, uses_of, ChildOk, ChildrenOk}
use Rattle.tree.specs.declared.path.Branch.{Branch}
use Rattle.tree.specs.Paths.{before, behind}
use Rattle.tree.specs.Roots.{Rooted}
use Rattle.tree.specs.Down.{Down}
use Rattle.tree.proofs.Writing.{stored_after, wrote_reads}
use Rattle.tree.proofs.Paths.{seen}
use Rattle.tree.proofs.Places.{deleted}
use Rattle.tree.proofs.Entries.{counts_right}
use Rattle.tree.proofs.Settle.{one_node}
use Rattle.tree.proofs.Leaves.{one_leaf}
use Rattle.tree.proofs.Roots.{root_above}
use Rattle.shrink.specs.Asks.{turn_asks, top_asks, leaf_asks}
use Rattle.seek.specs.Asks.{descend_asks}
use Rattle.shrink.specs.Putting.{Put}
use Rattle.shrink.specs.Shrinking.{Start, Starts, Risen, Climbing, Ready}

-- what stands above a page that was written, of n entries, k where there are enough
risen_of : {E : Type 0} (K : Layout E) (h b : ℕ) (m : Memory) (k : Child) (enough n : ℕ) → low K h ≡ enough → many K h (m.block b) ≡ n → k.block ≡ b → (enough ≤ n → ChildOk K h m.block k)
    → (o : Option Child) → MatchOption o (n < enough) (λ j. j ≡ k) → IfSome o (λ _. enough ≤ n) → Risen K h m b o
risen_of K h b m k enough n el en eb ok None l u = omega (arith, el, en)
risen_of K h b m k enough n el en eb ok (Some j) e u = (ap (λ (x : Child). x.block) e ∙ eb, subst (ChildOk K h m.block) (sym e) (ok u))

module _ {E : Type 0} (K : Layout E) (lw : Lawful K) where
  module _ (z : Start E) (h b : ℕ) (ws : List Branch) (m : Memory) (ks : List Child) (r : Ready K z h b ws m ks) where
    abbrev g : Mem
    g = m.block

    pub ready_counts : counts ks < 2 ^ 64
    ready_counts = omega (
      arith,
      counts_right K h g ks r.children,
      ap length r.whole,
      length-append (before K z.memory.block (suc h) ws) (contents_of K h g ks ++ behind K z.memory.block (suc h) ws),
      length-append (contents_of K h g ks) (behind K z.memory.block (suc h) ws),
      r.starts.small,
    )

    module _ (o : Option Child) (m' : Memory) (p : Put K.children (entry_of K) K.node_cap b ks m o m') where
      reads : K.children (m'.block b) ≡ ks
      reads = wrote_reads K.children g m'.block b ks p.writing.wrote

      there : Stored m'.block b
      there = stored_after K.children g m'.block b b ks p.writing.wrote r.there

      rooted : Rooted K h g m'.block (hit b) (λ c. 0) ks b
      rooted = root_above K h g m'.block (hit b) (λ c. 0) ks b (record {
        fits = λ c. omega (arith, r.ran.step.balanced c, r.starts.fits c, (seen K z.memory.block (suc h) b ws z.level z.top r.path).uses_seen c);
        writes = step_as _ _ _ _ g m'.block (λ c. refl) (λ c. omega arith) p.writing.ran.step;
        reads = reads;
        words = there;
        few = r.few;
        children = r.children;
      })

      children : ChildrenOk K h m'.block ks
      unfolding Sound
      children = subst (ChildrenOk K h m'.block) reads rooted.sound.2

      risen_node : Risen K (suc h) m' b o
      unfolding many low
      risen_node = risen_of K (suc h) b m' (entry_of K b ks) (half K.node_cap) (length ks) refl (ap length reads) refl (λ l. one_node K lw h m'.block b ks there reads l r.few children) o p.risen p.full

      pub climbed : Climbing K z (suc h) ws m' o
      unfolding many
      climbed = record {
        block = b;
        used = r.used + page_asks;
        starts = r.starts;
        path = r.path;
        ran = ran_as _ _ _ z.memory m' (ran_part r.used page_asks _ _ (hit b) (hit b) (λ c. uses_of K h g ks c) z.memory m m' r.ran (λ c. refl) p.writing.ran) _ _
            (λ c. refl) (λ c. omega (arith, rooted.all.balanced c, p.writing.ran.step.balanced c));
        room = omega (arith, r.room);
        whole = rw rooted.same_contents r.whole;
        sound = rooted.sound;
        fewer = rw reads r.fewer;
        risen = risen_node;
      }

  -- the leaf at the end of a path has an item less
  module _ (z : Start E) (s : Starts K z) (p b a : ℕ) (ws : List Branch) (d : Down K z.memory.block z.level z.top p 0 0 b ws a) (m m' : Memory) (o : Option Child)
      (goal : z.goal ≡ take p (contents K z.level z.memory.block z.top) ++ drop (suc p) (contents K z.level z.memory.block z.top))
      (room : descend_asks + leaf_asks + (length ws * turn_asks + top_asks) ≤ z.asks) (rd : Reading (descend_asks + page_asks) z.memory m) where
    abbrev f : Mem
    f = z.memory.block

    abbrev items : List E
    items = K.items (f b)

    abbrev rest : List E
    rest = take a items ++ drop (suc a) items

    pub begun : length rest + 1 ≡ length items → Put K.items (entry_of_leaf K) K.leaf_cap b rest m o m' → Climbing K z 0 ws m' o
    unfolding Sound many low contents uses
    begun e q = record {
      block = b;
      used = descend_asks + leaf_asks;
      starts = s;
      path = d.path;
      ran = ran_more _ _ _ z.memory m' (ran_then rd.times page_asks _ _ _ z.memory m m' read q.writing.ran) (descend_asks + leaf_asks) (omega (arith, rd.few));
      room = room;
      whole = rw reads (deleted (before K f 0 ws) items (behind K f 0 ws) a (omega (arith, d.inside)) ∙ at_place);
      sound = (there, rw reads (omega (arith, d.sound.1)));
      fewer = rw reads (omega arith);
      risen = risen_of K 0 b m' (entry_of_leaf K b rest) (half K.leaf_cap) (length rest) refl (ap length reads) refl (λ l. one_leaf K m'.block b rest there reads l (omega (arith, d.sound.1))) o q.risen q.full;
    }
      where
        read : Ran rd.times (hit b) (hit b) z.memory m
        read = subst (Ran rd.times (hit b) (hit b) z.memory) (sym rd.is) (ran_asked rd.times (hit b) z.memory)

        stored : Stored m.block b
        stored = (d.sound.0.0, ap (λ (x : Memory). length (x.block b)) rd.is ∙ d.sound.0.1)

        reads : K.items (m'.block b) ≡ rest
        reads = wrote_reads K.items m.block m'.block b rest q.writing.wrote

        there : Stored m'.block b
        there = stored_after K.items m.block m'.block b b rest q.writing.wrote stored

        at_place : take (length (before K f 0 ws) + a) (before K f 0 ws ++ (items ++ behind K f 0 ws)) ++ drop (suc (length (before K f 0 ws) + a)) (before K f 0 ws ++ (items ++ behind K f 0 ws)) ≡ z.goal
        at_place = rw (← d.place, ← (seen K f 0 b ws z.level z.top d.path).contents_seen) (sym goal)
