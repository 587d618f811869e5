-- Two pages are read and evened out, and one or both are written.
use Rattle.std.proofs.Common.{◌≡◌, ℕ, ◌+◌, ◌^◌, ◌<◌, ◌≤◌, List, ◌++◌, length, Some, None, Option, IfSome, [], sym, refl, ap, ◌∙◌, subst, arith, MatchOption, length-append}
use Rattle.page.specs.declared.child.Child.{Child}
use Rattle.page.specs.Balance.{Merged, Evened, EvenedFew, evened}
use Rattle.store.specs.Memory.{Memory, Stored, released}
use Rattle.store.specs.Steps.{Mem, Ran, hit}
use Rattle.store.proofs.Stepping.{at_other}
use Rattle.store.proofs.Running.{ran_as, ran_then, ran_beside, ran_asked, ran_more, ran_release}
use Rattle.tree.specs.Pages.{page_asks, Reading, Writing}
use Rattle.tree.proofs.Writing.{stored_after, wrote_reads}
use Rattle.seek.proofs.Readings.{reading_then, reading_stored}
use Rattle.shrink.specs.Asks.{share_asks}
use Rattle.shrink.specs.Sharing.{Sharable, InOne, InTwo, Above}

-- what even_out says: all entries are on the left page, or on both
abbrev pub EvenOut : {X : Type 0} → ℕ → List X → List X → Option (List X) → Type 0
EvenOut cap all xs o = MatchOption o (Merged cap all xs) (λ ys. Evened cap all xs ys)

-- that no page has more entries than it may have is not needed here
evened_out : {X : Type 0} (cap : ℕ) (all xs : List X) (o : Option (List X)) → MatchOption o (Merged cap all xs) (λ ys. EvenedFew cap all xs ys) → EvenOut cap all xs o
evened_out cap all xs None v = v
evened_out cap all xs (Some ys) v = evened v

module _ {X : Type 0} {read : List ℕ → List X} {cap a b : ℕ} {m : Memory} {under : List X → ℕ} (s : Sharable read cap a b m under) where
  abbrev all : List X
  all = read (m.block a) ++ read (m.block b)

  -- the pages, as they were read
  pub even_read : {m₁ : Memory} {top : ℕ} {ls rs : List X} → top ≡ cap → ls ≡ read (m.block a) → rs ≡ read (m₁.block b) → Reading page_asks m m₁ → (xs : List X) (o : Option (List X)) → EvenOut top (ls ++ rs) xs o → EvenOut cap all xs o
  even_read {m₁} {top} {ls} {rs} et el er r xs o v =
      subst (λ (n : ℕ). EvenOut n all xs o) et
      (subst (λ (p : List X). EvenOut top (p ++ read (m.block b)) xs o) el
      (subst (λ (q : List X). EvenOut top (ls ++ q) xs o) (er ∙ ap (λ (x : Memory). read (x.block b)) r.is) v))

  -- the same of all that even_out says of them
  pub pages_read : {m₁ : Memory} {top : ℕ} {ls rs : List X} → top ≡ cap → ls ≡ read (m.block a) → rs ≡ read (m₁.block b) → Reading page_asks m m₁ → (xs : List X) (o : Option (List X)) → MatchOption o (Merged top (ls ++ rs) xs) (λ ys. EvenedFew top (ls ++ rs) xs ys) → EvenOut cap all xs o
  pages_read et el er r xs o v = even_read et el er r xs o (evened_out _ _ xs o v)

  module _ (xs : List X) where
    pub left_few : (o : Option (List X)) → EvenOut cap all xs o → length xs ≤ cap
    left_few None v = v.few
    left_few (Some ys) v = omega (arith, s.first_few, s.second_few, v.not_more, ap length v.same, length-append xs ys, length-append (read (m.block a)) (read (m.block b)))

    pub right_few : (o : Option (List X)) → EvenOut cap all xs o → IfSome o (λ ys. length ys ≤ cap)
    right_few None v = tt
    right_few (Some ys) v = omega (arith, s.first_few, s.second_few, v.even, v.many, v.not_more, ap length v.same, length-append xs ys, length-append (read (m.block a)) (read (m.block b)))

    pub left_some : (o : Option (List X)) → 2 ≤ cap → EvenOut cap all xs o → 0 < length xs
    left_some None l v = omega (arith, s.enough, ap length v.same, length-append (read (m.block a)) (read (m.block b)))
    left_some (Some ys) l v = omega (arith, v.even, v.many)

    -- each page has a part of what is under them
    module _ (adds : (ps qs : List X) → under (ps ++ qs) ≡ under ps + under qs) where
      pub left_counted : (o : Option (List X)) → EvenOut cap all xs o → under xs < 2 ^ 64
      left_counted None v = omega (arith, s.counted, ap under v.same)
      left_counted (Some ys) v = omega (arith, s.counted, ap under v.same, adds xs ys)

      pub right_counted : (o : Option (List X)) → EvenOut cap all xs o → IfSome o (λ ys. under ys < 2 ^ 64)
      right_counted None v = tt
      right_counted (Some ys) v = omega (arith, s.counted, ap under v.same, adds xs ys)

  -- they are read, and the left one is written
  module _ {m₁ m₂ m₃ : Memory} (r₁ : Reading page_asks m m₁) (r₂ : Reading page_asks m₁ m₂) {xs : List X} (w₃ : Writing page_asks read a xs m₂ m₃) where
    both : Reading (page_asks + page_asks) m m₂
    both = reading_then page_asks page_asks (page_asks + page_asks) m m₁ m₂ (omega arith) r₁ r₂

    stored_three : (c : ℕ) → Stored m.block c → Stored m₃.block c
    stored_three c t = stored_after read m₂.block m₃.block a c xs w₃.wrote (reading_stored (page_asks + page_asks) m m₂ both c t)

    many_three : m₃.many ≡ m.many
    many_three = w₃.many ∙ ap (λ (x : Memory). x.many) both.is

    ran_three : Ran (both.times + page_asks) (λ c. hit a c + hit b c) (λ c. hit a c + hit b c) m m₃
    ran_three = ran_then both.times page_asks _ _ _ m m₂ m₃
        (subst (Ran both.times (λ c. hit a c + hit b c) (λ c. hit a c + hit b c) m) (sym both.is) (ran_asked both.times _ m))
        (ran_beside page_asks (hit a) (hit a) m₂ m₃ w₃.ran (hit b))

    in_one : (m₄ : Memory) → m₄ ≡ released b m₃ → Merged cap (read (m.block a) ++ read (m.block b)) xs → InOne read cap a b m share_asks xs m₄
    in_one m₄ e v = subst (InOne read cap a b m share_asks xs) (sym e) (record {
      same = v.same;
      few = v.few;
      reads = ap read (at_other b [] m₃.block a s.apart) ∙ wrote_reads read m₂.block m₃.block a xs w₃.wrote;
      there = (s.first.0, ap length (at_other b [] m₃.block a s.apart) ∙ (stored_three a s.first).1);
      ran = ran_more _ _ _ m (released b m₃)
          (ran_then (both.times + page_asks) 1 _ _ _ m m₃ (released b m₃) ran_three
          (ran_as 1 _ _ m₃ (released b m₃) (ran_beside 1 (hit b) (λ c. 0) m₃ (released b m₃) (ran_release b m₃ (stored_three b s.second) (omega (arith, s.held, many_three))) (hit a)) _ _ (λ c. omega arith) (λ c. omega arith)))
          share_asks (omega (arith, both.few));
    })

    in_two : (ys : List X) (m₄ : Memory) → Writing page_asks read b ys m₃ m₄ → Evened cap (read (m.block a) ++ read (m.block b)) xs ys → InTwo read cap a b m share_asks xs ys m₄
    in_two ys m₄ w₄ v = record {
      same = v.same;
      first_few = left_few xs (Some ys) v;
      second_few = right_few xs (Some ys) v;
      first_full = omega (arith, v.many, v.even);
      second_full = omega (arith, v.many, v.not_more);
      first = ap (λ (f : Mem). read (f a)) w₄.wrote.is ∙ ap read (at_other b w₄.wrote.words m₃.block a s.apart) ∙ wrote_reads read m₂.block m₃.block a xs w₃.wrote;
      second = wrote_reads read m₃.block m₄.block b ys w₄.wrote;
      there = stored_after read m₃.block m₄.block b a ys w₄.wrote (stored_three a s.first);
      there' = stored_after read m₃.block m₄.block b b ys w₄.wrote (stored_three b s.second);
      ran = ran_more _ _ _ m m₄
          (ran_then (both.times + page_asks) page_asks _ _ _ m m₃ m₄ ran_three
          (ran_as page_asks _ _ m₃ m₄ (ran_beside page_asks (hit b) (hit b) m₃ m₄ w₄.ran (hit a)) _ _ (λ c. omega arith) (λ c. omega arith)))
          share_asks (omega (arith, both.few));
    }

    -- the right page was kept, or its block released
    pub evened_above : (entry : ℕ → List X → Child) (x : Child) → x ≡ entry a xs → (o : Option (List X)) → EvenOut cap (read (m.block a) ++ read (m.block b)) xs o
        → (p : Option Child) → MatchOption o (p ≡ None) (λ ys. p ≡ Some (entry b ys))
        → (m₄ : Memory) → MatchOption o (m₄ ≡ released b m₃) (λ ys. Writing page_asks read b ys m₃ m₄) → Above read cap a b m share_asks entry (record { first = x; second = p }) m₄
    evened_above entry x ex None v p ep m₄ w =
        subst (λ (q : Option Child). Above read cap a b m share_asks entry (record { first = x; second = q }) m₄) (sym ep) (record { xs = xs; all = in_one m₄ w v; above = ex })
    evened_above entry x ex (Some ys) v p ep m₄ w =
        subst (λ (q : Option Child). Above read cap a b m share_asks entry (record { first = x; second = q }) m₄) (sym ep) (record { xs = xs; ys = ys; both = in_two ys m₄ w v; first_above = ex; second_above = refl })
