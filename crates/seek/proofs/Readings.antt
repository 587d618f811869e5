-- Reading, one part after the other.
use Rattle.std.proofs.Common.{◌≡◌, ℕ, ◌+◌, ◌≤◌, length, sym, ap, ◌∙◌, subst, arith}
use Rattle.store.specs.Memory.{Memory, Stored, asked}
use Rattle.store.specs.Steps.{Mem, Ran}
use Rattle.store.proofs.Memories.{asked_none, asked_then}
use Rattle.store.proofs.Running.{ran_asked, ran_more}
use Rattle.tree.specs.Pages.{Reading}

pub reading_none : (k : ℕ) (m : Memory) → Reading k m m
reading_none k m = record { times = 0; few = omega arith; is = asked_none m }

pub reading_asked : (k n : ℕ) (m m' : Memory) → n ≤ k → m' ≡ asked n m → Reading k m m'
reading_asked k n m m' l e = record { times = n; few = l; is = e }

-- once more
pub asked_next : (k : ℕ) (m m' m'' : Memory) → m' ≡ asked k m → m'' ≡ asked 1 m' → m'' ≡ asked (k + 1) m
asked_next k m m' m'' e e' =
    let n : 1 + k ≡ k + 1 = omega arith in
    e' ∙ ap (asked 1) e ∙ asked_then 1 k m ∙ ap (λ (j : ℕ). asked j m) n

pub reading_then : (j k n : ℕ) (m m' m'' : Memory) → j + k ≤ n → Reading j m m' → Reading k m' m'' → Reading n m m''
reading_then j k n m m' m'' l p q = record {
  times = q.times + p.times;
  few = omega (arith, p.few, q.few);
  is = q.is ∙ ap (asked q.times) p.is ∙ asked_then q.times p.times m;
}

module _ (k : ℕ) (m m' : Memory) (p : Reading k m m') where
  pub reading_blocks : m'.block ≡ m.block
  reading_blocks = ap (λ (x : Memory). x.block) p.is

  pub reading_left : m.left ≤ m'.left + k
  reading_left = omega (arith, p.few, ap (λ (x : Memory). x.left) p.is)

  pub reading_many : m'.many ≡ m.many
  reading_many = ap (λ (x : Memory). x.many) p.is

  pub reading_stored : (b : ℕ) → Stored m.block b → Stored m'.block b
  reading_stored b s = (s.0, ap (λ (f : Mem). length (f b)) reading_blocks ∙ s.1)

  pub reading_ran : (u : ℕ → ℕ) → Ran k u u m m'
  reading_ran u = ran_more p.times u u m m' (subst (λ (x : Memory). Ran p.times u u m x) (sym p.is) (ran_asked p.times u m)) k p.few
