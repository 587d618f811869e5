-- Memories that are the same, and askings one after the other.
use Rattle.std.proofs.Common.{◌≡◌, ℕ, ◌+◌, List, set, sym, refl, ap, ◌∙◌, subst, arith}
use native.Mathlib.Decide.{ℕ_discrete}
use Rattle.store.specs.Memory.{Memory, at, asked, wrote, written}
use Rattle.store.specs.Steps.{Mem}
use Rattle.store.proofs.Stepping.{at_same, at_other}

pub memory_ext : (m m' : Memory) → ((c : ℕ) → m.block c ≡ m'.block c) → m.many ≡ m'.many → m.left ≡ m'.left → m.top ≡ m'.top → m.failed ≡ m'.failed → m ≡ m'
memory_ext m m' f a b c d = λ i. record { block = λ k. f k i; many = a i; left = b i; top = c i; failed = d i }

-- what is shown at b and away from b is shown everywhere
pub by_place : (P : ℕ → Type 0) (b : ℕ) → P b → ((c : ℕ) → (c ≡ b → ⊥) → P c) → (c : ℕ) → P c
by_place P b here there c = elim (ℕ_discrete c b) [ yes p ↦ subst P (sym p) here | no p ↦ there c p ]

pub at_at : (b : ℕ) (xs ys : List ℕ) (f : Mem) (c : ℕ) → at b ys (at b xs f) c ≡ at b ys f c
at_at b xs ys f = by_place (λ c. at b ys (at b xs f) c ≡ at b ys f c) b
    (at_same b ys (at b xs f) ∙ sym (at_same b ys f))
    (λ c n. at_other b ys (at b xs f) c n ∙ at_other b xs f c n ∙ sym (at_other b ys f c n))

pub at_self : (b : ℕ) (f : Mem) (c : ℕ) → at b (f b) f c ≡ f c
at_self b f = by_place (λ c. at b (f b) f c ≡ f c) b (at_same b (f b) f) (λ c n. at_other b (f b) f c n)

pub asked_none : (m : Memory) → m ≡ asked 0 m
asked_none m = memory_ext _ _ (λ c. refl) refl (omega arith) refl refl

pub asked_then : (a k : ℕ) (m : Memory) → asked a (asked k m) ≡ asked (a + k) m
asked_then a k m = memory_ext _ _ (λ c. refl) refl (omega arith) refl refl

-- writes to one block merge
pub wrote_then : (a k b : ℕ) (xs ys : List ℕ) (m : Memory) → wrote a b ys (wrote k b xs m) ≡ wrote (a + k) b ys m
wrote_then a k b xs ys m = memory_ext _ _ (λ c. at_at b xs ys m.block c) refl (omega arith) refl refl

-- nothing is written
pub wrote_none : (b : ℕ) (m : Memory) → m ≡ wrote 0 b (m.block b) m
wrote_none b m = memory_ext _ _ (λ c. sym (at_self b m.block c)) refl (omega arith) refl refl

-- a word is written after others of its block
pub written_wrote : (k b i x : ℕ) (xs ys : List ℕ) (m : Memory) → set xs i x ≡ ys → written b i x (wrote k b xs m) ≡ wrote (1 + k) b ys m
written_wrote k b i x xs ys m e =
    ap (λ (zs : List ℕ). wrote 1 b zs (wrote k b xs m)) (ap (λ (zs : List ℕ). set zs i x) (at_same b xs m.block) ∙ e)
    ∙ wrote_then 1 k b xs ys m

pub wrote_block : (k b : ℕ) (ws : List ℕ) (m m' : Memory) → m' ≡ wrote k b ws m → m'.block b ≡ ws
wrote_block k b ws m m' e = ap (λ (x : Memory). x.block b) e ∙ at_same b ws m.block
