-- What `Obtains` says where nothing was held. Assumes nothing.
use Rattle.std.proofs.Common.{◌≡◌, ℕ, ◌+◌, ◌-◌, eqb, List, length, Option, refl, ap, ◌∙◌}
use Rattle.std.proofs.lemmas.Bool.{cond-true, eq-eqb}
use Rattle.things.specs.Ground.{Ground, Obtains, got, none, at}
use Rattle.heaptour.specs.OneBlock.{Took}

at_self : (b : ℕ) (ws : List ℕ) (f : ℕ → List ℕ) → at b ws f b ≡ ws
at_self b ws f = cond-true (eqb b b) ws (f b) (eq-eqb b b refl)

pub taken : {g : Ground} {r : Option ℕ} {g' : Ground} → Obtains g r g' → g.many ≡ 0 → (n : ℕ) → g.left - 1 ≡ n → Took r n g'
taken {g} (got b ws l e k) m n f = record {
  holds = record { number = l; size = ap length (at_self b ws g.block) ∙ k; many = ap (λ (z : ℕ). z + 1) m };
  left = f;
}
taken none m n f = m
