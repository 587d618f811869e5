-- For a contract that states two facts: says_two shows both in a goal P ∗ ⌜φ⌝ ∗ ⌜ψ⌝, and P is left; says_three shows three. Assumes nothing.
use Rattle.std.proofs.Common.{List}
use seplogic.Ra.Ura.{Ura}
use base.Logic.{SProp, ent, sep, emp, via, comm∗, mono_l, mono_r, emp∗}
use types.Logic.{Logic}
use types.Kit.{Item, prop, Step, step}
use contract.Monad.{fact, fact_i}

module _ {M : Type 1} (𝓤 : Ura M) where
  beside : (φ : Type 0) (F : SProp 𝓤) → φ → ent 𝓤 (emp 𝓤) F → ent 𝓤 (emp 𝓤) (sep 𝓤 (fact 𝓤 φ) F)
  beside φ F x f = via 𝓤 (sep 𝓤 (emp 𝓤) (emp 𝓤)) (emp∗ 𝓤 (emp 𝓤)) (via 𝓤 (sep 𝓤 (fact 𝓤 φ) (emp 𝓤)) (mono_l 𝓤 (emp 𝓤) (fact_i 𝓤 φ (emp 𝓤) x)) (mono_r 𝓤 (fact 𝓤 φ) {Q = emp 𝓤} {Q' = F} f))

  added : (P F : SProp 𝓤) → ent 𝓤 (emp 𝓤) F → ent 𝓤 P (sep 𝓤 P F)
  added P F f = via 𝓤 (sep 𝓤 (emp 𝓤) P) (emp∗ 𝓤 P) (via 𝓤 (sep 𝓤 F P) (mono_l 𝓤 P f) (comm∗ 𝓤 F P))

pub says_two : {M : Type 1} {𝓤 : Ura M} {𝓛 : Logic 𝓤} {K : Type 0} {Γ : List (Item 𝓤)} → K → {φ ψ : Type 0} {P : SProp 𝓤} → φ × ψ → Step K 𝓛 Γ (prop P) Γ (prop (sep 𝓤 P (sep 𝓤 (fact 𝓤 φ) (fact 𝓤 ψ))))
says_two {𝓤 = 𝓤} t {φ} {ψ} {P} x = step (λ s. record { prf = via 𝓤 P s.prf (added 𝓤 P (sep 𝓤 (fact 𝓤 φ) (fact 𝓤 ψ)) (beside 𝓤 φ (fact 𝓤 ψ) x.0 (fact_i 𝓤 ψ (emp 𝓤) x.1))) })

pub says_three : {M : Type 1} {𝓤 : Ura M} {𝓛 : Logic 𝓤} {K : Type 0} {Γ : List (Item 𝓤)} → K → {φ ψ χ : Type 0} {P : SProp 𝓤} → φ → ψ → χ
    → Step K 𝓛 Γ (prop P) Γ (prop (sep 𝓤 P (sep 𝓤 (fact 𝓤 φ) (sep 𝓤 (fact 𝓤 ψ) (fact 𝓤 χ)))))
says_three {𝓤 = 𝓤} t {φ} {ψ} {χ} {P} x y z = step (λ s. record {
  prf = via 𝓤 P s.prf (added 𝓤 P (sep 𝓤 (fact 𝓤 φ) (sep 𝓤 (fact 𝓤 ψ) (fact 𝓤 χ)))
      (beside 𝓤 φ (sep 𝓤 (fact 𝓤 ψ) (fact 𝓤 χ)) x (beside 𝓤 ψ (fact 𝓤 χ) y (fact_i 𝓤 χ (emp 𝓤) z))));
})
