use Rattle.std.proofs.Common.{◌≡◌, ℕ, ◌/◌, List, length, take, nat_eq, sym, ap, ◌∙◌, subst}
use Rattle.std.proofs.Math.Nat.{div-mul-le_self}
use Rattle.std.proofs.lemmas.List.Elements.{All-take}
use Rattle.std.specs.List.{All, IsDistinct}
use Rattle.things.specs.Ground.{AtStart}
use Rattle.lent.specs.Sizes.{block_words}
use Rattle.lent.specs.Free.{AreBelow, down_from}
use Rattle.lent.specs.Lying.{lying}
use Rattle.lent.proofs.Grounds.{at_start}
use Rattle.lent.proofs.Numbers.{all_below, all_apart, cut_alike, whole_chunks}
use Rattle.lent.proofs.lent.Lent.over.Goals as goal

pub invariant_of-result-clause-whole : goal.invariant_of-result-clause-whole
invariant_of-result-clause-whole c =
    let ws = c.args.words.now in
    let Whole : List (List ℕ) → Type 0 = All (λ w. length w ≡ block_words) in
    let whole = whole_chunks block_words (length ws / block_words) ws (div-mul-le_self (length ws) block_words) in
    All-take (λ w. length w ≡ block_words) c.fitting-size.result c.as_chunks_mut-blocks.result.0.now (subst Whole (sym c.as_chunks_mut-blocks.ensures.front) whole)

pub invariant_of-result-clause-room : goal.invariant_of-result-clause-room
invariant_of-result-clause-room c =
    c.full.ensures.room ∙ cut_alike c.as_chunks_mut-blocks.result.0.now c.args.free.now 1048576 c.fitting-size.result c.fitting-size.ensures

pub invariant_of-result-clause-low : goal.invariant_of-result-clause-low
invariant_of-result-clause-low c =
    let bs = c.as_chunks_mut-blocks.result.0.now in
    let n = length (take c.fitting-size.result bs) in
    let e = cut_alike bs c.args.free.now 1048576 c.fitting-size.result c.fitting-size.ensures in
    subst (AreBelow n) (sym (c.full.ensures.all ∙ ap down_from e)) (all_below n)

pub invariant_of-result-clause-apart : goal.invariant_of-result-clause-apart
invariant_of-result-clause-apart c = subst (IsDistinct nat_eq) (sym c.full.ensures.all) (all_apart (length (take c.fitting-size.result c.args.free.now)))

pub returns-clause-none : goal.returns-clause-none
returns-clause-none c =
    let bs = c.as_chunks_mut-blocks.result.0.now in
    let e = cut_alike bs c.args.free.now 1048576 c.fitting-size.result c.fitting-size.ensures in
    subst (λ (free : List ℕ). AtStart (lying (take c.fitting-size.result bs) free c.new.result)) (sym (c.full.ensures.all ∙ ap down_from e))
    (at_start (take c.fitting-size.result bs) c.new.result (ap (λ m. m.failed) c.new.ensures))
