use Rattle.std.proofs.Common.{ℕ, sym, ◌∙◌, ap₂, arith}
use Rattle.seek.specs.Descent.{run_after}
use Rattle.tree.proofs.Imaging.{first_word}
use Rattle.seek.proofs.Going.{going_start, going_stored, going_short, node_few, node_some, node_there, child_small, going_turn, going_end}
use Rattle.seek.proofs.descend.descend.Goals as goal

pub loop-init : goal.loop-init
loop-init g c = going_start g.K.Kind.layout g.met.K.Kind.wide c.new-path.ensures c.requires.tall c.requires.lies c.requires.there

pub choose_child-step-requires-clause-there : goal.choose_child-step-requires-clause-there
choose_child-step-requires-clause-there g c = going_stored _ c.loop.invariant

pub choose_child-step-requires-clause-few : goal.choose_child-step-requires-clause-few
choose_child-step-requires-clause-few g c = node_few _ c.loop.invariant (omega arith)

pub choose_child-step-requires-clause-some : goal.choose_child-step-requires-clause-some
choose_child-step-requires-clause-some g c = node_some _ c.loop.invariant (omega arith)

pub choose_child-step-requires-clause-inside : goal.choose_child-step-requires-clause-inside
choose_child-step-requires-clause-inside g c = node_there _ c.loop.invariant (omega arith)

pub run_on-full-requires : goal.run_on-full-requires
run_on-full-requires g c = going_short _ c.loop.invariant

pub overflow_cast-b : goal.overflow_cast-b
overflow_cast-b g c =
    record { fits = omega (arith, child_small _ c.loop.invariant (omega arith) _ c.choose_child-step.ensures.chosen) }

pub loop-preserved : goal.loop-preserved
loop-preserved g c =
    let p = c.choose_child-step.ensures.chosen in
    going_turn _ c.loop.invariant (omega arith) _ p g.met.K.Kind.lawful c.push.ensures.pushed (c.run_on-full.ensures ∙ ap₂ (λ (x y : ℕ). run_after c.loop.full x y) p.entries c.node_cap.ensures)
    c.choose_child-step.ensures.same (omega arith)

pub number_of_entries-items-requires-clause-there : goal.number_of_entries-items-requires-clause-there
number_of_entries-items-requires-clause-there g c = going_stored _ c.loop.invariant

pub run_on-requires : goal.run_on-requires
run_on-requires g c = going_short _ c.loop.invariant

pub returns : goal.returns
returns g c =
    let ws = (g.W.Store.memory c.loop.m).block c.loop.b in
    let n = first_word g.K.Leaf.Codec.width g.K.Leaf.Codec.decode g.K.Kind.layout.items g.met.K.Kind.leaves ws in
    going_end _ c.loop.invariant (omega arith) (c.run_on.ensures ∙ ap₂ (λ (x y : ℕ). run_after c.loop.full x y) (c.number_of_entries-items.ensures.value ∙ sym n) c.leaf_cap.ensures) c.number_of_entries-items.ensures.same
