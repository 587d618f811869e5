use Rattle.std.proofs.Common.{arith}
use Rattle.tree.proofs.Imaging.{first_word}
use Rattle.shrink.proofs.CodeTop.{top_stored, code_leaf_stays, code_leaf_gone}
use Rattle.shrink.proofs.trim.trim_leaf.Goals as goal

pub number_of_entries-requires-clause-there : goal.number_of_entries-requires-clause-there
number_of_entries-requires-clause-there g c = top_stored g.met.K.Kind.lawful c.requires.top.1

pub returns-then-number_of_entries-gt0 : goal.returns-then-number_of_entries-gt0
returns-then-number_of_entries-gt0 g c = λ z v.
    code_leaf_stays g.met.K.Kind.lawful v c.requires.height c.number_of_entries.ensures.same
    (omega (arith, c.if-number_of_entries-gt0.true, c.number_of_entries.ensures.value, first_word g.K.Leaf.Codec.width g.K.Leaf.Codec.decode g.K.Kind.layout.items g.met.K.Kind.leaves ((g.W.Store.memory c.args.m.now).block c.args.t.root)))

pub release-requires-clause-there : goal.release-requires-clause-there
release-requires-clause-there g c = rw c.number_of_entries.ensures.same (top_stored g.met.K.Kind.lawful c.requires.top.1)

pub returns : goal.returns
returns g c = λ z v.
    code_leaf_gone g.met.K.Kind.lawful v c.requires.height c.number_of_entries.ensures.same c.release.ensures
    (omega (arith, c.if-number_of_entries-gt0.false, c.number_of_entries.ensures.value, first_word g.K.Leaf.Codec.width g.K.Leaf.Codec.decode g.K.Kind.layout.items g.met.K.Kind.leaves ((g.W.Store.memory c.args.m.now).block c.args.t.root)))
