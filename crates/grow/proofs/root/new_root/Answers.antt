use Rattle.std.proofs.Common.{arith}
use Rattle.grow.proofs.Crowning.{low_block, can_write, spare, crown_one, crown_two}
use Rattle.grow.proofs.root.new_root.Goals as goal

pub overflow_cast-result : goal.overflow_cast-result
overflow_cast-result g c = record { fits = omega (arith, low_block _ _ _ _ _ c.requires.rises.1) }

pub node_above-requires-clause-one_valid : goal.node_above-requires-clause-one_valid
node_above-requires-clause-one_valid g c = (can_write _ _ _ _ _ c.requires.rises.1 g.K.Node.Codec.valid g.met.K.Kind.entries_valid _ c.in-Some.is).0

pub node_above-requires-clause-other_valid : goal.node_above-requires-clause-other_valid
node_above-requires-clause-other_valid g c = (can_write _ _ _ _ _ c.requires.rises.1 g.K.Node.Codec.valid g.met.K.Kind.entries_valid _ c.in-Some.is).1

pub node_above-requires-clause-some : goal.node_above-requires-clause-some
node_above-requires-clause-some g c = spare _ _ _ _ _ c.requires.rises.1 _ c.in-Some.is

pub returns-in-None-clause-crowns : goal.returns-in-None-clause-crowns
returns-in-None-clause-crowns g c = λ z e w v. crown_one _ z _ _ _ v _ e g.met.K.Kind.lawful w c.in-None.is

pub returns-in-Some-clause-crowns : goal.returns-in-Some-clause-crowns
returns-in-Some-clause-crowns g c = λ z e w v. crown_two _ z _ _ _ v _ e g.met.K.Kind.lawful _ _ c.in-Some.is _ _ _ c.node_above.ensures
