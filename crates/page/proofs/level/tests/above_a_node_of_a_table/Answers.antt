use Rattle.std.proofs.Common.{arith}
use Rattle.page.specs.Layout.{counts}
use Rattle.page.proofs.level.tests.above_a_node_of_a_table.Goals as goal

pub both-above-items-requires-clause-few : goal.both-above-items-requires-clause-few
unfolding counts
both-above-items-requires-clause-few g c = rw (c.push-2.ensures.after, c.push.ensures.after, c.new-page.ensures.after) (omega arith)
