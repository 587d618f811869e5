use Rattle.std.proofs.Common.{arith}
use Rattle.shrink.proofs.Replacing.{replaced_one, replaced_two}
use Rattle.shrink.proofs.turn.replace_two.Goals as goal

pub returns-in-Some : goal.returns-in-Some
returns-in-Some g c = replaced_two _ _ _ c.args.at c.args.risen.first c.args.risen.second (omega (arith, c.requires.there)) c.replace.ensures.after c.in-Some.second c.in-Some.is c.replace-in-Some.ensures.after

pub returns-in-None : goal.returns-in-None
returns-in-None g c = replaced_one _ _ _ c.args.at c.args.risen.first c.args.risen.second (omega (arith, c.requires.there)) c.replace.ensures.after c.in-None.is c.cut_out.ensures.after
