use Rattle.std.proofs.Common.{arith}
use Rattle.std.proofs.lemmas.Str.Pattern.{starts_char}
use Rattle.std.proofs.lemmas.Bool.Decides.{not_from_Decides}
use Rattle.script.proofs.Figures.{signless}
use Rattle.script.proofs.read.number.Goals as goal

pub returns : goal.returns
returns c =
    let plus = starts_char 43 c.args.text.now c.starts_with.result c.starts_with.ensures.cases (omega arith) (omega arith) in
    signless c.args.text.now c.signed.result (not_from_Decides _ plus c.if-starts_with.false) c.signed.ensures
