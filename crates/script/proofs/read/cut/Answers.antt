use Rattle.script.proofs.Cuts.{cut_words}
use Rattle.script.proofs.read.cut.Goals as goal

pub returns : goal.returns
returns c = cut_words c.args.text.now c.split_once.result c.split_once.ensures.cases
