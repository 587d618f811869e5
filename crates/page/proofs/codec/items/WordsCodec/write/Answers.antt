use Rattle.std.proofs.Common.{◌+◌, ◌≤◌, [], ◌∷◌, length, rules}
use lib.Seq.{sets-eq}
use Rattle.page.proofs.codec.items.WordsCodec.write.Goals as goal

pub returns : goal.returns
returns c =
    let long : c.args.at + 1 ≤ length c.args.words.now = search rules in
    sets-eq (c.args.x ∷ []) c.args.words.now c.args.at long
