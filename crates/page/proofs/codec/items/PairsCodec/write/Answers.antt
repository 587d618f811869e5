use Rattle.std.proofs.Common.{◌+◌, ◌≤◌, [], ◌∷◌, length, add-one, rules}
use lib.Seq.{sets-eq}
use Rattle.page.proofs.codec.items.PairsCodec.write.Goals as goal

pub returns : goal.returns
returns c =
    let long : c.args.at + 2 ≤ length c.args.words.now = search rules in
    rw add-one (sets-eq (c.args.x.key ∷ (c.args.x.word ∷ [])) c.args.words.now c.args.at long)
