use Rattle.std.proofs.Common.{◌≡◌, suc, ◌+◌, ◌≤◌, [], ◌∷◌, length, arith, rules}
use lib.Seq.{sets-eq}
use Rattle.page.proofs.codec.children.TableChildrenCodec.write.Goals as goal

pub returns : goal.returns
returns c =
    let long : c.args.at + 3 ≤ length c.args.words.now = search rules in
    let one : c.args.at + 1 ≡ suc c.args.at = omega arith in
    let two : c.args.at + 2 ≡ suc (suc c.args.at) = omega arith in
    rw (one, two) (sets-eq (c.args.x.count ∷ (c.args.x.block ∷ (c.args.x.summary ∷ []))) c.args.words.now c.args.at long)
