-- The call of a code that is one.
use Rattle.std.proofs.Common.{◌≡◌, Bool, true, false, cond, ltb, Some, None, arith}
use Rattle.std.proofs.lemmas.Bool.Decides.{nat_tests}
use Rattle.things.specs.declared.Op.{Op}
use Rattle.playback.specs.declared.call.Asked.{Asked}
use Rattle.playback.specs.Numbers.{op_of, op_in}

only_some : (b : Bool) (x o : Op) → cond b (Some x) None ≡ Some o → x ≡ o
only_some true x o e = grind (arith, nat_tests)
only_some false x o e = grind (arith, nat_tests)

pub op_known : (c : Asked) (o : Op) → op_in c ≡ Some o → op_of c ≡ o
op_known c o e = only_some (ltb c.code 18) (op_of c) o e
