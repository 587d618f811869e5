use Rattle.std.proofs.Common.{◌≡◌, rules, ap, sym, ◌∙◌}
use Rattle.playback.specs.Numbers.{op_of}
use Rattle.playback.proofs.Calls.{op_known}
use Rattle.playback.proofs.call.Asked.asks_as.Goals as goal

pub returns-in-Ok : goal.returns-in-Ok
returns-in-Ok c t =
    let same : c.args.self ≡ c.from.result = search rules in
    let o = c.in-Ok.o in
    ap op_of same ∙ (op_known c.from.result o c.from.ensures ∙ sym (op_known c.args.call o (sym c.in-Ok.ensures)))
