use Rattle.std.proofs.Common.{refl, arith}
use Rattle.std.proofs.lemmas.Result.{err_from_is_err_and}
use Rattle.things.proofs.Grounds.{read_untouched}
use Rattle.things.proofs.Rules.{served_after}
use Rattle.things.proofs.Serving.{placed, set_served, set_turned}
use Rattle.things.proofs.state.Things.set.Goals as goal

pub returns-in_err-t : goal.returns-in_err-t
returns-in_err-t g c =
    let p = err_from_is_err_and c.from_residual.result c.from_residual.ensures.1 in
    rw (p.1, p.2) (set_turned c.args.n c.args.i c.args.self.now _ _ c.requires.sound (read_untouched c.in_err-t.ensures.same) c.in_err-t.ensures.place c.args.x tt)

pub set-requires : goal.set-requires
set-requires g c =
    let q = placed c.args.n c.args.i c.args.self.now c.requires c.in_ok-t.ensures.same c.in_ok-t.ensures.place in
    record { lies = q.lies; there = q.inside; alike = λ xs ys. refl; asks = omega (arith, q.ready.enough) }

pub returns : goal.returns
returns g c =
    let q = placed c.args.n c.args.i c.args.self.now c.requires c.in_ok-t.ensures.same c.in_ok-t.ensures.place in
    let w = c.set.ensures in
    served_after (read_untouched c.in_ok-t.ensures.same) (set_served c.args.n _ c.args.i c.args.x c.args.self.now _ _ c.in_ok-t.t tt q w.is w.ran w.stands)
