use Rattle.std.proofs.Common.{length, ap, ◌∙◌, arith, List, get_or}
use Rattle.page.specs.declared.child.Child.{Child}
use Rattle.tree.specs.Paths.{none}
use Rattle.seek.proofs.Readings.{reading_stored}
use Rattle.shrink.proofs.CodeTop.{top_stored, node_few, node_some, code_node_stays, code_small, code_node_gone}
use Rattle.shrink.proofs.trim.trim_node.Goals as goal

pub load_page-page-requires-clause-there : goal.load_page-page-requires-clause-there
load_page-page-requires-clause-there g c = top_stored g.met.K.Kind.lawful c.requires.top.1

pub load_page-page-requires-clause-few : goal.load_page-page-requires-clause-few
load_page-page-requires-clause-few g c = node_few g.met.K.Kind.lawful c.requires.top.1 c.requires.height

pub returns-then-len-gt1 : goal.returns-then-len-gt1
returns-then-len-gt1 g c = λ z v.
    code_node_stays g.met.K.Kind.lawful v c.requires.height c.load_page-page.ensures.same
    (omega (arith, c.if-len-gt1.true, c.len.ensures.len, ap length c.load_page-page.ensures.after))

pub release-requires-clause-there : goal.release-requires-clause-there
release-requires-clause-there g c = reading_stored _ _ _ c.load_page-page.ensures.same _ (top_stored g.met.K.Kind.lawful c.requires.top.1)

pub only_child-requires-clause-some : goal.only_child-requires-clause-some
only_child-requires-clause-some g c = rw c.load_page-page.ensures.after (node_some g.met.K.Kind.lawful c.requires.top.1 c.requires.height)

pub only_child-requires-clause-small : goal.only_child-requires-clause-small
only_child-requires-clause-small g c =
    let v = c.requires.top.1 in
    let one = node_some g.met.K.Kind.lawful v c.requires.height in
    rw c.load_page-page.ensures.after (
    omega (
      arith,
      code_small g.met.K.Kind.lawful v c.requires.height c.load_page-page.ensures.same
          (omega (arith, one, c.if-len-gt1.false, c.len.ensures.len, ap length c.load_page-page.ensures.after)),
    )
    )

pub returns : goal.returns
returns g c = λ z v.
    let lw = g.met.K.Kind.lawful in
    code_node_gone lw v c.requires.height c.load_page-page.ensures.same
    (omega (arith, node_some lw v c.requires.height, c.if-len-gt1.false, c.len.ensures.len, ap length c.load_page-page.ensures.after))
    (c.only_child.ensures.root ∙ ap (λ (ks : List Child). (get_or ks 0 none).block) c.load_page-page.ensures.after) c.only_child.ensures.height c.release.ensures
