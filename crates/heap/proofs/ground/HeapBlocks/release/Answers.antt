use Rattle.std.proofs.Common.{◌≡◌, [], length, get_or, sym, subst}
use Rattle.heap.specs.Sizes.{block_words}
use Rattle.heap.specs.State.{State}
use Rattle.heap.proofs.Turns.{released_is}
use Rattle.heap.proofs.ground.HeapBlocks.release.Goals as goal

pub returns : goal.returns
returns c =
    let h = c.self.inside in let b = c.args.b in
    let full : length (get_or h.words b []) ≡ block_words = subst (λ (s : State). length (get_or s.words b []) ≡ block_words) (sym c.self.view_is) c.requires.1.1 in
    rw (c.let_go.ensures.others, ← c.self.view_is) (released_is h.words b full h.left h.top h.failed)
