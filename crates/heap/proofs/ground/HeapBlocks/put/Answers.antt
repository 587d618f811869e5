use Rattle.std.proofs.Common.{◌≡◌, [], length, get_or, sym, subst}
use Rattle.heap.specs.Sizes.{block_words}
use Rattle.heap.specs.State.{State}
use Rattle.heap.proofs.Turns.{written_is}
use Rattle.heap.proofs.ground.HeapBlocks.put.Goals as goal

pub returns : goal.returns
returns c =
    let h = c.self.inside in let b = c.args.b in
    let full : length (get_or h.words b []) ≡ block_words = subst (λ (s : State). length (get_or s.words b []) ≡ block_words) (sym c.self.view_is) c.requires.1.0.1 in
    rw (c.block.ensures.words, ← c.self.view_is) (written_is h.words b c.args.i c.args.x full h.left h.top h.failed)
