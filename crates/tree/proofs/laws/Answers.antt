use Rattle.tree.proofs.laws.Goals as goal
use Rattle.tree.proofs.Frames.{frame}
use Rattle.tree.proofs.Bounds.{bound_62_31, bound_31_20}
use Rattle.tree.proofs.Heights.{height_31, height_20}
use Rattle.tree.proofs.Counting.{blocks_used}

pub returns : goal.returns
returns c = record {
  frame_words = frame;
  frame_pairs = frame;
  bound_words = bound_62_31;
  bound_pairs = bound_31_20;
  height_words = height_31;
  height_pairs = height_20;
  number_words = blocks_used;
  number_pairs = blocks_used;
}
