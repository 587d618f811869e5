use Rattle.heap.proofs.free_list.all_free.Goals as goal

pub returns : goal.returns
returns c = λ j lt. (c.from_fn.ensures.items.at j 0 lt).2.met
