use Rattle.std.proofs.Common.{arith}
use Rattle.script.proofs.Tables.{no_one, no_two, no_three}
use Rattle.script.proofs.table.asked.Goals as goal

pub returns-in_default-word-2 : goal.returns-in_default-word-2
returns-in_default-word-2 c =
    let d = c.in_default-word-2 in
    no_one c.args.word.now c.args.numbers.now (omega (arith, c.in-len1.len_at_least, c.in-len1.len_below)) (d.not-row, (d.not-table, (d.not-free, (d.not-length, (d.not-refuse, (d.not-room, tt))))))

pub returns-in_default-word-3 : goal.returns-in_default-word-3
returns-in_default-word-3 c =
    let d = c.in_default-word-3 in
    no_two c.args.word.now c.args.numbers.now (omega (arith, c.in-len2.len_at_least, c.in-len2.len_below)) (d.not-at, (d.not-delete, (d.not-join, (d.not-get, (d.not-drop, (d.not-least, (d.not-count, (d.not-nth, (d.not-merge, tt)))))))))

pub returns-in_default-word-4 : goal.returns-in_default-word-4
returns-in_default-word-4 c =
    let d = c.in_default-word-4 in
    no_three c.args.word.now c.args.numbers.now (omega (arith, c.in-len3.len_at_least, c.in-len3.len_below)) (d.not-set, (d.not-insert, (d.not-split, (d.not-put, (d.not-cut, tt)))))
