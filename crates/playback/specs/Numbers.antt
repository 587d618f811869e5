-- Which numbers are which call, and which answer.
-- Assumes nothing.
use Rattle.std.specs.Prelude.{cond, Some, None, Option, ◌==◌, nat_lt}
use Rattle.things.specs.declared.Op.{Op}
use Rattle.things.specs.declared.Op.TheVariants.{Row, Table, Free, Length, At, Set, Insert, Delete, Split, Join, Put, Get, Drop, Least, Count, Nth, Cut, Merge}
use Rattle.things.specs.declared.Answer.{Answer}
use Rattle.things.specs.declared.Answer.TheVariants.{Done, Word, Pair, No, Full}
use Rattle.playback.specs.declared.call.Asked.{Asked}
use Rattle.playback.specs.declared.note.Reply.{Reply}

-- the call with this code, in the order of Op; the last for any other
abbrev pub op_of : Asked → Op
op_of c =
    cond (c.code == 0) (Row c.name)
    (cond (c.code == 1) (Table c.name)
    (cond (c.code == 2) (Free c.name)
    (cond (c.code == 3) (Length c.name)
    (cond (c.code == 4) (At c.name c.«at»)
    (cond (c.code == 5) (Set c.name c.«at» c.word)
    (cond (c.code == 6) (Insert c.name c.«at» c.word)
    (cond (c.code == 7) (Delete c.name c.«at»)
    (cond (c.code == 8) (Split c.name c.«at» c.other)
    (cond (c.code == 9) (Join c.name c.other)
    (cond (c.code == 10) (Put c.name c.«at» c.word)
    (cond (c.code == 11) (Get c.name c.«at»)
    (cond (c.code == 12) (Drop c.name c.«at»)
    (cond (c.code == 13) (Least c.name c.«at»)
    (cond (c.code == 14) (Count c.name c.«at»)
    (cond (c.code == 15) (Nth c.name c.«at»)
    (cond (c.code == 16) (Cut c.name c.«at» c.other)
    (Merge c.name c.other)))))))))))))))))

-- there are 18 codes
abbrev pub op_in : Asked → Option Op
op_in c = cond (nat_lt c.code 18) (Some (op_of c)) None

abbrev pub answer_of : Reply → Answer
answer_of t =
    cond (t.tag == 0) Done
    (cond (t.tag == 1) (Word t.a)
    (cond (t.tag == 2) (Pair t.a t.b)
    (cond (t.tag == 3) (No t.reason) Full)))
