-- What is written of a reply. Assumes nothing.
use Rattle.std.specs.Prelude.{ℕ, List, ◌++◌, codes, decimal}
use Rattle.things.specs.declared.Answer.TheVariants.{Done, Word, Pair, No, Full}
use Rattle.script.specs.declared.reply.Reply.{Reply}
use Rattle.script.specs.declared.reply.Reply.TheVariants.{Told, Held, NotALine}

abbrev pub text_of : Reply → List ℕ
text_of (Told Done) = codes "done"
text_of (Told (Word x)) = codes "word " ++ decimal x
text_of (Told (Pair k x)) = codes "pair " ++ (decimal k ++ (codes " " ++ decimal x))
text_of (Told (No k)) = codes "no " ++ decimal k
text_of (Told Full) = codes "full"
text_of (Held n) = codes "held " ++ decimal n
text_of (NotALine n) = codes "line " ++ decimal n ++ codes "?"
