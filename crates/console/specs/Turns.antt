-- What a line of a script does, and what is replied.
-- Assumes nothing.
use Rattle.std.specs.Prelude.{◌≡◌, ℕ, ◌≤◌, false, Some, None, Option}
use Rattle.things.specs.declared.Op.{Op}
use Rattle.things.specs.declared.Answer.{Answer}
use Rattle.things.specs.declared.state.Things.{Things}
use Rattle.things.specs.Ground.{Ground}
use Rattle.things.specs.Things.{Right, after, may_hold}
use Rattle.things.specs.Promise.{can}
use Rattle.things.specs.State.{Served, Sound, shelf_of}
use Rattle.ration.specs.declared.Ration.{Ration}
use Rattle.ration.specs.Refusing.{ground_of, refusing, limited}
use Rattle.script.specs.declared.line.Line.{Line}
use Rattle.script.specs.declared.line.Line.TheVariants as line
use Rattle.script.specs.declared.reply.Reply.{Reply}
use Rattle.script.specs.declared.reply.Reply.TheVariants as reply

-- an engine, as contracts see it: things, and the blocks that they lie in
pub record State (G : Type 0) : Type 0 where
  pub things : Things
  pub blocks : G

-- what is known between two turns
abbrev pub Ready : Things → Ground → Type 0
Ready s g = Sound s g.block g.many

-- a call was answered, as whoever asks may be told: the answer is right, what it comes to has been done, and no more is held than may be
pub record Told (o : Op) (s : Things) (g : Ground) (a : Answer) (s' : Things) (g' : Ground) : Type 0 where
  pub right : Right can (shelf_of s g.block) o g'.failed a (after o a (shelf_of s g.block))
  pub shelf : shelf_of s' g'.block ≡ after o a (shelf_of s g.block)
  pub sound : Ready s' g'
  pub few : g'.many ≤ may_hold (after o a (shelf_of s g.block))

-- a call began on a ground where no refusal was noted, with the same blocks, and was served from there: so *full*, which is right only where a refusal is noted in the end, is told only for one in this very call
pub record Began {G : Type 0} (as_ground : G → Ground) (o : Op) (t : State G) (a : Answer) (t' : State G) : Type 0 where
  pub begun : G
  pub block : (as_ground begun).block ≡ (as_ground t.blocks).block
  pub many : (as_ground begun).many ≡ (as_ground t.blocks).many
  pub clear : (as_ground begun).failed ≡ false
  pub served : Served o t.things (as_ground begun) a t'.things (as_ground t'.blocks)

-- a call was answered, and told of what was refused in it
pub record Answered {G : Type 0} (as_ground : G → Ground) (o : Op) (t : State G) (a : Answer) (t' : State G) : Type 0 where
  pub told : Told o t.things (as_ground t.blocks) a t'.things (as_ground t'.blocks)
  pub began : Began as_ground o t a t'

-- no thing has changed
pub record Still (s : Things) (g : Ground) (s' : Things) (g' : Ground) : Type 0 where
  pub shelf : shelf_of s' g'.block ≡ shelf_of s g.block
  pub many : g'.many ≡ g.many
  pub sound : Ready s' g'

-- no thing has changed, and the ration is this one
pub record RationIs {B : Type 0} (as_ground : B → Ground) (r : Ration B) (t t' : State (Ration B)) : Type 0 where
  pub still : Still t.things (ground_of as_ground t.blocks) t'.things (ground_of as_ground t'.blocks)
  pub ration : t'.blocks ≡ r

-- what a line comes to; n is its number
abbrev pub Replied : {B : Type 0} → (B → Ground) → Option Line → ℕ → State (Ration B) → Option Reply → State (Ration B) → Type 0
Replied as_ground (Some (line.Call o)) n t r t' = (a : Answer) × ((r ≡ Some (reply.Told a)) × Answered (ground_of as_ground) o t a t')
Replied as_ground (Some (line.Refuse k)) n t r t' = (r ≡ None) × RationIs as_ground (refusing k t.blocks) t t'
Replied as_ground (Some (line.Room k)) n t r t' = (r ≡ None) × RationIs as_ground (limited k t.blocks) t t'
Replied as_ground (Some line.Held) n t r t' = (r ≡ Some (reply.Held (ground_of as_ground t.blocks).many)) × Still t.things (ground_of as_ground t.blocks) t'.things (ground_of as_ground t'.blocks)
Replied as_ground None n t r t' = (r ≡ Some (reply.NotALine n)) × (t' ≡ t)
