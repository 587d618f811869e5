-- A reply that comes later changes nothing before it.
use Rattle.std.proofs.Common.{◌≡◌, ℕ, zero, suc, ◌+◌, ◌<◌, ◌≤◌, Bool, List, [], ◌∷◌, ◌++◌, length, take, refl, ap, ◌∙◌, inl, inr, add-one, arith, length-append}
use Rattle.std.proofs.lemmas.List.{get_or_append_left, get_or_push, get_or-take, length-take-le}
use Rattle.std.proofs.lemmas.Bool.Decides.{eqb_tells}
use Rattle.things.specs.declared.Op.{Op}
use Rattle.things.specs.declared.Answer.{Answer}
use Rattle.things.specs.Things.{Shelf, Right, after, may_hold}
use Rattle.things.specs.Promise.{can}
use Rattle.playback.specs.declared.call.Call.{Call}
use Rattle.playback.specs.declared.note.Note.{Note}
use Rattle.playback.specs.declared.note.Reply.{Reply}
use Rattle.playback.specs.Numbers.{op_of, answer_of}
use Rattle.playback.specs.Played.{blank, asks, replies, asks_in, replies_in, played, Tells, Honest, AllHonest, Answered}

-- the first n calls and replies are the same
abbrev pub Same : (ℕ → Op) → (ℕ → Reply) → (ℕ → Op) → (ℕ → Reply) → ℕ → Type 0
Same o r o' r' n = (j : ℕ) → j < n → (o j ≡ o' j) × (r j ≡ r' j)

pub same_played : (o : ℕ → Op) (r : ℕ → Reply) (o' : ℕ → Op) (r' : ℕ → Reply) (n : ℕ) → Same o r o' r' n → played o r n ≡ played o' r' n
unfolding played
same_played o r o' r' zero h = refl
same_played o r o' r' (suc n) h =
    let e = h n (omega arith) in
    rw (e.0, e.1, same_played o r o' r' n (λ j k. h j (omega arith))) refl

pub same_honest : (o : ℕ → Op) (r : ℕ → Reply) (o' : ℕ → Op) (r' : ℕ → Reply) (n : ℕ) → Same o r o' r' n → AllHonest o' r' n → AllHonest o r n
same_honest o r o' r' n h a j k =
    let e = h j k in
    rw (e.0, e.1, same_played o r o' r' j (λ i l. h i (omega arith))) (a j k)

-- one reply more
pub one_more : (o : ℕ → Op) (r : ℕ → Reply) (n : ℕ) → played o r (n + 1) ≡ after (o n) (answer_of (r n)) (played o r n)
unfolding played
one_more o r n = rw add-one refl

pub honest_more : (o : ℕ → Op) (r : ℕ → Reply) (n : ℕ) → AllHonest o r n → Honest (o n) (r n) (played o r n) → AllHonest o r (n + 1)
honest_more o r n a h j k =
    elim (eqb_tells j n) [
      | inl w ↦ rw w.1 (∣ h ∣₁)
      | inr w ↦ a j (omega (arith, w.1))
    ]

-- what a note tells is honest, if it may be told
pub tells_honest : (o : Op) (a : Answer) (f : Bool) (m : ℕ) (x : Note) (s : Shelf) → Tells o a f m x → Right can s o f a (after o a s) → m ≤ may_hold (after o a s) → Honest (op_of x.asked) x.reply s
tells_honest o a f m x s t r h = record { right = rw (t.asked, t.told, t.refused) r; few = rw (t.asked, t.told, t.held) h }

-- a note behind others leaves them as they were
same_noted : (ns : List Note) (x : Note) → Same (asks_in (ns ++ x ∷ [])) (replies_in (ns ++ x ∷ [])) (asks_in ns) (replies_in ns) (length ns)
same_noted ns x j k =
    let e = get_or_append_left ns (x ∷ []) blank j k in
    (ap (λ (y : Note). op_of y.asked) e, ap (λ (y : Note). y.reply) e)

-- the last note is x
last_asked : (ns : List Note) (x : Note) → asks_in (ns ++ x ∷ []) (length ns) ≡ op_of x.asked
last_asked ns x = ap (λ (y : Note). op_of y.asked) (get_or_push ns x blank (length ns) refl)

last_reply : (ns : List Note) (x : Note) → replies_in (ns ++ x ∷ []) (length ns) ≡ x.reply
last_reply ns x = ap (λ (y : Note). y.reply) (get_or_push ns x blank (length ns) refl)

one_longer : (ns : List Note) (x : Note) → length (ns ++ x ∷ []) ≡ length ns + 1
one_longer ns x = length-append ns (x ∷ [])

pub noted_played : (o : Op) (a : Answer) (f : Bool) (m : ℕ) (ns : List Note) (x : Note) → Tells o a f m x
    → played (asks_in (ns ++ x ∷ [])) (replies_in (ns ++ x ∷ [])) (length (ns ++ x ∷ [])) ≡ after o a (played (asks_in ns) (replies_in ns) (length ns))
noted_played o a f m ns x t =
    let w = ns ++ x ∷ [] in
    let p = last_asked ns x ∙ t.asked in
    let q = ap answer_of (last_reply ns x) ∙ t.told in
    let e = same_played (asks_in w) (replies_in w) (asks_in ns) (replies_in ns) (length ns) (same_noted ns x) in
    ap (played (asks_in w) (replies_in w)) (one_longer ns x) ∙ (one_more (asks_in w) (replies_in w) (length ns) ∙ (λ i. after (p i) (q i) (e i)))

moved : (o o' : Op) (x x' : Reply) (s s' : Shelf) → o' ≡ o → x' ≡ x → s' ≡ s → Honest o x s → Honest o' x' s'
moved o o' x x' s s' p q e h = rw (p, q, e) h

pub noted_honest : (ns : List Note) (x : Note) → AllHonest (asks_in ns) (replies_in ns) (length ns) → Honest (op_of x.asked) x.reply (played (asks_in ns) (replies_in ns) (length ns))
    → AllHonest (asks_in (ns ++ x ∷ [])) (replies_in (ns ++ x ∷ [])) (length (ns ++ x ∷ []))
noted_honest ns x a r =
    let n = length ns in
    let o = asks_in (ns ++ x ∷ []) in
    let w = replies_in (ns ++ x ∷ []) in
    let e = same_played o w (asks_in ns) (replies_in ns) n (same_noted ns x) in
    let h = honest_more o w n (same_honest o w (asks_in ns) (replies_in ns) n (same_noted ns x) a) (moved (op_of x.asked) (o n) x.reply (w n) (played (asks_in ns) (replies_in ns) n) (played o w n) (last_asked ns x) (last_reply ns x) e r) in
    λ j k. h j (omega (arith, k, one_longer ns x))

-- the replies of the first n notes went out, each to the call that was noted
pub delivered : (cs : List Call) (rs : List Reply) (ns : List Note) (n : ℕ) → n ≤ length cs → n ≤ length rs → n ≤ length ns → AllHonest (asks_in ns) (replies_in ns) (length ns)
    → ((j : ℕ) → j < n → asks cs j ≡ asks_in ns j) → ((j : ℕ) → j < length (take n ns) → replies rs j ≡ replies_in (take n ns) j) → Answered n cs rs
delivered cs rs ns n l m h a p q =
    let same : Same (asks cs) (replies rs) (asks_in ns) (replies_in ns) n = λ j k.
    let r = q j (rw (length-take-le n ns h) k) in
    (p j k, r ∙ ap (λ (y : Note). y.reply) (get_or-take n ns j blank k)) in
    record { calls = l; room = m; honest = same_honest (asks cs) (replies rs) (asks_in ns) (replies_in ns) n same (λ j k. a j (omega (arith, k, h))) }
