-- What a node gives leaves it so that its Requests and Answers go to others, and that what it tells its own commands is settled.
use Rattle.std.specs.Prelude.{ℕ, ◌≡◌, ◌≢◌, false, true, List, [], ◌∷◌, Option, None, Some}
use Rattle.std.specs.List.{AllByRecursion}
use Rattle.std.proofs.Common.{refl}
use Rattle.cl_base.specs.declared.packet.DropCause.{DropCause}
use Rattle.cmm_attempt.proofs.Basics.{if_either, none_some}
use Rattle.interconnect.specs.Links as links
use Rattle.interconnect.specs.Links.{sending}
use Rattle.status_report.specs.declared.command_entry.Answer.{Answer}
use Rattle.status_report.specs.declared.command_entry.Answer.TheVariants as answer
use Rattle.status_report.specs.declared.command_entry.CommandEntry.TheVariants as command
use Rattle.status_report.specs.declared.entry.Entry.{Entry}
use Rattle.status_report.specs.declared.entry.Entry.TheVariants as entry
use Rattle.status_report.specs.declared.packet_entry.PacketEntry.TheVariants as packet
use Rattle.wire.specs.Spelling.{spelling}
use Rattle.wire.specs.declared.message.Body.{Body}
use Rattle.wire.specs.declared.message.Body.TheVariants as body
use Rattle.wire.specs.declared.message.Message.{Message}
use Rattle.world_model.specs.Sends.{is_sent, name_of}
use Rattle.history.specs.Letters.{Letter, arrived}
use Rattle.history.specs.Moment.{Moment, Part, Said, Told}
use Rattle.history.specs.Names as name
use Rattle.history.specs.Names.{named}
use Rattle.history.specs.Order.{Always}
use Rattle.history.specs.Requests.{is_answer}
use Rattle.history.specs.Setting.{Setting}
use Rattle.history.specs.Trace.{answered, sent}
use Rattle.node_model.specs.declared.output.Output.{Output}
use Rattle.node_model.specs.declared.output.Output.TheVariants.{Sends, Tells}
use Rattle.run_history.specs.Scenes.{Scene, dropped_so, passing, posting, sent_as, telling, with_links}
use Rattle.run_commands.specs.carried.Guards.{is_silent}
use Rattle.run_commands.proofs.carried.Carried.{IsMute}
use Rattle.run_commands.specs.acknowledged.Askings.{IsLetterOf, LettersAre}
use Rattle.run_commands.proofs.acknowledged.Askings.{letter_is}
use Rattle.run_commands.proofs.acknowledged.Granting.{IsAcked}
use Rattle.run_commands.proofs.acknowledged.Pending.{acked_stays}
use Rattle.run_commands.proofs.acknowledged.Carrying.{IsOutside}
use Rattle.run_commands.specs.acknowledged.AnsweringGuards.{IsNoAnswer}
use Rattle.run_commands.proofs.acknowledged.Own.{IsOutward, OwnTold}
use Rattle.run_commands.specs.acknowledged.Requested.{IsToAnother}
use Rattle.run_commands.proofs.acknowledged.Settled.{IsOwnSettled}

-- ---- what is given: no `ok`, and no Request or Answer to itself

abbrev pub BodyAway : ℕ → ℕ → Body → Type 0
BodyAway n to (body.Request e q text) = to ≢ n
BodyAway n to (body.Answer e q text) = to ≢ n
BodyAway n to _ = Unit {0}

abbrev pub IsQuietOut : ℕ → Output → Type 0
IsQuietOut n (Tells (entry.Command (command.Answered m q answer.Ok))) = ⊥
IsQuietOut n (Tells (entry.Packet e)) = ⊥
IsQuietOut n (Tells e) = Unit {0}
IsQuietOut n (Sends to b) = BodyAway n to b

abbrev pub AreQuiet : ℕ → List Output → Type 0
AreQuiet n os = AllByRecursion (IsQuietOut n) os

mute_quiet : (n : ℕ) (e : Entry) → IsMute (Tells e) → IsQuietOut n (Tells e)
mute_quiet n (entry.Command (command.Answered m q answer.Ok)) h = absurd (no h)
  where
    no : is_silent answer.Ok ≡ true → ⊥
    no z = cc
mute_quiet n (entry.Packet e) h = absurd h
mute_quiet n _ h = tt

pub mutes_quiet : (n : ℕ) (os : List Output) → AllByRecursion IsMute os → AreQuiet n os
mutes_quiet n [] h = tt
mutes_quiet n (Tells e ∷ os) h = (mute_quiet n e h.0, mutes_quiet n os h.1)
mutes_quiet n (Sends to b ∷ os) h = absurd h.0

-- ---- letters

request_away : (n to : ℕ) (b : Body) → BodyAway n to b → (q : ℕ) → named (name_of b) ≡ name.Request q → to ≢ n
request_away n to (body.Request e k text) h q is = h
request_away n to _ h q is = λ same. cc

answer_away : (n to : ℕ) (b : Body) → BodyAway n to b → (q : ℕ) → named (name_of b) ≡ name.Answer q → to ≢ n
answer_away n to (body.Answer e k text) h q is = h
answer_away n to _ h q is = λ same. cc

outward : (n to : ℕ) (b : Body) (bytes : List ℕ) (ms : List Moment) → BodyAway n to b → IsOutward (record { from = n; to = to; name = named (name_of b); bytes = bytes; before = ms })
outward n to b bytes ms h = record { request = λ q is. request_away n to b h q is; answer = λ q is. answer_away n to b h q is }

dropped_told : (S : Setting) (o : Option (ℕ × DropCause)) (s : Scene) → OwnTold S s.moments → OwnTold S (dropped_so o s).moments
dropped_told S None s h = h
dropped_told S (Some drop) s h = record { letters = (tt, h.letters); settled = (tt, h.settled) }

pub posting_told : (S : Setting) (n to : ℕ) (b : Body) (s : Scene) → BodyAway n to b → OwnTold S s.moments → OwnTold S (posting n to (record { sender = n; body = b }) s).moments
posting_told S n to b s away h =
    let m : Message = record { sender = n; body = b } in
    let o : links.Outcome = sending s.links n to (spelling m) in
    if_either (λ (t : Scene). OwnTold S t.moments) (is_sent s.links m) (sent_as n to m o s) s
    (dropped_told S o.sent.dropped (telling (entry.Packet (packet.Sent s.links.next n to (name_of m.body) (spelling m))) (with_links s o.after))
    (record { letters = (outward n to b (spelling m) s.moments away, h.letters); settled = (tt, h.settled) })) h

told_quiet : (S : Setting) (n : ℕ) (e : Entry) (ms : List Moment) → IsQuietOut n (Tells e) → OwnTold S ms → OwnTold S (Told e ∷ ms)
told_quiet S n (entry.Command (command.Answered m q answer.Ok)) ms quiet h = absurd quiet
told_quiet S n (entry.Packet e) ms quiet h = absurd quiet
told_quiet S n _ ms quiet h = record { letters = (tt, h.letters); settled = (tt, h.settled) }

pub passing_quiet : (S : Setting) (n : ℕ) (os : List Output) (s : Scene) → AreQuiet n os → OwnTold S s.moments → OwnTold S (passing n os s).moments
passing_quiet S n [] s quiet h = h
passing_quiet S n (Tells e ∷ os) s quiet h = passing_quiet S n os (telling e s) quiet.1 (told_quiet S n e s.moments quiet.0 h)
passing_quiet S n (Sends to b ∷ os) s quiet h = passing_quiet S n os (posting n to (record { sender = n; body = b }) s) quiet.1 (posting_told S n to b s quiet.0 h)

-- a line that is settled
pub answer_told : (S : Setting) (n q : ℕ) (reply : Answer) (ms : List Moment) → IsOwnSettled S ms (answered n q reply) → OwnTold S ms → OwnTold S (answered n q reply ∷ ms)
answer_told S n q reply ms settled h = record { letters = (tt, h.letters); settled = (settled, h.settled) }

-- no node does anything
pub outside_told : (S : Setting) (m : Moment) (ms : List Moment) → IsOutside m → OwnTold S ms → OwnTold S (m ∷ ms)
outside_told S (Told (entry.Packet (packet.Sent p from to called bytes))) ms out h = absurd out
outside_told S (Told (entry.Command e)) ms out h = absurd out
outside_told S _ ms out h = record { letters = (tt, h.letters); settled = (tt, h.settled) }

-- the letter that has just come
pub arrived_is : (P : Letter → Type 0) (l : Letter) (ms : List Moment) → LettersAre P ms → arrived ms ≡ Some l → P l
arrived_is P l [] all at = absurd (none_some l at)
arrived_is P l (Said k ∷ ms) all at = absurd (none_some l at)
arrived_is P l (Part e ∷ ms) all at = absurd (none_some l at)
arrived_is P l (Told (entry.Packet (packet.Delivered p a b)) ∷ ms) all at = letter_is P p l ms all.1 at
arrived_is P l (_ ∷ ms) all at = arrived_is P l ms all.1 at

-- ---- nobody sends an Answer to itself

another : (ms : List Moment) (x : Moment) → IsLetterOf IsOutward ms x → IsToAnother ms x
another ms (Told (entry.Packet (packet.Sent p n b called bytes))) h = h.answer
another ms _ h = tt

pub to_others : (ms : List Moment) → LettersAre IsOutward ms → Always IsToAnother ms
to_others [] h = tt
to_others (x ∷ ms) h = (another ms x h.0, to_others ms h.1)

-- ---- what is acknowledged, behind messages that are no Answers

not_answer : (b : Body) → IsNoAnswer b → is_answer (named (name_of b)) ≡ false
not_answer (body.Answer e q text) h = absurd h
not_answer _ h = refl

abbrev pub IsNoAnswerOut : Output → Type 0
IsNoAnswerOut (Tells e) = ⊥
IsNoAnswerOut (Sends to b) = IsNoAnswer b

dropped_acked : (e : ℕ) (words : List ℕ) (o : Option (ℕ × DropCause)) (s : Scene) → IsAcked e words s.moments → IsAcked e words (dropped_so o s).moments
dropped_acked e words None s h = h
dropped_acked e words (Some drop) s h = acked_stays e words (Told (entry.Packet (packet.Dropped drop.0 drop.1))) s.moments tt tt h

posting_acked : (e n to : ℕ) (words : List ℕ) (b : Body) (s : Scene) → IsNoAnswer b → IsAcked e words s.moments → IsAcked e words (posting n to (record { sender = n; body = b }) s).moments
posting_acked e n to words b s none h =
    let m : Message = record { sender = n; body = b } in
    let o : links.Outcome = sending s.links n to (spelling m) in
    if_either (λ (t : Scene). IsAcked e words t.moments) (is_sent s.links m) (sent_as n to m o s) s
    (dropped_acked e words o.sent.dropped (telling (entry.Packet (packet.Sent s.links.next n to (name_of m.body) (spelling m))) (with_links s o.after))
    (acked_stays e words (sent s.links.next n to (name_of m.body) (spelling m)) s.moments tt (λ own. not_answer b none) h)) h

pub passing_acked : (e n : ℕ) (words : List ℕ) (os : List Output) (s : Scene) → AllByRecursion IsNoAnswerOut os → IsAcked e words s.moments → IsAcked e words (passing n os s).moments
passing_acked e n words [] s none h = h
passing_acked e n words (Tells k ∷ os) s none h = absurd none.0
passing_acked e n words (Sends to b ∷ os) s none h = passing_acked e n words os (posting n to (record { sender = n; body = b }) s) none.1 (posting_acked e n to words b s none.0 h)
