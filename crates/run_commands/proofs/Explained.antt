-- What is told and sent leaves each answer explained.
use Rattle.std.specs.Prelude.{ℕ, ◌≡◌, ◌++◌, Bool, true, false, List, [], ◌∷◌, Option, None, Some, if◌then◌else◌}
use Rattle.std.specs.List.{AllByRecursion, list_any}
use Rattle.std.proofs.Common.{refl, sym, ap, subst, ◌∙◌, inl, inr}
use Rattle.cl_base.specs.declared.packet.DropCause.{DropCause}
use Rattle.cmm_attempt.proofs.Basics.{if_either}
use Rattle.cmm_attempt.specs.Attempts.{AttemptState}
use Rattle.interconnect.specs.Links as links
use Rattle.interconnect.specs.Links.{sending}
use Rattle.request_queue.specs.declared.request.Request.{Request}
use Rattle.status_report.specs.declared.command_entry.Answer.{Answer}
use Rattle.status_report.specs.declared.command_entry.Answer.TheVariants as answer
use Rattle.status_report.specs.declared.command_entry.CommandEntry.TheVariants as command
use Rattle.status_report.specs.declared.entry.Entry.{Entry}
use Rattle.status_report.specs.declared.entry.Entry.TheVariants as entry
use Rattle.status_report.specs.declared.packet_entry.PacketEntry.TheVariants as packet
use Rattle.wire.specs.Spelling.{spelling}
use Rattle.wire.specs.declared.message.Message.{Message}
use Rattle.history.specs.Commands.{differs, is_own_answer}
use Rattle.history.specs.Letters.{arrived}
use Rattle.history.specs.Member.{member_of}
use Rattle.history.specs.Moment.{Moment, Told}
use Rattle.history.specs.Order.{so_far}
use Rattle.history.specs.Requests.{before_asking, is_asking}
use Rattle.history.specs.Setting.{Setting}
use Rattle.node_model.specs.Entries.{answered_line, unknown_lines}
use Rattle.node_model.specs.declared.output.Output.{Output}
use Rattle.node_model.specs.declared.output.Output.TheVariants.{Sends, Tells}
use Rattle.refinement.specs.Doings.{superseded_lines}
use Rattle.world_model.specs.Sends.{is_sent, name_of}
use Rattle.run_history.specs.Scenes.{Scene, dropped_so, passing, posting, sent_as, telling, with_links}
use Rattle.run_messages.specs.Outputs.{NoPacket}
use Rattle.run_commands.specs.carried.Guards.{is_silent}
use Rattle.run_commands.specs.Answers.{AreReasoned, IsReasoned}
use Rattle.run_commands.specs.Own.{FitsOwnAnswer}
use Rattle.run_commands.specs.Reads.{AllSo, BodySo, LineSo, OwnReplies, ReplySo}

abbrev pub is_unknown : Answer → Bool
is_unknown answer.Unknown = true
is_unknown _ = false

-- what may be answered by the node itself: its command has its line in the event under way, and is to be answered so
abbrev pub Now : Setting → ℕ → OwnReplies → List Moment → Type 0
Now S n o ms = (q : ℕ) (reply : Answer) → o q reply
    → (is_unknown reply ≡ false) × (list_any (is_asking n q) (so_far ms) ≡ true) × FitsOwnAnswer S (before_asking n q ms) n reply (is_own_answer reply)

-- messages that are no Answers but a president's
abbrev pub SendsSo : Output → Type 0
SendsSo (Tells e) = Unit {0}
SendsSo (Sends to b) = BodySo b

-- after these outputs of node n
pub record Gone (S : Setting) (n : ℕ) (o : OwnReplies) (os : List Output) (s : Scene) : Type 0 where
  pub now : Now S n o (passing n os s).moments
  pub same : arrived (passing n os s).moments ≡ arrived s.moments
  pub explained : AreReasoned S (passing n os s).moments
  pub sends : AllByRecursion SendsSo os

-- a line that asks nothing
abbrev pub AsksNothing : Entry → Type 0
AsksNothing (entry.Command (command.Asked n q)) = ⊥
AsksNothing _ = Unit {0}

told_now : (S : Setting) (n : ℕ) (o : OwnReplies) (e : Entry) (ms : List Moment) → AsksNothing e → Now S n o ms → Now S n o (Told e ∷ ms)
told_now S n o (entry.Command (command.Asked m r)) ms nothing h = absurd nothing
told_now S n o (entry.Command (command.Answered m r reply)) ms nothing h = h
told_now S n o _ ms nothing h = h

told_same : (e : Entry) (ms : List Moment) → NoPacket e → arrived (Told e ∷ ms) ≡ arrived ms
told_same (entry.Packet e) ms quiet = absurd quiet
told_same _ ms quiet = refl

-- ---- messages

dropped_now : (S : Setting) (n : ℕ) (o : OwnReplies) (d : Option (ℕ × DropCause)) (s : Scene) → Now S n o s.moments → Now S n o (dropped_so d s).moments
dropped_now S n o None s h = h
dropped_now S n o (Some drop) s h = told_now S n o (entry.Packet (packet.Dropped drop.0 drop.1)) s.moments tt h

dropped_same : (d : Option (ℕ × DropCause)) (s : Scene) → arrived (dropped_so d s).moments ≡ arrived s.moments
dropped_same None s = refl
dropped_same (Some drop) s = refl

dropped_explained : (S : Setting) (d : Option (ℕ × DropCause)) (s : Scene) → AreReasoned S s.moments → AreReasoned S (dropped_so d s).moments
dropped_explained S None s h = h
dropped_explained S (Some drop) s h = ((tt, tt), h)

-- a message leaves them
record Posted (S : Setting) (n : ℕ) (o : OwnReplies) (before after : List Moment) : Type 0 where
  now : Now S n o before → Now S n o after
  same : arrived after ≡ arrived before
  explained : AreReasoned S before → AreReasoned S after

posted : (S : Setting) (n : ℕ) (o : OwnReplies) (from to : ℕ) (m : Message) (s : Scene) → Posted S n o s.moments (posting from to m s).moments
posted S n o from to m s =
    let k : links.Outcome = sending s.links from to (spelling m) in
    let e : Entry = entry.Packet (packet.Sent s.links.next from to (name_of m.body) (spelling m)) in
    let t : Scene = telling e (with_links s k.after) in
    if_either (λ (z : Scene). Posted S n o s.moments z.moments) (is_sent s.links m) (sent_as from to m k s) s
    (record {
      now = λ h. dropped_now S n o k.sent.dropped t (told_now S n o e s.moments tt h);
      same = dropped_same k.sent.dropped t;
      explained = λ h. dropped_explained S k.sent.dropped t ((tt, tt), h);
    })
    (record { now = λ h. h; same = refl; explained = λ h. h })

-- ---- one line

true_false : true ≡ false → ⊥
true_false e = cc

own_explained : (S : Setting) (n q : ℕ) (reply : Answer) (o : OwnReplies) (ms : List Moment) → o q reply → Now S n o ms → IsReasoned S ms (Told (entry.Command (command.Answered n q reply)))
own_explained S n q answer.Unknown o ms own now = absurd (true_false (now q answer.Unknown own).0)
own_explained S n q answer.Ok o ms own now = (inl refl, tt)
own_explained S n q (answer.Refused r) o ms own now = (inl refl, tt)
own_explained S n q answer.UnknownCommand o ms own now = (inr (now q answer.UnknownCommand own).1, (now q answer.UnknownCommand own).2)
own_explained S n q answer.MissingOperand o ms own now = (inr (now q answer.MissingOperand own).1, (now q answer.MissingOperand own).2)
own_explained S n q answer.BadValue o ms own now = (inr (now q answer.BadValue own).1, (now q answer.BadValue own).2)
own_explained S n q answer.NotMember o ms own now = (inr (now q answer.NotMember own).1, (now q answer.NotMember own).2)
own_explained S n q (answer.Ask c) o ms own now = (inr (now q (answer.Ask c) own).1, (now q (answer.Ask c) own).2)
own_explained S n q answer.QueueFull o ms own now = (inr (now q answer.QueueFull own).1, (now q answer.QueueFull own).2)

loud_explained : (S : Setting) (n q : ℕ) (reply : Answer) (ms : List Moment) → is_silent reply ≡ false → IsReasoned S ms (Told (entry.Command (command.Answered n q reply)))
loud_explained S n q answer.Ok ms loud = (inl refl, tt)
loud_explained S n q (answer.Refused r) ms loud = (inl refl, tt)
loud_explained S n q answer.Unknown ms loud = absurd (true_false loud)
loud_explained S n q answer.UnknownCommand ms loud = absurd (true_false loud)
loud_explained S n q answer.MissingOperand ms loud = absurd (true_false loud)
loud_explained S n q answer.BadValue ms loud = absurd (true_false loud)
loud_explained S n q answer.NotMember ms loud = absurd (true_false loud)
loud_explained S n q (answer.Ask c) ms loud = absurd (true_false loud)
loud_explained S n q answer.QueueFull ms loud = absurd (true_false loud)

reply_explained : (S : Setting) (n q : ℕ) (reply : Answer) (o : OwnReplies) (ms : List Moment) → ReplySo o q reply → Now S n o ms → IsReasoned S ms (Told (entry.Command (command.Answered n q reply)))
reply_explained S n q reply o ms (inl loud) now = loud_explained S n q reply ms loud
reply_explained S n q reply o ms (inr own) now = own_explained S n q reply o ms own now

line_explained : (S : Setting) (n : ℕ) (o : OwnReplies) (e : Entry) (ms : List Moment) → LineSo n o e → Now S n o ms → IsReasoned S ms (Told e)
line_explained S n o (entry.Command (command.Answered m q reply)) ms so now =
    subst (λ k. IsReasoned S ms (Told (entry.Command (command.Answered k q reply)))) (sym so.0) (reply_explained S n q reply o ms so.1 now)
line_explained S n o (entry.Command (command.Asked m q)) ms so now = absurd so
line_explained S n o (entry.Packet e) ms so now = absurd so
line_explained S n o _ ms so now = (tt, tt)

line_no_packet : (n : ℕ) (o : OwnReplies) (e : Entry) → LineSo n o e → NoPacket e
line_no_packet n o (entry.Packet e) so = absurd so
line_no_packet n o _ so = tt

line_asks_nothing : (n : ℕ) (o : OwnReplies) (e : Entry) → LineSo n o e → AsksNothing e
line_asks_nothing n o (entry.Command (command.Asked m q)) so = absurd so
line_asks_nothing n o (entry.Command (command.Answered m q reply)) so = tt
line_asks_nothing n o _ so = tt

-- ---- outputs

gone_none : (S : Setting) (n : ℕ) (o : OwnReplies) (s : Scene) → Now S n o s.moments → AreReasoned S s.moments → Gone S n o [] s
gone_none S n o s now explained = record { now = now; same = refl; explained = explained; sends = tt }

gone_told : (S : Setting) (n : ℕ) (o : OwnReplies) (e : Entry) (os : List Output) (s : Scene) → NoPacket e → Gone S n o os (telling e s) → Gone S n o (Tells e ∷ os) s
gone_told S n o e os s quiet g = record { now = g.now; same = g.same ∙ told_same e s.moments quiet; explained = g.explained; sends = (tt, g.sends) }

pub gone_all : (S : Setting) (n : ℕ) (o : OwnReplies) (os : List Output) (s : Scene) → AllSo n o os → Now S n o s.moments → AreReasoned S s.moments → Gone S n o os s
gone_all S n o [] s so now explained = gone_none S n o s now explained
gone_all S n o (Tells e ∷ os) s so now explained =
    gone_told S n o e os s (line_no_packet n o e so.0)
    (gone_all S n o os (telling e s) so.1 (told_now S n o e s.moments (line_asks_nothing n o e so.0) now) (line_explained S n o e s.moments so.0 now, explained))
gone_all S n o (Sends to b ∷ os) s so now explained =
    let m : Message = record { sender = n; body = b } in
    let p : Posted S n o s.moments (posting n to m s).moments = posted S n o n to m s in
    let g : Gone S n o os (posting n to m s) = gone_all S n o os (posting n to m s) so.1 (p.now now) (p.explained explained) in
    record { now = g.now; same = g.same ∙ p.same; explained = g.explained; sends = (so.0, g.sends) }

-- ---- the node has left its membership: what waits is unknown

differs_none : (o : Option ℕ) (v : Option ℕ) → v ≡ None → differs o v ≡ true
differs_none o v is = ap (λ z. differs o z) is ∙ from o
  where
    from : (k : Option ℕ) → differs k None ≡ true
    from None = refl
    from (Some e) = refl

unknown_more : (S : Setting) (n : ℕ) (o : OwnReplies) (r : Request) (os : List Output) (s : Scene) → member_of n s.moments ≡ None → Now S n o s.moments → AreReasoned S s.moments
    → ((t : Scene) → member_of n t.moments ≡ None → Now S n o t.moments → AreReasoned S t.moments → Gone S n o os t) → (b : Bool)
    → Gone S n o ((if b then Tells (answered_line n r.number answer.Unknown) ∷ [] else []) ++ os) s
unknown_more S n o r os s none now explained next true =
    let e : Entry = answered_line n r.number answer.Unknown in
    gone_told S n o e os s tt (next (telling e s) none (told_now S n o e s.moments tt now) ((differs_none _ (member_of n s.moments) none, tt), explained))
unknown_more S n o r os s none now explained next false = next s none now explained

pub unknown_gone : (S : Setting) (n : ℕ) (o : OwnReplies) (rs : List Request) (s : Scene) → member_of n s.moments ≡ None → Now S n o s.moments → AreReasoned S s.moments → Gone S n o (unknown_lines n rs) s
unknown_gone S n o [] s none now explained = gone_none S n o s now explained
unknown_gone S n o (r ∷ rs) s none now explained =
    unknown_more S n o r (unknown_lines n rs) s none now explained (λ t v w k. unknown_gone S n o rs t v w k) r.told

-- behind one line that leaves it so
pub line_gone : (S : Setting) (n : ℕ) (o : OwnReplies) (e : Entry) (rs : List Request) (s : Scene) → LineSo n o e → member_of n (Told e ∷ s.moments) ≡ None → Now S n o s.moments → AreReasoned S s.moments
    → Gone S n o (Tells e ∷ unknown_lines n rs) s
line_gone S n o e rs s so none now explained =
    gone_told S n o e (unknown_lines n rs) s (line_no_packet n o e so)
    (unknown_gone S n o rs (telling e s) none (told_now S n o e s.moments (line_asks_nothing n o e so) now) (line_explained S n o e s.moments so now, explained))

superseded_gone : (S : Setting) (n : ℕ) (o : OwnReplies) (p : ℕ) (a : Option AttemptState) (rs : List Request) (s : Scene) → member_of n s.moments ≡ None → Now S n o s.moments → AreReasoned S s.moments
    → Gone S n o (superseded_lines p a ++ unknown_lines n rs) s
superseded_gone S n o p None rs s none now explained = unknown_gone S n o rs s none now explained
superseded_gone S n o p (Some a) rs s none now explained = line_gone S n o _ rs s tt none now explained

-- behind the line of its promise
pub promised_gone : (S : Setting) (n : ℕ) (o : OwnReplies) (e : Entry) (p : ℕ) (a : Option AttemptState) (rs : List Request) (s : Scene) → LineSo n o e → member_of n (Told e ∷ s.moments) ≡ None
    → Now S n o s.moments → AreReasoned S s.moments → Gone S n o (Tells e ∷ (superseded_lines p a ++ unknown_lines n rs)) s
promised_gone S n o e p a rs s so none now explained =
    gone_told S n o e (superseded_lines p a ++ unknown_lines n rs) s (line_no_packet n o e so)
    (superseded_gone S n o p a rs (telling e s) none (told_now S n o e s.moments (line_asks_nothing n o e so) now) (line_explained S n o e s.moments so now, explained))
