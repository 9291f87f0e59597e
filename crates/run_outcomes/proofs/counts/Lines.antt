-- Most of what a node gives tells of no attempt that ends by what it counts.
use Rattle.std.specs.Prelude.{ℕ, ◌++◌, List, [], ◌∷◌, Option, None, Some, Ok}
use Rattle.std.specs.List.{AllByRecursion}
use Rattle.cl_base.specs.Limits.{most_nodes}
use Rattle.cl_base.specs.Numbers.{numbers_to}
use Rattle.cl_base.specs.declared.packet.DropCause.{DropCause}
use Rattle.ccr_commit.specs.Entries.{all_committed}
use Rattle.cmm_attempt.proofs.Basics.{if_either}
use Rattle.cmm_attempt.specs.Attempts.{AttemptState}
use Rattle.cmm_attempt.specs.Calls.{turn}
use Rattle.history.specs.Moment.{Moment, Told}
use Rattle.history.specs.Setting.{Setting}
use Rattle.interconnect.specs.Links as links
use Rattle.interconnect.specs.Links.{sending}
use Rattle.node_model.specs.Attempts.{base_lines, starting_as}
use Rattle.node_model.specs.Configurations.{in_force}
use Rattle.node_model.specs.Entries.{unknown_lines}
use Rattle.node_model.specs.Presidents.{sent_to}
use Rattle.node_model.specs.Ticks.{later, ticked_output}
use Rattle.node_model.specs.declared.cluster.Cluster.{Cluster}
use Rattle.node_model.specs.declared.node.UpNode.{UpNode}
use Rattle.node_model.specs.declared.output.Output.{Output}
use Rattle.node_model.specs.declared.output.Output.TheVariants.{Sends, Tells}
use Rattle.pgr_device.specs.declared.command.PrAnswer.TheVariants as given
use Rattle.refinement.specs.Doings.{Act, Change, adopted_by, first_lines, last_lines, of_node, said, saved_lines, superseded_lines, write_lines}
use Rattle.refinement.specs.Doings.Act.{Accepts, Dates, Ends, Gives, Goes_on, Hears, Makes, Minds, Notes, Queues, Spreads, Stores, Takes, Ticks, Waits, Works, Writes}
use Rattle.refinement.specs.Doings.Change.{Acks, Admits, Commits, Counts, Distrusts, Installs, Leads, Prepares, Promises, Proposes, Sits, Starts}
use Rattle.run_history.proofs.Lists.{both, mapped}
use Rattle.run_history.specs.Marks.{ActSo, AreMinor, IsMinor}
use Rattle.run_history.specs.Scenes.{Scene, dropped_so, passing, posting, sent_as, telling, with_links}
use Rattle.seize.specs.Answers.{Answer}
use Rattle.status_report.specs.declared.attempt_entry.AttemptEntry.TheVariants as attempt_entry
use Rattle.status_report.specs.declared.entry.Entry.{Entry}
use Rattle.status_report.specs.declared.entry.Entry.TheVariants as entry
use Rattle.status_report.specs.declared.node_entry.NodeEntry.TheVariants as note
use Rattle.status_report.specs.declared.packet_entry.PacketEntry.TheVariants as packet
use Rattle.wire.specs.Spelling.{spelling}
use Rattle.wire.specs.declared.message.Message.{Message}
use Rattle.world_model.specs.Sends.{is_sent, name_of}
use Rattle.run_attempts.proofs.endings.Sends.{adopted_fine, base_fine, first_fine, ticked_fine, unknown_fine}
use Rattle.run_attempts.specs.endings.Sites.{AreFine, IsQuietLine}
use Rattle.run_outcomes.specs.counts.Facts.{AllDue, IsDue}

abbrev pub IsPlainLine : Entry → Type 0
IsPlainLine (entry.Attempt (attempt_entry.Foreign e m)) = ⊥
IsPlainLine (entry.Attempt (attempt_entry.Votes e have need lacking)) = ⊥
IsPlainLine _ = Unit {0}

abbrev pub IsPlain : Output → Type 0
IsPlain (Tells e) = IsPlainLine e
IsPlain (Sends to b) = Unit {0}

abbrev pub ArePlain : List Output → Type 0
ArePlain os = AllByRecursion IsPlain os

-- ---- they are told

pub told_due : (S : Setting) (ms : List Moment) (e : Entry) → IsPlainLine e → IsDue S ms (Told e)
told_due S ms (entry.Attempt (attempt_entry.Foreign e m)) plain = absurd plain
told_due S ms (entry.Attempt (attempt_entry.Votes e have need lacking)) plain = absurd plain
told_due S ms _ plain = tt

pub dropped_due : (S : Setting) (o : Option (ℕ × DropCause)) (s : Scene) → AllDue S s.moments → AllDue S (dropped_so o s).moments
dropped_due S None s h = h
dropped_due S (Some drop) s h = (tt, h)

posting_due : (S : Setting) (from to : ℕ) (m : Message) (s : Scene) → AllDue S s.moments → AllDue S (posting from to m s).moments
posting_due S from to m s h =
    let o : links.Outcome = sending s.links from to (spelling m) in
    if_either (λ (t : Scene). AllDue S t.moments) (is_sent s.links m) (sent_as from to m o s) s
    (dropped_due S o.sent.dropped (telling (entry.Packet (packet.Sent s.links.next from to (name_of m.body) (spelling m))) (with_links s o.after)) (tt, h)) h

pub passing_due : (S : Setting) (n : ℕ) (os : List Output) (s : Scene) → ArePlain os → AllDue S s.moments → AllDue S (passing n os s).moments
passing_due S n [] s plain h = h
passing_due S n (Tells e ∷ os) s plain h = passing_due S n os (telling e s) plain.1 (told_due S s.moments e plain.0, h)
passing_due S n (Sends to b ∷ os) s plain h =
    passing_due S n os (posting n to (record { sender = n; body = b }) s) plain.1 (posting_due S n to (record { sender = n; body = b }) s h)

-- ---- what a node gives

quiet_plain : (e : Entry) → IsQuietLine e → IsPlainLine e
quiet_plain (entry.Attempt e) quiet = absurd quiet
quiet_plain _ quiet = tt

fine_plain : (os : List Output) → AreFine [] 0 os → ArePlain os
fine_plain [] fine = tt
fine_plain (Tells e ∷ os) fine = (quiet_plain e fine.0, fine_plain os fine.1)
fine_plain (Sends to b ∷ os) fine = (tt, fine_plain os fine.1)

pub first_plain : (n : ℕ) (change : Change) → ArePlain (first_lines n change)
first_plain n change = fine_plain (first_lines n change) (first_fine [] 0 n change)

unknown_plain : (c : Cluster) (n : ℕ) (x : UpNode) → ArePlain (unknown_lines n x.requests.waiting)
unknown_plain c n x = fine_plain (unknown_lines n x.requests.waiting) (unknown_fine [] 0 n x.requests.waiting)

superseded_plain : (p : ℕ) (o : Option AttemptState) → ArePlain (superseded_lines p o)
superseded_plain p None = tt
superseded_plain p (Some a) = (tt, tt)

pub last_plain : (c : Cluster) (n : ℕ) (x : UpNode) (change : Change) → ArePlain (last_lines c n x change)
last_plain c n x (Promises p) = both IsPlain (superseded_lines p x.attempt) (unknown_lines n x.requests.waiting) (superseded_plain p x.attempt) (unknown_plain c n x)
last_plain c n x (Leads p members) = (tt, unknown_plain c n x)
last_plain c n x (Starts a k s) =
    let t : AttemptState = (turn a k).after in
    let base : List Output = base_lines t.plan.epoch 0 (all_committed s.saved.entries).committed in
    let adopted : List Output = adopted_by c t (starting_as c n x t s) in (
      tt,
      both IsPlain base (adopted ++ of_node n (note.Member t.plan.epoch) ∷ []) (fine_plain base (base_fine [] 0 t.plan.epoch 0 (all_committed s.saved.entries).committed))
          (both IsPlain adopted (of_node n (note.Member t.plan.epoch) ∷ []) (fine_plain adopted (adopted_fine [] 0 t.plan.epoch (in_force c (starting_as c n x t s)) (starting_as c n x t s).presidency)) (tt, tt)),
    )
last_plain c n x (Counts a k s i) = (tt, tt)
last_plain c n x (Installs s i) = (tt, tt)
last_plain c n x (Sits s e) = (tt, tt)
last_plain c n x (Distrusts d) = tt
last_plain c n x (Admits at command a d) = tt
last_plain c n x (Proposes s p text) = tt
last_plain c n x (Acks s p q left text) = (tt, tt)
last_plain c n x (Prepares s text) = tt
last_plain c n x (Commits s) = tt

pub saved_plain : (c : Cluster) (n : ℕ) (x : UpNode) (change : Change) → ArePlain (first_lines n change ++ saved_lines c n x change)
saved_plain c n x change = both IsPlain (first_lines n change) (saved_lines c n x change) (first_plain n change) (tt, last_plain c n x change)

write_plain : (n : ℕ) (x : UpNode) (d value : ℕ) (a : Answer) → ArePlain (write_lines n x d value a)
write_plain n x d value (Ok given.Good) = (tt, tt)
write_plain n x d value (Ok given.Conflict) = (tt, tt)
write_plain n x d value _ = (tt, tt)

minor_plain : (e : Entry) → IsMinor e → IsPlainLine e
minor_plain (entry.Attempt e) minor = absurd minor
minor_plain _ minor = tt

given_plain : (os : List Output) → AreMinor os → ArePlain os
given_plain [] h = tt
given_plain (Tells e ∷ os) h = (minor_plain e h.0, given_plain os h.1)
given_plain (Sends to b ∷ os) h = (tt, given_plain os h)

abbrev pub IsMild : Act → Type 0
IsMild (Ends a why) = ⊥
IsMild _ = Unit {0}

pub said_plain : (c : Cluster) (n : ℕ) (x : UpNode) (a : Act) → IsMild a → ActSo a → ArePlain (said c n x a)
unfolding sent_to
said_plain c n x (Ends a why) mild so = absurd mild
said_plain c n x (Makes change) mild so = both IsPlain (first_lines n change) (last_lines c n x change) (first_plain n change) (last_plain c n x change)
said_plain c n x (Hears from b) mild so = tt
said_plain c n x Ticks mild so = (tt, fine_plain (ticked_output c x (later c x)) (ticked_fine [] 0 c x (later c x)))
said_plain c n x Waits mild so = tt
said_plain c n x (Goes_on a k) mild so = tt
said_plain c n x (Queues a d kind) mild so = tt
said_plain c n x (Accepts kind e members d) mild so = tt
said_plain c n x (Takes at command a) mild so = (tt, tt)
said_plain c n x (Stores d value a) mild so = (tt, write_plain n x d value a)
said_plain c n x (Writes to b) mild so = (tt, tt)
said_plain c n x (Gives os) mild so = given_plain os so
said_plain c n x (Spreads receivers b) mild so = mapped IsPlain (λ m. Sends m b) (numbers_to receivers most_nodes) (λ m. tt)
said_plain c n x (Minds q p) mild so = tt
said_plain c n x (Notes from place p) mild so = tt
said_plain c n x (Dates now) mild so = tt
said_plain c n x (Works w) mild so = tt
