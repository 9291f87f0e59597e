-- Each message that is sent is spelled, with the name that its line shows.
use Rattle.std.specs.Prelude.{ℕ, ◌≤◌, ◌≡◌, nat_le, true, List, [], ◌∷◌, Option, None, Some, length}
use Rattle.std.proofs.Common.{refl, arith}
use Rattle.attempt_laws.proofs.Walk.{if_with}
use Rattle.cl_base.specs.declared.header.Header.{Header}
use Rattle.cl_base.specs.declared.packet.DropCause.{DropCause}
use Rattle.cl_base.specs.declared.method.Outcome as method
use Rattle.cmm_attempt.proofs.Basics.{and_cases}
use Rattle.history.specs.Contents.{Spelled, Spells}
use Rattle.history.specs.Letters as letters
use Rattle.history.specs.Moment.{Moment, Told}
use Rattle.history.specs.Names.{written}
use Rattle.interconnect.specs.Links as links
use Rattle.interconnect.specs.Links.{sending}
use Rattle.node_model.specs.declared.cluster.Cluster.{Cluster}
use Rattle.node_model.specs.declared.input.Input.{Input}
use Rattle.node_model.specs.declared.input.Input.TheVariants as input
use Rattle.node_model.specs.declared.output.Output.{Output}
use Rattle.node_model.specs.declared.output.Output.TheVariants.{Sends, Tells}
use Rattle.refinement.proofs.node_widths.Lengths.{sent_messages_fit}
use Rattle.pgr_device.specs.Device.{Device}
use Rattle.pgr_device.specs.declared.command.PrCommand.{PrCommand}
use Rattle.pgr_device.specs.declared.command.PrCommand.TheVariants as command
use Rattle.refinement.specs.Widths.{LetterFits}
use Rattle.schedule_text.specs.declared.event.Event.{Event}
use Rattle.schedule_text.specs.declared.event.Event.TheVariants as event
use Rattle.status_report.specs.declared.entry.Entry.{Entry}
use Rattle.status_report.specs.declared.entry.Entry.TheVariants as entry
use Rattle.status_report.specs.declared.packet_entry.PacketEntry.TheVariants as packet
use Rattle.wire.specs.Spelling.{spelling}
use Rattle.wire.specs.declared.message.Body.{Body}
use Rattle.wire.specs.declared.message.Body.TheVariants as body
use Rattle.wire.specs.declared.message.Message.{Message}
use Rattle.world_model.specs.First.{first_cluster}
use Rattle.world_model.specs.Sends.{is_sent, name_of}
use Rattle.run_history.specs.Happenings.{Arrives, Begins, Commands, Happening, Loses, Misses, Notes, Refuses, Repeats, Speaks, Strays, Takes, Writes, armed_by, commanded, commanded_at, given_by, happened, removed, taking}
use Rattle.run_history.specs.Scenes.{Scene, adding, dropped_so, first_scene, passing, posting, sent_as, telling, with_links}
use Rattle.run_history.specs.Stages.{Stage}
use Rattle.run_messages.specs.Laws.{SpelledOfEachRun}
use Rattle.run_messages.specs.Outputs.{AreGood, NoPacket}
use Rattle.run_messages.proofs.Reaching.{IsSmall, holds_of_each, stage_of, taking_good}

-- ---- one message

same_name : (b : Body) → written (letters.name_of b) ≡ name_of b
same_name (body.Heartbeat promised session member) = refl
same_name (body.Collect epoch members) = refl
same_name (body.Promise epoch newest members valid flagged committed pending) = refl
same_name (body.Nack epoch promised) = refl
same_name (body.SeizeQuorum epoch members d) = refl
same_name (body.SeizeData epoch members d) = refl
same_name (body.Seized epoch d outcome) = refl
same_name (body.Install install) = refl
same_name (body.Ready epoch joined report) = refl
same_name (body.Start epoch) = refl
same_name (body.Prepare epoch place text) = refl
same_name (body.Prepared epoch place) = refl
same_name (body.Commit epoch place) = refl
same_name (body.Order order) = refl
same_name (body.Done epoch number outcome) = refl
same_name (body.Request epoch number text) = refl
same_name (body.Answer epoch number text) = refl
same_name (body.Excluded epoch newest) = refl

size : (k : ℕ) → nat_le k 131072 ≡ true → k ≤ 131072
size k e = grind arith

spells : (n : ℕ) (b : Body) → LetterFits (record { from = n; body = b }) → length (spelling (record { sender = n; body = b })) ≤ 131072 → Spells n (name_of b) (spelling (record { sender = n; body = b }))
spells n b fits short = record {
  message = record { sender = n; body = b };
  fits = sent_messages_fit (record { sender = n; body = b }) fits.0 fits.1 short;
  spelled = refl;
  sender = refl;
  named = same_name b;
}

-- ---- what a node gives

dropped_spelled : (o : Option (ℕ × DropCause)) (s : Scene) → Spelled s.moments → Spelled (dropped_so o s).moments
dropped_spelled None s h = h
dropped_spelled (Some drop) s h = (tt, h)

posting_spelled : (n to : ℕ) (b : Body) (s : Scene) → LetterFits (record { from = n; body = b }) → Spelled s.moments → Spelled (posting n to (record { sender = n; body = b }) s).moments
posting_spelled n to b s fits h =
    let m : Message = record { sender = n; body = b } in
    let o : links.Outcome = sending s.links n to (spelling m) in
    if_with (λ (t : Scene). Spelled t.moments) (is_sent s.links m) (is_sent s.links m) (sent_as n to m o s) s refl
    (λ e. dropped_spelled o.sent.dropped (telling (entry.Packet (packet.Sent s.links.next n to (name_of m.body) (spelling m))) (with_links s o.after))
    (spells n b fits (size (length (spelling m)) (and_cases _ _ e).0), h))
    (λ e. h)

told_spelled : (e : Entry) (ms : List Moment) → NoPacket e → Spelled ms → Spelled (Told e ∷ ms)
told_spelled (entry.Packet e) ms q h = absurd q
told_spelled _ ms q h = (tt, h)

passing_spelled : (n : ℕ) (os : List Output) (s : Scene) → AreGood n os → Spelled s.moments → Spelled (passing n os s).moments
passing_spelled n [] s q h = h
passing_spelled n (Tells e ∷ os) s q h = passing_spelled n os (telling e s) q.1 (told_spelled e s.moments q.0 h)
passing_spelled n (Sends to b ∷ os) s q h = passing_spelled n os (posting n to (record { sender = n; body = b }) s) q.1 (posting_spelled n to b s q.0 h)

taking_spelled : (c : Cluster) (s : Scene) (n now : ℕ) (ends : method.Outcome) (i : Input) → Stage c (taking c n now ends i s) → Spelled s.moments → Spelled (taking c n now ends i s).moments
taking_spelled c s n now ends i b h = passing_spelled n (given_by c n now ends i s.nodes) _ (taking_good c s n now ends i b) h

-- ---- each thing that happens

armed_spelled : (c : Cluster) (e : Event) (s : Scene) → Spelled s.moments → Spelled (armed_by c e s).moments
armed_spelled c (event.Fault n d done) s h = h
armed_spelled c (event.CrashAt n calls choice) s h = h
armed_spelled c _ s h = h

commanded_spelled : (s : Scene) (n d : ℕ) (o : Option Device) (k : PrCommand) → Spelled s.moments → Spelled (commanded_at s n d o k).scene.moments
commanded_spelled s n d None k h = h
commanded_spelled s n d (Some x) k h = h

spelled_kept : (c : Cluster) (s : Scene) (x : Happening) → Stage c (happened c s x) → Spelled s.moments → Spelled (happened c s x).moments
spelled_kept c s (Speaks e) b h = armed_spelled c e (adding _ s) (tt, h)
spelled_kept c s (Begins e) b h = (tt, h)
spelled_kept c s (Notes e) b h = (tt, h)
spelled_kept c s (Takes n now ends i) b h = taking_spelled c s n now ends i b h
spelled_kept c s (Arrives number x m now ends) b h =
    taking_spelled c (telling (entry.Packet (packet.Delivered number x.from x.to)) (removed s number)) x.to now ends (input.Packet x.from m) b (tt, h)
spelled_kept c s (Strays number x) b h = (tt, h)
spelled_kept c s (Misses number x) b h = (tt, h)
spelled_kept c s (Loses number x) b h = (tt, h)
spelled_kept c s (Repeats number x) b h =
    let o : links.Outcome = sending s.links x.from x.to x.bytes in
    dropped_spelled o.sent.dropped (telling (entry.Packet (packet.Repeated number s.links.next)) (with_links s o.after)) (tt, h)
spelled_kept c s (Commands n d k now ends) b h =
    taking_spelled c (commanded s n d k).scene n now ends (input.Answered (commanded s n d k).answer) b (commanded_spelled s n d _ k h)
spelled_kept c s (Writes n d value now ends) b h =
    taking_spelled c (commanded s n d (command.Write value)).scene n now ends (input.Wrote d value (commanded s n d (command.Write value)).answer) b (commanded_spelled s n d _ (command.Write value) h)
spelled_kept c s (Refuses n d value cause) b h = (tt, h)

first_spelled : (h : Header) (cells : ℕ) → Spelled (first_scene h cells).moments
unfolding first_scene
first_spelled h cells = tt

pub spelled_of_each_run : SpelledOfEachRun
spelled_of_each_run h cells hs few small may =
    let size : IsSmall h = record { few = few; small = small } in
    holds_of_each h cells (λ s. Spelled s.moments) (λ s x now at more k. spelled_kept (first_cluster h) s x (stage_of h cells _ size more) k) (first_spelled h cells) hs may
