-- Outputs that tell of no stop, and events in which the rule on stops is silent.
use Rattle.std.specs.Prelude.{ℕ, ◌≡◌, true, false, List, [], ◌∷◌, Option, None, Some}
use Rattle.std.proofs.Common.{refl, sym, ap, ◌∙◌}
use Rattle.cl_base.specs.declared.packet.DropCause.{DropCause}
use Rattle.cmm_attempt.proofs.Basics.{if_either}
use Rattle.history.specs.Letters.{Letter, arrived}
use Rattle.history.specs.Moment.{Moment, Told}
use Rattle.history.specs.Order.{Always, under_way}
use Rattle.history.specs.Setting.{Setting}
use Rattle.interconnect.specs.Links as net
use Rattle.interconnect.specs.Links.{sending}
use Rattle.node_model.specs.declared.output.Output.{Output}
use Rattle.node_model.specs.declared.output.Output.TheVariants.{Sends, Tells}
use Rattle.status_report.specs.declared.entry.Entry.{Entry}
use Rattle.status_report.specs.declared.entry.Entry.TheVariants as entry
use Rattle.status_report.specs.declared.node_entry.DownCause.TheVariants as cause
use Rattle.status_report.specs.declared.node_entry.NodeEntry.TheVariants as note
use Rattle.status_report.specs.declared.packet_entry.PacketEntry.TheVariants as packet
use Rattle.wire.specs.Spelling.{spelling}
use Rattle.wire.specs.declared.message.Message.{Message}
use Rattle.world_model.specs.Sends.{is_sent, name_of}
use Rattle.run_history.specs.CommandLines.{AllQuiet, IsQuiet}
use Rattle.run_history.specs.Scenes.{Scene, dropped_so, passing, posting, sent_as, telling, with_links}
use Rattle.run_downs.proofs.Rules.{NoStops}
use Rattle.run_downs.specs.Laws.{StopsByRule, is_settled}

not_so : false ≡ true → ⊥
not_so h = cc

-- ---- a line, and a packet

pub dropped_ruled : (S : Setting) (o : Option (ℕ × DropCause)) (s : Scene) → Always (StopsByRule S) s.moments → Always (StopsByRule S) (dropped_so o s).moments
dropped_ruled S None s h = h
dropped_ruled S (Some x) s h = (tt, h)

pub posted_ruled : (S : Setting) (from to : ℕ) (m : Message) (s : Scene) → Always (StopsByRule S) s.moments → Always (StopsByRule S) (posting from to m s).moments
posted_ruled S from to m s h =
    let o : net.Outcome = sending s.links from to (spelling m) in
    if_either (λ (z : Scene). Always (StopsByRule S) z.moments) (is_sent s.links m) (sent_as from to m o s) s
    (dropped_ruled S o.sent.dropped (telling (entry.Packet (packet.Sent s.links.next from to (name_of m.body) (spelling m))) (with_links s o.after)) (tt, h)) h

-- ---- outputs without a stop

no_stop_ruled : (S : Setting) (e : Entry) (ms : List Moment) → (let o : Output = Tells e in NoStops (o ∷ [])) → StopsByRule S ms (Told e)
no_stop_ruled S (entry.Node m (note.Down cause.Stopped)) ms h = absurd h.0
no_stop_ruled S _ ms h = tt

pub none_ruled : (S : Setting) (n : ℕ) (os : List Output) (s : Scene) → NoStops os → Always (StopsByRule S) s.moments → Always (StopsByRule S) (passing n os s).moments
none_ruled S n [] s h so = so
none_ruled S n (Tells e ∷ os) s h so = none_ruled S n os (telling e s) h.1 (no_stop_ruled S e s.moments (h.0, tt), so)
none_ruled S n (Sends to b ∷ os) s h so =
    none_ruled S n os (posting n to (record { sender = n; body = b }) s) h.1 (posted_ruled S n to (record { sender = n; body = b }) s so)

-- ---- outputs in an event of another kind

-- what is told of packets here is that they were sent or dropped
told_here : (e : Entry) (ms : List Moment) → IsQuiet e → arrived (Told e ∷ ms) ≡ arrived ms
told_here (entry.Packet e) ms q = absurd q
told_here (entry.Answered e) ms q = refl
told_here entry.Powered ms q = refl
told_here (entry.Node n e) ms q = refl
told_here (entry.Device e) ms q = refl
told_here (entry.Attempt e) ms q = refl
told_here (entry.Start e) ms q = refl
told_here (entry.Update e) ms q = refl
told_here (entry.Schedule e) ms q = refl
told_here (entry.Command e) ms q = refl
told_here (entry.Call e) ms q = refl
told_here (entry.Status e) ms q = refl
told_here (entry.Address e) ms q = refl

-- the rule is silent in this event, whatever else is told in it
abbrev pub IsSilent : List Moment → Type 0
IsSilent ms = is_settled (under_way ms) (arrived ms) ≡ false

silent_line : (S : Setting) (e : Entry) (ms : List Moment) → IsSilent ms → StopsByRule S ms (Told e)
silent_line S (entry.Node m (note.Down cause.Stopped)) ms silent = λ so. absurd (not_so (sym silent ∙ so))
silent_line S _ ms silent = tt

silent_told : (e : Entry) (ms : List Moment) → IsQuiet e → IsSilent ms → IsSilent (Told e ∷ ms)
silent_told e ms q silent = ap (λ a. is_settled (under_way ms) a) (told_here e ms q) ∙ silent

silent_dropped : (o : Option (ℕ × DropCause)) (s : Scene) → IsSilent s.moments → IsSilent (dropped_so o s).moments
silent_dropped None s h = h
silent_dropped (Some x) s h = h

silent_posted : (from to : ℕ) (m : Message) (s : Scene) → IsSilent s.moments → IsSilent (posting from to m s).moments
silent_posted from to m s h =
    let o : net.Outcome = sending s.links from to (spelling m) in
    if_either (λ (z : Scene). IsSilent z.moments) (is_sent s.links m) (sent_as from to m o s) s
    (silent_dropped o.sent.dropped (telling (entry.Packet (packet.Sent s.links.next from to (name_of m.body) (spelling m))) (with_links s o.after)) h) h

pub silent_ruled : (S : Setting) (n : ℕ) (os : List Output) (s : Scene) → AllQuiet os → IsSilent s.moments → Always (StopsByRule S) s.moments → Always (StopsByRule S) (passing n os s).moments
silent_ruled S n [] s q silent so = so
silent_ruled S n (Tells e ∷ os) s q silent so =
    silent_ruled S n os (telling e s) q.1 (silent_told e s.moments q.0 silent) (silent_line S e s.moments silent, so)
silent_ruled S n (Sends to b ∷ os) s q silent so =
    let m : Message = record { sender = n; body = b } in
    silent_ruled S n os (posting n to m s) q.1 (silent_posted n to m s silent) (posted_ruled S n to m s so)

-- an event in which the rule is silent whatever has come
abbrev pub IsOther : List Moment → Type 0
IsOther ms = (a : Option Letter) → is_settled (under_way ms) a ≡ false

other_dropped : (o : Option (ℕ × DropCause)) (s : Scene) → IsOther s.moments → IsOther (dropped_so o s).moments
other_dropped None s h = h
other_dropped (Some x) s h = h

other_posted : (from to : ℕ) (m : Message) (s : Scene) → IsOther s.moments → IsOther (posting from to m s).moments
other_posted from to m s h =
    let o : net.Outcome = sending s.links from to (spelling m) in
    if_either (λ (z : Scene). IsOther z.moments) (is_sent s.links m) (sent_as from to m o s) s
    (other_dropped o.sent.dropped (telling (entry.Packet (packet.Sent s.links.next from to (name_of m.body) (spelling m))) (with_links s o.after)) h) h

pub other_ruled : (S : Setting) (n : ℕ) (os : List Output) (s : Scene) → IsOther s.moments → Always (StopsByRule S) s.moments → Always (StopsByRule S) (passing n os s).moments
other_ruled S n [] s other so = so
other_ruled S n (Tells e ∷ os) s other so = other_ruled S n os (telling e s) other (silent_line S e s.moments (other (arrived s.moments)), so)
other_ruled S n (Sends to b ∷ os) s other so =
    let m : Message = record { sender = n; body = b } in
    other_ruled S n os (posting n to m s) (other_posted n to m s other) (posted_ruled S n to m s so)
