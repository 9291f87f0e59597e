-- At a message of a kind that is left here, a stop falls where the rules let the node save; other lines tell of none.
use Rattle.std.specs.Prelude.{ℕ, ◌≡◌, true, false, List, [], ◌∷◌, Option, None, Some}
use Rattle.std.specs.List.{AllByRecursion}
use Rattle.std.proofs.Common.{refl, sym, ap, subst, ◌∙◌, inl, inr}
use Rattle.cl_base.specs.declared.packet.DropCause.{DropCause}
use Rattle.cmm_attempt.proofs.Basics.{if_either}
use Rattle.history.specs.Letters.{arrived}
use Rattle.history.specs.Moment.{Moment, Told}
use Rattle.history.specs.Order.{under_way}
use Rattle.history.specs.Saves.{may_save}
use Rattle.history.specs.Setting.{Setting}
use Rattle.interconnect.specs.Links as net
use Rattle.interconnect.specs.Links.{sending}
use Rattle.node_model.specs.declared.output.Output.{Output}
use Rattle.node_model.specs.declared.output.Output.TheVariants.{Sends, Tells}
use Rattle.status_report.specs.declared.entry.Entry.{Entry}
use Rattle.status_report.specs.declared.entry.Entry.TheVariants as entry
use Rattle.status_report.specs.declared.node_entry.DownCause.TheVariants as cause
use Rattle.status_report.specs.declared.node_entry.NodeEntry.TheVariants as note
use Rattle.status_report.specs.declared.packet_entry.PacketEntry.TheVariants as packet
use Rattle.wire.specs.Spelling.{spelling}
use Rattle.wire.specs.declared.message.Message.{Message}
use Rattle.world_model.specs.Sends.{is_sent, name_of}
use Rattle.run_history.specs.Scenes.{Scene, dropped_so, passing, posting, sent_as, telling, with_links}
use Rattle.run_downs.proofs.Packets.{IsNoPacket, posted_came, told_came}
use Rattle.run_downs.proofs.Rules.{NoStops, StopsIf}
use Rattle.run_outcomes.specs.saves.Kept.{AllHere, StopsHere, is_left_at, is_left_in}

not_so : false ≡ true → ⊥
not_so h = cc

-- ---- what is sent

pub dropped_here : (S : Setting) (o : Option (ℕ × DropCause)) (s : Scene) → AllHere S s.moments → AllHere S (dropped_so o s).moments
dropped_here S None s h = h
dropped_here S (Some x) s h = (tt, h)

pub posted_here : (S : Setting) (from to : ℕ) (m : Message) (s : Scene) → AllHere S s.moments → AllHere S (posting from to m s).moments
posted_here S from to m s h =
    let o : net.Outcome = sending s.links from to (spelling m) in
    if_either (λ (z : Scene). AllHere S z.moments) (is_sent s.links m) (sent_as from to m o s) s
    (dropped_here S o.sent.dropped (telling (entry.Packet (packet.Sent s.links.next from to (name_of m.body) (spelling m))) (with_links s o.after)) (tt, h)) h

-- ---- outputs without a stop

no_stop_here : (S : Setting) (e : Entry) (ms : List Moment) → (let o : Output = Tells e in NoStops (o ∷ [])) → StopsHere S ms (Told e)
no_stop_here S (entry.Node m (note.Down cause.Stopped)) ms h = absurd h.0
no_stop_here S _ ms h = tt

pub none_here : (S : Setting) (n : ℕ) (os : List Output) (s : Scene) → NoStops os → AllHere S s.moments → AllHere S (passing n os s).moments
none_here S n [] s h so = so
none_here S n (Tells e ∷ os) s h so = none_here S n os (telling e s) h.1 (no_stop_here S e s.moments (h.0, tt), so)
none_here S n (Sends to b ∷ os) s h so = none_here S n os (posting n to (record { sender = n; body = b }) s) h.1 (posted_here S n to (record { sender = n; body = b }) s so)

-- ---- the stop comes at once, or not at all

pub stops_here : (S : Setting) (n : ℕ) (Q : Type 0) (os : List Output) (s : Scene) → StopsIf Q n os → (Q → may_save S n s.moments ≡ true) → AllHere S s.moments → AllHere S (passing n os s).moments
stops_here S n Q os s (inl h) rule so = subst (λ z. AllHere S (passing n z s).moments) (sym h.1) ((λ left. rule h.0), so)
stops_here S n Q os s (inr h) rule so = none_here S n os s h so

-- ---- another event

abbrev pub IsSilent : List Moment → Type 0
IsSilent ms = is_left_at ms ≡ false

silent_line : (S : Setting) (e : Entry) (ms : List Moment) → IsSilent ms → StopsHere S ms (Told e)
silent_line S (entry.Node m (note.Down cause.Stopped)) ms silent = λ left. absurd (not_so (sym silent ∙ left))
silent_line S _ ms silent = tt

silent_dropped : (o : Option (ℕ × DropCause)) (s : Scene) → IsSilent s.moments → IsSilent (dropped_so o s).moments
silent_dropped None s h = h
silent_dropped (Some x) s h = h

silent_posted : (from to : ℕ) (m : Message) (s : Scene) → IsSilent s.moments → IsSilent (posting from to m s).moments
silent_posted from to m s h =
    let o : net.Outcome = sending s.links from to (spelling m) in
    if_either (λ (z : Scene). IsSilent z.moments) (is_sent s.links m) (sent_as from to m o s) s
    (silent_dropped o.sent.dropped (telling (entry.Packet (packet.Sent s.links.next from to (name_of m.body) (spelling m))) (with_links s o.after)) h) h

pub silent_here : (S : Setting) (n : ℕ) (os : List Output) (s : Scene) → AllByRecursion IsNoPacket os → IsSilent s.moments → AllHere S s.moments → AllHere S (passing n os s).moments
silent_here S n [] s q silent so = so
silent_here S n (Tells e ∷ os) s q silent so =
    silent_here S n os (telling e s) q.1 (ap (is_left_in (under_way s.moments)) (told_came e s.moments q.0) ∙ silent) (silent_line S e s.moments silent, so)
silent_here S n (Sends to b ∷ os) s q silent so =
    let m : Message = record { sender = n; body = b } in
    silent_here S n os (posting n to m s) q.1 (silent_posted n to m s silent) (posted_here S n to m s so)

-- what a node gives is no packet that comes
pub passing_came : (n : ℕ) (os : List Output) (s : Scene) → AllByRecursion IsNoPacket os → arrived (passing n os s).moments ≡ arrived s.moments
passing_came n [] s q = refl
passing_came n (Tells e ∷ os) s q = passing_came n os (telling e s) q.1 ∙ told_came e s.moments q.0
passing_came n (Sends to b ∷ os) s q =
    let m : Message = record { sender = n; body = b } in
    passing_came n os (posting n to m s) q.1 ∙ posted_came n to m s
