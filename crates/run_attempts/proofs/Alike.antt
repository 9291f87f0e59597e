-- What is told of heartbeats and ticks stays while a node tells of other things, and what it sends is judged.
use Rattle.std.specs.Prelude.{ℕ, ◌≡◌, List, [], ◌∷◌, Option, None, Some, IfSome}
use Rattle.std.specs.List.{AllByRecursion}
use Rattle.std.proofs.Common.{refl, sym, ap, subst, ◌∙◌}
use Rattle.cl_base.specs.declared.packet.DropCause.{DropCause}
use Rattle.cmm_attempt.proofs.Basics.{if_either}
use Rattle.heartbeats.specs.Peers.{peer_in}
use Rattle.heartbeats.specs.State.{State}
use Rattle.heartbeats.specs.declared.due.Membership.{Membership}
use Rattle.history.specs.Attempts.{age_of, before_tick, configured_for, last_heartbeat}
use Rattle.history.specs.Letters.{arrived}
use Rattle.history.specs.Moment.{Moment, Told}
use Rattle.history.specs.Order.{under_way}
use Rattle.history.specs.Setting.{Setting}
use Rattle.interconnect.specs.Links as links
use Rattle.interconnect.specs.Links.{sending}
use Rattle.node_model.specs.declared.node.Node.{Node}
use Rattle.node_model.specs.declared.node.Node.TheVariants.{Down, Up}
use Rattle.node_model.specs.declared.output.Output.{Output}
use Rattle.node_model.specs.declared.output.Output.TheVariants.{Sends, Tells}
use Rattle.run_history.specs.Scenes.{Scene, dropped_so, passing, posting, sent_as, telling, with_links}
use Rattle.status_report.specs.declared.attempt_entry.AttemptEntry.TheVariants as attempt
use Rattle.status_report.specs.declared.entry.Entry.{Entry}
use Rattle.status_report.specs.declared.entry.Entry.TheVariants as entry
use Rattle.status_report.specs.declared.node_entry.NodeEntry.TheVariants as note
use Rattle.status_report.specs.declared.packet_entry.PacketEntry.TheVariants as packet
use Rattle.wire.specs.Spelling.{spelling}
use Rattle.wire.specs.declared.message.Body.{Body}
use Rattle.wire.specs.declared.message.Body.TheVariants as body
use Rattle.wire.specs.declared.message.Message.{Message}
use Rattle.world_model.specs.Sends.{is_sent, name_of}
use Rattle.run_messages.specs.Outputs.{NoBeat}
use Rattle.run_attempts.specs.Heard.{AgeSo, BeatsSo, NearSo, NodeSo, beat_told}
use Rattle.run_attempts.specs.Judged.{AllJudged, InTick, IsSetOf, Judged, SeatTold}
use Rattle.run_attempts.specs.Laws.{beat_age_of}
use Rattle.run_attempts.proofs.Mild.{AreMild, IsMildLine}

-- ---- moments that tell the same of what node k has heard

pub record SameHeard (k : ℕ) (before after : List Moment) : Type 0 where
  pub ages : (m : ℕ) → age_of k m after ≡ age_of k m before
  pub near : (m : ℕ) → beat_age_of k m after ≡ beat_age_of k m before
  pub beats : (m : ℕ) → last_heartbeat k m after ≡ last_heartbeat k m before

pub same_heard : (k : ℕ) (ms : List Moment) → SameHeard k ms ms
same_heard k ms = record { ages = λ m. refl; near = λ m. refl; beats = λ m. refl }

pub heard_then : (k : ℕ) (first second third : List Moment) → SameHeard k first second → SameHeard k second third → SameHeard k first third
heard_then k first second third h i = record { ages = λ m. i.ages m ∙ h.ages m; near = λ m. i.near m ∙ h.near m; beats = λ m. i.beats m ∙ h.beats m }

pub beats_stay : (before after : List Moment) (k : ℕ) (s : State) → SameHeard k before after → BeatsSo before k s → BeatsSo after k s
beats_stay before after k s same h = record {
  me = h.me;
  room = h.room;
  peers = λ m low high. record {
    age = subst (λ o. AgeSo (peer_in s.peers m) o) (sym (same.ages m)) (h.peers m low high).age;
    near = subst (λ o. NearSo (peer_in s.peers m) o) (sym (same.near m)) (h.peers m low high).near;
    beat = (h.peers m low high).beat ∙ ap beat_told (sym (same.beats m));
  };
}

pub node_stays : (before after : List Moment) (k : ℕ) (node : Node) → SameHeard k before after → NodeSo before k node → NodeSo after k node
node_stays before after k Down same h = tt
node_stays before after k (Up x) same h = beats_stay before after k x.beats same h

-- .. and of the event under way
pub record Alike (before after : List Moment) : Type 0 where
  pub heard : (k : ℕ) → SameHeard k before after
  pub way : under_way after ≡ under_way before
  pub here : arrived after ≡ arrived before
  pub ticks : (k : ℕ) → before_tick k after ≡ before_tick k before

pub alike_self : (ms : List Moment) → Alike ms ms
alike_self ms = record { heard = λ k. same_heard k ms; way = refl; here = refl; ticks = λ k. refl }

pub alike_then : (first second third : List Moment) → Alike first second → Alike second third → Alike first third
alike_then first second third h i = record {
  heard = λ k. heard_then k first second third (h.heard k) (i.heard k);
  way = i.way ∙ h.way;
  here = i.here ∙ h.here;
  ticks = λ k. i.ticks k ∙ h.ticks k;
}

pub tick_stays : (S : Setting) (n configured : ℕ) (member : Option Membership) (before after : List Moment) → Alike before after → InTick S n configured member before → InTick S n configured member after
tick_stays S n configured member before after same h = record {
  way = same.way ∙ h.way;
  none = same.here ∙ h.none;
  known = subst (λ ms. IfSome (configured_for S n ms) (IsSetOf configured)) (sym (same.ticks n)) h.known;
  seat = subst (λ ms. SeatTold ms n member) (sym (same.ticks n)) h.seat;
  beats = λ m. (same.heard n).beats m ∙ (h.beats m ∙ ap (λ ms. last_heartbeat n m ms) (sym (same.ticks n)));
}

-- ---- lines

-- no packet, no tick, and no node that comes up
abbrev pub IsAlikeLine : Entry → Type 0
IsAlikeLine (entry.Packet e) = ⊥
IsAlikeLine (entry.Node m note.Up) = ⊥
IsAlikeLine (entry.Node m note.Ticked) = ⊥
IsAlikeLine _ = Unit {0}

abbrev pub IsAlike : Output → Type 0
IsAlike (Tells e) = IsAlikeLine e
IsAlike (Sends to b) = Unit {0}

abbrev pub AreAlike : List Output → Type 0
AreAlike os = AllByRecursion IsAlike os

alike_by : (before after : List Moment) → ((k m : ℕ) → age_of k m after ≡ age_of k m before) → ((k m : ℕ) → beat_age_of k m after ≡ beat_age_of k m before)
    → ((k m : ℕ) → last_heartbeat k m after ≡ last_heartbeat k m before) → under_way after ≡ under_way before → arrived after ≡ arrived before → ((k : ℕ) → before_tick k after ≡ before_tick k before) → Alike before after
alike_by before after ages near beats way here ticks = record {
  heard = λ k. record { ages = λ m. ages k m; near = λ m. near k m; beats = λ m. beats k m };
  way = way;
  here = here;
  ticks = ticks;
}

pub told_alike : (e : Entry) (ms : List Moment) → IsAlikeLine e → Alike ms (Told e ∷ ms)
told_alike (entry.Packet e) ms h = absurd h
told_alike (entry.Node m note.Up) ms h = absurd h
told_alike (entry.Node m note.Ticked) ms h = absurd h
told_alike _ ms h = alike_by ms _ (λ k m. refl) (λ k m. refl) (λ k m. refl) refl refl (λ k. refl)

dropped_alike : (o : Option (ℕ × DropCause)) (s : Scene) → Alike s.moments (dropped_so o s).moments
dropped_alike None s = alike_self s.moments
dropped_alike (Some drop) s = alike_by s.moments _ (λ k m. refl) (λ k m. refl) (λ k m. refl) refl refl (λ k. refl)

sent_alike : (from to : ℕ) (m : Message) (o : links.Outcome) (s : Scene) → Alike s.moments (sent_as from to m o s).moments
sent_alike from to m o s =
    let t : Scene = telling (entry.Packet (packet.Sent s.links.next from to (name_of m.body) (spelling m))) (with_links s o.after) in
    alike_then s.moments t.moments (dropped_so o.sent.dropped t).moments (alike_by s.moments t.moments (λ k m. refl) (λ k m. refl) (λ k m. refl) refl refl (λ k. refl)) (dropped_alike o.sent.dropped t)

pub posting_alike : (from to : ℕ) (m : Message) (s : Scene) → Alike s.moments (posting from to m s).moments
posting_alike from to m s =
    if_either (λ (t : Scene). Alike s.moments t.moments) (is_sent s.links m) (sent_as from to m (sending s.links from to (spelling m)) s) s
    (sent_alike from to m (sending s.links from to (spelling m)) s) (alike_self s.moments)

pub passing_alike : (n : ℕ) (os : List Output) (s : Scene) → AreAlike os → Alike s.moments (passing n os s).moments
passing_alike n [] s h = alike_self s.moments
passing_alike n (Tells e ∷ os) s h = alike_then s.moments (telling e s).moments (passing n os (telling e s)).moments (told_alike e s.moments h.0) (passing_alike n os (telling e s) h.1)
passing_alike n (Sends to b ∷ os) s h =
    let t : Scene = posting n to (record { sender = n; body = b }) s in
    alike_then s.moments t.moments (passing n os t).moments (posting_alike n to (record { sender = n; body = b }) s) (passing_alike n os t h.1)

mild_line_alike : (e : Entry) → IsMildLine e → IsAlikeLine e
mild_line_alike (entry.Packet e) h = h
mild_line_alike (entry.Node m note.Up) h = h
mild_line_alike (entry.Node m note.Ticked) h = h
mild_line_alike _ h = tt

pub mild_alike : (os : List Output) → AreMild os → AreAlike os
mild_alike [] h = tt
mild_alike (Tells e ∷ os) h = (mild_line_alike e h.0, mild_alike os h.1)
mild_alike (Sends to b ∷ os) h = (tt, mild_alike os h.1)

-- ---- what is judged

pub judged_told : (S : Setting) (e : Entry) (ms : List Moment) → IsMildLine e → Judged S ms (Told e)
judged_told S (entry.Packet e) ms h = absurd h
judged_told S (entry.Attempt (attempt.Begun e members)) ms h = absurd h
judged_told S _ ms h = record { in_tick = tt; due = tt; begins_so = tt }

dropped_judged : (S : Setting) (o : Option (ℕ × DropCause)) (s : Scene) → AllJudged S s.moments → AllJudged S (dropped_so o s).moments
dropped_judged S None s h = h
dropped_judged S (Some drop) s h = (record { in_tick = tt; due = tt; begins_so = tt }, h)

-- a message is sent that keeps to it
pub posting_judged : (S : Setting) (from to : ℕ) (m : Message) (s : Scene) → Judged S s.moments (Told (entry.Packet (packet.Sent s.links.next from to (name_of m.body) (spelling m)))) → AllJudged S s.moments
    → AllJudged S (posting from to m s).moments
posting_judged S from to m s one h =
    let o : links.Outcome = sending s.links from to (spelling m) in
    if_either (λ (t : Scene). AllJudged S t.moments) (is_sent s.links m) (sent_as from to m o s) s
    (dropped_judged S o.sent.dropped (telling (entry.Packet (packet.Sent s.links.next from to (name_of m.body) (spelling m))) (with_links s o.after)) (one, h)) h

other_judged : (S : Setting) (ms : List Moment) (p n to : ℕ) (b : Body) (bytes : List ℕ) → NoBeat b → Judged S ms (Told (entry.Packet (packet.Sent p n to (name_of b) bytes)))
other_judged S ms p n to (body.Heartbeat promised session is_one) bytes h = absurd h
other_judged S ms p n to _ bytes h = record { in_tick = tt; due = tt; begins_so = tt }

pub mild_judged : (S : Setting) (n : ℕ) (os : List Output) (s : Scene) → AreMild os → AllJudged S s.moments → AllJudged S (passing n os s).moments
mild_judged S n [] s h so = so
mild_judged S n (Tells e ∷ os) s h so = mild_judged S n os (telling e s) h.1 (judged_told S e s.moments h.0, so)
mild_judged S n (Sends to b ∷ os) s h so =
    let m : Message = record { sender = n; body = b } in
    mild_judged S n os (posting n to m s) h.1 (posting_judged S n to m s (other_judged S s.moments s.links.next n to b (spelling m) h.0) so)
