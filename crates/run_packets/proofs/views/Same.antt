-- What is told of ages and ticks stays while a node tells of other things.
use Rattle.std.specs.Prelude.{ℕ, ◌≡◌, List, [], ◌∷◌, Option, None, Some}
use Rattle.std.specs.List.{AllByRecursion}
use Rattle.std.proofs.Common.{refl, sym, subst, ◌∙◌}
use Rattle.cl_base.specs.declared.packet.DropCause.{DropCause}
use Rattle.cmm_attempt.proofs.Basics.{if_either}
use Rattle.heartbeats.specs.Peers.{peer_in}
use Rattle.heartbeats.specs.State.{State}
use Rattle.history.specs.Attempts.{before_tick}
use Rattle.history.specs.Moment.{Moment, Told}
use Rattle.history.specs.Setting.{Setting}
use Rattle.interconnect.specs.Links as links
use Rattle.interconnect.specs.Links.{sending}
use Rattle.node_model.specs.declared.node.Node.{Node}
use Rattle.node_model.specs.declared.node.Node.TheVariants.{Down, Up}
use Rattle.node_model.specs.declared.output.Output.{Output}
use Rattle.node_model.specs.declared.output.Output.TheVariants.{Sends, Tells}
use Rattle.run_attempts.proofs.Mild.{AreMild, IsMildLine}
use Rattle.run_history.specs.Scenes.{Scene, dropped_so, passing, posting, sent_as, telling, with_links}
use Rattle.status_report.specs.declared.attempt_entry.AttemptEntry.TheVariants as attempt
use Rattle.status_report.specs.declared.entry.Entry.{Entry}
use Rattle.status_report.specs.declared.entry.Entry.TheVariants as entry
use Rattle.status_report.specs.declared.node_entry.NodeEntry.TheVariants as note
use Rattle.status_report.specs.declared.packet_entry.PacketEntry.TheVariants as packet
use Rattle.wire.specs.Spelling.{spelling}
use Rattle.wire.specs.declared.message.Message.{Message}
use Rattle.world_model.specs.Sends.{is_sent, name_of}
use Rattle.run_packets.specs.views.Heard.{AgeIs, AllViews, BeatsAre, Judged, NodeIs}
use Rattle.run_packets.specs.views.Laws.{Account, heard_age_of}

-- ---- moments that tell the same ages of what node k has heard

abbrev pub SameAges : Account → ℕ → List Moment → List Moment → Type 0
SameAges f k before after = (m : ℕ) → heard_age_of f k m after ≡ heard_age_of f k m before

pub ages_then : (f : Account) (k : ℕ) (first second third : List Moment) → SameAges f k first second → SameAges f k second third → SameAges f k first third
ages_then f k first second third h i m = i m ∙ h m

pub beats_stay : (f : Account) (before after : List Moment) (k : ℕ) (s : State) → SameAges f k before after → BeatsAre f before k s → BeatsAre f after k s
beats_stay f before after k s same h = record {
  me = h.me;
  room = h.room;
  peers = λ m low high. subst (AgeIs (peer_in s.peers m)) (sym (same m)) (h.peers m low high);
}

pub node_stays : (f : Account) (before after : List Moment) (k : ℕ) (node : Node) → SameAges f k before after → NodeIs f before k node → NodeIs f after k node
node_stays f before after k Down same h = tt
node_stays f before after k (Up x) same h = beats_stay f before after k x.beats same h

-- .. and of ticks
pub record Alike (f : Account) (before after : List Moment) : Type 0 where
  pub ages : (k : ℕ) → SameAges f k before after
  pub ticks : (k : ℕ) → before_tick k after ≡ before_tick k before

pub alike_self : (f : Account) (ms : List Moment) → Alike f ms ms
alike_self f ms = record { ages = λ k m. refl; ticks = λ k. refl }

pub alike_then : (f : Account) (first second third : List Moment) → Alike f first second → Alike f second third → Alike f first third
alike_then f first second third h i = record {
  ages = λ k. ages_then f k first second third (h.ages k) (i.ages k);
  ticks = λ k. i.ticks k ∙ h.ticks k;
}

-- ---- lines

pub told_alike : (f : Account) (e : Entry) (ms : List Moment) → IsMildLine e → Alike f ms (Told e ∷ ms)
told_alike f (entry.Packet e) ms h = absurd h
told_alike f (entry.Node m note.Up) ms h = absurd h
told_alike f (entry.Node m note.Ticked) ms h = absurd h
told_alike f (entry.Attempt (attempt.Begun e members)) ms h = absurd h
told_alike f _ ms h = record { ages = λ k m. refl; ticks = λ k. refl }

pub begun_alike : (f : Account) (e members : ℕ) (ms : List Moment) → Alike f ms (Told (entry.Attempt (attempt.Begun e members)) ∷ ms)
begun_alike f e members ms = record { ages = λ k m. refl; ticks = λ k. refl }

told_judged : (S : Setting) (f : Account) (e : Entry) (ms : List Moment) → IsMildLine e → Judged S f ms (Told e)
told_judged S f (entry.Packet e) ms h = absurd h
told_judged S f (entry.Attempt (attempt.Begun e members)) ms h = absurd h
told_judged S f _ ms h = record { view = tt; alone = tt }

-- ---- what a node gives, where no attempt begins in it

abbrev pub IsStill : Output → Type 0
IsStill (Tells e) = IsMildLine e
IsStill (Sends to b) = Unit {0}

abbrev pub AreStill : List Output → Type 0
AreStill os = AllByRecursion IsStill os

pub mild_still : (os : List Output) → AreMild os → AreStill os
mild_still [] h = tt
mild_still (Tells e ∷ os) h = (h.0, mild_still os h.1)
mild_still (Sends to b ∷ os) h = (tt, mild_still os h.1)

-- what is so behind it
pub record Passed (S : Setting) (f : Account) (before after : List Moment) : Type 0 where
  pub so : AllViews S f after
  pub alike : Alike f before after

passed_then : (S : Setting) (f : Account) (first second third : List Moment) → Alike f first second → Passed S f second third → Passed S f first third
passed_then S f first second third h i = record { so = i.so; alike = alike_then f first second third h i.alike }

dropped_passed : (S : Setting) (f : Account) (o : Option (ℕ × DropCause)) (s : Scene) → AllViews S f s.moments → Passed S f s.moments (dropped_so o s).moments
dropped_passed S f None s so = record { so = so; alike = alike_self f s.moments }
dropped_passed S f (Some drop) s so = record { so = (record { view = tt; alone = tt }, so); alike = record { ages = λ k m. refl; ticks = λ k. refl } }

posted : (S : Setting) (f : Account) (from to : ℕ) (m : Message) (s : Scene) → AllViews S f s.moments → Passed S f s.moments (posting from to m s).moments
posted S f from to m s so =
    let o : links.Outcome = sending s.links from to (spelling m) in
    let t : Scene = telling (entry.Packet (packet.Sent s.links.next from to (name_of m.body) (spelling m))) (with_links s o.after) in
    if_either (λ (u : Scene). Passed S f s.moments u.moments) (is_sent s.links m) (sent_as from to m o s) s
    (passed_then S f s.moments t.moments (dropped_so o.sent.dropped t).moments (record { ages = λ k m. refl; ticks = λ k. refl })
    (dropped_passed S f o.sent.dropped t (record { view = tt; alone = tt }, so)))
    (record { so = so; alike = alike_self f s.moments })

pub still_passed : (S : Setting) (f : Account) (n : ℕ) (os : List Output) (s : Scene) → AreStill os → AllViews S f s.moments → Passed S f s.moments (passing n os s).moments
still_passed S f n [] s h so = record { so = so; alike = alike_self f s.moments }
still_passed S f n (Tells e ∷ os) s h so =
    passed_then S f s.moments (telling e s).moments (passing n os (telling e s)).moments (told_alike f e s.moments h.0) (still_passed S f n os (telling e s) h.1 (told_judged S f e s.moments h.0, so))
still_passed S f n (Sends to b ∷ os) s h so =
    let t : Scene = posting n to (record { sender = n; body = b }) s in
    let first : Passed S f s.moments t.moments = posted S f n to (record { sender = n; body = b }) s so in
    passed_then S f s.moments t.moments (passing n os t).moments first.alike (still_passed S f n os t h.1 first.so)
