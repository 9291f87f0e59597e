-- What a node gives is told and sent, one output after another.
use Rattle.std.specs.Prelude.{All, List, None, Option, Some, [], length, nat_le, true, ℕ, ◌++◌, ◌∷◌, ◌≡◌, ◌≢◌, ◌≤◌}
use Rattle.std.specs.Option.{option_map}
use Rattle.std.proofs.Common.{arith, refl, subst, sym, ◌∙◌}
use Rattle.attempt_laws.proofs.Walk.{if_with}
use Rattle.attempt_laws.specs.Sending.{IsOwnStep}
use Rattle.cl_base.specs.declared.header.Header.{Header}
use Rattle.cl_base.specs.declared.packet.DropCause.{DropCause}
use Rattle.cmm_attempt.proofs.Basics.{and_cases, if_either, same_some}
use Rattle.history.specs.Contact.{IsNew}
use Rattle.history.specs.Letters.{arrived, letter_of}
use Rattle.history.specs.Moment.{Moment, Told}
use Rattle.history.specs.Order.{Always}
use Rattle.history.specs.Trace.{sent}
use Rattle.interconnect.specs.Links.{sending}
use Rattle.interconnect.specs.Links as links
use Rattle.node_model.specs.declared.output.Output.{Output}
use Rattle.node_model.specs.declared.output.Output.TheVariants.{Sends, Tells}
use Rattle.pgr_device.specs.declared.command.PrCommand.{PrCommand}
use Rattle.pgr_device.specs.declared.command.PrCommand.TheVariants as command
use Rattle.refinement.specs.Doings.{Site, site}
use Rattle.refinement.specs.Runs.{Nodes}
use Rattle.refinement.specs.Ties.{Delivered}
use Rattle.refinement.specs.Worlds.{AllFit, SpelledIfShort}
use Rattle.run_history.specs.Guards.{Hand}
use Rattle.run_history.specs.Scenes.{Scene, dropped_so, passing, posting, sent_as, telling, with_links}
use Rattle.status_report.specs.declared.attempt_entry.AttemptEntry.{AttemptEntry}
use Rattle.status_report.specs.declared.attempt_entry.AttemptEntry.TheVariants as attempt_entry
use Rattle.status_report.specs.declared.device_entry.DeviceEntry.{DeviceEntry}
use Rattle.status_report.specs.declared.device_entry.DeviceEntry.TheVariants as device_entry
use Rattle.status_report.specs.declared.entry.Entry.{Entry}
use Rattle.status_report.specs.declared.entry.Entry.TheVariants as entry
use Rattle.status_report.specs.declared.node_entry.NodeEntry.{NodeEntry}
use Rattle.status_report.specs.declared.node_entry.NodeEntry.TheVariants as node_entry
use Rattle.status_report.specs.declared.packet_entry.PacketEntry.{PacketEntry}
use Rattle.status_report.specs.declared.packet_entry.PacketEntry.TheVariants as packet
use Rattle.wire.proofs.Messages.{whole_again}
use Rattle.wire.specs.Spelling.{Fits, spelling}
use Rattle.wire.specs.declared.message.Body.{Body}
use Rattle.wire.specs.declared.message.Message.{Message}
use Rattle.world_model.specs.Sends.{is_sent, name_of}
use Rattle.run_seizings.proofs.Progress.{of_stays}
use Rattle.run_seizings.proofs.Stills.{Still, StillFor, still}
use Rattle.run_seizings.specs.Seized.{IsOf}
use Rattle.run_devices.proofs.readings.Letters.{carried_stays, sent_carried}
use Rattle.run_devices.proofs.readings.Stays.{hand_stays, sent_stays, site_stays, stands_stay}
use Rattle.run_devices.specs.readings.Laws.{BringsWhatWasRead, BroughtIn, SaysWhatWasRead, SeizedIn}
use Rattle.run_devices.specs.readings.Readings.{SentSo, StandsSo}
use Rattle.run_devices.specs.readings.Sites.{Carried, InHand, SiteSo}
use Rattle.run_devices.proofs.readings.Says.{brings_so, says_so}

-- the turn that gave the last steps is of an attempt that has its line, and its steps are of it
abbrev pub HandSo : List Moment → Hand → Type 0
HandSo ms None = Unit {0}
HandSo ms (Some u) = IsOf ms u.after.plan.epoch u.after.plan.members × All (IsOwnStep u.after) u.steps

hand_so_stays : (ms : List Moment) (x : Moment) (g : Hand) → IsNew ms x → HandSo ms g → HandSo (x ∷ ms) g
hand_so_stays ms x None new k = tt
hand_so_stays ms x (Some u) new k = (of_stays ms x u.after.plan.epoch u.after.plan.members new k.0, k.1)

-- In the step of node n, which is as x has it now, and for which this was delivered; the others are as v has them, and all as w has them in the end.
pub record Goes (h : Header) (n : ℕ) (told : Delivered) (v w : Nodes) (x : Site) (g : Hand) (s : Scene) : Type 0 where
  pub here : SiteSo h s.moments n x
  pub there : (k : ℕ) → k ≢ n → SiteSo h s.moments k (site (v.node k) (v.disk k).kept)
  pub carried : Carried h s.moments s.links
  pub hand : InHand h s.moments n told
  pub turn : HandSo s.moments g
  pub nodes : s.nodes ≡ w
  pub says : Always (SaysWhatWasRead h) s.moments
  pub brings : Always (BringsWhatWasRead h) s.moments

-- the node has gone on, in memory
pub goes_at : (h : Header) (n : ℕ) (told : Delivered) (v w : Nodes) (x y : Site) (g f : Hand) (s : Scene) → SiteSo h s.moments n y → HandSo s.moments f
    → Goes h n told v w x g s → Goes h n told v w y f s
goes_at h n told v w x y g f s here turn k =
    record {
      here = here;
      there = k.there;
      carried = k.carried;
      hand = k.hand;
      turn = turn;
      nodes = k.nodes;
      says = k.says;
      brings = k.brings;
    }

-- ---- lines

-- no packet is sent, copied or delivered by it
abbrev pub PlainPacket : PacketEntry → Type 0
PlainPacket (packet.Lost p) = Unit {0}
PlainPacket (packet.Dropped p why) = Unit {0}
PlainPacket _ = ⊥

abbrev pub PlainEntry : Entry → Type 0
PlainEntry (entry.Packet e) = PlainPacket e
PlainEntry _ = Unit {0}

record Plain (h : Header) (ms : List Moment) (e : Entry) : Type 0 where
  letters : (p : ℕ) → letter_of p (Told e ∷ ms) ≡ letter_of p ms
  here : arrived (Told e ∷ ms) ≡ arrived ms
  says : SaysWhatWasRead h ms (Told e)
  brings : BringsWhatWasRead h ms (Told e)

plain_so : (h : Header) (ms : List Moment) (e : Entry) → PlainEntry e → Plain h ms e
plain_so h ms (entry.Packet (packet.Lost p)) is = record { letters = λ q. refl; here = refl; says = tt; brings = tt }
plain_so h ms (entry.Packet (packet.Dropped p why)) is = record { letters = λ q. refl; here = refl; says = tt; brings = tt }
plain_so h ms (entry.Packet (packet.Sent p from to called bytes)) is = absurd is
plain_so h ms (entry.Packet (packet.Delivered p from to)) is = absurd is
plain_so h ms (entry.Packet (packet.Repeated p copy)) is = absurd is
plain_so h ms (entry.Start e) is = record { letters = λ q. refl; here = refl; says = tt; brings = tt }
plain_so h ms (entry.Answered e) is = record { letters = λ q. refl; here = refl; says = tt; brings = tt }
plain_so h ms entry.Powered is = record { letters = λ q. refl; here = refl; says = tt; brings = tt }
plain_so h ms (entry.Node m e) is = record { letters = λ q. refl; here = refl; says = tt; brings = tt }
plain_so h ms (entry.Device e) is = record { letters = λ q. refl; here = refl; says = tt; brings = tt }
plain_so h ms (entry.Attempt e) is = record { letters = λ q. refl; here = refl; says = tt; brings = tt }
plain_so h ms (entry.Update e) is = record { letters = λ q. refl; here = refl; says = tt; brings = tt }
plain_so h ms (entry.Schedule e) is = record { letters = λ q. refl; here = refl; says = tt; brings = tt }
plain_so h ms (entry.Command e) is = record { letters = λ q. refl; here = refl; says = tt; brings = tt }
plain_so h ms (entry.Call e) is = record { letters = λ q. refl; here = refl; says = tt; brings = tt }
plain_so h ms (entry.Status e) is = record { letters = λ q. refl; here = refl; says = tt; brings = tt }
plain_so h ms (entry.Address e) is = record { letters = λ q. refl; here = refl; says = tt; brings = tt }

pub line_goes : (h : Header) (n : ℕ) (told : Delivered) (v w : Nodes) (x y : Site) (g : Hand) (s : Scene) (e : Entry) → PlainEntry e
    → ((k : ℕ) → k ≢ n → StillFor k e) → IsNew s.moments (Told e)
    → SiteSo h (Told e ∷ s.moments) n y → Goes h n told v w x g s → Goes h n told v w y g (telling e s)
line_goes h n told v w x y g s e is others new here k =
    let p : Plain h s.moments e = plain_so h s.moments e is in
    record {
      here = here;
      there = λ j ne. site_stays h s.moments (Told e) j (site (v.node j) (v.disk j).kept) new (still h s.moments j e (others j ne)) (k.there j ne);
      carried = carried_stays h s.moments (Told e) s.links new p.letters k.carried;
      hand = hand_stays h s.moments (Told e) n told new p.here k.hand;
      turn = hand_so_stays s.moments (Told e) g new k.turn;
      nodes = k.nodes;
      says = (p.says, k.says);
      brings = (p.brings, k.brings);
    }

-- ---- lines that change nothing

abbrev pub MildNode : NodeEntry → Type 0
MildNode node_entry.Ticked = Unit {0}
MildNode (node_entry.Member e) = Unit {0}
MildNode _ = ⊥

abbrev pub MildCommand : PrCommand → Type 0
MildCommand (command.Reserve kind key) = ⊥
MildCommand command.Keys = ⊥
MildCommand command.Word = ⊥
MildCommand _ = Unit {0}

abbrev pub MildDevice : DeviceEntry → Type 0
MildDevice (device_entry.Command m d c a) = MildCommand c
MildDevice _ = Unit {0}

abbrev pub MildAttempt : AttemptEntry → Type 0
MildAttempt (attempt_entry.Begun e members) = ⊥
MildAttempt _ = Unit {0}

abbrev pub IsMild : Entry → Type 0
IsMild (entry.Node m e) = MildNode e
IsMild (entry.Device e) = MildDevice e
IsMild (entry.Attempt e) = MildAttempt e
IsMild (entry.Packet e) = PlainPacket e
IsMild _ = Unit {0}

record Mild (e : Entry) : Type 0 where
  plain : PlainEntry e
  still : (k : ℕ) → StillFor k e
  new : (ms : List Moment) → IsNew ms (Told e)

mild_node : (m : ℕ) (e : NodeEntry) → MildNode e → Mild (entry.Node m e)
mild_node m node_entry.Ticked is = record { plain = tt; still = λ k. tt; new = λ ms. tt }
mild_node m (node_entry.Member q) is = record { plain = tt; still = λ k. tt; new = λ ms. tt }
mild_node m node_entry.Up is = absurd is
mild_node m node_entry.Saved is = absurd is
mild_node m (node_entry.Down why) is = absurd is
mild_node m (node_entry.Installed q) is = absurd is

mild_command : (m d : ℕ) (c : PrCommand) (a : _) → MildCommand c → Mild (entry.Device (device_entry.Command m d c a))
mild_command m d (command.Reserve kind key) a is = absurd is
mild_command m d command.Keys a is = absurd is
mild_command m d command.Word a is = absurd is
mild_command m d (command.Register key new) a is = record { plain = tt; still = λ k. tt; new = λ ms. tt }
mild_command m d (command.Ignore new) a is = record { plain = tt; still = λ k. tt; new = λ ms. tt }
mild_command m d (command.Release kind key) a is = record { plain = tt; still = λ k. tt; new = λ ms. tt }
mild_command m d (command.Clear key) a is = record { plain = tt; still = λ k. tt; new = λ ms. tt }
mild_command m d (command.Preempt kind key victim) a is = record { plain = tt; still = λ k. tt; new = λ ms. tt }
mild_command m d command.Holder a is = record { plain = tt; still = λ k. tt; new = λ ms. tt }
mild_command m d command.Read a is = record { plain = tt; still = λ k. tt; new = λ ms. tt }
mild_command m d (command.Write value) a is = record { plain = tt; still = λ k. tt; new = λ ms. tt }
mild_command m d (command.Swap expect new) a is = record { plain = tt; still = λ k. tt; new = λ ms. tt }

mild_device : (e : DeviceEntry) → MildDevice e → Mild (entry.Device e)
mild_device (device_entry.Command m d c a) is = mild_command m d c a is
mild_device (device_entry.Accepted q m d value) is = record { plain = tt; still = λ k. tt; new = λ ms. tt }
mild_device (device_entry.Refused m d value why) is = record { plain = tt; still = λ k. tt; new = λ ms. tt }

mild_attempt : (e : AttemptEntry) → MildAttempt e → Mild (entry.Attempt e)
mild_attempt (attempt_entry.Begun q members) is = absurd is
mild_attempt (attempt_entry.Votes q have need lacking) is = record { plain = tt; still = λ k. tt; new = λ ms. tt }
mild_attempt (attempt_entry.Superseded q p) is = record { plain = tt; still = λ k. tt; new = λ ms. tt }
mild_attempt (attempt_entry.Silent q m) is = record { plain = tt; still = λ k. tt; new = λ ms. tt }
mild_attempt (attempt_entry.Excluded q m) is = record { plain = tt; still = λ k. tt; new = λ ms. tt }
mild_attempt (attempt_entry.Foreign q m) is = record { plain = tt; still = λ k. tt; new = λ ms. tt }

mild : (e : Entry) → IsMild e → Mild e
mild (entry.Node m e) is = mild_node m e is
mild (entry.Device e) is = mild_device e is
mild (entry.Attempt e) is = mild_attempt e is
mild (entry.Packet e) is = record { plain = is; still = λ k. tt; new = λ ms. tt }
mild (entry.Start e) is = record { plain = tt; still = λ k. tt; new = λ ms. tt }
mild (entry.Answered e) is = record { plain = tt; still = λ k. tt; new = λ ms. tt }
mild entry.Powered is = record { plain = tt; still = λ k. tt; new = λ ms. tt }
mild (entry.Update e) is = record { plain = tt; still = λ k. tt; new = λ ms. tt }
mild (entry.Schedule e) is = record { plain = tt; still = λ k. tt; new = λ ms. tt }
mild (entry.Command e) is = record { plain = tt; still = λ k. tt; new = λ ms. tt }
mild (entry.Call e) is = record { plain = tt; still = λ k. tt; new = λ ms. tt }
mild (entry.Status e) is = record { plain = tt; still = λ k. tt; new = λ ms. tt }
mild (entry.Address e) is = record { plain = tt; still = λ k. tt; new = λ ms. tt }

pub mild_goes : (h : Header) (n : ℕ) (told : Delivered) (v w : Nodes) (x : Site) (g : Hand) (s : Scene) (e : Entry) → IsMild e → Goes h n told v w x g s
    → Goes h n told v w x g (telling e s)
mild_goes h n told v w x g s e is k =
    let m : Mild e = mild e is in
    line_goes h n told v w x x g s e m.plain (λ j ne. m.still j) (m.new s.moments)
    (site_stays h s.moments (Told e) n x (m.new s.moments) (still h s.moments n e (m.still n)) k.here) k

-- ---- messages

sent_goes : (h : Header) (n : ℕ) (told : Delivered) (v w : Nodes) (x : Site) (g : Hand) (s : Scene) (to : ℕ) (m : Message) → Fits m → SentSo s.moments n m.body
    → StandsSo h s.moments n m.body → Goes h n told v w x g s
    → Goes h n told v w x g (telling (entry.Packet (packet.Sent s.links.next n to (name_of m.body) (spelling m)))
    (with_links s (sending s.links n to (spelling m)).after))
sent_goes h n told v w x g s to m fits was stands k =
    let e : Entry = entry.Packet (packet.Sent s.links.next n to (name_of m.body) (spelling m)) in
    let y : Moment = sent s.links.next n to (name_of m.body) (spelling m) in
    record {
      here = site_stays h s.moments y n x tt (still h s.moments n e tt) k.here;
      there = λ j ne. site_stays h s.moments y j (site (v.node j) (v.disk j).kept) tt (still h s.moments j e tt) (k.there j ne);
      carried = sent_carried h s.moments s.links n to m (spelling m) (λ other is. same_some other m (sym is ∙ whole_again m fits)) tt was stands k.carried;
      hand = hand_stays h s.moments y n told tt refl k.hand;
      turn = hand_so_stays s.moments y g tt k.turn;
      nodes = k.nodes;
      says = (subst (λ o. SeizedIn h s.moments n (option_map (λ (z : Message). z.body) o)) (sym (whole_again m fits)) (says_so h s.moments n m.body stands), k.says);
      brings = (subst (λ o. BroughtIn h s.moments (option_map (λ (z : Message). z.body) o)) (sym (whole_again m fits)) (brings_so h s.moments n m.body stands), k.brings);
    }

size : (k : ℕ) → nat_le k 131072 ≡ true → k ≤ 131072
size k e = grind arith

dropped_goes : (h : Header) (n : ℕ) (told : Delivered) (v w : Nodes) (x : Site) (g : Hand) (s : Scene) (o : Option (ℕ × DropCause)) → Goes h n told v w x g s
    → Goes h n told v w x g (dropped_so o s)
dropped_goes h n told v w x g s None k = k
dropped_goes h n told v w x g s (Some drop) k = mild_goes h n told v w x g s (entry.Packet (packet.Dropped drop.0 drop.1)) tt k

posting_goes : (h : Header) (n : ℕ) (told : Delivered) (v w : Nodes) (x : Site) (g : Hand) (s : Scene) (to : ℕ) (b : Body)
    → SpelledIfShort (record { sender = n; body = b }) → SentSo s.moments n b → StandsSo h s.moments n b
    → Goes h n told v w x g s → Goes h n told v w x g (posting n to (record { sender = n; body = b }) s)
posting_goes h n told v w x g s to b fits was stands k =
    let m : Message = record { sender = n; body = b } in
    let o : links.Outcome = sending s.links n to (spelling m) in
    if_with (λ (t : Scene). Goes h n told v w x g t) (is_sent s.links m) (is_sent s.links m) (sent_as n to m o s) s refl
    (λ e. dropped_goes h n told v w x g _ o.sent.dropped
    (sent_goes h n told v w x g s to m (fits (size (length (spelling m)) (and_cases _ _ e).0)) was stands k)) (λ e. k)

-- ---- outputs

-- lines that change nothing, and messages that are so
abbrev pub CanPass : Header → List Moment → ℕ → List Output → Type 0
CanPass h before n [] = Unit {0}
CanPass h before n (Tells e ∷ os) = IsMild e × CanPass h before n os
CanPass h before n (Sends to b ∷ os) = (SentSo before n b × StandsSo h before n b) × CanPass h before n os

can_more : (h : Header) (before : List Moment) (n : ℕ) (x : Moment) (os : List Output) → Still h before n x → IsNew before x → CanPass h before n os
    → CanPass h (x ∷ before) n os
can_more h before n x [] same new k = tt
can_more h before n x (Tells e ∷ os) same new k = (k.0, can_more h before n x os same new k.1)
can_more h before n x (Sends to b ∷ os) same new k = ((sent_stays h before x n b same k.0.0, stands_stay h before x n b new k.0.1), can_more h before n x os same new k.1)

can_mild : (h : Header) (s : Scene) (n : ℕ) (e : Entry) (os : List Output) → IsMild e → CanPass h s.moments n os → CanPass h (telling e s).moments n os
can_mild h s n e os is k = let m : Mild e = mild e is in can_more h s.moments n (Told e) os (still h s.moments n e (m.still n)) (m.new s.moments) k

can_dropped : (h : Header) (n : ℕ) (o : Option (ℕ × DropCause)) (s : Scene) (os : List Output) → CanPass h s.moments n os → CanPass h (dropped_so o s).moments n os
can_dropped h n None s os k = k
can_dropped h n (Some drop) s os k = can_mild h s n (entry.Packet (packet.Dropped drop.0 drop.1)) os tt k

can_posted : (h : Header) (n to : ℕ) (m : Message) (s : Scene) (os : List Output) → CanPass h s.moments n os → CanPass h (posting n to m s).moments n os
can_posted h n to m s os k =
    let o : links.Outcome = sending s.links n to (spelling m) in
    let e : Entry = entry.Packet (packet.Sent s.links.next n to (name_of m.body) (spelling m)) in
    if_either (λ (t : Scene). CanPass h t.moments n os) (is_sent s.links m) (sent_as n to m o s) s
    (can_dropped h n o.sent.dropped _ os (can_more h s.moments n (Told e) os (still h s.moments n e tt) tt k)) k

pub outputs_go : (h : Header) (n : ℕ) (told : Delivered) (v w : Nodes) (x : Site) (g : Hand) (os : List Output) (s : Scene) → AllFit n os
    → CanPass h s.moments n os → Goes h n told v w x g s
    → Goes h n told v w x g (passing n os s)
outputs_go h n told v w x g [] s fits can k = k
outputs_go h n told v w x g (Tells e ∷ os) s fits can k =
    outputs_go h n told v w x g os (telling e s) fits (can_mild h s n e os can.0 can.1) (mild_goes h n told v w x g s e can.0 k)
outputs_go h n told v w x g (Sends to b ∷ os) s fits can k =
    let m : Message = record { sender = n; body = b } in
    outputs_go h n told v w x g os (posting n to m s) fits.2 (can_posted h n to m s os can.1) (posting_goes h n told v w x g s to b fits.1 can.0.0 can.0.1 k)

pub can_append : (h : Header) (before : List Moment) (n : ℕ) (os more : List Output) → CanPass h before n os → CanPass h before n more → CanPass h before n (os ++ more)
can_append h before n [] more k l = l
can_append h before n (Tells e ∷ os) more k l = (k.0, can_append h before n os more k.1 l)
can_append h before n (Sends to b ∷ os) more k l = (k.0, can_append h before n os more k.1 l)
