-- What a node gives is told and sent, one output after another.
use Rattle.std.specs.Prelude.{ℕ, ◌≡◌, ◌≢◌, ◌≤◌, ◌++◌, ◌&&◌, ◌==◌, nat_le, true, false, List, [], ◌∷◌, length, Option, None, Some, option_map}
use Rattle.std.proofs.Common.{refl, sym, ap, subst, ◌∙◌, arith}
use Rattle.attempt_laws.proofs.Walk.{if_with}
use Rattle.cl_base.specs.declared.header.Header.{Header}
use Rattle.cl_base.specs.declared.packet.DropCause.{DropCause}
use Rattle.cmm_attempt.proofs.Basics.{and_cases}
use Rattle.interconnect.specs.Links as links
use Rattle.interconnect.specs.Links.{sending}
use Rattle.pgr_device.specs.declared.command.PrCommand.{PrCommand}
use Rattle.pgr_device.specs.declared.command.PrCommand.TheVariants as command
use Rattle.status_report.specs.declared.attempt_entry.AttemptEntry.{AttemptEntry}
use Rattle.status_report.specs.declared.attempt_entry.AttemptEntry.TheVariants as attempt_entry
use Rattle.status_report.specs.declared.device_entry.DeviceEntry.{DeviceEntry}
use Rattle.status_report.specs.declared.device_entry.DeviceEntry.TheVariants as device_entry
use Rattle.status_report.specs.declared.entry.Entry.{Entry}
use Rattle.status_report.specs.declared.entry.Entry.TheVariants as entry
use Rattle.status_report.specs.declared.node_entry.NodeEntry.{NodeEntry}
use Rattle.status_report.specs.declared.node_entry.NodeEntry.TheVariants as node_entry
use Rattle.status_report.specs.declared.packet_entry.PacketEntry.{PacketEntry}
use Rattle.status_report.specs.declared.packet_entry.PacketEntry.TheVariants as packet
use Rattle.wire.proofs.Messages.{whole_again}
use Rattle.wire.specs.Spelling.{Fits, spelling}
use Rattle.wire.specs.declared.message.Body.{Body}
use Rattle.wire.specs.declared.message.Body.TheVariants as body
use Rattle.wire.specs.declared.message.Message.{Message}
use Rattle.history.specs.Letters.{arrived, passes, says}
use Rattle.history.specs.Member.{in_collect}
use Rattle.history.specs.Moment.{Moment, Told}
use Rattle.history.specs.Names as name
use Rattle.history.specs.Names.{same_name}
use Rattle.history.specs.Order.{Always}
use Rattle.node_model.specs.declared.output.Output.{Output}
use Rattle.node_model.specs.declared.output.Output.TheVariants.{Sends, Tells}
use Rattle.refinement.specs.Doings.{Site, site}
use Rattle.refinement.specs.Runs.{Nodes}
use Rattle.refinement.specs.Ties.{Delivered}
use Rattle.refinement.specs.Worlds.{AllFit, SpelledIfShort}
use Rattle.world_model.specs.Sends.{is_sent, name_of}
use Rattle.run_history.specs.Scenes.{Scene, dropped_so, passing, posting, sent_as, telling, with_links}
use Rattle.run_seizings.proofs.Changes.{NoCollect}
use Rattle.run_devices.specs.validity.Kept.{Excuse, NoExcuse, SiteSo}
use Rattle.run_devices.specs.validity.Laws.{ShowsIn, ShowsValidity}
use Rattle.run_devices.proofs.validity.Stills.{StillFor, site_stays, still}

-- ---- what is delivered

abbrev pub IsCollect : Body → Type 0
IsCollect (body.Collect p members) = Unit {0}
IsCollect _ = ⊥

abbrev pub HasCollect : Delivered → Type 0
HasCollect None = ⊥
HasCollect (Some d) = IsCollect d.1.body

-- the event under way is that of a Collect where one is delivered, and else not
pub record HandSo (ms : List Moment) (n : ℕ) (told : Delivered) : Type 0 where
  pub collects : HasCollect told → in_collect n ms ≡ true
  pub calm : NoCollect told → in_collect n ms ≡ false

hand_stays : (ms : List Moment) (x : Moment) (n : ℕ) (told : Delivered) → arrived (x ∷ ms) ≡ arrived ms → HandSo ms n told → HandSo (x ∷ ms) n told
hand_stays ms x n told same k =
    let here : in_collect n (x ∷ ms) ≡ in_collect n ms = ap (λ o. passes (λ l. same_name l.name name.Collect && (l.to == n)) o) same in
    record { collects = λ is. here ∙ k.collects is; calm = λ is. here ∙ k.calm is }

-- In the step of node n, which is as x has it now, and for which this was delivered; the others are as v has them, and all as w has them in the end.
pub record Goes (h : Header) (n : ℕ) (told : Delivered) (v w : Nodes) (excuse : Excuse) (x : Site) (s : Scene) : Type 0 where
  pub here : SiteSo h s.moments n excuse x
  pub there : (k : ℕ) → k ≢ n → SiteSo h s.moments k NoExcuse (site (v.node k) (v.disk k).kept)
  pub hand : HandSo s.moments n told
  pub nodes : s.nodes ≡ w
  pub shown : Always (ShowsValidity h) s.moments

-- the node has gone on, in memory
pub goes_at : (h : Header) (n : ℕ) (told : Delivered) (v w : Nodes) (e f : Excuse) (x y : Site) (s : Scene) → SiteSo h s.moments n f y → Goes h n told v w e x s
    → Goes h n told v w f y s
goes_at h n told v w e f x y s here k = record { here = here; there = k.there; hand = k.hand; nodes = k.nodes; shown = k.shown }

-- ---- lines

-- no packet is sent or delivered by it
abbrev pub PlainPacket : PacketEntry → Type 0
PlainPacket (packet.Sent p from to called bytes) = ⊥
PlainPacket (packet.Delivered p from to) = ⊥
PlainPacket _ = Unit {0}

abbrev pub PlainEntry : Entry → Type 0
PlainEntry (entry.Packet e) = PlainPacket e
PlainEntry _ = Unit {0}

pub record Plain (h : Header) (ms : List Moment) (e : Entry) : Type 0 where
  pub here : arrived (Told e ∷ ms) ≡ arrived ms
  pub shown : ShowsValidity h ms (Told e)

pub plain_so : (h : Header) (ms : List Moment) (e : Entry) → PlainEntry e → Plain h ms e
plain_so h ms (entry.Packet (packet.Lost p)) is = record { here = refl; shown = tt }
plain_so h ms (entry.Packet (packet.Dropped p why)) is = record { here = refl; shown = tt }
plain_so h ms (entry.Packet (packet.Repeated p copy)) is = record { here = refl; shown = tt }
plain_so h ms (entry.Packet (packet.Sent p from to called bytes)) is = absurd is
plain_so h ms (entry.Packet (packet.Delivered p from to)) is = absurd is
plain_so h ms (entry.Start e) is = record { here = refl; shown = tt }
plain_so h ms (entry.Answered e) is = record { here = refl; shown = tt }
plain_so h ms entry.Powered is = record { here = refl; shown = tt }
plain_so h ms (entry.Node m e) is = record { here = refl; shown = tt }
plain_so h ms (entry.Device e) is = record { here = refl; shown = tt }
plain_so h ms (entry.Attempt e) is = record { here = refl; shown = tt }
plain_so h ms (entry.Update e) is = record { here = refl; shown = tt }
plain_so h ms (entry.Schedule e) is = record { here = refl; shown = tt }
plain_so h ms (entry.Command e) is = record { here = refl; shown = tt }
plain_so h ms (entry.Call e) is = record { here = refl; shown = tt }
plain_so h ms (entry.Status e) is = record { here = refl; shown = tt }
plain_so h ms (entry.Address e) is = record { here = refl; shown = tt }

pub line_goes : (h : Header) (n : ℕ) (told : Delivered) (v w : Nodes) (e f : Excuse) (x y : Site) (s : Scene) (z : Entry) → PlainEntry z
    → ((k : ℕ) → k ≢ n → StillFor k z) → SiteSo h (Told z ∷ s.moments) n f y → Goes h n told v w e x s → Goes h n told v w f y (telling z s)
line_goes h n told v w e f x y s z is others here k =
    let p : Plain h s.moments z = plain_so h s.moments z is in
    record {
      here = here;
      there = λ j ne. site_stays h s.moments (Told z) j NoExcuse (site (v.node j) (v.disk j).kept) (still h s.moments j z (others j ne)) (k.there j ne);
      hand = hand_stays s.moments (Told z) n told p.here k.hand;
      nodes = k.nodes;
      shown = (p.shown, k.shown);
    }

-- ---- lines that change nothing

abbrev pub MildNode : NodeEntry → Type 0
MildNode node_entry.Saved = ⊥
MildNode (node_entry.Down why) = ⊥
MildNode (node_entry.Installed e) = ⊥
MildNode _ = Unit {0}

abbrev pub MildCommand : PrCommand → Type 0
MildCommand (command.Ignore key) = ⊥
MildCommand command.Word = ⊥
MildCommand _ = Unit {0}

abbrev pub MildDevice : DeviceEntry → Type 0
MildDevice (device_entry.Command m d c a) = MildCommand c
MildDevice _ = Unit {0}

abbrev pub MildAttempt : AttemptEntry → Type 0
MildAttempt (attempt_entry.Begun e members) = ⊥
MildAttempt _ = Unit {0}

abbrev pub IsMild : Entry → Type 0
IsMild (entry.Node m e) = MildNode e
IsMild (entry.Device e) = MildDevice e
IsMild (entry.Attempt e) = MildAttempt e
IsMild (entry.Packet e) = PlainPacket e
IsMild _ = Unit {0}

pub record Mild (e : Entry) : Type 0 where
  pub plain : PlainEntry e
  pub still : (k : ℕ) → StillFor k e

mild_node : (m : ℕ) (e : NodeEntry) → MildNode e → Mild (entry.Node m e)
mild_node m node_entry.Up is = record { plain = tt; still = λ k. tt }
mild_node m node_entry.Ticked is = record { plain = tt; still = λ k. tt }
mild_node m (node_entry.Member q) is = record { plain = tt; still = λ k. tt }
mild_node m node_entry.Saved is = absurd is
mild_node m (node_entry.Down why) is = absurd is
mild_node m (node_entry.Installed q) is = absurd is

mild_command : (m d : ℕ) (c : PrCommand) (a : _) → MildCommand c → Mild (entry.Device (device_entry.Command m d c a))
mild_command m d (command.Ignore new) a is = absurd is
mild_command m d command.Word a is = absurd is
mild_command m d command.Keys a is = record { plain = tt; still = λ k. tt }
mild_command m d (command.Reserve kind key) a is = record { plain = tt; still = λ k. tt }
mild_command m d (command.Register key new) a is = record { plain = tt; still = λ k. tt }
mild_command m d (command.Release kind key) a is = record { plain = tt; still = λ k. tt }
mild_command m d (command.Clear key) a is = record { plain = tt; still = λ k. tt }
mild_command m d (command.Preempt kind key victim) a is = record { plain = tt; still = λ k. tt }
mild_command m d command.Holder a is = record { plain = tt; still = λ k. tt }
mild_command m d command.Read a is = record { plain = tt; still = λ k. tt }
mild_command m d (command.Write value) a is = record { plain = tt; still = λ k. tt }
mild_command m d (command.Swap expect new) a is = record { plain = tt; still = λ k. tt }

mild_device : (e : DeviceEntry) → MildDevice e → Mild (entry.Device e)
mild_device (device_entry.Command m d c a) is = mild_command m d c a is
mild_device (device_entry.Accepted q m d value) is = record { plain = tt; still = λ k. tt }
mild_device (device_entry.Refused m d value why) is = record { plain = tt; still = λ k. tt }

mild_attempt : (e : AttemptEntry) → MildAttempt e → Mild (entry.Attempt e)
mild_attempt (attempt_entry.Begun q members) is = absurd is
mild_attempt (attempt_entry.Votes q have need lacking) is = record { plain = tt; still = λ k. tt }
mild_attempt (attempt_entry.Superseded q p) is = record { plain = tt; still = λ k. tt }
mild_attempt (attempt_entry.Silent q m) is = record { plain = tt; still = λ k. tt }
mild_attempt (attempt_entry.Excluded q m) is = record { plain = tt; still = λ k. tt }
mild_attempt (attempt_entry.Foreign q m) is = record { plain = tt; still = λ k. tt }

pub mild : (e : Entry) → IsMild e → Mild e
mild (entry.Node m e) is = mild_node m e is
mild (entry.Device e) is = mild_device e is
mild (entry.Attempt e) is = mild_attempt e is
mild (entry.Packet e) is = record { plain = is; still = λ k. tt }
mild (entry.Start e) is = record { plain = tt; still = λ k. tt }
mild (entry.Answered e) is = record { plain = tt; still = λ k. tt }
mild entry.Powered is = record { plain = tt; still = λ k. tt }
mild (entry.Update e) is = record { plain = tt; still = λ k. tt }
mild (entry.Schedule e) is = record { plain = tt; still = λ k. tt }
mild (entry.Command e) is = record { plain = tt; still = λ k. tt }
mild (entry.Call e) is = record { plain = tt; still = λ k. tt }
mild (entry.Status e) is = record { plain = tt; still = λ k. tt }
mild (entry.Address e) is = record { plain = tt; still = λ k. tt }

pub mild_goes : (h : Header) (n : ℕ) (told : Delivered) (v w : Nodes) (e : Excuse) (x : Site) (s : Scene) (z : Entry) → IsMild z → Goes h n told v w e x s
    → Goes h n told v w e x (telling z s)
mild_goes h n told v w e x s z is k =
    let m : Mild z = mild z is in
    line_goes h n told v w e e x x s z m.plain (λ j ne. m.still j) (site_stays h s.moments (Told z) n e x (still h s.moments n z (m.still n)) k.here) k

-- ---- messages

shown_again : (h : Header) (ms : List Moment) (n : ℕ) (m : Message) → Fits m → ShowsIn h ms n (Some m.body) → ShowsIn h ms n (says (spelling m))
shown_again h ms n m fits k =
    subst (λ (o : Option Body). ShowsIn h ms n o) (sym (ap (λ o. option_map (λ (z : Message). z.body) o) (whole_again m fits))) k

sent_goes : (h : Header) (n : ℕ) (told : Delivered) (v w : Nodes) (e : Excuse) (x : Site) (s : Scene) (to : ℕ) (m : Message) → Fits m
    → ShowsIn h s.moments n (Some m.body) → Goes h n told v w e x s
    → Goes h n told v w e x (telling (entry.Packet (packet.Sent s.links.next n to (name_of m.body) (spelling m))) (with_links s (sending s.links n to (spelling m)).after))
sent_goes h n told v w e x s to m fits shows k =
    let z : Entry = entry.Packet (packet.Sent s.links.next n to (name_of m.body) (spelling m)) in
    record {
      here = site_stays h s.moments (Told z) n e x (still h s.moments n z tt) k.here;
      there = λ j ne. site_stays h s.moments (Told z) j NoExcuse (site (v.node j) (v.disk j).kept) (still h s.moments j z tt) (k.there j ne);
      hand = hand_stays s.moments (Told z) n told refl k.hand;
      nodes = k.nodes;
      shown = (shown_again h s.moments n m fits shows, k.shown);
    }

size : (k : ℕ) → nat_le k 131072 ≡ true → k ≤ 131072
size k e = grind arith

dropped_goes : (h : Header) (n : ℕ) (told : Delivered) (v w : Nodes) (e : Excuse) (x : Site) (s : Scene) (o : Option (ℕ × DropCause)) → Goes h n told v w e x s
    → Goes h n told v w e x (dropped_so o s)
dropped_goes h n told v w e x s None k = k
dropped_goes h n told v w e x s (Some drop) k = mild_goes h n told v w e x s (entry.Packet (packet.Dropped drop.0 drop.1)) tt k

pub posting_goes : (h : Header) (n : ℕ) (told : Delivered) (v w : Nodes) (e : Excuse) (x : Site) (s : Scene) (to : ℕ) (b : Body)
    → SpelledIfShort (record { sender = n; body = b }) → ShowsIn h s.moments n (Some b) → Goes h n told v w e x s
    → Goes h n told v w e x (posting n to (record { sender = n; body = b }) s)
posting_goes h n told v w e x s to b fits shows k =
    let m : Message = record { sender = n; body = b } in
    let o : links.Outcome = sending s.links n to (spelling m) in
    if_with (λ (t : Scene). Goes h n told v w e x t) (is_sent s.links m) (is_sent s.links m) (sent_as n to m o s) s refl
    (λ q. dropped_goes h n told v w e x _ o.sent.dropped (sent_goes h n told v w e x s to m (fits (size (length (spelling m)) (and_cases _ _ q).0)) shows k)) (λ q. k)

-- ---- outputs

abbrev pub IsNoPromise : Body → Type 0
IsNoPromise (body.Promise epoch newest members valid flagged committed pending) = ⊥
IsNoPromise _ = Unit {0}

pub shows_none : (h : Header) (ms : List Moment) (n : ℕ) (b : Body) → IsNoPromise b → ShowsIn h ms n (Some b)
shows_none h ms n (body.Promise epoch newest members valid flagged committed pending) is = absurd is
shows_none h ms n _ is = tt

-- lines that change nothing, and messages that are no Promise
abbrev pub AreMild : List Output → Type 0
AreMild [] = Unit {0}
AreMild (Tells e ∷ os) = IsMild e × AreMild os
AreMild (Sends to b ∷ os) = IsNoPromise b × AreMild os

pub outputs_go : (h : Header) (n : ℕ) (told : Delivered) (v w : Nodes) (e : Excuse) (x : Site) (os : List Output) (s : Scene) → AllFit n os → AreMild os
    → Goes h n told v w e x s → Goes h n told v w e x (passing n os s)
outputs_go h n told v w e x [] s fits are k = k
outputs_go h n told v w e x (Tells z ∷ os) s fits are k = outputs_go h n told v w e x os (telling z s) fits are.1 (mild_goes h n told v w e x s z are.0 k)
outputs_go h n told v w e x (Sends to b ∷ os) s fits are k =
    outputs_go h n told v w e x os (posting n to (record { sender = n; body = b }) s) fits.2 are.1
    (posting_goes h n told v w e x s to b fits.1 (shows_none h s.moments n b are.0) k)

pub mild_append : (os more : List Output) → AreMild os → AreMild more → AreMild (os ++ more)
mild_append [] more k l = l
mild_append (Tells e ∷ os) more k l = (k.0, mild_append os more k.1 l)
mild_append (Sends to b ∷ os) more k l = (k.0, mild_append os more k.1 l)
