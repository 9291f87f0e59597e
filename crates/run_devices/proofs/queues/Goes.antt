-- What a node gives is told and sent, one output after another.
use Rattle.std.specs.Prelude.{ℕ, ◌≡◌, ◌≢◌, ◌++◌, ◌&&◌, ◌==◌, List, [], ◌∷◌, Option, None, Some}
use Rattle.std.proofs.Common.{refl, ap, ◌∙◌}
use Rattle.cl_base.specs.declared.packet.DropCause.{DropCause}
use Rattle.cmm_attempt.proofs.Basics.{if_either}
use Rattle.interconnect.specs.Links as links
use Rattle.interconnect.specs.Links.{Links, sending}
use Rattle.pgr_device.specs.declared.command.PrCommand.{PrCommand}
use Rattle.pgr_device.specs.declared.command.PrCommand.TheVariants as command
use Rattle.status_report.specs.declared.attempt_entry.AttemptEntry.{AttemptEntry}
use Rattle.status_report.specs.declared.attempt_entry.AttemptEntry.TheVariants as tried
use Rattle.status_report.specs.declared.device_entry.DeviceEntry.{DeviceEntry}
use Rattle.status_report.specs.declared.device_entry.DeviceEntry.TheVariants as device_entry
use Rattle.status_report.specs.declared.entry.Entry.{Entry}
use Rattle.status_report.specs.declared.entry.Entry.TheVariants as entry
use Rattle.status_report.specs.declared.node_entry.NodeEntry.{NodeEntry}
use Rattle.status_report.specs.declared.node_entry.NodeEntry.TheVariants as note
use Rattle.status_report.specs.declared.packet_entry.PacketEntry.{PacketEntry}
use Rattle.status_report.specs.declared.packet_entry.PacketEntry.TheVariants as packet
use Rattle.wire.specs.Spelling.{spelling}
use Rattle.wire.specs.declared.message.Message.{Message}
use Rattle.history.specs.Letters.{arrived, passes}
use Rattle.history.specs.Member.{in_collect}
use Rattle.history.specs.Moment.{Moment, Told}
use Rattle.history.specs.Names as name
use Rattle.history.specs.Names.{same_name}
use Rattle.run_devices.specs.queues.Views.{View}
use Rattle.node_model.specs.declared.node.Node.{Node}
use Rattle.node_model.specs.declared.output.Output.{Output}
use Rattle.node_model.specs.declared.output.Output.TheVariants.{Sends, Tells}
use Rattle.refinement.specs.Runs.{Nodes}
use Rattle.refinement.specs.Ties.{Delivered}
use Rattle.world_model.specs.Sends.{is_sent, name_of}
use Rattle.run_history.specs.Scenes.{Scene, dropped_so, passing, posting, sent_as, telling, with_links}
use Rattle.run_devices.proofs.validity.Goes.{HandSo}
use Rattle.run_devices.specs.queues.Kept.{NodeSo, Pending}
use Rattle.run_devices.proofs.queues.Stills.{StillFor, node_stays, still}

pub hand_stays : (ms : List Moment) (x : Moment) (n : ℕ) (told : Delivered) → arrived (x ∷ ms) ≡ arrived ms → HandSo ms n told → HandSo (x ∷ ms) n told
hand_stays ms x n told same k =
    let here : in_collect n (x ∷ ms) ≡ in_collect n ms = ap (λ o. passes (λ l. same_name l.name name.Collect && (l.to == n)) o) same in
    record { collects = λ is. here ∙ k.collects is; calm = λ is. here ∙ k.calm is }

-- In the step of node n, which is as x has it now, and for which this was delivered; the others are as v has them, and all as w has them in the end.
pub record Goes (S : View) (n : ℕ) (told : Delivered) (v w : Nodes) (p : Pending) (x : Node) (s : Scene) : Type 0 where
  pub here : NodeSo S s.moments n p x
  pub there : (k : ℕ) → k ≢ n → NodeSo S s.moments k None (v.node k)
  pub hand : HandSo s.moments n told
  pub nodes : s.nodes ≡ w

-- the node has gone on, in memory
pub goes_at : (S : View) (n : ℕ) (told : Delivered) (v w : Nodes) (p q : Pending) (x y : Node) (s : Scene) → NodeSo S s.moments n q y → Goes S n told v w p x s
    → Goes S n told v w q y s
goes_at S n told v w p q x y s here k = record { here = here; there = k.there; hand = k.hand; nodes = k.nodes }

links_go : (S : View) (n : ℕ) (told : Delivered) (v w : Nodes) (p : Pending) (x : Node) (s : Scene) (l : Links) → Goes S n told v w p x s → Goes S n told v w p x (with_links s l)
links_go S n told v w p x s l k = record { here = k.here; there = k.there; hand = k.hand; nodes = k.nodes }

pub line_goes : (S : View) (n : ℕ) (told : Delivered) (v w : Nodes) (p q : Pending) (x y : Node) (s : Scene) (z : Entry) → arrived (Told z ∷ s.moments) ≡ arrived s.moments
    → ((k : ℕ) → k ≢ n → StillFor k z) → NodeSo S (Told z ∷ s.moments) n q y → Goes S n told v w p x s → Goes S n told v w q y (telling z s)
line_goes S n told v w p q x y s z same others here k = record {
  here = here;
  there = λ j ne. node_stays S s.moments (Told z) j None (v.node j) (still S s.moments j z (others j ne)) (k.there j ne);
  hand = hand_stays s.moments (Told z) n told same k.hand;
  nodes = k.nodes;
}

-- ---- lines that change nothing

abbrev pub MildNode : NodeEntry → Type 0
MildNode (note.Member e) = Unit {0}
MildNode note.Ticked = Unit {0}
MildNode _ = ⊥

abbrev pub MildCommand : PrCommand → Type 0
MildCommand (command.Write value) = Unit {0}
MildCommand _ = ⊥

abbrev pub MildDevice : DeviceEntry → Type 0
MildDevice (device_entry.Command m d done reply) = MildCommand done
MildDevice _ = Unit {0}

abbrev pub MildAttempt : AttemptEntry → Type 0
MildAttempt (tried.Begun e members) = ⊥
MildAttempt _ = Unit {0}

abbrev pub MildPacket : PacketEntry → Type 0
MildPacket (packet.Delivered p a m) = ⊥
MildPacket _ = Unit {0}

abbrev pub IsMild : Entry → Type 0
IsMild (entry.Node m e) = MildNode e
IsMild (entry.Device e) = MildDevice e
IsMild (entry.Attempt e) = MildAttempt e
IsMild (entry.Packet e) = MildPacket e
IsMild _ = Unit {0}

pub record Mild (e : Entry) : Type 0 where
  pub same : (ms : List Moment) → arrived (Told e ∷ ms) ≡ arrived ms
  pub still : (k : ℕ) → StillFor k e

mild_node : (m : ℕ) (e : NodeEntry) → MildNode e → Mild (entry.Node m e)
mild_node m note.Ticked is = record { same = λ ms. refl; still = λ k. tt }
mild_node m (note.Member q) is = record { same = λ ms. refl; still = λ k. tt }
mild_node m _ is = absurd is

mild_command : (m d : ℕ) (done : PrCommand) (reply : _) → MildCommand done → Mild (entry.Device (device_entry.Command m d done reply))
mild_command m d (command.Write value) reply is = record { same = λ ms. refl; still = λ k. tt }
mild_command m d _ reply is = absurd is

mild_device : (e : DeviceEntry) → MildDevice e → Mild (entry.Device e)
mild_device (device_entry.Command m d done reply) is = mild_command m d done reply is
mild_device (device_entry.Accepted q m d value) is = record { same = λ ms. refl; still = λ k. tt }
mild_device (device_entry.Refused m d value why) is = record { same = λ ms. refl; still = λ k. tt }

mild_attempt : (e : AttemptEntry) → MildAttempt e → Mild (entry.Attempt e)
mild_attempt (tried.Begun q members) is = absurd is
mild_attempt _ is = record { same = λ ms. refl; still = λ k. tt }

mild_packet : (e : PacketEntry) → MildPacket e → Mild (entry.Packet e)
mild_packet (packet.Delivered p a m) is = absurd is
mild_packet _ is = record { same = λ ms. refl; still = λ k. tt }

pub mild : (e : Entry) → IsMild e → Mild e
mild (entry.Node m e) is = mild_node m e is
mild (entry.Device e) is = mild_device e is
mild (entry.Attempt e) is = mild_attempt e is
mild (entry.Packet e) is = mild_packet e is
mild _ is = record { same = λ ms. refl; still = λ k. tt }

pub mild_goes : (S : View) (n : ℕ) (told : Delivered) (v w : Nodes) (p : Pending) (x : Node) (s : Scene) (z : Entry) → IsMild z → Goes S n told v w p x s
    → Goes S n told v w p x (telling z s)
mild_goes S n told v w p x s z is k =
    let m : Mild z = mild z is in
    line_goes S n told v w p p x x s z (m.same s.moments) (λ j ne. m.still j) (node_stays S s.moments (Told z) n p x (still S s.moments n z (m.still n)) k.here) k

-- ---- messages

dropped_goes : (S : View) (n : ℕ) (told : Delivered) (v w : Nodes) (p : Pending) (x : Node) (s : Scene) (o : Option (ℕ × DropCause)) → Goes S n told v w p x s
    → Goes S n told v w p x (dropped_so o s)
dropped_goes S n told v w p x s None k = k
dropped_goes S n told v w p x s (Some drop) k = mild_goes S n told v w p x s (entry.Packet (packet.Dropped drop.0 drop.1)) tt k

pub posting_goes : (S : View) (n : ℕ) (told : Delivered) (v w : Nodes) (p : Pending) (x : Node) (s : Scene) (to : ℕ) (m : Message) → Goes S n told v w p x s
    → Goes S n told v w p x (posting n to m s)
posting_goes S n told v w p x s to m k =
    let o : links.Outcome = sending s.links n to (spelling m) in
    let z : Entry = entry.Packet (packet.Sent s.links.next n to (name_of m.body) (spelling m)) in
    if_either (λ (t : Scene). Goes S n told v w p x t) (is_sent s.links m) (sent_as n to m o s) s
    (dropped_goes S n told v w p x (telling z (with_links s o.after)) o.sent.dropped
    (mild_goes S n told v w p x (with_links s o.after) z tt (links_go S n told v w p x s o.after k))) k

-- ---- outputs

-- lines that change nothing, and any messages
abbrev pub AreMild : List Output → Type 0
AreMild [] = Unit {0}
AreMild (Tells e ∷ os) = IsMild e × AreMild os
AreMild (Sends to b ∷ os) = AreMild os

pub outputs_go : (S : View) (n : ℕ) (told : Delivered) (v w : Nodes) (p : Pending) (x : Node) (os : List Output) (s : Scene) → AreMild os → Goes S n told v w p x s
    → Goes S n told v w p x (passing n os s)
outputs_go S n told v w p x [] s are k = k
outputs_go S n told v w p x (Tells z ∷ os) s are k = outputs_go S n told v w p x os (telling z s) are.1 (mild_goes S n told v w p x s z are.0 k)
outputs_go S n told v w p x (Sends to b ∷ os) s are k =
    outputs_go S n told v w p x os (posting n to (record { sender = n; body = b }) s) are (posting_goes S n told v w p x s to (record { sender = n; body = b }) k)

pub mild_append : (os more : List Output) → AreMild os → AreMild more → AreMild (os ++ more)
mild_append [] more k l = l
mild_append (Tells e ∷ os) more k l = (k.0, mild_append os more k.1 l)
mild_append (Sends to b ∷ os) more k l = mild_append os more k l
