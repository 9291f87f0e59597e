-- Packet numbers only rise.
use Rattle.std.specs.Prelude.{ℕ, ◌+◌, ◌≡◌, ◌≤◌, nat_lt, true, List, [], ◌∷◌, Option, None, Some}
use Rattle.std.proofs.Common.{refl, arith}
use Rattle.cl_base.specs.Limits.{most_packets}
use Rattle.cl_base.specs.declared.packet.DropCause.{DropCause}
use Rattle.cl_base.specs.declared.packet.DropCause.TheVariants.{Down}
use Rattle.cmm_attempt.proofs.Basics.{if_either}
use Rattle.history.specs.Links.{links_after}
use Rattle.history.specs.Messages.{onto}
use Rattle.history.specs.Moment.{Moment}
use Rattle.history.specs.Trace.{delivered, dropped, lost, repeated, sent}
use Rattle.interconnect.specs.Links as net
use Rattle.interconnect.specs.Links.{Links, Packet, appending, count_on, crowding, dropping, oldest_on, packet_of, refusing, sending}
use Rattle.node_model.specs.declared.output.Output.{Output}
use Rattle.node_model.specs.declared.output.Output.TheVariants.{Sends, Tells}
use Rattle.run_history.specs.Scenes.{Scene, dropped_so, passing, posting, sent_as, telling, with_links}
use Rattle.wire.specs.Spelling.{spelling}
use Rattle.wire.specs.declared.message.Message.{Message}
use Rattle.status_report.specs.declared.entry.Entry.TheVariants as entry
use Rattle.status_report.specs.declared.packet_entry.PacketEntry.TheVariants as packet
use Rattle.world_model.specs.Sends.{is_sent, name_of}

same : (a : ℕ) → a ≤ a
same a = omega arith

one_more : (a : ℕ) → a ≤ a + 1
one_more a = omega arith

le_is : (a b k : ℕ) → k ≡ b → a ≤ b → a ≤ k
le_is a b k e h = omega (arith, e, h)

up : (a b c : ℕ) → a ≤ b → b ≤ c → a ≤ c
up a b c h k = omega (arith, h, k)

-- where a number is left in the end, one was left before
pub left_before : (a b most : ℕ) → a ≤ b → nat_lt b most ≡ true → nat_lt a most ≡ true
left_before a b most h k = grind arith

-- ---- lines

dropping_next : (l : Links) (number : ℕ) (o : Option ℕ) → (dropping l number o).after.next ≡ l.next
dropping_next l number None = refl
dropping_next l number (Some oldest) = refl

crowding_next : (l : Links) (number from to : ℕ) → (crowding l number from to).after.next ≡ l.next
crowding_next l number from to =
    if_either (λ (o : net.Outcome). o.after.next ≡ l.next) (nat_lt most_packets (count_on l.packets from to)) (dropping l number (oldest_on l.packets from to)) _
    (dropping_next l number (oldest_on l.packets from to)) refl

pub sending_next : (l : Links) (from to : ℕ) (bytes : List ℕ) → l.next ≤ (sending l from to bytes).after.next
sending_next l from to bytes =
    if_either (λ (o : net.Outcome). l.next ≤ o.after.next) _ (refusing l) (crowding (appending l from to bytes) l.next from to) (one_more l.next)
    (le_is l.next (l.next + 1) _ (crowding_next (appending l from to bytes) l.next from to) (one_more l.next))

resent_next : (l : Links) (o : Option Packet) → l.next ≤ (net.resending l o).next
resent_next l None = same l.next
resent_next l (Some p) = sending_next l p.from p.to p.bytes

line_next : (cells : ℕ) (m : Moment) (ms : List Moment) → (links_after cells ms).next ≤ (links_after cells (m ∷ ms)).next
line_next cells (sent p a b message bytes) ms = sending_next (links_after cells ms) a b bytes
line_next cells (repeated p copy) ms = resent_next (links_after cells ms) (packet_of (links_after cells ms).packets p)
line_next cells (delivered p a b) ms = same (links_after cells ms).next
line_next cells (lost p) ms = same (links_after cells ms).next
line_next cells (dropped p Down) ms = same (links_after cells ms).next
line_next cells _ ms = same (links_after cells ms).next

pub lines_next : (cells : ℕ) (ms later : List Moment) → (links_after cells ms).next ≤ (links_after cells (onto ms later)).next
lines_next cells ms [] = same (links_after cells ms).next
lines_next cells ms (m ∷ later) =
    up (links_after cells ms).next (links_after cells (m ∷ ms)).next (links_after cells (onto (m ∷ ms) later)).next (line_next cells m ms) (lines_next cells (m ∷ ms) later)

-- ---- what a node gives

sent_next : (l : ℕ) (o : Option (ℕ × DropCause)) (s : Scene) → l ≤ s.links.next → l ≤ (dropped_so o s).links.next
sent_next l None s h = h
sent_next l (Some x) s h = h

pub posting_next : (n to : ℕ) (m : Message) (s : Scene) → s.links.next ≤ (posting n to m s).links.next
posting_next n to m s =
    let o : net.Outcome = sending s.links n to (spelling m) in
    if_either (λ (z : Scene). s.links.next ≤ z.links.next) (is_sent s.links m) (sent_as n to m o s) s
    (sent_next s.links.next o.sent.dropped (telling (entry.Packet (packet.Sent s.links.next n to (name_of m.body) (spelling m))) (with_links s o.after)) (sending_next s.links n to (spelling m))) (same s.links.next)

pub passing_next : (n : ℕ) (os : List Output) (s : Scene) → s.links.next ≤ (passing n os s).links.next
passing_next n [] s = same s.links.next
passing_next n (Tells e ∷ os) s = passing_next n os (telling e s)
passing_next n (Sends to b ∷ os) s =
    let m : Message = record { sender = n; body = b } in
    up s.links.next (posting n to m s).links.next (passing n os (posting n to m s)).links.next (posting_next n to m s) (passing_next n os (posting n to m s))
