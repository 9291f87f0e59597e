-- The number of the next packet does not fall.
use Rattle.std.specs.Prelude.{ℕ, ◌+◌, ◌≡◌, ◌≤◌, nat_lt, List, [], ◌∷◌, Option, None, Some}
use Rattle.std.proofs.Common.{refl, arith}
use Rattle.cl_base.specs.Limits.{most_packets}
use Rattle.cl_base.specs.declared.packet.DropCause.{DropCause}
use Rattle.cmm_attempt.proofs.Basics.{if_either}
use Rattle.interconnect.specs.Links as links
use Rattle.interconnect.specs.Links.{Links, appending, count_on, crowding, dropping, oldest_on, refusing, sending}
use Rattle.status_report.specs.declared.entry.Entry.TheVariants as entry
use Rattle.status_report.specs.declared.packet_entry.PacketEntry.TheVariants as packet
use Rattle.wire.specs.Spelling.{spelling}
use Rattle.wire.specs.declared.message.Message.{Message}
use Rattle.node_model.specs.declared.output.Output.{Output}
use Rattle.node_model.specs.declared.output.Output.TheVariants.{Sends, Tells}
use Rattle.world_model.specs.Sends.{is_sent, name_of}
use Rattle.run_history.specs.Scenes.{Scene, dropped_so, passing, posting, sent_as, telling, with_links}

pub no_less : (a : ℕ) → a ≤ a
no_less a = omega arith

one_more : (a : ℕ) → a ≤ a + 1
one_more a = omega arith

le_is : (a b k : ℕ) → k ≡ b → a ≤ b → a ≤ k
le_is a b k e h = omega (arith, e, h)

le_then : (a b k : ℕ) → a ≤ b → b ≤ k → a ≤ k
le_then a b k h j = omega (arith, h, j)

dropping_next : (net : Links) (number : ℕ) (o : Option ℕ) → (dropping net number o).after.next ≡ net.next
dropping_next net number None = refl
dropping_next net number (Some oldest) = refl

crowding_next : (net : Links) (number from to : ℕ) → (crowding net number from to).after.next ≡ net.next
crowding_next net number from to =
    if_either (λ (o : links.Outcome). o.after.next ≡ net.next) (nat_lt most_packets (count_on net.packets from to)) (dropping net number (oldest_on net.packets from to)) _
    (dropping_next net number (oldest_on net.packets from to)) refl

pub sending_next : (net : Links) (from to : ℕ) (bytes : List ℕ) → net.next ≤ (sending net from to bytes).after.next
sending_next net from to bytes =
    if_either (λ (o : links.Outcome). net.next ≤ o.after.next) _ (refusing net) (crowding (appending net from to bytes) net.next from to) (one_more net.next)
    (le_is net.next (net.next + 1) _ (crowding_next (appending net from to bytes) net.next from to) (one_more net.next))

dropped_next : (next : ℕ) (o : Option (ℕ × DropCause)) (s : Scene) → next ≤ s.links.next → next ≤ (dropped_so o s).links.next
dropped_next next None s h = h
dropped_next next (Some drop) s h = h

posting_next : (n to : ℕ) (m : Message) (s : Scene) → s.links.next ≤ (posting n to m s).links.next
posting_next n to m s =
    let o : links.Outcome = sending s.links n to (spelling m) in
    if_either (λ (z : Scene). s.links.next ≤ z.links.next) (is_sent s.links m) (sent_as n to m o s) s
    (dropped_next s.links.next o.sent.dropped (telling (entry.Packet (packet.Sent s.links.next n to (name_of m.body) (spelling m))) (with_links s o.after)) (sending_next s.links n to (spelling m))) (no_less s.links.next)

pub passing_next : (n : ℕ) (os : List Output) (s : Scene) → s.links.next ≤ (passing n os s).links.next
passing_next n [] s = no_less s.links.next
passing_next n (Tells e ∷ os) s = passing_next n os (telling e s)
passing_next n (Sends to b ∷ os) s =
    let t : Scene = posting n to (record { sender = n; body = b }) s in
    le_then s.links.next t.links.next (passing n os t).links.next (posting_next n to (record { sender = n; body = b }) s) (passing_next n os t)
