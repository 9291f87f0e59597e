-- What is in flight: each Install goes to a member.
use Rattle.std.specs.Prelude.{ℕ, ◌≡◌, ◌≤◌, ◌==◌, nat_le, nat_lt, not, true, List, [], ◌∷◌, length, Option, None, Some}
use Rattle.std.specs.List.{AllByRecursion}
use Rattle.std.proofs.Common.{refl, sym, subst, ◌∙◌, arith}
use Rattle.attempt_laws.proofs.Walk.{if_with}
use Rattle.cl_base.specs.declared.packet.DropCause.{DropCause}
use Rattle.cmm_attempt.proofs.Basics.{and_cases, if_either, same_some}
use Rattle.interconnect.specs.Links as links
use Rattle.interconnect.specs.Links.{Links, Packet, appending, count_on, crowding, dropping, free_cells_of, oldest_on, refusing, removing, sending}
use Rattle.node_model.specs.declared.cluster.Cluster.{Cluster}
use Rattle.node_model.specs.declared.output.Output.{Output}
use Rattle.node_model.specs.declared.output.Output.TheVariants.{Sends, Tells}
use Rattle.refinement.proofs.node_widths.Lengths.{sent_messages_fit}
use Rattle.refinement.proofs.Worlds.{all_append, all_filter}
use Rattle.run_history.specs.Scenes.{Scene, dropped_so, passing, posting, sent_as, telling, with_links}
use Rattle.run_messages.specs.Outputs.{AreGood, IsGood}
use Rattle.status_report.specs.declared.entry.Entry.TheVariants as entry
use Rattle.status_report.specs.declared.packet_entry.PacketEntry.TheVariants as packet
use Rattle.wire.proofs.Messages.{whole_again}
use Rattle.wire.specs.Spelling.{Fits, spelling}
use Rattle.wire.specs.declared.message.Body.{Body}
use Rattle.wire.specs.declared.message.Message.{Message}
use Rattle.world_model.specs.Sends.{is_sent, name_of}
use Rattle.run_packets.specs.admitted.Known.{AllKnown, BodyTo, PacketTo}

abbrev pub Flying : Links → Type 0
Flying l = AllByRecursion PacketTo l.packets

pub removing_flying : (l : Links) (number : ℕ) → Flying l → Flying (removing l number)
removing_flying l number h = all_filter PacketTo (λ (p : Packet). not (p.number == number)) l.packets h

dropping_flying : (l : Links) (number : ℕ) (o : Option ℕ) → Flying l → Flying (dropping l number o).after
dropping_flying l number None h = h
dropping_flying l number (Some oldest) h = removing_flying l oldest h

abbrev After : links.Outcome → Type 0
After o = Flying o.after

crowding_flying : (l : Links) (number from to : ℕ) → Flying l → After (crowding l number from to)
crowding_flying l number from to h =
    if_either After (nat_lt _ (count_on l.packets from to)) (dropping l number (oldest_on l.packets from to)) _ (dropping_flying l number (oldest_on l.packets from to) h) h

pub sending_flying : (l : Links) (from to : ℕ) (bytes : List ℕ) → Flying l → PacketTo (record { number = l.next; from = from; to = to; bytes = bytes })
    → Flying (sending l from to bytes).after
sending_flying l from to bytes h new =
    if_either After (nat_lt (free_cells_of l) _) (refusing l) (crowding (appending l from to bytes) l.next from to) h
    (crowding_flying (appending l from to bytes) l.next from to (all_append PacketTo l.packets (record { number = l.next; from = from; to = to; bytes = bytes }) h new))

-- ---- what a node gives

dropped_flying : (o : Option (ℕ × DropCause)) (s : Scene) → Flying s.links → Flying (dropped_so o s).links
dropped_flying None s h = h
dropped_flying (Some drop) s h = h

size : (k : ℕ) → nat_le k 131072 ≡ true → k ≤ 131072
size k e = grind arith

posting_flying : (n to : ℕ) (b : Body) (s : Scene) → IsGood n (Sends to b) → BodyTo to b → Flying s.links
    → Flying (posting n to (record { sender = n; body = b }) s).links
posting_flying n to b s good is h =
    let m : Message = record { sender = n; body = b } in
    let o : links.Outcome = sending s.links n to (spelling m) in
    if_with (λ (t : Scene). Flying t.links) (is_sent s.links m) (is_sent s.links m) (sent_as n to m o s) s refl
    (λ e.
    let fits : Fits m = sent_messages_fit m good.0 good.1 (size (length (spelling m)) (and_cases _ _ e).0) in
    dropped_flying o.sent.dropped (telling (entry.Packet (packet.Sent s.links.next n to (name_of m.body) (spelling m))) (with_links s o.after))
    (sending_flying s.links n to (spelling m) h (λ other read. subst (λ (z : Message). BodyTo to z.body) (same_some m other (sym (whole_again m fits) ∙ read)) is)))
    (λ e. h)

pub passing_flying : (c : Cluster) (n : ℕ) (os : List Output) (s : Scene) → AreGood n os → AllKnown c os → Flying s.links → Flying (passing n os s).links
passing_flying c n [] s good named h = h
passing_flying c n (Tells e ∷ os) s good named h = passing_flying c n os (telling e s) good.1 named.1 h
passing_flying c n (Sends to b ∷ os) s good named h =
    passing_flying c n os (posting n to (record { sender = n; body = b }) s) good.1 named.1 (posting_flying n to b s good.0 named.0.1 h)
