-- What packet lines leave of the links.
use Rattle.std.specs.Prelude.{ℕ, ◌≡◌, ◌==◌, nat_lt, Bool, true, false, List, [], ◌∷◌, Option, None, Some, option_map, if◌then◌else◌}
use Rattle.std.proofs.Common.{refl, sym, ap, ◌∙◌}
use Rattle.cl_base.specs.declared.packet.DropCause.{DropCause}
use Rattle.cl_base.specs.declared.packet.DropCause.TheVariants as drop
use Rattle.cmm_attempt.proofs.Basics.{if_either, none_some, same_number, same_some}
use Rattle.interconnect.specs.Links as net
use Rattle.interconnect.specs.Links.{Packet, appending, count_on, crowding, dropping, free_cells_of, oldest_on, packet_of, refusing, removing, resending, sending}
use Rattle.status_report.specs.declared.entry.Entry.{Entry}
use Rattle.status_report.specs.declared.entry.Entry.TheVariants as entry
use Rattle.status_report.specs.declared.packet_entry.PacketEntry.TheVariants as packet
use Rattle.wire.specs.declared.message.Message.{Message}
use Rattle.wire.specs.Spelling.{spelling}
use Rattle.history.specs.Links.{Links, copy_drops, drop_due, ends_of, in_flight, links_after}
use Rattle.history.specs.Moment.{Moment}
use Rattle.world_model.specs.Sends.{is_sent, name_of}
use Rattle.run_history.specs.Happenings.{copying, removed}
use Rattle.run_history.specs.Scenes.{Scene, dropped_so, posting, sent_as, telling, with_links}

-- These lines leave these links, and this packet is to be dropped next, if one is.
pub record Owes (cells : ℕ) (links : net.Links) (moments : List Moment) (o : Option (ℕ × DropCause)) : Type 0 where
  pub left : links ≡ links_after cells moments
  pub due : drop_due cells moments ≡ o
  pub run : Links cells moments

abbrev pub Linked : ℕ → Scene → Type 0
Linked cells s = Owes cells s.links s.moments None

-- A line about no packet.

abbrev pub NotPacket : Entry → Type 0
NotPacket (entry.Packet e) = ⊥
NotPacket _ = Unit {0}

pub told_linked : (cells : ℕ) (s : Scene) (e : Entry) → NotPacket e → Linked cells s → Linked cells (telling e s)
told_linked cells s (entry.Packet e) q h = absurd q
told_linked cells s (entry.Answered e) q h = record { left = h.left; due = refl; run = ((tt, sym h.due), h.run) }
told_linked cells s entry.Powered q h = record { left = h.left; due = refl; run = ((tt, sym h.due), h.run) }
told_linked cells s (entry.Node n e) q h = record { left = h.left; due = refl; run = ((tt, sym h.due), h.run) }
told_linked cells s (entry.Device e) q h = record { left = h.left; due = refl; run = ((tt, sym h.due), h.run) }
told_linked cells s (entry.Attempt e) q h = record { left = h.left; due = refl; run = ((tt, sym h.due), h.run) }
told_linked cells s (entry.Start e) q h = record { left = h.left; due = refl; run = ((tt, sym h.due), h.run) }
told_linked cells s (entry.Update e) q h = record { left = h.left; due = refl; run = ((tt, sym h.due), h.run) }
told_linked cells s (entry.Call e) q h = record { left = h.left; due = refl; run = ((tt, sym h.due), h.run) }
told_linked cells s (entry.Command e) q h = record { left = h.left; due = refl; run = ((tt, sym h.due), h.run) }
told_linked cells s (entry.Status e) q h = record { left = h.left; due = refl; run = ((tt, sym h.due), h.run) }
told_linked cells s (entry.Address e) q h = record { left = h.left; due = refl; run = ((tt, sym h.due), h.run) }
told_linked cells s (entry.Schedule e) q h = record { left = h.left; due = refl; run = ((tt, sym h.due), h.run) }

-- A packet that is dropped for want of room.

abbrev IsForRoom : DropCause → Type 0
IsForRoom drop.Link = Unit {0}
IsForRoom drop.Pool = Unit {0}
IsForRoom drop.Down = ⊥

abbrev ForRoom : Option (ℕ × DropCause) → Type 0
ForRoom None = Unit {0}
ForRoom (Some x) = IsForRoom x.1

dropping_room : (l : net.Links) (number : ℕ) (o : Option ℕ) → ForRoom (dropping l number o).sent.dropped
dropping_room l number None = tt
dropping_room l number (Some oldest) = tt

sending_room : (l : net.Links) (from to : ℕ) (bytes : List ℕ) → ForRoom (sending l from to bytes).sent.dropped
sending_room l from to bytes =
    let a : net.Links = appending l from to bytes in
    if_either (λ (o : net.Outcome). ForRoom o.sent.dropped) (nat_lt (free_cells_of l) _) (refusing l) (crowding a l.next from to) tt
    (if_either (λ (o : net.Outcome). ForRoom o.sent.dropped) (nat_lt _ (count_on a.packets from to)) (dropping a l.next (oldest_on a.packets from to)) _
    (dropping_room a l.next (oldest_on a.packets from to)) tt)

by_cause : (cells : ℕ) (s : Scene) (p : ℕ) (why : DropCause) → IsForRoom why → Owes cells s.links s.moments (Some (p, why))
    → Linked cells (telling (entry.Packet (packet.Dropped p why)) s)
by_cause cells s p drop.Link is h = record { left = h.left; due = refl; run = ((tt, sym h.due), h.run) }
by_cause cells s p drop.Pool is h = record { left = h.left; due = refl; run = ((tt, sym h.due), h.run) }
by_cause cells s p drop.Down is h = absurd is

dropped_linked : (cells : ℕ) (s : Scene) (o : Option (ℕ × DropCause)) → ForRoom o → Owes cells s.links s.moments o → Linked cells (dropped_so o s)
dropped_linked cells s None room h = h
dropped_linked cells s (Some x) room h = by_cause cells s x.0 x.1 room h

-- A packet is sent.

sent_linked : (cells : ℕ) (from to : ℕ) (m : Message) (s : Scene) → Linked cells s → Linked cells (sent_as from to m (sending s.links from to (spelling m)) s)
sent_linked cells from to m s h =
    let o : net.Outcome = sending s.links from to (spelling m) in
    dropped_linked cells (telling (entry.Packet (packet.Sent s.links.next from to (name_of m.body) (spelling m))) (with_links s o.after)) o.sent.dropped
    (sending_room s.links from to (spelling m)) (record {
      left = ap (λ l. (sending l from to (spelling m)).after) h.left;
      due = ap (λ l. (sending l from to (spelling m)).sent.dropped) (sym h.left);
      run = ((ap (λ (l : net.Links). l.next) h.left, sym h.due), h.run);
    })

pub posted_linked : (cells : ℕ) (from to : ℕ) (m : Message) (s : Scene) → Linked cells s → Linked cells (posting from to m s)
posted_linked cells from to m s h =
    if_either (Linked cells) (is_sent s.links m) (sent_as from to m (sending s.links from to (spelling m)) s) s (sent_linked cells from to m s h) h

-- A packet in flight.

numbered_so : (ps : List Packet) (number : ℕ) (x : Packet) → packet_of ps number ≡ Some x → x.number ≡ number
numbered_so [] number x e = absurd (none_some x e)
numbered_so (p ∷ ps) number x e = by_test (p.number == number) refl e (numbered_so ps number x)
  where
    by_test : (b : Bool) → (p.number == number) ≡ b → (if b then Some p else packet_of ps number) ≡ Some x → (packet_of ps number ≡ Some x → x.number ≡ number) → x.number ≡ number
    by_test true is some rest = ap (λ (y : Packet). y.number) (sym (same_some p x some)) ∙ same_number p.number number is
    by_test false is some rest = rest some

-- the packet of this number is in flight by the lines, too
flies : (cells : ℕ) (s : Scene) (number : ℕ) (x : Packet) → Linked cells s → packet_of s.links.packets number ≡ Some x → in_flight cells number s.moments ≡ Some x
flies cells s number x h e = ap (λ (l : net.Links). packet_of l.packets number) (sym h.left) ∙ e

flies_so : (cells : ℕ) (s : Scene) (number : ℕ) (x : Packet) → Linked cells s → packet_of s.links.packets number ≡ Some x
    → option_map (λ (p : Packet). p.number) (in_flight cells number s.moments) ≡ Some number
flies_so cells s number x h e =
    ap (λ o. option_map (λ (p : Packet). p.number) o) (flies cells s number x h e) ∙ ap (λ k. Some k) (numbered_so s.links.packets number x e)

pub delivered_linked : (cells : ℕ) (s : Scene) (number : ℕ) (x : Packet) → Linked cells s → packet_of s.links.packets number ≡ Some x
    → Linked cells (telling (entry.Packet (packet.Delivered number x.from x.to)) (removed s number))
delivered_linked cells s number x h e = record {
  left = ap (λ l. removing l number) h.left;
  due = refl;
  run = ((ap (λ o. option_map ends_of o) (flies cells s number x h e), sym h.due), h.run);
}

pub missed_linked : (cells : ℕ) (s : Scene) (number : ℕ) (x : Packet) → Linked cells s → packet_of s.links.packets number ≡ Some x
    → Linked cells (telling (entry.Packet (packet.Dropped number drop.Down)) (removed s number))
missed_linked cells s number x h e =
    record { left = ap (λ l. removing l number) h.left; due = refl; run = ((flies_so cells s number x h e, sym h.due), h.run) }

pub lost_linked : (cells : ℕ) (s : Scene) (number : ℕ) (x : Packet) → Linked cells s → packet_of s.links.packets number ≡ Some x
    → Linked cells (telling (entry.Packet (packet.Lost number)) (removed s number))
lost_linked cells s number x h e =
    record { left = ap (λ l. removing l number) h.left; due = refl; run = ((flies_so cells s number x h e, sym h.due), h.run) }

pub repeated_linked : (cells : ℕ) (s : Scene) (number : ℕ) (x : Packet) → Linked cells s → packet_of s.links.packets number ≡ Some x
    → Linked cells (copying number (sending s.links x.from x.to x.bytes) s)
repeated_linked cells s number x h e =
    let o : net.Outcome = sending s.links x.from x.to x.bytes in
    let l : net.Links = links_after cells s.moments in
    let at : in_flight cells number s.moments ≡ Some x = flies cells s number x h e in
    dropped_linked cells (telling (entry.Packet (packet.Repeated number s.links.next)) (with_links s o.after)) o.sent.dropped (sending_room s.links x.from x.to x.bytes) (record {
      left = ap (λ k. (sending k x.from x.to x.bytes).after) h.left ∙ ap (resending l) (sym at);
      due = ap (copy_drops l) at ∙ ap (λ k. (sending k x.from x.to x.bytes).sent.dropped) (sym h.left);
      run = (((flies_so cells s number x h e, ap (λ (k : net.Links). k.next) h.left), sym h.due), h.run);
    })
