-- What is due adds entries alone, and none of them is `rounds done`.
use Rattle.std.specs.Prelude.{ℕ, ◌^◌, nat_lt, Bool, true, false, List, [], ◌∷◌, Option, None, Some, Result, Ok, Err, is_some, if◌then◌else◌}
use Rattle.std.specs.List.{AllByRecursion}
use Rattle.std.proofs.Common.{sym, subst}
use Rattle.cl_base.specs.declared.packet.DropCause.TheVariants as drop
use Rattle.cmm_attempt.proofs.Basics.{if_either}
use Rattle.interconnect.specs.Links as net
use Rattle.interconnect.specs.Links.{Packet, oldest_on, packet_of, sending}
use Rattle.pgr_device.specs.declared.command.PrCommand.{PrCommand}
use Rattle.pgr_device.specs.declared.command.PrCommand.TheVariants as command
use Rattle.schedule_text.specs.declared.event.Event.{Event}
use Rattle.schedule_text.specs.declared.event.Event.TheVariants as event
use Rattle.status_report.specs.declared.device_entry.DeviceEntry.TheVariants as device
use Rattle.status_report.specs.declared.device_entry.WriteRefusal.{WriteRefusal}
use Rattle.status_report.specs.declared.entry.Entry.{Entry}
use Rattle.status_report.specs.declared.entry.Entry.TheVariants as entry
use Rattle.status_report.specs.declared.packet_entry.PacketEntry.TheVariants as packet
use Rattle.status_report.specs.declared.schedule_entry.SkipCause.{SkipCause}
use Rattle.node_model.specs.Addresses.{refusal_at}
use Rattle.node_model.specs.Devices.{may_write_as}
use Rattle.node_model.specs.declared.cluster.Cluster.{Cluster}
use Rattle.node_model.specs.declared.input.Input.{Input}
use Rattle.node_model.specs.declared.input.Input.TheVariants as input
use Rattle.node_model.specs.declared.node.Node.{Node}
use Rattle.node_model.specs.declared.node.Node.TheVariants.{Down, Up}
use Rattle.node_model.specs.declared.node.UpNode.{UpNode}
use Rattle.world_model.specs.Devices.{due_at}
use Rattle.world_model.specs.Lines.{monitors}
use Rattle.run_history.specs.Happenings.{Happening, commanded, happened, removed}
use Rattle.run_history.specs.Happenings.Happening.{Arrives, Commands, Loses, Misses, Notes, Refuses, Repeats, Strays, Takes, Writes}
use Rattle.run_history.specs.Scenes.{Scene, telling, with_links}
use Rattle.run_history.specs.Shapes.{IsThis, Want, asking, booting, brings, coming_to, commanding, if_up, of_oldest, of_packet, probing, still, taking_this, writing}
use Rattle.run_history.specs.Shapes as want
use Rattle.run_lines.specs.Entries.{IsOfEvent}
use Rattle.run_lines.proofs.Adds.{Adds, adds_drop, adds_first, adds_one}
use Rattle.run_lines.proofs.Steps.{done_adds, taken_adds}

-- what is told of it is an event's
abbrev pub IsOwnWant : Want → Type 0
IsOwnWant (want.Note e) = IsOfEvent (entry.Schedule e)
IsOwnWant _ = Unit {0}

abbrev pub AreOwn : List Want → Type 0
AreOwn wants = AllByRecursion IsOwnWant wants

-- ---- it adds entries

copy_adds : (c : Cluster) (s : Scene) (number : ℕ) (x : Packet) → Adds s.moments (happened c s (Repeats number x)).moments
copy_adds c s number x =
    let o : net.Outcome = sending s.links x.from x.to x.bytes in
    let e : Entry = entry.Packet (packet.Repeated number s.links.next) in
    let u : Scene = telling e (with_links s o.after) in
    adds_first e s.moments (happened c s (Repeats number x)).moments tt (adds_drop o.sent.dropped u)

pub want_adds : (c : Cluster) (s : Scene) (w : Want) (h : Happening) → IsThis w h → IsOwnWant w → Adds s.moments (happened c s h).moments
want_adds c s (want.Note e) (Notes f) is own = adds_one (entry.Schedule f) s.moments (subst (λ z. IsOfEvent (entry.Schedule z)) (sym is) own)
want_adds c s (want.Take n i) (Takes m now ends j) is own = taken_adds c m now ends j s
want_adds c s (want.Deliver number x) (Arrives j y m now ends) is own =
    let e : Entry = entry.Packet (packet.Delivered j y.from y.to) in
    adds_first e s.moments (happened c s (Arrives j y m now ends)).moments tt (taken_adds c y.to now ends (input.Packet y.from m) (telling e (removed s j)))
want_adds c s (want.Deliver number x) (Strays j y) is own = adds_one (entry.Packet (packet.Delivered j y.from y.to)) s.moments tt
want_adds c s (want.Miss number x) (Misses j y) is own = adds_one (entry.Packet (packet.Dropped j drop.Down)) s.moments tt
want_adds c s (want.Lose number x) (Loses j y) is own = adds_one (entry.Packet (packet.Lost j)) s.moments tt
want_adds c s (want.Repeat number x) (Repeats j y) is own = copy_adds c s j y
want_adds c s (want.Command n) (Commands m d k now ends) is own = done_adds c s m d now ends k (input.Answered (commanded s m d k).answer)
want_adds c s (want.Write n d value) (Writes m e v now ends) is own = done_adds c s m e now ends (command.Write v) (input.Wrote e v (commanded s m e (command.Write v)).answer)
want_adds c s (want.Refuse n d value why) (Refuses m e v w) is own = adds_one (entry.Device (device.Refused m e v w)) s.moments tt
want_adds c s _ _ is own = absurd is

-- ---- what an event brings

boot_own : (n : ℕ) (z : Node) → AreOwn (booting n z)
boot_own n Down = (tt, tt)
boot_own n (Up x) = (tt, tt)

up_own : (z : Node) (f : UpNode → List Want) → ((x : UpNode) → AreOwn (f x)) → AreOwn (if_up z f)
up_own Down f all = (tt, tt)
up_own (Up x) f all = all x

command_own : (n : ℕ) (o : Option (ℕ × PrCommand)) → AreOwn (commanding n o)
command_own n None = (tt, tt)
command_own n (Some due) = (tt, (tt, tt))

write_own : (n d value : ℕ) (r : Result ℕ WriteRefusal) → AreOwn (writing n d value r)
write_own n d value (Ok e) = (tt, tt)
write_own n d value (Err why) = (tt, tt)

probe_own : (n : ℕ) (resource : List ℕ) (good b : Bool) → AreOwn (probing n resource good b)
probe_own n resource good true = (tt, tt)
probe_own n resource good false = (tt, tt)

client_own : (n : ℕ) (i : Input) (o : Option SkipCause) → AreOwn (asking n i o)
client_own n i None = (tt, tt)
client_own n i (Some why) = (tt, tt)

packet_own : (o : Option Packet) (f : Packet → List Want) → ((x : Packet) → AreOwn (f x)) → AreOwn (of_packet o f)
packet_own None f all = (tt, tt)
packet_own (Some x) f all = all x

link_own : (o : Option ℕ) (f : ℕ → List Want) → ((k : ℕ) → AreOwn (f k)) → AreOwn (of_oldest o f)
link_own None f all = (tt, tt)
link_own (Some k) f all = all k

coming_own : (z : Node) (number : ℕ) (x : Packet) → AreOwn (coming_to z number x)
coming_own Down number x = (tt, tt)
coming_own (Up y) number x = (tt, tt)

copy_own : (b : Bool) (number : ℕ) (x : Packet) → AreOwn (if b then want.Repeat number x ∷ [] else [])
copy_own true number x = (tt, tt)
copy_own false number x = tt

pub brought_own : (c : Cluster) (s : Scene) (e : Event) → AreOwn (brings c s e)
brought_own c s (event.Boot n) = boot_own n (s.nodes.node n)
brought_own c s (event.Crash n) = up_own (s.nodes.node n) (λ x. taking_this n input.Crash) (λ x. (tt, tt))
brought_own c s (event.CrashAt n calls choice) = (tt, tt)
brought_own c s (event.Tick n) = up_own (s.nodes.node n) (λ x. taking_this n input.Tick) (λ x. (tt, tt))
brought_own c s (event.Disk n) = up_own (s.nodes.node n) (λ x. commanding n (due_at (Some (s.nodes.node n)))) (λ x. command_own n (due_at (Some (s.nodes.node n))))
brought_own c s (event.Fault n d done) = (tt, tt)
brought_own c s (event.Write n d value) = up_own (s.nodes.node n) (λ x. writing n d value (may_write_as c n d x.seat)) (λ x. write_own n d value (may_write_as c n d x.seat))
brought_own c s (event.Command n words) = up_own (s.nodes.node n) (λ x. taking_this n (input.Commanded words)) (λ x. (tt, tt))
brought_own c s (event.Outcome n resource method outcome) = (tt, tt)
brought_own c s (event.Probe n resource good) =
    up_own (s.nodes.node n) (λ x. probing n resource good (monitors resource (Some (s.nodes.node n)))) (λ x. probe_own n resource good (monitors resource (Some (s.nodes.node n))))
brought_own c s (event.Client n address client port) =
    up_own (s.nodes.node n) (λ x. asking n (input.Client address client port) (refusal_at c address (s.nodes.node n)))
    (λ x. client_own n (input.Client address client port) (refusal_at c address (s.nodes.node n)))
brought_own c s (event.Clock second) = (tt, tt)
brought_own c s (event.Deliver number) =
    packet_own (packet_of s.links.packets number) (λ x. coming_to (s.nodes.node x.to) number x) (λ x. coming_own (s.nodes.node x.to) number x)
brought_own c s (event.Lose number) = packet_own (packet_of s.links.packets number) (λ x. want.Lose number x ∷ []) (λ x. (tt, tt))
brought_own c s (event.Repeat number) =
    packet_own (packet_of s.links.packets number) (λ x. if nat_lt s.links.next (2 ^ 63) then want.Repeat number x ∷ [] else []) (λ x. copy_own (nat_lt s.links.next (2 ^ 63)) number x)
brought_own c s (event.Next a b) =
    link_own (oldest_on s.links.packets a b) (λ k. of_packet (packet_of s.links.packets k) (λ x. coming_to (s.nodes.node x.to) k x))
    (λ k. packet_own (packet_of s.links.packets k) (λ x. coming_to (s.nodes.node x.to) k x) (λ x. coming_own (s.nodes.node x.to) k x))
brought_own c s (event.Drop a b) =
    link_own (oldest_on s.links.packets a b) (λ k. of_packet (packet_of s.links.packets k) (λ x. want.Lose k x ∷ []))
    (λ k. packet_own (packet_of s.links.packets k) (λ x. want.Lose k x ∷ []) (λ x. (tt, tt)))
brought_own c s (event.Again a b) =
    link_own (oldest_on s.links.packets a b) (λ k. of_packet (packet_of s.links.packets k) (λ x. if nat_lt s.links.next (2 ^ 63) then want.Repeat k x ∷ [] else []))
    (λ k. packet_own (packet_of s.links.packets k) (λ x. if nat_lt s.links.next (2 ^ 63) then want.Repeat k x ∷ [] else []) (λ x. copy_own (nat_lt s.links.next (2 ^ 63)) k x))
brought_own c s (event.Rounds count nodes) = tt

pub still_own : (s : Scene) (wants : List Want) → AreOwn wants → AreOwn (still s wants)
still_own s [] h = tt
still_own s (want.Command n ∷ wants) h = if_either AreOwn (is_some (due_at (Some (s.nodes.node n)))) (want.Command n ∷ wants) wants h h.1
still_own s (w ∷ wants) h = h
