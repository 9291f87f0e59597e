-- The entries that each thing that happens adds, and which things are due for an event.
use Rattle.std.specs.Prelude.{ℕ, ◌-◌, ◌^◌, ◌≡◌, nat_lt, Bool, true, false, List, [], ◌∷◌, Option, None, Some, Result, Ok, Err, slice_get, if◌then◌else◌}
use Rattle.std.proofs.Common.{refl, sym, subst}
use Rattle.cl_base.specs.declared.method.Outcome as method
use Rattle.cl_base.specs.declared.packet.DropCause.TheVariants as drop
use Rattle.interconnect.specs.Links as links
use Rattle.interconnect.specs.Links.{Packet, oldest_on, packet_of, sending}
use Rattle.pgr_device.specs.Device.{Device}
use Rattle.pgr_device.specs.declared.command.PrCommand.{PrCommand}
use Rattle.pgr_device.specs.declared.command.PrCommand.TheVariants as command
use Rattle.schedule_text.specs.declared.event.Event.{Event}
use Rattle.schedule_text.specs.declared.event.Event.TheVariants as event
use Rattle.status_report.specs.declared.device_entry.DeviceEntry.TheVariants as device
use Rattle.status_report.specs.declared.device_entry.WriteRefusal.{WriteRefusal}
use Rattle.status_report.specs.declared.entry.Entry.{Entry}
use Rattle.status_report.specs.declared.entry.Entry.TheVariants as entry
use Rattle.status_report.specs.declared.packet_entry.PacketEntry.TheVariants as packet
use Rattle.status_report.specs.declared.schedule_entry.SkipCause.{SkipCause}
use Rattle.node_model.specs.Addresses.{refusal_at}
use Rattle.node_model.specs.Devices.{may_write_as}
use Rattle.node_model.specs.declared.cluster.Cluster.{Cluster}
use Rattle.node_model.specs.declared.input.Input.{Input}
use Rattle.node_model.specs.declared.input.Input.TheVariants as input
use Rattle.node_model.specs.declared.node.Node.{Node}
use Rattle.node_model.specs.declared.node.Node.TheVariants.{Down, Up}
use Rattle.node_model.specs.declared.node.UpNode.{UpNode}
use Rattle.refinement.specs.Runs.{moved}
use Rattle.refinement.specs.Runs.Move.{Takes as Takes_in}
use Rattle.world_model.specs.Devices.{due_at}
use Rattle.world_model.specs.Lines.{monitors}
use Rattle.run_history.specs.Happenings.{Happening, commanded, commanded_at, given_by, happened, removed, taking}
use Rattle.run_history.specs.Happenings.Happening.{Arrives, Begins, Commands, Loses, Misses, Notes, Refuses, Repeats, Speaks, Strays, Takes, Writes}
use Rattle.run_history.specs.Scenes.{Scene, dropped_so, telling, with_links}
use Rattle.run_history.specs.Shapes.{IsThis, Want, asking, booting, brings, coming_to, commanding, if_up, of_oldest, of_packet, probing, writing}
use Rattle.run_history.specs.Shapes as want
use Rattle.run_lines.specs.Entries.{IsOfEvent}
use Rattle.run_lines.proofs.Adds.{Adds, adds_drop, adds_first, adds_one, adds_passing}
use Rattle.run_lines.proofs.Outputs.{gives_entries}
use Rattle.run_lines.specs.writes.Written.{IsAlone}

-- ---- entries

taken_adds : (c : Cluster) (n now : ℕ) (ends : method.Outcome) (i : Input) (s : Scene) → Adds s.moments (taking c n now ends i s).moments
taken_adds c n now ends i s =
    adds_passing n (given_by c n now ends i s.nodes) (record s { nodes = moved c s.nodes (Takes_in n now ends i) })
    (gives_entries c n now ends (s.nodes.node n) (s.nodes.disk n) i)

-- what is done at a device is not told by itself
done_same : (s : Scene) (n d : ℕ) (o : Option Device) (k : PrCommand) → (commanded_at s n d o k).scene.moments ≡ s.moments
done_same s n d None k = refl
done_same s n d (Some x) k = refl

done_adds : (c : Cluster) (s : Scene) (n d now : ℕ) (ends : method.Outcome) (k : PrCommand) (i : Input) → Adds s.moments (taking c n now ends i (commanded s n d k).scene).moments
done_adds c s n d now ends k i =
    subst (λ ms. Adds ms (taking c n now ends i (commanded s n d k).scene).moments) (done_same s n d (slice_get s.devices (d - 1)) k) (taken_adds c n now ends i (commanded s n d k).scene)

-- it begins no event, and ends no round
abbrev pub IsInEvent : Happening → Type 0
IsInEvent (Speaks e) = ⊥
IsInEvent (Begins e) = ⊥
IsInEvent (Notes e) = IsOfEvent (entry.Schedule e)
IsInEvent h = Unit {0}

pub happening_adds : (c : Cluster) (s : Scene) (h : Happening) → IsInEvent h → Adds s.moments (happened c s h).moments
happening_adds c s (Speaks e) is = absurd is
happening_adds c s (Begins e) is = absurd is
happening_adds c s (Notes e) is = adds_one (entry.Schedule e) s.moments is
happening_adds c s (Takes n now ends i) is = taken_adds c n now ends i s
happening_adds c s (Arrives number x m now ends) is =
    let e : Entry = entry.Packet (packet.Delivered number x.from x.to) in
    let u : Scene = telling e (removed s number) in
    adds_first e s.moments (taking c x.to now ends (input.Packet x.from m) u).moments tt (taken_adds c x.to now ends (input.Packet x.from m) u)
happening_adds c s (Strays number x) is = adds_one (entry.Packet (packet.Delivered number x.from x.to)) s.moments tt
happening_adds c s (Misses number x) is = adds_one (entry.Packet (packet.Dropped number drop.Down)) s.moments tt
happening_adds c s (Loses number x) is = adds_one (entry.Packet (packet.Lost number)) s.moments tt
happening_adds c s (Repeats number x) is =
    let o : links.Outcome = sending s.links x.from x.to x.bytes in
    let e : Entry = entry.Packet (packet.Repeated number s.links.next) in
    let u : Scene = telling e (with_links s o.after) in
    adds_first e s.moments (dropped_so o.sent.dropped u).moments tt (adds_drop o.sent.dropped u)
happening_adds c s (Commands n d k now ends) is = done_adds c s n d now ends k (input.Answered (commanded s n d k).answer)
happening_adds c s (Writes n d value now ends) is = done_adds c s n d now ends (command.Write value) (input.Wrote d value (commanded s n d (command.Write value)).answer)
happening_adds c s (Refuses n d value why) is = adds_one (entry.Device (device.Refused n d value why)) s.moments tt

-- what is due is of an event
pub due_in_event : (w : Want) (wants : List Want) (h : Happening) → IsThis w h → IsAlone (w ∷ wants) → IsInEvent h
due_in_event (want.Note e) wants (Notes f) is alone = subst (λ z. IsOfEvent (entry.Schedule z)) (sym is) alone.0
due_in_event (want.Take n i) wants (Takes m now ends j) is alone = tt
due_in_event (want.Deliver number x) wants (Arrives j y m now ends) is alone = tt
due_in_event (want.Deliver number x) wants (Strays j y) is alone = tt
due_in_event (want.Miss number x) wants (Misses j y) is alone = tt
due_in_event (want.Lose number x) wants (Loses j y) is alone = tt
due_in_event (want.Repeat number x) wants (Repeats j y) is alone = tt
due_in_event (want.Command n) wants (Commands m d q now ends) is alone = tt
due_in_event (want.Write n d value) wants (Writes m e v now ends) is alone = tt
due_in_event (want.Refuse n d value why) wants (Refuses m e v w) is alone = tt
due_in_event _ wants _ is alone = absurd is

-- ---- what an event brings comes alone

boot_alone : (n : ℕ) (z : Node) → IsAlone (booting n z)
boot_alone n Down = refl
boot_alone n (Up x) = (tt, refl)

up_alone : (z : Node) (f : UpNode → List Want) → ((x : UpNode) → IsAlone (f x)) → IsAlone (if_up z f)
up_alone Down f all = (tt, refl)
up_alone (Up x) f all = all x

command_alone : (n : ℕ) (o : Option (ℕ × PrCommand)) → IsAlone (commanding n o)
command_alone n None = (tt, refl)
command_alone n (Some due) = refl

write_alone : (n d value : ℕ) (r : Result ℕ WriteRefusal) → IsAlone (writing n d value r)
write_alone n d value (Ok e) = refl
write_alone n d value (Err why) = refl

probe_alone : (n : ℕ) (resource : List ℕ) (good b : Bool) → IsAlone (probing n resource good b)
probe_alone n resource good true = refl
probe_alone n resource good false = (tt, refl)

client_alone : (n : ℕ) (address : List ℕ) (client port : ℕ) (o : Option SkipCause) → IsAlone (asking n (input.Client address client port) o)
client_alone n address client port None = refl
client_alone n address client port (Some why) = (tt, refl)

packet_alone : (o : Option Packet) (f : Packet → List Want) → ((x : Packet) → IsAlone (f x)) → IsAlone (of_packet o f)
packet_alone None f all = (tt, refl)
packet_alone (Some x) f all = all x

link_alone : (o : Option ℕ) (f : ℕ → List Want) → ((k : ℕ) → IsAlone (f k)) → IsAlone (of_oldest o f)
link_alone None f all = (tt, refl)
link_alone (Some k) f all = all k

coming_alone : (z : Node) (number : ℕ) (x : Packet) → IsAlone (coming_to z number x)
coming_alone Down number x = refl
coming_alone (Up y) number x = refl

copy_alone : (b : Bool) (number : ℕ) (x : Packet) → IsAlone (if b then want.Repeat number x ∷ [] else [])
copy_alone true number x = refl
copy_alone false number x = tt

pub brings_alone : (c : Cluster) (s : Scene) (e : Event) → IsAlone (brings c s e)
brings_alone c s (event.Boot n) = boot_alone n (s.nodes.node n)
brings_alone c s (event.Crash n) = up_alone (s.nodes.node n) (λ x. want.Take n input.Crash ∷ []) (λ x. refl)
brings_alone c s (event.CrashAt n calls choice) = (tt, refl)
brings_alone c s (event.Tick n) = up_alone (s.nodes.node n) (λ x. want.Take n input.Tick ∷ []) (λ x. refl)
brings_alone c s (event.Disk n) = up_alone (s.nodes.node n) (λ x. commanding n (due_at (Some (s.nodes.node n)))) (λ x. command_alone n (due_at (Some (s.nodes.node n))))
brings_alone c s (event.Fault n d done) = (tt, refl)
brings_alone c s (event.Write n d value) = up_alone (s.nodes.node n) (λ x. writing n d value (may_write_as c n d x.seat)) (λ x. write_alone n d value (may_write_as c n d x.seat))
brings_alone c s (event.Command n words) = up_alone (s.nodes.node n) (λ x. want.Take n (input.Commanded words) ∷ []) (λ x. refl)
brings_alone c s (event.Outcome n resource method outcome) = (tt, refl)
brings_alone c s (event.Probe n resource good) =
    up_alone (s.nodes.node n) (λ x. probing n resource good (monitors resource (Some (s.nodes.node n)))) (λ x. probe_alone n resource good (monitors resource (Some (s.nodes.node n))))
brings_alone c s (event.Client n address client port) =
    up_alone (s.nodes.node n) (λ x. asking n (input.Client address client port) (refusal_at c address (s.nodes.node n)))
    (λ x. client_alone n address client port (refusal_at c address (s.nodes.node n)))
brings_alone c s (event.Clock second) = (tt, refl)
brings_alone c s (event.Deliver number) = packet_alone (packet_of s.links.packets number) (λ x. coming_to (s.nodes.node x.to) number x) (λ x. coming_alone (s.nodes.node x.to) number x)
brings_alone c s (event.Lose number) = packet_alone (packet_of s.links.packets number) (λ x. want.Lose number x ∷ []) (λ x. refl)
brings_alone c s (event.Repeat number) =
    packet_alone (packet_of s.links.packets number) (λ x. if nat_lt s.links.next (2 ^ 63) then want.Repeat number x ∷ [] else []) (λ x. copy_alone (nat_lt s.links.next (2 ^ 63)) number x)
brings_alone c s (event.Next a b) =
    link_alone (oldest_on s.links.packets a b) (λ k. of_packet (packet_of s.links.packets k) (λ x. coming_to (s.nodes.node x.to) k x))
    (λ k. packet_alone (packet_of s.links.packets k) (λ x. coming_to (s.nodes.node x.to) k x) (λ x. coming_alone (s.nodes.node x.to) k x))
brings_alone c s (event.Drop a b) =
    link_alone (oldest_on s.links.packets a b) (λ k. of_packet (packet_of s.links.packets k) (λ x. want.Lose k x ∷ []))
    (λ k. packet_alone (packet_of s.links.packets k) (λ x. want.Lose k x ∷ []) (λ x. refl))
brings_alone c s (event.Again a b) =
    link_alone (oldest_on s.links.packets a b) (λ k. of_packet (packet_of s.links.packets k) (λ x. if nat_lt s.links.next (2 ^ 63) then want.Repeat k x ∷ [] else []))
    (λ k. packet_alone (packet_of s.links.packets k) (λ x. if nat_lt s.links.next (2 ^ 63) then want.Repeat k x ∷ [] else []) (λ x. copy_alone (nat_lt s.links.next (2 ^ 63)) k x))
brings_alone c s (event.Rounds count nodes) = tt
