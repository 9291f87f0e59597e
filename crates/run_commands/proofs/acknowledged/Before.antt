-- What was so after each thing that happens was so before it: each acknowledgement is of what is in hand.
use Rattle.std.specs.Prelude.{ℕ, ◌-◌, Option, None, Some, slice_get}
use Rattle.interconnect.specs.Links as links
use Rattle.interconnect.specs.Links.{sending}
use Rattle.cl_base.specs.declared.method.Outcome as method
use Rattle.pgr_device.specs.Device.{Device}
use Rattle.pgr_device.specs.declared.command.PrCommand.{PrCommand}
use Rattle.pgr_device.specs.declared.command.PrCommand.TheVariants as command
use Rattle.schedule_text.specs.declared.event.Event.{Event}
use Rattle.schedule_text.specs.declared.event.Event.TheVariants as event
use Rattle.schedule_text.specs.declared.line.Line.TheVariants as line
use Rattle.status_report.specs.declared.entry.Entry.TheVariants as entry
use Rattle.status_report.specs.declared.packet_entry.PacketEntry.TheVariants as packet
use Rattle.history.specs.Moment.{Said}
use Rattle.node_model.specs.declared.cluster.Cluster.{Cluster}
use Rattle.node_model.specs.declared.input.Input.{Input}
use Rattle.node_model.specs.declared.input.Input.TheVariants as input
use Rattle.run_history.specs.Happenings.{Arrives, Begins, Commands, Happening, Loses, Misses, Notes, Refuses, Repeats, Speaks, Strays, Takes, Writes, armed_by, commanded, commanded_at, given_by, happened, removed, taking}
use Rattle.run_history.specs.Scenes.{Scene, adding, telling, with_links}
use Rattle.run_commands.proofs.acknowledged.Settled.{AcksArePending}
use Rattle.run_commands.proofs.acknowledged.Acks.{dropped_acks, passing_acks}

armed_acks : (c : Cluster) (e : Event) (s : Scene) → AcksArePending (armed_by c e s).moments → AcksArePending s.moments
armed_acks c (event.Fault n d done) s h = h
armed_acks c (event.CrashAt n calls choice) s h = h
armed_acks c _ s h = h

commanded_acks : (s : Scene) (n d : ℕ) (o : Option Device) (k : PrCommand) → AcksArePending (commanded_at s n d o k).scene.moments → AcksArePending s.moments
commanded_acks s n d None k h = h
commanded_acks s n d (Some x) k h = h

taking_acks : (c : Cluster) (n now : ℕ) (ends : method.Outcome) (i : Input) (s : Scene) → AcksArePending (taking c n now ends i s).moments → AcksArePending s.moments
taking_acks c n now ends i s h = passing_acks n (given_by c n now ends i s.nodes) _ h

pub acks_before : (c : Cluster) (s : Scene) (x : Happening) → AcksArePending (happened c s x).moments → AcksArePending s.moments
acks_before c s (Speaks e) h = (armed_acks c e (adding (Said (line.Event e)) s) h).1
acks_before c s (Begins e) h = h.1
acks_before c s (Notes e) h = h.1
acks_before c s (Takes n now ends i) h = taking_acks c n now ends i s h
acks_before c s (Arrives number x m now ends) h = (taking_acks c x.to now ends (input.Packet x.from m) (telling (entry.Packet (packet.Delivered number x.from x.to)) (removed s number)) h).1
acks_before c s (Strays number x) h = h.1
acks_before c s (Misses number x) h = h.1
acks_before c s (Loses number x) h = h.1
acks_before c s (Repeats number x) h =
    let o : links.Outcome = sending s.links x.from x.to x.bytes in
    (dropped_acks o.sent.dropped (telling (entry.Packet (packet.Repeated number s.links.next)) (with_links s o.after)) h).1
acks_before c s (Commands n d k now ends) h =
    commanded_acks s n d (slice_get s.devices (d - 1)) k (taking_acks c n now ends (input.Answered (commanded s n d k).answer) (commanded s n d k).scene h)
acks_before c s (Writes n d value now ends) h =
    commanded_acks s n d (slice_get s.devices (d - 1)) (command.Write value)
    (taking_acks c n now ends (input.Wrote d value (commanded s n d (command.Write value)).answer) (commanded s n d (command.Write value)).scene h)
acks_before c s (Refuses n d value cause) h = h.1
