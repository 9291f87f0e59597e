-- The next packet number never falls.
use Rattle.std.specs.Prelude.{ℕ, ◌-◌, ◌≤◌, List, [], ◌∷◌, Option, None, Some, slice_get}
use Rattle.std.proofs.Common.{arith}
use Rattle.interconnect.specs.Links as net
use Rattle.interconnect.specs.Links.{sending}
use Rattle.cl_base.specs.declared.method.Outcome as method
use Rattle.node_model.specs.declared.cluster.Cluster.{Cluster}
use Rattle.node_model.specs.declared.input.Input.{Input}
use Rattle.node_model.specs.declared.input.Input.TheVariants as input
use Rattle.pgr_device.specs.Device.{Device}
use Rattle.pgr_device.specs.declared.command.PrCommand.{PrCommand}
use Rattle.pgr_device.specs.declared.command.PrCommand.TheVariants as command
use Rattle.refinement.specs.Runs.{moved}
use Rattle.refinement.specs.Runs.Move.{Takes as Takes_in}
use Rattle.schedule_text.specs.declared.event.Event.{Event}
use Rattle.schedule_text.specs.declared.event.Event.TheVariants as event
use Rattle.schedule_text.specs.declared.line.Line.TheVariants as line
use Rattle.status_report.specs.declared.entry.Entry.TheVariants as entry
use Rattle.status_report.specs.declared.packet_entry.PacketEntry.TheVariants as packet
use Rattle.history.specs.Moment.{Said}
use Rattle.run_history.specs.Happenings.{Arrives, Begins, Commands, Happening, Loses, Misses, Notes, Refuses, Repeats, Speaks, Strays, Takes, Writes, all_happened, armed_by, commanded, commanded_at, given_by, happened, removed, taking}
use Rattle.run_history.specs.Scenes.{Scene, adding, telling, with_links}
use Rattle.run_outcomes.proofs.asks.Lines.{dropped_next, passing_next, sending_next}

same : (a : ℕ) → a ≤ a
same a = omega arith

up : (a b c : ℕ) → a ≤ b → b ≤ c → a ≤ c
up a b c h k = omega (arith, h, k)

taking_next : (c : Cluster) (n now : ℕ) (ends : method.Outcome) (i : Input) (s : Scene) → s.links.next ≤ (taking c n now ends i s).links.next
taking_next c n now ends i s = passing_next n (given_by c n now ends i s.nodes) (record s { nodes = moved c s.nodes (Takes_in n now ends i) })

armed_next : (c : Cluster) (e : Event) (s : Scene) → s.links.next ≤ (armed_by c e (adding (Said (line.Event e)) s)).links.next
armed_next c (event.Fault n d done) s = same s.links.next
armed_next c (event.CrashAt n calls choice) s = same s.links.next
armed_next c _ s = same s.links.next

commanded_next : (c : Cluster) (s : Scene) (n d now : ℕ) (ends : method.Outcome) (i : Input) (q : PrCommand) (o : Option Device) → s.links.next ≤ (taking c n now ends i (commanded_at s n d o q).scene).links.next
commanded_next c s n d now ends i q None = taking_next c n now ends i (commanded_at s n d None q).scene
commanded_next c s n d now ends i q (Some x) = taking_next c n now ends i (commanded_at s n d (Some x) q).scene

happened_next : (c : Cluster) (s : Scene) (x : Happening) → s.links.next ≤ (happened c s x).links.next
happened_next c s (Speaks e) = armed_next c e s
happened_next c s (Begins e) = same s.links.next
happened_next c s (Notes e) = same s.links.next
happened_next c s (Takes n now ends i) = taking_next c n now ends i s
happened_next c s (Arrives number x m now ends) = taking_next c x.to now ends (input.Packet x.from m) (telling (entry.Packet (packet.Delivered number x.from x.to)) (removed s number))
happened_next c s (Strays number x) = same s.links.next
happened_next c s (Misses number x) = same s.links.next
happened_next c s (Loses number x) = same s.links.next
happened_next c s (Repeats number x) =
    let o : net.Outcome = sending s.links x.from x.to x.bytes in
    dropped_next s.links.next o.sent.dropped (telling (entry.Packet (packet.Repeated number s.links.next)) (with_links s o.after)) (sending_next s.links x.from x.to x.bytes)
happened_next c s (Commands n d q now ends) = commanded_next c s n d now ends (input.Answered (commanded s n d q).answer) q (slice_get s.devices (d - 1))
happened_next c s (Writes n d value now ends) = commanded_next c s n d now ends (input.Wrote d value (commanded s n d (command.Write value)).answer) (command.Write value) (slice_get s.devices (d - 1))
happened_next c s (Refuses n d value why) = same s.links.next

pub all_next : (c : Cluster) (s : Scene) (hs : List Happening) → s.links.next ≤ (all_happened c s hs).links.next
all_next c s [] = same s.links.next
all_next c s (x ∷ hs) = up s.links.next (happened c s x).links.next (all_happened c (happened c s x) hs).links.next (happened_next c s x) (all_next c (happened c s x) hs)
