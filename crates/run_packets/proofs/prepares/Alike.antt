-- What an event brings is one node's.
use Rattle.std.specs.Prelude.{ℕ, ◌^◌, nat_lt, Bool, true, false, List, [], ◌∷◌, Option, None, Some, Result, Ok, Err, if◌then◌else◌}
use Rattle.std.proofs.Common.{refl}
use Rattle.interconnect.specs.Links.{Packet, oldest_on, packet_of}
use Rattle.node_model.specs.Addresses.{refusal_at}
use Rattle.node_model.specs.Devices.{may_write_as}
use Rattle.node_model.specs.declared.cluster.Cluster.{Cluster}
use Rattle.node_model.specs.declared.input.Input.{Input}
use Rattle.node_model.specs.declared.input.Input.TheVariants as input
use Rattle.node_model.specs.declared.node.Node.{Node}
use Rattle.node_model.specs.declared.node.Node.TheVariants.{Down, Up}
use Rattle.node_model.specs.declared.node.UpNode.{UpNode}
use Rattle.pgr_device.specs.declared.command.PrCommand.{PrCommand}
use Rattle.schedule_text.specs.declared.event.Event.{Event}
use Rattle.schedule_text.specs.declared.event.Event.TheVariants as event
use Rattle.status_report.specs.declared.device_entry.WriteRefusal.{WriteRefusal}
use Rattle.status_report.specs.declared.schedule_entry.SkipCause.{SkipCause}
use Rattle.world_model.specs.Devices.{due_at}
use Rattle.world_model.specs.Lines.{monitors}
use Rattle.run_history.specs.Scenes.{Scene}
use Rattle.run_history.specs.Shapes.{Want, asking, booting, brings, coming_to, commanding, if_up, of_oldest, of_packet, probing, taking_this, writing}
use Rattle.run_history.specs.Shapes as want
use Rattle.run_packets.specs.prepares.Events.{Alike}

-- nothing is due, or it is the world's own
abbrev pub none_alike : Alike []
none_alike = record { node = 0; are = tt }

boot_alike : (n : ℕ) (z : Node) → Alike (booting n z)
boot_alike n Down = record { node = n; are = (refl, tt) }
boot_alike n (Up x) = record { node = n; are = (tt, tt) }

up_alike : (z : Node) (f : UpNode → List Want) → ((x : UpNode) → Alike (f x)) → Alike (if_up z f)
up_alike Down f all = record { node = 0; are = (tt, tt) }
up_alike (Up x) f all = all x

take_alike : (n : ℕ) (i : Input) → Alike (taking_this n i)
take_alike n i = record { node = n; are = (refl, tt) }

command_alike : (n : ℕ) (o : Option (ℕ × PrCommand)) → Alike (commanding n o)
command_alike n None = record { node = n; are = (tt, tt) }
command_alike n (Some due) = record { node = n; are = (refl, (refl, tt)) }

write_alike : (n d value : ℕ) (r : Result ℕ WriteRefusal) → Alike (writing n d value r)
write_alike n d value (Ok e) = record { node = n; are = (refl, tt) }
write_alike n d value (Err why) = record { node = n; are = (refl, tt) }

probe_alike : (n : ℕ) (resource : List ℕ) (good b : Bool) → Alike (probing n resource good b)
probe_alike n resource good true = record { node = n; are = (refl, tt) }
probe_alike n resource good false = record { node = n; are = (tt, tt) }

client_alike : (n : ℕ) (i : Input) (o : Option SkipCause) → Alike (asking n i o)
client_alike n i None = record { node = n; are = (refl, tt) }
client_alike n i (Some why) = record { node = n; are = (tt, tt) }

packet_alike : (o : Option Packet) (f : Packet → List Want) → ((x : Packet) → Alike (f x)) → Alike (of_packet o f)
packet_alike None f all = record { node = 0; are = (tt, tt) }
packet_alike (Some x) f all = all x

link_alike : (o : Option ℕ) (f : ℕ → List Want) → ((k : ℕ) → Alike (f k)) → Alike (of_oldest o f)
link_alike None f all = record { node = 0; are = (tt, tt) }
link_alike (Some k) f all = all k

coming_alike : (z : Node) (number : ℕ) (x : Packet) → Alike (coming_to z number x)
coming_alike Down number x = record { node = x.to; are = (tt, tt) }
coming_alike (Up y) number x = record { node = x.to; are = (refl, tt) }

copy_alike : (b : Bool) (number : ℕ) (x : Packet) → Alike (if b then want.Repeat number x ∷ [] else [])
copy_alike true number x = record { node = 0; are = (tt, tt) }
copy_alike false number x = none_alike

deliver_alike : (s : Scene) (k : ℕ) → Alike (of_packet (packet_of s.links.packets k) (λ x. coming_to (s.nodes.node x.to) k x))
deliver_alike s k = packet_alike (packet_of s.links.packets k) (λ x. coming_to (s.nodes.node x.to) k x) (λ x. coming_alike (s.nodes.node x.to) k x)

lose_alike : (s : Scene) (k : ℕ) → Alike (of_packet (packet_of s.links.packets k) (λ x. want.Lose k x ∷ []))
lose_alike s k = packet_alike (packet_of s.links.packets k) (λ x. want.Lose k x ∷ []) (λ x. record { node = 0; are = (tt, tt) })

repeat_alike : (s : Scene) (k : ℕ) → Alike (of_packet (packet_of s.links.packets k) (λ x. if nat_lt s.links.next (2 ^ 63) then want.Repeat k x ∷ [] else []))
repeat_alike s k =
    packet_alike (packet_of s.links.packets k) (λ x. if nat_lt s.links.next (2 ^ 63) then want.Repeat k x ∷ [] else []) (λ x. copy_alike (nat_lt s.links.next (2 ^ 63)) k x)

pub brings_alike : (c : Cluster) (s : Scene) (e : Event) → Alike (brings c s e)
brings_alike c s (event.Boot n) = boot_alike n (s.nodes.node n)
brings_alike c s (event.Crash n) = up_alike (s.nodes.node n) (λ x. taking_this n input.Crash) (λ x. take_alike n input.Crash)
brings_alike c s (event.CrashAt n calls choice) = record { node = n; are = (tt, tt) }
brings_alike c s (event.Tick n) = up_alike (s.nodes.node n) (λ x. taking_this n input.Tick) (λ x. take_alike n input.Tick)
brings_alike c s (event.Disk n) = up_alike (s.nodes.node n) (λ x. commanding n (due_at (Some (s.nodes.node n)))) (λ x. command_alike n (due_at (Some (s.nodes.node n))))
brings_alike c s (event.Fault n d done) = record { node = n; are = (tt, tt) }
brings_alike c s (event.Write n d value) = up_alike (s.nodes.node n) (λ x. writing n d value (may_write_as c n d x.seat)) (λ x. write_alike n d value (may_write_as c n d x.seat))
brings_alike c s (event.Command n words) = up_alike (s.nodes.node n) (λ x. taking_this n (input.Commanded words)) (λ x. take_alike n (input.Commanded words))
brings_alike c s (event.Outcome n resource method outcome) = record { node = n; are = (tt, tt) }
brings_alike c s (event.Probe n resource good) =
    up_alike (s.nodes.node n) (λ x. probing n resource good (monitors resource (Some (s.nodes.node n)))) (λ x. probe_alike n resource good (monitors resource (Some (s.nodes.node n))))
brings_alike c s (event.Client n address client port) =
    up_alike (s.nodes.node n) (λ x. asking n (input.Client address client port) (refusal_at c address (s.nodes.node n)))
    (λ x. client_alike n (input.Client address client port) (refusal_at c address (s.nodes.node n)))
brings_alike c s (event.Clock second) = record { node = 0; are = (tt, tt) }
brings_alike c s (event.Deliver number) = deliver_alike s number
brings_alike c s (event.Lose number) = lose_alike s number
brings_alike c s (event.Repeat number) = repeat_alike s number
brings_alike c s (event.Next a b) = link_alike (oldest_on s.links.packets a b) (λ k. of_packet (packet_of s.links.packets k) (λ x. coming_to (s.nodes.node x.to) k x)) (λ k. deliver_alike s k)
brings_alike c s (event.Drop a b) = link_alike (oldest_on s.links.packets a b) (λ k. of_packet (packet_of s.links.packets k) (λ x. want.Lose k x ∷ [])) (λ k. lose_alike s k)
brings_alike c s (event.Again a b) =
    link_alike (oldest_on s.links.packets a b) (λ k. of_packet (packet_of s.links.packets k) (λ x. if nat_lt s.links.next (2 ^ 63) then want.Repeat k x ∷ [] else []))
    (λ k. repeat_alike s k)
brings_alike c s (event.Rounds count nodes) = none_alike
