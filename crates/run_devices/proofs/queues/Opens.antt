-- An event opens, and its entries are those of what it brings: each run holds a law of events where each line and each part does.
use Rattle.std.specs.Prelude.{ℕ, ◌≡◌, ◌^◌, nat_lt, Bool, true, false, List, [], ◌∷◌, Option, None, Some, Result, Ok, Err, if◌then◌else◌}
use Rattle.std.proofs.Common.{refl, sym, subst}
use Rattle.cl_base.specs.declared.header.Header.{Header}
use Rattle.pgr_device.specs.declared.command.PrCommand.{PrCommand}
use Rattle.schedule_text.specs.declared.event.Event.{Event}
use Rattle.schedule_text.specs.declared.event.Event.TheVariants as event
use Rattle.schedule_text.specs.declared.line.Line.TheVariants as line
use Rattle.status_report.specs.declared.device_entry.WriteRefusal.{WriteRefusal}
use Rattle.status_report.specs.declared.schedule_entry.ScheduleEntry.TheVariants as schedule
use Rattle.status_report.specs.declared.schedule_entry.SkipCause.{SkipCause}
use Rattle.interconnect.specs.Links.{Packet, oldest_on, packet_of}
use Rattle.history.specs.Moment.{Moment, Part, Said}
use Rattle.history.specs.Order.{OfEvents}
use Rattle.node_model.specs.Addresses.{refusal_at}
use Rattle.node_model.specs.Devices.{may_write_as}
use Rattle.node_model.specs.declared.cluster.Cluster.{Cluster}
use Rattle.node_model.specs.declared.input.Input.TheVariants as input
use Rattle.node_model.specs.declared.node.Node.{Node}
use Rattle.node_model.specs.declared.node.Node.TheVariants.{Down, Up}
use Rattle.node_model.specs.declared.node.UpNode.{UpNode}
use Rattle.world_model.specs.Devices.{due_at}
use Rattle.world_model.specs.First.{first_cluster}
use Rattle.world_model.specs.Lines.{monitors}
use Rattle.run_history.specs.Happenings.{Happening, MayHappen, armed_by, happened}
use Rattle.run_history.specs.Happenings.Happening.{Begins, Notes, Speaks}
use Rattle.run_history.specs.Rounds.{Progress}
use Rattle.run_history.specs.Scenes.{Scene, adding, first_scene}
use Rattle.run_history.specs.Shapes.{Due, IsDue, IsShaped, Opens, ShapedFrom, Want, asking, booting, brings, coming_to, commanding, due_after, if_up, nothing, of_oldest, of_packet, opened, probing, taking_this, writing}
use Rattle.run_history.specs.Shapes as want
use Rattle.run_lines.proofs.Begins.{next_may}
use Rattle.run_lines.specs.Entries.{MayBegin}
use Rattle.run_devices.proofs.queues.Added.{brings_alone}
use Rattle.run_devices.proofs.queues.Queues.{listed}
use Rattle.run_devices.proofs.queues.Wanted.{Awaits, EventLaw, IsReady, Leaves, due_comes}

-- ---- an event opens

up_ready : (s : Scene) (z : Node) (f : UpNode → List Want) → ((x : UpNode) → IsReady s [] (f x)) → IsReady s [] (if_up z f)
up_ready s Down f all = tt
up_ready s (Up x) f all = all x

boot_ready : (s : Scene) (n : ℕ) (z : Node) → IsReady s [] (booting n z)
boot_ready s n Down = tt
boot_ready s n (Up x) = tt

write_ready : (s : Scene) (n d value : ℕ) (r : Result ℕ WriteRefusal) → IsReady s [] (writing n d value r)
write_ready s n d value (Ok e) = tt
write_ready s n d value (Err why) = tt

probe_ready : (s : Scene) (n : ℕ) (resource : List ℕ) (good b : Bool) → IsReady s [] (probing n resource good b)
probe_ready s n resource good true = tt
probe_ready s n resource good false = tt

client_ready : (s : Scene) (n : ℕ) (address : List ℕ) (client port : ℕ) (o : Option SkipCause) → IsReady s [] (asking n (input.Client address client port) o)
client_ready s n address client port None = tt
client_ready s n address client port (Some why) = tt

packet_ready : (s : Scene) (o : Option Packet) (f : Packet → List Want) → ((x : Packet) → IsReady s [] (f x)) → IsReady s [] (of_packet o f)
packet_ready s None f all = tt
packet_ready s (Some x) f all = all x

link_ready : (s : Scene) (o : Option ℕ) (f : ℕ → List Want) → ((k : ℕ) → IsReady s [] (f k)) → IsReady s [] (of_oldest o f)
link_ready s None f all = tt
link_ready s (Some k) f all = all k

coming_ready : (s : Scene) (z : Node) (number : ℕ) (x : Packet) → IsReady s [] (coming_to z number x)
coming_ready s Down number x = tt
coming_ready s (Up y) number x = tt

copy_ready : (s : Scene) (b : Bool) (number : ℕ) (x : Packet) → IsReady s [] (if b then want.Repeat number x ∷ [] else [])
copy_ready s true number x = tt
copy_ready s false number x = tt

-- what is due for a command
command_ready : (s : Scene) (n : ℕ) (o : Option (ℕ × PrCommand)) → due_at (Some (s.nodes.node n)) ≡ o → IsReady s (listed o) (commanding n o)
command_ready s n None is = tt
command_ready s n (Some due) is = record { found = due; at = is; is = refl }

disk_ready : (s : Scene) (n : ℕ) (z : Node) → IsReady s (listed (due_at (Some (s.nodes.node n)))) (if_up z (λ x. commanding n (due_at (Some (s.nodes.node n)))))
disk_ready s n Down = tt
disk_ready s n (Up x) = command_ready s n (due_at (Some (s.nodes.node n))) refl

-- the command that an event may bring
abbrev pub due_for : Scene → Event → List (ℕ × PrCommand)
due_for s (event.Disk n) = listed (due_at (Some (s.nodes.node n)))
due_for s e = []

brings_ready : (c : Cluster) (s : Scene) (e : Event) → IsReady s (due_for s e) (brings c s e)
brings_ready c s (event.Boot n) = boot_ready s n (s.nodes.node n)
brings_ready c s (event.Crash n) = up_ready s (s.nodes.node n) (λ x. taking_this n input.Crash) (λ x. tt)
brings_ready c s (event.CrashAt n calls choice) = tt
brings_ready c s (event.Tick n) = up_ready s (s.nodes.node n) (λ x. taking_this n input.Tick) (λ x. tt)
brings_ready c s (event.Disk n) = disk_ready s n (s.nodes.node n)
brings_ready c s (event.Fault n d done) = tt
brings_ready c s (event.Write n d value) =
    up_ready s (s.nodes.node n) (λ x. writing n d value (may_write_as c n d x.seat)) (λ x. write_ready s n d value (may_write_as c n d x.seat))
brings_ready c s (event.Command n words) = up_ready s (s.nodes.node n) (λ x. taking_this n (input.Commanded words)) (λ x. tt)
brings_ready c s (event.Outcome n resource method outcome) = tt
brings_ready c s (event.Probe n resource good) =
    up_ready s (s.nodes.node n) (λ x. probing n resource good (monitors resource (Some (s.nodes.node n))))
    (λ x. probe_ready s n resource good (monitors resource (Some (s.nodes.node n))))
brings_ready c s (event.Client n address client port) =
    up_ready s (s.nodes.node n) (λ x. asking n (input.Client address client port) (refusal_at c address (s.nodes.node n)))
    (λ x. client_ready s n address client port (refusal_at c address (s.nodes.node n)))
brings_ready c s (event.Clock second) = tt
brings_ready c s (event.Deliver number) =
    packet_ready s (packet_of s.links.packets number) (λ x. coming_to (s.nodes.node x.to) number x) (λ x. coming_ready s (s.nodes.node x.to) number x)
brings_ready c s (event.Lose number) = packet_ready s (packet_of s.links.packets number) (λ x. want.Lose number x ∷ []) (λ x. tt)
brings_ready c s (event.Repeat number) =
    packet_ready s (packet_of s.links.packets number) (λ x. if nat_lt s.links.next (2 ^ 63) then want.Repeat number x ∷ [] else [])
    (λ x. copy_ready s (nat_lt s.links.next (2 ^ 63)) number x)
brings_ready c s (event.Next a b) =
    link_ready s (oldest_on s.links.packets a b) (λ k. of_packet (packet_of s.links.packets k) (λ x. coming_to (s.nodes.node x.to) k x))
    (λ k. packet_ready s (packet_of s.links.packets k) (λ x. coming_to (s.nodes.node x.to) k x) (λ x. coming_ready s (s.nodes.node x.to) k x))
brings_ready c s (event.Drop a b) =
    link_ready s (oldest_on s.links.packets a b) (λ k. of_packet (packet_of s.links.packets k) (λ x. want.Lose k x ∷ []))
    (λ k. packet_ready s (packet_of s.links.packets k) (λ x. want.Lose k x ∷ []) (λ x. tt))
brings_ready c s (event.Again a b) =
    link_ready s (oldest_on s.links.packets a b) (λ k. of_packet (packet_of s.links.packets k) (λ x. if nat_lt s.links.next (2 ^ 63) then want.Repeat k x ∷ [] else []))
    (λ k. packet_ready s (packet_of s.links.packets k) (λ x. if nat_lt s.links.next (2 ^ 63) then want.Repeat k x ∷ [] else []) (λ x. copy_ready s (nat_lt s.links.next (2 ^ 63)) k x))
brings_ready c s (event.Rounds count nodes) = tt

-- ---- a line, or a part of a round

-- The law holds of a line that comes in this scene, and of a part, by the entries of what it brings.
pub record Opening (P : EventLaw) (c : Cluster) (s : Scene) : Type 0 where
  pub line_so : (e : Event) (later : List Moment) → (let u : Scene = armed_by c e (adding (Said (line.Event e)) s) in Leaves (due_for u e) (brings c u e) later)
      → P s.moments (Said (line.Event e)) later
  pub part_so : (e : Event) (later : List Moment) → MayBegin s e → (let t : Scene = adding (Part e) s in Leaves (due_for t e) (brings c t e) later) → P s.moments (Part e) later

armed_moments : (c : Cluster) (s : Scene) (e : Event) → (armed_by c e s).moments ≡ s.moments
armed_moments c s (event.CrashAt n calls choice) = refl
armed_moments c s (event.Fault n d done) = refl
armed_moments c s _ = refl

line_opens : (P : EventLaw) (c : Cluster) (s : Scene) (e : Event) → Opening P c s → Awaits P s [] → Awaits P (happened c s (Speaks e)) (brings c (happened c s (Speaks e)) e)
line_opens P c s e opening k =
    let t : Scene = adding (Said (line.Event e)) s in
    let u : Scene = armed_by c e t in
    record {
      due = due_for u e;
      alone = brings_alone c u e;
      ready = brings_ready c u e;
      events = λ later leaves. subst (λ ms. OfEvents P later ms) (sym (armed_moments c t e)) (opening.line_so e later leaves, k.events [] refl);
    }

part_opens : (P : EventLaw) (c : Cluster) (s : Scene) (e : Event) → Opening P c s → MayBegin s e → Awaits P s [] → Awaits P (adding (Part e) s) (brings c (adding (Part e) s) e)
part_opens P c s e opening may k =
    let t : Scene = adding (Part e) s in
    record {
      due = due_for t e;
      alone = brings_alone c t e;
      ready = brings_ready c t e;
      events = λ later leaves. (opening.part_so e later may leaves, k.events [] refl);
    }

-- `rounds done` is no event's
rounds_end : (P : EventLaw) (c : Cluster) (s : Scene) → Awaits P s [] → Awaits P (happened c s (Notes schedule.RoundsDone)) []
rounds_end P c s k = record { due = []; alone = tt; ready = tt; events = λ later none. (none, k.events [] refl) }

opens_so : (P : EventLaw) (c : Cluster) (s : Scene) (progress : Option Progress) (x : Happening) → Opening P c s → Opens s progress x → Awaits P s []
    → Awaits P (happened c s x) (opened c (happened c s x) progress x).wants
opens_so P c s None (Speaks e) opening opens k = line_opens P c s e opening k
opens_so P c s (Some p) (Begins e) opening opens k = part_opens P c s e opening (next_may s p e opens) k
opens_so P c s (Some p) (Notes e) opening opens k = subst (λ z. Awaits P (happened c s (Notes z)) []) (sym opens.0) (rounds_end P c s k)
opens_so P c s _ _ opening opens k = absurd opens

pub awaits_more : (P : EventLaw) (h : Header) (s : Scene) (wants : List Want) (progress : Option Progress) (x : Happening) → Opening P (first_cluster h) s → MayHappen (first_cluster h) s x
    → IsDue s (record { wants = wants; rounds = progress }) x → Awaits P s wants
    → (let c : Cluster = first_cluster h in Awaits P (happened c s x) (due_after c (happened c s x) (record { wants = wants; rounds = progress }) x).wants)
awaits_more P h s [] progress x opening may comes k = opens_so P (first_cluster h) s progress x opening comes k
awaits_more P h s (w ∷ wants) progress x opening may comes k = due_comes P h s w wants x may comes k

pub first_awaits : (P : EventLaw) (h : Header) (cells : ℕ) → Awaits P (first_scene h cells) []
unfolding first_scene
first_awaits P h cells = record { due = []; alone = tt; ready = tt; events = λ later none. none }
