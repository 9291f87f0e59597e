-- Each line of a schedule in the world is moves of the run of all nodes.
use Rattle.std.specs.Prelude.{ℕ, zero, suc, ◌-◌, ◌+◌, ◌^◌, ◌≡◌, ◌≢◌, ◌≤◌, ◌<◌, ◌⊎◌, ◌++◌, ◌==◌, nat_lt, Bool, true, false, All, List, [], ◌∷◌, Option, None, Some, Result, Ok, Err, length, map, replicate, slice_get, slice_set}
use Rattle.std.proofs.Common.{refl, sym, ap, subst, ◌∙◌, inl, inr, arith}
use Rattle.std.specs.List.{AllByRecursion}
use Rattle.std.proofs.Math.ListN.{get_or}
use Rattle.std.proofs.Math.Seq.{get_or-append_seam}
use Rattle.std.proofs.lemmas.List.{get_or_append_left, get_or-replicate, length-append, length-replicate}
use Rattle.std.proofs.lemmas.List.Elements.{All-nil, All-cons}
use Rattle.std.proofs.lemmas.Option.{get_or_from_slice_get, slice_get_within}
use Rattle.agents.specs.Calls.{AgentState}
use Rattle.cl_base.specs.Limits.{most_nodes}
use Rattle.cl_base.specs.Numbers.{numbers_to}
use Rattle.cl_base.specs.Sets.{has}
use Rattle.cl_base.specs.declared.header.Header.{Header}
use Rattle.cl_base.specs.declared.header.HeaderDevice.{HeaderDevice}
use Rattle.cmm_attempt.specs.Calls.{IsDevice}
use Rattle.cl_base.specs.declared.packet.DropCause.TheVariants as drop
use Rattle.cmm_attempt.proofs.Basics.{if_either}
use Rattle.interconnect.specs.Links as links
use Rattle.interconnect.specs.Links.{Links, Packet, packet_of, oldest_on, removing, sending}
use Rattle.local_disk.specs.declared.memory.Choice.{Choice}
use Rattle.machine_base.specs.Put.{put}
use Rattle.machine_base.proofs.Puts.{same_or_not}
use Rattle.pgr_device.specs.declared.command.PrAnswer.TheVariants as answer
use Rattle.pgr_device.specs.Spc as spc
use Rattle.pgr_device.specs.Device.{Device}
use Rattle.pgr_device.specs.declared.command.PrCommand.{PrCommand}
use Rattle.pgr_device.specs.declared.command.PrCommand.TheVariants as command
use Rattle.record_disk.specs.Disks as disks
use Rattle.record_disk.specs.Disks.{DiskState}
use Rattle.schedule_text.specs.declared.event.Event.{Event}
use Rattle.schedule_text.specs.declared.event.Event.TheVariants as event
use Rattle.status_report.specs.declared.device_entry.WriteRefusal.{WriteRefusal}
use Rattle.status_report.specs.declared.entry.Entry.TheVariants as entry
use Rattle.status_report.specs.declared.packet_entry.PacketEntry.TheVariants as packet
use Rattle.status_report.specs.declared.schedule_entry.SkipCause.{SkipCause}
use Rattle.status_report.specs.declared.schedule_entry.SkipCause.TheVariants as skip
use Rattle.wire.specs.declared.message.Message.{Message}
use Rattle.wire.specs.Reads.{whole_of}
use Rattle.node_model.specs.Clusters.{first_valid_of}
use Rattle.node_model.specs.declared.cluster.Cluster.{Cluster}
use Rattle.node_model.specs.declared.input.Input.{Input}
use Rattle.node_model.specs.declared.input.Input.TheVariants as input
use Rattle.node_model.specs.declared.node.Node.{Node}
use Rattle.node_model.specs.declared.node.Node.TheVariants.{Down, Up}
use Rattle.node_model.specs.Devices.{may_write_as}
use Rattle.world_model.specs.Worlds.{Play, WorldState, play, is_up, node_at, skipping, telling, with_world}
use Rattle.world_model.specs.Sends.{giving, with_links}
use Rattle.world_model.specs.Packets.{copying, delivering, delivering_as, losing, losing_as, repeating_as, repeating_one, taking, with_oldest}
use Rattle.world_model.specs.Devices.{Commanded, Executed, commanded, commanded_at, doing_command, doing_due, due, executed, fault_at, on_disk, on_disk_due, with_fault, writing_at, writing_if}
use Rattle.world_model.specs.Rounds.{bringing, bringing_all, bringing_below, doing_all, doing_one, doing_some, for_each, is_between, round_of, rounds, rounds_of, ticking_one}
use Rattle.world_model.specs.First.{attached_from, first_cluster, first_device, first_disks, first_world}
use Rattle.world_model.specs.Lines.{asking, asking_at, giving_up, left_by, line_on, monitors, on_packets, probing, probing_up, refusal_in, with_stop_at}
use Rattle.refinement.specs.node_widths.Widths.{AnswerFits}
use Rattle.refinement.specs.Runs.{AnswersFit, InTime, IsAmong, Nodes, WasSent, first_nodes, moved}
use Rattle.refinement.specs.Runs.Move.{Arms}
use Rattle.refinement.specs.Widths.{ClusterFits}
use Rattle.refinement.specs.Worlds.{DeviceFits, DevicesFit, GivesFit, IsNamed, Keeps, PacketSent, Played, Shows, WorldRunsAreOne, lines_on}
use Rattle.refinement.proofs.DeviceWidths.{first_devices_fit}
use Rattle.refinement.proofs.EveryRun.{every_run_is_one}
use Rattle.refinement.proofs.Widths.{devices_fit, gives_fit}
use Rattle.refinement.proofs.Worlds.{all_append, all_found, calls_played, dropped_world, given_so, links_show, put_shows, removing_sent, run_more, sending_sent, set_other, set_same}

-- Packets.

links_played : (c : Cluster) (w : WorldState) (l : Links) (h : Played c w) → AllByRecursion (PacketSent h.nodes.sent) l.packets → Played c (record w { links = l })
links_played c w l h sent = record { moves = h.moves; nodes = h.nodes; run = h.run; in_time = h.in_time; shows = links_show c w h.nodes l h.shows sent }

taken_so : (c : Cluster) → GivesFit c → (p : Play) (from to : ℕ) (bytes : List ℕ) (o : Option Message) (h : Played c p.world) → 1 ≤ to
    → ((m : Message) → whole_of bytes ≡ Some m → IsAmong from m.body h.nodes.sent) → whole_of bytes ≡ o → Played c (taking from to o p).world
taken_so c gives p from to bytes None h low sent is = h
taken_so c gives p from to bytes (Some m) h low sent is = given_so c gives p to (input.Packet from m) h low (sent m is) tt

delivered_as : (c : Cluster) → GivesFit c → (p : Play) (number : ℕ) (o : Option Packet) (h : Played c p.world) → packet_of p.world.links.packets number ≡ o → Played c (delivering_as number o p).world
unfolding links_played
delivered_as c gives p number None h is = h
delivered_as c gives p number (Some x) h is =
    let one : PacketSent h.nodes.sent x = all_found (PacketSent h.nodes.sent) (λ (y : Packet). y.number == number) p.world.links.packets x h.shows.packets is in
    let q : Play = with_links p (removing p.world.links number) in
    let k : Played c q.world = links_played c p.world (removing p.world.links number) h (removing_sent h.nodes.sent p.world.links number h.shows.packets) in
    if_either (λ (r : Play). Played c r.world) (is_up q.world x.to) (taking x.from x.to (whole_of x.bytes) (telling (entry.Packet (packet.Delivered number x.from x.to)) q))
    (telling (entry.Packet (packet.Dropped number drop.Down)) q)
    (taken_so c gives (telling (entry.Packet (packet.Delivered number x.from x.to)) q) x.from x.to x.bytes (whole_of x.bytes) k one.0 one.1 refl) k

delivered_so : (c : Cluster) → GivesFit c → (p : Play) (number : ℕ) → Played c p.world → Played c (delivering number p).world
delivered_so c gives p number h = delivered_as c gives p number (packet_of p.world.links.packets number) h refl

lost_as : (c : Cluster) (p : Play) (number : ℕ) (o : Option Packet) → Played c p.world → Played c (losing_as number o p).world
lost_as c p number None h = h
lost_as c p number (Some x) h = links_played c p.world (removing p.world.links number) h (removing_sent h.nodes.sent p.world.links number h.shows.packets)

lost_so : (c : Cluster) (p : Play) (number : ℕ) → Played c p.world → Played c (losing number p).world
lost_so c p number h = lost_as c p number (packet_of p.world.links.packets number) h

repeated_as : (c : Cluster) (p : Play) (number : ℕ) (o : Option Packet) (h : Played c p.world) → packet_of p.world.links.packets number ≡ o → Played c (repeating_as number o p).world
repeated_as c p number None h is = h
repeated_as c p number (Some x) h is =
    let one : PacketSent h.nodes.sent x = all_found (PacketSent h.nodes.sent) (λ (y : Packet). y.number == number) p.world.links.packets x h.shows.packets is in
    let o : links.Outcome = sending p.world.links x.from x.to x.bytes in
    if_either (λ (r : Play). Played c r.world) (nat_lt p.world.links.next _) (copying number o p) p
    (subst (λ w. Played c w) (sym (dropped_world o.sent.dropped _)) (links_played c p.world o.after h (sending_sent h.nodes.sent p.world.links x.from x.to x.bytes h.shows.packets one))) h

repeated_so : (c : Cluster) (p : Play) (number : ℕ) → Played c p.world → Played c (repeating_one number p).world
repeated_so c p number h = repeated_as c p number (packet_of p.world.links.packets number) h refl

oldest_as : (c : Cluster) (act : ℕ → Play → Play) → ((p : Play) (number : ℕ) → Played c p.world → Played c (act number p).world) → (p : Play) (o : Option ℕ) → Played c p.world
    → Played c (with_oldest act o p).world
oldest_as c act all p None h = h
oldest_as c act all p (Some number) h = all p number h

-- Devices, whose state and faults are no part of a run of nodes.

device_show : (c : Cluster) (w : WorldState) (v : Nodes) (ds : List Device) (faults : List (Option Bool)) → ((d : ℕ) (device : Device) → slice_get ds d ≡ Some device → DeviceFits device)
    → Shows c w v → Shows c (record w { devices = ds; faults = faults }) v
device_show c w v ds faults fit h = record { cluster = h.cluster; few = h.few; node = h.node; disk = h.disk; device = fit; packets = h.packets; clock = h.clock }

-- one device is replaced by one that keeps to 64 bits
set_fit : (ds : List Device) (k : ℕ) (old new : Device) → slice_get ds k ≡ Some old → DeviceFits new → ((d : ℕ) (device : Device) → slice_get ds d ≡ Some device → DeviceFits device)
    → (d : ℕ) (device : Device) → slice_get (slice_set ds k new) d ≡ Some device → DeviceFits device
set_fit ds k old new was fit all d device e = go (same_or_not d k)
  where
    go : (d ≡ k) ⊎ (d ≢ k) → DeviceFits device
    go (inl same) = subst DeviceFits (set_same ds k old new device was (subst (λ j. slice_get (slice_set ds k new) j ≡ Some device) same e)) fit
    go (inr ne) = all d device (set_other ds k d new device ne e)

-- what a command leaves, and its answer, whatever fault is armed
record Left (o : Executed) : Type 0 where
  device : DeviceFits o.device
  answer : AnswerFits o.answer

left_by_fault : (device : Device) (n : ℕ) (k : PrCommand) (fault : Option Bool) → DeviceFits device → Keeps device n k → Left (executed device n k fault)
left_by_fault device n k None fit h = record { device = h.0; answer = h.1 }
left_by_fault device n k (Some true) fit h = record { device = h.0; answer = tt }
left_by_fault device n k (Some false) fit h = record { device = fit; answer = tt }

abbrev Good : spc.Outcome → Type 0
Good o = DeviceFits o.after × AnswerFits (Ok o.answer)

write_keeps : (n value : ℕ) (device : Device) → DeviceFits device → Keeps device n (command.Write value)
write_keeps n value device f =
    if_either Good (has device.paths n) (spc.writing device n (spc.good (record device { value = value }))) (spc.answers device answer.NoPath)
    (if_either Good (spc.may_write device.registrations n device.reservation) (spc.good (record device { value = value })) (spc.conflict device) (record { word = f.word; few = f.few; keys = f.keys; apart = f.apart }, tt) (f, tt))
    (f, tt)

record After (c : Cluster) (o : Commanded) : Type 0 where
  played : Played c o.world
  bounded : AnswerFits o.answer

commanded_so : (c : Cluster) (w : WorldState) (n d : ℕ) (o : Option Device) (k : PrCommand) → Played c w → slice_get w.devices (d - 1) ≡ o
    → ((device : Device) → DeviceFits device → Keeps device n k) → After c (commanded_at w n d o k)
commanded_so c w n d None k h is keeps = record { played = h; bounded = tt }
commanded_so c w n d (Some device) k h is keeps =
    let fit : DeviceFits device = h.shows.device (d - 1) device is in
    let left : Left (executed device n k (fault_at w n d)) = left_by_fault device n k (fault_at w n d) fit (keeps device fit) in
    record {
      played = record {
        moves = h.moves;
        nodes = h.nodes;
        run = h.run;
        in_time = h.in_time;
        shows = device_show c w h.nodes _ _ (set_fit w.devices (d - 1) device (executed device n k (fault_at w n d)).device is left.device h.shows.device) h.shows;
      };
      bounded = left.answer;
    }

done_due : (c : Cluster) → GivesFit c → DevicesFit c → (p : Play) (n : ℕ) (o : Option (ℕ × PrCommand)) → 1 ≤ n → Played c p.world → due p.world n ≡ o → Played c (doing_due n o p).world
done_due c gives fit p n None low h is = h
done_due c gives fit p n (Some (d, k)) low h is =
    let o : Commanded = commanded p.world n d k in
    let a : After c o = commanded_so c p.world n d (slice_get p.world.devices (d - 1)) k h refl (λ device f. fit p.world n d k device h low is f) in
    given_so c gives (with_world p o.world) n (input.Answered o.answer) a.played low tt a.bounded

command_done : (c : Cluster) → GivesFit c → DevicesFit c → (p : Play) (n : ℕ) → 1 ≤ n → Played c p.world → Played c (doing_command n p).world
command_done c gives fit p n low h =
    let q : Play = giving n input.CommandDue p in
    done_due c gives fit q n (due q.world n) low (given_so c gives p n input.CommandDue h low tt tt) refl

disk_due : (c : Cluster) → GivesFit c → DevicesFit c → (p : Play) (n : ℕ) (o : Option (ℕ × PrCommand)) → 1 ≤ n → Played c p.world → Played c (on_disk_due n o p).world
disk_due c gives fit p n None low h = h
disk_due c gives fit p n (Some due) low h = command_done c gives fit p n low h

disk_so : (c : Cluster) → GivesFit c → DevicesFit c → (p : Play) (n : ℕ) → 1 ≤ n → Played c p.world → Played c (on_disk n p).world
disk_so c gives fit p n low h =
    if_either (λ (r : Play). Played c r.world) (is_up p.world n) (on_disk_due n (due p.world n) p) (skipping skip.Down p) (disk_due c gives fit p n (due p.world n) low h) h

written_if : (c : Cluster) → GivesFit c → DevicesFit c → (p : Play) (n d value : ℕ) (r : Result ℕ WriteRefusal) → 1 ≤ n → Played c p.world → Played c (writing_if n d value r p).world
written_if c gives fit p n d value (Ok e) low h =
    let o : Commanded = commanded p.world n d (command.Write value) in
    let a : After c o = commanded_so c p.world n d (slice_get p.world.devices (d - 1)) (command.Write value) h refl (λ device f. write_keeps n value device f) in
    given_so c gives (with_world p o.world) n (input.Wrote d value o.answer) a.played low tt tt
written_if c gives fit p n d value (Err cause) low h = h

written_at : (c : Cluster) → GivesFit c → DevicesFit c → (p : Play) (n d value : ℕ) (o : Option Node) → 1 ≤ n → Played c p.world → Played c (writing_at n d value o p).world
written_at c gives fit p n d value None low h = h
written_at c gives fit p n d value (Some Down) low h = h
written_at c gives fit p n d value (Some (Up x)) low h = written_if c gives fit p n d value (may_write_as p.world.cluster n d x.seat) low h

-- A stop that is armed.

stop_so : (c : Cluster) (w : WorldState) (n calls : ℕ) (choice : Choice) (o : Option DiskState) → 1 ≤ n → slice_get w.disks (n - 1) ≡ o → Played c w → Played c (with_stop_at w n calls choice o)
stop_so c w n calls choice None low is h = h
stop_so c w n calls choice (Some disk) low is h =
    let v : Nodes = h.nodes in
    let kept : v.disk n ≡ disk = h.shows.disk n disk low is in
    record {
      moves = h.moves ++ Arms n calls choice ∷ [];
      nodes = moved c v (Arms n calls choice);
      run = run_more c (first_nodes c) h.moves v (Arms n calls choice) h.run tt;
      in_time = all_append InTime h.moves (Arms n calls choice) h.in_time tt;
      shows = record {
        cluster = h.shows.cluster;
        few = h.shows.few;
        node = h.shows.node;
        disk = subst (λ d. (k : ℕ) (z : DiskState) → 1 ≤ k → slice_get (slice_set w.disks (n - 1) (disks.armed disk calls choice)) (k - 1) ≡ Some z → put v.disk n (disks.armed d calls choice) k ≡ z) (sym kept)
            (put_shows v.disk w.disks n disk (disks.armed disk calls choice) low is h.shows.disk);
        device = h.shows.device;
        packets = h.shows.packets;
        clock = h.shows.clock;
      };
    }

-- Rounds.

up_so : (c : Cluster) → GivesFit c → (p : Play) (n : ℕ) (i : Input) → 1 ≤ n → ((v : Nodes) → WasSent v i) → AnswersFit i → Played c p.world → Played c (giving_up n i p).world
up_so c gives p n i low sent bounded h = if_either (λ (r : Play). Played c r.world) (is_up p.world n) (giving n i p) (skipping skip.Down p) (given_so c gives p n i h low (sent h.nodes) bounded) h

tick_so : (c : Cluster) → GivesFit c → (p : Play) (n : ℕ) → 1 ≤ n → Played c p.world → Played c (ticking_one n p).world
tick_so c gives p n low h = if_either (λ (r : Play). Played c r.world) (is_up p.world n) (giving n input.Tick p) p (given_so c gives p n input.Tick h low tt tt) h

one_done : (c : Cluster) → GivesFit c → DevicesFit c → (p : Play) (n : ℕ) (o : Option (ℕ × PrCommand)) → 1 ≤ n → Played c p.world → Played c (doing_one n o p).world
one_done c gives fit p n None low h = h
one_done c gives fit p n (Some due) low h = command_done c gives fit p n low h

some_done : (c : Cluster) → GivesFit c → DevicesFit c → (p : Play) (n k : ℕ) → 1 ≤ n → Played c p.world → Played c (doing_some n k p).world
unfolding doing_some
some_done c gives fit p n zero low h = h
some_done c gives fit p n (suc k) low h =
    let q : Play = doing_some n k p in
    one_done c gives fit q n (due q.world n) low (some_done c gives fit p n k low h)

all_done : (c : Cluster) → GivesFit c → DevicesFit c → (p : Play) (n : ℕ) → 1 ≤ n → Played c p.world → Played c (doing_all n p).world
unfolding doing_all
all_done c gives fit p n low h = some_done c gives fit p n 4096 low h

brought_so : (c : Cluster) → GivesFit c → (p : Play) (nodes number : ℕ) → Played c p.world → Played c (bringing nodes number p).world
brought_so c gives p nodes number h =
    if_either (λ (r : Play). Played c r.world) (is_between nodes (packet_of p.world.links.packets number)) (delivering number p) p (delivered_so c gives p number h) h

brought_below : (c : Cluster) → GivesFit c → (p : Play) (nodes number : ℕ) → Played c p.world → Played c (bringing_below nodes number p).world
brought_below c gives p nodes zero h = h
brought_below c gives p nodes (suc number) h = brought_so c gives (bringing_below nodes number p) nodes number (brought_below c gives p nodes number h)

abbrev AreSome : List ℕ → Type 0
AreSome ns = AllByRecursion (λ n. 1 ≤ n) ns

each_so : (c : Cluster) (act : ℕ → Play → Play) → ((p : Play) (n : ℕ) → 1 ≤ n → Played c p.world → Played c (act n p).world) → (ns : List ℕ) (p : Play) → AreSome ns → Played c p.world
    → Played c (for_each act ns p).world
each_so c act all [] p low h = h
each_so c act all (n ∷ ns) p low h = each_so c act all ns (act n p) low.1 (all p n low.0 h)

round_so : (c : Cluster) → GivesFit c → DevicesFit c → (p : Play) (nodes : ℕ) (listed : List ℕ) → AreSome listed → Played c p.world → Played c (round_of nodes listed p).world
round_so c gives fit p nodes listed low h =
    each_so c ticking_one (λ q n l k. tick_so c gives q n l k) listed (for_each doing_all listed (bringing_all nodes p)) low
    (each_so c doing_all (λ q n l k. all_done c gives fit q n l k) listed (bringing_all nodes p) low (brought_below c gives p nodes p.world.links.next h))

rounds_so : (c : Cluster) → GivesFit c → DevicesFit c → (p : Play) (nodes : ℕ) (listed : List ℕ) (k : ℕ) → AreSome listed → Played c p.world → Played c (rounds_of nodes listed k p).world
rounds_so c gives fit p nodes listed zero low h = h
rounds_so c gives fit p nodes listed (suc k) low h = round_so c gives fit (rounds_of nodes listed k p) nodes listed low (rounds_so c gives fit p nodes listed k low h)

some_append : (ns : List ℕ) (k : ℕ) → 1 ≤ k → AreSome ns → AreSome (ns ++ k ∷ [])
some_append [] k low h = (low, tt)
some_append (n ∷ ns) k low h = (h.0, some_append ns k low h.1)

numbers_some : (set k : ℕ) → AreSome (numbers_to set k)
numbers_some set zero = tt
numbers_some set (suc k) =
    if_either AreSome (has set (suc k)) (numbers_to set k ++ suc k ∷ []) (numbers_to set k) (some_append (numbers_to set k) (suc k) (positive k) (numbers_some set k)) (numbers_some set k)
  where
    positive : (j : ℕ) → 1 ≤ suc j
    positive j = omega arith

all_rounds : (c : Cluster) → GivesFit c → DevicesFit c → (p : Play) (nodes count : ℕ) → Played c p.world → Played c (rounds nodes count p).world
unfolding rounds
all_rounds c gives fit p nodes count h = rounds_so c gives fit p nodes (numbers_to nodes most_nodes) count (numbers_some nodes most_nodes) h

-- A line.

packets_so : (c : Cluster) → GivesFit c → (p : Play) (e : Event) → Played c p.world → Played c (on_packets e p).world
packets_so c gives p (event.Deliver number) h = delivered_so c gives p number h
packets_so c gives p (event.Lose number) h = lost_so c p number h
packets_so c gives p (event.Repeat number) h = repeated_so c p number h
packets_so c gives p (event.Next from to) h = oldest_as c delivering (λ q n k. delivered_so c gives q n k) p (oldest_on p.world.links.packets from to) h
packets_so c gives p (event.Drop from to) h = oldest_as c losing (λ q n k. lost_so c q n k) p (oldest_on p.world.links.packets from to) h
packets_so c gives p (event.Again from to) h = oldest_as c repeating_one (λ q n k. repeated_so c q n k) p (oldest_on p.world.links.packets from to) h
packets_so c gives p (event.Boot n) h = h
packets_so c gives p (event.Crash n) h = h
packets_so c gives p (event.CrashAt n calls choice) h = h
packets_so c gives p (event.Tick n) h = h
packets_so c gives p (event.Disk n) h = h
packets_so c gives p (event.Fault n d done) h = h
packets_so c gives p (event.Write n d value) h = h
packets_so c gives p (event.Command n words) h = h
packets_so c gives p (event.Outcome n resource method outcome) h = h
packets_so c gives p (event.Probe n resource good) h = h
packets_so c gives p (event.Clock second) h = h
packets_so c gives p (event.Rounds count nodes) h = h
packets_so c gives p (event.Client n address client port) h = h

fault_so : (c : Cluster) (w : WorldState) (n d : ℕ) (fault : Option Bool) → Played c w → Played c (with_fault w n d fault)
fault_so c w n d fault h = record { moves = h.moves; nodes = h.nodes; run = h.run; in_time = h.in_time; shows = device_show c w h.nodes w.devices _ h.shows.device h.shows }

clock_so : (c : Cluster) (w : WorldState) (second : ℕ) → second < 2 ^ 64 → Played c w → Played c (record w { clock = second })
clock_so c w second time h = record {
  moves = h.moves;
  nodes = h.nodes;
  run = h.run;
  in_time = h.in_time;
  shows = record {
    cluster = h.shows.cluster;
    few = h.shows.few;
    node = h.shows.node;
    disk = h.shows.disk;
    device = h.shows.device;
    packets = h.shows.packets;
    clock = time;
  };
}

probe_so : (c : Cluster) → GivesFit c → (p : Play) (n : ℕ) (resource : List ℕ) (good : Bool) → 1 ≤ n → Played c p.world → Played c (probing n resource good p).world
probe_so c gives p n resource good low h =
    if_either (λ (r : Play). Played c r.world) (is_up p.world n) (probing_up n resource good p) (skipping skip.Down p)
    (if_either (λ (r : Play). Played c r.world) (monitors resource (node_at p.world n)) (giving n (input.Reported resource good) p) (skipping skip.NoMonitor p)
    (given_so c gives p n (input.Reported resource good) h low tt tt) h)
    h

asked_at : (c : Cluster) → GivesFit c → (p : Play) (n : ℕ) (address : List ℕ) (client port : ℕ) (o : Option SkipCause) → 1 ≤ n → Played c p.world
    → Played c (asking_at n (input.Client address client port) o p).world
asked_at c gives p n address client port None low h = given_so c gives p n (input.Client address client port) h low tt tt
asked_at c gives p n address client port (Some why) low h = h

client_line_so : (c : Cluster) → GivesFit c → (p : Play) (n : ℕ) (address : List ℕ) (client port : ℕ) → 1 ≤ n → Played c p.world → Played c (asking n address client port p).world
client_line_so c gives p n address client port low h =
    if_either (λ (r : Play). Played c r.world) (is_up p.world n) (asking_at n (input.Client address client port) (refusal_in p.world address (node_at p.world n)) p) (skipping skip.Down p)
    (asked_at c gives p n address client port (refusal_in p.world address (node_at p.world n)) low h) h

line_so : (c : Cluster) → GivesFit c → DevicesFit c → (p : Play) (e : Event) → IsNamed e → Played c p.world → Played c (line_on e p).world
line_so c gives fit p (event.Boot n) low h =
    if_either (λ (r : Play). Played c r.world) (is_up p.world n) (skipping skip.Up p) (giving n input.Boot p) h (given_so c gives p n input.Boot h low tt tt)
line_so c gives fit p (event.Crash n) low h = up_so c gives p n input.Crash low (λ v. tt) tt h
line_so c gives fit p (event.CrashAt n calls choice) low h = stop_so c p.world n calls (left_by choice) (slice_get p.world.disks (n - 1)) low refl h
line_so c gives fit p (event.Tick n) low h = up_so c gives p n input.Tick low (λ v. tt) tt h
line_so c gives fit p (event.Disk n) low h = disk_so c gives fit p n low h
line_so c gives fit p (event.Fault n d done) low h = fault_so c p.world n d (Some done) h
line_so c gives fit p (event.Write n d value) low h = written_at c gives fit p n d value (node_at p.world n) low h
line_so c gives fit p (event.Clock second) low h = clock_so c p.world second low h
line_so c gives fit p (event.Rounds count nodes) low h = all_rounds c gives fit p nodes count h
line_so c gives fit p (event.Deliver number) low h = packets_so c gives p (event.Deliver number) h
line_so c gives fit p (event.Lose number) low h = packets_so c gives p (event.Lose number) h
line_so c gives fit p (event.Repeat number) low h = packets_so c gives p (event.Repeat number) h
line_so c gives fit p (event.Next from to) low h = packets_so c gives p (event.Next from to) h
line_so c gives fit p (event.Drop from to) low h = packets_so c gives p (event.Drop from to) h
line_so c gives fit p (event.Again from to) low h = packets_so c gives p (event.Again from to) h
line_so c gives fit p (event.Command n words) low h = up_so c gives p n (input.Commanded words) low (λ v. tt) tt h
line_so c gives fit p (event.Outcome n resource method outcome) low h = calls_played c p.world _ p.world.agents h
line_so c gives fit p (event.Probe n resource good) low h = probe_so c gives p n resource good low h
line_so c gives fit p (event.Client n address client port) low h = client_line_so c gives p n address client port low h

lines_so : (c : Cluster) → GivesFit c → DevicesFit c → (events : List Event) (p : Play) → AllByRecursion IsNamed events → Played c p.world → Played c (lines_on events p).world
lines_so c gives fit [] p named h = h
lines_so c gives fit (e ∷ events) p named h = lines_so c gives fit events (line_on e p) named.1 (line_so c gives fit p e named.0 h)

-- The world before the first line.

one_of : {X : Type 0} (k j : ℕ) (a z : X) → slice_get (replicate k a) j ≡ Some z → a ≡ z
one_of k j a z e =
    sym (get_or-replicate k j a z (subst (λ n. j < n) (length-replicate k a) (slice_get_within (replicate k a) j z e))) ∙ get_or_from_slice_get (replicate k a) j z z e

disks_length : (c : Cluster) (k : ℕ) → length (first_disks c k) ≡ k
disks_length c zero = refl
disks_length c (suc k) = omega (arith, length-append (first_disks c k) (disks.empty_disk (first_valid_of c (suc k)) ∷ []), disks_length c k)

less_so : (i n : ℕ) → nat_lt i n ≡ true → i < n
less_so i n h = grind arith

last_so : (i n : ℕ) → nat_lt i n ≡ false → i < suc n → i ≡ n
last_so i n h l = grind arith

one_more_disk : (c : Cluster) (k j : ℕ) (d : DiskState) (b : Bool) → nat_lt j k ≡ b → j < suc k
    → (j < k → get_or (first_disks c k) j d ≡ disks.empty_disk (first_valid_of c (suc j))) → get_or (first_disks c (suc k)) j d ≡ disks.empty_disk (first_valid_of c (suc j))
one_more_disk c k j d true e low before =
    get_or_append_left (first_disks c k) (disks.empty_disk (first_valid_of c (suc k)) ∷ []) d j (subst (λ n. j < n) (sym (disks_length c k)) (less_so j k e)) ∙ before (less_so j k e)
one_more_disk c k j d false e low before =
    let last : DiskState = disks.empty_disk (first_valid_of c (suc k)) in
    let here : j ≡ k = last_so j k e low in
    ap (λ n. get_or (first_disks c k ++ last ∷ []) n d) (here ∙ sym (disks_length c k)) ∙ get_or-append_seam (first_disks c k) last [] d
    ∙ ap (λ n. disks.empty_disk (first_valid_of c (suc n))) (sym here)

disk_at : (c : Cluster) (k j : ℕ) (d : DiskState) → j < k → get_or (first_disks c k) j d ≡ disks.empty_disk (first_valid_of c (suc j))
disk_at c zero j d low = absurd (omega (arith, low))
disk_at c (suc k) j d low = one_more_disk c k j d (nat_lt j k) refl low (disk_at c k j d)

-- the disk of node n
first_of_disks : (c : Cluster) (k n : ℕ) (disk : DiskState) → 1 ≤ n → slice_get (first_disks c k) (n - 1) ≡ Some disk → disks.empty_disk (first_valid_of c n) ≡ disk
first_of_disks c k n disk low e =
    let within : n - 1 < k = subst (λ m. n - 1 < m) (disks_length c k) (slice_get_within (first_disks c k) (n - 1) disk e) in
    ap (λ m. disks.empty_disk (first_valid_of c m)) (sym (number n low)) ∙ sym (disk_at c k (n - 1) disk within) ∙ get_or_from_slice_get (first_disks c k) (n - 1) disk disk e
  where
    number : (m : ℕ) → 1 ≤ m → suc (m - 1) ≡ m
    number m h = omega (arith, h)

first_played : (h : Header) (cells : ℕ) (agents : List AgentState) → h.nodes ≤ 32 → ((d : ℕ) (device : Device) → slice_get (map (first_device h) h.devices) d ≡ Some device → DeviceFits device) → Played (first_cluster h) (first_world h cells agents)
unfolding first_world
first_played h cells agents few fits = record {
  moves = [];
  nodes = first_nodes (first_cluster h);
  run = refl;
  in_time = tt;
  shows = record {
    cluster = refl;
    few = subst (λ k. k ≤ 32) (sym (length-replicate h.nodes Down)) few;
    node = λ n node low e. one_of h.nodes (n - 1) Down node e;
    disk = λ n disk low e. first_of_disks (first_cluster h) h.nodes n disk low e;
    device = fits;
    packets = tt;
    clock = omega arith;
  };
}

attached_fit : (number : ℕ) (ds : List HeaderDevice) → 1 ≤ number → number + length ds ≤ 17 → All IsDevice (attached_from number ds)
attached_fit number [] low high = All-nil IsDevice
attached_fit number (d ∷ ds) low high =
    All-cons IsDevice _ _ (low, below number (length ds) high) (attached_fit (number + 1) ds (more number) (same number (length ds) high))
  where
    below : (a b : ℕ) → a + suc b ≤ 17 → a ≤ 16
    below a b h = omega arith

    more : (a : ℕ) → 1 ≤ a + 1
    more a = omega arith

    same : (a b : ℕ) → a + suc b ≤ 17 → (a + 1) + b ≤ 17
    same a b h = omega arith

pub few_attached : (number : ℕ) (ds : List HeaderDevice) → length ds ≤ 16 → length (attached_from number ds) ≤ 16
few_attached number ds h = subst (λ k. k ≤ 16) (sym (as_many number ds)) h
  where
    as_many : (k : ℕ) (es : List HeaderDevice) → length (attached_from k es) ≡ length es
    as_many k [] = refl
    as_many k (e ∷ es) = ap suc (as_many (k + 1) es)

one_is_low : 1 ≤ 1
one_is_low = omega arith

numbers_high : (k : ℕ) → k ≤ 16 → 1 + k ≤ 17
numbers_high k l = omega arith

attached_are : (h : Header) → length h.devices ≤ 16 → All IsDevice (first_cluster h).attached
attached_are h devices = attached_fit 1 h.devices one_is_low (numbers_high (length h.devices) devices)

-- the world is that of a run of all nodes
pub world_played : (h : Header) (cells : ℕ) (agents : List AgentState) (text : List ℕ) (events : List Event) → h.nodes ≤ 32 → length h.devices ≤ 16 → h.cluster < 2 ^ 32 → AllByRecursion IsNamed events
    → Played (first_cluster h) (lines_on events (play (first_world h cells agents) text)).world
world_played h cells agents text events few devices small named =
    let c : Cluster = first_cluster h in
    let whole : ClusterFits c = record {
      devices = record { few = few_attached 1 h.devices devices; attached = attached_are h devices };
    } in
    let gives : GivesFit c = gives_fit c whole in
    let fit : DevicesFit c = devices_fit c whole small in
    let first : (d : ℕ) (device : Device) → slice_get (map (first_device h) h.devices) d ≡ Some device → DeviceFits device = first_devices_fit h h.devices small in
    lines_so c gives fit events (play (first_world h cells agents) text) named (first_played h cells agents few first)

pub world_runs_are_one : WorldRunsAreOne
world_runs_are_one h cells agents text events few devices small named =
    let c : Cluster = first_cluster h in
    let run : Played c (lines_on events (play (first_world h cells agents) text)).world = world_played h cells agents text events few devices small named in
    record {
      nodes = run.nodes;
      shows = run.shows;
      is_run = every_run_is_one c run.moves run.nodes (attached_are h devices) run.run;
    }
