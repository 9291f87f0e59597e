-- What a line comes to in the world does not rest on the text that stood before, and writes behind it.
use Rattle.std.proofs.Common.{◌≡◌, ℕ, zero, suc, ◌^◌, ◌++◌, nat_lt, Bool, true, false, if◌then◌else◌, List, [], ◌∷◌, Option, None, Some, Result, Ok, Err, refl, sym, ap, ◌∙◌, append-nil, append_assoc}
use Rattle.cl_base.specs.Limits.{most_nodes}
use Rattle.cl_base.specs.Numbers.{numbers_to}
use Rattle.cl_base.specs.declared.method.Outcome as method
use Rattle.cl_base.specs.declared.packet.DropCause.{DropCause}
use Rattle.cl_base.specs.declared.packet.DropCause.TheVariants as drop
use Rattle.interconnect.specs.Links as links
use Rattle.interconnect.specs.Links.{Packet, oldest_on, packet_of, removing, sending}
use Rattle.node_model.specs.Devices.{may_write_as}
use Rattle.node_model.specs.declared.input.Input.{Input}
use Rattle.node_model.specs.declared.input.Input.TheVariants as input
use Rattle.node_model.specs.declared.node.Node.{Node}
use Rattle.node_model.specs.declared.node.Node.TheVariants.{Down, Up}
use Rattle.node_model.specs.declared.output.Output.{Output}
use Rattle.node_model.specs.declared.output.Output.TheVariants.{Tells, Sends}
use Rattle.pgr_device.specs.declared.command.PrCommand.{PrCommand}
use Rattle.pgr_device.specs.declared.command.PrCommand.TheVariants as command
use Rattle.schedule_text.specs.declared.event.Event.{Event}
use Rattle.schedule_text.specs.declared.event.Event.TheVariants as event
use Rattle.status_report.specs.declared.device_entry.DeviceEntry.TheVariants as device
use Rattle.status_report.specs.declared.device_entry.WriteRefusal.{WriteRefusal}
use Rattle.status_report.specs.declared.entry.Entry.{Entry}
use Rattle.status_report.specs.declared.entry.Entry.TheVariants as entry
use Rattle.status_report.specs.declared.packet_entry.PacketEntry.TheVariants as packet
use Rattle.status_report.specs.declared.schedule_entry.ScheduleEntry.TheVariants.{Armed, Clock, Queued, RoundsDone, Skipped}
use Rattle.status_report.specs.declared.schedule_entry.SkipCause.{SkipCause}
use Rattle.status_report.specs.declared.schedule_entry.SkipCause.TheVariants as skip
use Rattle.status_report.specs.Lines.{printed}
use Rattle.wire.specs.declared.message.Message.{Message}
use Rattle.wire.specs.Reads.{whole_of}
use Rattle.wire.specs.Spelling.{spelling}
use Rattle.world_model.specs.Calls.{Ended, ended}
use Rattle.world_model.specs.Devices.{Commanded, after_readying, answering, commanded, doing_command, doing_due, due, on_disk, on_disk_due, with_fault, writing, writing_at, writing_if}
use Rattle.world_model.specs.Lines.{asking, asking_at, booting, giving_up, left_by, line_on, monitors, probing, probing_up, refusal_in, with_outcome, with_stop}
use Rattle.world_model.specs.Packets.{arriving, copying, delivering, delivering_as, losing, losing_as, on_oldest, repeating_as, repeating_one, taking, with_oldest}
use Rattle.world_model.specs.Rounds.{bringing, bringing_all, bringing_below, doing_all, doing_one, doing_some, for_each, is_between, round_of, rounds, rounds_of, ticking_one}
use Rattle.world_model.specs.Sends.{Stepping, come_to, dropped_so, due_in, giving, giving_so, giving_with, is_sent, name_of, passing, passing_one, posting, sent_as, stepping, with_links}
use Rattle.world_model.specs.Worlds.{Play, WorldState, is_up, node_at, noting, play, skipping, telling, with_world}

-- the same, where this text stood before
abbrev pub upon : List ℕ → Play → Play
upon t p = record p { text = t ++ p.text }

either : (b : Bool) (t : List ℕ) (x y q r : Play) → x ≡ upon t q → y ≡ upon t r → (if b then x else y) ≡ upon t (if b then q else r)
either true t x y q r first other = first
either false t x y q r first other = other

telling_upon : (e : Entry) (t : List ℕ) (p : Play) → telling e (upon t p) ≡ upon t (telling e p)
telling_upon e t p = ap (λ (s : List ℕ). record p { text = s }) (append_assoc t p.text (printed e))

skipping_upon : (cause : SkipCause) (t : List ℕ) (p : Play) → skipping cause (upon t p) ≡ upon t (skipping cause p)
skipping_upon cause t p = telling_upon (entry.Schedule (Skipped cause)) t p

-- ---- what a node gives

dropped_upon : (o : Option (ℕ × DropCause)) (t : List ℕ) (p : Play) → dropped_so o (upon t p) ≡ upon t (dropped_so o p)
dropped_upon None t p = refl
dropped_upon (Some d) t p = telling_upon (entry.Packet (packet.Dropped d.0 d.1)) t p

then_dropped : (o : Option (ℕ × DropCause)) (e : Entry) (t : List ℕ) (p : Play) → dropped_so o (telling e (upon t p)) ≡ upon t (dropped_so o (telling e p))
then_dropped o e t p = ap (λ (q : Play). dropped_so o q) (telling_upon e t p) ∙ dropped_upon o t (telling e p)

sent_as_upon : (from to : ℕ) (m : Message) (o : links.Outcome) (t : List ℕ) (p : Play) → sent_as from to m o (upon t p) ≡ upon t (sent_as from to m o p)
sent_as_upon from to m o t p = then_dropped o.sent.dropped (entry.Packet (packet.Sent p.world.links.next from to (name_of m.body) (spelling m))) t (with_links p o.after)

posting_upon : (from to : ℕ) (m : Message) (t : List ℕ) (p : Play) → posting from to m (upon t p) ≡ upon t (posting from to m p)
posting_upon from to m t p =
    either (is_sent p.world.links m) t _ _ (sent_as from to m (sending p.world.links from to (spelling m)) p) p (sent_as_upon from to m (sending p.world.links from to (spelling m)) t p) refl

passing_one_upon : (n : ℕ) (o : Output) (t : List ℕ) (p : Play) → passing_one n o (upon t p) ≡ upon t (passing_one n o p)
passing_one_upon n (Tells e) t p = telling_upon e t p
passing_one_upon n (Sends to b) t p = posting_upon n to (record { sender = n; body = b }) t p

passing_upon : (n : ℕ) (os : List Output) (t : List ℕ) (p : Play) → passing n os (upon t p) ≡ upon t (passing n os p)
passing_upon n [] t p = refl
passing_upon n (o ∷ os) t p = ap (λ (q : Play). passing n os q) (passing_one_upon n o t p) ∙ passing_upon n os t (passing_one n o p)

come_to_upon : (n : ℕ) (s : Stepping) (t : List ℕ) (p : Play) → come_to n s (upon t p) ≡ upon t (come_to n s p)
come_to_upon n s t p = passing_upon n s.given t (with_world p (record p.world { nodes = s.nodes; disks = s.disks }))

giving_so_upon : (n : ℕ) (i : Input) (o : method.Outcome) (t : List ℕ) (p : Play) → giving_so n i o (upon t p) ≡ upon t (giving_so n i o p)
giving_so_upon n i o t p = come_to_upon n (stepping p.world.cluster n p.world.clock o i p.world.nodes p.world.disks) t p

giving_with_upon : (n : ℕ) (i : Input) (e : Ended) (t : List ℕ) (p : Play) → giving_with n i e (upon t p) ≡ upon t (giving_with n i e p)
giving_with_upon n i e t p = giving_so_upon n i e.outcome t (with_world p e.world)

giving_upon : (n : ℕ) (i : Input) (t : List ℕ) (p : Play) → giving n i (upon t p) ≡ upon t (giving n i p)
giving_upon n i t p = giving_with_upon n i (ended p.world (due_in p.world n i)) t p

-- ---- packets

taking_upon : (from to : ℕ) (m : Option Message) (t : List ℕ) (p : Play) → taking from to m (upon t p) ≡ upon t (taking from to m p)
taking_upon from to None t p = refl
taking_upon from to (Some m) t p = giving_upon to (input.Packet from m) t p

arriving_upon : (number from to : ℕ) (m : Option Message) (t : List ℕ) (p : Play) → arriving number from to m (upon t p) ≡ upon t (arriving number from to m p)
arriving_upon number from to m t p =
    either (is_up p.world to) t _ _ (taking from to m (telling (entry.Packet (packet.Delivered number from to)) p)) (telling (entry.Packet (packet.Dropped number drop.Down)) p)
    (ap (λ (q : Play). taking from to m q) (telling_upon (entry.Packet (packet.Delivered number from to)) t p) ∙ taking_upon from to m t (telling (entry.Packet (packet.Delivered number from to)) p))
    (telling_upon (entry.Packet (packet.Dropped number drop.Down)) t p)

delivering_as_upon : (number : ℕ) (x : Option Packet) (t : List ℕ) (p : Play) → delivering_as number x (upon t p) ≡ upon t (delivering_as number x p)
delivering_as_upon number None t p = skipping_upon skip.NoPacket t p
delivering_as_upon number (Some x) t p = arriving_upon number x.from x.to (whole_of x.bytes) t (with_links p (removing p.world.links number))

delivering_upon : (number : ℕ) (t : List ℕ) (p : Play) → delivering number (upon t p) ≡ upon t (delivering number p)
delivering_upon number t p = delivering_as_upon number (packet_of p.world.links.packets number) t p

losing_as_upon : (number : ℕ) (x : Option Packet) (t : List ℕ) (p : Play) → losing_as number x (upon t p) ≡ upon t (losing_as number x p)
losing_as_upon number None t p = skipping_upon skip.NoPacket t p
losing_as_upon number (Some x) t p = telling_upon (entry.Packet (packet.Lost number)) t (with_links p (removing p.world.links number))

losing_upon : (number : ℕ) (t : List ℕ) (p : Play) → losing number (upon t p) ≡ upon t (losing number p)
losing_upon number t p = losing_as_upon number (packet_of p.world.links.packets number) t p

copying_upon : (number : ℕ) (o : links.Outcome) (t : List ℕ) (p : Play) → copying number o (upon t p) ≡ upon t (copying number o p)
copying_upon number o t p = then_dropped o.sent.dropped (entry.Packet (packet.Repeated number p.world.links.next)) t (with_links p o.after)

repeating_as_upon : (number : ℕ) (x : Option Packet) (t : List ℕ) (p : Play) → repeating_as number x (upon t p) ≡ upon t (repeating_as number x p)
repeating_as_upon number None t p = skipping_upon skip.NoPacket t p
repeating_as_upon number (Some x) t p =
    either (nat_lt p.world.links.next (2 ^ 63)) t _ _ (copying number (sending p.world.links x.from x.to x.bytes) p) p (copying_upon number (sending p.world.links x.from x.to x.bytes) t p) refl

repeating_upon : (number : ℕ) (t : List ℕ) (p : Play) → repeating_one number (upon t p) ≡ upon t (repeating_one number p)
repeating_upon number t p = repeating_as_upon number (packet_of p.world.links.packets number) t p

-- what is done by number, and writes behind what stood before
abbrev IsUpon : (ℕ → Play → Play) → Type 0
IsUpon act = (n : ℕ) (t : List ℕ) (p : Play) → act n (upon t p) ≡ upon t (act n p)

oldest_upon : (act : ℕ → Play → Play) (o : Option ℕ) (t : List ℕ) (p : Play) → IsUpon act → with_oldest act o (upon t p) ≡ upon t (with_oldest act o p)
oldest_upon act None t p is = skipping_upon skip.NoPacket t p
oldest_upon act (Some number) t p is = is number t p

on_oldest_upon : (act : ℕ → Play → Play) (from to : ℕ) (t : List ℕ) (p : Play) → IsUpon act → on_oldest act from to (upon t p) ≡ upon t (on_oldest act from to p)
on_oldest_upon act from to t p is = oldest_upon act (oldest_on p.world.links.packets from to) t p is

-- ---- devices

answering_upon : (n : ℕ) (o : Commanded) (t : List ℕ) (p : Play) → answering n o (upon t p) ≡ upon t (answering n o p)
answering_upon n o t p = giving_upon n (input.Answered o.answer) t (with_world p o.world)

doing_due_upon : (n : ℕ) (o : Option (ℕ × PrCommand)) (t : List ℕ) (p : Play) → doing_due n o (upon t p) ≡ upon t (doing_due n o p)
doing_due_upon n None t p = refl
doing_due_upon n (Some x) t p = answering_upon n (commanded p.world n x.0 x.1) t p

after_readying_upon : (n : ℕ) (t : List ℕ) (p : Play) → after_readying n (upon t p) ≡ upon t (after_readying n p)
after_readying_upon n t p = doing_due_upon n (due p.world n) t p

doing_command_upon : (n : ℕ) (t : List ℕ) (p : Play) → doing_command n (upon t p) ≡ upon t (doing_command n p)
doing_command_upon n t p = ap (λ (q : Play). after_readying n q) (giving_upon n input.CommandDue t p) ∙ after_readying_upon n t (giving n input.CommandDue p)

on_disk_due_upon : (n : ℕ) (o : Option (ℕ × PrCommand)) (t : List ℕ) (p : Play) → on_disk_due n o (upon t p) ≡ upon t (on_disk_due n o p)
on_disk_due_upon n None t p = skipping_upon skip.NoWork t p
on_disk_due_upon n (Some x) t p = doing_command_upon n t p

on_disk_upon : (n : ℕ) (t : List ℕ) (p : Play) → on_disk n (upon t p) ≡ upon t (on_disk n p)
on_disk_upon n t p = either (is_up p.world n) t _ _ (on_disk_due n (due p.world n) p) (skipping skip.Down p) (on_disk_due_upon n (due p.world n) t p) (skipping_upon skip.Down t p)

writing_if_upon : (n d value : ℕ) (r : Result ℕ WriteRefusal) (t : List ℕ) (p : Play) → writing_if n d value r (upon t p) ≡ upon t (writing_if n d value r p)
writing_if_upon n d value (Ok e) t p =
    giving_upon n (input.Wrote d value (commanded p.world n d (command.Write value)).answer) t (with_world p (commanded p.world n d (command.Write value)).world)
writing_if_upon n d value (Err cause) t p = telling_upon (entry.Device (device.Refused n d value cause)) t p

writing_at_upon : (n d value : ℕ) (o : Option Node) (t : List ℕ) (p : Play) → writing_at n d value o (upon t p) ≡ upon t (writing_at n d value o p)
writing_at_upon n d value None t p = skipping_upon skip.Down t p
writing_at_upon n d value (Some Down) t p = skipping_upon skip.Down t p
writing_at_upon n d value (Some (Up x)) t p = writing_if_upon n d value (may_write_as p.world.cluster n d x.seat) t p

writing_upon : (n d value : ℕ) (t : List ℕ) (p : Play) → writing n d value (upon t p) ≡ upon t (writing n d value p)
writing_upon n d value t p = writing_at_upon n d value (node_at p.world n) t p

-- ---- rounds

bringing_upon : (nodes number : ℕ) (t : List ℕ) (p : Play) → bringing nodes number (upon t p) ≡ upon t (bringing nodes number p)
bringing_upon nodes number t p = either (is_between nodes (packet_of p.world.links.packets number)) t _ _ (delivering number p) p (delivering_upon number t p) refl

bringing_below_upon : (nodes number : ℕ) (t : List ℕ) (p : Play) → bringing_below nodes number (upon t p) ≡ upon t (bringing_below nodes number p)
bringing_below_upon nodes zero t p = refl
bringing_below_upon nodes (suc number) t p =
    ap (λ (q : Play). bringing nodes number q) (bringing_below_upon nodes number t p) ∙ bringing_upon nodes number t (bringing_below nodes number p)

doing_one_upon : (n : ℕ) (o : Option (ℕ × PrCommand)) (t : List ℕ) (p : Play) → doing_one n o (upon t p) ≡ upon t (doing_one n o p)
doing_one_upon n None t p = refl
doing_one_upon n (Some x) t p = doing_command_upon n t p

doing_some_upon : (n k : ℕ) (t : List ℕ) (p : Play) → doing_some n k (upon t p) ≡ upon t (doing_some n k p)
unfolding doing_some
doing_some_upon n zero t p = refl
doing_some_upon n (suc k) t p =
    ap (λ (q : Play). doing_one n (due q.world n) q) (doing_some_upon n k t p) ∙ doing_one_upon n (due (doing_some n k p).world n) t (doing_some n k p)

doing_all_upon : IsUpon doing_all
unfolding doing_all
doing_all_upon n t p = doing_some_upon n 4096 t p

ticking_upon : IsUpon ticking_one
ticking_upon n t p = either (is_up p.world n) t _ _ (giving n input.Tick p) p (giving_upon n input.Tick t p) refl

for_each_upon : (act : ℕ → Play → Play) (ns : List ℕ) (t : List ℕ) (p : Play) → IsUpon act → for_each act ns (upon t p) ≡ upon t (for_each act ns p)
for_each_upon act [] t p is = refl
for_each_upon act (n ∷ ns) t p is = ap (λ (q : Play). for_each act ns q) (is n t p) ∙ for_each_upon act ns t (act n p) is

round_upon : (nodes : ℕ) (ns : List ℕ) (t : List ℕ) (p : Play) → round_of nodes ns (upon t p) ≡ upon t (round_of nodes ns p)
round_upon nodes ns t p =
    ap (λ (q : Play). for_each ticking_one ns (for_each doing_all ns q)) (bringing_below_upon nodes p.world.links.next t p)
    ∙ (ap (λ (q : Play). for_each ticking_one ns q) (for_each_upon doing_all ns t (bringing_all nodes p) doing_all_upon)
    ∙ for_each_upon ticking_one ns t (for_each doing_all ns (bringing_all nodes p)) ticking_upon)

rounds_of_upon : (nodes : ℕ) (ns : List ℕ) (k : ℕ) (t : List ℕ) (p : Play) → rounds_of nodes ns k (upon t p) ≡ upon t (rounds_of nodes ns k p)
rounds_of_upon nodes ns zero t p = refl
rounds_of_upon nodes ns (suc k) t p = ap (λ (q : Play). round_of nodes ns q) (rounds_of_upon nodes ns k t p) ∙ round_upon nodes ns t (rounds_of nodes ns k p)

rounds_upon : (nodes count : ℕ) (t : List ℕ) (p : Play) → rounds nodes count (upon t p) ≡ upon t (rounds nodes count p)
unfolding rounds
rounds_upon nodes count t p = rounds_of_upon nodes (numbers_to nodes most_nodes) count t p

-- ---- lines

booting_upon : (n : ℕ) (t : List ℕ) (p : Play) → booting n (upon t p) ≡ upon t (booting n p)
booting_upon n t p = either (is_up p.world n) t _ _ (skipping skip.Up p) (giving n input.Boot p) (skipping_upon skip.Up t p) (giving_upon n input.Boot t p)

giving_up_upon : (n : ℕ) (i : Input) (t : List ℕ) (p : Play) → giving_up n i (upon t p) ≡ upon t (giving_up n i p)
giving_up_upon n i t p = either (is_up p.world n) t _ _ (giving n i p) (skipping skip.Down p) (giving_upon n i t p) (skipping_upon skip.Down t p)

probing_up_upon : (n : ℕ) (r : List ℕ) (good : Bool) (t : List ℕ) (p : Play) → probing_up n r good (upon t p) ≡ upon t (probing_up n r good p)
probing_up_upon n r good t p =
    either (monitors r (node_at p.world n)) t _ _ (giving n (input.Reported r good) p) (skipping skip.NoMonitor p) (giving_upon n (input.Reported r good) t p) (skipping_upon skip.NoMonitor t p)

probing_upon : (n : ℕ) (r : List ℕ) (good : Bool) (t : List ℕ) (p : Play) → probing n r good (upon t p) ≡ upon t (probing n r good p)
probing_upon n r good t p = either (is_up p.world n) t _ _ (probing_up n r good p) (skipping skip.Down p) (probing_up_upon n r good t p) (skipping_upon skip.Down t p)

asking_at_upon : (n : ℕ) (i : Input) (o : Option SkipCause) (t : List ℕ) (p : Play) → asking_at n i o (upon t p) ≡ upon t (asking_at n i o p)
asking_at_upon n i None t p = giving_upon n i t p
asking_at_upon n i (Some why) t p = skipping_upon why t p

asking_upon : (n : ℕ) (address : List ℕ) (client port : ℕ) (t : List ℕ) (p : Play) → asking n address client port (upon t p) ≡ upon t (asking n address client port p)
asking_upon n address client port t p =
    either (is_up p.world n) t _ _ (asking_at n (input.Client address client port) (refusal_in p.world address (node_at p.world n)) p) (skipping skip.Down p)
    (asking_at_upon n (input.Client address client port) (refusal_in p.world address (node_at p.world n)) t p) (skipping_upon skip.Down t p)

pub line_upon : (e : Event) (t : List ℕ) (p : Play) → line_on e (upon t p) ≡ upon t (line_on e p)
line_upon (event.Boot n) t p = booting_upon n t p
line_upon (event.Crash n) t p = giving_up_upon n input.Crash t p
line_upon (event.CrashAt n calls c) t p = telling_upon (entry.Schedule Armed) t (with_world p (with_stop p.world n calls (left_by c)))
line_upon (event.Tick n) t p = giving_up_upon n input.Tick t p
line_upon (event.Deliver number) t p = delivering_upon number t p
line_upon (event.Lose number) t p = losing_upon number t p
line_upon (event.Repeat number) t p = repeating_upon number t p
line_upon (event.Next from to) t p = on_oldest_upon delivering from to t p delivering_upon
line_upon (event.Drop from to) t p = on_oldest_upon losing from to t p losing_upon
line_upon (event.Again from to) t p = on_oldest_upon repeating_one from to t p repeating_upon
line_upon (event.Disk n) t p = on_disk_upon n t p
line_upon (event.Fault n d done) t p = telling_upon (entry.Schedule Armed) t (with_world p (with_fault p.world n d (Some done)))
line_upon (event.Write n d value) t p = writing_upon n d value t p
line_upon (event.Command n words) t p = giving_up_upon n (input.Commanded words) t p
line_upon (event.Outcome n r m o) t p = telling_upon (entry.Schedule Queued) t (with_world p (with_outcome p.world (record { node = n; resource = r; method = m; outcome = o })))
line_upon (event.Probe n r good) t p = probing_upon n r good t p
line_upon (event.Clock second) t p = telling_upon (entry.Schedule (Clock second)) t (with_world p (record p.world { clock = second }))
line_upon (event.Rounds count nodes) t p = ap (λ (q : Play). noting RoundsDone q) (rounds_upon nodes count t p) ∙ telling_upon (entry.Schedule RoundsDone) t (rounds nodes count p)
line_upon (event.Client n address client port) t p = asking_upon n address client port t p

-- the line, where this text stood before
pub line_behind : (e : Event) (w : WorldState) (t : List ℕ) → line_on e (play w t) ≡ play (line_on e (play w [])).world (t ++ (line_on e (play w [])).text)
line_behind e w t = ap (λ (s : List ℕ). line_on e (play w s)) (sym (append-nil t)) ∙ line_upon e t (play w [])
