-- Each thing that happens leaves the lines of nodes and members right.
use Rattle.std.specs.Prelude.{ℕ, ◌-◌, ◌≡◌, ◌≢◌, ◌≤◌, ◌⊎◌, ◌++◌, All, true, List, [], ◌∷◌, Option, None, Some, length, slice_get}
use Rattle.std.proofs.Common.{refl, sym, subst, ◌∙◌, inl, inr}
use Rattle.std.specs.List.{AllByRecursion}
use Rattle.cl_base.specs.declared.header.Header.{Header}
use Rattle.cl_base.specs.declared.method.Outcome as method
use Rattle.cl_base.specs.declared.packet.DropCause.{DropCause}
use Rattle.cl_base.specs.declared.packet.DropCause.TheVariants as drop
use Rattle.cmm_attempt.specs.Calls.{IsDevice}
use Rattle.interconnect.specs.Links as net
use Rattle.interconnect.specs.Links.{sending}
use Rattle.local_disk.specs.declared.memory.Choice.{Choice}
use Rattle.machine_base.specs.Put.{put}
use Rattle.machine_base.proofs.Puts.{put_here, put_there, same_or_not}
use Rattle.membership_machine.specs.Invariant.{Holds}
use Rattle.membership_machine.specs.State.{Memberships}
use Rattle.membership_machine.proofs.Preserved.{holds_of}
use Rattle.pgr_device.specs.Device.{Device}
use Rattle.pgr_device.specs.declared.command.PrCommand.{PrCommand}
use Rattle.pgr_device.specs.declared.command.PrCommand.TheVariants as command
use Rattle.record_disk.specs.Disks.{DiskState}
use Rattle.schedule_text.specs.declared.event.Event.{Event}
use Rattle.schedule_text.specs.declared.event.Event.TheVariants as event
use Rattle.schedule_text.specs.declared.line.Line.TheVariants as line
use Rattle.status_report.specs.declared.device_entry.DeviceEntry.TheVariants as device
use Rattle.status_report.specs.declared.entry.Entry.{Entry}
use Rattle.status_report.specs.declared.entry.Entry.TheVariants as entry
use Rattle.status_report.specs.declared.packet_entry.PacketEntry.TheVariants as packet
use Rattle.wire.specs.declared.message.Body.{Body}
use Rattle.history.specs.Moment.{Moment, Part, Said, Told}
use Rattle.history.specs.Starts.{is_started}
use Rattle.run_history.proofs.LineSteps.{doings_small}
use Rattle.node_model.specs.declared.cluster.Cluster.{Cluster}
use Rattle.node_model.specs.declared.input.Input.{Input}
use Rattle.node_model.specs.declared.input.Input.TheVariants as input
use Rattle.node_model.specs.declared.node.Node.{Node}
use Rattle.node_model.specs.declared.node.Node.TheVariants.{Down, Up}
use Rattle.node_model.specs.declared.output.Output.{Output}
use Rattle.node_model.specs.declared.output.Output.TheVariants.{Tells, Sends}
use Rattle.node_model.specs.Steps.{Outcome, stepped}
use Rattle.refinement.specs.Cuts.{doings}
use Rattle.refinement.specs.Doings.{Doing, Site, after_all, given_all, site}
use Rattle.refinement.specs.Guards.{MayAll}
use Rattle.refinement.specs.Runs.{IsAmong, IsRun, Letter, Nodes, WasSent, first_nodes, letters_of, moved}
use Rattle.refinement.specs.Runs.Move.{Arms, Takes as Takes_in}
use Rattle.refinement.specs.Steps.{IsCut, disk_rules}
use Rattle.refinement.specs.Ties.{setting_of}
use Rattle.refinement.proofs.Disks.{disks_keep_rules}
use Rattle.refinement.proofs.EveryRun.{every_run_is_one}
use Rattle.refinement.proofs.Facts.{step_may}
use Rattle.refinement.proofs.Handlers.{delivered_by}
use Rattle.refinement.proofs.Replies.{steps_are_cut}
use Rattle.world_model.specs.First.{first_cluster}
use Rattle.world_model.specs.Lines.{left_by}
use Rattle.run_history.specs.Happenings.{Arrives, Begins, Commands, Happening, IsPlain, Loses, MayAllHappen, MayHappen, Misses, Notes, Refuses, Repeats, Speaks, Strays, Takes, Writes, all_happened, armed_by, commanded, commanded_at, given_by, happened, removed, taking}
use Rattle.run_history.specs.Scenes.{Scene, adding, dropped_so, first_scene, passing, telling, with_links}
use Rattle.run_history.specs.Members.{BodyLines, LetterLines, MembersOfEachRun, NodeLines}
use Rattle.run_history.proofs.MemberDoings.{Goes, Heard, all_go, body_stays, seat_same}
use Rattle.run_history.proofs.Idle.{IdleFor, SameFor, passing_nodes, passing_same, passing_started, told_same}
use Rattle.run_history.proofs.Minor.{OutLines}
use Rattle.run_history.proofs.MemberRuns.{first_fit, run_arms, run_goes}

-- A scene whose nodes are those of a run, with their lines.
record Lined (c : Cluster) (v : Nodes) (ms : List Moment) : Type 0 where
  run : IsRun c v
  nodes : (k : ℕ) → NodeLines k (v.node k) ms
  sent : AllByRecursion (LetterLines ms) v.sent

abbrev InScene : Cluster → Scene → Type 0
InScene c s = Lined c s.nodes s.moments

node_stays : (k : ℕ) (node : Node) (before after : List Moment) → SameFor k before after → NodeLines k node before → NodeLines k node after
node_stays k Down before after f h = f.up ∙ h
node_stays k (Up x) before after f h = (f.up ∙ h.0, seat_same k x.seat before after f h.1)

letters_stay : (before after : List Moment) (ls : List Letter) → ((q : ℕ) → is_started q before ≡ true → is_started q after ≡ true) → AllByRecursion (LetterLines before) ls
    → AllByRecursion (LetterLines after) ls
letters_stay before after [] f h = tt
letters_stay before after (l ∷ ls) f h = (body_stays before after l.body f h.0, letters_stay before after ls f h.1)

letters_more : (ms : List Moment) (n : ℕ) (os : List Output) (old : List Letter) → AllByRecursion (OutLines ms) os → AllByRecursion (LetterLines ms) old
    → AllByRecursion (LetterLines ms) (letters_of n os ++ old)
letters_more ms n [] old h k = k
letters_more ms n (Tells e ∷ os) old h k = letters_more ms n os old h.1 k
letters_more ms n (Sends to b ∷ os) old h k = (h.0, letters_more ms n os old h.1 k)

-- what comes was sent
among_lines : (ms : List Moment) (from : ℕ) (b : Body) (ls : List Letter) → IsAmong from b ls → AllByRecursion (LetterLines ms) ls → BodyLines ms b
among_lines ms from b [] h all = absurd h
among_lines ms from b (l ∷ ls) (inl e) all = subst (λ z. BodyLines ms z) e.1 all.0
among_lines ms from b (l ∷ ls) (inr h) all = among_lines ms from b ls h all.1

hears : (ms : List Moment) (v : Nodes) (i : Input) → WasSent v i → AllByRecursion (LetterLines ms) v.sent → Heard ms (delivered_by i)
hears ms v (input.Packet from m) sent all = among_lines ms from m.body v.sent sent all
hears ms v _ sent all = tt

-- A node takes something.

put_lines : (f : ℕ → Node) (n : ℕ) (x : Node) (before after : List Moment) → NodeLines n x after → ((k : ℕ) → k ≢ n → SameFor k before after) → ((k : ℕ) → NodeLines k (f k) before)
    → (k : ℕ) → NodeLines k (put f n x k) after
put_lines f n x before after here same all k = go (same_or_not k n)
  where
    go : (k ≡ n) ⊎ (k ≢ n) → NodeLines k (put f n x k) after
    go (inl e) = subst (λ j. NodeLines j (put f n x j) after) (sym e) (subst (λ z. NodeLines n z after) (sym (put_here f n x)) here)
    go (inr ne) = subst (λ z. NodeLines k z after) (sym (put_there f n x k ne)) (node_stays k (f k) before after (same k ne) (all k))

step_goes : (c : Cluster) (v : Nodes) (n now : ℕ) (ends : method.Outcome) (i : Input) (s : Scene) → n ≤ 32 → All IsDevice c.attached → WasSent v i → Lined c v s.moments
    → (let o : Outcome DiskState = stepped disk_rules c n now ends (v.node n) (v.disk n) i in Goes n o.after o.given s)
step_goes c v n now ends i s low fits sent h =
    let M : Memberships = h.run.machine in
    let holds : Holds (setting_of c) M = holds_of (setting_of c) h.run.events M h.run.run in
    let o : Outcome DiskState = stepped disk_rules c n now ends (v.node n) (v.disk n) i in
    let cut : IsCut disk_rules c n now ends (v.node n) (v.disk n) i [] o = steps_are_cut disk_rules disks_keep_rules c n now ends (v.node n) (v.disk n) i in
    let x : Site = site (v.node n) (v.disk n).kept in
    let ds : List Doing = doings c n now ends cut.replies i (v.node n) in
    let may : MayAll c n (delivered_by i) x ds =
    step_may c M n now ends (v.node n) (v.disk n).kept i cut.replies low fits holds (h.run.stands n).tied (h.run.stands n).joins in
    let g : Goes n (after_all c n x ds).node (given_all c n x ds) s =
    all_go c n (delivered_by i) x ds s may (doings_small c n now ends cut.replies i (v.node n) (v.disk n).kept) (hears s.moments v i sent h.sent) (h.nodes n) in
    subst (λ (z : Site). Goes n z.node o.given s) cut.comes.left (subst (λ os. Goes n (after_all c n x ds).node os s) cut.comes.given g)

taking_lined : (c : Cluster) (s : Scene) (n now : ℕ) (ends : method.Outcome) (i : Input) → n ≤ 32 → All IsDevice c.attached → WasSent s.nodes i → InScene c s → InScene c (taking c n now ends i s)
taking_lined c s n now ends i low fits sent h =
    let v : Nodes = moved c s.nodes (Takes_in n now ends i) in
    let t : Scene = record s { nodes = v } in
    let os : List Output = given_by c n now ends i s.nodes in
    let g : Goes n (stepped disk_rules c n now ends (s.nodes.node n) (s.nodes.disk n) i).after os t = step_goes c s.nodes n now ends i t low fits sent h in
    let ms : List Moment = (passing n os t).moments in
    let started : (q : ℕ) → is_started q s.moments ≡ true → is_started q ms ≡ true = λ q k. passing_started q n os t k in
    subst (λ w. Lined c w ms) (sym (passing_nodes n os t)) (record {
      run = run_goes c s.nodes n now ends i low fits sent h.run;
      nodes = put_lines s.nodes.node n (stepped disk_rules c n now ends (s.nodes.node n) (s.nodes.disk n) i).after s.moments ms g.own (λ k ne. passing_same k n os t (g.others k ne)) h.nodes;
      sent = letters_more ms n os s.nodes.sent g.letters (letters_stay s.moments ms s.nodes.sent started h.sent);
    })

-- Lines that say nothing of nodes.

still : (c : Cluster) (v : Nodes) (before after : List Moment) → ((k : ℕ) → SameFor k before after) → Lined c v before → Lined c v after
still c v before after f h = record {
  run = h.run;
  nodes = λ k. node_stays k (v.node k) before after (f k) (h.nodes k);
  sent = letters_stay before after v.sent (f 0).started h.sent;
}

told_lined : (c : Cluster) (v : Nodes) (e : Entry) (ms : List Moment) → ((k : ℕ) → IdleFor k e) → Lined c v ms → Lined c v (Told e ∷ ms)
told_lined c v e ms idle h = still c v ms (Told e ∷ ms) (λ k. told_same k e ms (idle k)) h

said_same : (k : ℕ) (e : Event) (ms : List Moment) → SameFor k ms (Said (line.Event e) ∷ ms)
said_same k e ms = record { up = refl; member = refl; started = λ q h. h }

part_same : (k : ℕ) (e : Event) (ms : List Moment) → SameFor k ms (Part e ∷ ms)
part_same k e ms = record { up = refl; member = refl; started = λ q h. h }

dropped_lined : (c : Cluster) (o : Option (ℕ × DropCause)) (s : Scene) → InScene c s → InScene c (dropped_so o s)
dropped_lined c None s h = h
dropped_lined c (Some x) s h = told_lined c s.nodes (entry.Packet (packet.Dropped x.0 x.1)) s.moments (λ k. tt) h

-- a stop that is armed changes no node
arms_lined : (c : Cluster) (s : Scene) (n calls : ℕ) (choice : Choice) → InScene c s → Lined c (moved c s.nodes (Arms n calls choice)) s.moments
arms_lined c s n calls choice h = record { run = run_arms c s.nodes n calls choice h.run; nodes = h.nodes; sent = h.sent }

armed_lined : (c : Cluster) (e : Event) (s : Scene) → InScene c s → InScene c (armed_by c e s)
armed_lined c (event.Fault n d done) s h = h
armed_lined c (event.CrashAt n calls choice) s h = arms_lined c s n calls (left_by choice) h
armed_lined c _ s h = h

commanded_lined : (c : Cluster) (s : Scene) (n d : ℕ) (o : Option Device) (k : PrCommand) → InScene c s → InScene c (commanded_at s n d o k).scene
commanded_lined c s n d None k h = h
commanded_lined c s n d (Some x) k h = h

plain_sent : (v : Nodes) (i : Input) → IsPlain i → WasSent v i
plain_sent v (input.Packet from m) h = absurd h
plain_sent v _ h = tt

lined_kept : (c : Cluster) (s : Scene) (x : Happening) → All IsDevice c.attached → MayHappen c s x → InScene c s → InScene c (happened c s x)
lined_kept c s (Speaks e) fits may h = armed_lined c e (adding (Said (line.Event e)) s) (still c s.nodes s.moments (Said (line.Event e) ∷ s.moments) (λ k. said_same k e s.moments) h)
lined_kept c s (Begins e) fits may h = still c s.nodes s.moments (Part e ∷ s.moments) (λ k. part_same k e s.moments) h
lined_kept c s (Notes e) fits may h = told_lined c s.nodes (entry.Schedule e) s.moments (λ k. tt) h
lined_kept c s (Takes n now ends i) fits may h = taking_lined c s n now ends i may.0.1 fits (plain_sent s.nodes i may.1) h
lined_kept c s (Arrives number x m now ends) fits may h =
    let e : Entry = entry.Packet (packet.Delivered number x.from x.to) in
    taking_lined c (telling e (removed s number)) x.to now ends (input.Packet x.from m) may.3.1 fits may.4 (told_lined c s.nodes e s.moments (λ k. tt) h)
lined_kept c s (Strays number x) fits may h = told_lined c s.nodes (entry.Packet (packet.Delivered number x.from x.to)) s.moments (λ k. tt) h
lined_kept c s (Misses number x) fits may h = told_lined c s.nodes (entry.Packet (packet.Dropped number drop.Down)) s.moments (λ k. tt) h
lined_kept c s (Loses number x) fits may h = told_lined c s.nodes (entry.Packet (packet.Lost number)) s.moments (λ k. tt) h
lined_kept c s (Repeats number x) fits may h =
    let o : net.Outcome = sending s.links x.from x.to x.bytes in
    let e : Entry = entry.Packet (packet.Repeated number s.links.next) in
    dropped_lined c o.sent.dropped (telling e (with_links s o.after)) (told_lined c s.nodes e s.moments (λ k. tt) h)
lined_kept c s (Commands n d k now ends) fits may h =
    taking_lined c (commanded s n d k).scene n now ends (input.Answered (commanded s n d k).answer) may.0.1 fits tt (commanded_lined c s n d (slice_get s.devices (d - 1)) k h)
lined_kept c s (Writes n d value now ends) fits may h =
    taking_lined c (commanded s n d (command.Write value)).scene n now ends (input.Wrote d value (commanded s n d (command.Write value)).answer) may.0.1 fits tt
    (commanded_lined c s n d (slice_get s.devices (d - 1)) (command.Write value) h)
lined_kept c s (Refuses n d value cause) fits may h = told_lined c s.nodes (entry.Device (device.Refused n d value cause)) s.moments (λ k. tt) h

all_lined : (c : Cluster) (s : Scene) (hs : List Happening) → All IsDevice c.attached → MayAllHappen c s hs → InScene c s → InScene c (all_happened c s hs)
all_lined c s [] fits may h = h
all_lined c s (x ∷ hs) fits may h = all_lined c (happened c s x) hs fits may.1 (lined_kept c s x fits may.0 h)

first_lined : (h : Header) (cells : ℕ) → length h.devices ≤ 16 → InScene (first_cluster h) (first_scene h cells)
unfolding first_scene
first_lined h cells few = record {
  run = every_run_is_one (first_cluster h) [] (first_nodes (first_cluster h)) (first_fit h few) refl;
  nodes = λ k. refl;
  sent = tt;
}

pub members_of_each_run : MembersOfEachRun
members_of_each_run h cells hs few may =
    let l : InScene (first_cluster h) (all_happened (first_cluster h) (first_scene h cells) hs) =
    all_lined (first_cluster h) (first_scene h cells) hs (first_fit h few) may (first_lined h cells few) in
    record { nodes = l.nodes; sent = l.sent }
