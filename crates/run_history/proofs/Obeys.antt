-- A run obeys the disk rule where each write that is taken is a member's own.
use Rattle.std.specs.Prelude.{ℕ, ◌-◌, ◌≡◌, true, List, [], ◌∷◌, Option, None, Some, IfSome, slice_get}
use Rattle.std.proofs.Common.{refl, sym, subst}
use Rattle.std.specs.Option.{option_and_then}
use Rattle.cl_base.specs.declared.header.Header.{Header}
use Rattle.cl_base.specs.declared.method.Outcome as method
use Rattle.cl_base.specs.declared.packet.DropCause.{DropCause}
use Rattle.cmm_attempt.proofs.Basics.{if_either, none_some, same_some}
use Rattle.device_queue.specs.declared.task.Task.{Task}
use Rattle.device_queue.specs.declared.task.Work.{Work}
use Rattle.device_queue.specs.declared.task.Work.TheVariants.{Joining, Seizing}
use Rattle.device_queue.specs.Queue.{due_device, first_of}
use Rattle.device_queue.specs.Tasks.{command_in}
use Rattle.interconnect.specs.Links as net
use Rattle.interconnect.specs.Links.{sending}
use Rattle.pgr_device.specs.Device.{Device}
use Rattle.pgr_device.specs.declared.command.PrCommand.{PrCommand}
use Rattle.pgr_device.specs.declared.command.PrCommand.TheVariants as command
use Rattle.schedule_text.specs.declared.event.Event.{Event}
use Rattle.schedule_text.specs.declared.event.Event.TheVariants as event
use Rattle.schedule_text.specs.declared.line.Line.TheVariants as line
use Rattle.seize.specs.Answers.{Answer}
use Rattle.seize.specs.Joining as joining
use Rattle.seize.specs.Seizing as seizing
use Rattle.seize.specs.declared.step.JoinStep.{JoinStep}
use Rattle.seize.specs.declared.step.JoinStep.TheVariants as join
use Rattle.seize.specs.declared.step.SeizeStep.{SeizeStep}
use Rattle.seize.specs.declared.step.SeizeStep.TheVariants as seize
use Rattle.status_report.specs.declared.device_entry.DeviceAnswer.{DeviceAnswer}
use Rattle.status_report.specs.declared.device_entry.DeviceEntry.TheVariants as device
use Rattle.status_report.specs.declared.entry.Entry.{Entry}
use Rattle.status_report.specs.declared.entry.Entry.TheVariants as entry
use Rattle.status_report.specs.declared.packet_entry.PacketEntry.TheVariants as packet
use Rattle.wire.specs.declared.message.Message.{Message}
use Rattle.wire.specs.Spelling.{spelling}
use Rattle.history.specs.DiskRule.{DiskRule, IsMembersOwn, takes}
use Rattle.history.specs.Moment.{Moment, Said, Told}
use Rattle.run_history.specs.CommandLines.{AllQuiet, CommandFirst}
use Rattle.run_history.proofs.LineSteps.{commands_are_told}
use Rattle.node_model.specs.Devices.{answer_told}
use Rattle.node_model.specs.declared.cluster.Cluster.{Cluster}
use Rattle.node_model.specs.declared.input.Input.{Input}
use Rattle.node_model.specs.declared.input.Input.TheVariants as input
use Rattle.node_model.specs.declared.node.Node.{Node}
use Rattle.node_model.specs.declared.node.Node.TheVariants.{Down, Up}
use Rattle.node_model.specs.declared.output.Output.{Output}
use Rattle.node_model.specs.declared.output.Output.TheVariants.{Tells, Sends}
use Rattle.refinement.specs.Runs.{moved}
use Rattle.refinement.specs.Runs.Move.{Takes as Takes_in}
use Rattle.world_model.specs.Devices.{due_at}
use Rattle.world_model.specs.First.{first_cluster}
use Rattle.world_model.specs.Sends.{is_sent, name_of}
use Rattle.run_history.specs.WorldLines.{AllWritesAreOwn, DiskRuleByWrites, WritesAreOwn}
use Rattle.run_history.proofs.LineDevices.{NoCommand}
use Rattle.run_history.proofs.DevicesRun.{AnswersTo, due_tells, packet_quiet, plain_quiet, quiet_entry, write_tells}
use Rattle.run_history.proofs.Reached.{Reached, reached_more}
use Rattle.run_history.specs.Happenings.{Arrives, Begins, Commanded, Commands, Happening, Loses, MayAllHappen, MayHappen, Misses, Notes, Refuses, Repeats, Speaks, Strays, Takes, Writes, all_happened, armed_by, commanded_at, given_by, happened, removed, taking}
use Rattle.run_history.specs.Scenes.{Scene, adding, dropped_so, first_scene, passing, posting, sent_as, telling, with_links}

-- A due command is no write.

abbrev NotWrite : PrCommand → Type 0
NotWrite (command.Write value) = ⊥
NotWrite _ = Unit {0}

seizing_writes_nothing : (s : seizing.SeizeState) (step : SeizeStep) → IfSome (seizing.command_at s step) NotWrite
seizing_writes_nothing s seize.Check = tt
seizing_writes_nothing s seize.Register = tt
seizing_writes_nothing s seize.ReadWord = tt
seizing_writes_nothing s (seize.Swap expected) = tt
seizing_writes_nothing s seize.Reserve = tt
seizing_writes_nothing s (seize.ReadKeys reading) = tt
seizing_writes_nothing s (seize.Preempt victim reading) = tt
seizing_writes_nothing s (seize.Confirm keys) = tt
seizing_writes_nothing s (seize.Ended result) = tt

joining_writes_nothing : (j : joining.JoinState) (step : JoinStep) → IfSome (joining.command_at j step) NotWrite
joining_writes_nothing j join.Register = tt
joining_writes_nothing j join.ReadWord = tt
joining_writes_nothing j (join.Ended result) = tt

work_writes_nothing : (w : Work) → IfSome (command_in w) NotWrite
work_writes_nothing (Seizing s) = seizing_writes_nothing s s.step
work_writes_nothing (Joining j) = joining_writes_nothing j j.step

-- the command of the first task, if there is one
abbrev first_command : Option Task → Option PrCommand
first_command o = option_and_then (λ (t : Task). command_in t.work) o

first_writes_nothing : (o : Option Task) → IfSome (first_command o) NotWrite
first_writes_nothing None = tt
first_writes_nothing (Some t) = work_writes_nothing t.work

abbrev due_by : Option ℕ → Option PrCommand → Option (ℕ × PrCommand)
due_by o next = option_and_then (λ d. option_and_then (λ z. Some (d, z)) next) o

due_is : (o : Option ℕ) (next : Option PrCommand) (d : ℕ) (k : PrCommand) → due_by o next ≡ Some (d, k) → IfSome next NotWrite → NotWrite k
due_is None next d k is h = absurd (none_some (d, k) is)
due_is (Some e) None d k is h = absurd (none_some (d, k) is)
due_is (Some e) (Some z) d k is h = subst (λ (p : ℕ × PrCommand). NotWrite p.1) (same_some (e, z) (d, k) is) h

due_writes_nothing : (node : Node) (d : ℕ) (k : PrCommand) → due_at (Some node) ≡ Some (d, k) → NotWrite k
due_writes_nothing Down d k is = absurd (none_some (d, k) is)
due_writes_nothing (Up x) d k is = due_is (due_device x.tasks) (first_command (first_of x.tasks)) d k is (first_writes_nothing (first_of x.tasks))

-- Lines.

abbrev Obeys : Header → Scene → Type 0
Obeys h s = DiskRule h s.moments

told_obeys : (h : Header) (e : Entry) (ms : List Moment) → NoCommand e → DiskRule h ms → DiskRule h (Told e ∷ ms)
told_obeys h (entry.Device (device.Command n d k answer)) ms q r = absurd q
told_obeys h _ ms q r = (tt, r)

command_obeys : (h : Header) (n d : ℕ) (k : PrCommand) (a : DeviceAnswer) (ms : List Moment) → NotWrite k → DiskRule h ms → DiskRule h (Told (entry.Device (device.Command n d k a)) ∷ ms)
command_obeys h n d (command.Write value) a ms q r = absurd q
command_obeys h n d _ a ms q r = (tt, r)

write_obeys : (h : Header) (n d value : ℕ) (a : DeviceAnswer) (ms : List Moment) → (takes h ms n d value ≡ true → IsMembersOwn ms n d) → DiskRule h ms
    → DiskRule h (Told (entry.Device (device.Command n d (command.Write value) a)) ∷ ms)
write_obeys h n d value a ms own r = (own, r)

dropped_obeys : (h : Header) (o : Option (ℕ × DropCause)) (s : Scene) → Obeys h s → Obeys h (dropped_so o s)
dropped_obeys h None s r = r
dropped_obeys h (Some x) s r = (tt, r)

posted_obeys : (h : Header) (from to : ℕ) (m : Message) (s : Scene) → Obeys h s → Obeys h (posting from to m s)
posted_obeys h from to m s r =
    let o : net.Outcome = sending s.links from to (spelling m) in
    let e : Entry = entry.Packet (packet.Sent s.links.next from to (name_of m.body) (spelling m)) in
    if_either (Obeys h) (is_sent s.links m) (sent_as from to m o s) s (dropped_obeys h o.sent.dropped (telling e (with_links s o.after)) (tt, r)) r

passing_obeys : (h : Header) (n : ℕ) (os : List Output) (s : Scene) → AllQuiet os → Obeys h s → Obeys h (passing n os s)
passing_obeys h n [] s q r = r
passing_obeys h n (Tells e ∷ os) s q r = passing_obeys h n os (telling e s) q.1 (told_obeys h e s.moments (quiet_entry e q.0) r)
passing_obeys h n (Sends to b ∷ os) s q r =
    passing_obeys h n os (posting n to (record { sender = n; body = b }) s) q.1 (posted_obeys h n to (record { sender = n; body = b }) s r)

quiet_obeys : (h : Header) (n now : ℕ) (ends : method.Outcome) (i : Input) (s : Scene) → AllQuiet (given_by (first_cluster h) n now ends i s.nodes) → Obeys h s
    → Obeys h (taking (first_cluster h) n now ends i s)
quiet_obeys h n now ends i s q r =
    passing_obeys h n (given_by (first_cluster h) n now ends i s.nodes) (record s { nodes = moved (first_cluster h) s.nodes (Takes_in n now ends i) }) q r

-- A command, and its answer.

first_obeys : (h : Header) (n d : ℕ) (k : PrCommand) (now : ℕ) (ends : method.Outcome) (i : Input) (a : Answer) (s : Scene) → CommandFirst n d k a (given_by (first_cluster h) n now ends i s.nodes)
    → DiskRule h (Told (entry.Device (device.Command n d k (answer_told a))) ∷ s.moments) → Obeys h (taking (first_cluster h) n now ends i s)
first_obeys h n d k now ends i a s told r =
    let done : Scene = record s { nodes = moved (first_cluster h) s.nodes (Takes_in n now ends i) } in
    subst (λ os. Obeys h (passing n os done)) (sym told.first)
    (passing_obeys h n told.others (telling (entry.Device (device.Command n d k (answer_told a))) done) told.quiet r)

device_obeys : (h : Header) (s : Scene) (n d : ℕ) (k : PrCommand) (now : ℕ) (ends : method.Outcome) (f : Commanded → Input) (o : Option Device) → AnswersTo h s n d k now ends f
    → ((a : DeviceAnswer) → DiskRule h (Told (entry.Device (device.Command n d k a)) ∷ s.moments))
    → Obeys h (taking (first_cluster h) n now ends (f (commanded_at s n d o k)) (commanded_at s n d o k).scene)
device_obeys h s n d k now ends f None told r =
    let o : Commanded = commanded_at s n d None k in
    first_obeys h n d k now ends (f o) o.answer o.scene (told o) (r (answer_told o.answer))
device_obeys h s n d k now ends f (Some x) told r =
    let o : Commanded = commanded_at s n d (Some x) k in
    first_obeys h n d k now ends (f o) o.answer o.scene (told o) (r (answer_told o.answer))

-- Happenings.

armed_obeys : (h : Header) (c : Cluster) (e : Event) (s : Scene) → Obeys h s → Obeys h (armed_by c e s)
armed_obeys h c (event.Fault n d done) s r = r
armed_obeys h c (event.CrashAt n calls choice) s r = r
armed_obeys h c _ s r = r

obeys_kept : (h : Header) (s : Scene) (x : Happening) → WritesAreOwn h s → MayHappen (first_cluster h) s x → Obeys h s → Obeys h (happened (first_cluster h) s x)
obeys_kept h s (Speaks e) own may r = armed_obeys h (first_cluster h) e (adding (Said (line.Event e)) s) (tt, r)
obeys_kept h s (Begins e) own may r = (tt, r)
obeys_kept h s (Notes e) own may r = (tt, r)
obeys_kept h s (Takes n now ends i) own may r =
    quiet_obeys h n now ends i s
    (plain_quiet n (s.nodes.node n) i (given_by (first_cluster h) n now ends i s.nodes) may.1 (commands_are_told (first_cluster h) n now ends (s.nodes.node n) (s.nodes.disk n) i)) r
obeys_kept h s (Arrives number x m now ends) own may r =
    let t : Scene = telling (entry.Packet (packet.Delivered number x.from x.to)) (removed s number) in
    quiet_obeys h x.to now ends (input.Packet x.from m) t
    (packet_quiet x.to (s.nodes.node x.to) x.from m (given_by (first_cluster h) x.to now ends (input.Packet x.from m) s.nodes)
    (commands_are_told (first_cluster h) x.to now ends (s.nodes.node x.to) (s.nodes.disk x.to) (input.Packet x.from m)))
    (tt, r)
obeys_kept h s (Strays number x) own may r = (tt, r)
obeys_kept h s (Misses number x) own may r = (tt, r)
obeys_kept h s (Loses number x) own may r = (tt, r)
obeys_kept h s (Repeats number x) own may r =
    let o : net.Outcome = sending s.links x.from x.to x.bytes in
    dropped_obeys h o.sent.dropped (telling (entry.Packet (packet.Repeated number s.links.next)) (with_links s o.after)) (tt, r)
obeys_kept h s (Commands n d k now ends) own may r =
    device_obeys h s n d k now ends (λ o. input.Answered o.answer) (slice_get s.devices (d - 1)) (due_tells h s n d k now ends (s.nodes.node n) refl may.2)
    (λ a. command_obeys h n d k a s.moments (due_writes_nothing (s.nodes.node n) d k may.2) r)
obeys_kept h s (Writes n d value now ends) own may r =
    device_obeys h s n d (command.Write value) now ends (λ o. input.Wrote d value o.answer) (slice_get s.devices (d - 1)) (write_tells h s n d value now ends (s.nodes.node n) _ refl may.1)
    (λ a. write_obeys h n d value a s.moments (own n d value now ends may) r)
obeys_kept h s (Refuses n d value cause) own may r = (tt, r)

all_obey : (h : Header) (cells : ℕ) (s : Scene) (hs : List Happening) → AllWritesAreOwn h cells → Reached (first_cluster h) (first_scene h cells) s → MayAllHappen (first_cluster h) s hs → Obeys h s
    → Obeys h (all_happened (first_cluster h) s hs)
all_obey h cells s [] own r may k = k
all_obey h cells s (x ∷ hs) own r may k =
    let here : WritesAreOwn h s = subst (λ z. WritesAreOwn h z) r.is (own r.happenings r.may) in
    all_obey h cells (happened (first_cluster h) s x) hs own (reached_more (first_cluster h) (first_scene h cells) s x r may.0) may.1 (obeys_kept h s x here may.0 k)

first_obeys_it : (h : Header) (cells : ℕ) → Obeys h (first_scene h cells)
unfolding first_scene
first_obeys_it h cells = tt

pub disk_rule_by_writes : DiskRuleByWrites
disk_rule_by_writes h cells hs own may =
    all_obey h cells (first_scene h cells) hs own (record { happenings = []; may = tt; is = refl }) may (first_obeys_it h cells)
