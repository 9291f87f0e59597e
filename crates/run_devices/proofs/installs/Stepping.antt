-- In each step of a run, what a node installs tells the seizings that the history has, and no others.
use Rattle.attempt_laws.specs.Asking.{numbers_of}
use Rattle.cl_base.specs.Limits.{most_devices}
use Rattle.cl_base.specs.declared.header.Header.{Header}
use Rattle.cl_base.specs.declared.method.Outcome as method
use Rattle.cluster_machine.specs.Cluster.{Cluster as Whole}
use Rattle.cluster_ties.proofs.First.{in_order}
use Rattle.cmm_attempt.proofs.Basics.{same_some}
use Rattle.history.specs.Contact.{AttemptsDiffer}
use Rattle.history.specs.Moment.{Moment, Told}
use Rattle.interconnect.specs.Links.{Packet}
use Rattle.membership_machine.specs.Invariant.{Holds}
use Rattle.membership_machine.specs.State.{Memberships}
use Rattle.node_model.specs.Steps.{Outcome, stepped}
use Rattle.node_model.specs.declared.cluster.Cluster.{Cluster}
use Rattle.node_model.specs.declared.input.Input.TheVariants as input
use Rattle.node_model.specs.declared.input.Input.{Input}
use Rattle.node_model.specs.declared.node.Node.TheVariants.{Down, Up}
use Rattle.node_model.specs.declared.node.Node.{Node}
use Rattle.refinement.specs.node_widths.Widths.{NodeFits}
use Rattle.pgr_device.specs.Device.{Device}
use Rattle.pgr_device.specs.declared.command.PrCommand.TheVariants as command
use Rattle.pgr_device.specs.declared.command.PrCommand.{PrCommand}
use Rattle.record_disk.specs.Disks.{DiskState}
use Rattle.refinement.proofs.DeviceWidths.{command_keeps}
use Rattle.refinement.proofs.EveryRun.{is_true}
use Rattle.refinement.proofs.Facts.{known_by, step_may}
use Rattle.refinement.proofs.Handlers.{delivered_by}
use Rattle.refinement.specs.Courses.{Reply}
use Rattle.refinement.specs.Cuts.{doings}
use Rattle.refinement.specs.Doings.Act.{Takes}
use Rattle.refinement.specs.Doings.{Doing, Site, given_all, gives}
use Rattle.refinement.specs.Guards.{MayAll}
use Rattle.refinement.specs.Runs.Move.{Takes as Takes_in}
use Rattle.refinement.specs.Runs.{AnswersFit, Nodes, WasSent, moved}
use Rattle.refinement.specs.Steps.{disk_rules}
use Rattle.refinement.specs.Ties.{setting_of}
use Rattle.refinement.specs.Whole.{IsTrue}
use Rattle.refinement.specs.Worlds.{AllFit, Keeps}
use Rattle.run_history.proofs.ContactWidths.{StepFits, all_spelled, move_fits, node_due}
use Rattle.run_history.proofs.Courses.{doings_so}
use Rattle.run_history.proofs.DevicesRun.{due_tells, packet_quiet, plain_quiet}
use Rattle.run_history.proofs.Heard.{low_number}
use Rattle.run_history.proofs.LineSteps.{commands_are_told}
use Rattle.run_history.proofs.Reached.{Reached}
use Rattle.run_history.proofs.Stays.{whole_holds}
use Rattle.run_history.proofs.WholeScenes.{scene_of}
use Rattle.run_history.specs.CommandLines.{AllQuiet, CommandFirst}
use Rattle.run_history.specs.Happenings.Happening.{Arrives, Commands, Takes, Writes}
use Rattle.run_history.specs.Happenings.{commanded, Happening, MayHappen, all_happened, answering, commanded_at, given_by, happened, removed, taking, wrote}
use Rattle.run_history.specs.Scenes.{Scene, first_scene, passing, telling}
use Rattle.run_history.specs.Sites.{OwnIn}
use Rattle.run_history.specs.Stages.{Sized, site_of}
use Rattle.run_history.specs.Wholes.{IsWhole}
use Rattle.run_devices.proofs.installs.Acts.{MineIn}
use Rattle.run_devices.proofs.installs.Along.{MeIn, all_install}
use Rattle.run_devices.proofs.installs.Answered.{command_still, plain_none, wrote_still}
use Rattle.run_devices.proofs.installs.Asks.{promise_in}
use Rattle.run_devices.proofs.installs.Calls.{HandLow, HandShown}
use Rattle.run_devices.proofs.installs.Doings.{AllStill}
use Rattle.run_devices.proofs.installs.Links.{AllSay, packet_says, say_later}
use Rattle.run_devices.proofs.installs.Runs.{Comes, known_facts, run_shows}
use Rattle.run_devices.proofs.installs.Steps.{quiet_still}
use Rattle.run_devices.proofs.installs.Taken.{Facts, IsShown, ground_of, mine_at, more_said, packets_begin}
use Rattle.run_devices.specs.installs.Shown.{AllInstall, BodyShown, Shown, shown_in}
use Rattle.run_devices.proofs.readings.Goes.{Goes}
use Rattle.run_devices.proofs.readings.Letters.{arrived_hand}
use Rattle.run_devices.proofs.readings.Moments.{delivered_reads, plain_hand}
use Rattle.run_devices.proofs.readings.Runs.{run_reads}
use Rattle.run_devices.specs.readings.Sites.{InHand, IsReading}
use Rattle.run_seizings.proofs.Asked.{AllMay}
use Rattle.run_seizings.proofs.Moments.{answer_fits, due_low, due_own, plain_fits, plain_no, plain_sent}
use Rattle.run_seizings.proofs.Steps.{Ground, OwnKeysOnly, answer_may, plain_may}
use Rattle.run_devices.specs.valid.Engaged.{SeizersEngaged}
use Rattle.seize.specs.Answers.{Answer}
use Rattle.status_report.specs.declared.entry.Entry.TheVariants as entry
use Rattle.status_report.specs.declared.packet_entry.PacketEntry.TheVariants as packet
use Rattle.std.proofs.Common.{ap, arith, refl, subst, sym, ◌∙◌}
use Rattle.std.specs.Prelude.{Bool, List, None, Option, Some, length, slice_get, ℕ, ◌-◌, ◌<◌, ◌^◌, ◌≡◌, ◌≤◌}
use Rattle.wire.specs.Spelling.{IsNode}
use Rattle.wire.specs.declared.message.Message.{Message}
use Rattle.world_model.specs.First.{first_cluster}
use Rattle.run_devices.specs.readings.Readings.{AreInOrder}
use Rattle.run_devices.proofs.readings.Order.{header_order}

-- ---- a step

-- however it is cut, where it gives what the step gives
abbrev pub StepInstalls : Header → Cluster → ℕ → ℕ → method.Outcome → Input → Scene → Type 0
StepInstalls h c n now ends i s = (replies : List Reply) → given_all c n (site_of s.nodes n) (doings c n now ends replies i (s.nodes.node n)) ≡ given_by c n now ends i s.nodes
    → AllInstall h c n (site_of s.nodes n) (doings c n now ends replies i (s.nodes.node n)) (record s { nodes = moved c s.nodes (Takes_in n now ends i) })

step_installs : (h : Header) (c : Cluster) (n now : ℕ) (ends : method.Outcome) (i : Input) (s : Scene) (high : ℕ) → c.id ≡ h.cluster → Sized c → AreInOrder (numbers_of c.attached)
    → (b : Ground c s.nodes) → IsNode n → now < 2 ^ 64 → WasSent s.nodes i → AnswersFit i → InHand h s.moments n (delivered_by i)
    → ((replies : List Reply) → AllMay h c n (delivered_by i) None (site_of s.nodes n) (doings c n now ends replies i (s.nodes.node n)))
    → AttemptsDiffer (taking c n now ends i s).moments → IsReading h s
    → ((replies : List Reply) → given_all c n (site_of s.nodes n) (doings c n now ends replies i (s.nodes.node n)) ≡ given_by c n now ends i s.nodes
    → AllStill c n (site_of s.nodes n) (doings c n now ends replies i (s.nodes.node n)))
    → HandLow high (delivered_by i) → HandShown (shown_in h (taking c n now ends i s).moments) b.machine s.moments (delivered_by i)
    → MineIn (shown_in h (taking c n now ends i s).moments) high (s.nodes.node n) → MeIn n (s.nodes.node n) → StepInstalls h c n now ends i s
step_installs h c n now ends i s high id sized apart b is time was answer hand guard differ k still low told mine me replies gives =
    let v : Nodes = s.nodes in
    let M : Memberships = b.machine in
    let w : Nodes = moved c v (Takes_in n now ends i) in
    let o : Outcome DiskState = stepped disk_rules c n now ends (v.node n) (v.disk n) i in
    let truth : IsTrue M i = is_true M v i was b.sent in
    let x : Site = site_of v n in
    let small : List Doing = doings c n now ends replies i (v.node n) in
    let may : MayAll c n (delivered_by i) x small =
    step_may c M n now ends (v.node n) (v.disk n).kept i replies is.1 sized.fits.devices.attached b.holds (b.stands n).tied (b.stands n).joins in
    let widths : StepFits c n o = move_fits c sized.fits v n now ends i (is.0, is.1, was, answer) time b.fits in
    let t : Scene = record s { nodes = w } in
    let first : Goes h n (delivered_by i) v w x None t =
    record { here = k.sites n; there = λ j ne. k.sites j; carried = k.carried; hand = hand; turn = tt; nodes = refl; says = k.says; brings = k.brings } in
    all_install h c M n (delivered_by i) high (taking c n now ends i s) v w x None small t id (low_number n is.1) sized.fits.devices.attached apart b.holds (known_by M i truth) (b.stands n).tied may
    (doings_so c n now ends replies i (v.node n)) (guard replies) (subst (λ os. AllFit n os) (sym gives) (all_spelled n o.given is widths.given)) differ
    (ap (λ os. passing n os t) gives) (still replies gives) low told first mine me

-- ---- what is known of a scene of a run

pub record Standing (h : Header) (s : Scene) : Type 0 where
  pub whole : IsWhole (first_cluster h) s
  pub engaged : SeizersEngaged h whole.machine s.moments
  pub shown : IsShown h s whole.machine.memberships
  pub reading : IsReading h s

facts_of : (h : Header) (s : Scene) (z : Standing h s) (x : Happening) → MayHappen (first_cluster h) s x → Facts h s z.whole (happened (first_cluster h) s x).moments
facts_of h s z x may = known_facts h s z.whole x may (in_order (setting_of (first_cluster h)) z.whole.machine z.whole.reached) z.engaged z.reading z.shown

own_me : (W : Whole) (n : ℕ) (node : Node) → OwnIn W n node → MeIn n node
own_me W n Down k = tt
own_me W n (Up x) k = k.me

me_at : (h : Header) (s : Scene) (w : IsWhole (first_cluster h) s) (n : ℕ) → MeIn n (s.nodes.node n)
me_at h s w n = own_me w.machine n (s.nodes.node n) (w.sites n).own

still_quiet : (c : Cluster) (n now : ℕ) (ends : method.Outcome) (v : Nodes) (i : Input) → AllQuiet (given_by c n now ends i v) → (replies : List Reply)
    → given_all c n (site_of v n) (doings c n now ends replies i (v.node n)) ≡ given_by c n now ends i v → AllStill c n (site_of v n) (doings c n now ends replies i (v.node n))
still_quiet c n now ends v i quiet replies gives = quiet_still c n (site_of v n) (doings c n now ends replies i (v.node n)) (subst AllQuiet (sym gives) quiet)

-- ---- each thing that a node takes

pub takes_install : (h : Header) (s : Scene) (n now : ℕ) (ends : method.Outcome) (i : Input) → Standing h s → MayHappen (first_cluster h) s (Takes n now ends i)
    → AttemptsDiffer (happened (first_cluster h) s (Takes n now ends i)).moments → StepInstalls h (first_cluster h) n now ends i s
takes_install h s n now ends i z m differ =
    let c : Cluster = first_cluster h in
    let w : IsWhole c s = z.whole in
    let end : List Moment = (taking c n now ends i s).moments in
    let b : Facts h s w end = facts_of h s z (Takes n now ends i) m in
    let quiet : AllQuiet (given_by c n now ends i s.nodes) =
    plain_quiet n (s.nodes.node n) i (given_by c n now ends i s.nodes) m.1 (commands_are_told c n now ends (s.nodes.node n) (s.nodes.disk n) i) in
    step_installs h c n now ends i s 0 refl (record { fits = w.cluster.fits; small = w.cluster.small }) (header_order h) (ground_of c s w) m.0 m.2
    (plain_sent s.nodes i m.1) (plain_fits i m.1) (plain_hand h s.moments n i m.1 m.3)
    (plain_may h c n now ends (s.nodes.node n) (s.nodes.disk n).kept i (plain_no i m.1) m.2 (w.fits.nodes n)) differ b.reading (still_quiet c n now ends s.nodes i quiet)
    (subst (λ d. HandLow 0 d) (sym (plain_none i m.1)) tt) (subst (λ d. HandShown (shown_in h end) w.machine.memberships s.moments d) (sym (plain_none i m.1)) tt) (mine_at h s w end 0 n b)
    (me_at h s w n)

pub arrives_install : (h : Header) (s : Scene) (number : ℕ) (x : Packet) (m : Message) (now : ℕ) (ends : method.Outcome) → Standing h s
    → MayHappen (first_cluster h) s (Arrives number x m now ends) → AttemptsDiffer (happened (first_cluster h) s (Arrives number x m now ends)).moments
    → StepInstalls h (first_cluster h) x.to now ends (input.Packet x.from m) (telling (entry.Packet (packet.Delivered number x.from x.to)) (removed s number))
arrives_install h s number x m now ends z may differ =
    let c : Cluster = first_cluster h in
    let w : IsWhole c s = z.whole in
    let M : Memberships = w.machine.memberships in
    let i : Input = input.Packet x.from m in
    let t : Scene = telling (entry.Packet (packet.Delivered number x.from x.to)) (removed s number) in
    let end : List Moment = (taking c x.to now ends i t).moments in
    let b : Facts h s w end = facts_of h s z (Arrives number x m now ends) may in
    let K : Shown = shown_in h end in
    let holds : Holds (setting_of c) M = whole_holds (setting_of c) w.machine w.reached in
    let quiet : AllQuiet (given_by c x.to now ends i s.nodes) =
    packet_quiet x.to (s.nodes.node x.to) x.from m (given_by c x.to now ends i s.nodes) (commands_are_told c x.to now ends (s.nodes.node x.to) (s.nodes.disk x.to) i) in
    let said : AllSay (BodyShown K M t.moments) s.links =
    say_later (BodyShown K M s.moments) (BodyShown K M t.moments) s.links (more_said h K M (setting_of c) (Told (entry.Packet (packet.Delivered number x.from x.to))) s.moments holds)
    (packets_begin h s w end b) in
    step_installs h c x.to now ends i t (promise_in m.body) refl (record { fits = w.cluster.fits; small = w.cluster.small }) (header_order h) (ground_of c s w) may.3 may.5 may.4 tt
    (arrived_hand h s.moments s.links number x m may.0 may.1 b.reading.carried)
    (plain_may h c x.to now ends (s.nodes.node x.to) (s.nodes.disk x.to).kept i tt may.5 (w.fits.nodes x.to)) differ (delivered_reads h s number x.from x.to b.reading)
    (still_quiet c x.to now ends s.nodes i quiet) (itself (promise_in m.body)) (packet_says (BodyShown K M t.moments) s.links number x said may.0 m may.1)
    (mine_at h s w end (promise_in m.body) x.to b) (me_at h s w x.to)
  where
    itself : (a : ℕ) → a ≤ a
    itself a = omega arith

-- a node takes the answer of a device, to its command or to a write
answer_installs : (h : Header) (s : Scene) (w : IsWhole (first_cluster h) s) (n now : ℕ) (ends : method.Outcome) (i : Input) (devices : List Device) (faults : List (Option Bool))
    → Facts h s w (taking (first_cluster h) n now ends i (scene_of s.nodes devices faults s.links s.moments)).moments → delivered_by i ≡ None
    → IsNode n → now < 2 ^ 64 → WasSent s.nodes i → AnswersFit i → InHand h s.moments n (delivered_by i)
    → ((replies : List Reply) → AllMay h (first_cluster h) n (delivered_by i) None (site_of s.nodes n) (doings (first_cluster h) n now ends replies i (s.nodes.node n)))
    → AttemptsDiffer (taking (first_cluster h) n now ends i (scene_of s.nodes devices faults s.links s.moments)).moments
    → ((replies : List Reply) → given_all (first_cluster h) n (site_of s.nodes n) (doings (first_cluster h) n now ends replies i (s.nodes.node n)) ≡ given_by (first_cluster h) n now ends i s.nodes
    → AllStill (first_cluster h) n (site_of s.nodes n) (doings (first_cluster h) n now ends replies i (s.nodes.node n)))
    → StepInstalls h (first_cluster h) n now ends i (scene_of s.nodes devices faults s.links s.moments)
answer_installs h s w n now ends i devices faults b none is time was fits hand guard differ still =
    let c : Cluster = first_cluster h in
    let t : Scene = scene_of s.nodes devices faults s.links s.moments in
    let end : List Moment = (taking c n now ends i t).moments in
    step_installs h c n now ends i t 0 refl (record { fits = w.cluster.fits; small = w.cluster.small }) (header_order h) (ground_of c s w) is time was fits hand guard differ
    (record { sites = b.reading.sites; carried = b.reading.carried; says = b.reading.says; brings = b.reading.brings }) still
    (subst (λ d. HandLow 0 d) (sym none) tt) (subst (λ d. HandShown (shown_in h end) w.machine.memberships s.moments d) (sym none) tt) (mine_at h s w end 0 n b) (me_at h s w n)

commands_by : (h : Header) (s : Scene) (w : IsWhole (first_cluster h) s) (n d : ℕ) (q : PrCommand) (now : ℕ) (ends : method.Outcome) (o : Option Device)
    → MayHappen (first_cluster h) s (Commands n d q now ends) → Facts h s w (answering (first_cluster h) n now ends (commanded_at s n d o q)).moments
    → AnswersFit (input.Answered (commanded_at s n d o q).answer) → OwnKeysOnly h (s.nodes.node n) (commanded_at s n d o q).answer
    → AttemptsDiffer (answering (first_cluster h) n now ends (commanded_at s n d o q)).moments
    → StepInstalls h (first_cluster h) n now ends (input.Answered (commanded_at s n d o q).answer) (commanded_at s n d o q).scene
commands_by h s w n d q now ends o may b fits own differ = by_device o b fits own differ
  where
    c : Cluster
    c = first_cluster h

    by_answer : (a : Answer) (devices : List Device) (faults : List (Option Bool)) → CommandFirst n d q a (given_by c n now ends (input.Answered a) s.nodes)
        → Facts h s w (taking c n now ends (input.Answered a) (scene_of s.nodes devices faults s.links s.moments)).moments
        → AnswersFit (input.Answered a) → OwnKeysOnly h (s.nodes.node n) a → AttemptsDiffer (taking c n now ends (input.Answered a) (scene_of s.nodes devices faults s.links s.moments)).moments
        → StepInstalls h c n now ends (input.Answered a) (scene_of s.nodes devices faults s.links s.moments)
    by_answer a devices faults first b fits own differ =
        answer_installs h s w n now ends (input.Answered a) devices faults b refl may.0 may.3 tt fits may.4
        (answer_may h c n now ends (s.nodes.node n) (s.nodes.disk n).kept a own) differ
        (λ replies gives. command_still c n now d ends q a (s.nodes.node n) (s.nodes.disk n).kept replies first.others may.2 (gives ∙ first.first) first.quiet)

    by_device : (o : Option Device) → Facts h s w (answering c n now ends (commanded_at s n d o q)).moments
        → AnswersFit (input.Answered (commanded_at s n d o q).answer) → OwnKeysOnly h (s.nodes.node n) (commanded_at s n d o q).answer
        → AttemptsDiffer (answering c n now ends (commanded_at s n d o q)).moments
        → StepInstalls h c n now ends (input.Answered (commanded_at s n d o q).answer) (commanded_at s n d o q).scene
    by_device None b f own e =
        by_answer (commanded_at s n d None q).answer s.devices s.faults (due_tells h s n d q now ends (s.nodes.node n) refl may.2 (commanded_at s n d None q)) b f own e
    by_device (Some x) b f own e =
        by_answer (commanded_at s n d (Some x) q).answer (commanded_at s n d (Some x) q).scene.devices (commanded_at s n d (Some x) q).scene.faults
        (due_tells h s n d q now ends (s.nodes.node n) refl may.2 (commanded_at s n d (Some x) q)) b f own e

pub commands_install : (h : Header) (s : Scene) (n d : ℕ) (q : PrCommand) (now : ℕ) (ends : method.Outcome) → Standing h s → MayHappen (first_cluster h) s (Commands n d q now ends)
    → AttemptsDiffer (happened (first_cluster h) s (Commands n d q now ends)).moments
    → StepInstalls h (first_cluster h) n now ends (input.Answered (commanded s n d q).answer) (commanded s n d q).scene
commands_install h s n d q now ends z may differ =
    let c : Cluster = first_cluster h in
    let w : IsWhole c s = z.whole in
    let keeps : (x : Device) → slice_get s.devices (d - 1) ≡ Some x → Keeps x n q =
    λ x is. command_keeps x n q may.0.0 may.0.1
    (node_due c n d q (Some (s.nodes.node n)) w.cluster.small may.0.1
    (λ node at. subst (λ z. NodeFits c n z) (same_some (s.nodes.node n) node at) (w.fits.nodes n)) may.2)
    (w.device_fits (d - 1) x is) in
    commands_by h s w n d q now ends (slice_get s.devices (d - 1)) may (facts_of h s z (Commands n d q now ends) may)
    (answer_fits c s n d q (slice_get s.devices (d - 1)) keeps)
    (due_own h s n d q (s.nodes.node n) w may.2 (due_low c n (s.nodes.node n) d q (w.fits.nodes n) may.2)) differ

writes_by : (h : Header) (s : Scene) (w : IsWhole (first_cluster h) s) (n d value now : ℕ) (ends : method.Outcome) (o : Option Device)
    → MayHappen (first_cluster h) s (Writes n d value now ends) → Facts h s w (wrote (first_cluster h) n d value now ends (commanded_at s n d o (command.Write value))).moments
    → AttemptsDiffer (wrote (first_cluster h) n d value now ends (commanded_at s n d o (command.Write value))).moments
    → StepInstalls h (first_cluster h) n now ends (input.Wrote d value (commanded_at s n d o (command.Write value)).answer) (commanded_at s n d o (command.Write value)).scene
writes_by h s w n d value now ends o may b differ = by_device o b differ
  where
    c : Cluster
    c = first_cluster h

    by_answer : (a : Answer) (devices : List Device) (faults : List (Option Bool))
        → Facts h s w (taking c n now ends (input.Wrote d value a) (scene_of s.nodes devices faults s.links s.moments)).moments
        → AttemptsDiffer (taking c n now ends (input.Wrote d value a) (scene_of s.nodes devices faults s.links s.moments)).moments
        → StepInstalls h c n now ends (input.Wrote d value a) (scene_of s.nodes devices faults s.links s.moments)
    by_answer a devices faults b differ =
        answer_installs h s w n now ends (input.Wrote d value a) devices faults b refl may.0 may.2 tt tt may.3
        (plain_may h c n now ends (s.nodes.node n) (s.nodes.disk n).kept (input.Wrote d value a) tt may.2 (w.fits.nodes n)) differ
        (λ replies gives. wrote_still c n now d value ends a (s.nodes.node n) (s.nodes.disk n).kept replies)

    by_device : (o : Option Device) → Facts h s w (wrote c n d value now ends (commanded_at s n d o (command.Write value))).moments
        → AttemptsDiffer (wrote c n d value now ends (commanded_at s n d o (command.Write value))).moments
        → StepInstalls h c n now ends (input.Wrote d value (commanded_at s n d o (command.Write value)).answer) (commanded_at s n d o (command.Write value)).scene
    by_device None b e = by_answer (commanded_at s n d None (command.Write value)).answer s.devices s.faults b e
    by_device (Some x) b e =
        by_answer (commanded_at s n d (Some x) (command.Write value)).answer (commanded_at s n d (Some x) (command.Write value)).scene.devices
        (commanded_at s n d (Some x) (command.Write value)).scene.faults b e

pub writes_install : (h : Header) (s : Scene) (n d value now : ℕ) (ends : method.Outcome) → Standing h s → MayHappen (first_cluster h) s (Writes n d value now ends)
    → AttemptsDiffer (happened (first_cluster h) s (Writes n d value now ends)).moments
    → StepInstalls h (first_cluster h) n now ends (input.Wrote d value (commanded s n d (command.Write value)).answer) (commanded s n d (command.Write value)).scene
writes_install h s n d value now ends z may differ =
    writes_by h s z.whole n d value now ends (slice_get s.devices (d - 1)) may (facts_of h s z (Writes n d value now ends) may) differ

-- ---- each run

pub standing_at : (h : Header) (cells : ℕ) (s : Scene) → length h.devices ≤ most_devices → h.cluster < 2 ^ 32 → Reached (first_cluster h) (first_scene h cells) s → Standing h s
standing_at h cells s few small r = subst (Standing h) r.is (by_run (run_shows h cells r.happenings few small r.may))
  where
    by_run : Comes h cells (all_happened (first_cluster h) (first_scene h cells) r.happenings) → Standing h (all_happened (first_cluster h) (first_scene h cells) r.happenings)
    by_run z = record { whole = z.whole; engaged = z.engaged; shown = z.shown; reading = (run_reads h cells r.happenings few small r.may).reading }
