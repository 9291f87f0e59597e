-- A line of the world, and the answer of a device, keep what attempts and messages have of seizings.
use Rattle.std.specs.Prelude.{ℕ, ◌≡◌, Bool, true, List, ◌∷◌, Option, None, Some, is_ok}
use Rattle.std.specs.Option.{option_and_then}
use Rattle.std.proofs.Common.{refl, sym, ap, subst, ◌∙◌}
use Rattle.cl_base.specs.declared.header.Header.{Header}
use Rattle.cl_base.specs.declared.method.Outcome as method
use Rattle.cl_base.specs.declared.packet.DropCause.{DropCause}
use Rattle.cmm_attempt.proofs.Basics.{none_some, same_some}
use Rattle.cmm_member.specs.Records.{NodeRecord}
use Rattle.device_queue.specs.Queue.{due_device, next_of, progress_after}
use Rattle.history.specs.Contact.{AttemptsDiffer}
use Rattle.history.specs.Order.{Always}
use Rattle.membership_machine.specs.Growth.{Grows}
use Rattle.membership_machine.specs.State.{Memberships}
use Rattle.node_model.specs.Devices.{answer_told, may_write_as}
use Rattle.node_model.specs.Steps.{at_second}
use Rattle.node_model.specs.declared.cluster.Cluster.{Cluster}
use Rattle.node_model.specs.declared.input.Input.{Input}
use Rattle.node_model.specs.declared.input.Input.TheVariants as input
use Rattle.node_model.specs.declared.node.Node.{Node}
use Rattle.node_model.specs.declared.node.Node.TheVariants.{Down, Up}
use Rattle.node_model.specs.declared.node.UpNode.{UpNode}
use Rattle.node_model.specs.declared.output.Output.{Output}
use Rattle.node_model.specs.declared.output.Output.TheVariants.{Tells}
use Rattle.pgr_device.specs.Device.{Device}
use Rattle.pgr_device.specs.declared.command.PrCommand.{PrCommand}
use Rattle.pgr_device.specs.declared.command.PrCommand.TheVariants as command
use Rattle.refinement.proofs.Handlers.{delivered_by}
use Rattle.refinement.specs.Courses.{Course, Reply, under}
use Rattle.refinement.specs.Cuts.{answered_course, doings, progress_course}
use Rattle.refinement.specs.Doings.{given_all, site}
use Rattle.refinement.specs.Runs.{AnswersFit}
use Rattle.refinement.specs.Ties.{setting_of}
use Rattle.run_history.proofs.DevicesRun.{due_tells, write_tells}
use Rattle.run_history.proofs.WholeScenes.{scene_of}
use Rattle.run_history.specs.CommandLines.{AllQuiet, CommandFirst}
use Rattle.run_history.specs.Cuts.{StepCut, step_events}
use Rattle.run_history.specs.Happenings.{Commanded, IsPlain, MayHappen, answering, armed_by, commanded_at, given_by, taking, wrote}
use Rattle.run_history.specs.Happenings.Happening.{Commands, Writes}
use Rattle.run_history.specs.Scenes.{Scene, dropped_so}
use Rattle.run_history.specs.Stages.{site_of}
use Rattle.run_history.specs.Wholes.{IsWhole}
use Rattle.schedule_text.specs.declared.event.Event.{Event}
use Rattle.schedule_text.specs.declared.event.Event.TheVariants as event
use Rattle.status_report.specs.declared.device_entry.DeviceEntry.TheVariants as device
use Rattle.status_report.specs.declared.entry.Entry.TheVariants as entry
use Rattle.world_model.specs.Devices.{due_at}
use Rattle.world_model.specs.First.{first_cluster}
use Rattle.run_seizings.proofs.Steps.{OwnKeysOnly, answer_may, plain_may}
use Rattle.run_devices.specs.installs.Shown.{BodyShown, Brings, NodeIn, Shown, shown_in}
use Rattle.run_devices.proofs.installs.Doings.{AllStill, body_later, quiet_keys}
use Rattle.run_devices.proofs.installs.Links.{AllSay, say_later}
use Rattle.run_devices.proofs.installs.Sends.{passing_brings}
use Rattle.run_devices.proofs.installs.Steps.{Stepped, progress_still, quiet_still, small_of, write_still}
use Rattle.run_devices.proofs.installs.Taken.{Facts, IsShown, answer_shown, packets_begin, sites_begin}
use Rattle.membership_machine.specs.Events.{Run}
use Rattle.node_model.specs.Steps.{stepped}
use Rattle.refinement.specs.Doings.Act.{Dates}
use Rattle.refinement.specs.Doings.Doing.{Does}
use Rattle.refinement.specs.Runs.{Nodes, moved}
use Rattle.refinement.specs.Runs.Move.{Takes as Takes_in}
use Rattle.refinement.specs.Steps.{disk_rules}
use Rattle.run_seizings.specs.Seized.{has_installed}
use Rattle.seize.specs.Answers.{Answer}

-- ---- what comes

pub plain_none : (i : Input) → IsPlain i → delivered_by i ≡ None
plain_none (input.Packet from m) k = absurd k
plain_none (input.Answered a) k = absurd k
plain_none (input.Wrote d value a) k = absurd k
plain_none _ k = refl

-- ---- a line of the world

-- what attempts have stays, as lines are told and packets come and go
pub world_shown : (h : Header) (s : Scene) (w : IsWhole (first_cluster h) s) (t : Scene) (N : Memberships) → Facts h s w t.moments → Grows w.machine.memberships N → t.nodes ≡ s.nodes
    → ((n e : ℕ) → has_installed n e s.moments ≡ true → has_installed n e t.moments ≡ true) → Always (Brings h) t.moments
    → (AllSay (BodyShown (shown_in h t.moments) N t.moments) s.links → AllSay (BodyShown (shown_in h t.moments) N t.moments) t.links) → IsShown h t N
world_shown h s w t N b grows same installs brings sends = record {
  sites = λ n. subst (λ (v : Nodes). NodeIn K (v.node n)) (sym same) (sites_begin h s w t.moments b n);
  packets = sends (say_later (BodyShown K w.machine.memberships s.moments) (BodyShown K N t.moments) s.links
      (body_later K w.machine.memberships N s.moments t.moments grows installs) (packets_begin h s w t.moments b));
  brings = brings;
}
  where
    K : Shown
    K = shown_in h t.moments

pub armed_shown : (h : Header) (c : Cluster) (e : Event) (s : Scene) (N : Memberships) → IsShown h s N → IsShown h (armed_by c e s) N
armed_shown h c (event.CrashAt n calls choice) s N k = record { sites = k.sites; packets = k.packets; brings = k.brings }
armed_shown h c (event.Fault n d done) s N k = record { sites = k.sites; packets = k.packets; brings = k.brings }
armed_shown h c _ s N k = k

pub dropped_nodes : (o : Option (ℕ × DropCause)) (s : Scene) → (dropped_so o s).nodes ≡ s.nodes
dropped_nodes None s = refl
dropped_nodes (Some drop) s = refl

pub dropped_brings : (h : Header) (o : Option (ℕ × DropCause)) (s : Scene) → Always (Brings h) s.moments → Always (Brings h) (dropped_so o s).moments
dropped_brings h None s k = k
dropped_brings h (Some drop) s k = (tt, k)

-- ---- a node takes what comes

pub quiet_brings : (h : Header) (s : Scene) (c : Cluster) (n now : ℕ) (ends : method.Outcome) (i : Input) (high : ℕ) (M : Memberships) (cut : StepCut c n now ends s.nodes i) → AllQuiet (given_by c n now ends i s.nodes)
    → Stepped h c M n high (shown_in h (taking c n now ends i s).moments) s.nodes (stepped disk_rules c n now ends (s.nodes.node n) (s.nodes.disk n) i) (small_of c n now ends s.nodes i cut)
    (taking c n now ends i s).moments
    → Always (Brings h) s.moments → Always (Brings h) (taking c n now ends i s).moments
quiet_brings h s c n now ends i high M cut quiet z old =
    passing_brings h (shown_in h (taking c n now ends i s).moments) z.went.machine (taking c n now ends i s).moments n (given_by c n now ends i s.nodes) _ quiet z.fits z.gives
    (λ k e d. quiet_keys h n (given_by c n now ends i s.nodes) (record s { nodes = moved c s.nodes (Takes_in n now ends i) }) quiet k e d) old

pub cut_quiet : (c : Cluster) (n now : ℕ) (ends : method.Outcome) (v : Nodes) (i : Input) (cut : StepCut c n now ends v i) → AllQuiet (given_by c n now ends i v)
    → AllStill c n (site_of v n) (small_of c n now ends v i cut)
cut_quiet c n now ends v i cut quiet = quiet_still c n (site_of v n) (small_of c n now ends v i cut) (subst AllQuiet (sym cut.comes.given) quiet)

-- ---- the answer to a command

due_so : (o : Option ℕ) (q : Option PrCommand) (d : ℕ) (k : PrCommand)
    → option_and_then {U = ℕ × PrCommand} (λ e. option_and_then {U = ℕ × PrCommand} (λ (j : PrCommand). Some (e, j)) q) o ≡ Some (d, k) → (o ≡ Some d) × (q ≡ Some k)
due_so None q d k h = absurd (none_some (d, k) h)
due_so (Some e) None d k h = absurd (none_some (d, k) h)
due_so (Some e) (Some j) d k h =
    let same : (e, j) ≡ (d, k) = same_some (e, j) (d, k) h in
    (ap (λ (z : ℕ × PrCommand). Some z.0) same, ap (λ (z : ℕ × PrCommand). Some z.1) same)

pub command_still : (c : Cluster) (n now d : ℕ) (ends : method.Outcome) (k : PrCommand) (a : Answer) (node : Node) (disk : NodeRecord) (replies : List Reply) (others : List Output)
    → due_at (Some node) ≡ Some (d, k)
    → given_all c n (site node disk) (doings c n now ends replies (input.Answered a) node) ≡ Tells (entry.Device (device.Command n d k (answer_told a))) ∷ others → AllQuiet others
    → AllStill c n (site node disk) (doings c n now ends replies (input.Answered a) node)
command_still c n now d ends k a Down disk replies others due is quiet = absurd (none_some (d, k) due)
command_still c n now d ends k a (Up x) disk replies others due is quiet =
    by_course (answered_course c n y a (due_device y.tasks) (next_of y.tasks))
    (ap (λ o. answered_course c n y a o (next_of y.tasks)) at.0 ∙ ap (λ q. answered_course c n y a (Some d) q) at.1) is
  where
    y : UpNode
    y = at_second now x

    at : (due_device x.tasks ≡ Some d) × (next_of x.tasks ≡ Some k)
    at = due_so (due_device x.tasks) (next_of x.tasks) d k due

    by_course : (course : Course) → course ≡ progress_course c n y d k a (progress_after y.tasks a)
        → given_all c n (site (Up y) disk) (under replies course) ≡ Tells (entry.Device (device.Command n d k (answer_told a))) ∷ others
        → AllStill c n (site (Up x) disk) (Does (Dates now) ∷ under replies course)
    by_course course same e = (
      (λ stirs. absurd stirs),
      subst (λ z. AllStill c n (site (Up y) disk) (under replies z)) (sym same)
          (progress_still c n y disk d k a (progress_after y.tasks a) replies others
          (subst (λ z. given_all c n (site (Up y) disk) (under replies z) ≡ Tells (entry.Device (device.Command n d k (answer_told a))) ∷ others) same e) quiet),
    )

pub wrote_still : (c : Cluster) (n now d value : ℕ) (ends : method.Outcome) (a : Answer) (node : Node) (disk : NodeRecord) (replies : List Reply)
    → AllStill c n (site node disk) (doings c n now ends replies (input.Wrote d value a) node)
wrote_still c n now d value ends a Down disk replies = tt
wrote_still c n now d value ends a (Up x) disk replies = ((λ stirs. absurd stirs), ((λ stirs. absurd stirs), write_still c n (site (Up (at_second now x)) disk) d a replies))

pub commands_shown : (h : Header) (s : Scene) (w : IsWhole (first_cluster h) s) (n d : ℕ) (q : PrCommand) (now : ℕ) (ends : method.Outcome) (o : Option Device) (N : Memberships)
    → MayHappen (first_cluster h) s (Commands n d q now ends)
    → (cut : StepCut (first_cluster h) n now ends s.nodes (input.Answered (commanded_at s n d o q).answer))
    → Facts h s w (answering (first_cluster h) n now ends (commanded_at s n d o q)).moments
    → AnswersFit (input.Answered (commanded_at s n d o q).answer) → OwnKeysOnly h (s.nodes.node n) (commanded_at s n d o q).answer
    → AttemptsDiffer (answering (first_cluster h) n now ends (commanded_at s n d o q)).moments
    → Run (setting_of (first_cluster h)) w.machine.memberships (step_events (first_cluster h) n now ends s.nodes (input.Answered (commanded_at s n d o q).answer) cut) N
    → IsShown h (answering (first_cluster h) n now ends (commanded_at s n d o q)) N
commands_shown h s w n d q now ends o N may cut b fits own differ run = by_device o cut b fits own differ run
  where
    c : Cluster
    c = first_cluster h

    by_answer : (a : Answer) (devices : List Device) (faults : List (Option Bool)) → (cut : StepCut c n now ends s.nodes (input.Answered a))
        → CommandFirst n d q a (given_by c n now ends (input.Answered a) s.nodes) → Facts h s w (taking c n now ends (input.Answered a) (scene_of s.nodes devices faults s.links s.moments)).moments
        → AnswersFit (input.Answered a) → OwnKeysOnly h (s.nodes.node n) a → AttemptsDiffer (taking c n now ends (input.Answered a) (scene_of s.nodes devices faults s.links s.moments)).moments
        → Run (setting_of c) w.machine.memberships (step_events c n now ends s.nodes (input.Answered a) cut) N
        → IsShown h (taking c n now ends (input.Answered a) (scene_of s.nodes devices faults s.links s.moments)) N
    by_answer a devices faults cut first b fits own differ run =
        answer_shown h s w n now ends (input.Answered a) devices faults (device.Command n d q (answer_told a)) first.others N cut b refl may.0 may.3 tt fits may.4
        (answer_may h c n now ends (s.nodes.node n) (s.nodes.disk n).kept a own) differ
        (command_still c n now d ends q a (s.nodes.node n) (s.nodes.disk n).kept cut.replies first.others may.2 (cut.comes.given ∙ first.first) first.quiet)
        first.first first.quiet run

    by_device : (o : Option Device) → (cut : StepCut c n now ends s.nodes (input.Answered (commanded_at s n d o q).answer)) → Facts h s w (answering c n now ends (commanded_at s n d o q)).moments
        → AnswersFit (input.Answered (commanded_at s n d o q).answer) → OwnKeysOnly h (s.nodes.node n) (commanded_at s n d o q).answer
        → AttemptsDiffer (answering c n now ends (commanded_at s n d o q)).moments
        → Run (setting_of c) w.machine.memberships (step_events c n now ends s.nodes (input.Answered (commanded_at s n d o q).answer) cut) N
        → IsShown h (answering c n now ends (commanded_at s n d o q)) N
    by_device None cut b f own e run =
        by_answer (commanded_at s n d None q).answer s.devices s.faults cut (due_tells h s n d q now ends (s.nodes.node n) refl may.2 (commanded_at s n d None q)) b f own e run
    by_device (Some x) cut b f own e run =
        by_answer (commanded_at s n d (Some x) q).answer (commanded_at s n d (Some x) q).scene.devices (commanded_at s n d (Some x) q).scene.faults cut
        (due_tells h s n d q now ends (s.nodes.node n) refl may.2 (commanded_at s n d (Some x) q)) b f own e run

pub writes_shown : (h : Header) (s : Scene) (w : IsWhole (first_cluster h) s) (n d value now : ℕ) (ends : method.Outcome) (o : Option Device) (N : Memberships)
    → MayHappen (first_cluster h) s (Writes n d value now ends)
    → (cut : StepCut (first_cluster h) n now ends s.nodes (input.Wrote d value (commanded_at s n d o (command.Write value)).answer))
    → Facts h s w (wrote (first_cluster h) n d value now ends (commanded_at s n d o (command.Write value))).moments
    → AttemptsDiffer (wrote (first_cluster h) n d value now ends (commanded_at s n d o (command.Write value))).moments
    → Run (setting_of (first_cluster h)) w.machine.memberships (step_events (first_cluster h) n now ends s.nodes (input.Wrote d value (commanded_at s n d o (command.Write value)).answer) cut) N
    → IsShown h (wrote (first_cluster h) n d value now ends (commanded_at s n d o (command.Write value))) N
writes_shown h s w n d value now ends o N may cut b differ run = by_device o cut b differ run
  where
    c : Cluster
    c = first_cluster h

    told : (z : Commanded) → CommandFirst n d (command.Write value) z.answer (given_by c n now ends (input.Wrote d value z.answer) s.nodes)
    told = write_tells h s n d value now ends (s.nodes.node n) (λ x. is_ok (may_write_as c n d x.seat) ≡ true) refl may.1

    by_answer : (a : Answer) (devices : List Device) (faults : List (Option Bool)) → (cut : StepCut c n now ends s.nodes (input.Wrote d value a))
        → CommandFirst n d (command.Write value) a (given_by c n now ends (input.Wrote d value a) s.nodes)
        → Facts h s w (taking c n now ends (input.Wrote d value a) (scene_of s.nodes devices faults s.links s.moments)).moments
        → AttemptsDiffer (taking c n now ends (input.Wrote d value a) (scene_of s.nodes devices faults s.links s.moments)).moments
        → Run (setting_of c) w.machine.memberships (step_events c n now ends s.nodes (input.Wrote d value a) cut) N
        → IsShown h (taking c n now ends (input.Wrote d value a) (scene_of s.nodes devices faults s.links s.moments)) N
    by_answer a devices faults cut first b differ run =
        answer_shown h s w n now ends (input.Wrote d value a) devices faults (device.Command n d (command.Write value) (answer_told a)) first.others N cut b refl may.0 may.2 tt tt may.3
        (plain_may h c n now ends (s.nodes.node n) (s.nodes.disk n).kept (input.Wrote d value a) tt may.2 (w.fits.nodes n)) differ
        (wrote_still c n now d value ends a (s.nodes.node n) (s.nodes.disk n).kept cut.replies)
        first.first first.quiet run

    by_device : (o : Option Device) → (cut : StepCut c n now ends s.nodes (input.Wrote d value (commanded_at s n d o (command.Write value)).answer))
        → Facts h s w (wrote c n d value now ends (commanded_at s n d o (command.Write value))).moments
        → AttemptsDiffer (wrote c n d value now ends (commanded_at s n d o (command.Write value))).moments
        → Run (setting_of c) w.machine.memberships (step_events c n now ends s.nodes (input.Wrote d value (commanded_at s n d o (command.Write value)).answer) cut) N
        → IsShown h (wrote c n d value now ends (commanded_at s n d o (command.Write value))) N
    by_device None cut b e run = by_answer (commanded_at s n d None (command.Write value)).answer s.devices s.faults cut (told (commanded_at s n d None (command.Write value))) b e run
    by_device (Some x) cut b e run =
        by_answer (commanded_at s n d (Some x) (command.Write value)).answer (commanded_at s n d (Some x) (command.Write value)).scene.devices
        (commanded_at s n d (Some x) (command.Write value)).scene.faults cut (told (commanded_at s n d (Some x) (command.Write value))) b e run
