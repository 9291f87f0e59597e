-- Each thing that happens: the scene after it is one of the whole again.
use Rattle.std.specs.Prelude.{ℕ, ◌-◌, ◌≡◌, ◌≢◌, ◌≤◌, ◌⊎◌, Bool, true, false, List, [], ◌∷◌, Option, None, Some, option_and_then, option_map, Err, slice_get, slice_set}
use Rattle.std.proofs.Common.{refl, sym, ap, subst, ◌∙◌, inl, inr}
use Rattle.std.specs.List.{AllByRecursion}
use Rattle.cl_base.specs.declared.method.Outcome as method
use Rattle.cluster_machine.specs.Cluster.{Cluster as Whole}
use Rattle.cluster_ties.specs.Laws.{IsReadied}
use Rattle.cluster_ties.specs.Ties.{Devices, DevicesTied}
use Rattle.cluster_ties.specs.Told.{ToldOf}
use Rattle.cmm_attempt.proofs.Basics.{none_some, same_some}
use Rattle.cmm_member.specs.Records.{NodeRecord}
use Rattle.device_queue.specs.Queue.{due_device, first_of, next_of, progress_after}
use Rattle.device_queue.specs.Tasks.{is_queued}
use Rattle.device_queue.specs.declared.task.Task.{Task}
use Rattle.device_ties.specs.Commands.{Answered as Given, Completion, Done as Done_unanswered, Undone, executed, learned}
use Rattle.interconnect.specs.Links.{Packet, removing}
use Rattle.machine_base.proofs.Puts.{put_here, put_there, same_or_not}
use Rattle.machine_base.specs.Put.{put}
use Rattle.node_model.specs.Steps.{at_second}
use Rattle.node_model.specs.declared.cluster.Cluster.{Cluster}
use Rattle.node_model.specs.declared.input.Input.{Input}
use Rattle.node_model.specs.declared.input.Input.TheVariants as input
use Rattle.node_model.specs.declared.node.Node.{Node}
use Rattle.node_model.specs.declared.node.Node.TheVariants.{Down, Up}
use Rattle.node_model.specs.declared.node.UpNode.{UpNode}
use Rattle.refinement.specs.node_widths.Widths.{AnswerFits, NodeFits, TaskFits}
use Rattle.pgr_device.specs.Device.{Device}
use Rattle.pgr_device.specs.declared.command.PrCommand.{PrCommand}
use Rattle.record_disk.specs.Disks.{DiskState, armed}
use Rattle.refinement.proofs.DeviceWidths.{command_keeps}
use Rattle.refinement.proofs.Handlers.{delivered_by}
use Rattle.refinement.specs.Courses.{Course, Reply, under}
use Rattle.refinement.specs.Cuts.{answered_course, doings, progress_course}
use Rattle.refinement.specs.Doings.{Doing, Site, after_all, given_all, site}
use Rattle.refinement.specs.Doings.Act.{Dates}
use Rattle.refinement.specs.Doings.Doing.{Does}
use Rattle.refinement.specs.Events.{of_doings}
use Rattle.refinement.specs.Guards.{MayAll, OfUp}
use Rattle.refinement.specs.Runs.{AnswersFit, Nodes, WasSent}
use Rattle.refinement.specs.Runs.Move.{Arms}
use Rattle.refinement.specs.Widths.{CommandFits, RunFits}
use Rattle.refinement.specs.Worlds.{DeviceFits, Keeps}
use Rattle.schedule_text.specs.declared.event.Event.{Event}
use Rattle.schedule_text.specs.declared.event.Event.TheVariants as event
use Rattle.seize.specs.Answers.{Answer}
use Rattle.wire.specs.Spelling.{IsDevice, IsNode}
use Rattle.wire.specs.declared.message.Message.{Message}
use Rattle.world_model.specs.Devices as world
use Rattle.world_model.specs.Devices.{due_at}
use Rattle.world_model.specs.Lines.{left_by}
use Rattle.run_history.specs.Happenings as happening
use Rattle.run_history.specs.Happenings.{Commanded, Happening, IsPlain, MayHappen, answering, commanded, commanded_at, happened, taking, wrote}
use Rattle.run_history.specs.Scenes.{Scene, fault_in, with_fault}
use Rattle.run_history.specs.Cuts.{StepCut, step_events}
use Rattle.run_history.proofs.AtSteps.{IsNoAnswer, task_device}
use Rattle.run_history.proofs.WholeCommands.{Due, Goes, answered_goes}
use Rattle.run_history.proofs.WholeDevices.{device_set, device_there, put_back, set_fits}
use Rattle.run_history.proofs.WholeDoings.{Ready, doing_goes}
use Rattle.run_history.proofs.Flying.{Flying, packet_told, removing_told}
use Rattle.run_history.proofs.WholeScenes.{AllTrue, Follows, may_of, plain_goes, ready_of, scene_of, site_of, small_steps, step_follows}
use Rattle.run_history.proofs.WholeSteps.{hand_all, ready_after, then_goes}
use Rattle.run_history.proofs.Widths.{fits_move, node_due}
use Rattle.run_history.specs.Wholes.{IsWhole, device_at}
use Rattle.run_history.specs.Sites.{DoingGoes, KnownOf, SiteAt}

-- A scene with the same nodes and devices is one of the whole.
pub kept_whole : (c : Cluster) (s t : Scene) (w : IsWhole c s) → t.nodes ≡ s.nodes → t.devices ≡ s.devices → Flying w.machine t.links → Follows c s w t []
kept_whole c s t w nodes devices flying = record {
  next = record {
    cluster = w.cluster;
    machine = w.machine;
    reached = w.reached;
    devices_so = subst (λ ds. DevicesTied c (device_at ds) w.machine) (sym devices) w.devices_so;
    sites = subst (λ (z : Nodes). (k : ℕ) → SiteAt c w.machine k (site_of z k)) (sym nodes) w.sites;
    sent = subst (λ (z : Nodes). AllTrue w.machine.memberships z.sent) (sym nodes) w.sent;
    flying = flying;
    fits = subst (RunFits c) (sym nodes) w.fits;
    device_fits = subst (λ ds. (d : ℕ) (device : Device) → slice_get ds d ≡ Some device → DeviceFits device) (sym devices) w.device_fits;
  };
  run = refl;
  steps = [];
  whole_run = refl;
}

-- A stop is armed in a node's disk, whose record it leaves.

armed_sites : (c : Cluster) (W : Whole) (v : Nodes) (n : ℕ) (disk : DiskState) → disk.kept ≡ (v.disk n).kept → ((k : ℕ) → SiteAt c W k (site_of v k))
    → (k : ℕ) → SiteAt c W k (site (v.node k) (put v.disk n disk k).kept)
armed_sites c W v n disk same all k = go (same_or_not k n)
  where
    go : (k ≡ n) ⊎ (k ≢ n) → SiteAt c W k (site (v.node k) (put v.disk n disk k).kept)
    go (inl e) =
        subst (λ j. SiteAt c W j (site (v.node j) (put v.disk n disk j).kept)) (sym e)
        (subst (λ (d : DiskState). SiteAt c W n (site (v.node n) d.kept)) (sym (put_here v.disk n disk)) (subst (λ r. SiteAt c W n (site (v.node n) r)) (sym same) (all n)))
    go (inr ne) = subst (λ (d : DiskState). SiteAt c W k (site (v.node k) d.kept)) (sym (put_there v.disk n disk k ne)) (all k)

pub spoken : (c : Cluster) (s : Scene) (w : IsWhole c s) (e : Event) → Follows c s w (happened c s (happening.Speaks e)) []
spoken c s w (event.CrashAt n calls choice) = record {
  next = record {
    cluster = w.cluster;
    machine = w.machine;
    reached = w.reached;
    devices_so = w.devices_so;
    sites = armed_sites c w.machine s.nodes n (armed (s.nodes.disk n) calls (left_by choice)) refl w.sites;
    sent = w.sent;
    flying = w.flying;
    fits = fits_move c w.cluster.fits s.nodes (Arms n calls (left_by choice)) tt tt w.fits;
    device_fits = w.device_fits;
  };
  run = refl;
  steps = [];
  whole_run = refl;
}
spoken c s w (event.Fault n d done) = kept_whole c s (happened c s (happening.Speaks (event.Fault n d done))) w refl refl w.flying
spoken c s w _ = kept_whole c s _ w refl refl w.flying

-- Plain inputs, and packets.

plain_no : (i : Input) → IsPlain i → IsNoAnswer i
plain_no (input.Packet from m) h = absurd h
plain_no (input.Answered a) h = absurd h
plain_no (input.Wrote d value a) h = absurd h
plain_no _ h = tt

plain_sent : (v : Nodes) (i : Input) → IsPlain i → WasSent v i
plain_sent v (input.Packet from m) h = absurd h
plain_sent v (input.Answered a) h = absurd h
plain_sent v (input.Wrote d value a) h = absurd h
plain_sent v _ h = tt

plain_fits : (i : Input) → IsPlain i → AnswersFit i
plain_fits (input.Packet from m) h = absurd h
plain_fits (input.Answered a) h = absurd h
plain_fits (input.Wrote d value a) h = absurd h
plain_fits _ h = tt

plain_known : (W : Whole) (n : ℕ) (i : Input) → IsPlain i → KnownOf W n (delivered_by i)
plain_known W n (input.Packet from m) h = absurd h
plain_known W n (input.Answered a) h = absurd h
plain_known W n (input.Wrote d value a) h = absurd h
plain_known W n _ h = tt

pub taken : (c : Cluster) (s : Scene) (w : IsWhole c s) (n now : ℕ) (ends : method.Outcome) (i : Input) (cut : StepCut c n now ends s.nodes i) → MayHappen c s (happening.Takes n now ends i)
    → Follows c s w (taking c n now ends i s) (step_events c n now ends s.nodes i cut)
taken c s w n now ends i cut may =
    step_follows c s w n now ends i s.devices s.faults s.links s.moments (hand_all None (small_steps c n now ends s.nodes i cut)) cut may.0 may.2 (plain_sent s.nodes i may.1) (plain_fits i may.1) w.flying w.device_fits
    (plain_goes c s w n now ends i cut may.0 may.2 (plain_no i may.1) (plain_sent s.nodes i may.1) (plain_known w.machine n i may.1))

pub arrived : (c : Cluster) (s : Scene) (w : IsWhole c s) (number : ℕ) (x : Packet) (m : Message) (now : ℕ) (ends : method.Outcome)
    (cut : StepCut c x.to now ends s.nodes (input.Packet x.from m)) → MayHappen c s (happening.Arrives number x m now ends)
    → Follows c s w (happened c s (happening.Arrives number x m now ends)) (step_events c x.to now ends s.nodes (input.Packet x.from m) cut)
arrived c s w number x m now ends cut may =
    let told : ToldOf w.machine x.from x.to m.body = packet_told w.machine s.links number x w.flying may.0 m may.1 in
    let i : Input = input.Packet x.from m in
    step_follows c s w x.to now ends i s.devices s.faults (removing s.links number) _ (hand_all None (small_steps c x.to now ends s.nodes i cut)) cut may.3 may.5 may.4 tt
    (removing_told w.machine s.links number w.flying) w.device_fits (plain_goes c s w x.to now ends i cut may.3 may.5 tt may.4 told)

-- A command at its device.

due_so : (o : Option ℕ) (q : Option PrCommand) (d : ℕ) (k : PrCommand)
    → option_and_then {U = ℕ × PrCommand} (λ e. option_and_then {U = ℕ × PrCommand} (λ (j : PrCommand). Some (e, j)) q) o ≡ Some (d, k) → (o ≡ Some d) × (q ≡ Some k)
due_so None q d k h = absurd (none_some (d, k) h)
due_so (Some e) None d k h = absurd (none_some (d, k) h)
due_so (Some e) (Some j) d k h =
    let same : (e, j) ≡ (d, k) = same_some (e, j) (d, k) h in
    (ap (λ (z : ℕ × PrCommand). Some z.0) same, ap (λ (z : ℕ × PrCommand). Some z.1) same)

due_is_device : (c : Cluster) (n : ℕ) (tasks : List Task) (d : ℕ) → AllByRecursion (TaskFits c n) tasks → due_device tasks ≡ Some d → IsDevice d
due_is_device c n tasks d fit is = by_task (first_of tasks) refl is
  where
    by_task : (o : Option Task) → first_of tasks ≡ o → option_map (λ (t : Task). t.device) o ≡ Some d → IsDevice d
    by_task None found e = absurd (none_some d e)
    by_task (Some t) found e = subst IsDevice (same_some t.device d e) (task_device c n is_queued tasks t fit found)

commanded_goes : (c : Cluster) (W : Whole) (n now : ℕ) (ends : method.Outcome) (devices after : Devices) (d : ℕ) (k : PrCommand) (a : Answer) (how : Completion) (replies : List Reply) (node : Node) (disk : NodeRecord)
    → Ready c W n None None devices (site node disk) → IsNode n → OfUp IsReadied node → due_at (Some node) ≡ Some (d, k) → NodeFits c n node → a ≡ learned how (devices d) n k
    → ((e : ℕ) → after e ≡ put devices d (executed how (devices d) n k) e) → MayAll c n None (site node disk) (doings c n now ends replies (input.Answered a) node)
    → Goes c W n after (site node disk) (doings c n now ends replies (input.Answered a) node)
commanded_goes c W n now ends devices after d k a how replies Down disk r is readied due fit learns leaves may = absurd readied
commanded_goes c W n now ends devices after d k a how replies (Up x) disk r is readied due fit learns leaves may =
    by_course (answered_course c n y a (due_device y.tasks) (next_of y.tasks)) (ap (λ o. answered_course c n y a o (next_of y.tasks)) at.0 ∙ ap (λ q. answered_course c n y a (Some d) q) at.1) may
  where
    y : UpNode
    y = at_second now x

    at : (due_device x.tasks ≡ Some d) × (next_of x.tasks ≡ Some k)
    at = due_so (due_device x.tasks) (next_of x.tasks) d k due

    progress : Course
    progress = progress_course c n y d k a (progress_after y.tasks a)

    goes : MayAll c n None (site (Up x) disk) (Does (Dates now) ∷ under replies progress) → Goes c W n after (site (Up x) disk) (Does (Dates now) ∷ under replies progress)
    goes m =
        let z : Site = site (Up y) disk in
        let ds : List Doing = under replies progress in
        let first : DoingGoes c W n devices z [] [] None = doing_goes c W n None None devices (site (Up x) disk) (Does (Dates now)) r m.0 tt in
        let u : Due c first.machine n devices after y disk d k a = record {
          ready = ready_after c W n None None None devices devices (site (Up x) disk) z [] [] r first;
          is_node = is;
          is_device = due_is_device c n x.tasks d fit.all_tasks at.0;
          readied = readied;
          device = at.0;
          command = at.1;
          how = how;
          learns = learns;
          leaves = leaves;
        } in
        then_goes c W n devices after z (after_all c n z ds) [] (given_all c n z ds) [] (of_doings n ds) None (hand_all None ds) r.reached first
        (answered_goes c first.machine n devices after y disk d k a replies u m.1)

    by_course : (course : Course) → course ≡ progress → MayAll c n None (site (Up x) disk) (Does (Dates now) ∷ under replies course)
        → Goes c W n after (site (Up x) disk) (Does (Dates now) ∷ under replies course)
    by_course course same m =
        subst (λ q. Goes c W n after (site (Up x) disk) (Does (Dates now) ∷ under replies q)) (sym same) (goes (subst (λ q. MayAll c n None (site (Up x) disk) (Does (Dates now) ∷ under replies q)) same m))

-- how a command ends under the fault that is armed
how_under : Option Bool → Completion
how_under None = Given
how_under (Some true) = Done_unanswered
how_under (Some false) = Undone

under_device : (device : Device) (n : ℕ) (k : PrCommand) (fault : Option Bool) → (world.executed device n k fault).device ≡ executed (how_under fault) device n k
unfolding how_under
under_device device n k None = refl
under_device device n k (Some true) = refl
under_device device n k (Some false) = refl

under_answer : (device : Device) (n : ℕ) (k : PrCommand) (fault : Option Bool) → (world.executed device n k fault).answer ≡ learned (how_under fault) device n k
unfolding how_under
under_answer device n k None = refl
under_answer device n k (Some true) = refl
under_answer device n k (Some false) = refl

under_fits : (device : Device) (n : ℕ) (k : PrCommand) (fault : Option Bool) → DeviceFits device → Keeps device n k → DeviceFits (world.executed device n k fault).device
under_fits device n k None f h = h.0
under_fits device n k (Some true) f h = h.0
under_fits device n k (Some false) f h = f

answer_fits : (device : Device) (n : ℕ) (k : PrCommand) (fault : Option Bool) → Keeps device n k → AnswerFits (world.executed device n k fault).answer
answer_fits device n k None h = h.1
answer_fits device n k (Some true) h = tt
answer_fits device n k (Some false) h = tt

-- what is so of a device and an answer, once the command of node n was done there or not
pub record DoneSo (s : Scene) (n d : ℕ) (k : PrCommand) (devices : List Device) (a : Answer) : Type 0 where
  pub how : Completion
  pub learns : a ≡ learned how (device_at s.devices d) n k
  pub leaves : (e : ℕ) → device_at devices e ≡ put (device_at s.devices) d (executed how (device_at s.devices d) n k) e
  pub device_fits : (e : ℕ) (device : Device) → slice_get devices e ≡ Some device → DeviceFits device
  pub answer_so : AnswerFits a

pub done_there : (s : Scene) (n d : ℕ) (k : PrCommand) (device : Device) (fault : Option Bool) → 1 ≤ d → slice_get s.devices (d - 1) ≡ Some device
    → ((e : ℕ) (other : Device) → slice_get s.devices e ≡ Some other → DeviceFits other) → Keeps device n k
    → DoneSo s n d k (slice_set s.devices (d - 1) (world.executed device n k fault).device) (world.executed device n k fault).answer
done_there s n d k device fault low at fits keeps =
    let there : device_at s.devices d ≡ device = device_there s.devices d device low at in
    record {
      how = how_under fault;
      learns = under_answer device n k fault ∙ ap (λ z. learned (how_under fault) z n k) (sym there);
      leaves = λ e. device_set s.devices d device (world.executed device n k fault).device low at e
          ∙ ap (λ z. put (device_at s.devices) d z e) (under_device device n k fault ∙ ap (λ z. executed (how_under fault) z n k) (sym there));
      device_fits = set_fits s.devices (d - 1) device (world.executed device n k fault).device at fits (under_fits device n k fault (fits (d - 1) device at) keeps);
      answer_so = answer_fits device n k fault keeps;
    }

pub done_nowhere : (s : Scene) (n d : ℕ) (k : PrCommand) → ((e : ℕ) (other : Device) → slice_get s.devices e ≡ Some other → DeviceFits other) → DoneSo s n d k s.devices (Err (record {}))
done_nowhere s n d k fits = record {
  how = Undone;
  learns = refl;
  leaves = λ e. sym (put_back (device_at s.devices) d e);
  device_fits = fits;
  answer_so = tt;
}

due_low : (c : Cluster) (n : ℕ) (node : Node) (d : ℕ) (k : PrCommand) → NodeFits c n node → due_at (Some node) ≡ Some (d, k) → 1 ≤ d
due_low c n Down d k fit due = absurd (none_some (d, k) due)
due_low c n (Up x) d k fit due = (due_is_device c n x.tasks d fit.all_tasks (due_so (due_device x.tasks) (next_of x.tasks) d k due).0).0

due_fits : (c : Cluster) (s : Scene) (w : IsWhole c s) (n d : ℕ) (k : PrCommand) → n ≤ 32 → due_at (Some (s.nodes.node n)) ≡ Some (d, k) → CommandFits k
due_fits c s w n d k low due = node_due c n d k (Some (s.nodes.node n)) w.cluster.small low (λ node is. subst (NodeFits c n) (same_some (s.nodes.node n) node is) (w.fits.nodes n)) due

command_follows : (c : Cluster) (s : Scene) (w : IsWhole c s) (n d : ℕ) (k : PrCommand) (now : ℕ) (ends : method.Outcome) (devices : List Device) (faults : List (Option Bool)) (a : Answer)
    (cut : StepCut c n now ends s.nodes (input.Answered a)) → MayHappen c s (happening.Commands n d k now ends) → DoneSo s n d k devices a
    → Follows c s w (taking c n now ends (input.Answered a) (scene_of s.nodes devices faults s.links s.moments)) (step_events c n now ends s.nodes (input.Answered a) cut)
command_follows c s w n d k now ends devices faults a cut may u =
    let i : Input = input.Answered a in
    step_follows c s w n now ends i devices faults s.links s.moments (hand_all None (small_steps c n now ends s.nodes i cut)) cut may.0 may.3 tt u.answer_so w.flying u.device_fits
    (commanded_goes c w.machine n now ends (device_at s.devices) (device_at devices) d k a u.how cut.replies (s.nodes.node n) (s.nodes.disk n).kept (ready_of c s w n i may.0.1 tt tt) may.0 may.1 may.2 (w.fits.nodes n)
    u.learns u.leaves (may_of c s w n now ends i cut may.0.1))

pub commands_by : (c : Cluster) (s : Scene) (w : IsWhole c s) (n d : ℕ) (k : PrCommand) (now : ℕ) (ends : method.Outcome) (o : Option Device) → slice_get s.devices (d - 1) ≡ o
    → (cut : StepCut c n now ends s.nodes (input.Answered (commanded_at s n d o k).answer)) → MayHappen c s (happening.Commands n d k now ends)
    → Follows c s w (answering c n now ends (commanded_at s n d o k)) (step_events c n now ends s.nodes (input.Answered (commanded_at s n d o k).answer) cut)
commands_by c s w n d k now ends None at cut may = command_follows c s w n d k now ends s.devices s.faults (Err (record {})) cut may (done_nowhere s n d k w.device_fits)
commands_by c s w n d k now ends (Some device) at cut may =
    command_follows c s w n d k now ends (slice_set s.devices (d - 1) (world.executed device n k (fault_in s n d)).device) (with_fault s n d None).faults (world.executed device n k (fault_in s n d)).answer cut may
    (done_there s n d k device (fault_in s n d) (due_low c n (s.nodes.node n) d k (w.fits.nodes n) may.2) at w.device_fits
    (command_keeps device n k may.0.0 may.0.1 (due_fits c s w n d k may.0.1 may.2) (w.device_fits (d - 1) device at)))
