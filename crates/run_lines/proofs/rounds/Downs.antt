-- Of a node that is down the lines tell no task.
use Rattle.std.specs.Prelude.{ℕ, ◌-◌, ◌==◌, ◌≡◌, ◌≢◌, ◌≤◌, ◌<◌, ◌^◌, ◌⊎◌, ◌++◌, nat_lt, All, Bool, true, false, List, [], ◌∷◌, if◌then◌else◌, Option, None, Some, is_some, length, map, slice_get}
use Rattle.std.specs.List.{AllByRecursion}
use Rattle.std.proofs.Common.{refl, sym, ap, subst, ◌∙◌, inl, inr}
use Rattle.cl_base.specs.Limits.{most_devices}
use Rattle.cl_base.specs.declared.header.Header.{Header}
use Rattle.cl_base.specs.declared.method.Outcome as method
use Rattle.cl_base.specs.declared.packet.DropCause.{DropCause}
use Rattle.cmm_attempt.specs.Calls.{IsDevice}
use Rattle.history.specs.Moment.{Said, Told}
use Rattle.history.specs.Letters.{letter_of}
use Rattle.history.specs.Member.{attempt_of, member_of}
use Rattle.history.specs.Queue.{Task, has_work, requested, tasks_of, unfinished, with_own}
use Rattle.history.specs.Setting.{Setting}
use Rattle.interconnect.specs.Links as net
use Rattle.interconnect.specs.Links.{sending}
use Rattle.machine_base.proofs.Puts.{put_here, put_there, same_or_not}
use Rattle.node_model.specs.Steps.{Outcome, at_second, carried, plan_of, stepped, unless_lost}
use Rattle.node_model.specs.Plans.{Plan, cause_of}
use Rattle.node_model.specs.Plans.Plan.{Stays, Falls, Says, Saves}
use Rattle.node_model.specs.declared.cluster.Cluster.{Cluster}
use Rattle.node_model.specs.declared.input.Input.{Input}
use Rattle.node_model.specs.declared.input.Input.TheVariants as input
use Rattle.node_model.specs.declared.node.Node.{Node}
use Rattle.node_model.specs.declared.node.Node.TheVariants.{Down, Up}
use Rattle.node_model.specs.declared.node.UpNode.{UpNode}
use Rattle.node_model.specs.declared.output.Output.{Output}
use Rattle.node_model.specs.declared.output.Output.TheVariants.{Tells}
use Rattle.pgr_device.specs.Device.{Device}
use Rattle.pgr_device.specs.declared.command.PrCommand.{PrCommand}
use Rattle.pgr_device.specs.declared.command.PrCommand.TheVariants as command
use Rattle.record_disk.specs.Disks as disks
use Rattle.record_disk.specs.Disks.{DiskState, mounting}
use Rattle.record_disk.specs.declared.error.Loss.{Loss}
use Rattle.refinement.specs.Cuts.{doings}
use Rattle.refinement.specs.Doings.{Doing, Site, site}
use Rattle.refinement.specs.Guards.{IsDown, OfUp}
use Rattle.refinement.specs.Runs.{Nodes, moved}
use Rattle.refinement.specs.Runs.Move.{Takes as Takes_in}
use Rattle.refinement.specs.Steps.{IsCut, disk_rules}
use Rattle.refinement.proofs.Disks.{disks_keep_rules}
use Rattle.refinement.proofs.Facts.{step_may}
use Rattle.refinement.proofs.Handlers.{delivered_by}
use Rattle.refinement.proofs.Replies.{steps_are_cut}
use Rattle.run_history.specs.Happenings.{Happening, IsUp, MayAllHappen, MayHappen, all_happened, armed_by, commanded, commanded_at, copying, given_by, happened, removed, taking}
use Rattle.run_history.specs.Happenings.Happening.{Arrives, Begins, Commands, Loses, Misses, Notes, Refuses, Repeats, Speaks, Strays, Takes, Writes}
use Rattle.run_history.specs.Scenes.{Scene, adding, dropped_so, first_scene, passing, telling, with_links}
use Rattle.run_history.specs.Stages.{Stage}
use Rattle.run_history.proofs.Idle.{if_false, if_true, passing_append, passing_nodes}
use Rattle.run_history.proofs.LineSteps.{commands_are_told, doings_small}
use Rattle.run_history.proofs.MemberRuns.{first_fit}
use Rattle.run_history.proofs.Reached.{Reached, reached_more}
use Rattle.run_history.proofs.Runs.{run_stage}
use Rattle.run_lines.proofs.rounds.Owns.{AllOwn, all_own}
use Rattle.run_lines.proofs.rounds.Tasks.{NoTask, NotTakenOut, dropped_none, is_other, is_self, passing_none, told_taken}
use Rattle.schedule_text.specs.declared.event.Event.{Event}
use Rattle.schedule_text.specs.declared.event.Event.TheVariants as event
use Rattle.schedule_text.specs.declared.line.Line.TheVariants as line
use Rattle.status_report.specs.declared.entry.Entry.TheVariants as entry
use Rattle.status_report.specs.declared.node_entry.DownCause.{DownCause}
use Rattle.status_report.specs.declared.node_entry.NodeEntry.TheVariants as note
use Rattle.status_report.specs.declared.packet_entry.PacketEntry.TheVariants as packet
use Rattle.world_model.specs.First.{first_cluster}

-- ---- a node that is down after a step tells that last, or tells nothing

pub record Gone (n : ℕ) (os : List Output) : Type 0 where
  pub first : List Output
  pub why : DownCause
  pub is : os ≡ first ++ Tells (entry.Node n (note.Down why)) ∷ []

lost_gone : (n : ℕ) (given : List Output) (disk : DiskState) (lost : Option Loss) (next : Outcome DiskState) → (IsDown next.after → Gone n next.given) → IsDown (unless_lost n given disk lost next).after
    → Gone n (unless_lost n given disk lost next).given
lost_gone n given disk None next rest down = rest down
lost_gone n given disk (Some loss) next rest down = record { first = given; why = cause_of loss; is = refl }

plan_gone : (n : ℕ) (p : Plan) (given : List Output) (disk : DiskState) → IsDown (carried disks.saving n p given disk).after → Gone n (carried disks.saving n p given disk).given
plan_gone n (Stays x) given disk down = absurd down
plan_gone n (Falls why) given disk down = record { first = given; why = why; is = refl }
plan_gone n (Says os rest) given disk down = plan_gone n rest (given ++ os) disk down
plan_gone n (Saves r rest) given disk down =
    lost_gone n given (disks.saving disk r).after (disks.saving disk r).lost (carried disks.saving n rest given (disks.saving disk r).after)
    (λ d. plan_gone n rest given (disks.saving disk r).after d) down

-- after a step a node is up, or has gone down, or was down and is so still
step_ends : (c : Cluster) (n now : ℕ) (ends : method.Outcome) (node : Node) (disk : DiskState) (i : Input) → IsDown (stepped disk_rules c n now ends node disk i).after
    → Gone n (stepped disk_rules c n now ends node disk i).given ⊎ (IsDown node × ((stepped disk_rules c n now ends node disk i).given ≡ []))
step_ends c n now ends (Up x) disk i down = inl (plan_gone n (plan_of c n ends (at_second now x) i) [] disk down)
step_ends c n now ends Down disk input.Boot down =
    inl (lost_gone n (Tells (entry.Node n note.Up) ∷ []) (mounting disk).after (mounting disk).lost _ (λ d. absurd d) down)
step_ends c n now ends Down disk _ down = inr (tt, refl)

gone_none : (S : Setting) (n : ℕ) (os : List Output) (s : Scene) → Gone n os → NoTask S n (passing n os s).moments
gone_none S n os s g =
    let last : List Output = Tells (entry.Node n (note.Down g.why)) ∷ [] in
    subst (λ zs. NoTask S n (passing n zs s).moments) (sym g.is)
    (subst (λ (z : Scene). NoTask S n z.moments) (sym (passing_append n g.first last s)) (if_true (n == n) [] (tasks_of S n (passing n g.first s).moments) (is_self n)))

-- ---- what is kept

-- no task is told of a node that is down
abbrev pub DownsIdle : Setting → Scene → Type 0
DownsIdle S s = (n : ℕ) → IsDown (s.nodes.node n) → NoTask S n s.moments

-- of all but one node
abbrev OthersIdle : Setting → ℕ → Scene → Type 0
OthersIdle S n s = (k : ℕ) → k ≢ n → IsDown (s.nodes.node k) → NoTask S k s.moments

-- how a step of a node of this scene goes
record StepSo (c : Cluster) (n now : ℕ) (ends : method.Outcome) (i : Input) (s : Scene) : Type 0 where
  own : AllOwn n (given_by c n now ends i s.nodes)
  taken : AllByRecursion (NotTakenOut n) (given_by c n now ends i s.nodes)

step_so : (c : Cluster) (n now : ℕ) (ends : method.Outcome) (i : Input) (s t : Scene) → t.nodes ≡ s.nodes → n ≤ 32 → All IsDevice c.attached → Stage c s → StepSo c n now ends i t
step_so c n now ends i s t same low fits b = record {
  own =
      subst (λ (v : Nodes). AllOwn n (given_by c n now ends i v)) (sym same) (subst (λ os. AllOwn n os) cut.comes.given
      (all_own c n (delivered_by i) x ds
      (step_may c b.machine n now ends (s.nodes.node n) (s.nodes.disk n).kept i cut.replies low fits b.holds (b.stands n).tied (b.stands n).joins)
      (doings_small c n now ends cut.replies i (s.nodes.node n) (s.nodes.disk n).kept)));
  taken = told_taken n (t.nodes.node n) i (given_by c n now ends i t.nodes) (commands_are_told c n now ends (t.nodes.node n) (t.nodes.disk n) i);
}
  where
    x : Site
    x = site (s.nodes.node n) (s.nodes.disk n).kept

    cut : IsCut disk_rules c n now ends (s.nodes.node n) (s.nodes.disk n) i [] (stepped disk_rules c n now ends (s.nodes.node n) (s.nodes.disk n) i)
    cut = steps_are_cut disk_rules disks_keep_rules c n now ends (s.nodes.node n) (s.nodes.disk n) i

    ds : List Doing
    ds = doings c n now ends cut.replies i (s.nodes.node n)

-- a node takes what comes to it: of the others no task is told, and of itself none, if it was down and nothing is told, or it goes down
step_idle : (c : Cluster) (S : Setting) (n now : ℕ) (ends : method.Outcome) (i : Input) (s : Scene) → StepSo c n now ends i s → OthersIdle S n s
    → (IsDown (s.nodes.node n) → NoTask S n s.moments) → DownsIdle S (taking c n now ends i s)
step_idle c S n now ends i s so others own k down = by_number (same_or_not k n)
  where
    os : List Output
    os = given_by c n now ends i s.nodes

    t : Scene
    t = record s { nodes = moved c s.nodes (Takes_in n now ends i) }

    after : Node
    after = (stepped disk_rules c n now ends (s.nodes.node n) (s.nodes.disk n) i).after

    at_last : IsDown ((moved c s.nodes (Takes_in n now ends i)).node k)
    at_last = subst (λ (v : Nodes). IsDown (v.node k)) (passing_nodes n os t) down

    by_end : Gone n os ⊎ (IsDown (s.nodes.node n) × (os ≡ [])) → NoTask S n (passing n os t).moments
    by_end (inl g) = gone_none S n os t g
    by_end (inr h) = subst (λ zs. NoTask S n (passing n zs t).moments) (sym h.1) (own h.0)

    by_number : (k ≡ n) ⊎ (k ≢ n) → NoTask S k (passing n os t).moments
    by_number (inl e) =
        let gone : IsDown after = subst IsDown (put_here s.nodes.node n after) (subst (λ j. IsDown ((moved c s.nodes (Takes_in n now ends i)).node j)) e at_last) in
        subst (λ j. NoTask S j (passing n os t).moments) (sym e) (by_end (step_ends c n now ends (s.nodes.node n) (s.nodes.disk n) i gone))
    by_number (inr ne) =
        passing_none S n k os t ne so.own so.taken (others k ne (subst IsDown (put_there s.nodes.node n after k ne) at_last))

-- ---- each thing that happens

up_no_down : (z : Node) → IsUp z → IsDown z → ⊥
up_no_down Down up down = up
up_no_down (Up x) up down = down

of_up : (P : UpNode → Type 0) (z : Node) → OfUp P z → IsDown z → ⊥
of_up P Down up down = up
of_up P (Up x) up down = down

spoken_idle : (c : Cluster) (S : Setting) (e : Event) (s : Scene) → DownsIdle S s → DownsIdle S (armed_by c e (adding (Said (line.Event e)) s))
spoken_idle c S (event.Fault n d done) s h = h
spoken_idle c S (event.CrashAt n calls choice) s h = h
spoken_idle c S _ s h = h

-- a packet is delivered: no task is told of another node than its receiver
arrived_others : (S : Setting) (s : Scene) (number from to : ℕ) → DownsIdle S s → OthersIdle S to (telling (entry.Packet (packet.Delivered number from to)) (removed s number))
arrived_others S s number from to h k ne down =
    if_false (to == k) (with_own S k (attempt_of k s.moments) (Told (entry.Packet (packet.Delivered number from to)) ∷ s.moments) (requested S k (letter_of number s.moments) s.moments (tasks_of S k s.moments)))
    (tasks_of S k s.moments) (is_other to k (λ e. ne (sym e))) ∙ h k down

copied_idle : (S : Setting) (s : Scene) (number : ℕ) (o : net.Outcome) → DownsIdle S s → DownsIdle S (copying number o s)
copied_idle S s number o h n down =
    dropped_none S n o.sent.dropped (telling (entry.Packet (packet.Repeated number s.links.next)) (with_links s o.after)) (h n (subst (λ (v : Nodes). IsDown (v.node n)) (same_nodes o.sent.dropped) down))
  where
    same_nodes : (d : Option (ℕ × DropCause)) → (dropped_so d (telling (entry.Packet (packet.Repeated number s.links.next)) (with_links s o.after))).nodes ≡ s.nodes
    same_nodes None = refl
    same_nodes (Some x) = refl

-- at a device: nodes and lines are as they were
done_nodes : (s : Scene) (n d : ℕ) (o : Option Device) (k : PrCommand) → (commanded_at s n d o k).scene.nodes ≡ s.nodes
done_nodes s n d None k = refl
done_nodes s n d (Some x) k = refl

done_idle : (S : Setting) (s : Scene) (n d : ℕ) (o : Option Device) (k : PrCommand) → DownsIdle S s → DownsIdle S (commanded_at s n d o k).scene
done_idle S s n d None k h = h
done_idle S s n d (Some x) k h = h

pub idle_kept : (c : Cluster) (S : Setting) (s : Scene) (h : Happening) → All IsDevice c.attached → Stage c s → MayHappen c s h → DownsIdle S s → DownsIdle S (happened c s h)
idle_kept c S s (Speaks e) fits b may h = spoken_idle c S e s h
idle_kept c S s (Begins e) fits b may h = h
idle_kept c S s (Notes e) fits b may h = h
idle_kept c S s (Takes n now ends i) fits b may h = step_idle c S n now ends i s (step_so c n now ends i s s refl may.0.1 fits b) (λ k ne down. h k down) (λ down. h n down)
idle_kept c S s (Arrives number x m now ends) fits b may h =
    let t : Scene = telling (entry.Packet (packet.Delivered number x.from x.to)) (removed s number) in
    step_idle c S x.to now ends (input.Packet x.from m) t (step_so c x.to now ends (input.Packet x.from m) s t refl may.3.1 fits b) (arrived_others S s number x.from x.to h)
    (λ down. absurd (up_no_down (s.nodes.node x.to) may.2 down))
idle_kept c S s (Strays number x) fits b may h = λ n down. by_number n down (same_or_not n x.to)
  where
    by_number : (n : ℕ) → IsDown (s.nodes.node n) → (n ≡ x.to) ⊎ (n ≢ x.to) → NoTask S n (telling (entry.Packet (packet.Delivered number x.from x.to)) (removed s number)).moments
    by_number n down (inl e) = absurd (up_no_down (s.nodes.node x.to) may.2 (subst (λ j. IsDown (s.nodes.node j)) e down))
    by_number n down (inr ne) = arrived_others S s number x.from x.to h n ne down
idle_kept c S s (Misses number x) fits b may h = h
idle_kept c S s (Loses number x) fits b may h = h
idle_kept c S s (Repeats number x) fits b may h = copied_idle S s number (sending s.links x.from x.to x.bytes) h
idle_kept c S s (Commands n d k now ends) fits b may h =
    let t : Scene = (commanded s n d k).scene in
    let i : Input = input.Answered (commanded s n d k).answer in
    let idle : DownsIdle S t = done_idle S s n d (slice_get s.devices (d - 1)) k h in
    step_idle c S n now ends i t (step_so c n now ends i s t (done_nodes s n d (slice_get s.devices (d - 1)) k) may.0.1 fits b) (λ j ne down. idle j down) (λ down. idle n down)
idle_kept c S s (Writes n d value now ends) fits b may h =
    let t : Scene = (commanded s n d (command.Write value)).scene in
    let i : Input = input.Wrote d value (commanded s n d (command.Write value)).answer in
    let idle : DownsIdle S t = done_idle S s n d (slice_get s.devices (d - 1)) (command.Write value) h in
    step_idle c S n now ends i t (step_so c n now ends i s t (done_nodes s n d (slice_get s.devices (d - 1)) (command.Write value)) may.0.1 fits b) (λ j ne down. idle j down) (λ down. idle n down)
idle_kept c S s (Refuses n d value cause) fits b may h = h

-- ---- each run

first_idle : (h : Header) (cells : ℕ) (S : Setting) → DownsIdle S (first_scene h cells)
unfolding first_scene
first_idle h cells S n down = refl

all_idle : (h : Header) (cells : ℕ) (S : Setting) → length h.devices ≤ most_devices → h.cluster < 2 ^ 32 → (hs : List Happening) (s : Scene) → Reached (first_cluster h) (first_scene h cells) s
    → MayAllHappen (first_cluster h) s hs → DownsIdle S s → DownsIdle S (all_happened (first_cluster h) s hs)
all_idle h cells S devices small [] s r may idle = idle
all_idle h cells S devices small (g ∷ hs) s r may idle =
    let c : Cluster = first_cluster h in
    let b : Stage c s = subst (λ z. Stage c z) r.is (run_stage h cells r.happenings devices small r.may) in
    all_idle h cells S devices small hs (happened c s g) (reached_more c (first_scene h cells) s g r may.0) may.1 (idle_kept c S s g (first_fit h devices) b may.0 idle)

pub down_has_no_work : (h : Header) (cells : ℕ) (S : Setting) → length h.devices ≤ most_devices → h.cluster < 2 ^ 32 → (s : Scene) → Reached (first_cluster h) (first_scene h cells) s
    → (n : ℕ) → IsDown (s.nodes.node n) → has_work S n s.moments ≡ false
down_has_no_work h cells S devices small s r n down =
    let idle : DownsIdle S s =
    subst (λ z. DownsIdle S z) r.is
    (all_idle h cells S devices small r.happenings (first_scene h cells) (record { happenings = []; may = tt; is = refl }) r.may (first_idle h cells S)) in
    by_test (is_some (member_of n s.moments)) (idle n down)
  where
    by_test : (b : Bool) → tasks_of S n s.moments ≡ [] → nat_lt 0 (length (map (λ (t : Task). t.device) (if b then [] else unfinished (tasks_of S n s.moments)))) ≡ false
    by_test true none = refl
    by_test false none = ap (λ (ts : List Task). nat_lt 0 (length (map (λ (t : Task). t.device) (unfinished ts)))) none
