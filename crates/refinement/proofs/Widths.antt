-- Every run keeps its widths, and so do the commands that are due.
use Rattle.std.specs.Prelude.{ℕ, ◌-◌, ◌≡◌, ◌≢◌, ◌≤◌, ◌<◌, ◌^◌, ◌⊎◌, ◌++◌, List, [], ◌∷◌, Option, None, Some, find, length}
use Rattle.std.specs.Option.{option_and_then, option_map}
use Rattle.std.proofs.Common.{refl, sym, ap, subst, inl, inr, arith}
use Rattle.std.specs.List.{AllByRecursion}
use Rattle.std.proofs.lemmas.Option.{slice_get_within}
use Rattle.cl_base.specs.Keys.{key_of}
use Rattle.cl_base.specs.declared.method.Outcome as method
use Rattle.cmm_attempt.proofs.Basics.{none_some, same_some}
use Rattle.cmm_member.specs.Records.{NodeRecord}
use Rattle.device_queue.specs.declared.task.Task.{Task}
use Rattle.device_queue.specs.declared.task.Work.{Work}
use Rattle.device_queue.specs.declared.task.Work.TheVariants.{Seizing, Joining}
use Rattle.device_queue.specs.Tasks.{command_in, is_queued}
use Rattle.machine_base.specs.Put.{put}
use Rattle.machine_base.proofs.Puts.{put_here, put_there, same_or_not}
use Rattle.pgr_device.specs.declared.command.PrCommand.{PrCommand}
use Rattle.record_disk.specs.Disks.{DiskState, armed, mounting, saving}
use Rattle.record_disk.specs.declared.error.Loss.{Loss}
use Rattle.seize.specs.Joining as joining
use Rattle.seize.specs.Seizing as seizing
use Rattle.seize.specs.declared.step.JoinStep.{JoinStep}
use Rattle.seize.specs.declared.step.JoinStep.TheVariants as join
use Rattle.seize.specs.declared.step.SeizeStep.{SeizeStep}
use Rattle.seize.specs.declared.step.SeizeStep.TheVariants as seize
use Rattle.status_report.specs.declared.node_entry.DownCause.{DownCause}
use Rattle.status_report.specs.declared.entry.Entry.TheVariants as entry
use Rattle.status_report.specs.declared.node_entry.NodeEntry.TheVariants as note
use Rattle.wire.specs.declared.message.Body.{Body}
use Rattle.wire.specs.Spelling.{IsNode}
use Rattle.node_model.specs.Clusters.{first_valid_of}
use Rattle.node_model.specs.declared.cluster.Cluster.{Cluster}
use Rattle.node_model.specs.declared.input.Input.{Input}
use Rattle.node_model.specs.declared.input.Input.TheVariants.{Boot, Crash, Tick, Packet, CommandDue, Answered, Wrote, Commanded, Reported, Client}
use Rattle.node_model.specs.declared.node.Node.{Node}
use Rattle.node_model.specs.declared.node.Node.TheVariants.{Down, Up}
use Rattle.node_model.specs.declared.node.UpNode.{UpNode}
use Rattle.node_model.specs.declared.output.Output.{Output}
use Rattle.node_model.specs.declared.output.Output.TheVariants.{Tells, Sends}
use Rattle.node_model.specs.Plans.{Plan, cause_of}
use Rattle.node_model.specs.Plans.Plan.{Stays, Falls, Says, Saves}
use Rattle.node_model.specs.Seats.{up_with}
use Rattle.node_model.specs.Steps.{Outcome, at_second, carried, gone, plan_of, stepped, unless_lost}
use Rattle.refinement.specs.node_widths.Plans.{PlanFits}
use Rattle.refinement.specs.node_widths.Widths as widths
use Rattle.refinement.specs.node_widths.Widths.{InputFits, NodeFits, RecordFits, TaskFits, UpFits, WorkFits}
use Rattle.refinement.proofs.node_widths.Handlers.{steps_keep_widths}
use Rattle.refinement.proofs.node_widths.Lengths.{sent_messages_fit}
use Rattle.refinement.proofs.node_widths.Sets.{first_valid_fits}
use Rattle.world_model.specs.Devices.{due_at}
use Rattle.world_model.specs.Worlds.{node_at}
use Rattle.refinement.specs.Runs.{AnswersFit, InTime, IsAmong, Letter, MayMove, Move, Moves, Nodes, WasSent, first_nodes, letters_of, moved}
use Rattle.refinement.specs.Runs.Move.{Arms, Takes}
use Rattle.refinement.specs.Steps.{disk_rules}
use Rattle.refinement.specs.Widths.{ClusterFits, CommandFits, DueFits, LetterFits, RunFits}
use Rattle.refinement.specs.Worlds.{AllFit, DevicesFit, GivesFit}
use Rattle.refinement.proofs.DeviceWidths.{command_keeps, key_small}
use Rattle.refinement.proofs.Disks.{disks_keep_rules}
use Rattle.refinement.proofs.Worlds.{all_found, number_low}

-- A plan that is carried out.

all_fit_append : (first second : List Output) → widths.AllFit first → widths.AllFit second → widths.AllFit (first ++ second)
all_fit_append [] second h k = k
all_fit_append (Tells e ∷ os) second h k = all_fit_append os second h k
all_fit_append (Sends to b ∷ os) second h k = (h.0, h.1, all_fit_append os second h.2 k)

record StepFits (c : Cluster) (n : ℕ) (o : Outcome DiskState) : Type 0 where
  node : NodeFits c n o.after
  disk : RecordFits o.disk.kept
  given : widths.AllFit o.given

gone_fits : (c : Cluster) (n : ℕ) (why : DownCause) (given : List Output) (disk : DiskState) → widths.AllFit given → RecordFits disk.kept → StepFits c n (gone n why given disk)
gone_fits c n why given disk f r = record { node = tt; disk = r; given = all_fit_append given _ f tt }

unless_fits : (c : Cluster) (n : ℕ) (given : List Output) (disk : DiskState) (o : Option Loss) (next : Outcome DiskState) → widths.AllFit given
    → ((loss : Loss) → o ≡ Some loss → RecordFits disk.kept) → (o ≡ None → StepFits c n next) → StepFits c n (unless_lost n given disk o next)
unless_fits c n given disk None next f lost done = done refl
unless_fits c n given disk (Some loss) next f lost done = gone_fits c n (cause_of loss) given disk f (lost loss refl)

either_kept : (kept new old : NodeRecord) → (kept ≡ new) ⊎ (kept ≡ old) → RecordFits new → RecordFits old → RecordFits kept
either_kept kept new old (inl e) h k = subst RecordFits (sym e) h
either_kept kept new old (inr e) h k = subst RecordFits (sym e) k

carried_fits : (c : Cluster) (n : ℕ) (p : Plan) (given : List Output) (disk : DiskState) → PlanFits c n p → widths.AllFit given → RecordFits disk.kept
    → StepFits c n (carried saving n p given disk)
carried_fits c n (Stays x) given disk h f r = record { node = h; disk = r; given = f }
carried_fits c n (Falls why) given disk h f r = gone_fits c n why given disk f r
carried_fits c n (Says os rest) given disk h f r = carried_fits c n rest (given ++ os) disk h.1 (all_fit_append given os f h.0) r
carried_fits c n (Saves new rest) given disk h f r =
    unless_fits c n given (saving disk new).after (saving disk new).lost (carried saving n rest given (saving disk new).after) f
    (λ loss e. either_kept (saving disk new).after.kept new disk.kept (disks_keep_rules.lost disk new loss e) h.0 r)
    (λ e. carried_fits c n rest given (saving disk new).after h.1 f (subst RecordFits (sym (disks_keep_rules.saved disk new e)) h.0))

-- A step.

none_fits : 0 < 2 ^ 64
none_fits = omega arith

-- at another second
dated_fits : (c : Cluster) (n now : ℕ) (x : UpNode) → now < 2 ^ 64 → UpFits c n x → UpFits c n (at_second now x)
dated_fits c n now x time h = record {
  state = h.state;
  all_tasks = h.all_tasks;
  own = h.own;
  seen = h.seen;
  asked = h.asked;
  works = h.works;
  clock = time;
  presides = h.presides;
}

step_fits : (c : Cluster) (n now : ℕ) (ends : method.Outcome) (node : Node) (disk : DiskState) (i : Input) → ClusterFits c → IsNode n → now < 2 ^ 64 → InputFits i → NodeFits c n node → RecordFits disk.kept
    → StepFits c n (stepped disk_rules c n now ends node disk i)
step_fits c n now ends (Up x) disk i fits is time arrives h r =
    let y : UpNode = at_second now x in
    carried_fits c n (plan_of c n ends y i) [] disk (steps_keep_widths c n ends y i fits.devices is (dated_fits c n now x time h) arrives) tt r
step_fits c n now ends Down disk Boot fits is time arrives h r =
    let x : UpNode = up_with n (first_valid_of c n) disk.kept in
    let up : UpFits c n x = record { state = record { session = none_fits; record_fits = r; joined = omega arith }; all_tasks = tt; own = tt; seen = tt; asked = (omega arith, tt); works = (none_fits, tt, tt, tt); clock = none_fits; presides = tt } in
    let next : Outcome DiskState = record { after = Up x; given = Tells (entry.Node n note.Up) ∷ []; disk = (mounting disk).after } in
    let next_fits : StepFits c n next = record { node = up; disk = kept; given = tt } in
    unless_fits c n (Tells (entry.Node n note.Up) ∷ []) (mounting disk).after (mounting disk).lost next tt (λ loss e. kept) (λ e. next_fits)
  where
    kept : RecordFits (mounting disk).after.kept
    kept = subst RecordFits (sym (disks_keep_rules.mounted disk)) r
step_fits c n now ends Down disk Crash fits is time arrives h r = record { node = tt; disk = r; given = tt }
step_fits c n now ends Down disk Tick fits is time arrives h r = record { node = tt; disk = r; given = tt }
step_fits c n now ends Down disk (Packet from m) fits is time arrives h r = record { node = tt; disk = r; given = tt }
step_fits c n now ends Down disk CommandDue fits is time arrives h r = record { node = tt; disk = r; given = tt }
step_fits c n now ends Down disk (Answered a) fits is time arrives h r = record { node = tt; disk = r; given = tt }
step_fits c n now ends Down disk (Wrote d value a) fits is time arrives h r = record { node = tt; disk = r; given = tt }
step_fits c n now ends Down disk (Commanded words) fits is time arrives h r = record { node = tt; disk = r; given = tt }
step_fits c n now ends Down disk (Reported m good) fits is time arrives h r = record { node = tt; disk = r; given = tt }
step_fits c n now ends Down disk (Client name client port) fits is time arrives h r = record { node = tt; disk = r; given = tt }

-- A run.

sent_fits : (from : ℕ) (b : Body) (letters : List Letter) → IsAmong from b letters → AllByRecursion LetterFits letters → IsNode from × widths.BodyFits b
sent_fits from b [] h all = absurd h
sent_fits from b (l ∷ letters) (inl e) all = (subst IsNode e.0 all.0.0, subst widths.BodyFits e.1 all.0.1)
sent_fits from b (l ∷ letters) (inr h) all = sent_fits from b letters h all.1

arrives_fit : (v : Nodes) (i : Input) → WasSent v i → AnswersFit i → AllByRecursion LetterFits v.sent → InputFits i
arrives_fit v (Packet from m) h f all = sent_fits from m.body v.sent h all
arrives_fit v Boot h f all = tt
arrives_fit v Crash h f all = tt
arrives_fit v Tick h f all = tt
arrives_fit v CommandDue h f all = tt
arrives_fit v (Answered a) h f all = f
arrives_fit v (Wrote d value a) h f all = tt
arrives_fit v (Commanded words) h f all = tt
arrives_fit v (Reported r good) h f all = tt
arrives_fit v (Client name client port) h f all = tt

letters_fit : (n : ℕ) (os : List Output) (old : List Letter) → IsNode n → widths.AllFit os → AllByRecursion LetterFits old → AllByRecursion LetterFits (letters_of n os ++ old)
letters_fit n [] old is h k = k
letters_fit n (Tells e ∷ os) old is h k = letters_fit n os old is h k
letters_fit n (Sends to b ∷ os) old is h k = ((is, h.1), letters_fit n os old is h.2 k)

put_fits_node : (c : Cluster) (v : Nodes) (n : ℕ) (node : Node) → NodeFits c n node → ((k : ℕ) → NodeFits c k (v.node k)) → (k : ℕ) → NodeFits c k (put v.node n node k)
put_fits_node c v n node here there k = go (same_or_not k n)
  where
    go : (k ≡ n) ⊎ (k ≢ n) → NodeFits c k (put v.node n node k)
    go (inl e) = subst (λ j. NodeFits c j (put v.node n node j)) (sym e) (subst (NodeFits c n) (sym (put_here v.node n node)) here)
    go (inr ne) = subst (NodeFits c k) (sym (put_there v.node n node k ne)) (there k)

put_fits_disk : (v : Nodes) (n : ℕ) (disk : DiskState) → RecordFits disk.kept → ((k : ℕ) → RecordFits (v.disk k).kept) → (k : ℕ) → RecordFits (put v.disk n disk k).kept
put_fits_disk v n disk here there k = go (same_or_not k n)
  where
    go : (k ≡ n) ⊎ (k ≢ n) → RecordFits (put v.disk n disk k).kept
    go (inl e) = subst (λ j. RecordFits (put v.disk n disk j).kept) (sym e) (subst (λ (d : DiskState). RecordFits d.kept) (sym (put_here v.disk n disk)) here)
    go (inr ne) = subst (λ (d : DiskState). RecordFits d.kept) (sym (put_there v.disk n disk k ne)) (there k)

move_fits : (c : Cluster) → ClusterFits c → (v : Nodes) (n now : ℕ) (ends : method.Outcome) (i : Input) → MayMove v (Takes n now ends i) → now < 2 ^ 64 → RunFits c v
    → StepFits c n (stepped disk_rules c n now ends (v.node n) (v.disk n) i)
move_fits c fits v n now ends i may time h =
    step_fits c n now ends (v.node n) (v.disk n) i fits (may.0, may.1) time (arrives_fit v i may.2 may.3 h.sent) (h.nodes n) (h.disks n)

fits_move : (c : Cluster) → ClusterFits c → (v : Nodes) (m : Move) → MayMove v m → InTime m → RunFits c v → RunFits c (moved c v m)
fits_move c fits v (Takes n now ends i) may time h =
    let o : Outcome DiskState = stepped disk_rules c n now ends (v.node n) (v.disk n) i in
    let s : StepFits c n o = move_fits c fits v n now ends i may time h in
    record {
      nodes = put_fits_node c v n o.after s.node h.nodes;
      disks = put_fits_disk v n o.disk s.disk h.disks;
      sent = letters_fit n o.given v.sent (may.0, may.1) s.given h.sent;
    }
fits_move c fits v (Arms n calls choice) may time h =
    record { nodes = h.nodes; disks = put_fits_disk v n (armed (v.disk n) calls choice) (h.disks n) h.disks; sent = h.sent }

fits_moves : (c : Cluster) → ClusterFits c → (v : Nodes) (moves : List Move) (w : Nodes) → Moves c v moves w → AllByRecursion InTime moves → RunFits c v → RunFits c w
fits_moves c fits v [] w run time h = subst (RunFits c) (sym run) h
fits_moves c fits v (m ∷ moves) w run time h = fits_moves c fits (moved c v m) moves w run.1 time.1 (fits_move c fits v m run.0 time.0 h)

run_fits : (c : Cluster) → ClusterFits c → (moves : List Move) (w : Nodes) → Moves c (first_nodes c) moves w → AllByRecursion InTime moves → RunFits c w
run_fits c fits moves w run time = fits_moves c fits (first_nodes c) moves w run time (record {
  nodes = λ n. tt;
  disks = λ n. record { promised = none_fits; installed = none_fits; members = omega arith; valid = first_valid_fits c n fits.devices; places = none_fits };
  sent = tt;
})

all_spelled : (n : ℕ) (os : List Output) → IsNode n → widths.AllFit os → AllFit n os
all_spelled n [] is h = tt
all_spelled n (Tells e ∷ os) is h = all_spelled n os is h
all_spelled n (Sends to b ∷ os) is h = (h.0, λ short. sent_messages_fit (record { sender = n; body = b }) is h.1 short, all_spelled n os is h.2)

pub gives_fit : (c : Cluster) → ClusterFits c → GivesFit c
gives_fit c fits moves v n now ends i run times time may =
    all_spelled n (stepped disk_rules c n now ends (v.node n) (v.disk n) i).given (may.0, may.1) (move_fits c fits v n now ends i may time (run_fits c fits moves v run times)).given

-- The command that is due.

own_key_small : (c : Cluster) (n cluster me : ℕ) → c.id < 2 ^ 32 → n ≤ 32 → cluster ≡ c.id → me ≡ n → key_of cluster me < 2 ^ 64
own_key_small c n cluster me small low is own = key_small cluster me (subst (λ q. q < 2 ^ 32) (sym is) small) (subst (λ q. q ≤ 32) (sym own) low)

seize_due : (s : seizing.SeizeState) (step : SeizeStep) → s.epoch < 2 ^ 64 → seizing.own_key s < 2 ^ 64 → DueFits (seizing.command_at s step)
seize_due s seize.Check epoch key = tt
seize_due s seize.Register epoch key = key
seize_due s seize.ReadWord epoch key = tt
seize_due s (seize.Swap expected) epoch key = epoch
seize_due s seize.Reserve epoch key = tt
seize_due s (seize.ReadKeys reading) epoch key = tt
seize_due s (seize.Preempt victim reading) epoch key = tt
seize_due s (seize.Confirm keys) epoch key = tt
seize_due s (seize.Ended result) epoch key = tt

join_due : (j : joining.JoinState) (step : JoinStep) → key_of j.cluster j.me < 2 ^ 64 → DueFits (joining.command_at j step)
join_due j join.Register key = key
join_due j join.ReadWord key = tt
join_due j (join.Ended result) key = tt

work_due : (c : Cluster) (n : ℕ) (w : Work) → c.id < 2 ^ 32 → n ≤ 32 → WorkFits c n w → DueFits (command_in w)
work_due c n (Seizing s) small low h = seize_due s s.step h.0 (own_key_small c n s.cluster s.me small low h.1 h.2)
work_due c n (Joining j) small low h = join_due j j.step (own_key_small c n j.cluster j.me small low h.0 h.1)

told_due : (at d : ℕ) (k : PrCommand) (o : Option PrCommand) → DueFits o → option_and_then {U = ℕ × PrCommand} (λ (j : PrCommand). Some (at, j)) o ≡ Some (d, k) → CommandFits k
told_due at d k None h e = absurd (none_some (d, k) e)
told_due at d k (Some j) h e = subst CommandFits (ap (λ (z : ℕ × PrCommand). z.1) (same_some (at, j) (d, k) e)) h

task_due : (d : ℕ) (k : PrCommand) (o : Option Task) → ((t : Task) → o ≡ Some t → DueFits (command_in t.work))
    → option_and_then {U = ℕ × PrCommand} (λ at. option_and_then {U = ℕ × PrCommand} (λ (j : PrCommand). Some (at, j)) (option_and_then (λ (t : Task). command_in t.work) o)) (option_map (λ (t : Task). t.device) o) ≡ Some (d, k) → CommandFits k
task_due d k None all e = absurd (none_some (d, k) e)
task_due d k (Some t) all e = told_due t.device d k (command_in t.work) (all t refl) e

node_due : (c : Cluster) (n d : ℕ) (k : PrCommand) (o : Option Node) → c.id < 2 ^ 32 → n ≤ 32 → ((node : Node) → o ≡ Some node → NodeFits c n node) → due_at o ≡ Some (d, k) → CommandFits k
node_due c n d k None small low all e = absurd (none_some (d, k) e)
node_due c n d k (Some Down) small low all e = absurd (none_some (d, k) e)
node_due c n d k (Some (Up x)) small low all e =
    let h : UpFits c n x = all (Up x) refl in
    task_due d k (find is_queued x.tasks) (λ t is. work_due c n t.work small low (all_found (TaskFits c n) is_queued x.tasks t h.all_tasks is).1) e

-- a command is due at a node that is there
node_there : (o : Option Node) (d : ℕ) (k : PrCommand) (P : Type 0) → due_at o ≡ Some (d, k) → ((node : Node) → o ≡ Some node → P) → P
node_there None d k P e f = absurd (none_some (d, k) e)
node_there (Some node) d k P e f = f node refl

pub devices_fit : (c : Cluster) → ClusterFits c → c.id < 2 ^ 32 → DevicesFit c
devices_fit c fits small w n d k device h low is f =
    let r : RunFits c h.nodes = run_fits c fits h.moves h.nodes h.run h.in_time in
    let high : n ≤ 32 = node_there (node_at w n) d k (n ≤ 32) is (λ node at. number_low n (length w.nodes) low (slice_get_within w.nodes (n - 1) node at) h.shows.few) in
    command_keeps device n k low high (node_due c n d k (node_at w n) small high (λ node at. subst (NodeFits c n) (h.shows.node n node low at) (r.nodes n)) is) f
