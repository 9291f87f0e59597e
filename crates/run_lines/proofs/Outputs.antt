-- What a node tells first of each thing that comes to it.
use Rattle.std.specs.Prelude.{ℕ, ◌≡◌, ◌++◌, not, Bool, true, false, List, [], ◌∷◌, Option, None, Some, if◌then◌else◌}
use Rattle.std.specs.List.{AllByRecursion}
use Rattle.std.proofs.Common.{refl, sym, subst}
use Rattle.cl_base.specs.declared.method.Outcome as method
use Rattle.cmm_attempt.proofs.Basics.{false_true}
use Rattle.record_disk.specs.Disks.{DiskState, saving}
use Rattle.record_disk.specs.Savings.{Saving}
use Rattle.record_disk.specs.declared.error.Loss.{Loss}
use Rattle.restart_policy.specs.declared.policy.ProbeAction.{ProbeAction}
use Rattle.rgm_member.specs.Probes.{failed_probe, probed}
use Rattle.rgm_member.specs.State.{marks_of}
use Rattle.rgm_member.specs.declared.probed.Probed.{Probed}
use Rattle.rgm_member.specs.declared.probed.Probed.TheVariants as probe
use Rattle.seize.specs.Answers.{Answer}
use Rattle.status_report.specs.declared.call_entry.CallEntry.TheVariants as call
use Rattle.status_report.specs.declared.command_entry.CommandEntry.TheVariants as command
use Rattle.status_report.specs.declared.entry.Entry.{Entry}
use Rattle.status_report.specs.declared.entry.Entry.TheVariants as entry
use Rattle.status_report.specs.declared.node_entry.DownCause.TheVariants as cause
use Rattle.status_report.specs.declared.node_entry.NodeEntry.TheVariants as note
use Rattle.node_model.specs.declared.cluster.Cluster.{Cluster}
use Rattle.node_model.specs.declared.input.Input.{Input}
use Rattle.node_model.specs.declared.input.Input.TheVariants as input
use Rattle.node_model.specs.declared.node.Node.{Node}
use Rattle.node_model.specs.declared.node.Node.TheVariants.{Down, Up}
use Rattle.node_model.specs.declared.node.UpNode.{UpNode}
use Rattle.node_model.specs.declared.output.Output.{Output}
use Rattle.node_model.specs.declared.output.Output.TheVariants.{Tells, Sends}
use Rattle.node_model.specs.Clusters.{first_valid_of}
use Rattle.node_model.specs.Configurations.{own_config}
use Rattle.node_model.specs.Groups.{reporting}
use Rattle.node_model.specs.Plans.{Plan}
use Rattle.node_model.specs.Plans.Plan.{Stays, Falls, Says, Saves}
use Rattle.node_model.specs.Requests.{on_command}
use Rattle.node_model.specs.Seats.{up_with}
use Rattle.node_model.specs.Ticks.{on_tick}
use Rattle.node_model.specs.Steps.{Outcome, at_second, carried, stepped, unless_lost}
use Rattle.pgr_device.specs.declared.command.PrCommand.{PrCommand}
use Rattle.refinement.specs.Guards.{IsDown}
use Rattle.refinement.specs.Steps.{disk_rules}
use Rattle.world_model.specs.Devices.{due_of}
use Rattle.world_model.specs.Lines.{monitors}
use Rattle.run_history.specs.CommandLines.{AllQuiet, CommandFirst, IsQuiet, NodeTells, TellsDue}
use Rattle.run_history.specs.Happenings.{IsUp}
use Rattle.run_history.proofs.LineSteps.{commands_are_told}
use Rattle.run_lines.specs.Entries.{GivesEntry, IsOfEvent}

-- ---- a node tells entries of events alone

quiet_entry : (e : Entry) → IsQuiet e → IsOfEvent e
quiet_entry (entry.Schedule e) h = absurd h
quiet_entry _ h = tt

quiet_entries : (os : List Output) → AllQuiet os → AllByRecursion GivesEntry os
quiet_entries [] h = tt
quiet_entries (Tells e ∷ os) h = (quiet_entry e h.0, quiet_entries os h.1)
quiet_entries (Sends to b ∷ os) h = (tt, quiet_entries os h.1)

first_entries : (n d : ℕ) (k : PrCommand) (a : Answer) (os : List Output) → CommandFirst n d k a os → AllByRecursion GivesEntry os
first_entries n d k a os h = subst (AllByRecursion GivesEntry) (sym h.first) (tt, quiet_entries h.others h.quiet)

due_entries : (n : ℕ) (a : Answer) (o : Option (ℕ × PrCommand)) (os : List Output) → TellsDue n a o os → AllByRecursion GivesEntry os
due_entries n a None os h = quiet_entries os h
due_entries n a (Some due) os h = first_entries n due.0 due.1 a os h

told_entries : (n : ℕ) (node : Node) (i : Input) (os : List Output) → NodeTells n node i os → AllByRecursion GivesEntry os
told_entries n Down i os h = quiet_entries os h
told_entries n (Up x) (input.Answered a) os h = due_entries n a (due_of x) os h
told_entries n (Up x) (input.Wrote d value a) os h = first_entries n d _ a os h
told_entries n (Up x) _ os h = quiet_entries os h

pub gives_entries : (c : Cluster) (n now : ℕ) (ends : method.Outcome) (node : Node) (disk : DiskState) (i : Input) → AllByRecursion GivesEntry (stepped disk_rules c n now ends node disk i).given
gives_entries c n now ends node disk i = told_entries n node i (stepped disk_rules c n now ends node disk i).given (commands_are_told c n now ends node disk i)

-- ---- what stands first stays first

abbrev pub FirstOf : Output → List Output → Type 0
FirstOf first [] = ⊥
FirstOf first (o ∷ os) = o ≡ first

first_lost : (n : ℕ) (first : Output) (rest : List Output) (disk : DiskState) (lost : Option Loss) (next : Outcome DiskState) → FirstOf first next.given
    → FirstOf first (unless_lost n (first ∷ rest) disk lost next).given
first_lost n first rest disk None next h = h
first_lost n first rest disk (Some loss) next h = refl

first_carried : (n : ℕ) (p : Plan) (first : Output) (rest : List Output) (disk : DiskState) → FirstOf first (carried saving n p (first ∷ rest) disk).given
first_carried n (Stays x) first rest disk = refl
first_carried n (Falls why) first rest disk = refl
first_carried n (Says os p) first rest disk = first_carried n p first (rest ++ os) disk
first_carried n (Saves r p) first rest disk =
    first_lost n first rest (saving disk r).after (saving disk r).lost (carried saving n p (first ∷ rest) (saving disk r).after) (first_carried n p first rest (saving disk r).after)

-- the first of the outputs tells an entry of which P holds
abbrev pub TellsFirst : (Entry → Type 0) → List Output → Type 0
TellsFirst P [] = ⊥
TellsFirst P (Tells e ∷ os) = P e
TellsFirst P (Sends to b ∷ os) = ⊥

pub tells_first : (P : Entry → Type 0) (e : Entry) (os : List Output) → P e → FirstOf (Tells e) os → TellsFirst P os
tells_first P e [] p h = absurd h
tells_first P e (o ∷ os) p h = subst (λ z. TellsFirst P (z ∷ os)) (sym h) p

-- .. as a plan says
abbrev SaysFirst : (Entry → Type 0) → Plan → Type 0
SaysFirst P (Says os rest) = TellsFirst P os
SaysFirst P _ = ⊥

plan_first : (P : Entry → Type 0) (n : ℕ) (p : Plan) (disk : DiskState) → SaysFirst P p → TellsFirst P (carried saving n p [] disk).given
plan_first P n (Says (Tells e ∷ os) rest) disk h = tells_first P e (carried saving n rest (Tells e ∷ os) disk).given h (first_carried n rest (Tells e) os disk)
plan_first P n (Says (Sends to b ∷ os) rest) disk h = absurd h
plan_first P n (Says [] rest) disk h = absurd h
plan_first P n (Stays x) disk h = absurd h
plan_first P n (Falls why) disk h = absurd h
plan_first P n (Saves r rest) disk h = absurd h

-- ---- by what comes

pub boot_first : (c : Cluster) (n now : ℕ) (ends : method.Outcome) (node : Node) (disk : DiskState) → IsDown node
    → TellsFirst (λ e. e ≡ entry.Node n note.Up) (stepped disk_rules c n now ends node disk input.Boot).given
boot_first c n now ends Down disk down =
    let first : Output = Tells (entry.Node n note.Up) in
    let mounted : Saving DiskState = disk_rules.mounting disk in
    let up : Outcome DiskState = record { after = Up (up_with n (first_valid_of c n) (disk_rules.kept disk)); given = first ∷ []; disk = mounted.after } in
    tells_first (λ e. e ≡ entry.Node n note.Up) (entry.Node n note.Up) (unless_lost n (first ∷ []) mounted.after mounted.lost up).given refl (first_lost n first [] mounted.after mounted.lost up refl)
boot_first c n now ends (Up x) disk down = absurd down

pub crash_alone : (c : Cluster) (n now : ℕ) (ends : method.Outcome) (node : Node) (disk : DiskState) → IsUp node
    → (stepped disk_rules c n now ends node disk input.Crash).given ≡ Tells (entry.Node n (note.Down cause.Crash)) ∷ []
crash_alone c n now ends Down disk up = absurd up
crash_alone c n now ends (Up x) disk up = refl

pub tick_first : (c : Cluster) (n now : ℕ) (ends : method.Outcome) (node : Node) (disk : DiskState) → IsUp node
    → TellsFirst (λ e. e ≡ entry.Node n note.Ticked) (stepped disk_rules c n now ends node disk input.Tick).given
tick_first c n now ends Down disk up = absurd up
tick_first c n now ends (Up x) disk up = plan_first (λ e. e ≡ entry.Node n note.Ticked) n (on_tick c n ends (at_second now x)) disk refl

abbrev pub IsAsked : ℕ → Entry → Type 0
IsAsked n (entry.Command (command.Asked m q)) = m ≡ n
IsAsked n _ = ⊥

pub command_first : (c : Cluster) (n now : ℕ) (ends : method.Outcome) (node : Node) (disk : DiskState) (words : List ℕ) → IsUp node
    → TellsFirst (IsAsked n) (stepped disk_rules c n now ends node disk (input.Commanded words)).given
command_first c n now ends Down disk words up = absurd up
command_first c n now ends (Up x) disk words up = plan_first (IsAsked n) n (on_command c n (at_second now x) words) disk refl

abbrev pub IsProbed : ℕ → Entry → Type 0
IsProbed n (entry.Call (call.Probed m resource result)) = m ≡ n
IsProbed n _ = ⊥

HasMonitor : Probed → Type 0
HasMonitor probe.NoMonitor = ⊥
HasMonitor _ = Unit {0}

monitor_probes : (mon good : Bool) (failed : ProbeAction) → mon ≡ true → HasMonitor (if not mon then probe.NoMonitor else if good then probe.Good else probe.Failed failed)
unfolding HasMonitor
monitor_probes false good failed is = absurd (false_true is)
monitor_probes true true failed is = tt
monitor_probes true false failed is = tt

probe_first : (c : Cluster) (n : ℕ) (y : UpNode) (r : List ℕ) (p : Probed) (disk : DiskState) → HasMonitor p → TellsFirst (IsProbed n) (carried saving n (reporting c n y r p) [] disk).given
unfolding HasMonitor
probe_first c n y r probe.NoMonitor disk has = absurd has
probe_first c n y r probe.Good disk has = plan_first (IsProbed n) n (reporting c n y r probe.Good) disk refl
probe_first c n y r (probe.Failed a) disk has = plan_first (IsProbed n) n (reporting c n y r (probe.Failed a)) disk refl

pub report_first : (c : Cluster) (n now : ℕ) (ends : method.Outcome) (node : Node) (disk : DiskState) (resource : List ℕ) (good : Bool) → monitors resource (Some node) ≡ true
    → TellsFirst (IsProbed n) (stepped disk_rules c n now ends node disk (input.Reported resource good)).given
report_first c n now ends Down disk resource good has = absurd (false_true has)
report_first c n now ends (Up x) disk resource good has =
    let y : UpNode = at_second now x in
    probe_first c n y resource (probed y.worker (own_config c y) resource good y.second) disk
    (monitor_probes (marks_of x.worker.resources resource).mon good (failed_probe y.worker (own_config c y) resource y.second) has)
