-- Each step of a node leaves its attempt so.
use Rattle.std.specs.Prelude.{ℕ, ◌≡◌, ◌==◌, nat_le, false, List, [], Option, None, Some, Ok}
use Rattle.std.proofs.Common.{refl, sym, subst, inl}
use Rattle.cl_base.specs.Sets.{has}
use Rattle.cl_base.specs.Seizings.{SeizeResult}
use Rattle.cl_base.specs.declared.method.Outcome as method
use Rattle.cmm_attempt.proofs.Basics.{if_either}
use Rattle.cmm_attempt.specs.Attempts.{AttemptState}
use Rattle.cmm_attempt.specs.Calls.{Own_seized, Take, Tick as Call_tick}
use Rattle.device_queue.specs.Queue.{begins_plainly, due_device, next_of, progress_after}
use Rattle.device_queue.specs.declared.progress.Progress.{Progress}
use Rattle.device_queue.specs.declared.progress.Progress.TheVariants.{GoesOn, Joined, Seized}
use Rattle.node_model.specs.Clusters.{first_valid_of}
use Rattle.node_model.specs.Configurations.{in_force}
use Rattle.node_model.specs.Devices.{joining_so}
use Rattle.node_model.specs.Members.{hearing, is_foreign}
use Rattle.node_model.specs.Seats.{coordinator_of, record_of, session_of}
use Rattle.node_model.specs.Steps.{Outcome, at_second, booted_with, stepped}
use Rattle.node_model.specs.Ticks.{later, members_to_form, waiting_less}
use Rattle.node_model.specs.declared.cluster.Cluster.{Cluster}
use Rattle.node_model.specs.declared.input.Input.{Input}
use Rattle.node_model.specs.declared.input.Input.TheVariants.{Answered, Boot, Client, CommandDue, Commanded, Crash, Packet, Reported, Tick, Wrote}
use Rattle.node_model.specs.declared.node.Node.{Node}
use Rattle.node_model.specs.declared.node.Node.TheVariants.{Down, Up}
use Rattle.node_model.specs.declared.node.UpNode.{UpNode}
use Rattle.node_model.specs.declared.presidency.Presidency.{Presidency}
use Rattle.cmm_member.specs.Records.{NodeRecord}
use Rattle.ccr_tables.specs.State.{ConfigState}
use Rattle.ccr_tables.specs.declared.address.Address.{Address}
use Rattle.rg_props.specs.Lookups.{named}
use Rattle.pgr_device.specs.declared.command.PrAnswer.TheVariants as given
use Rattle.pgr_device.specs.declared.command.PrCommand.{PrCommand}
use Rattle.record_disk.specs.Disks.{DiskState, mounting, saving}
use Rattle.record_disk.specs.declared.error.Loss.{Loss}
use Rattle.record_disk.specs.declared.error.Loss.TheVariants.{Fault, Stopped}
use Rattle.refinement.proofs.Cuts.{step_of_node_is_its_course}
use Rattle.refinement.specs.Courses.{Course}
use Rattle.refinement.specs.Courses.Course.{Acts, Falls, Keeps, Stops}
use Rattle.refinement.specs.Cuts as cuts
use Rattle.refinement.specs.Cuts.{course_at, course_of, writing}
use Rattle.refinement.specs.Doings.{Act, Change, answered_so}
use Rattle.refinement.specs.Doings.Act.{Goes_on, Hears, Makes, Waits}
use Rattle.refinement.specs.Doings.Change.{Acks, Distrusts, Proposes}
use Rattle.refinement.specs.Steps.{disk_rules}
use Rattle.seize.specs.Answers.{Answer}
use Rattle.seize.specs.declared.kind.JoinResult.{JoinResult}
use Rattle.seize.specs.declared.kind.JoinResult.TheVariants as join
use Rattle.seize.specs.declared.kind.SeizeKind.TheVariants.{Plain, Vote}
use Rattle.wire.specs.declared.message.Body.{Body}
use Rattle.wire.specs.declared.message.Body.TheVariants as body
use Rattle.wire.specs.declared.message.Message.{Message}
use Rattle.run_attempts.specs.Steps.{IsStaid, StaidAct, StaidChange}
use Rattle.run_attempts.proofs.Staid.{governing_staid}
use Rattle.run_history.proofs.QuietCourses.{Quiet, QuietAct, command, governing, readying, report}
use Rattle.run_downs.proofs.Proposing.{command_p, report_p}
use Rattle.run_outcomes.specs.saves.Kept.{IsAt}
use Rattle.run_outcomes.specs.saves.Courses.{LeadsTo, Leaves, LeavesAct, LeavesChange}
use Rattle.run_outcomes.proofs.saves.Beside.{no_leads, quiet_leaves, readying_no}
use Rattle.run_outcomes.proofs.saves.Rests.{leads_joined}
use Rattle.run_outcomes.specs.phases.Kept.{In}
use Rattle.run_outcomes.proofs.phases.Leading.{Has, leaves_has}
use Rattle.run_outcomes.proofs.phases.Live.{IsLive}
use Rattle.run_outcomes.proofs.phases.LiveCourses.{Ends, forming_ends, going_ends, live_leaves, own_ready_ends}
use Rattle.run_outcomes.proofs.phases.Steps.{carried_leads, other_l, seizing_l}

staid_change : (change : Change) → StaidChange change → LeavesChange change
staid_change (Proposes s p text) h = tt
staid_change (Acks s p q left text) h = tt
staid_change _ h = absurd h

staid_act : (a : Act) → StaidAct a → QuietAct a → LeavesAct a
staid_act (Goes_on a k) h quiet = absurd quiet
staid_act (Makes change) h quiet = staid_change change h
staid_act _ h quiet = tt

pub staid_leaves : (k : Course) → IsStaid k → Quiet k → Leaves k
staid_leaves Stops h quiet = tt
staid_leaves (Acts a rest) h quiet = (staid_act a h.0 quiet.0, staid_leaves rest h.1 quiet.1)
staid_leaves (Keeps change rest) h quiet = (staid_change change h.0, staid_leaves rest h.1 quiet.1)
staid_leaves (Falls why) h quiet = tt

answer_ends : (c : Cluster) (me : ℕ) (x : UpNode) (from : ℕ) (m : Message) (o : Option AttemptState) → In IsLive o → Has IsLive x → LeadsTo c me Ends x (cuts.answer_course c me x from m o)
answer_ends c me x from m None here h = inl h
answer_ends c me x from m (Some a) here h = going_ends c me x a (Take from m) here

body_ends : (c : Cluster) (me : ℕ) (ends : method.Outcome) (x : UpNode) (from : ℕ) (m : Message) (b : Body) → Has IsLive x → LeadsTo c me Ends x (cuts.body_course c me ends x from m b)
body_ends c me ends x from m (body.Promise e installed members valid flagged committed pending) h = answer_ends c me x from m x.attempt h h
body_ends c me ends x from m (body.Nack e promised) h = answer_ends c me x from m x.attempt h h
body_ends c me ends x from m (body.Seized e d ended) h = answer_ends c me x from m x.attempt h h
body_ends c me ends x from m (body.Ready e devices told) h = answer_ends c me x from m x.attempt h h
body_ends c me ends x from m (body.SeizeQuorum e members d) h = live_leaves c me x (cuts.seizing_course x from Vote e members d) (seizing_l x from Vote e members d) h
body_ends c me ends x from m (body.SeizeData e members d) h = live_leaves c me x (cuts.seizing_course x from Plain e members d) (seizing_l x from Plain e members d) h
body_ends c me ends x from m (body.Heartbeat promised session member) h = live_leaves c me x (cuts.body_course c me ends x from m (body.Heartbeat promised session member)) (other_l c me ends x from m (body.Heartbeat promised session member) tt) h
body_ends c me ends x from m (body.Collect p members) h = live_leaves c me x (cuts.body_course c me ends x from m (body.Collect p members)) (other_l c me ends x from m (body.Collect p members) tt) h
body_ends c me ends x from m (body.Install i) h = live_leaves c me x (cuts.body_course c me ends x from m (body.Install i)) (other_l c me ends x from m (body.Install i) tt) h
body_ends c me ends x from m (body.Start e) h = live_leaves c me x (cuts.body_course c me ends x from m (body.Start e)) (other_l c me ends x from m (body.Start e) tt) h
body_ends c me ends x from m (body.Excluded e newest) h = live_leaves c me x (cuts.body_course c me ends x from m (body.Excluded e newest)) (other_l c me ends x from m (body.Excluded e newest) tt) h
body_ends c me ends x from m (body.Prepare e place text) h = live_leaves c me x (cuts.body_course c me ends x from m (body.Prepare e place text)) (other_l c me ends x from m (body.Prepare e place text) tt) h
body_ends c me ends x from m (body.Prepared e place) h = live_leaves c me x (cuts.body_course c me ends x from m (body.Prepared e place)) (other_l c me ends x from m (body.Prepared e place) tt) h
body_ends c me ends x from m (body.Commit e place) h = live_leaves c me x (cuts.body_course c me ends x from m (body.Commit e place)) (other_l c me ends x from m (body.Commit e place) tt) h
body_ends c me ends x from m (body.Order o) h = live_leaves c me x (cuts.body_course c me ends x from m (body.Order o)) (other_l c me ends x from m (body.Order o) tt) h
body_ends c me ends x from m (body.Done e number ended) h = live_leaves c me x (cuts.body_course c me ends x from m (body.Done e number ended)) (other_l c me ends x from m (body.Done e number ended) tt) h
body_ends c me ends x from m (body.Request e number text) h = live_leaves c me x (cuts.body_course c me ends x from m (body.Request e number text)) (other_l c me ends x from m (body.Request e number text) tt) h
body_ends c me ends x from m (body.Answer e number text) h = live_leaves c me x (cuts.body_course c me ends x from m (body.Answer e number text)) (other_l c me ends x from m (body.Answer e number text) tt) h

ticked_ends : (c : Cluster) (me : ℕ) (x : UpNode) (o : Option AttemptState) → x.attempt ≡ o → In IsLive o → LeadsTo c me Ends x (cuts.ticked_course c me x o)
ticked_ends c me x (Some a) is here = going_ends c me x a Call_tick here
ticked_ends c me x None is here =
    let live : Has IsLive x = subst (In IsLive) (sym is) tt in
    let y : UpNode = waiting_less x in
    if_either (LeadsTo c me Ends x) (nat_le 1 x.beats.wait) (Acts Waits Stops) (Acts Waits (cuts.forming_course c me y (members_to_form c me y))) (inl live) (forming_ends c me y (members_to_form c me y) live)

distrusting_ends : (c : Cluster) (me : ℕ) (x : UpNode) (o : Option ℕ) → Has IsLive x → LeadsTo c me Ends x (cuts.distrusting_course x o)
distrusting_ends c me x None h = inl h
distrusting_ends c me x (Some d) h = if_either (LeadsTo c me Ends x) (has (record_of x).valid d) (Keeps (Distrusts d) Stops) Stops (inl h) (inl h)

own_seized_ends : (c : Cluster) (me : ℕ) (x : UpNode) (d : ℕ) (r : SeizeResult) (o : Option AttemptState) → In IsLive o → Has IsLive x → LeadsTo c me Ends x (cuts.own_seized_course c me x d r o)
own_seized_ends c me x d r None here h = inl h
own_seized_ends c me x d r (Some a) here h = going_ends c me x a (Own_seized d r) here

seized_ends : (c : Cluster) (me : ℕ) (x : UpNode) (d : ℕ) (r : SeizeResult) (o : Option ℕ) → Has IsLive x → LeadsTo c me Ends x (cuts.seized_course c me x d r o)
seized_ends c me x d r None h = inl h
seized_ends c me x d r (Some k) h =
    if_either (LeadsTo c me Ends x) (k == me) (cuts.own_seized_course c me x d r x.attempt) (writing k (body.Seized (session_of x) d r)) (own_seized_ends c me x d r x.attempt h h) (inl h)

joined_ends : (c : Cluster) (me : ℕ) (x : UpNode) (o : Option ℕ) → Has IsLive x → LeadsTo c me Ends x (cuts.joined_course c me x o)
joined_ends c me x None h = inl h
joined_ends c me x (Some k) h =
    if_either (LeadsTo c me Ends x) (k == me) (cuts.own_ready_course c me x) (cuts.readying_course c x k) (own_ready_ends c me x h)
    (live_leaves c me x (cuts.readying_course c x k) (quiet_leaves (cuts.readying_course c x k) (readying c x k) (readying_no c x k)) h)

joining_ends : (c : Cluster) (me : ℕ) (x : UpNode) (at : ℕ) (k : PrCommand) (a : Answer) (d : ℕ) (r : JoinResult) → Has IsLive x → LeadsTo c me Ends x (cuts.joining_course c me x at k a d r)
joining_ends c me x at k a d join.Joined h = let y : UpNode = joining_so (answered_so x a) d in joined_ends c me y (coordinator_of y) h
joining_ends c me x at k a d (join.Late w) h = let y : UpNode = answered_so x a in joined_ends c me y (coordinator_of y) h
joining_ends c me x at k a d join.Fault h = let y : UpNode = answered_so x a in joined_ends c me y (coordinator_of y) h

progress_ends : (c : Cluster) (me : ℕ) (x : UpNode) (at : ℕ) (k : PrCommand) (a : Answer) (p : Progress) → Has IsLive x → LeadsTo c me Ends x (cuts.progress_course c me x at k a p)
progress_ends c me x at k a GoesOn h = inl h
progress_ends c me x at k a (Seized d r) h = let y : UpNode = answered_so x a in seized_ends c me y d r (coordinator_of y) h
progress_ends c me x at k a (Joined d r) h = joining_ends c me x at k a d r h

answered_ends : (c : Cluster) (me : ℕ) (x : UpNode) (a : Answer) (o : Option ℕ) (k : Option PrCommand) → Has IsLive x → LeadsTo c me Ends x (cuts.answered_course c me x a o k)
answered_ends c me x a None k h = inl h
answered_ends c me x a (Some d) None h = inl h
answered_ends c me x a (Some d) (Some k) h = progress_ends c me x d k a (progress_after x.tasks a) h

fenced_ends : (c : Cluster) (me : ℕ) (x : UpNode) (d : ℕ) (a : Answer) → Has IsLive x → LeadsTo c me Ends x (cuts.fenced_course d a)
fenced_ends c me x d (Ok given.Good) h = inl h
fenced_ends c me x d (Ok given.Conflict) h = tt
fenced_ends c me x d _ h = inl h

serving_at_ends : (c : Cluster) (me : ℕ) (s : ConfigState) (x : UpNode) (p : Presidency) (name : List ℕ) (number port : ℕ) (o : Option Address) → Has IsLive x → LeadsTo c me Ends x (cuts.serving_at_course s x p name number port o)
serving_at_ends c me s x p name number port None h = inl h
serving_at_ends c me s x p name number port (Some a) h = inl h

serving_ends : (c : Cluster) (me : ℕ) (x : UpNode) (name : List ℕ) (number port : ℕ) (o : Option Presidency) → Has IsLive x → LeadsTo c me Ends x (cuts.serving_by_course c x name number port o)
serving_ends c me x name number port None h = inl h
serving_ends c me x name number port (Some p) h = serving_at_ends c me (in_force c x) x p name number port (named (in_force c x).addresses name) h

input_ends : (c : Cluster) (me : ℕ) (ends : method.Outcome) (x : UpNode) (i : Input) → Has IsLive x → LeadsTo c me Ends x (course_of c me ends x i)
input_ends c me ends x Boot h = inl h
input_ends c me ends x Crash h = tt
input_ends c me ends x Tick h =
    let y : UpNode = later c x in
    let k : Course = cuts.governing_course c me ends x y in
    leads_joined c me (Has IsLive) Ends y k (λ z. cuts.ticked_course c me z z.attempt) (leaves_has IsLive c me y k (staid_leaves k (governing_staid c me ends x y) (governing c me ends x y)) h)
    (λ z live. ticked_ends c me z z.attempt refl live)
input_ends c me ends x (Packet from m) h =
    let y : UpNode = hearing x from m.body in
    if_either (LeadsTo c me Ends x) (is_foreign c me x m.body) Stops (Acts (Hears from m.body) (cuts.body_course c me ends y from m m.body)) (inl h) (body_ends c me ends y from m m.body h)
input_ends c me ends x CommandDue h = distrusting_ends c me x (begins_plainly x.tasks) h
input_ends c me ends x (Answered a) h = answered_ends c me x a (due_device x.tasks) (next_of x.tasks) h
input_ends c me ends x (Wrote d value a) h = fenced_ends c me x d a h
input_ends c me ends x (Commanded words) h =
    live_leaves c me x (cuts.command_course c me x words) (quiet_leaves (cuts.command_course c me x words) (command c me x words) (no_leads false (cuts.command_course c me x words) (command_p false c me x words))) h
input_ends c me ends x (Reported r good) h =
    live_leaves c me x (cuts.report_course c me x r good) (quiet_leaves (cuts.report_course c me x r good) (report c me x r good) (no_leads false (cuts.report_course c me x r good) (report_p false c me x r good))) h
input_ends c me ends x (Client name number port) h = serving_ends c me x name number port x.presidency h

booted_ends : (me valid : ℕ) (r : NodeRecord) (after : DiskState) (lost : Option Loss) → IsAt Ends (booted_with me valid r (record { after = after; lost = lost })).after
booted_ends me valid r after None = inl tt
booted_ends me valid r after (Some Stopped) = tt
booted_ends me valid r after (Some Fault) = tt

pub step_ends : (c : Cluster) (n now : ℕ) (ends : method.Outcome) (node : Node) (disk : DiskState) (i : Input) → IsAt (Has IsLive) node → IsAt Ends (stepped disk_rules c n now ends node disk i).after
step_ends c n now ends Down disk Boot h = booted_ends n (first_valid_of c n) disk.kept (mounting disk).after (mounting disk).lost
step_ends c n now ends Down disk _ h = tt
step_ends c n now ends (Up x) disk i h =
    subst (λ (o : Outcome DiskState). IsAt Ends o.after) (sym ((step_of_node_is_its_course saving c n now ends x i).is [] disk))
    (carried_leads c n Ends x (course_at c n now ends x i) [] disk (input_ends c n ends (at_second now x) i h))
