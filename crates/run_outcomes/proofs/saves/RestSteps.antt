-- Each step of a node leaves an attempt that asks for no votes, or none.
use Rattle.std.specs.Prelude.{ℕ, ◌≡◌, ◌==◌, ◌++◌, nat_le, false, List, [], Option, None, Some, Ok}
use Rattle.std.proofs.Common.{refl, sym, subst}
use Rattle.cl_base.specs.Sets.{has}
use Rattle.cl_base.specs.Seizings.{SeizeResult}
use Rattle.cl_base.specs.declared.method.Outcome as method
use Rattle.cl_base.specs.declared.seizing.SeizeEnd.TheVariants as seized
use Rattle.cmm_attempt.proofs.Basics.{if_either}
use Rattle.cmm_attempt.specs.Attempts.{AttemptState}
use Rattle.cmm_attempt.specs.Calls.{Own_seized, Take, Tick as Call_tick}
use Rattle.cmm_member.specs.Records.{NodeRecord}
use Rattle.device_queue.specs.Queue.{begins_plainly, due_device, kept_of, next_of, progress_after}
use Rattle.device_queue.specs.declared.progress.Progress.{Progress}
use Rattle.device_queue.specs.declared.progress.Progress.TheVariants.{GoesOn, Joined, Seized}
use Rattle.node_model.specs.Clusters.{first_valid_of}
use Rattle.node_model.specs.Devices.{joining_so}
use Rattle.node_model.specs.Members.{hearing, is_foreign}
use Rattle.node_model.specs.Plans.{Plan}
use Rattle.node_model.specs.Plans.Plan.{Saves}
use Rattle.node_model.specs.Seats.{coordinator_of, installed_of, is_in, record_of, session_of}
use Rattle.node_model.specs.Steps.{Outcome, at_second, booted_with, carried, stepped, unless_lost}
use Rattle.node_model.specs.Ticks.{later, members_to_form, waiting_less}
use Rattle.node_model.specs.declared.cluster.Cluster.{Cluster}
use Rattle.node_model.specs.declared.input.Input.{Input}
use Rattle.node_model.specs.declared.input.Input.TheVariants.{Answered, Boot, Client, CommandDue, Commanded, Crash, Packet, Reported, Tick, Wrote}
use Rattle.node_model.specs.declared.node.Node.{Node}
use Rattle.node_model.specs.declared.node.Node.TheVariants.{Down, Up}
use Rattle.node_model.specs.declared.node.UpNode.{UpNode}
use Rattle.node_model.specs.declared.output.Output.{Output}
use Rattle.node_model.specs.declared.presidency.Presidency.{Presidency}
use Rattle.pgr_device.specs.declared.command.PrAnswer.TheVariants as given
use Rattle.pgr_device.specs.declared.command.PrCommand.{PrCommand}
use Rattle.record_disk.specs.Disks.{DiskState, mounting, saving}
use Rattle.record_disk.specs.declared.error.Loss.{Loss}
use Rattle.record_disk.specs.declared.error.Loss.TheVariants.{Fault, Stopped}
use Rattle.refinement.proofs.Cuts.{step_of_node_is_its_course}
use Rattle.refinement.specs.Courses.{Course, plan_from, saying}
use Rattle.refinement.specs.Courses.Course.{Acts, Falls, Keeps, Stops}
use Rattle.refinement.specs.Cuts as cuts
use Rattle.refinement.specs.Cuts.{course_at, course_of, writing}
use Rattle.refinement.specs.Doings.{acted, answered_so, changed, first_lines, said, saved_lines}
use Rattle.refinement.specs.Doings.Act.{Accepts, Hears, Waits}
use Rattle.refinement.specs.Doings.Change.{Distrusts}
use Rattle.refinement.specs.Steps.{disk_rules}
use Rattle.rg_props.specs.Lookups.{named}
use Rattle.node_model.specs.Configurations.{in_force}
use Rattle.ccr_tables.specs.State.{ConfigState}
use Rattle.ccr_tables.specs.declared.address.Address.{Address}
use Rattle.seize.specs.Answers.{Answer}
use Rattle.seize.specs.declared.kind.JoinResult.{JoinResult}
use Rattle.seize.specs.declared.kind.JoinResult.TheVariants as join
use Rattle.seize.specs.declared.kind.SeizeKind.{SeizeKind}
use Rattle.seize.specs.declared.kind.SeizeKind.TheVariants.{Plain, Vote}
use Rattle.wire.specs.declared.message.Body.{Body}
use Rattle.wire.specs.declared.message.Body.TheVariants as body
use Rattle.wire.specs.declared.message.Message.{Message}
use Rattle.run_history.proofs.QuietCourses.{IsOther, client, command, other, readying, report}
use Rattle.run_downs.proofs.Courses.{says_all}
use Rattle.run_downs.proofs.Proposing.{command_p, report_p}
use Rattle.run_outcomes.specs.saves.Kept.{IsAt, Rests, RestsIn}
use Rattle.run_outcomes.specs.saves.Courses.{LeadsTo, Leaves}
use Rattle.run_outcomes.proofs.saves.Beside.{body_no, no_leads, quiet_leaves, readying_no}
use Rattle.run_outcomes.proofs.saves.Rests.{Any, forming_rests, going_rests, leads_any, leads_joined, leaves_rests, own_ready_rests}

-- ---- each input

answer_rests : (c : Cluster) (me : ℕ) (x : UpNode) (from : ℕ) (m : Message) (o : Option AttemptState) → Rests x → LeadsTo c me Rests x (cuts.answer_course c me x from m o)
answer_rests c me x from m None h = h
answer_rests c me x from m (Some a) h = going_rests c me x a (Take from m)

request_l : (x : UpNode) (from : ℕ) (kind : SeizeKind) (e members d : ℕ) (o : Option SeizeResult) → Leaves (cuts.request_course x from kind e members d o)
request_l x from kind e members d (Some result) = (tt, tt)
request_l x from kind e members d None = if_either Leaves (installed_of x == e) (writing from (body.Seized e d seized.Fault)) (Acts (Accepts kind e members d) Stops) (tt, tt) (tt, tt)

seizing_rests : (c : Cluster) (me : ℕ) (x : UpNode) (from : ℕ) (kind : SeizeKind) (e members d : ℕ) → Rests x → LeadsTo c me Rests x (cuts.seizing_course x from kind e members d)
seizing_rests c me x from kind e members d h =
    leaves_rests c me x (cuts.seizing_course x from kind e members d)
    (if_either Leaves (is_in x e) (cuts.request_course x from kind e members d (kept_of x.tasks d)) Stops (request_l x from kind e members d (kept_of x.tasks d)) tt) h

other_rests : (c : Cluster) (me : ℕ) (ends : method.Outcome) (x : UpNode) (from : ℕ) (m : Message) (b : Body) → IsOther b → Rests x → LeadsTo c me Rests x (cuts.body_course c me ends x from m b)
other_rests c me ends x from m b is h = leaves_rests c me x (cuts.body_course c me ends x from m b) (quiet_leaves (cuts.body_course c me ends x from m b) (other c me ends x from m b is) (body_no c me ends x from m b is)) h

body_rests : (c : Cluster) (me : ℕ) (ends : method.Outcome) (x : UpNode) (from : ℕ) (m : Message) (b : Body) → Rests x → LeadsTo c me Rests x (cuts.body_course c me ends x from m b)
body_rests c me ends x from m (body.Promise e installed members valid flagged committed pending) h = answer_rests c me x from m x.attempt h
body_rests c me ends x from m (body.Nack e promised) h = answer_rests c me x from m x.attempt h
body_rests c me ends x from m (body.Seized e d ended) h = answer_rests c me x from m x.attempt h
body_rests c me ends x from m (body.Ready e devices told) h = answer_rests c me x from m x.attempt h
body_rests c me ends x from m (body.SeizeQuorum e members d) h = seizing_rests c me x from Vote e members d h
body_rests c me ends x from m (body.SeizeData e members d) h = seizing_rests c me x from Plain e members d h
body_rests c me ends x from m (body.Heartbeat promised session member) h = other_rests c me ends x from m (body.Heartbeat promised session member) tt h
body_rests c me ends x from m (body.Collect p members) h = other_rests c me ends x from m (body.Collect p members) tt h
body_rests c me ends x from m (body.Install i) h = other_rests c me ends x from m (body.Install i) tt h
body_rests c me ends x from m (body.Start e) h = other_rests c me ends x from m (body.Start e) tt h
body_rests c me ends x from m (body.Excluded e newest) h = other_rests c me ends x from m (body.Excluded e newest) tt h
body_rests c me ends x from m (body.Prepare e place text) h = other_rests c me ends x from m (body.Prepare e place text) tt h
body_rests c me ends x from m (body.Prepared e place) h = other_rests c me ends x from m (body.Prepared e place) tt h
body_rests c me ends x from m (body.Commit e place) h = other_rests c me ends x from m (body.Commit e place) tt h
body_rests c me ends x from m (body.Order o) h = other_rests c me ends x from m (body.Order o) tt h
body_rests c me ends x from m (body.Done e number ended) h = other_rests c me ends x from m (body.Done e number ended) tt h
body_rests c me ends x from m (body.Request e number text) h = other_rests c me ends x from m (body.Request e number text) tt h
body_rests c me ends x from m (body.Answer e number text) h = other_rests c me ends x from m (body.Answer e number text) tt h

ticked_rests : (c : Cluster) (me : ℕ) (x : UpNode) (o : Option AttemptState) → x.attempt ≡ o → LeadsTo c me Rests x (cuts.ticked_course c me x o)
ticked_rests c me x (Some a) is = going_rests c me x a Call_tick
ticked_rests c me x None is =
    let rests : Rests x = subst RestsIn (sym is) tt in
    let y : UpNode = waiting_less x in
    if_either (LeadsTo c me Rests x) (nat_le 1 x.beats.wait) (Acts Waits Stops) (Acts Waits (cuts.forming_course c me y (members_to_form c me y))) rests (forming_rests c me y (members_to_form c me y) rests)

distrusting_rests : (c : Cluster) (me : ℕ) (x : UpNode) (o : Option ℕ) → Rests x → LeadsTo c me Rests x (cuts.distrusting_course x o)
distrusting_rests c me x None h = h
distrusting_rests c me x (Some d) h = if_either (LeadsTo c me Rests x) (has (record_of x).valid d) (Keeps (Distrusts d) Stops) Stops h h

own_seized_rests : (c : Cluster) (me : ℕ) (x : UpNode) (d : ℕ) (r : SeizeResult) (o : Option AttemptState) → Rests x → LeadsTo c me Rests x (cuts.own_seized_course c me x d r o)
own_seized_rests c me x d r None h = h
own_seized_rests c me x d r (Some a) h = going_rests c me x a (Own_seized d r)

seized_rests : (c : Cluster) (me : ℕ) (x : UpNode) (d : ℕ) (r : SeizeResult) (o : Option ℕ) → Rests x → LeadsTo c me Rests x (cuts.seized_course c me x d r o)
seized_rests c me x d r None h = h
seized_rests c me x d r (Some k) h =
    if_either (LeadsTo c me Rests x) (k == me) (cuts.own_seized_course c me x d r x.attempt) (writing k (body.Seized (session_of x) d r)) (own_seized_rests c me x d r x.attempt h) h

readying_rests : (c : Cluster) (me : ℕ) (x : UpNode) (to : ℕ) → Rests x → LeadsTo c me Rests x (cuts.readying_course c x to)
readying_rests c me x to h = leaves_rests c me x (cuts.readying_course c x to) (quiet_leaves (cuts.readying_course c x to) (readying c x to) (readying_no c x to)) h

joined_rests : (c : Cluster) (me : ℕ) (x : UpNode) (o : Option ℕ) → Rests x → LeadsTo c me Rests x (cuts.joined_course c me x o)
joined_rests c me x None h = h
joined_rests c me x (Some k) h = if_either (LeadsTo c me Rests x) (k == me) (cuts.own_ready_course c me x) (cuts.readying_course c x k) (own_ready_rests c me x h) (readying_rests c me x k h)

joining_rests : (c : Cluster) (me : ℕ) (x : UpNode) (at : ℕ) (k : PrCommand) (a : Answer) (d : ℕ) (r : JoinResult) → Rests x → LeadsTo c me Rests x (cuts.joining_course c me x at k a d r)
joining_rests c me x at k a d join.Joined h = let y : UpNode = joining_so (answered_so x a) d in joined_rests c me y (coordinator_of y) h
joining_rests c me x at k a d (join.Late w) h = let y : UpNode = answered_so x a in joined_rests c me y (coordinator_of y) h
joining_rests c me x at k a d join.Fault h = let y : UpNode = answered_so x a in joined_rests c me y (coordinator_of y) h

progress_rests : (c : Cluster) (me : ℕ) (x : UpNode) (at : ℕ) (k : PrCommand) (a : Answer) (p : Progress) → Rests x → LeadsTo c me Rests x (cuts.progress_course c me x at k a p)
progress_rests c me x at k a GoesOn h = h
progress_rests c me x at k a (Seized d r) h = let y : UpNode = answered_so x a in seized_rests c me y d r (coordinator_of y) h
progress_rests c me x at k a (Joined d r) h = joining_rests c me x at k a d r h

answered_rests : (c : Cluster) (me : ℕ) (x : UpNode) (a : Answer) (o : Option ℕ) (k : Option PrCommand) → Rests x → LeadsTo c me Rests x (cuts.answered_course c me x a o k)
answered_rests c me x a None k h = h
answered_rests c me x a (Some d) None h = h
answered_rests c me x a (Some d) (Some k) h = progress_rests c me x d k a (progress_after x.tasks a) h

fenced_rests : (c : Cluster) (me : ℕ) (x : UpNode) (d : ℕ) (a : Answer) → Rests x → LeadsTo c me Rests x (cuts.fenced_course d a)
fenced_rests c me x d (Ok given.Good) h = h
fenced_rests c me x d (Ok given.Conflict) h = tt
fenced_rests c me x d _ h = h

serving_at_rests : (c : Cluster) (me : ℕ) (s : ConfigState) (x : UpNode) (p : Presidency) (name : List ℕ) (client port : ℕ) (o : Option Address) → Rests x → LeadsTo c me Rests x (cuts.serving_at_course s x p name client port o)
serving_at_rests c me s x p name client port None h = h
serving_at_rests c me s x p name client port (Some a) h = h

serving_rests : (c : Cluster) (me : ℕ) (x : UpNode) (name : List ℕ) (client port : ℕ) (o : Option Presidency) → Rests x → LeadsTo c me Rests x (cuts.serving_by_course c x name client port o)
serving_rests c me x name client port None h = h
serving_rests c me x name client port (Some p) h = serving_at_rests c me (in_force c x) x p name client port (named (in_force c x).addresses name) h

input_rests : (c : Cluster) (me : ℕ) (ends : method.Outcome) (x : UpNode) (i : Input) → Rests x → LeadsTo c me Rests x (course_of c me ends x i)
input_rests c me ends x Boot h = h
input_rests c me ends x Crash h = tt
input_rests c me ends x Tick h =
    let y : UpNode = later c x in
    leads_joined c me Any Rests y (cuts.governing_course c me ends x y) (λ z. cuts.ticked_course c me z z.attempt) (leads_any c me y (cuts.governing_course c me ends x y)) (λ z any. ticked_rests c me z z.attempt refl)
input_rests c me ends x (Packet from m) h =
    let y : UpNode = hearing x from m.body in
    if_either (LeadsTo c me Rests x) (is_foreign c me x m.body) Stops (Acts (Hears from m.body) (cuts.body_course c me ends y from m m.body)) h (body_rests c me ends y from m m.body h)
input_rests c me ends x CommandDue h = distrusting_rests c me x (begins_plainly x.tasks) h
input_rests c me ends x (Answered a) h = answered_rests c me x a (due_device x.tasks) (next_of x.tasks) h
input_rests c me ends x (Wrote d value a) h = fenced_rests c me x d a h
input_rests c me ends x (Commanded words) h =
    leaves_rests c me x (cuts.command_course c me x words) (quiet_leaves (cuts.command_course c me x words) (command c me x words) (no_leads false (cuts.command_course c me x words) (command_p false c me x words))) h
input_rests c me ends x (Reported r good) h =
    leaves_rests c me x (cuts.report_course c me x r good) (quiet_leaves (cuts.report_course c me x r good) (report c me x r good) (no_leads false (cuts.report_course c me x r good) (report_p false c me x r good))) h
input_rests c me ends x (Client name number port) h = serving_rests c me x name number port x.presidency h

-- ---- a step

carried_leads : (c : Cluster) (me : ℕ) (P : UpNode → Type 0) (x : UpNode) (k : Course) (before : List Output) (disk : DiskState) → LeadsTo c me P x k → IsAt P (carried saving me (plan_from c me x k) before disk).after
carried_leads c me P x Stops before disk h = h
carried_leads c me P x (Acts a rest) before disk h =
    subst (λ (o : Outcome DiskState). IsAt P o.after) (says_all me (said c me x a) (plan_from c me (acted c me x a) rest) before disk)
    (carried_leads c me P (acted c me x a) rest (before ++ said c me x a) disk h)
carried_leads c me P x (Keeps ch rest) before disk h =
    subst (λ (o : Outcome DiskState). IsAt P o.after) (says_all me (first_lines me ch) (Saves r (saying last p)) before disk) (by_loss (saving disk r).lost (carried_leads c me P y rest (told ++ last) after h))
  where
    y : UpNode
    y = changed c me x ch

    r : NodeRecord
    r = record_of y

    last : List Output
    last = saved_lines c me x ch

    p : Plan
    p = plan_from c me y rest

    told : List Output
    told = before ++ first_lines me ch

    after : DiskState
    after = (saving disk r).after

    by_loss : (lost : Option Loss) → IsAt P (carried saving me p (told ++ last) after).after → IsAt P (unless_lost me told after lost (carried saving me (saying last p) told after)).after
    by_loss None done = subst (λ (o : Outcome DiskState). IsAt P o.after) (says_all me last p told after) done
    by_loss (Some Stopped) done = tt
    by_loss (Some Fault) done = tt
carried_leads c me P x (Falls why) before disk h = tt

booted_rests : (me valid : ℕ) (r : NodeRecord) (after : DiskState) (lost : Option Loss) → IsAt Rests (booted_with me valid r (record { after = after; lost = lost })).after
booted_rests me valid r after None = tt
booted_rests me valid r after (Some Stopped) = tt
booted_rests me valid r after (Some Fault) = tt

pub step_rests : (c : Cluster) (n now : ℕ) (ends : method.Outcome) (node : Node) (disk : DiskState) (i : Input) → IsAt Rests node → IsAt Rests (stepped disk_rules c n now ends node disk i).after
step_rests c n now ends Down disk Boot h = booted_rests n (first_valid_of c n) disk.kept (mounting disk).after (mounting disk).lost
step_rests c n now ends Down disk _ h = tt
step_rests c n now ends (Up x) disk i h =
    subst (λ (o : Outcome DiskState). IsAt Rests o.after) (sym ((step_of_node_is_its_course saving c n now ends x i).is [] disk))
    (carried_leads c n Rests x (course_at c n now ends x i) [] disk (input_rests c n ends (at_second now x) i h))
