-- Each step of a node leaves the own tasks of its attempt as its entries have them.
use Rattle.std.specs.Prelude.{ℕ, ◌≡◌, nat_le, List, [], Option, None, Some}
use Rattle.std.proofs.Common.{refl, sym, subst}
use Rattle.ccr_tables.specs.State.{ConfigState}
use Rattle.ccr_tables.specs.declared.address.Address.{Address}
use Rattle.cl_base.specs.declared.method.Outcome as method
use Rattle.cmm_attempt.proofs.Basics.{if_either}
use Rattle.cmm_attempt.specs.Attempts.{AttemptState}
use Rattle.cmm_attempt.specs.Calls.{Tick as Call_tick}
use Rattle.cmm_member.specs.Records.{NodeRecord}
use Rattle.device_queue.specs.Queue.{begins_plainly, due_device, next_of}
use Rattle.node_model.specs.Clusters.{first_valid_of}
use Rattle.node_model.specs.Configurations.{in_force}
use Rattle.node_model.specs.Members.{hearing, is_foreign}
use Rattle.node_model.specs.Steps.{Outcome, at_second, booted_with, stepped}
use Rattle.node_model.specs.Ticks.{later, members_to_form, waiting_less}
use Rattle.node_model.specs.declared.cluster.Cluster.{Cluster}
use Rattle.node_model.specs.declared.input.Input.{Input}
use Rattle.node_model.specs.declared.input.Input.TheVariants.{Answered, Boot, Client, CommandDue, Commanded, Crash, Packet, Reported, Tick, Wrote}
use Rattle.node_model.specs.declared.node.Node.{Node}
use Rattle.node_model.specs.declared.node.Node.TheVariants.{Down, Up}
use Rattle.node_model.specs.declared.node.UpNode.{UpNode}
use Rattle.node_model.specs.declared.presidency.Presidency.{Presidency}
use Rattle.record_disk.specs.Disks.{DiskState, mounting, saving}
use Rattle.record_disk.specs.declared.error.Loss.{Loss}
use Rattle.record_disk.specs.declared.error.Loss.TheVariants.{Fault, Stopped}
use Rattle.refinement.proofs.Cuts.{step_of_node_is_its_course}
use Rattle.refinement.specs.Courses.{Course}
use Rattle.refinement.specs.Courses.Course.{Acts, Stops}
use Rattle.refinement.specs.Cuts as cuts
use Rattle.refinement.specs.Cuts.{course_at, course_of, writing}
use Rattle.refinement.specs.Doings.Act.{Hears, Waits}
use Rattle.refinement.specs.Steps.{disk_rules}
use Rattle.rg_props.specs.Lookups.{named}
use Rattle.wire.specs.declared.message.Body.{Body}
use Rattle.wire.specs.declared.message.Body.TheVariants as body
use Rattle.wire.specs.declared.message.Message.{Message}
use Rattle.run_outcomes.specs.phases.Kept.{In}
use Rattle.run_outcomes.specs.saves.Courses.{LeadsTo}
use Rattle.run_outcomes.specs.saves.Kept.{IsAt}
use Rattle.run_outcomes.proofs.saves.Rests.{leads_joined}
use Rattle.run_outcomes.proofs.phases.Steps.{carried_leads}
use Rattle.run_outcomes.specs.tasks.Own.{BodySo, InputSo, Leads, Owned, Owns}
use Rattle.run_outcomes.proofs.own_tasks.Beside.{command_left, governing_left, left_owned, report_left}
use Rattle.run_outcomes.proofs.own_tasks.Courses.{forming_owned, going_owned}
use Rattle.run_outcomes.proofs.own_tasks.Devices.{answered_owned, distrusting_owned, fenced_owned}
use Rattle.run_outcomes.proofs.own_tasks.Messages.{body_owned}

-- ---- ticks

ticked_owned : (c : Cluster) (me : ℕ) (x : UpNode) (o : Option AttemptState) → x.attempt ≡ o → In (Owns me x.tasks) o → LeadsTo c me (Owned me) x (cuts.ticked_course c me x o)
ticked_owned c me x (Some a) is here = going_owned c me x a Call_tick here
ticked_owned c me x None is here =
    let h : Owned me x = subst (In (Owns me x.tasks)) (sym is) tt in
    let y : UpNode = waiting_less x in
    if_either (LeadsTo c me (Owned me) x) (nat_le 1 x.beats.wait) (Acts Waits Stops) (Acts Waits (cuts.forming_course c me y (members_to_form c me y))) h (forming_owned c me y (members_to_form c me y) h)

-- ---- a client

serving_at_owned : (c : Cluster) (me : ℕ) (s : ConfigState) (x : UpNode) (p : Presidency) (name : List ℕ) (number port : ℕ) (o : Option Address) → Owned me x → LeadsTo c me (Owned me) x (cuts.serving_at_course s x p name number port o)
serving_at_owned c me s x p name number port None h = h
serving_at_owned c me s x p name number port (Some a) h = h

serving_owned : (c : Cluster) (me : ℕ) (x : UpNode) (name : List ℕ) (number port : ℕ) (o : Option Presidency) → Owned me x → LeadsTo c me (Owned me) x (cuts.serving_by_course c x name number port o)
serving_owned c me x name number port None h = h
serving_owned c me x name number port (Some p) h = serving_at_owned c me (in_force c x) x p name number port (named (in_force c x).addresses name) h

-- ---- each input

input_owned : (c : Cluster) (me : ℕ) (ends : method.Outcome) (x : UpNode) (i : Input) → Leads me x → InputSo c me x i → Owned me x → LeadsTo c me (Owned me) x (course_of c me ends x i)
input_owned c me ends x Boot leads so h = h
input_owned c me ends x Crash leads so h = tt
input_owned c me ends x Tick leads so h =
    let y : UpNode = later c x in
    let k : Course = cuts.governing_course c me ends x y in
    leads_joined c me (Owned me) (Owned me) y k (λ z. cuts.ticked_course c me z z.attempt) (left_owned c me y k (governing_left c me ends x y) h) (λ z owned. ticked_owned c me z z.attempt refl owned)
input_owned c me ends x (Packet from m) leads so h =
    let y : UpNode = hearing x from m.body in
    if_either (LeadsTo c me (Owned me) x) (is_foreign c me x m.body) Stops (Acts (Hears from m.body) (cuts.body_course c me ends y from m m.body)) h (body_owned c me ends y from m m.body refl leads (heard_so c me x from m m.body so) h)
  where
    heard_so : (c : Cluster) (me : ℕ) (x : UpNode) (from : ℕ) (m : Message) (b : Body) → BodySo c me x from b → BodySo c me (hearing x from m.body) from b
    heard_so c me x from m (body.Seized e d r) so = so
    heard_so c me x from m (body.SeizeQuorum e members d) so = so
    heard_so c me x from m (body.SeizeData e members d) so = so
    heard_so c me x from m (body.Install i) so = so
    heard_so c me x from m _ so = tt
input_owned c me ends x CommandDue leads so h = distrusting_owned c me x (begins_plainly x.tasks) h
input_owned c me ends x (Answered a) leads so h = answered_owned c me x a (due_device x.tasks) (next_of x.tasks) leads h
input_owned c me ends x (Wrote d value a) leads so h = fenced_owned c me x d a h
input_owned c me ends x (Commanded words) leads so h = left_owned c me x (cuts.command_course c me x words) (command_left c me x words) h
input_owned c me ends x (Reported r good) leads so h = left_owned c me x (cuts.report_course c me x r good) (report_left c me x r good) h
input_owned c me ends x (Client name number port) leads so h = serving_owned c me x name number port x.presidency h

-- ---- a step

second_so : (c : Cluster) (me now : ℕ) (x : UpNode) (i : Input) → InputSo c me x i → InputSo c me (at_second now x) i
second_so c me now x (Packet from m) so = by_body m.body so
  where
    by_body : (b : Body) → BodySo c me x from b → BodySo c me (at_second now x) from b
    by_body (body.Seized e d r) so = so
    by_body (body.SeizeQuorum e members d) so = so
    by_body (body.SeizeData e members d) so = so
    by_body (body.Install i) so = so
    by_body _ so = tt
second_so c me now x _ so = tt

booted_owned : (me valid : ℕ) (r : NodeRecord) (after : DiskState) (lost : Option Loss) → IsAt (Owned me) (booted_with me valid r (record { after = after; lost = lost })).after
booted_owned me valid r after None = tt
booted_owned me valid r after (Some Stopped) = tt
booted_owned me valid r after (Some Fault) = tt

pub step_owned : (c : Cluster) (n now : ℕ) (ends : method.Outcome) (node : Node) (disk : DiskState) (i : Input) → IsAt (Leads n) node → IsAt (λ x. InputSo c n x i) node → IsAt (Owned n) node
    → IsAt (Owned n) (stepped disk_rules c n now ends node disk i).after
step_owned c n now ends Down disk Boot leads so h = booted_owned n (first_valid_of c n) disk.kept (mounting disk).after (mounting disk).lost
step_owned c n now ends Down disk _ leads so h = tt
step_owned c n now ends (Up x) disk i leads so h =
    subst (λ (o : Outcome DiskState). IsAt (Owned n) o.after) (sym ((step_of_node_is_its_course saving c n now ends x i).is [] disk))
    (carried_leads c n (Owned n) x (course_at c n now ends x i) [] disk (input_owned c n ends (at_second now x) i leads (second_so c n now x i so) h))
