-- Whatever comes to a node leaves its attempt's own part done exactly where no joining is queued.
use Rattle.std.specs.Prelude.{ℕ, ◌%◌, ◌≡◌, ◌==◌, ◌&&◌, ◌||◌, not, nat_le, Bool, true, false, List, [], ◌∷◌, Option, None, Some, Ok, find, is_some, if◌then◌else◌}
use Rattle.std.proofs.Common.{refl, sym, ap, subst, ◌∙◌}
use Rattle.ccr_tables.specs.State.{ConfigState}
use Rattle.ccr_tables.specs.declared.address.Address.{Address}
use Rattle.cl_base.specs.Seizings.{SeizeResult}
use Rattle.cl_base.specs.Sets.{has}
use Rattle.cl_base.specs.declared.method.Outcome as method
use Rattle.cl_base.specs.declared.seizing.SeizeEnd.TheVariants as seized
use Rattle.cmm_attempt.proofs.Basics.{false_true, if_either}
use Rattle.cmm_attempt.specs.Attempts.{AttemptState}
use Rattle.cmm_attempt.specs.Calls.{Own_ready, Own_seized, Take, Tick as Call_tick}
use Rattle.cmm_member.specs.Nodes.{NodeState}
use Rattle.cmm_member.specs.Records.{NodeRecord}
use Rattle.device_queue.specs.Queue.{after_answer, begins_plainly, due_device, joins, kept_of, next_of, progress_after, progress_by}
use Rattle.device_queue.specs.Tasks.{answered, is_joining, is_queued, joining_progress, progress_of, seizing_progress}
use Rattle.device_queue.specs.declared.progress.Progress.{Progress}
use Rattle.device_queue.specs.declared.progress.Progress.TheVariants.{GoesOn, Joined, Seized}
use Rattle.device_queue.specs.declared.task.Task.{Task}
use Rattle.device_queue.specs.declared.task.Work.{Work}
use Rattle.device_queue.specs.declared.task.Work.TheVariants.{Joining as Joins, Seizing as Seizes}
use Rattle.node_model.specs.Clusters.{first_valid_of}
use Rattle.node_model.specs.Configurations.{in_force}
use Rattle.node_model.specs.Devices.{joining_so}
use Rattle.node_model.specs.Members.{hearing, is_foreign}
use Rattle.node_model.specs.Seats.{coordinator_of, installed_of, is_in, node_numbered, promised_of, record_of, session_of, state_of, with_state}
use Rattle.node_model.specs.Steps.{Outcome, at_second, booted_with, stepped}
use Rattle.node_model.specs.Ticks.{later, members_to_form, waiting_less}
use Rattle.node_model.specs.declared.cluster.Cluster.{Cluster}
use Rattle.node_model.specs.declared.input.Input.{Input}
use Rattle.node_model.specs.declared.input.Input.TheVariants.{Answered, Boot, Client, CommandDue, Commanded, Crash, Packet, Reported, Tick, Wrote}
use Rattle.node_model.specs.declared.node.Node.{Node}
use Rattle.node_model.specs.declared.node.Node.TheVariants.{Down, Up}
use Rattle.node_model.specs.declared.node.UpNode.{UpNode}
use Rattle.node_model.specs.declared.presidency.Presidency.{Presidency}
use Rattle.node_model.specs.declared.seat.Seat.{Seat}
use Rattle.node_model.specs.declared.seat.Seat.TheVariants.{Forming, Member}
use Rattle.pgr_device.specs.declared.command.PrAnswer.TheVariants as given
use Rattle.pgr_device.specs.declared.command.PrCommand.{PrCommand}
use Rattle.record_disk.specs.Disks.{DiskState, mounting, saving}
use Rattle.record_disk.specs.declared.error.Loss.{Loss}
use Rattle.record_disk.specs.declared.error.Loss.TheVariants.{Fault, Stopped}
use Rattle.refinement.proofs.Cuts.{step_of_node_is_its_course}
use Rattle.refinement.specs.Courses.{Course}
use Rattle.refinement.specs.Courses.Course.{Acts, Keeps, Stops}
use Rattle.refinement.specs.Cuts as cuts
use Rattle.refinement.specs.Cuts.{course_at, course_of, writing}
use Rattle.refinement.specs.Doings.{answered_so, changed}
use Rattle.refinement.specs.Doings.Act.{Accepts, Hears, Waits}
use Rattle.refinement.specs.Doings.Change.{Distrusts, Installs}
use Rattle.refinement.specs.Steps.{disk_rules}
use Rattle.rg_props.specs.Lookups.{named}
use Rattle.seize.specs.Answers.{Answer}
use Rattle.seize.specs.Joining as joining
use Rattle.seize.specs.Seizing as seizing
use Rattle.seize.specs.declared.kind.JoinResult.{JoinResult}
use Rattle.seize.specs.declared.kind.JoinResult.TheVariants as join
use Rattle.seize.specs.declared.kind.SeizeKind.{SeizeKind}
use Rattle.seize.specs.declared.kind.SeizeKind.TheVariants.{Plain, Vote}
use Rattle.wire.specs.declared.message.Body.{Body}
use Rattle.wire.specs.declared.message.Body.TheVariants as body
use Rattle.wire.specs.declared.message.Install.{Install}
use Rattle.wire.specs.declared.message.Message.{Message}
use Rattle.run_outcomes.specs.phases.Kept.{In}
use Rattle.run_outcomes.specs.saves.Courses.{LeadsTo}
use Rattle.run_outcomes.specs.saves.Kept.{IsAt}
use Rattle.run_outcomes.specs.silence.OwnPart.{PartSo, Parted, Seated, Sits, Undone}
use Rattle.run_outcomes.proofs.own_tasks.Beside.{AreLeft, beside_left, command_left, governing_left, report_left}
use Rattle.run_outcomes.proofs.own_tasks.Matching.{itself}
use Rattle.run_outcomes.proofs.phases.Steps.{carried_leads}
use Rattle.run_outcomes.proofs.saves.Rests.{leads_joined}
use Rattle.run_outcomes.proofs.silence.OwnCourses.{AreQueueing, forming_parted, going_parted, left_queueing, own_ready_parted, parts_same, queueing_parted}

-- ---- what an answer of a device makes of joinings

-- by how far the task has come that took it
record Moves (p : Progress) (before after : Bool) : Type 0 where
  goes : p ≡ GoesOn → after ≡ before
  ends : (d : ℕ) (r : SeizeResult) → p ≡ Seized d r → after ≡ before
  joined : (d : ℕ) (r : JoinResult) → p ≡ Joined d r → before ≡ true

head_seizes : (d : ℕ) (o : Option SeizeResult) (b : Bool) → Moves (seizing_progress d o) b b
head_seizes d None b = record { goes = λ is. refl; ends = λ e r is. refl; joined = λ e r is. absurd (apart e r is) }
  where
    apart : (e : ℕ) (r : JoinResult) → GoesOn ≡ Joined e r → ⊥
    apart e r h = cc
head_seizes d (Some x) b = record { goes = λ is. refl; ends = λ e r is. refl; joined = λ e r is. absurd (apart e r is) }
  where
    apart : (e : ℕ) (r : JoinResult) → Seized d x ≡ Joined e r → ⊥
    apart e r h = cc

head_joins : (d : ℕ) (o : Option JoinResult) (b : Bool) → Moves (joining_progress d o) (true || b) (not (is_some o) || b)
head_joins d None b = record { goes = λ is. refl; ends = λ e r is. refl; joined = λ e r is. refl }
head_joins d (Some x) b = record { goes = λ is. absurd (apart is); ends = λ e r is. absurd (apart_too e r is); joined = λ e r is. refl }
  where
    apart : Joined d x ≡ GoesOn → ⊥
    apart h = cc

    apart_too : (e : ℕ) (r : SeizeResult) → Joined d x ≡ Seized e r → ⊥
    apart_too e r h = cc

head_moves : (a : Answer) (t : Task) (b : Bool) → is_queued t ≡ true → Moves (progress_of (answered a t)) ((is_joining t.work && is_queued t) || b) ((is_joining (answered a t).work && is_queued (answered a t)) || b)
head_moves a t b queued = by_work t.work queued
  where
    by_work : (w : Work) → is_queued (record { device = t.device; work = w }) ≡ true
        → (let u : Task = record { device = t.device; work = w } in Moves (progress_of (answered a u)) ((is_joining u.work && is_queued u) || b) ((is_joining (answered a u).work && is_queued (answered a u)) || b))
    by_work (Seizes s) q = head_seizes t.device (seizing.result_of (seizing.taken s a)) b
    by_work (Joins j) q = subst (λ z. Moves (joining_progress t.device (joining.result_of (joining.taken j a))) (z || b) (not (is_some (joining.result_of (joining.taken j a))) || b)) (sym q) (head_joins t.device (joining.result_of (joining.taken j a)) b)

more_moves : (p : Progress) (h before after : Bool) → Moves p before after → Moves p (h || before) (h || after)
more_moves p true before after m = record { goes = λ is. refl; ends = λ e r is. refl; joined = λ e r is. refl }
more_moves p false before after m = m

answer_moves : (ts : List Task) (a : Answer) → Moves (progress_after ts a) (joins ts) (joins (after_answer ts a))
answer_moves [] a = record { goes = λ is. refl; ends = λ e r is. refl; joined = λ e r is. absurd (apart e r is) }
  where
    apart : (e : ℕ) (r : JoinResult) → GoesOn ≡ Joined e r → ⊥
    apart e r h = cc
answer_moves (t ∷ ts) a = by_queued (is_queued t) refl (answer_moves ts a)
  where
    by_queued : (q : Bool) → is_queued t ≡ q → Moves (progress_after ts a) (joins ts) (joins (after_answer ts a))
        → Moves (progress_by (if q then Some t else find is_queued ts) a) ((is_joining t.work && is_queued t) || joins ts) (joins (if q then answered a t ∷ ts else t ∷ after_answer ts a))
    by_queued true is rest = head_moves a t (joins ts) is
    by_queued false is rest = more_moves (progress_after ts a) (is_joining t.work && is_queued t) (joins ts) (joins (after_answer ts a)) rest

-- ---- devices

state_with : (seat : Seat) (s : NodeState) → state_of (with_state seat s) ≡ s
state_with (Forming t) s = refl
state_with (Member t) s = refl

joining_leads : (x : UpNode) (d : ℕ) → coordinator_of (joining_so x d) ≡ coordinator_of x
joining_leads x d = ap (λ (s : NodeState). node_numbered (s.session % 64)) (state_with x.seat _)

-- a joining has ended: its own part is not done yet
undone_at : (ts : List Task) (o : Option AttemptState) → joins ts ≡ true → In (PartSo ts) o → In Undone o
undone_at ts None is h = tt
undone_at ts (Some a) is h = record { early = h.early; ready = λ at. h.ready at ∙ ap not is }

own_seized_parted : (c : Cluster) (me : ℕ) (x : UpNode) (d : ℕ) (r : SeizeResult) (o : Option AttemptState) → In (PartSo x.tasks) o → Parted x → LeadsTo c me Parted x (cuts.own_seized_course c me x d r o)
own_seized_parted c me x d r None here h = h
own_seized_parted c me x d r (Some a) here h = going_parted c me x a (Own_seized d r) tt other here
  where
    other : Own_seized d r ≡ Own_ready → ⊥
    other z = cc

seized_parted : (c : Cluster) (me : ℕ) (x : UpNode) (d : ℕ) (r : SeizeResult) (o : Option ℕ) → Parted x → LeadsTo c me Parted x (cuts.seized_course c me x d r o)
seized_parted c me x d r None h = h
seized_parted c me x d r (Some k) h = if_either (LeadsTo c me Parted x) (k == me) (cuts.own_seized_course c me x d r x.attempt) (writing k (body.Seized (session_of x) d r)) (own_seized_parted c me x d r x.attempt h h) h

-- the node itself coordinates, where it has an attempt
joined_parted : (c : Cluster) (me : ℕ) (x : UpNode) (o : Option AttemptState) (k : Option ℕ) → x.attempt ≡ o → In (λ a. k ≡ Some me) o → In Undone o → LeadsTo c me Parted x (cuts.joined_course c me x k)
joined_parted c me x (Some a) k at leads undone =
    subst (λ z. LeadsTo c me Parted x (cuts.joined_course c me x z)) (sym leads)
    (subst (λ t. LeadsTo c me Parted x (if t then cuts.own_ready_course c me x else cuts.readying_course c x me)) (sym (itself me)) (own_ready_parted c me x (subst (In Undone) (sym at) undone)))
joined_parted c me x None None at leads undone = subst (In (PartSo x.tasks)) (sym at) tt
joined_parted c me x None (Some j) at leads undone =
    let h : Parted x = subst (In (PartSo x.tasks)) (sym at) tt in
    if_either (LeadsTo c me Parted x) (j == me) (cuts.own_ready_course c me x) (cuts.readying_course c x j) (own_ready_parted c me x (subst (In Undone) (sym at) tt)) (readying_parted c me x x j h)
  where
    readying_parted : (c : Cluster) (me : ℕ) (x y : UpNode) (to : ℕ) → Parted y → LeadsTo c me Parted y (cuts.readying_course c x to)
    readying_parted c me x y to h = if_either (LeadsTo c me Parted y) (joins x.tasks) Stops (writing to _) h h

leads_so : (me : ℕ) (x : UpNode) (o : Option AttemptState) (k : Option ℕ) → k ≡ coordinator_of x → In (Sits me x) o → In (λ (a : AttemptState). k ≡ Some me) o
leads_so me x None k is h = tt
leads_so me x (Some a) k is h = is ∙ h.leads

joining_parted : (c : Cluster) (me : ℕ) (x : UpNode) (at : ℕ) (k : PrCommand) (a : Answer) (d : ℕ) (r : JoinResult) → joins x.tasks ≡ true → Seated me x → Parted x → LeadsTo c me Parted x (cuts.joining_course c me x at k a d r)
joining_parted c me x at k a d join.Joined is sits h = let y : UpNode = joining_so (answered_so x a) d in joined_parted c me y x.attempt (coordinator_of y) refl (leads_so me x x.attempt (coordinator_of y) (joining_leads (answered_so x a) d) sits) (undone_at x.tasks x.attempt is h)
joining_parted c me x at k a d (join.Late w) is sits h = let y : UpNode = answered_so x a in joined_parted c me y x.attempt (coordinator_of y) refl (leads_so me x x.attempt (coordinator_of y) refl sits) (undone_at x.tasks x.attempt is h)
joining_parted c me x at k a d join.Fault is sits h = let y : UpNode = answered_so x a in joined_parted c me y x.attempt (coordinator_of y) refl (leads_so me x x.attempt (coordinator_of y) refl sits) (undone_at x.tasks x.attempt is h)

progress_parted : (c : Cluster) (me : ℕ) (x : UpNode) (at : ℕ) (k : PrCommand) (a : Answer) (p : Progress) → progress_after x.tasks a ≡ p → Seated me x → Parted x → LeadsTo c me Parted x (cuts.progress_course c me x at k a p)
progress_parted c me x at k a GoesOn is sits h = parts_same x.tasks (after_answer x.tasks a) x.attempt ((answer_moves x.tasks a).goes is) h
progress_parted c me x at k a (Seized d r) is sits h =
    let y : UpNode = answered_so x a in seized_parted c me y d r (coordinator_of y) (parts_same x.tasks (after_answer x.tasks a) x.attempt ((answer_moves x.tasks a).ends d r is) h)
progress_parted c me x at k a (Joined d r) is sits h = joining_parted c me x at k a d r ((answer_moves x.tasks a).joined d r is) sits h

answered_parted : (c : Cluster) (me : ℕ) (x : UpNode) (a : Answer) (o : Option ℕ) (k : Option PrCommand) → Seated me x → Parted x → LeadsTo c me Parted x (cuts.answered_course c me x a o k)
answered_parted c me x a None k sits h = h
answered_parted c me x a (Some d) None sits h = h
answered_parted c me x a (Some d) (Some k) sits h = progress_parted c me x d k a (progress_after x.tasks a) refl sits h

distrusting_parted : (c : Cluster) (me : ℕ) (x : UpNode) (o : Option ℕ) → Parted x → LeadsTo c me Parted x (cuts.distrusting_course x o)
distrusting_parted c me x None h = h
distrusting_parted c me x (Some d) h = if_either (LeadsTo c me Parted x) (has (record_of x).valid d) (Keeps (Distrusts d) Stops) Stops h h

fenced_parted : (c : Cluster) (me : ℕ) (x : UpNode) (d : ℕ) (a : Answer) → Parted x → LeadsTo c me Parted x (cuts.fenced_course d a)
fenced_parted c me x d (Ok given.Good) h = h
fenced_parted c me x d (Ok given.Conflict) h = tt
fenced_parted c me x d _ h = h

-- ---- messages

left_parted : (c : Cluster) (me : ℕ) (x : UpNode) (k : Course) → AreLeft k → Parted x → LeadsTo c me Parted x k
left_parted c me x k left h = queueing_parted c me x k (left_queueing k left) h

answer_parted : (c : Cluster) (me : ℕ) (x : UpNode) (from : ℕ) (m : Message) (o : Option AttemptState) → In (PartSo x.tasks) o → Parted x → LeadsTo c me Parted x (cuts.answer_course c me x from m o)
answer_parted c me x from m None here h = h
answer_parted c me x from m (Some a) here h = going_parted c me x a (Take from m) tt other here
  where
    other : Take from m ≡ Own_ready → ⊥
    other z = cc

request_q : (x : UpNode) (from : ℕ) (kind : SeizeKind) (e members d : ℕ) (o : Option SeizeResult) → AreQueueing (cuts.request_course x from kind e members d o)
request_q x from kind e members d (Some result) = (tt, tt)
request_q x from kind e members d None = if_either AreQueueing (installed_of x == e) (writing from (body.Seized e d seized.Fault)) (Acts (Accepts kind e members d) Stops) (tt, tt) (tt, tt)

seizing_parted : (c : Cluster) (me : ℕ) (x : UpNode) (from : ℕ) (kind : SeizeKind) (e members d : ℕ) → Parted x → LeadsTo c me Parted x (cuts.seizing_course x from kind e members d)
seizing_parted c me x from kind e members d h =
    queueing_parted c me x (cuts.seizing_course x from kind e members d) (if_either AreQueueing (is_in x e) (cuts.request_course x from kind e members d (kept_of x.tasks d)) Stops (request_q x from kind e members d (kept_of x.tasks d)) tt) h

readying_again : (c : Cluster) (me : ℕ) (x y : UpNode) (to : ℕ) → Parted y → LeadsTo c me Parted y (cuts.readying_course c x to)
readying_again c me x y to h = if_either (LeadsTo c me Parted y) (joins x.tasks) Stops (writing to _) h h

-- one that is to be installed is of another's attempt
installs_part : (ts us : List Task) (me : ℕ) (x : UpNode) (o : Option AttemptState) (s : NodeState) (i : ℕ) → x.seat ≡ Forming s → is_in x i ≡ true → (s.saved.installed == i) ≡ false → In (Sits me x) o → In (PartSo ts) o → In (PartSo us) o
installs_part ts us me x None s i seat here fresh sits h = tt
installs_part ts us me x (Some a) s i seat here fresh sits h = record { early = h.early; ready = λ at. absurd (false_true (sym fresh ∙ sits.installed at s seat i here)) }

installed_parted : (c : Cluster) (me : ℕ) (x : UpNode) (from : ℕ) (i : Install) (seat : Seat) → x.seat ≡ seat → is_in x i.epoch ≡ true → Seated me x → Parted x → LeadsTo c me Parted x (cuts.installed_course c me x from i seat)
installed_parted c me x from i (Member s) at here sits h = readying_again c me x x from h
installed_parted c me x from i (Forming s) at here sits h = by_fresh (s.saved.installed == i.epoch) refl
  where
    y : UpNode
    y = changed c me x (Installs s i)

    by_fresh : (b : Bool) → (s.saved.installed == i.epoch) ≡ b → LeadsTo c me Parted x (if b then cuts.readying_course c x from else Keeps (Installs s i) (cuts.readying_course c y from))
    by_fresh true is = readying_again c me x x from h
    by_fresh false is = readying_again c me y y from (installs_part x.tasks y.tasks me x x.attempt s i.epoch at here is sits h)

install_parted : (c : Cluster) (me : ℕ) (x : UpNode) (from : ℕ) (i : Install) → Seated me x → Parted x → LeadsTo c me Parted x (cuts.install_course c me x from i)
install_parted c me x from i sits h = by_here (is_in x i.epoch) refl
  where
    by_here : (b : Bool) → is_in x i.epoch ≡ b → LeadsTo c me Parted x (if b then cuts.installed_course c me x from i x.seat else writing from (body.Nack i.epoch (promised_of x)))
    by_here true is = installed_parted c me x from i x.seat refl is sits h
    by_here false is = h

body_parted : (c : Cluster) (me : ℕ) (ends : method.Outcome) (x : UpNode) (from : ℕ) (m : Message) (b : Body) → Seated me x → Parted x → LeadsTo c me Parted x (cuts.body_course c me ends x from m b)
body_parted c me ends x from m (body.Promise e installed members valid flagged committed pending) sits h = answer_parted c me x from m x.attempt h h
body_parted c me ends x from m (body.Nack e promised) sits h = answer_parted c me x from m x.attempt h h
body_parted c me ends x from m (body.Ready e devices told) sits h = answer_parted c me x from m x.attempt h h
body_parted c me ends x from m (body.Seized e d r) sits h = answer_parted c me x from m x.attempt h h
body_parted c me ends x from m (body.SeizeQuorum e members d) sits h = seizing_parted c me x from Vote e members d h
body_parted c me ends x from m (body.SeizeData e members d) sits h = seizing_parted c me x from Plain e members d h
body_parted c me ends x from m (body.Install i) sits h = install_parted c me x from i sits h
body_parted c me ends x from m (body.Heartbeat promised session member) sits h = let b : Body = body.Heartbeat promised session member in left_parted c me x (cuts.body_course c me ends x from m b) (beside_left c me ends x from m b tt) h
body_parted c me ends x from m (body.Collect p members) sits h = let b : Body = body.Collect p members in left_parted c me x (cuts.body_course c me ends x from m b) (beside_left c me ends x from m b tt) h
body_parted c me ends x from m (body.Start e) sits h = let b : Body = body.Start e in left_parted c me x (cuts.body_course c me ends x from m b) (beside_left c me ends x from m b tt) h
body_parted c me ends x from m (body.Excluded e newest) sits h = let b : Body = body.Excluded e newest in left_parted c me x (cuts.body_course c me ends x from m b) (beside_left c me ends x from m b tt) h
body_parted c me ends x from m (body.Prepare e place text) sits h = let b : Body = body.Prepare e place text in left_parted c me x (cuts.body_course c me ends x from m b) (beside_left c me ends x from m b tt) h
body_parted c me ends x from m (body.Prepared e place) sits h = let b : Body = body.Prepared e place in left_parted c me x (cuts.body_course c me ends x from m b) (beside_left c me ends x from m b tt) h
body_parted c me ends x from m (body.Commit e place) sits h = let b : Body = body.Commit e place in left_parted c me x (cuts.body_course c me ends x from m b) (beside_left c me ends x from m b tt) h
body_parted c me ends x from m (body.Order o) sits h = let b : Body = body.Order o in left_parted c me x (cuts.body_course c me ends x from m b) (beside_left c me ends x from m b tt) h
body_parted c me ends x from m (body.Done e number ended) sits h = let b : Body = body.Done e number ended in left_parted c me x (cuts.body_course c me ends x from m b) (beside_left c me ends x from m b tt) h
body_parted c me ends x from m (body.Request e number text) sits h = let b : Body = body.Request e number text in left_parted c me x (cuts.body_course c me ends x from m b) (beside_left c me ends x from m b tt) h
body_parted c me ends x from m (body.Answer e number text) sits h = let b : Body = body.Answer e number text in left_parted c me x (cuts.body_course c me ends x from m b) (beside_left c me ends x from m b tt) h

-- ---- each input

ticked_parted : (c : Cluster) (me : ℕ) (x : UpNode) (o : Option AttemptState) → x.attempt ≡ o → In (PartSo x.tasks) o → LeadsTo c me Parted x (cuts.ticked_course c me x o)
ticked_parted c me x (Some a) is here = going_parted c me x a Call_tick tt other here
  where
    other : Call_tick ≡ Own_ready → ⊥
    other z = cc
ticked_parted c me x None is here =
    let h : Parted x = subst (In (PartSo x.tasks)) (sym is) tt in
    let y : UpNode = waiting_less x in
    if_either (LeadsTo c me Parted x) (nat_le 1 x.beats.wait) (Acts Waits Stops) (Acts Waits (cuts.forming_course c me y (members_to_form c me y))) h (forming_parted c me y (members_to_form c me y) h)

serving_at_parted : (c : Cluster) (me : ℕ) (s : ConfigState) (x : UpNode) (p : Presidency) (name : List ℕ) (number port : ℕ) (o : Option Address) → Parted x → LeadsTo c me Parted x (cuts.serving_at_course s x p name number port o)
serving_at_parted c me s x p name number port None h = h
serving_at_parted c me s x p name number port (Some a) h = h

serving_parted : (c : Cluster) (me : ℕ) (x : UpNode) (name : List ℕ) (number port : ℕ) (o : Option Presidency) → Parted x → LeadsTo c me Parted x (cuts.serving_by_course c x name number port o)
serving_parted c me x name number port None h = h
serving_parted c me x name number port (Some p) h = serving_at_parted c me (in_force c x) x p name number port (named (in_force c x).addresses name) h

input_parted : (c : Cluster) (me : ℕ) (ends : method.Outcome) (x : UpNode) (i : Input) → Seated me x → Parted x → LeadsTo c me Parted x (course_of c me ends x i)
input_parted c me ends x Boot sits h = h
input_parted c me ends x Crash sits h = tt
input_parted c me ends x Tick sits h =
    let y : UpNode = later c x in
    let k : Course = cuts.governing_course c me ends x y in
    leads_joined c me Parted Parted y k (λ z. cuts.ticked_course c me z z.attempt) (left_parted c me y k (governing_left c me ends x y) h) (λ z parted. ticked_parted c me z z.attempt refl parted)
input_parted c me ends x (Packet from m) sits h =
    let y : UpNode = hearing x from m.body in
    if_either (LeadsTo c me Parted x) (is_foreign c me x m.body) Stops (Acts (Hears from m.body) (cuts.body_course c me ends y from m m.body)) h (body_parted c me ends y from m m.body (heard_so me x from m x.attempt sits) h)
  where
    heard_so : (me : ℕ) (x : UpNode) (from : ℕ) (m : Message) (o : Option AttemptState) → In (Sits me x) o → In (Sits me (hearing x from m.body)) o
    heard_so me x from m None k = tt
    heard_so me x from m (Some a) k = record { leads = k.leads; installed = k.installed }
input_parted c me ends x CommandDue sits h = distrusting_parted c me x (begins_plainly x.tasks) h
input_parted c me ends x (Answered a) sits h = answered_parted c me x a (due_device x.tasks) (next_of x.tasks) sits h
input_parted c me ends x (Wrote d value a) sits h = fenced_parted c me x d a h
input_parted c me ends x (Commanded words) sits h = left_parted c me x (cuts.command_course c me x words) (command_left c me x words) h
input_parted c me ends x (Reported r good) sits h = left_parted c me x (cuts.report_course c me x r good) (report_left c me x r good) h
input_parted c me ends x (Client name number port) sits h = serving_parted c me x name number port x.presidency h

-- ---- a step

second_so : (me now : ℕ) (x : UpNode) (o : Option AttemptState) → In (Sits me x) o → In (Sits me (at_second now x)) o
second_so me now x None k = tt
second_so me now x (Some a) k = record { leads = k.leads; installed = k.installed }

booted_parted : (me valid : ℕ) (r : NodeRecord) (after : DiskState) (lost : Option Loss) → IsAt Parted (booted_with me valid r (record { after = after; lost = lost })).after
booted_parted me valid r after None = tt
booted_parted me valid r after (Some Stopped) = tt
booted_parted me valid r after (Some Fault) = tt

pub step_parted : (c : Cluster) (n now : ℕ) (ends : method.Outcome) (node : Node) (disk : DiskState) (i : Input) → IsAt (Seated n) node → IsAt Parted node → IsAt Parted (stepped disk_rules c n now ends node disk i).after
step_parted c n now ends Down disk Boot sits h = booted_parted n (first_valid_of c n) disk.kept (mounting disk).after (mounting disk).lost
step_parted c n now ends Down disk _ sits h = tt
step_parted c n now ends (Up x) disk i sits h =
    subst (λ (o : Outcome DiskState). IsAt Parted o.after) (sym ((step_of_node_is_its_course saving c n now ends x i).is [] disk))
    (carried_leads c n Parted x (course_at c n now ends x i) [] disk (input_parted c n ends (at_second now x) i (second_so n now x x.attempt sits) h))
