-- Each step of a node keeps of its attempt what each call keeps; a Promise that comes is taken.
use Rattle.std.specs.Prelude.{ℕ, ◌≡◌, ◌==◌, ◌++◌, false, List, [], Option, None, Some, Ok, if◌then◌else◌}
use Rattle.std.proofs.Common.{refl, sym, ap, subst, ◌∙◌}
use Rattle.cl_base.specs.Sets.{has}
use Rattle.cl_base.specs.Seizings.{SeizeResult}
use Rattle.cl_base.specs.declared.method.Outcome as method
use Rattle.cl_base.specs.declared.seizing.SeizeEnd.TheVariants as seized
use Rattle.cmm_attempt.proofs.Basics.{false_true, if_either}
use Rattle.cmm_attempt.specs.Attempts.{AttemptState}
use Rattle.cmm_attempt.specs.Calls.{Own_seized, Take, Tick as Call_tick, turn}
use Rattle.cmm_member.specs.Records.{NodeRecord}
use Rattle.device_queue.specs.Queue.{begins_plainly, due_device, kept_of, next_of, progress_after}
use Rattle.device_queue.specs.declared.progress.Progress.{Progress}
use Rattle.device_queue.specs.declared.progress.Progress.TheVariants.{GoesOn, Joined, Seized}
use Rattle.node_model.specs.Devices.{joining_so}
use Rattle.node_model.specs.Members.{hearing, is_foreign}
use Rattle.node_model.specs.Groups.{orders_again, own_order, own_order_of}
use Rattle.node_model.specs.Seats.{coordinator_of, installed_of, is_in, is_member, record_of, session_of}
use Rattle.node_model.specs.Steps.{Outcome, at_second, carried, stepped, unless_lost}
use Rattle.node_model.specs.Ticks.{later}
use Rattle.node_model.specs.Updates.{later_presidency}
use Rattle.node_model.specs.declared.cluster.Cluster.{Cluster}
use Rattle.node_model.specs.declared.input.Input.{Input}
use Rattle.node_model.specs.declared.input.Input.TheVariants.{Answered, Boot, Client, CommandDue, Commanded, Crash, Packet, Reported, Tick, Wrote}
use Rattle.node_model.specs.declared.node.Node.TheVariants.{Up}
use Rattle.node_model.specs.declared.node.UpNode.{UpNode}
use Rattle.node_model.specs.declared.output.Output.{Output}
use Rattle.node_model.specs.declared.presidency.Presidency.{Presidency}
use Rattle.node_model.specs.Plans.{Plan}
use Rattle.node_model.specs.Plans.Plan.{Saves}
use Rattle.pgr_device.specs.declared.command.PrAnswer.TheVariants as given
use Rattle.pgr_device.specs.declared.command.PrCommand.{PrCommand}
use Rattle.record_disk.specs.Disks.{DiskState, saving}
use Rattle.record_disk.specs.declared.error.Loss.{Loss}
use Rattle.record_disk.specs.declared.error.Loss.TheVariants.{Fault, Stopped}
use Rattle.refinement.proofs.Cuts.{step_of_node_is_its_course}
use Rattle.refinement.specs.Courses.{Course, plan_from, saying}
use Rattle.refinement.specs.Courses.Course.{Acts, Falls, Keeps, Stops}
use Rattle.refinement.specs.Cuts as cuts
use Rattle.refinement.specs.Cuts.{course_at, course_of, writing}
use Rattle.refinement.specs.Doings.{acted, answered_so, changed, first_lines, said, saved_lines}
use Rattle.refinement.specs.Doings.Act.{Accepts, Gives, Hears}
use Rattle.refinement.specs.Doings.Change.{Distrusts}
use Rattle.refinement.specs.Steps.{disk_rules}
use Rattle.seize.specs.Answers.{Answer}
use Rattle.seize.specs.declared.kind.JoinResult.{JoinResult}
use Rattle.seize.specs.declared.kind.JoinResult.TheVariants as join
use Rattle.seize.specs.declared.kind.SeizeKind.{SeizeKind}
use Rattle.seize.specs.declared.kind.SeizeKind.TheVariants.{Plain, Vote}
use Rattle.wire.specs.declared.message.Body.{Body}
use Rattle.wire.specs.declared.message.Body.TheVariants as body
use Rattle.wire.specs.declared.message.Message.{Message}
use Rattle.wire.specs.declared.message.Order.{Order}
use Rattle.run_history.proofs.QuietCourses.{IsOther, Quiet, client, command, other, readying, report}
use Rattle.run_downs.proofs.Courses.{by_test, says_all}
use Rattle.run_downs.proofs.Proposing.{command_p, report_p}
use Rattle.run_outcomes.specs.saves.Kept.{IsAt}
use Rattle.run_outcomes.specs.saves.Courses.{LeadsTo, Leaves}
use Rattle.run_outcomes.proofs.saves.Beside.{NoLeads, body_no, no_leads, quiet_leaves, readying_no}
use Rattle.run_outcomes.proofs.saves.Rests.{leads_joined}
use Rattle.run_outcomes.specs.phases.Kept.{In}
use Rattle.run_outcomes.proofs.phases.Leading.{Has, IsKept, going_has, leaves_has, own_ready_has}

-- ---- what comes

-- what holds of the attempt as something comes: of a Promise, that it holds once it is taken
abbrev pub ComesBody : (AttemptState → Type 0) → AttemptState → ℕ → Message → Body → Type 0
ComesBody I a from m (body.Promise e installed members valid flagged committed pending) = I (turn a (Take from m)).after
ComesBody I a from m b = I a

abbrev pub Comes : (AttemptState → Type 0) → Cluster → ℕ → UpNode → AttemptState → Input → Type 0
Comes I c me x a (Packet from m) = ComesBody I a from m m.body × (is_foreign c me x m.body ≡ false)
Comes I c me x a i = I a

-- ---- each input

has_of : (I : AttemptState → Type 0) (x : UpNode) (a : AttemptState) → x.attempt ≡ Some a → I a → Has I x
has_of I x a is h = subst (In I) (sym is) h

answer_has : (I : AttemptState → Type 0) (c : Cluster) (me : ℕ) (x : UpNode) (from : ℕ) (m : Message) (a : AttemptState) (o : Option AttemptState) → IsKept I → o ≡ Some a → I (turn a (Take from m)).after → LeadsTo c me (Has I) x (cuts.answer_course c me x from m o)
answer_has I c me x from m a o keeps is h = subst (λ z. LeadsTo c me (Has I) x (cuts.answer_course c me x from m z)) (sym is) (going_has I c me x a (Take from m) keeps h)

request_l : (x : UpNode) (from : ℕ) (kind : SeizeKind) (e members d : ℕ) (o : Option SeizeResult) → Leaves (cuts.request_course x from kind e members d o)
request_l x from kind e members d (Some result) = (tt, tt)
request_l x from kind e members d None = if_either Leaves (installed_of x == e) (writing from (body.Seized e d seized.Fault)) (Acts (Accepts kind e members d) Stops) (tt, tt) (tt, tt)

pub seizing_l : (x : UpNode) (from : ℕ) (kind : SeizeKind) (e members d : ℕ) → Leaves (cuts.seizing_course x from kind e members d)
seizing_l x from kind e members d = if_either Leaves (is_in x e) (cuts.request_course x from kind e members d (kept_of x.tasks d)) Stops (request_l x from kind e members d (kept_of x.tasks d)) tt

pub other_l : (c : Cluster) (me : ℕ) (ends : method.Outcome) (x : UpNode) (from : ℕ) (m : Message) (b : Body) → IsOther b → Leaves (cuts.body_course c me ends x from m b)
other_l c me ends x from m b is = quiet_leaves (cuts.body_course c me ends x from m b) (other c me ends x from m b is) (body_no c me ends x from m b is)

body_has : (I : AttemptState → Type 0) (c : Cluster) (me : ℕ) (ends : method.Outcome) (x : UpNode) (from : ℕ) (m : Message) (a : AttemptState) (b : Body) → IsKept I → x.attempt ≡ Some a → ComesBody I a from m b
    → LeadsTo c me (Has I) x (cuts.body_course c me ends x from m b)
body_has I c me ends x from m a (body.Promise e installed members valid flagged committed pending) keeps is h = answer_has I c me x from m a x.attempt keeps is h
body_has I c me ends x from m a (body.Nack e promised) keeps is h = answer_has I c me x from m a x.attempt keeps is (keeps a (Take from m) tt h)
body_has I c me ends x from m a (body.Seized e d ended) keeps is h = answer_has I c me x from m a x.attempt keeps is (keeps a (Take from m) tt h)
body_has I c me ends x from m a (body.Ready e devices told) keeps is h = answer_has I c me x from m a x.attempt keeps is (keeps a (Take from m) tt h)
body_has I c me ends x from m a (body.SeizeQuorum e members d) keeps is h = leaves_has I c me x (cuts.seizing_course x from Vote e members d) (seizing_l x from Vote e members d) (has_of I x a is h)
body_has I c me ends x from m a (body.SeizeData e members d) keeps is h = leaves_has I c me x (cuts.seizing_course x from Plain e members d) (seizing_l x from Plain e members d) (has_of I x a is h)
body_has I c me ends x from m a (body.Heartbeat promised session member) keeps is h = let b : Body = body.Heartbeat promised session member in leaves_has I c me x (cuts.body_course c me ends x from m b) (other_l c me ends x from m b tt) (has_of I x a is h)
body_has I c me ends x from m a (body.Collect p members) keeps is h = let b : Body = body.Collect p members in leaves_has I c me x (cuts.body_course c me ends x from m b) (other_l c me ends x from m b tt) (has_of I x a is h)
body_has I c me ends x from m a (body.Install i) keeps is h = let b : Body = body.Install i in leaves_has I c me x (cuts.body_course c me ends x from m b) (other_l c me ends x from m b tt) (has_of I x a is h)
body_has I c me ends x from m a (body.Start e) keeps is h = let b : Body = body.Start e in leaves_has I c me x (cuts.body_course c me ends x from m b) (other_l c me ends x from m b tt) (has_of I x a is h)
body_has I c me ends x from m a (body.Excluded e newest) keeps is h = let b : Body = body.Excluded e newest in leaves_has I c me x (cuts.body_course c me ends x from m b) (other_l c me ends x from m b tt) (has_of I x a is h)
body_has I c me ends x from m a (body.Prepare e place text) keeps is h = let b : Body = body.Prepare e place text in leaves_has I c me x (cuts.body_course c me ends x from m b) (other_l c me ends x from m b tt) (has_of I x a is h)
body_has I c me ends x from m a (body.Prepared e place) keeps is h = let b : Body = body.Prepared e place in leaves_has I c me x (cuts.body_course c me ends x from m b) (other_l c me ends x from m b tt) (has_of I x a is h)
body_has I c me ends x from m a (body.Commit e place) keeps is h = let b : Body = body.Commit e place in leaves_has I c me x (cuts.body_course c me ends x from m b) (other_l c me ends x from m b tt) (has_of I x a is h)
body_has I c me ends x from m a (body.Order o) keeps is h = let b : Body = body.Order o in leaves_has I c me x (cuts.body_course c me ends x from m b) (other_l c me ends x from m b tt) (has_of I x a is h)
body_has I c me ends x from m a (body.Done e number ended) keeps is h = let b : Body = body.Done e number ended in leaves_has I c me x (cuts.body_course c me ends x from m b) (other_l c me ends x from m b tt) (has_of I x a is h)
body_has I c me ends x from m a (body.Request e number text) keeps is h = let b : Body = body.Request e number text in leaves_has I c me x (cuts.body_course c me ends x from m b) (other_l c me ends x from m b tt) (has_of I x a is h)
body_has I c me ends x from m a (body.Answer e number text) keeps is h = let b : Body = body.Answer e number text in leaves_has I c me x (cuts.body_course c me ends x from m b) (other_l c me ends x from m b tt) (has_of I x a is h)

heard_has : (I : AttemptState → Type 0) (c : Cluster) (me : ℕ) (ends : method.Outcome) (x : UpNode) (from : ℕ) (m : Message) (a : AttemptState) (b : Body) → IsKept I → x.attempt ≡ Some a → ComesBody I a from m b
    → LeadsTo c me (Has I) x (Acts (Hears from b) (cuts.body_course c me ends (hearing x from b) from m b))
heard_has I c me ends x from m a b keeps is h = body_has I c me ends (hearing x from b) from m a b keeps is h

packet_has : (I : AttemptState → Type 0) (c : Cluster) (me : ℕ) (ends : method.Outcome) (x : UpNode) (from : ℕ) (m : Message) (a : AttemptState) (b : Body) → IsKept I → x.attempt ≡ Some a → ComesBody I a from m b → is_foreign c me x b ≡ false
    → LeadsTo c me (Has I) x (if is_foreign c me x b then Stops else Acts (Hears from b) (cuts.body_course c me ends (hearing x from b) from m b))
packet_has I c me ends x from m a b keeps is h native =
    by_test (LeadsTo c me (Has I) x) (is_foreign c me x b) Stops (Acts (Hears from b) (cuts.body_course c me ends (hearing x from b) from m b)) (λ foreign. absurd (false_true (sym native ∙ foreign))) (λ none. heard_has I c me ends x from m a b keeps is h)

-- a node without a presidency leaves its attempt as it is

pub record Same (o : Option AttemptState) (z : UpNode) : Type 0 where
  pub attempt : z.attempt ≡ o
  pub none : z.presidency ≡ None

own_turn_same : (c : Cluster) (me : ℕ) (ends : method.Outcome) (x : UpNode) (p : Option Presidency) (o : Option AttemptState) → p ≡ None → Same o x
    → LeadsTo c me (Same o) x (cuts.own_turn_course c me ends x (if is_member x.seat then own_order_of me p else None))
own_turn_same c me ends x p o none h =
    subst (λ z. LeadsTo c me (Same o) x (cuts.own_turn_course c me ends x (if is_member x.seat then own_order_of me z else None))) (sym none)
    (if_either (λ (z : Option Order). LeadsTo c me (Same o) x (cuts.own_turn_course c me ends x z)) (is_member x.seat) None None h h)

deciding_same : (c : Cluster) (me : ℕ) (x : UpNode) (p : Option Presidency) (o : Option AttemptState) → p ≡ None → Same o x → LeadsTo c me (Same o) x (cuts.deciding_by_course c me x p)
deciding_same c me x p o none h = subst (λ z. LeadsTo c me (Same o) x (cuts.deciding_by_course c me x z)) (sym none) h

again_same : (c : Cluster) (me : ℕ) (before x : UpNode) (p : Option Presidency) (o : Option AttemptState) → p ≡ None → Same o x
    → LeadsTo c me (Same o) x (cuts.prepares_again_course before p (Acts (Gives (orders_again before x)) (cuts.deciding_course c me x)))
again_same c me before x p o none h =
    subst (λ z. LeadsTo c me (Same o) x (cuts.prepares_again_course before z (Acts (Gives (orders_again before x)) (cuts.deciding_course c me x)))) (sym none)
    (deciding_same c me x x.presidency o h.none h)

pub governing_same : (c : Cluster) (me : ℕ) (ends : method.Outcome) (before x : UpNode) (o : Option AttemptState) → before.presidency ≡ None → Same o x → LeadsTo c me (Same o) x (cuts.governing_course c me ends before x)
governing_same c me ends before x o none h =
    leads_joined c me (Same o) (Same o) x (cuts.own_turn_course c me ends x (own_order me x)) (cuts.going_again_course c me before) (own_turn_same c me ends x x.presidency o h.none h)
    (λ y same. again_same c me before y before.presidency o none same)

ticked_has : (I : AttemptState → Type 0) (c : Cluster) (me : ℕ) (x : UpNode) (a : AttemptState) (o : Option AttemptState) → IsKept I → o ≡ Some a → I a → LeadsTo c me (Has I) x (cuts.ticked_course c me x o)
ticked_has I c me x a o keeps is h = subst (λ z. LeadsTo c me (Has I) x (cuts.ticked_course c me x z)) (sym is) (going_has I c me x a Call_tick keeps (keeps a Call_tick tt h))

-- ---- an answer of a device

distrusting_has : (I : AttemptState → Type 0) (c : Cluster) (me : ℕ) (x : UpNode) (o : Option ℕ) → Has I x → LeadsTo c me (Has I) x (cuts.distrusting_course x o)
distrusting_has I c me x None h = h
distrusting_has I c me x (Some d) h = if_either (LeadsTo c me (Has I) x) (has (record_of x).valid d) (Keeps (Distrusts d) Stops) Stops h h

own_seized_has : (I : AttemptState → Type 0) (c : Cluster) (me : ℕ) (x : UpNode) (d : ℕ) (r : SeizeResult) (o : Option AttemptState) → IsKept I → In I o → Has I x → LeadsTo c me (Has I) x (cuts.own_seized_course c me x d r o)
own_seized_has I c me x d r None keeps here h = h
own_seized_has I c me x d r (Some a) keeps here h = going_has I c me x a (Own_seized d r) keeps (keeps a (Own_seized d r) tt here)

seized_has : (I : AttemptState → Type 0) (c : Cluster) (me : ℕ) (x : UpNode) (d : ℕ) (r : SeizeResult) (o : Option ℕ) → IsKept I → Has I x → LeadsTo c me (Has I) x (cuts.seized_course c me x d r o)
seized_has I c me x d r None keeps h = h
seized_has I c me x d r (Some k) keeps h =
    if_either (LeadsTo c me (Has I) x) (k == me) (cuts.own_seized_course c me x d r x.attempt) (writing k (body.Seized (session_of x) d r)) (own_seized_has I c me x d r x.attempt keeps h h) h

readying_has : (I : AttemptState → Type 0) (c : Cluster) (me : ℕ) (x : UpNode) (to : ℕ) → Has I x → LeadsTo c me (Has I) x (cuts.readying_course c x to)
readying_has I c me x to h = leaves_has I c me x (cuts.readying_course c x to) (quiet_leaves (cuts.readying_course c x to) (readying c x to) (readying_no c x to)) h

joined_has : (I : AttemptState → Type 0) (c : Cluster) (me : ℕ) (x : UpNode) (o : Option ℕ) → IsKept I → Has I x → LeadsTo c me (Has I) x (cuts.joined_course c me x o)
joined_has I c me x None keeps h = h
joined_has I c me x (Some k) keeps h = if_either (LeadsTo c me (Has I) x) (k == me) (cuts.own_ready_course c me x) (cuts.readying_course c x k) (own_ready_has I c me x keeps h) (readying_has I c me x k h)

joining_has : (I : AttemptState → Type 0) (c : Cluster) (me : ℕ) (x : UpNode) (at : ℕ) (k : PrCommand) (a : Answer) (d : ℕ) (r : JoinResult) → IsKept I → Has I x → LeadsTo c me (Has I) x (cuts.joining_course c me x at k a d r)
joining_has I c me x at k a d join.Joined keeps h = let y : UpNode = joining_so (answered_so x a) d in joined_has I c me y (coordinator_of y) keeps h
joining_has I c me x at k a d (join.Late w) keeps h = let y : UpNode = answered_so x a in joined_has I c me y (coordinator_of y) keeps h
joining_has I c me x at k a d join.Fault keeps h = let y : UpNode = answered_so x a in joined_has I c me y (coordinator_of y) keeps h

progress_has : (I : AttemptState → Type 0) (c : Cluster) (me : ℕ) (x : UpNode) (at : ℕ) (k : PrCommand) (a : Answer) (p : Progress) → IsKept I → Has I x → LeadsTo c me (Has I) x (cuts.progress_course c me x at k a p)
progress_has I c me x at k a GoesOn keeps h = h
progress_has I c me x at k a (Seized d r) keeps h = let y : UpNode = answered_so x a in seized_has I c me y d r (coordinator_of y) keeps h
progress_has I c me x at k a (Joined d r) keeps h = joining_has I c me x at k a d r keeps h

answered_has : (I : AttemptState → Type 0) (c : Cluster) (me : ℕ) (x : UpNode) (a : Answer) (o : Option ℕ) (k : Option PrCommand) → IsKept I → Has I x → LeadsTo c me (Has I) x (cuts.answered_course c me x a o k)
answered_has I c me x a None k keeps h = h
answered_has I c me x a (Some d) None keeps h = h
answered_has I c me x a (Some d) (Some k) keeps h = progress_has I c me x d k a (progress_after x.tasks a) keeps h

fenced_has : (I : AttemptState → Type 0) (c : Cluster) (me : ℕ) (x : UpNode) (d : ℕ) (a : Answer) → Has I x → LeadsTo c me (Has I) x (cuts.fenced_course d a)
fenced_has I c me x d (Ok given.Good) h = h
fenced_has I c me x d (Ok given.Conflict) h = tt
fenced_has I c me x d _ h = h

quiet_has : (I : AttemptState → Type 0) (c : Cluster) (me : ℕ) (x : UpNode) (k : Course) → Quiet k → NoLeads k → Has I x → LeadsTo c me (Has I) x k
quiet_has I c me x k quiet none h = leaves_has I c me x k (quiet_leaves k quiet none) h

client_no : (c : Cluster) (x : UpNode) (name : List ℕ) (number port : ℕ) (o : Option Presidency) → o ≡ None → NoLeads (cuts.serving_by_course c x name number port o)
client_no c x name number port o none = subst (λ z. NoLeads (cuts.serving_by_course c x name number port z)) (sym none) tt

pub later_none : (c : Cluster) (x : UpNode) → x.presidency ≡ None → (later c x).presidency ≡ None
later_none c x is = ap later_presidency is

input_has : (I : AttemptState → Type 0) (c : Cluster) (me : ℕ) (ends : method.Outcome) (x : UpNode) (a : AttemptState) (i : Input) → IsKept I → x.attempt ≡ Some a → x.presidency ≡ None → Comes I c me x a i
    → LeadsTo c me (Has I) x (course_of c me ends x i)
input_has I c me ends x a Boot keeps is none h = has_of I x a is h
input_has I c me ends x a Crash keeps is none h = tt
input_has I c me ends x a Tick keeps is none h =
    let y : UpNode = later c x in
    leads_joined c me (Same (Some a)) (Has I) y (cuts.governing_course c me ends x y) (λ z. cuts.ticked_course c me z z.attempt) (governing_same c me ends x y (Some a) none (record { attempt = is; none = later_none c x none }))
    (λ z same. ticked_has I c me z a z.attempt keeps same.attempt h)
input_has I c me ends x a (Packet from m) keeps is none h = packet_has I c me ends x from m a m.body keeps is h.0 h.1
input_has I c me ends x a CommandDue keeps is none h = distrusting_has I c me x (begins_plainly x.tasks) (has_of I x a is h)
input_has I c me ends x a (Answered r) keeps is none h = answered_has I c me x r (due_device x.tasks) (next_of x.tasks) keeps (has_of I x a is h)
input_has I c me ends x a (Wrote d value r) keeps is none h = fenced_has I c me x d r (has_of I x a is h)
input_has I c me ends x a (Commanded words) keeps is none h = quiet_has I c me x (cuts.command_course c me x words) (command c me x words) (no_leads false (cuts.command_course c me x words) (command_p false c me x words)) (has_of I x a is h)
input_has I c me ends x a (Reported r good) keeps is none h = quiet_has I c me x (cuts.report_course c me x r good) (report c me x r good) (no_leads false (cuts.report_course c me x r good) (report_p false c me x r good)) (has_of I x a is h)
input_has I c me ends x a (Client name number port) keeps is none h =
    quiet_has I c me x (cuts.client_course c x name number port) (client c x name number port) (client_no c x name number port x.presidency none) (has_of I x a is h)

-- ---- a step

pub carried_leads : (c : Cluster) (me : ℕ) (P : UpNode → Type 0) (x : UpNode) (k : Course) (before : List Output) (disk : DiskState) → LeadsTo c me P x k → IsAt P (carried saving me (plan_from c me x k) before disk).after
carried_leads c me P x Stops before disk h = h
carried_leads c me P x (Acts a rest) before disk h =
    subst (λ (o : Outcome DiskState). IsAt P o.after) (says_all me (said c me x a) (plan_from c me (acted c me x a) rest) before disk)
    (carried_leads c me P (acted c me x a) rest (before ++ said c me x a) disk h)
carried_leads c me P x (Keeps ch rest) before disk h =
    subst (λ (o : Outcome DiskState). IsAt P o.after) (says_all me (first_lines me ch) (Saves r (saying last p)) before disk) (by_loss (saving disk r).lost (carried_leads c me P y rest (told ++ last) after h))
  where
    y : UpNode
    y = changed c me x ch

    r : NodeRecord
    r = record_of y

    last : List Output
    last = saved_lines c me x ch

    p : Plan
    p = plan_from c me y rest

    told : List Output
    told = before ++ first_lines me ch

    after : DiskState
    after = (saving disk r).after

    by_loss : (lost : Option Loss) → IsAt P (carried saving me p (told ++ last) after).after → IsAt P (unless_lost me told after lost (carried saving me (saying last p) told after)).after
    by_loss None done = subst (λ (o : Outcome DiskState). IsAt P o.after) (says_all me last p told after) done
    by_loss (Some Stopped) done = tt
    by_loss (Some Fault) done = tt
carried_leads c me P x (Falls why) before disk h = tt

same_foreign : (c : Cluster) (me now : ℕ) (x : UpNode) (b : Body) → is_foreign c me (at_second now x) b ≡ is_foreign c me x b
same_foreign c me now x _ = refl

comes_then : (I : AttemptState → Type 0) (c : Cluster) (me now : ℕ) (x : UpNode) (a : AttemptState) (i : Input) → Comes I c me x a i → Comes I c me (at_second now x) a i
comes_then I c me now x a (Packet from m) h = (h.0, same_foreign c me now x m.body ∙ h.1)
comes_then I c me now x a _ h = h

pub step_has : (I : AttemptState → Type 0) (c : Cluster) (n now : ℕ) (ends : method.Outcome) (x : UpNode) (a : AttemptState) (disk : DiskState) (i : Input) → IsKept I → x.attempt ≡ Some a → x.presidency ≡ None → Comes I c n x a i
    → IsAt (Has I) (stepped disk_rules c n now ends (Up x) disk i).after
step_has I c n now ends x a disk i keeps is none h =
    subst (λ (o : Outcome DiskState). IsAt (Has I) o.after) (sym ((step_of_node_is_its_course saving c n now ends x i).is [] disk))
    (carried_leads c n (Has I) x (course_at c n now ends x i) [] disk (input_has I c n ends (at_second now x) a i keeps is none (comes_then I c n now x a i h)))
