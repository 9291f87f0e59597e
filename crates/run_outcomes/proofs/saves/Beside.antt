-- What is done beside attempts leaves the attempt: no attempt begins in it, and none takes a call.
use Rattle.std.specs.Prelude.{ℕ, ◌==◌, ◌&&◌, nat_lt, Bool, true, false, List, Option, None, Some, is_some, length}
use Rattle.ccr_commit.specs.Entries.{answer_for, texts_of}
use Rattle.ccr_commit.specs.declared.entries.Prepared.{Prepared}
use Rattle.ccr_commit.specs.declared.entries.Prepared.TheVariants.{Already, Gap, Taken}
use Rattle.cl_base.specs.declared.method.Outcome as method
use Rattle.cl_base.specs.declared.panic.Panic.TheVariants as panic
use Rattle.cmm_attempt.proofs.Basics.{if_either}
use Rattle.cmm_member.specs.Nodes.{NodeState}
use Rattle.device_queue.specs.Queue.{joins}
use Rattle.node_model.specs.Attempts.{promise_of, starts_now}
use Rattle.node_model.specs.Members.{awaits_start, promised_so, ready_of}
use Rattle.node_model.specs.Seats.{is_in, promised_of, record_of, session_of}
use Rattle.node_model.specs.Updates.{commits_now, is_of_member}
use Rattle.node_model.specs.declared.cluster.Cluster.{Cluster}
use Rattle.node_model.specs.declared.node.UpNode.{UpNode}
use Rattle.node_model.specs.declared.presidency.Presidency.{Presidency}
use Rattle.node_model.specs.declared.seat.Seat.{Seat}
use Rattle.node_model.specs.declared.seat.Seat.TheVariants.{Forming, Member}
use Rattle.proposals.specs.Proposing.{is_prepared, prepared_by}
use Rattle.proposals.specs.State.{first_in}
use Rattle.proposals.specs.declared.arrived.Arrived.{Arrived}
use Rattle.node_model.specs.Presidents.{with_proposals}
use Rattle.refinement.specs.Courses.{Course, joined}
use Rattle.refinement.specs.Courses.Course.{Acts, Falls, Keeps, Stops}
use Rattle.refinement.specs.Cuts as cuts
use Rattle.refinement.specs.Cuts.{acknowledging_course, handling_course, writing}
use Rattle.refinement.specs.Doings.{Act, Change, acted, changed}
use Rattle.refinement.specs.Doings.Act.{Goes_on, Makes}
use Rattle.refinement.specs.Doings.Change.{Acks, Admits, Commits, Counts, Distrusts, Installs, Leads, Prepares, Promises, Proposes, Sits, Starts}
use Rattle.status_report.specs.declared.node_entry.DownCause.TheVariants as down
use Rattle.wire.specs.declared.message.Body.{Body}
use Rattle.wire.specs.declared.message.Body.TheVariants as body
use Rattle.wire.specs.declared.message.Install.{Install}
use Rattle.wire.specs.declared.message.Message.{Message}
use Rattle.answer_words.specs.Answers.{answer_in}
use Rattle.run_history.specs.Guards.{MadeAt}
use Rattle.run_history.proofs.QuietCourses.{IsOther, Quiet, QuietAct}
use Rattle.run_downs.proofs.Proposing.{SavesProposed, asked_p, deciding_p, done_p, handling_p, order_p, reply_p}
use Rattle.run_outcomes.specs.saves.Courses.{Leaves, LeavesAct, LeavesChange}

-- ---- what is done beside attempts leaves the attempt

-- no attempt begins
abbrev pub NoLeads : Course → Type 0
NoLeads Stops = Unit {0}
NoLeads (Acts a rest) = NoLeads rest
NoLeads (Keeps (Leads p members) rest) = ⊥
NoLeads (Keeps _ rest) = NoLeads rest
NoLeads (Falls why) = Unit {0}

pub no_leads : (t : Bool) (k : Course) → SavesProposed t k → NoLeads k
no_leads t Stops h = tt
no_leads t (Acts a rest) h = no_leads t rest h.1
no_leads t (Keeps (Proposes s p text) rest) h = no_leads true rest h
no_leads t (Keeps (Acks s p q left text) rest) h = no_leads t rest h.1
no_leads t (Keeps _ rest) h = absurd h
no_leads t (Falls why) h = tt

made_leaves : (change : Change) → MadeAt change → LeavesChange change
made_leaves (Starts a k s) h = tt
made_leaves (Sits s e) h = tt
made_leaves _ h = absurd h

quiet_act : (a : Act) → QuietAct a → LeavesAct a
quiet_act (Goes_on a k) h = absurd h
quiet_act (Makes change) h = made_leaves change h
quiet_act _ h = tt

pub quiet_leaves : (k : Course) → Quiet k → NoLeads k → Leaves k
quiet_leaves Stops h none = tt
quiet_leaves (Acts a rest) h none = (quiet_act a h.0, quiet_leaves rest h.1 none)
quiet_leaves (Keeps (Counts a k s i) rest) h none = absurd h.0
quiet_leaves (Keeps (Leads p members) rest) h none = absurd none
quiet_leaves (Keeps (Promises p) rest) h none = (tt, quiet_leaves rest h.1 none)
quiet_leaves (Keeps (Installs s i) rest) h none = (tt, quiet_leaves rest h.1 none)
quiet_leaves (Keeps (Starts a k s) rest) h none = (tt, quiet_leaves rest h.1 none)
quiet_leaves (Keeps (Sits s e) rest) h none = (tt, quiet_leaves rest h.1 none)
quiet_leaves (Keeps (Distrusts d) rest) h none = absurd h.0
quiet_leaves (Keeps (Admits at k a d) rest) h none = absurd h.0
quiet_leaves (Keeps (Proposes s p text) rest) h none = (tt, quiet_leaves rest h.1 none)
quiet_leaves (Keeps (Acks s p q left text) rest) h none = (tt, quiet_leaves rest h.1 none)
quiet_leaves (Keeps (Prepares s text) rest) h none = (tt, quiet_leaves rest h.1 none)
quiet_leaves (Keeps (Commits s) rest) h none = (tt, quiet_leaves rest h.1 none)
quiet_leaves (Falls why) h none = tt

joined_no : (c : Cluster) (me : ℕ) (x : UpNode) (k : Course) (next : UpNode → Course) → NoLeads k → ((y : UpNode) → NoLeads (next y)) → NoLeads (joined c me x k next)
joined_no c me x Stops next h f = f x
joined_no c me x (Acts a rest) next h f = joined_no c me (acted c me x a) rest next h f
joined_no c me x (Keeps (Leads p members) rest) next h f = absurd h
joined_no c me x (Keeps (Counts a k s i) rest) next h f = joined_no c me (changed c me x (Counts a k s i)) rest next h f
joined_no c me x (Keeps (Promises p) rest) next h f = joined_no c me (changed c me x (Promises p)) rest next h f
joined_no c me x (Keeps (Installs s i) rest) next h f = joined_no c me (changed c me x (Installs s i)) rest next h f
joined_no c me x (Keeps (Starts a k s) rest) next h f = joined_no c me (changed c me x (Starts a k s)) rest next h f
joined_no c me x (Keeps (Sits s e) rest) next h f = joined_no c me (changed c me x (Sits s e)) rest next h f
joined_no c me x (Keeps (Distrusts d) rest) next h f = joined_no c me (changed c me x (Distrusts d)) rest next h f
joined_no c me x (Keeps (Admits at k a d) rest) next h f = joined_no c me (changed c me x (Admits at k a d)) rest next h f
joined_no c me x (Keeps (Proposes s p text) rest) next h f = joined_no c me (changed c me x (Proposes s p text)) rest next h f
joined_no c me x (Keeps (Acks s p q left text) rest) next h f = joined_no c me (changed c me x (Acks s p q left text)) rest next h f
joined_no c me x (Keeps (Prepares s text) rest) next h f = joined_no c me (changed c me x (Prepares s text)) rest next h f
joined_no c me x (Keeps (Commits s) rest) next h f = joined_no c me (changed c me x (Commits s)) rest next h f
joined_no c me x (Falls why) next h f = tt

acknowledging_text_no : (c : Cluster) (me : ℕ) (x : UpNode) (p : Presidency) (first : Option Arrived) (text : Option (List ℕ)) → NoLeads (cuts.acknowledging_text_course c me x p first text)
acknowledging_text_no c me x p (Some a) (Some text) = no_leads false (cuts.deciding_course c me (changed c me x (cuts.acks_of c me x p a text))) (deciding_p false c me (changed c me x (cuts.acks_of c me x p a text)))
acknowledging_text_no c me x p None text = tt
acknowledging_text_no c me x p (Some a) None = tt

acknowledging_no : (c : Cluster) (me : ℕ) (x : UpNode) (o : Option Presidency) → NoLeads (cuts.acknowledging_by_course c me x o)
acknowledging_no c me x None = tt
acknowledging_no c me x (Some p) = acknowledging_text_no c me x p (first_in p.proposals.arrived) (record_of x).entries.pending

prepared_at_no : (c : Cluster) (me : ℕ) (x : UpNode) (from place : ℕ) (o : Option Presidency) → NoLeads (cuts.prepared_at_course c me x from place o)
prepared_at_no c me x from place None = tt
prepared_at_no c me x from place (Some p) =
    let y : UpNode = with_proposals x p (prepared_by p.proposals from place) in
    if_either NoLeads (is_prepared (prepared_by p.proposals from place)) (joined c me y (acknowledging_course c me y) (handling_course c me)) Stops
    (joined_no c me y (acknowledging_course c me y) (handling_course c me) (acknowledging_no c me y y.presidency) (λ z. no_leads false (handling_course c me z) (handling_p false c me z))) tt

preparing_no : (from e place : ℕ) (s : NodeState) (text : List ℕ) (r : Prepared) → NoLeads (cuts.preparing_course from e place s text r)
preparing_no from e place s text Taken = tt
preparing_no from e place s text Already = tt
preparing_no from e place s text (Gap k) = tt

prepare_no : (x : UpNode) (from e place : ℕ) (text : List ℕ) (seat : Seat) → NoLeads (cuts.prepare_course x from e place text seat)
prepare_no x from e place text (Forming s) = tt
prepare_no x from e place text (Member s) =
    let r : Prepared = answer_for (length (texts_of s.saved.entries)) place in
    if_either NoLeads (is_in x e) (cuts.preparing_course from e place s text r) Stops (preparing_no from e place s text r) tt

commit_no : (x : UpNode) (e place : ℕ) (seat : Seat) → NoLeads (cuts.commit_course x e place seat)
commit_no x e place (Forming s) = tt
commit_no x e place (Member s) = if_either NoLeads (is_in x e && commits_now s place) (Keeps (Commits s) Stops) Stops tt tt

start_no : (e : ℕ) (seat : Seat) → NoLeads (cuts.start_course e seat)
start_no e (Member s) = tt
start_no e (Forming s) =
    if_either NoLeads (starts_now s e) (cuts.kept_if (is_some s.saved.entries.pending) (Sits s e) Stops) Stops
    (if_either NoLeads (is_some s.saved.entries.pending) (Keeps (Sits s e) Stops) (Acts (Makes (Sits s e)) Stops) tt tt) tt

pub readying_no : (c : Cluster) (x : UpNode) (to : ℕ) → NoLeads (cuts.readying_course c x to)
readying_no c x to = if_either NoLeads (joins x.tasks) Stops (writing to (ready_of c x)) tt tt

installed_no : (c : Cluster) (me : ℕ) (x : UpNode) (from : ℕ) (i : Install) (seat : Seat) → NoLeads (cuts.installed_course c me x from i seat)
installed_no c me x from i (Member s) = readying_no c x from
installed_no c me x from i (Forming s) =
    if_either NoLeads (s.saved.installed == i.epoch) (cuts.readying_course c x from) (Keeps (Installs s i) (cuts.readying_course c (changed c me x (Installs s i)) from)) (readying_no c x from) (readying_no c (changed c me x (Installs s i)) from)

pub body_no : (c : Cluster) (me : ℕ) (ends : method.Outcome) (x : UpNode) (from : ℕ) (m : Message) (b : Body) → IsOther b → NoLeads (cuts.body_course c me ends x from m b)
body_no c me ends x from m (body.Heartbeat promised session member) is = if_either NoLeads (awaits_start me x from session member) (writing from (body.Start (session_of x))) Stops tt tt
body_no c me ends x from m (body.Collect p members) is =
    if_either NoLeads (nat_lt (promised_of x) p) (Keeps (Promises p) (writing from (promise_of (promised_so x p) p))) _ tt
    (if_either NoLeads (is_in x p) (writing from (promise_of x p)) (writing from (body.Nack p (promised_of x))) tt tt)
body_no c me ends x from m (body.Install i) is =
    if_either NoLeads (is_in x i.epoch) (cuts.installed_course c me x from i x.seat) (writing from (body.Nack i.epoch (promised_of x))) (installed_no c me x from i x.seat) tt
body_no c me ends x from m (body.Start e) is = start_no e x.seat
body_no c me ends x from m (body.Excluded e newest) is = if_either NoLeads (is_in x e) (Falls (down.Panic (panic.Excluded newest))) Stops tt tt
body_no c me ends x from m (body.Prepare e place text) is = prepare_no x from e place text x.seat
body_no c me ends x from m (body.Prepared e place) is = if_either NoLeads (is_of_member x from e) (cuts.prepared_at_course c me x from place x.presidency) Stops (prepared_at_no c me x from place x.presidency) tt
body_no c me ends x from m (body.Commit e place) is = commit_no x e place x.seat
body_no c me ends x from m (body.Order o) is = no_leads false (cuts.order_course c me ends x from o) (order_p false c me ends x from o)
body_no c me ends x from m (body.Done e number ended) is = no_leads false (cuts.done_course c me x from e number ended) (done_p false c me x from e number ended)
body_no c me ends x from m (body.Request e number text) is = no_leads false (cuts.asked_course c me x from e number text) (asked_p false c me x from e number text)
body_no c me ends x from m (body.Answer e number text) is = no_leads false (cuts.reply_course c me x e number (answer_in text)) (reply_p false c me x e number (answer_in text))
body_no c me ends x from m _ is = absurd is
