-- Inputs and messages beside attempts and tasks leave both, and give no line that changes these.
use Rattle.std.specs.Prelude.{ℕ, ◌&&◌, false, List, length, Option, None, Some, Ok, is_some}
use Rattle.answer_words.specs.Answers.{answer_in}
use Rattle.ccr_commit.specs.Entries.{answer_for, texts_of}
use Rattle.ccr_commit.specs.declared.entries.Prepared.{Prepared}
use Rattle.ccr_commit.specs.declared.entries.Prepared.TheVariants.{Already, Gap, Taken}
use Rattle.ccr_tables.specs.State.{ConfigState}
use Rattle.ccr_tables.specs.declared.address.Address.{Address}
use Rattle.cl_base.specs.Sets.{has}
use Rattle.cl_base.specs.declared.method.Outcome as method
use Rattle.cl_base.specs.declared.panic.Panic.TheVariants as panic
use Rattle.cmm_attempt.proofs.Basics.{if_either}
use Rattle.cmm_member.specs.Nodes.{NodeState}
use Rattle.device_queue.specs.Queue.{begins_plainly}
use Rattle.node_model.specs.Attempts.{starts_now}
use Rattle.node_model.specs.Configurations.{in_force}
use Rattle.node_model.specs.Members.{awaits_start}
use Rattle.node_model.specs.Seats.{is_in, record_of, session_of}
use Rattle.node_model.specs.Updates.{commits_now}
use Rattle.node_model.specs.declared.cluster.Cluster.{Cluster}
use Rattle.node_model.specs.declared.input.Input.{Input}
use Rattle.node_model.specs.declared.input.Input.TheVariants.{Answered, Boot, Client, CommandDue, Commanded, Crash, Packet, Reported, Tick, Wrote}
use Rattle.node_model.specs.declared.node.UpNode.{UpNode}
use Rattle.node_model.specs.declared.presidency.Presidency.{Presidency}
use Rattle.node_model.specs.declared.seat.Seat.{Seat}
use Rattle.node_model.specs.declared.seat.Seat.TheVariants.{Forming, Member}
use Rattle.pgr_device.specs.declared.command.PrAnswer.TheVariants as given
use Rattle.refinement.specs.Courses.Course.{Acts, Falls, Keeps, Stops}
use Rattle.refinement.specs.Cuts as cuts
use Rattle.refinement.specs.Cuts.{course_of, writing}
use Rattle.refinement.specs.Doings.Act.{Makes}
use Rattle.refinement.specs.Doings.Change.{Commits, Distrusts, Sits}
use Rattle.rg_props.specs.Lookups.{named}
use Rattle.run_downs.proofs.Proposing.{asked_p, command_p, done_p, order_p, reply_p, report_p}
use Rattle.run_history.proofs.QuietCourses.{command, other, report}
use Rattle.seize.specs.Answers.{Answer}
use Rattle.status_report.specs.declared.node_entry.DownCause.TheVariants as down
use Rattle.wire.specs.declared.message.Body.{Body}
use Rattle.wire.specs.declared.message.Body.TheVariants as body
use Rattle.wire.specs.declared.message.Message.{Message}
use Rattle.run_outcomes.proofs.free.Courses.{asked_free, command_free, order_free, reply_free, report_free}
use Rattle.run_outcomes.proofs.free.Presidents.{done_free, prepared_free}
use Rattle.run_outcomes.proofs.onward.Inputs.{IsBesides}
use Rattle.run_outcomes.proofs.own_tasks.Beside.{IsBeside, prepared_staid}
use Rattle.run_outcomes.proofs.rests.Kept.{AreKept, proposed_kept, staid_kept}

-- ---- inputs

serving_at_kept : (s : ConfigState) (x : UpNode) (p : Presidency) (name : List ℕ) (number port : ℕ) (o : Option Address) → AreKept (cuts.serving_at_course s x p name number port o)
serving_at_kept s x p name number port None = tt
serving_at_kept s x p name number port (Some a) = (tt, (tt, tt))

serving_kept : (c : Cluster) (x : UpNode) (name : List ℕ) (number port : ℕ) (o : Option Presidency) → AreKept (cuts.serving_by_course c x name number port o)
serving_kept c x name number port None = tt
serving_kept c x name number port (Some p) = serving_at_kept (in_force c x) x p name number port (named (in_force c x).addresses name)

distrusting_kept : (x : UpNode) (o : Option ℕ) → AreKept (cuts.distrusting_course x o)
distrusting_kept x None = tt
distrusting_kept x (Some d) = if_either AreKept (has (record_of x).valid d) (Keeps (Distrusts d) Stops) Stops (tt, tt) tt

fenced_kept : (d : ℕ) (a : Answer) → AreKept (cuts.fenced_course d a)
fenced_kept d (Ok given.Good) = tt
fenced_kept d (Ok given.Conflict) = tt
fenced_kept d _ = tt

pub besides_kept : (c : Cluster) (n : ℕ) (ends : method.Outcome) (x : UpNode) (i : Input) → IsBesides i → AreKept (course_of c n ends x i)
besides_kept c n ends x Boot is = tt
besides_kept c n ends x Crash is = tt
besides_kept c n ends x Tick is = absurd is
besides_kept c n ends x (Packet from m) is = absurd is
besides_kept c n ends x CommandDue is = distrusting_kept x (begins_plainly x.tasks)
besides_kept c n ends x (Answered a) is = absurd is
besides_kept c n ends x (Wrote d value a) is = (tt, fenced_kept d a)
besides_kept c n ends x (Commanded words) is = proposed_kept false (cuts.command_course c n x words) (command c n x words) (command_p false c n x words) (command_free c n x words)
besides_kept c n ends x (Reported r good) is = proposed_kept false (cuts.report_course c n x r good) (report c n x r good) (report_p false c n x r good) (report_free c n x r good)
besides_kept c n ends x (Client name number port) is = serving_kept c x name number port x.presidency

-- ---- messages

preparing_kept : (from e place : ℕ) (s : NodeState) (text : List ℕ) (r : Prepared) → AreKept (cuts.preparing_course from e place s text r)
preparing_kept from e place s text Taken = (tt, (tt, tt))
preparing_kept from e place s text Already = (tt, tt)
preparing_kept from e place s text (Gap k) = tt

prepare_kept : (x : UpNode) (from e place : ℕ) (text : List ℕ) (seat : Seat) → AreKept (cuts.prepare_course x from e place text seat)
prepare_kept x from e place text (Forming s) = tt
prepare_kept x from e place text (Member s) =
    let r : Prepared = answer_for (length (texts_of s.saved.entries)) place in
    if_either AreKept (is_in x e) (cuts.preparing_course from e place s text r) Stops (preparing_kept from e place s text r) tt

commit_kept : (x : UpNode) (e place : ℕ) (seat : Seat) → AreKept (cuts.commit_course x e place seat)
commit_kept x e place (Forming s) = tt
commit_kept x e place (Member s) = if_either AreKept (is_in x e && commits_now s place) (Keeps (Commits s) Stops) Stops (tt, tt) tt

start_kept : (e : ℕ) (seat : Seat) → AreKept (cuts.start_course e seat)
start_kept e (Member s) = tt
start_kept e (Forming s) =
    if_either AreKept (starts_now s e) (cuts.kept_if (is_some s.saved.entries.pending) (Sits s e) Stops) Stops
    (if_either AreKept (is_some s.saved.entries.pending) (Keeps (Sits s e) Stops) (Acts (Makes (Sits s e)) Stops) (tt, tt) (tt, tt)) tt

-- but for a Collect
abbrev pub IsKeptBody : Body → Type 0
IsKeptBody (body.Collect e members) = ⊥
IsKeptBody b = IsBeside b

pub body_kept : (c : Cluster) (me : ℕ) (ends : method.Outcome) (x : UpNode) (from : ℕ) (m : Message) (b : Body) → IsKeptBody b → AreKept (cuts.body_course c me ends x from m b)
body_kept c me ends x from m (body.Heartbeat promised session member) is = if_either AreKept (awaits_start me x from session member) (writing from (body.Start (session_of x))) Stops (tt, tt) tt
body_kept c me ends x from m (body.Start e) is = start_kept e x.seat
body_kept c me ends x from m (body.Excluded e newest) is = if_either AreKept (is_in x e) (Falls (down.Panic (panic.Excluded newest))) Stops tt tt
body_kept c me ends x from m (body.Prepare e place text) is = prepare_kept x from e place text x.seat
body_kept c me ends x from m (body.Prepared e place) is =
    staid_kept (cuts.prepared_course c me x from e place) (other c me ends x from m (body.Prepared e place) tt) (prepared_staid c me x from e place) (prepared_free c me x from e place)
body_kept c me ends x from m (body.Commit e place) is = commit_kept x e place x.seat
body_kept c me ends x from m (body.Order o) is =
    proposed_kept false (cuts.order_course c me ends x from o) (other c me ends x from m (body.Order o) tt) (order_p false c me ends x from o) (order_free c me ends x from o)
body_kept c me ends x from m (body.Done e number ended) is =
    proposed_kept false (cuts.done_course c me x from e number ended) (other c me ends x from m (body.Done e number ended) tt) (done_p false c me x from e number ended) (done_free c me x from e number ended)
body_kept c me ends x from m (body.Request e number text) is =
    proposed_kept false (cuts.asked_course c me x from e number text) (other c me ends x from m (body.Request e number text) tt) (asked_p false c me x from e number text) (asked_free c me x from e number text)
body_kept c me ends x from m (body.Answer e number text) is =
    proposed_kept false (cuts.reply_course c me x e number (answer_in text)) (other c me ends x from m (body.Answer e number text) tt) (reply_p false c me x e number (answer_in text))
    (reply_free c me x e number (answer_in text))
body_kept c me ends x from m _ is = absurd is
