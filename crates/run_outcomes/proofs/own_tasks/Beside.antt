-- What a node does beside its attempt and its tasks leaves both, or ends its attempt.
use Rattle.std.specs.Prelude.{ℕ, ◌&&◌, nat_lt, Bool, true, false, List, length, Option, None, Some, is_some}
use Rattle.answer_words.specs.Answers.{answer_in}
use Rattle.ccr_commit.specs.Entries.{answer_for, texts_of}
use Rattle.ccr_commit.specs.declared.entries.Prepared.{Prepared}
use Rattle.ccr_commit.specs.declared.entries.Prepared.TheVariants.{Already, Gap, Taken}
use Rattle.cl_base.specs.declared.method.Outcome as method
use Rattle.cl_base.specs.declared.panic.Panic.TheVariants as panic
use Rattle.cmm_attempt.proofs.Basics.{if_either}
use Rattle.cmm_attempt.specs.Attempts.{AttemptState}
use Rattle.cmm_member.specs.Nodes.{NodeState}
use Rattle.node_model.specs.Attempts.{promise_of, starts_now}
use Rattle.node_model.specs.Members.{awaits_start, promised_so, rested_by}
use Rattle.node_model.specs.Presidents.{with_proposals}
use Rattle.node_model.specs.Seats.{is_in, promised_of, promising, session_of}
use Rattle.node_model.specs.Updates.{commits_now, is_of_member}
use Rattle.node_model.specs.declared.cluster.Cluster.{Cluster}
use Rattle.node_model.specs.declared.node.UpNode.{UpNode}
use Rattle.node_model.specs.declared.presidency.Presidency.{Presidency}
use Rattle.node_model.specs.declared.seat.Seat.{Seat}
use Rattle.node_model.specs.declared.seat.Seat.TheVariants.{Forming, Member}
use Rattle.proposals.specs.Proposing.{is_prepared, prepared_by}
use Rattle.refinement.specs.Courses.{Course, joined}
use Rattle.refinement.specs.Courses.Course.{Acts, Falls, Keeps, Stops}
use Rattle.refinement.specs.Cuts as cuts
use Rattle.refinement.specs.Cuts.{acknowledging_course, handling_course, writing}
use Rattle.refinement.specs.Doings.{Act, Change, acted, changed}
use Rattle.refinement.specs.Doings.Act.{Accepts, Ends, Goes_on, Makes, Queues, Takes}
use Rattle.refinement.specs.Doings.Change.{Acks, Admits, Commits, Counts, Installs, Leads, Promises, Proposes, Sits, Starts}
use Rattle.status_report.specs.declared.node_entry.DownCause.TheVariants as down
use Rattle.wire.specs.declared.message.Body.{Body}
use Rattle.wire.specs.declared.message.Body.TheVariants as body
use Rattle.wire.specs.declared.message.Message.{Message}
use Rattle.run_attempts.proofs.Staid.{acknowledging_staid, governing_staid, handling_staid}
use Rattle.run_attempts.specs.Steps.{IsStaid, StaidChange}
use Rattle.run_downs.proofs.Proposing.{SavesProposed, asked_p, command_p, done_p, order_p, reply_p, report_p}
use Rattle.run_history.proofs.QuietCourses.{IsOther, Quiet, QuietAct, command, governing, other, report}
use Rattle.run_history.specs.Guards.{MadeAt}
use Rattle.run_outcomes.specs.saves.Courses.{LeadsTo}
use Rattle.run_outcomes.specs.tasks.Own.{Owned}

-- ---- small steps that leave the attempt and the tasks, or end the attempt

abbrev pub LeftChange : Change → Type 0
LeftChange (Leads p members) = ⊥
LeftChange (Counts a k s i) = ⊥
LeftChange (Installs s i) = ⊥
LeftChange (Admits at command a d) = ⊥
LeftChange _ = Unit {0}

abbrev pub LeftAct : Act → Type 0
LeftAct (Goes_on a k) = ⊥
LeftAct (Queues a d kind) = ⊥
LeftAct (Accepts kind e members d) = ⊥
LeftAct (Takes at command a) = ⊥
LeftAct (Makes change) = LeftChange change
LeftAct _ = Unit {0}

abbrev pub AreLeft : Course → Type 0
AreLeft Stops = Unit {0}
AreLeft (Acts a rest) = LeftAct a × AreLeft rest
AreLeft (Keeps change rest) = LeftChange change × AreLeft rest
AreLeft (Falls why) = Unit {0}

promised_owned : (me p : ℕ) (x : UpNode) (o : Option AttemptState) → Owned me (rested_by (promising x p) o)
promised_owned me p x None = tt
promised_owned me p x (Some a) = tt

change_owned : (c : Cluster) (me : ℕ) (x : UpNode) (change : Change) → LeftChange change → Owned me x → Owned me (changed c me x change)
change_owned c me x (Promises p) left h = promised_owned me p x x.attempt
change_owned c me x (Starts a k s) left h = tt
change_owned c me x (Leads p members) left h = absurd left
change_owned c me x (Counts a k s i) left h = absurd left
change_owned c me x (Installs s i) left h = absurd left
change_owned c me x (Admits at command a d) left h = absurd left
change_owned c me x _ left h = h

act_owned : (c : Cluster) (me : ℕ) (x : UpNode) (a : Act) → LeftAct a → Owned me x → Owned me (acted c me x a)
act_owned c me x (Goes_on a k) left h = absurd left
act_owned c me x (Queues a d kind) left h = absurd left
act_owned c me x (Accepts kind e members d) left h = absurd left
act_owned c me x (Takes at command a) left h = absurd left
act_owned c me x (Ends a e) left h = tt
act_owned c me x (Makes change) left h = change_owned c me x change left h
act_owned c me x _ left h = h

pub left_owned : (c : Cluster) (me : ℕ) (x : UpNode) (k : Course) → AreLeft k → Owned me x → LeadsTo c me (Owned me) x k
left_owned c me x Stops left h = h
left_owned c me x (Acts a rest) left h = left_owned c me (acted c me x a) rest left.1 (act_owned c me x a left.0 h)
left_owned c me x (Keeps change rest) left h = left_owned c me (changed c me x change) rest left.1 (change_owned c me x change left.0 h)
left_owned c me x (Falls why) left h = tt

-- ---- which are so

made_left : (change : Change) → MadeAt change → LeftChange change
made_left (Starts a k s) h = tt
made_left (Sits s e) h = tt
made_left _ h = absurd h

quiet_left : (a : Act) → QuietAct a → LeftAct a
quiet_left (Goes_on a k) h = absurd h
quiet_left (Queues a d kind) h = absurd h
quiet_left (Accepts kind e members d) h = absurd h
quiet_left (Takes at command a) h = absurd h
quiet_left (Makes change) h = made_left change h
quiet_left _ h = tt

staid_change : (change : Change) → StaidChange change → LeftChange change
staid_change (Proposes s p text) h = tt
staid_change (Acks s p q left text) h = tt
staid_change _ h = absurd h

pub staid_left : (k : Course) → Quiet k → IsStaid k → AreLeft k
staid_left Stops quiet h = tt
staid_left (Acts a rest) quiet h = (quiet_left a quiet.0, staid_left rest quiet.1 h.1)
staid_left (Keeps change rest) quiet h = (staid_change change h.0, staid_left rest quiet.1 h.1)
staid_left (Falls why) quiet h = tt

pub proposed_left : (t : Bool) (k : Course) → Quiet k → SavesProposed t k → AreLeft k
proposed_left t Stops quiet h = tt
proposed_left t (Acts a rest) quiet h = (quiet_left a quiet.0, proposed_left t rest quiet.1 h.1)
proposed_left t (Keeps (Proposes s p text) rest) quiet h = (tt, proposed_left true rest quiet.1 h)
proposed_left t (Keeps (Acks s p q left text) rest) quiet h = (tt, proposed_left t rest quiet.1 h.1)
proposed_left t (Keeps _ rest) quiet h = absurd h
proposed_left t (Falls why) quiet h = tt

pub governing_left : (c : Cluster) (me : ℕ) (ends : method.Outcome) (before x : UpNode) → AreLeft (cuts.governing_course c me ends before x)
governing_left c me ends before x = staid_left (cuts.governing_course c me ends before x) (governing c me ends before x) (governing_staid c me ends before x)

pub command_left : (c : Cluster) (me : ℕ) (x : UpNode) (words : List ℕ) → AreLeft (cuts.command_course c me x words)
command_left c me x words = proposed_left false (cuts.command_course c me x words) (command c me x words) (command_p false c me x words)

pub report_left : (c : Cluster) (me : ℕ) (x : UpNode) (r : List ℕ) (good : Bool) → AreLeft (cuts.report_course c me x r good)
report_left c me x r good = proposed_left false (cuts.report_course c me x r good) (report c me x r good) (report_p false c me x r good)

-- ---- each message but those of attempts, requests to seize, and an Install

then_staid : (c : Cluster) (me : ℕ) (x : UpNode) (k : Course) (next : UpNode → Course) → IsStaid k → ((y : UpNode) → IsStaid (next y)) → IsStaid (joined c me x k next)
then_staid c me x Stops next h f = f x
then_staid c me x (Acts a rest) next h f = (h.0, then_staid c me (acted c me x a) rest next h.1 f)
then_staid c me x (Keeps change rest) next h f = (h.0, then_staid c me (changed c me x change) rest next h.1 f)
then_staid c me x (Falls why) next h f = tt

prepared_at_staid : (c : Cluster) (me : ℕ) (x : UpNode) (from place : ℕ) (o : Option Presidency) → IsStaid (cuts.prepared_at_course c me x from place o)
prepared_at_staid c me x from place None = tt
prepared_at_staid c me x from place (Some p) =
    let y : UpNode = with_proposals x p (prepared_by p.proposals from place) in (
      tt,
      if_either IsStaid (is_prepared (prepared_by p.proposals from place)) (joined c me y (acknowledging_course c me y) (handling_course c me)) Stops
          (then_staid c me y (acknowledging_course c me y) (handling_course c me) (acknowledging_staid c me y) (λ z. handling_staid c me z)) tt,
    )

pub prepared_staid : (c : Cluster) (me : ℕ) (x : UpNode) (from e place : ℕ) → IsStaid (cuts.prepared_course c me x from e place)
prepared_staid c me x from e place = if_either IsStaid (is_of_member x from e) (cuts.prepared_at_course c me x from place x.presidency) Stops (prepared_at_staid c me x from place x.presidency) tt

preparing_left : (from e place : ℕ) (s : NodeState) (text : List ℕ) (r : Prepared) → AreLeft (cuts.preparing_course from e place s text r)
preparing_left from e place s text Taken = (tt, (tt, tt))
preparing_left from e place s text Already = (tt, tt)
preparing_left from e place s text (Gap k) = tt

prepare_left : (x : UpNode) (from e place : ℕ) (text : List ℕ) (seat : Seat) → AreLeft (cuts.prepare_course x from e place text seat)
prepare_left x from e place text (Forming s) = tt
prepare_left x from e place text (Member s) =
    let r : Prepared = answer_for (length (texts_of s.saved.entries)) place in
    if_either AreLeft (is_in x e) (cuts.preparing_course from e place s text r) Stops (preparing_left from e place s text r) tt

commit_left : (x : UpNode) (e place : ℕ) (seat : Seat) → AreLeft (cuts.commit_course x e place seat)
commit_left x e place (Forming s) = tt
commit_left x e place (Member s) = if_either AreLeft (is_in x e && commits_now s place) (Keeps (Commits s) Stops) Stops (tt, tt) tt

start_left : (e : ℕ) (seat : Seat) → AreLeft (cuts.start_course e seat)
start_left e (Member s) = tt
start_left e (Forming s) =
    if_either AreLeft (starts_now s e) (cuts.kept_if (is_some s.saved.entries.pending) (Sits s e) Stops) Stops
    (if_either AreLeft (is_some s.saved.entries.pending) (Keeps (Sits s e) Stops) (Acts (Makes (Sits s e)) Stops) (tt, tt) (tt, tt)) tt

abbrev pub IsBeside : Body → Type 0
IsBeside (body.Install i) = ⊥
IsBeside b = IsOther b

pub beside_left : (c : Cluster) (me : ℕ) (ends : method.Outcome) (x : UpNode) (from : ℕ) (m : Message) (b : Body) → IsBeside b → AreLeft (cuts.body_course c me ends x from m b)
beside_left c me ends x from m (body.Heartbeat promised session member) is = if_either AreLeft (awaits_start me x from session member) (writing from (body.Start (session_of x))) Stops (tt, tt) tt
beside_left c me ends x from m (body.Collect p members) is =
    if_either AreLeft (nat_lt (promised_of x) p) (Keeps (Promises p) (writing from (promise_of (promised_so x p) p))) _ (tt, (tt, tt))
    (if_either AreLeft (is_in x p) (writing from (promise_of x p)) (writing from (body.Nack p (promised_of x))) (tt, tt) (tt, tt))
beside_left c me ends x from m (body.Start e) is = start_left e x.seat
beside_left c me ends x from m (body.Excluded e newest) is = if_either AreLeft (is_in x e) (Falls (down.Panic (panic.Excluded newest))) Stops tt tt
beside_left c me ends x from m (body.Prepare e place text) is = prepare_left x from e place text x.seat
beside_left c me ends x from m (body.Prepared e place) is = staid_left (cuts.prepared_course c me x from e place) (other c me ends x from m (body.Prepared e place) tt) (prepared_staid c me x from e place)
beside_left c me ends x from m (body.Commit e place) is = commit_left x e place x.seat
beside_left c me ends x from m (body.Order o) is = proposed_left false (cuts.order_course c me ends x from o) (other c me ends x from m (body.Order o) tt) (order_p false c me ends x from o)
beside_left c me ends x from m (body.Done e number ended) is = proposed_left false (cuts.done_course c me x from e number ended) (other c me ends x from m (body.Done e number ended) tt) (done_p false c me x from e number ended)
beside_left c me ends x from m (body.Request e number text) is = proposed_left false (cuts.asked_course c me x from e number text) (other c me ends x from m (body.Request e number text) tt) (asked_p false c me x from e number text)
beside_left c me ends x from m (body.Answer e number text) is =
    proposed_left false (cuts.reply_course c me x e number (answer_in text)) (other c me ends x from m (body.Answer e number text) tt) (reply_p false c me x e number (answer_in text))
beside_left c me ends x from m _ is = absurd is
