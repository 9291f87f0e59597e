-- What a node does with each input may be done at devices.
use Rattle.std.specs.Prelude.{ℕ, ◌≡◌, ◌≢◌, ◌<◌, ◌==◌, ◌&&◌, ◌||◌, nat_le, nat_lt, not, Bool, true, false, List, [], ◌∷◌, Option, None, Some, option_and_then, Ok, Err, if◌then◌else◌}
use Rattle.std.proofs.Common.{refl, sym, subst, inl, inr, arith}
use Rattle.std.specs.List.{AllByRecursion, find}
use Rattle.attempt_laws.proofs.Walk.{if_with}
use Rattle.cl_base.specs.Seizings.{SeizeResult}
use Rattle.cl_base.specs.Sets.{has}
use Rattle.cl_base.specs.declared.method.Outcome.{Outcome}
use Rattle.cl_base.specs.declared.seizing.SeizeEnd.TheVariants as seized
use Rattle.cmm_attempt.proofs.Basics.{and_cases, if_either, none_some, same_number, same_some}
use Rattle.cmm_attempt.specs.Attempts.{AttemptState, Turn}
use Rattle.cmm_attempt.specs.Calls.{Own_seized, Take, Tick as Call_tick, With_votes}
use Rattle.device_queue.specs.Queue.{after_answer, begins_plainly, first_of, kept_of, progress_after, progress_by, seizure_of}
use Rattle.device_queue.specs.Tasks.{answered, is_queued, is_seizing, is_seizure_of, progress_in, registers_first, result_in, seizing_progress, joining_progress, work_answered}
use Rattle.device_queue.specs.declared.progress.Progress.TheVariants.{GoesOn, Seized}
use Rattle.device_queue.specs.declared.task.Task.{Task}
use Rattle.device_queue.specs.declared.task.Work.{Work}
use Rattle.device_queue.specs.declared.task.Work.TheVariants.{Joining, Seizing}
use Rattle.node_model.specs.Attempts.{is_choosing, next_epoch, votes_in}
use Rattle.node_model.specs.Members.{hearing, is_foreign, is_strange}
use Rattle.node_model.specs.Seats.{coordinator_of, installed_of, is_in, promised_of, record_of, session_of}
use Rattle.node_model.specs.Ticks.{later, members_to_form, waiting_less}
use Rattle.node_model.specs.declared.cluster.Cluster.{Cluster}
use Rattle.node_model.specs.declared.input.Input.{Input}
use Rattle.node_model.specs.declared.input.Input.TheVariants.{Answered, Boot, Client, CommandDue, Commanded, Crash, Packet, Reported, Tick, Wrote}
use Rattle.node_model.specs.declared.node.UpNode.{UpNode}
use Rattle.refinement.specs.node_widths.Widths.{TaskFits, UpFits}
use Rattle.pgr_device.specs.declared.command.PrAnswer.TheVariants as given
use Rattle.refinement.proofs.Handlers.{delivered_by}
use Rattle.refinement.specs.Courses.{Course}
use Rattle.refinement.specs.Courses.Course.{Acts, Keeps, Stops}
use Rattle.refinement.specs.Cuts as cuts
use Rattle.refinement.specs.Cuts.{begun_course, called, course_of, first_turn, forming_course, going_course, leading_course, own_ready_course, readying_course, steps_course, writing}
use Rattle.refinement.specs.Doings.{answered_so, changed}
use Rattle.refinement.specs.Doings.Act.{Accepts, Waits}
use Rattle.refinement.specs.Doings.Change.{Distrusts, Leads}
use Rattle.refinement.specs.Ties.{Delivered}
use Rattle.seize.specs.Answers.{Answer}
use Rattle.seize.specs.Joining as joining
use Rattle.seize.specs.Seizing as seizing
use Rattle.seize.specs.declared.kind.JoinResult.{JoinResult}
use Rattle.seize.specs.declared.kind.SeizeKind.{SeizeKind}
use Rattle.seize.specs.declared.kind.SeizeKind.TheVariants.{Plain, Vote}
use Rattle.wire.specs.Spelling.{IsDevice}
use Rattle.wire.specs.declared.message.Body.{Body}
use Rattle.wire.specs.declared.message.Body.TheVariants as body
use Rattle.wire.specs.declared.message.Message.{Message}
use Rattle.run_history.specs.Guards.{AtTo, Hand, HasEnded, IsSeizeOf, request_as}
use Rattle.run_history.proofs.Asking.{first_none, steps_quiet}
use Rattle.run_history.proofs.AtCalls.{Any, called_to, going_to, joined_to, own_ready_to}
use Rattle.run_history.proofs.QuietCourses.{Quiet, client, command, governing, other, quiet_to, readying, report}

quiet : (c : Cluster) (me : ℕ) (told : Delivered) (h : Hand) (x : UpNode) (k : Course) → Quiet k → AtTo c me told Any h x k
quiet c me told h x k q = quiet_to c me told Any h x k q (λ g y. tt)

-- An attempt begins.

leading_to : (c : Cluster) (me : ℕ) (told : Delivered) (h : Hand) (x : UpNode) (p members : ℕ) → AtTo c me told Any h x (leading_course c me x p members)
leading_to c me told h x p members =
    let y : UpNode = changed c me x (Leads p members) in
    let t : Turn = first_turn c me x p members in
    if_either (AtTo c me told Any h x) (nat_lt (promised_of x) p) (Keeps (Leads p members) (begun_course c me y t)) Stops (
      tt,
      if_either (AtTo c me told Any h y) (is_choosing t.after.phase) (called c me y t.after (With_votes (votes_in c t.after))) (steps_course c me y t.steps)
          (called_to c me told h y t.after (With_votes (votes_in c t.after)) tt)
          (quiet c me told h y (steps_course c me y t.steps) (steps_quiet c me y t.steps (first_none p members _ c.attached c.id))),
    )
    tt

forming_to : (c : Cluster) (me : ℕ) (told : Delivered) (h : Hand) (x : UpNode) (o : Option ℕ) → AtTo c me told Any h x (forming_course c me x o)
forming_to c me told h x None = tt
forming_to c me told h x (Some members) = leading_to c me told h x (next_epoch me x) members

ticked_to : (c : Cluster) (me : ℕ) (told : Delivered) (h : Hand) (x : UpNode) (o : Option AttemptState) → AtTo c me told Any h x (cuts.ticked_course c me x o)
ticked_to c me told h x (Some a) = going_to c me told h x a Call_tick tt
ticked_to c me told h x None =
    let y : UpNode = waiting_less x in
    if_either (AtTo c me told Any h x) (nat_le 1 x.beats.wait) (Acts Waits Stops) (Acts Waits (forming_course c me y (members_to_form c me y))) (tt, tt)
    (tt, forming_to c me told h y (members_to_form c me y))

tick_to : (c : Cluster) (me : ℕ) (told : Delivered) (outcome : Outcome) (h : Hand) (x : UpNode) → AtTo c me told Any h x (cuts.tick_course c me outcome x)
tick_to c me told outcome h x =
    let y : UpNode = later c x in (
      tt,
      joined_to c me told Any Any h y (cuts.governing_course c me outcome x y) (λ z. cuts.ticked_course c me z z.attempt)
          (quiet c me told h y (cuts.governing_course c me outcome x y) (governing c me outcome x y)) (λ g z p. ticked_to c me told g z z.attempt),
    )

-- A request to seize.

in_session : (x : UpNode) (e : ℕ) → is_in x e ≡ true → (0 < e) × (e ≡ session_of x)
in_session x e h = two e (session_of x) h
  where
    two : (p s : ℕ) → (nat_le 1 p && (s == p)) ≡ true → (0 < p) × (p ≡ s)
    two p s h = (low p (and_cases (nat_le 1 p) (s == p) h).0, sym (same_number s p (and_cases (nat_le 1 p) (s == p) h).1))
      where
        low : (p : ℕ) → nat_le 1 p ≡ true → 0 < p
        low p h = grind arith

task_found : (f : Task → Bool) (tasks : List Task) (d : ℕ) (r : SeizeResult) (t : Task) → ((z : Task) → f z ≡ true → z.device ≡ d) → find f tasks ≡ Some t → result_in t.work ≡ Some r
    → HasEnded tasks d r
task_found f [] d r t of found is = absurd (none_some t found)
task_found f (first ∷ tasks) d r t of found is = by_test (f first) refl found (λ h. task_found f tasks d r t of h is)
  where
    by_test : (b : Bool) → f first ≡ b → (if b then Some first else find f tasks) ≡ Some t → (find f tasks ≡ Some t → HasEnded tasks d r) → HasEnded (first ∷ tasks) d r
    by_test true e some more = inl (of first e, subst (λ (z : Task). result_in z.work ≡ Some r) (sym (same_some first t some)) is)
    by_test false e other more = inr (more other)

kept_ended : (tasks : List Task) (d : ℕ) (r : SeizeResult) → kept_of tasks d ≡ Some r → HasEnded tasks d r
kept_ended tasks d r kept = by_task (seizure_of tasks d) refl kept
  where
    by_task : (o : Option Task) → seizure_of tasks d ≡ o → option_and_then (λ (t : Task). result_in t.work) o ≡ Some r → HasEnded tasks d r
    by_task None found is = absurd (none_some r is)
    by_task (Some t) found is =
        task_found (is_seizure_of d) tasks d r t (λ z e. same_number z.device d (and_cases (z.device == d) (is_seizing z.work) e).0) found is

foreign_no : (c : Cluster) (me members : ℕ) (rest : Bool) → (not (has members me) || is_strange c members || rest) ≡ false → has members me ≡ true
foreign_no c me members rest h = both (has members me) (is_strange c members) rest h
  where
    both : (a b r : Bool) → (not a || b || r) ≡ false → a ≡ true
    both true b r e = refl
    both false b r e = e2 b r e
      where
        e2 : (b r : Bool) → (true || b || r) ≡ false → false ≡ true
        e2 true r e = sym e
        e2 false r e = sym e

seizes : (kind : SeizeKind) (e members d : ℕ) → IsSeizeOf e d (request_as kind e members d)
seizes Vote e members d = (refl, refl)
seizes Plain e members d = (refl, refl)

request_to : (c : Cluster) (me : ℕ) (h : Hand) (x : UpNode) (from : ℕ) (m : Message) (kind : SeizeKind) (e members d : ℕ) (o : Option SeizeResult) → m.body ≡ request_as kind e members d
    → has members me ≡ true → is_in x e ≡ true → kept_of x.tasks d ≡ o → AtTo c me (Some (from, m)) Any h x (cuts.request_course x from kind e members d o)
request_to c me h x from m kind e members d (Some result) is member here kept = (inl ((in_session x e here).1, kept_ended x.tasks d result kept), tt)
request_to c me h x from m kind e members d None is member here kept =
    if_with (AtTo c me (Some (from, m)) Any h x) (installed_of x == e) (installed_of x == e) (writing from (body.Seized e d seized.Fault)) (Acts (Accepts kind e members d) Stops) refl
    (λ at. (inr (refl, (in_session x e here).0, sym (same_number (installed_of x) e at), subst (IsSeizeOf e d) (sym is) (seizes kind e members d)), tt))
    (λ ne. ((is, member, (in_session x e here).0, not_same (installed_of x) e ne), tt))
  where
    not_same : (a b : ℕ) → (a == b) ≡ false → a ≢ b
    not_same a b h e = grind arith

seizing_to : (c : Cluster) (me : ℕ) (h : Hand) (x : UpNode) (from : ℕ) (m : Message) (kind : SeizeKind) (e members d : ℕ) → m.body ≡ request_as kind e members d → has members me ≡ true
    → AtTo c me (Some (from, m)) Any h x (cuts.seizing_course x from kind e members d)
seizing_to c me h x from m kind e members d is member =
    if_with (AtTo c me (Some (from, m)) Any h x) (is_in x e) (is_in x e) (cuts.request_course x from kind e members d (kept_of x.tasks d)) Stops refl
    (λ here. request_to c me h x from m kind e members d (kept_of x.tasks d) is member here refl) (λ e. tt)

-- Messages.

answer_to : (c : Cluster) (me : ℕ) (told : Delivered) (h : Hand) (x : UpNode) (from : ℕ) (m : Message) (o : Option AttemptState) → AtTo c me told Any h x (cuts.answer_course c me x from m o)
answer_to c me told h x from m None = tt
answer_to c me told h x from m (Some a) = going_to c me told h x a (Take from m) tt

body_to : (c : Cluster) (me : ℕ) (outcome : Outcome) (h : Hand) (x z : UpNode) (from : ℕ) (m : Message) (b : Body) → m.body ≡ b → is_foreign c me z b ≡ false
    → AtTo c me (Some (from, m)) Any h x (cuts.body_course c me outcome x from m b)
body_to c me outcome h x z from m (body.Promise e installed members valid flagged committed pending) is known = answer_to c me (Some (from, m)) h x from m x.attempt
body_to c me outcome h x z from m (body.Nack e promised) is known = answer_to c me (Some (from, m)) h x from m x.attempt
body_to c me outcome h x z from m (body.SeizeQuorum e members d) is known = seizing_to c me h x from m Vote e members d is (foreign_no c me members _ known)
body_to c me outcome h x z from m (body.SeizeData e members d) is known = seizing_to c me h x from m Plain e members d is (foreign_no c me members _ known)
body_to c me outcome h x z from m (body.Seized e d ended) is known = answer_to c me (Some (from, m)) h x from m x.attempt
body_to c me outcome h x z from m (body.Ready e devices report_of) is known = answer_to c me (Some (from, m)) h x from m x.attempt
body_to c me outcome h x z from m (body.Heartbeat promised session member) is known = quiet c me (Some (from, m)) h x _ (other c me outcome x from m (body.Heartbeat promised session member) tt)
body_to c me outcome h x z from m (body.Collect e members) is known = quiet c me (Some (from, m)) h x _ (other c me outcome x from m (body.Collect e members) tt)
body_to c me outcome h x z from m (body.Install i) is known = quiet c me (Some (from, m)) h x _ (other c me outcome x from m (body.Install i) tt)
body_to c me outcome h x z from m (body.Start e) is known = quiet c me (Some (from, m)) h x _ (other c me outcome x from m (body.Start e) tt)
body_to c me outcome h x z from m (body.Excluded e newest) is known = quiet c me (Some (from, m)) h x _ (other c me outcome x from m (body.Excluded e newest) tt)
body_to c me outcome h x z from m (body.Prepare e place text) is known = quiet c me (Some (from, m)) h x _ (other c me outcome x from m (body.Prepare e place text) tt)
body_to c me outcome h x z from m (body.Prepared e place) is known = quiet c me (Some (from, m)) h x _ (other c me outcome x from m (body.Prepared e place) tt)
body_to c me outcome h x z from m (body.Commit e place) is known = quiet c me (Some (from, m)) h x _ (other c me outcome x from m (body.Commit e place) tt)
body_to c me outcome h x z from m (body.Order o) is known = quiet c me (Some (from, m)) h x _ (other c me outcome x from m (body.Order o) tt)
body_to c me outcome h x z from m (body.Done e number ended) is known = quiet c me (Some (from, m)) h x _ (other c me outcome x from m (body.Done e number ended) tt)
body_to c me outcome h x z from m (body.Request e number text) is known = quiet c me (Some (from, m)) h x _ (other c me outcome x from m (body.Request e number text) tt)
body_to c me outcome h x z from m (body.Answer e number text) is known = quiet c me (Some (from, m)) h x _ (other c me outcome x from m (body.Answer e number text) tt)

packet_to : (c : Cluster) (me : ℕ) (outcome : Outcome) (h : Hand) (x : UpNode) (from : ℕ) (m : Message) → AtTo c me (Some (from, m)) Any h x (cuts.packet_course c me outcome x from m)
packet_to c me outcome h x from m =
    let y : UpNode = hearing x from m.body in
    if_with (AtTo c me (Some (from, m)) Any h x) (is_foreign c me x m.body) (is_foreign c me x m.body) Stops _ refl (λ e. tt)
    (λ e. (tt, body_to c me outcome h y x from m m.body refl e))

-- Devices.

pub task_device : (c : Cluster) (me : ℕ) (f : Task → Bool) (tasks : List Task) (t : Task) → AllByRecursion (TaskFits c me) tasks → find f tasks ≡ Some t → IsDevice t.device
task_device c me f [] t fit found = absurd (none_some t found)
task_device c me f (first ∷ tasks) t fit found = by_test (f first) found (λ h. task_device c me f tasks t fit.1 h)
  where
    by_test : (b : Bool) → (if b then Some first else find f tasks) ≡ Some t → (find f tasks ≡ Some t → IsDevice t.device) → IsDevice t.device
    by_test true some more = subst (λ (z : Task). IsDevice z.device) (same_some first t some) fit.0.0
    by_test false other more = more other

begins_device : (c : Cluster) (me : ℕ) (tasks : List Task) (d : ℕ) → AllByRecursion (TaskFits c me) tasks → begins_plainly tasks ≡ Some d → IsDevice d
begins_device c me tasks d fit is = by_task (first_of tasks) refl is
  where
    by_first : (t : Task) (b : Bool) → IsDevice t.device → (if b then Some t.device else None) ≡ Some d → IsDevice d
    by_first t true device e = subst IsDevice (same_some t.device d e) device
    by_first t false device e = absurd (none_some d e)

    by_task : (o : Option Task) → first_of tasks ≡ o → option_and_then (λ (t : Task). if registers_first t.work then Some t.device else None) o ≡ Some d → IsDevice d
    by_task None found e = absurd (none_some d e)
    by_task (Some t) found e = by_first t (registers_first t.work) (task_device c me is_queued tasks t fit found) e

distrusting_to : (c : Cluster) (me : ℕ) (told : Delivered) (h : Hand) (x : UpNode) (o : Option ℕ) → begins_plainly x.tasks ≡ o → ((d : ℕ) → o ≡ Some d → IsDevice d)
    → AtTo c me told Any h x (cuts.distrusting_course x o)
distrusting_to c me told h x None is device = tt
distrusting_to c me told h x (Some d) is device =
    if_with (AtTo c me told Any h x) (has (record_of x).valid d) (has (record_of x).valid d) (Keeps (Distrusts d) Stops) Stops refl (λ e. ((device d refl, is, e), tt)) (λ e. tt)

fenced_quiet : (d : ℕ) (a : Answer) → Quiet (cuts.fenced_course d a)
fenced_quiet d (Ok given.Good) = tt
fenced_quiet d (Ok given.Conflict) = tt
fenced_quiet d (Ok given.InvalidRelease) = tt
fenced_quiet d (Ok given.NoPath) = tt
fenced_quiet d (Ok (given.Keys keys)) = tt
fenced_quiet d (Ok (given.Holder holder)) = tt
fenced_quiet d (Ok (given.Word w)) = tt
fenced_quiet d (Ok (given.Value v)) = tt
fenced_quiet d (Ok (given.Miscompare w)) = tt
fenced_quiet d (Err e) = tt

-- no answer of a device
abbrev pub IsNoAnswer : Input → Type 0
IsNoAnswer (Answered a) = ⊥
IsNoAnswer _ = Unit {0}

-- Each input, but the answer to a command.
pub step_to : (c : Cluster) (me : ℕ) (outcome : Outcome) (h : Hand) (x : UpNode) (i : Input) → IsNoAnswer i → UpFits c me x → AtTo c me (delivered_by i) Any h x (course_of c me outcome x i)
step_to c me outcome h x Boot is fit = tt
step_to c me outcome h x Crash is fit = tt
step_to c me outcome h x Tick is fit = tick_to c me None outcome h x
step_to c me outcome h x (Packet from m) is fit = packet_to c me outcome h x from m
step_to c me outcome h x CommandDue is fit = distrusting_to c me None h x (begins_plainly x.tasks) refl (λ d e. begins_device c me x.tasks d fit.all_tasks e)
step_to c me outcome h x (Answered a) is fit = absurd is
step_to c me outcome h x (Commanded words) is fit = quiet c me None h x (cuts.command_course c me x words) (command c me x words)
step_to c me outcome h x (Wrote d value a) is fit = (tt, quiet c me None h x (cuts.fenced_course d a) (fenced_quiet d a))
step_to c me outcome h x (Reported r good) is fit = quiet c me None h x (cuts.report_course c me x r good) (report c me x r good)
step_to c me outcome h x (Client name number port) is fit = quiet c me None h x (cuts.client_course c x name number port) (client c x name number port)

-- What follows the answer to a command.

goes_on_no : (d : ℕ) (r : SeizeResult) → GoesOn ≡ Seized d r → ⊥
goes_on_no d r h = cc

same_device : (d e : ℕ) (result r : SeizeResult) → Seized d result ≡ Seized e r → d ≡ e
same_device d e result r h = cc

same_result : (d e : ℕ) (result r : SeizeResult) → Seized d result ≡ Seized e r → Some result ≡ Some r
same_result d e result r h = cc

seizing_ends : (d e : ℕ) (o : Option SeizeResult) (r : SeizeResult) → seizing_progress d o ≡ Seized e r → (d ≡ e) × (o ≡ Some r)
seizing_ends d e None r h = absurd (goes_on_no e r h)
seizing_ends d e (Some result) r h = (same_device d e result r h, same_result d e result r h)

joining_no : (d e : ℕ) (o : Option JoinResult) (r : SeizeResult) → joining_progress d o ≡ Seized e r → ⊥
joining_no d e None r h = cc
joining_no d e (Some result) r h = cc

work_ends : (d e : ℕ) (w : Work) (r : SeizeResult) → progress_in d w ≡ Seized e r → (d ≡ e) × (result_in w ≡ Some r)
work_ends d e (Seizing s) r h = seizing_ends d e (seizing.result_of s) r h
work_ends d e (Joining j) r h = absurd (joining_no d e (joining.result_of j) r h)

ended_after : (tasks : List Task) (a : Answer) (d : ℕ) (r : SeizeResult) → progress_by (find is_queued tasks) a ≡ Seized d r → HasEnded (after_answer tasks a) d r
ended_after [] a d r h = absurd (goes_on_no d r h)
ended_after (t ∷ ts) a d r h = by_test (is_queued t) h (λ e. ended_after ts a d r e)
  where
    by_test : (b : Bool) → progress_by (if b then Some t else find is_queued ts) a ≡ Seized d r → (progress_by (find is_queued ts) a ≡ Seized d r → HasEnded (after_answer ts a) d r)
        → HasEnded (if b then answered a t ∷ ts else t ∷ after_answer ts a) d r
    by_test true e more = inl (work_ends t.device d (work_answered a t.work) r e)
    by_test false e more = inr (more e)

own_seized_to : (c : Cluster) (me : ℕ) (h : Hand) (x : UpNode) (d : ℕ) (r : SeizeResult) (o : Option AttemptState) → HasEnded x.tasks d r → AtTo c me None Any h x (cuts.own_seized_course c me x d r o)
own_seized_to c me h x d r None ended = tt
own_seized_to c me h x d r (Some a) ended = going_to c me None h x a (Own_seized d r) ended

seized_to : (c : Cluster) (me : ℕ) (h : Hand) (x : UpNode) (d : ℕ) (r : SeizeResult) (o : Option ℕ) → HasEnded x.tasks d r → AtTo c me None Any h x (cuts.seized_course c me x d r o)
seized_to c me h x d r None ended = tt
seized_to c me h x d r (Some k) ended =
    if_either (AtTo c me None Any h x) (k == me) (cuts.own_seized_course c me x d r x.attempt) (writing k (body.Seized (session_of x) d r))
    (own_seized_to c me h x d r x.attempt ended) (inl (refl, ended), tt)

pub joined_course_to : (c : Cluster) (me : ℕ) (h : Hand) (x : UpNode) (o : Option ℕ) → AtTo c me None Any h x (cuts.joined_course c me x o)
joined_course_to c me h x None = tt
joined_course_to c me h x (Some k) =
    if_either (AtTo c me None Any h x) (k == me) (own_ready_course c me x) (readying_course c x k) (own_ready_to c me None h x) (quiet c me None h x (readying_course c x k) (readying c x k))

pub seized_here_to : (c : Cluster) (me : ℕ) (h : Hand) (x : UpNode) (a : Answer) (d : ℕ) (r : SeizeResult) → progress_after x.tasks a ≡ Seized d r
    → AtTo c me None Any h (answered_so x a) (cuts.seized_course c me (answered_so x a) d r (coordinator_of (answered_so x a)))
seized_here_to c me h x a d r is = seized_to c me h (answered_so x a) d r (coordinator_of (answered_so x a)) (ended_after x.tasks a d r is)
