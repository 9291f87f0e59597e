-- A node says that it is ready, and its attempt takes its own part as done, only where it has nothing left to join.
use Rattle.std.specs.Prelude.{ℕ, ◌≡◌, ◌==◌, nat_le, nat_lt, Bool, true, false, List, [], ◌∷◌, Option, None, Some, is_some, if◌then◌else◌}
use Rattle.std.specs.List.{AllByRecursion}
use Rattle.std.proofs.Common.{refl}
use Rattle.attempt_laws.proofs.Walk.{if_with}
use Rattle.cl_base.specs.Seizings.{SeizeResult}
use Rattle.cl_base.specs.declared.method.Outcome.{Outcome}
use Rattle.cmm_attempt.specs.Attempts.{AttemptState, Turn}
use Rattle.cmm_attempt.specs.Calls.{Call, Own_ready, Own_seized, Take, Tick as Call_tick, With_votes, starts_in, turn}
use Rattle.cmm_attempt.specs.declared.step.Step.{Step}
use Rattle.cmm_attempt.specs.declared.step.Step.TheVariants as step
use Rattle.device_queue.specs.Queue.{begins_plainly, due_device, joins, next_of, progress_after}
use Rattle.device_queue.specs.declared.progress.Progress.{Progress}
use Rattle.device_queue.specs.declared.progress.Progress.TheVariants.{GoesOn, Joined, Seized}
use Rattle.node_model.specs.Attempts.{begins_install, installs_now, is_choosing, next_epoch, starts_now, votes_in}
use Rattle.node_model.specs.Devices.{joining_so}
use Rattle.node_model.specs.Members.{hearing, is_foreign}
use Rattle.node_model.specs.Seats.{coordinator_of, is_in, promised_of}
use Rattle.node_model.specs.Steps.{at_second}
use Rattle.node_model.specs.Ticks.{later, members_to_form, waiting_less}
use Rattle.node_model.specs.declared.cluster.Cluster.{Cluster}
use Rattle.node_model.specs.declared.input.Input.{Input}
use Rattle.node_model.specs.declared.input.Input.TheVariants.{Answered, Boot, Client, CommandDue, Commanded, Crash, Packet, Reported, Tick, Wrote}
use Rattle.node_model.specs.declared.node.Node.{Node}
use Rattle.node_model.specs.declared.node.Node.TheVariants.{Down, Up}
use Rattle.node_model.specs.declared.node.UpNode.{UpNode}
use Rattle.node_model.specs.declared.seat.Seat.{Seat}
use Rattle.node_model.specs.declared.seat.Seat.TheVariants.{Forming, Member}
use Rattle.answer_words.specs.Answers.{answer_in}
use Rattle.cmm_member.specs.Records.{NodeRecord}
use Rattle.pgr_device.specs.declared.command.PrCommand.{PrCommand}
use Rattle.refinement.proofs.Fits.{AllFit, AllSent, AllStart, FitsBody, FitsTurn, StartsBody, first_fits, turn_fits}
use Rattle.refinement.specs.Courses.{Course, Reply, joined, under}
use Rattle.refinement.specs.Courses.Course.{Acts, Falls, Keeps, Stops}
use Rattle.refinement.specs.Courses.Reply.{Done, Lost_new, Lost_old}
use Rattle.refinement.specs.Cuts as cuts
use Rattle.refinement.specs.Cuts.{first_turn}
use Rattle.refinement.specs.Doings.{Act, Change, acted, answered_so, changed, going, site}
use Rattle.refinement.specs.Doings.Act.{Goes_on, Makes, Spreads, Waits, Writes}
use Rattle.refinement.specs.Doings.Change.{Counts, Installs, Leads, Starts}
use Rattle.seize.specs.Answers.{Answer}
use Rattle.seize.specs.declared.kind.JoinResult.{JoinResult}
use Rattle.seize.specs.declared.kind.JoinResult.TheVariants as join
use Rattle.seize.specs.declared.kind.SeizeKind.TheVariants.{Plain, Vote}
use Rattle.wire.specs.declared.message.Body.{Body}
use Rattle.wire.specs.declared.message.Body.TheVariants as body
use Rattle.wire.specs.declared.message.Install.{Install}
use Rattle.wire.specs.declared.message.Message.{Message}
use Rattle.run_lines.specs.writes.Ready.{ActNone, ActReady, AllReady, BodyNone, BodyReady, CallNone, CallReady, ChangeNone, ChangeReady, GoesReady, NoReady}
use Rattle.run_lines.proofs.writes.NoReady.{asked_none, client_none, collect_none, command_none, commit_none, deciding_none, distrusting_none, done_none, ended_none, fenced_none, governing_none, heartbeat_none, notice_none, order_none, prepare_none, prepared_none, queued_none, reply_none, report_none, seizing_none, start_none}

-- ---- what says nothing of it

body_ready : (x : UpNode) (b : Body) → BodyNone b → BodyReady x b
body_ready x (body.Ready e devices report) h = absurd h
body_ready x _ h = tt

call_ready : (x : UpNode) (k : Call) → CallNone k → CallReady x k
call_ready x Own_ready h = absurd h
call_ready x _ h = tt

change_ready : (x : UpNode) (change : Change) → ChangeNone change → ChangeReady x change
change_ready x (Counts a k s i) h = call_ready x k h
change_ready x (Starts a k s) h = call_ready x k h
change_ready x _ h = tt

act_ready : (x : UpNode) (a : Act) → ActNone a → ActReady x a
act_ready x (Goes_on a k) h = call_ready x k h
act_ready x (Writes to b) h = body_ready x b h
act_ready x (Spreads receivers b) h = body_ready x b h
act_ready x (Makes change) h = change_ready x change h
act_ready x _ h = tt

none_ready : (c : Cluster) (me : ℕ) (x : UpNode) (k : Course) → NoReady k → GoesReady c me x k
none_ready c me x Stops h = tt
none_ready c me x (Acts a rest) h = (act_ready x a h.0, none_ready c me (acted c me x a) rest h.1)
none_ready c me x (Keeps change rest) h = (change_ready x change h.0, none_ready c me (changed c me x change) rest h.1)
none_ready c me x (Falls why) h = tt

either_ready : (c : Cluster) (me : ℕ) (x : UpNode) (b : Bool) (k l : Course) → GoesReady c me x k → GoesReady c me x l → GoesReady c me x (if b then k else l)
either_ready c me x true k l h i = h
either_ready c me x false k l h i = i

then_ready : (c : Cluster) (me : ℕ) (x : UpNode) (k : Course) (next : UpNode → Course) → GoesReady c me x k → ((y : UpNode) → GoesReady c me y (next y)) → GoesReady c me x (joined c me x k next)
then_ready c me x Stops next h i = i x
then_ready c me x (Acts a rest) next h i = (h.0, then_ready c me (acted c me x a) rest next h.1 i)
then_ready c me x (Keeps change rest) next h i = (h.0, then_ready c me (changed c me x change) rest next h.1 i)
then_ready c me x (Falls why) next h i = tt

-- ---- the steps of an attempt

abbrev StepNone : Step → Type 0
StepNone (step.Send to m) = BodyNone m.body
StepNone s = Unit {0}

abbrev NoneSay : List Step → Type 0
NoneSay steps = AllByRecursion StepNone steps

fits_none : (t : AttemptState) (b : Body) → FitsBody t b → BodyNone b
fits_none t (body.Ready e devices report) h = h
fits_none t _ h = tt

starts_none : (p : ℕ) (b : Body) → StartsBody p b → BodyNone b
starts_none p (body.Ready e devices report) h = h
starts_none p _ h = tt

all_fit_none : (t : AttemptState) (steps : List Step) → AllFit t steps → NoneSay steps
all_fit_none t [] h = tt
all_fit_none t (step.Send to m ∷ steps) h = (fits_none t m.body h.0, all_fit_none t steps h.2)
all_fit_none t (step.SeizeHere d kind ∷ steps) h = (tt, all_fit_none t steps h.2)
all_fit_none t (step.NeedVotes n ∷ steps) h = (tt, all_fit_none t steps h.2)
all_fit_none t (step.InstallHere i ∷ steps) h = absurd h.0
all_fit_none t (step.StartHere ∷ steps) h = absurd h.0
all_fit_none t (step.Ended e ∷ steps) h = (tt, all_fit_none t steps h.2)

all_start_none : (p : ℕ) (steps : List Step) → AllStart p steps → NoneSay steps
all_start_none p [] h = tt
all_start_none p (step.Send to m ∷ steps) h = (starts_none p m.body h.0, all_start_none p steps h.1)
all_start_none p (step.SeizeHere d kind ∷ steps) h = absurd h.0
all_start_none p (step.NeedVotes n ∷ steps) h = absurd h.0
all_start_none p (step.InstallHere i ∷ steps) h = absurd h.0
all_start_none p (step.StartHere ∷ steps) h = absurd h.0
all_start_none p (step.Ended e ∷ steps) h = absurd h.0

all_sent_none : (t : AttemptState) (steps : List Step) → AllSent t steps → NoneSay steps
all_sent_none t [] h = tt
all_sent_none t (step.Send to m ∷ steps) h = (fits_none t m.body h.0, all_sent_none t steps h.1)
all_sent_none t (step.SeizeHere d kind ∷ steps) h = absurd h
all_sent_none t (step.NeedVotes n ∷ steps) h = absurd h
all_sent_none t (step.InstallHere i ∷ steps) h = absurd h
all_sent_none t (step.StartHere ∷ steps) h = absurd h
all_sent_none t (step.Ended e ∷ steps) h = absurd h

turn_none : (t : AttemptState) (steps : List Step) → FitsTurn t steps → NoneSay steps
turn_none t [] h = tt
turn_none t (step.StartHere ∷ rest) h = (tt, all_start_none t.plan.epoch rest h)
turn_none t (step.InstallHere i ∷ rest) h = (tt, all_sent_none t rest h)
turn_none t (step.Send to m ∷ rest) h = all_fit_none t (step.Send to m ∷ rest) h
turn_none t (step.SeizeHere d kind ∷ rest) h = all_fit_none t (step.SeizeHere d kind ∷ rest) h
turn_none t (step.NeedVotes n ∷ rest) h = all_fit_none t (step.NeedVotes n ∷ rest) h
turn_none t (step.Ended e ∷ rest) h = all_fit_none t (step.Ended e ∷ rest) h

step_ready : (c : Cluster) (me : ℕ) (x : UpNode) (s : Step) → StepNone s → GoesReady c me x (cuts.step_course me x s)
step_ready c me x (step.Send to m) h = (body_ready x m.body h, tt)
step_ready c me x (step.SeizeHere d kind) h = none_ready c me x (cuts.queued_course d kind x.attempt) (queued_none d kind x.attempt)
step_ready c me x (step.NeedVotes n) h = tt
step_ready c me x (step.InstallHere i) h = tt
step_ready c me x step.StartHere h = tt
step_ready c me x (step.Ended e) h = none_ready c me x (cuts.ended_course me e x.attempt) (ended_none me e x.attempt)

steps_ready : (c : Cluster) (me : ℕ) (x : UpNode) (steps : List Step) → NoneSay steps → GoesReady c me x (cuts.steps_course c me x steps)
steps_ready c me x [] h = tt
steps_ready c me x (s ∷ steps) h = then_ready c me x (cuts.step_course me x s) (λ y. cuts.steps_course c me y steps) (step_ready c me x s h.0) (λ y. steps_ready c me y steps h.1)

-- ---- an attempt takes a call

kept_if_ready : (c : Cluster) (me : ℕ) (x : UpNode) (keeps : Bool) (change : Change) (rest : Course) → ChangeReady x change → GoesReady c me (changed c me x change) rest
    → GoesReady c me x (cuts.kept_if keeps change rest)
kept_if_ready c me x true change rest h k = (h, k)
kept_if_ready c me x false change rest h k = (h, k)

gone_on_ready : (c : Cluster) (me : ℕ) (x : UpNode) (a : AttemptState) (k : Call) (steps : List Step) → CallReady x k → NoneSay steps → GoesReady c me x (cuts.gone_on c me x a k steps)
gone_on_ready c me x a k steps h none = (h, steps_ready c me (going x a k) steps none)

counted_ready : (c : Cluster) (me : ℕ) (x : UpNode) (a : AttemptState) (k : Call) (i : Install) (rest : List Step) (seat : Seat) → CallReady x k → NoneSay rest → GoesReady c me x (cuts.counted c me x a k i rest seat)
counted_ready c me x a k i rest (Member s) h none = gone_on_ready c me x a k rest h none
counted_ready c me x a k i rest (Forming s) h none =
    either_ready c me x (installs_now s i) (Keeps (Counts a k s i) (cuts.steps_course c me (changed c me x (Counts a k s i)) rest)) (cuts.gone_on c me x a k rest)
    (h, steps_ready c me (changed c me x (Counts a k s i)) rest none) (gone_on_ready c me x a k rest h none)

started_ready : (c : Cluster) (me : ℕ) (x : UpNode) (a : AttemptState) (k : Call) (rest : List Step) (seat : Seat) → CallReady x k → NoneSay rest → GoesReady c me x (cuts.started c me x a k rest seat)
started_ready c me x a k rest (Member s) h none = gone_on_ready c me x a k rest h none
started_ready c me x a k rest (Forming s) h none =
    let more : Course = cuts.steps_course c me (changed c me x (Starts a k s)) rest in
    either_ready c me x (starts_now s (turn a k).after.plan.epoch) (cuts.kept_if (is_some s.saved.entries.pending) (Starts a k s) more) (cuts.gone_on c me x a k rest)
    (kept_if_ready c me x (is_some s.saved.entries.pending) (Starts a k s) more h (steps_ready c me (changed c me x (Starts a k s)) rest none)) (gone_on_ready c me x a k rest h none)

turned_by_ready : (c : Cluster) (me : ℕ) (x : UpNode) (a : AttemptState) (k : Call) (steps : List Step) → CallReady x k → NoneSay steps → GoesReady c me x (cuts.turned_by c me x a k steps)
turned_by_ready c me x a k [] h none = gone_on_ready c me x a k [] h none
turned_by_ready c me x a k (step.InstallHere i ∷ rest) h none = counted_ready c me x a k i rest x.seat h none.1
turned_by_ready c me x a k (step.StartHere ∷ rest) h none = started_ready c me x a k rest x.seat h none.1
turned_by_ready c me x a k (step.Send to m ∷ rest) h none = gone_on_ready c me x a k (step.Send to m ∷ rest) h none
turned_by_ready c me x a k (step.SeizeHere d kind ∷ rest) h none = gone_on_ready c me x a k (step.SeizeHere d kind ∷ rest) h none
turned_by_ready c me x a k (step.NeedVotes n ∷ rest) h none = gone_on_ready c me x a k (step.NeedVotes n ∷ rest) h none
turned_by_ready c me x a k (step.Ended e ∷ rest) h none = gone_on_ready c me x a k (step.Ended e ∷ rest) h none

if_started_ready : (c : Cluster) (me : ℕ) (steps : List Step) (y : UpNode) → GoesReady c me y (cuts.if_started c me steps y)
if_started_ready c me steps y = either_ready c me y (starts_in steps) (cuts.deciding_course c me y) Stops (none_ready c me y (cuts.deciding_course c me y) (deciding_none c me y)) tt

turned_all_ready : (c : Cluster) (me : ℕ) (x : UpNode) (a : AttemptState) (k : Call) → CallReady x k → GoesReady c me x (cuts.turned_all c me x a k)
turned_all_ready c me x a k h =
    then_ready c me x (cuts.turned c me x a k) (cuts.if_started c me (turn a k).steps)
    (turned_by_ready c me x a k (turn a k).steps h (turn_none (turn a k).after (turn a k).steps (turn_fits a k))) (λ y. if_started_ready c me (turn a k).steps y)

readied_ready : (c : Cluster) (me : ℕ) (x : UpNode) (o : Option AttemptState) → joins x.tasks ≡ false → GoesReady c me x (cuts.readied_course c me x o)
readied_ready c me x None h = tt
readied_ready c me x (Some a) h = turned_all_ready c me x a Own_ready h

own_ready_ready : (c : Cluster) (me : ℕ) (x : UpNode) → GoesReady c me x (cuts.own_ready_course c me x)
own_ready_ready c me x = if_with (GoesReady c me x) (joins x.tasks) (joins x.tasks) Stops (cuts.readied_course c me x x.attempt) refl (λ is. tt) (λ none. readied_ready c me x x.attempt none)

if_installed_ready : (c : Cluster) (me : ℕ) (steps : List Step) (y : UpNode) → GoesReady c me y (cuts.if_installed c me steps y)
if_installed_ready c me steps y = either_ready c me y (begins_install steps) (cuts.own_ready_course c me y) Stops (own_ready_ready c me y) tt

called_ready : (c : Cluster) (me : ℕ) (x : UpNode) (a : AttemptState) (k : Call) → CallReady x k → GoesReady c me x (cuts.called c me x a k)
called_ready c me x a k h = then_ready c me x (cuts.turned_all c me x a k) (cuts.if_installed c me (turn a k).steps) (turned_all_ready c me x a k h) (λ y. if_installed_ready c me (turn a k).steps y)

going_ready : (c : Cluster) (me : ℕ) (x : UpNode) (a : AttemptState) (k : Call) → CallReady x k → GoesReady c me x (cuts.going_course c me x a k)
going_ready c me x a k h =
    let votes : Call = With_votes (votes_in c (turn a k).after) in
    either_ready c me x (is_choosing (turn a k).after.phase) (Acts (Goes_on a k) (cuts.called c me (going x a k) (turn a k).after votes)) (cuts.called c me x a k)
    (h, called_ready c me (going x a k) (turn a k).after votes tt) (called_ready c me x a k h)

leading_ready : (c : Cluster) (me : ℕ) (x : UpNode) (p members : ℕ) → GoesReady c me x (cuts.leading_course c me x p members)
leading_ready c me x p members =
    let y : UpNode = changed c me x (Leads p members) in
    let t : Turn = first_turn c me x p members in
    let votes : Call = With_votes (votes_in c t.after) in
    either_ready c me x (nat_lt (promised_of x) p) (Keeps (Leads p members) (cuts.begun_course c me y t)) Stops (
      tt,
      either_ready c me y (is_choosing t.after.phase) (cuts.called c me y t.after votes) (cuts.steps_course c me y t.steps) (called_ready c me y t.after votes tt)
          (steps_ready c me y t.steps (all_fit_none t.after t.steps (first_fits p members _ c.attached c.id))),
    ) tt

forming_ready : (c : Cluster) (me : ℕ) (x : UpNode) (o : Option ℕ) → GoesReady c me x (cuts.forming_course c me x o)
forming_ready c me x None = tt
forming_ready c me x (Some members) = leading_ready c me x (next_epoch me x) members

ticked_ready : (c : Cluster) (me : ℕ) (x : UpNode) (o : Option AttemptState) → GoesReady c me x (cuts.ticked_course c me x o)
ticked_ready c me x (Some a) = going_ready c me x a Call_tick tt
ticked_ready c me x None =
    let y : UpNode = waiting_less x in
    either_ready c me x (nat_le 1 x.beats.wait) (Acts Waits Stops) (Acts Waits (cuts.forming_course c me y (members_to_form c me y))) (tt, tt)
    (tt, forming_ready c me y (members_to_form c me y))

tick_ready : (c : Cluster) (me : ℕ) (outcome : Outcome) (x : UpNode) → GoesReady c me x (cuts.tick_course c me outcome x)
tick_ready c me outcome x =
    let y : UpNode = later c x in (
      tt,
      then_ready c me y (cuts.governing_course c me outcome x y) (λ z. cuts.ticked_course c me z z.attempt)
          (none_ready c me y (cuts.governing_course c me outcome x y) (governing_none c me outcome x y)) (λ z. ticked_ready c me z z.attempt),
    )

-- ---- messages

readying_ready : (c : Cluster) (me : ℕ) (x : UpNode) (to : ℕ) → GoesReady c me x (cuts.readying_course c x to)
readying_ready c me x to = if_with (GoesReady c me x) (joins x.tasks) (joins x.tasks) Stops _ refl (λ is. tt) (λ none. (none, tt))

installed_ready : (c : Cluster) (me : ℕ) (x : UpNode) (from : ℕ) (i : Install) (seat : Seat) → GoesReady c me x (cuts.installed_course c me x from i seat)
installed_ready c me x from i (Member s) = readying_ready c me x from
installed_ready c me x from i (Forming s) =
    let y : UpNode = changed c me x (Installs s i) in
    either_ready c me x (s.saved.installed == i.epoch) (cuts.readying_course c x from) (Keeps (Installs s i) (cuts.readying_course c y from)) (readying_ready c me x from)
    (tt, readying_ready c me y from)

install_ready : (c : Cluster) (me : ℕ) (x : UpNode) (from : ℕ) (i : Install) → GoesReady c me x (cuts.install_course c me x from i)
install_ready c me x from i = either_ready c me x (is_in x i.epoch) (cuts.installed_course c me x from i x.seat) _ (installed_ready c me x from i x.seat) (tt, tt)

answer_ready : (c : Cluster) (me : ℕ) (x : UpNode) (from : ℕ) (m : Message) (o : Option AttemptState) → GoesReady c me x (cuts.answer_course c me x from m o)
answer_ready c me x from m None = tt
answer_ready c me x from m (Some a) = going_ready c me x a (Take from m) tt

body_goes : (c : Cluster) (me : ℕ) (outcome : Outcome) (x : UpNode) (from : ℕ) (m : Message) (b : Body) → GoesReady c me x (cuts.body_course c me outcome x from m b)
body_goes c me outcome x from m (body.Heartbeat promised session member) = none_ready c me x _ (heartbeat_none me x from session member)
body_goes c me outcome x from m (body.Collect e members) = none_ready c me x _ (collect_none x from e)
body_goes c me outcome x from m (body.Promise e installed members valid flagged committed pending) = answer_ready c me x from m x.attempt
body_goes c me outcome x from m (body.Nack e promised) = answer_ready c me x from m x.attempt
body_goes c me outcome x from m (body.SeizeQuorum e members d) = none_ready c me x _ (seizing_none x from Vote e members d)
body_goes c me outcome x from m (body.SeizeData e members d) = none_ready c me x _ (seizing_none x from Plain e members d)
body_goes c me outcome x from m (body.Seized e d ended) = answer_ready c me x from m x.attempt
body_goes c me outcome x from m (body.Install i) = install_ready c me x from i
body_goes c me outcome x from m (body.Ready e devices report) = answer_ready c me x from m x.attempt
body_goes c me outcome x from m (body.Start e) = none_ready c me x _ (start_none e x.seat)
body_goes c me outcome x from m (body.Excluded e newest) = none_ready c me x _ (notice_none x e newest)
body_goes c me outcome x from m (body.Prepare e place text) = none_ready c me x _ (prepare_none x from e place text x.seat)
body_goes c me outcome x from m (body.Prepared e place) = none_ready c me x _ (prepared_none c me x from e place)
body_goes c me outcome x from m (body.Commit e place) = none_ready c me x _ (commit_none x e place x.seat)
body_goes c me outcome x from m (body.Request e number text) = none_ready c me x _ (asked_none c me x from e number text)
body_goes c me outcome x from m (body.Answer e number text) = none_ready c me x _ (reply_none c me x e number (answer_in text))
body_goes c me outcome x from m (body.Order o) = none_ready c me x _ (order_none c me outcome x from o)
body_goes c me outcome x from m (body.Done e number ended) = none_ready c me x _ (done_none c me x from e number ended)

packet_ready : (c : Cluster) (me : ℕ) (outcome : Outcome) (x : UpNode) (from : ℕ) (m : Message) → GoesReady c me x (cuts.packet_course c me outcome x from m)
packet_ready c me outcome x from m = either_ready c me x (is_foreign c me x m.body) Stops _ tt (tt, body_goes c me outcome (hearing x from m.body) from m m.body)

-- ---- devices

own_seized_ready : (c : Cluster) (me : ℕ) (x : UpNode) (d : ℕ) (result : SeizeResult) (o : Option AttemptState) → GoesReady c me x (cuts.own_seized_course c me x d result o)
own_seized_ready c me x d result None = tt
own_seized_ready c me x d result (Some a) = going_ready c me x a (Own_seized d result) tt

seized_ready : (c : Cluster) (me : ℕ) (x : UpNode) (d : ℕ) (result : SeizeResult) (o : Option ℕ) → GoesReady c me x (cuts.seized_course c me x d result o)
seized_ready c me x d result None = tt
seized_ready c me x d result (Some coordinator) =
    either_ready c me x (coordinator == me) (cuts.own_seized_course c me x d result x.attempt) _ (own_seized_ready c me x d result x.attempt) (tt, tt)

joined_ready : (c : Cluster) (me : ℕ) (x : UpNode) (o : Option ℕ) → GoesReady c me x (cuts.joined_course c me x o)
joined_ready c me x None = tt
joined_ready c me x (Some coordinator) =
    either_ready c me x (coordinator == me) (cuts.own_ready_course c me x) (cuts.readying_course c x coordinator) (own_ready_ready c me x) (readying_ready c me x coordinator)

joining_ready : (c : Cluster) (me : ℕ) (x : UpNode) (at : ℕ) (command : PrCommand) (a : Answer) (d : ℕ) (r : JoinResult) → GoesReady c me x (cuts.joining_course c me x at command a d r)
joining_ready c me x at command a d join.Joined = (tt, joined_ready c me (joining_so (answered_so x a) d) (coordinator_of (joining_so (answered_so x a) d)))
joining_ready c me x at command a d (join.Late w) = (tt, joined_ready c me (answered_so x a) (coordinator_of (answered_so x a)))
joining_ready c me x at command a d join.Fault = (tt, joined_ready c me (answered_so x a) (coordinator_of (answered_so x a)))

progress_ready : (c : Cluster) (me : ℕ) (x : UpNode) (at : ℕ) (command : PrCommand) (a : Answer) (p : Progress) → GoesReady c me x (cuts.progress_course c me x at command a p)
progress_ready c me x at command a GoesOn = (tt, tt)
progress_ready c me x at command a (Seized d result) = (tt, seized_ready c me (answered_so x a) d result (coordinator_of (answered_so x a)))
progress_ready c me x at command a (Joined d result) = joining_ready c me x at command a d result

answered_ready : (c : Cluster) (me : ℕ) (x : UpNode) (a : Answer) (o : Option ℕ) (command : Option PrCommand) → GoesReady c me x (cuts.answered_course c me x a o command)
answered_ready c me x a (Some d) (Some command) = progress_ready c me x d command a (progress_after x.tasks a)
answered_ready c me x a None command = tt
answered_ready c me x a (Some d) None = tt

-- ---- each step

course_ready : (c : Cluster) (me : ℕ) (outcome : Outcome) (x : UpNode) (i : Input) → GoesReady c me x (cuts.course_of c me outcome x i)
course_ready c me outcome x Boot = tt
course_ready c me outcome x Crash = tt
course_ready c me outcome x Tick = tick_ready c me outcome x
course_ready c me outcome x (Packet from message) = packet_ready c me outcome x from message
course_ready c me outcome x CommandDue = none_ready c me x (cuts.distrusting_course x (begins_plainly x.tasks)) (distrusting_none x (begins_plainly x.tasks))
course_ready c me outcome x (Answered a) = answered_ready c me x a (due_device x.tasks) (next_of x.tasks)
course_ready c me outcome x (Wrote d value a) = (tt, none_ready c me x (cuts.fenced_course d a) (fenced_none d a))
course_ready c me outcome x (Commanded words) = none_ready c me x (cuts.command_course c me x words) (command_none c me x words)
course_ready c me outcome x (Reported r good) = none_ready c me x (cuts.report_course c me x r good) (report_none c me x r good)
course_ready c me outcome x (Client name client port) = none_ready c me x (cuts.client_course c x name client port) (client_none c x name client port)

under_ready : (c : Cluster) (me : ℕ) (x : UpNode) (disk : NodeRecord) (replies : List Reply) (k : Course) → GoesReady c me x k → AllReady c me (site (Up x) disk) (under replies k)
under_ready c me x disk replies Stops h = tt
under_ready c me x disk replies (Acts a rest) h = (h.0, under_ready c me (acted c me x a) disk replies rest h.1)
under_ready c me x disk [] (Keeps change rest) h = (tt, tt)
under_ready c me x disk (Done ∷ replies) (Keeps change rest) h = (h.0, under_ready c me (changed c me x change) _ replies rest h.1)
under_ready c me x disk (Lost_new why ∷ replies) (Keeps change rest) h = (tt, tt)
under_ready c me x disk (Lost_old why ∷ replies) (Keeps change rest) h = (tt, tt)
under_ready c me x disk replies (Falls why) h = (tt, tt)

boot_ready : (c : Cluster) (me : ℕ) (disk : NodeRecord) (replies : List Reply) → AllReady c me (site Down disk) (cuts.boot_doings replies)
boot_ready c me disk [] = (tt, (tt, tt))
boot_ready c me disk (Done ∷ replies) = (tt, tt)
boot_ready c me disk (Lost_new why ∷ replies) = (tt, (tt, tt))
boot_ready c me disk (Lost_old why ∷ replies) = (tt, (tt, tt))

pub doings_ready : (c : Cluster) (me now : ℕ) (ends : Outcome) (replies : List Reply) (i : Input) (node : Node) (disk : NodeRecord) → AllReady c me (site node disk) (cuts.doings c me now ends replies i node)
doings_ready c me now ends replies i (Up x) disk = (tt, under_ready c me (at_second now x) disk replies (cuts.course_of c me ends (at_second now x) i) (course_ready c me ends (at_second now x) i))
doings_ready c me now ends replies Boot Down disk = boot_ready c me disk replies
doings_ready c me now ends replies Crash Down disk = tt
doings_ready c me now ends replies Tick Down disk = tt
doings_ready c me now ends replies (Packet from m) Down disk = tt
doings_ready c me now ends replies CommandDue Down disk = tt
doings_ready c me now ends replies (Answered a) Down disk = tt
doings_ready c me now ends replies (Wrote d value a) Down disk = tt
doings_ready c me now ends replies (Commanded words) Down disk = tt
doings_ready c me now ends replies (Reported r good) Down disk = tt
doings_ready c me now ends replies (Client name client port) Down disk = tt
