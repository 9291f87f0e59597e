-- But for the save before an `ignore`, and the answer to a command, no step of a node tells which devices are valid to it, other than by installs.
use Rattle.std.specs.Prelude.{ℕ, ◌==◌, nat_le, nat_lt, Bool, true, false, List, [], ◌∷◌, Option, None, Some, Ok, Err, is_some, if◌then◌else◌}
use Rattle.std.specs.List.{AllByRecursion}
use Rattle.std.specs.Option.{unwrap_or}
use Rattle.cl_base.specs.Seizings.{SeizeResult}
use Rattle.cl_base.specs.declared.method.Outcome.{Outcome}
use Rattle.cmm_attempt.specs.Attempts.{AttemptState, Turn, newest_installed}
use Rattle.cmm_attempt.specs.Calls.{Call, Own_ready, Own_seized, Take, Tick as Call_tick, With_votes, starts_in, turn}
use Rattle.cmm_attempt.specs.declared.step.AttemptEnd.{AttemptEnd}
use Rattle.cmm_attempt.specs.declared.step.Step.{Step}
use Rattle.cmm_attempt.specs.declared.step.Step.TheVariants as step
use Rattle.device_queue.specs.Queue.{joins, kept_of}
use Rattle.pgr_device.specs.declared.command.PrAnswer.TheVariants as given
use Rattle.seize.specs.Answers.{Answer}
use Rattle.seize.specs.declared.kind.SeizeKind.{SeizeKind}
use Rattle.seize.specs.declared.kind.SeizeKind.TheVariants.{Plain, Vote}
use Rattle.wire.specs.declared.message.Body.{Body}
use Rattle.wire.specs.declared.message.Body.TheVariants as body
use Rattle.wire.specs.declared.message.Install.{Install}
use Rattle.wire.specs.declared.message.Message.{Message}
use Rattle.node_model.specs.Attempts.{begins_install, installs_now, is_choosing, left_out_by, next_epoch, starts_now, votes_in}
use Rattle.node_model.specs.Members.{hearing, is_foreign}
use Rattle.node_model.specs.Seats.{installed_of, is_in, promised_of}
use Rattle.node_model.specs.Steps.{at_second}
use Rattle.node_model.specs.Ticks.{later, members_to_form, waiting_less}
use Rattle.node_model.specs.declared.cluster.Cluster.{Cluster}
use Rattle.node_model.specs.declared.input.Input.{Input}
use Rattle.node_model.specs.declared.input.Input.TheVariants.{Boot, Crash, Tick, Packet, CommandDue, Answered, Wrote, Commanded, Reported, Client}
use Rattle.node_model.specs.declared.node.Node.{Node}
use Rattle.node_model.specs.declared.node.Node.TheVariants.{Down, Up}
use Rattle.node_model.specs.declared.node.UpNode.{UpNode}
use Rattle.node_model.specs.declared.seat.Seat.{Seat}
use Rattle.node_model.specs.declared.seat.Seat.TheVariants.{Forming, Member}
use Rattle.refinement.specs.Courses.{Course, Reply, joined, under}
use Rattle.refinement.specs.Courses.Course.{Acts, Falls, Keeps, Stops}
use Rattle.refinement.specs.Courses.Reply.{Done, Lost_new, Lost_old}
use Rattle.refinement.specs.Cuts as cuts
use Rattle.refinement.specs.Cuts.{first_turn}
use Rattle.refinement.specs.Doings.{Act, Change, Doing, acted, changed, going}
use Rattle.refinement.specs.Doings.Act.{Takes}
use Rattle.refinement.specs.Doings.Change.{Admits, Counts, Distrusts, Leads, Starts}
use Rattle.refinement.specs.Doings.Doing.{Does, Saves}
use Rattle.run_history.proofs.QuietCourses.{IsOther, Quiet, QuietAct, QuietChange, client, command, deciding, governing, other, readying, report}

abbrev pub TrustsChange : Change → Type 0
TrustsChange (Distrusts d) = ⊥
TrustsChange (Admits at command a d) = ⊥
TrustsChange _ = Unit {0}

abbrev pub TrustsAct : Act → Type 0
TrustsAct (Takes at command a) = ⊥
TrustsAct _ = Unit {0}

abbrev pub Trusts : Course → Type 0
Trusts Stops = Unit {0}
Trusts (Acts a rest) = TrustsAct a × Trusts rest
Trusts (Keeps change rest) = TrustsChange change × Trusts rest
Trusts (Falls why) = Unit {0}

abbrev pub DoingTrusts : Doing → Type 0
DoingTrusts (Does a) = TrustsAct a
DoingTrusts (Saves change) = TrustsChange change
DoingTrusts _ = Unit {0}

abbrev pub AllTrust : List Doing → Type 0
AllTrust ds = AllByRecursion DoingTrusts ds

-- ---- courses

quiet_act : (a : Act) → QuietAct a → TrustsAct a
quiet_act (Takes at command a) q = absurd q
quiet_act _ q = tt

quiet_change : (ch : Change) → QuietChange ch → TrustsChange ch
quiet_change (Distrusts d) q = absurd q
quiet_change (Admits at command a d) q = absurd q
quiet_change _ q = tt

quiet : (k : Course) → Quiet k → Trusts k
quiet Stops q = tt
quiet (Acts a rest) q = (quiet_act a q.0, quiet rest q.1)
quiet (Keeps change rest) q = (quiet_change change q.0, quiet rest q.1)
quiet (Falls why) q = tt

either : (b : Bool) (k l : Course) → Trusts k → Trusts l → Trusts (if b then k else l)
either true k l h i = h
either false k l h i = i

next_one : (c : Cluster) (me : ℕ) (x : UpNode) (k : Course) (next : UpNode → Course) → Trusts k → ((y : UpNode) → Trusts (next y)) → Trusts (joined c me x k next)
next_one c me x Stops next h i = i x
next_one c me x (Acts a rest) next h i = (h.0, next_one c me (acted c me x a) rest next h.1 i)
next_one c me x (Keeps change rest) next h i = (h.0, next_one c me (changed c me x change) rest next h.1 i)
next_one c me x (Falls why) next h i = tt

excluded : (me e newest : ℕ) (o : Option ℕ) → Trusts (cuts.excluded_course me e newest o)
excluded me e newest None = tt
excluded me e newest (Some m) = either (m == me) _ _ tt (tt, tt)

ended : (me : ℕ) (e : AttemptEnd) (o : Option AttemptState) → Trusts (cuts.ended_course me e o)
ended me e None = tt
ended me e (Some a) = (tt, excluded me a.plan.epoch (unwrap_or (newest_installed a) 0) (left_out_by e))

queued : (d : ℕ) (kind : SeizeKind) (o : Option AttemptState) → Trusts (cuts.queued_course d kind o)
queued d kind None = tt
queued d kind (Some a) = (tt, tt)

one_step : (me : ℕ) (x : UpNode) (s : Step) → Trusts (cuts.step_course me x s)
one_step me x (step.Send to m) = (tt, tt)
one_step me x (step.SeizeHere d kind) = queued d kind x.attempt
one_step me x (step.NeedVotes n) = tt
one_step me x (step.InstallHere i) = tt
one_step me x step.StartHere = tt
one_step me x (step.Ended e) = ended me e x.attempt

steps : (c : Cluster) (me : ℕ) (x : UpNode) (all : List Step) → Trusts (cuts.steps_course c me x all)
steps c me x [] = tt
steps c me x (s ∷ all) = next_one c me x _ _ (one_step me x s) (λ y. steps c me y all)

gone_on : (c : Cluster) (me : ℕ) (x : UpNode) (a : AttemptState) (k : Call) (all : List Step) → Trusts (cuts.gone_on c me x a k all)
gone_on c me x a k all = (tt, steps c me (going x a k) all)

counted : (c : Cluster) (me : ℕ) (x : UpNode) (a : AttemptState) (k : Call) (i : Install) (rest : List Step) (seat : Seat) → Trusts (cuts.counted c me x a k i rest seat)
counted c me x a k i rest (Member s) = gone_on c me x a k rest
counted c me x a k i rest (Forming s) = either (installs_now s i) _ _ (tt, steps c me (changed c me x (Counts a k s i)) rest) (gone_on c me x a k rest)

kept_if : (keeps : Bool) (change : Change) (rest : Course) → TrustsChange change → Trusts rest → Trusts (cuts.kept_if keeps change rest)
kept_if true change rest h k = (h, k)
kept_if false change rest h k = (tt, k)

started : (c : Cluster) (me : ℕ) (x : UpNode) (a : AttemptState) (k : Call) (rest : List Step) (seat : Seat) → Trusts (cuts.started c me x a k rest seat)
started c me x a k rest (Member s) = gone_on c me x a k rest
started c me x a k rest (Forming s) =
    either (starts_now s (turn a k).after.plan.epoch) _ _
    (kept_if (is_some s.saved.entries.pending) (Starts a k s) (cuts.steps_course c me (changed c me x (Starts a k s)) rest) tt (steps c me (changed c me x (Starts a k s)) rest))
    (gone_on c me x a k rest)

turned_by : (c : Cluster) (me : ℕ) (x : UpNode) (a : AttemptState) (k : Call) (all : List Step) → Trusts (cuts.turned_by c me x a k all)
turned_by c me x a k [] = gone_on c me x a k []
turned_by c me x a k (step.InstallHere i ∷ rest) = counted c me x a k i rest x.seat
turned_by c me x a k (step.StartHere ∷ rest) = started c me x a k rest x.seat
turned_by c me x a k (step.Send to m ∷ rest) = gone_on c me x a k (step.Send to m ∷ rest)
turned_by c me x a k (step.SeizeHere d kind ∷ rest) = gone_on c me x a k (step.SeizeHere d kind ∷ rest)
turned_by c me x a k (step.NeedVotes n ∷ rest) = gone_on c me x a k (step.NeedVotes n ∷ rest)
turned_by c me x a k (step.Ended e ∷ rest) = gone_on c me x a k (step.Ended e ∷ rest)

turned_all : (c : Cluster) (me : ℕ) (x : UpNode) (a : AttemptState) (k : Call) → Trusts (cuts.turned_all c me x a k)
turned_all c me x a k =
    next_one c me x _ _ (turned_by c me x a k (turn a k).steps) (λ y. either (starts_in (turn a k).steps) _ _ (quiet (cuts.deciding_course c me y) (deciding c me y)) tt)

readied : (c : Cluster) (me : ℕ) (x : UpNode) (o : Option AttemptState) → Trusts (cuts.readied_course c me x o)
readied c me x None = tt
readied c me x (Some a) = turned_all c me x a Own_ready

own_ready : (c : Cluster) (me : ℕ) (x : UpNode) → Trusts (cuts.own_ready_course c me x)
own_ready c me x = either (joins x.tasks) _ _ tt (readied c me x x.attempt)

called : (c : Cluster) (me : ℕ) (x : UpNode) (a : AttemptState) (k : Call) → Trusts (cuts.called c me x a k)
called c me x a k = next_one c me x _ _ (turned_all c me x a k) (λ y. either (begins_install (turn a k).steps) _ _ (own_ready c me y) tt)

goes_on : (c : Cluster) (me : ℕ) (x : UpNode) (a : AttemptState) (k : Call) → Trusts (cuts.going_course c me x a k)
goes_on c me x a k =
    either (is_choosing (turn a k).after.phase) _ _ (tt, called c me (going x a k) (turn a k).after (With_votes (votes_in c (turn a k).after))) (called c me x a k)

begun : (c : Cluster) (me : ℕ) (x : UpNode) (t : Turn) → Trusts (cuts.begun_course c me x t)
begun c me x t = either (is_choosing t.after.phase) _ _ (called c me x t.after (With_votes (votes_in c t.after))) (steps c me x t.steps)

leading : (c : Cluster) (me : ℕ) (x : UpNode) (p members : ℕ) → Trusts (cuts.leading_course c me x p members)
leading c me x p members = either (nat_lt (promised_of x) p) _ _ (tt, begun c me (changed c me x (Leads p members)) (first_turn c me x p members)) tt

forming : (c : Cluster) (me : ℕ) (x : UpNode) (o : Option ℕ) → Trusts (cuts.forming_course c me x o)
forming c me x None = tt
forming c me x (Some members) = leading c me x (next_epoch me x) members

ticked : (c : Cluster) (me : ℕ) (x : UpNode) (o : Option AttemptState) → Trusts (cuts.ticked_course c me x o)
ticked c me x (Some a) = goes_on c me x a Call_tick
ticked c me x None = either (nat_le 1 x.beats.wait) _ _ (tt, tt) (tt, forming c me (waiting_less x) (members_to_form c me (waiting_less x)))

tick : (c : Cluster) (me : ℕ) (outcome : Outcome) (x : UpNode) → Trusts (cuts.tick_course c me outcome x)
tick c me outcome x =
    (tt, next_one c me (later c x) _ _ (quiet (cuts.governing_course c me outcome x (later c x)) (governing c me outcome x (later c x))) (λ y. ticked c me y y.attempt))

request : (x : UpNode) (from : ℕ) (kind : SeizeKind) (e members d : ℕ) (o : Option SeizeResult) → Trusts (cuts.request_course x from kind e members d o)
request x from kind e members d (Some result) = (tt, tt)
request x from kind e members d None = either (installed_of x == e) _ _ (tt, tt) (tt, tt)

seizing : (x : UpNode) (from : ℕ) (kind : SeizeKind) (e members d : ℕ) → Trusts (cuts.seizing_course x from kind e members d)
seizing x from kind e members d = either (is_in x e) _ _ (request x from kind e members d (kept_of x.tasks d)) tt

answer : (c : Cluster) (me : ℕ) (x : UpNode) (from : ℕ) (m : Message) (o : Option AttemptState) → Trusts (cuts.answer_course c me x from m o)
answer c me x from m None = tt
answer c me x from m (Some a) = goes_on c me x a (Take from m)

others : (c : Cluster) (me : ℕ) (outcome : Outcome) (x : UpNode) (from : ℕ) (m : Message) (b : Body) → IsOther b → Trusts (cuts.body_course c me outcome x from m b)
others c me outcome x from m b is = quiet (cuts.body_course c me outcome x from m b) (other c me outcome x from m b is)

by_body : (c : Cluster) (me : ℕ) (outcome : Outcome) (x : UpNode) (from : ℕ) (m : Message) (b : Body) → Trusts (cuts.body_course c me outcome x from m b)
by_body c me outcome x from m (body.Promise e newest members valid flagged committed pending) = answer c me x from m x.attempt
by_body c me outcome x from m (body.Nack e promised) = answer c me x from m x.attempt
by_body c me outcome x from m (body.SeizeQuorum e members d) = seizing x from Vote e members d
by_body c me outcome x from m (body.SeizeData e members d) = seizing x from Plain e members d
by_body c me outcome x from m (body.Seized e d result) = answer c me x from m x.attempt
by_body c me outcome x from m (body.Ready e devices told) = answer c me x from m x.attempt
by_body c me outcome x from m (body.Heartbeat promised session is_one) = others c me outcome x from m (body.Heartbeat promised session is_one) tt
by_body c me outcome x from m (body.Collect e members) = others c me outcome x from m (body.Collect e members) tt
by_body c me outcome x from m (body.Install i) = others c me outcome x from m (body.Install i) tt
by_body c me outcome x from m (body.Start e) = others c me outcome x from m (body.Start e) tt
by_body c me outcome x from m (body.Excluded e newest) = others c me outcome x from m (body.Excluded e newest) tt
by_body c me outcome x from m (body.Prepare e place text) = others c me outcome x from m (body.Prepare e place text) tt
by_body c me outcome x from m (body.Prepared e place) = others c me outcome x from m (body.Prepared e place) tt
by_body c me outcome x from m (body.Commit e place) = others c me outcome x from m (body.Commit e place) tt
by_body c me outcome x from m (body.Order o) = others c me outcome x from m (body.Order o) tt
by_body c me outcome x from m (body.Done e number result) = others c me outcome x from m (body.Done e number result) tt
by_body c me outcome x from m (body.Request e number text) = others c me outcome x from m (body.Request e number text) tt
by_body c me outcome x from m (body.Answer e number text) = others c me outcome x from m (body.Answer e number text) tt

fenced : (d : ℕ) (a : Answer) → Trusts (cuts.fenced_course d a)
fenced d (Ok given.Good) = tt
fenced d (Ok given.Conflict) = tt
fenced d (Ok given.InvalidRelease) = tt
fenced d (Ok given.NoPath) = tt
fenced d (Ok (given.Keys keys)) = tt
fenced d (Ok (given.Holder holder)) = tt
fenced d (Ok (given.Word w)) = tt
fenced d (Ok (given.Value v)) = tt
fenced d (Ok (given.Miscompare w)) = tt
fenced d (Err e) = tt

-- ---- each input but the readying, and the answer to a command

abbrev pub IsTrusting : Input → Type 0
IsTrusting CommandDue = ⊥
IsTrusting (Answered a) = ⊥
IsTrusting _ = Unit {0}

course_trusts : (c : Cluster) (me : ℕ) (outcome : Outcome) (x : UpNode) (i : Input) → IsTrusting i → Trusts (cuts.course_of c me outcome x i)
course_trusts c me outcome x Boot is = tt
course_trusts c me outcome x Crash is = tt
course_trusts c me outcome x Tick is = tick c me outcome x
course_trusts c me outcome x (Packet from m) is = either (is_foreign c me x m.body) _ _ tt (tt, by_body c me outcome (hearing x from m.body) from m m.body)
course_trusts c me outcome x CommandDue is = absurd is
course_trusts c me outcome x (Answered a) is = absurd is
course_trusts c me outcome x (Wrote d value a) is = (tt, fenced d a)
course_trusts c me outcome x (Commanded words) is = quiet (cuts.command_course c me x words) (command c me x words)
course_trusts c me outcome x (Reported r good) is = quiet (cuts.report_course c me x r good) (report c me x r good)
course_trusts c me outcome x (Client name number port) is = quiet (cuts.client_course c x name number port) (client c x name number port)

pub under_trusts : (replies : List Reply) (k : Course) → Trusts k → AllTrust (under replies k)
under_trusts replies Stops h = tt
under_trusts replies (Acts a rest) h = (h.0, under_trusts replies rest h.1)
under_trusts [] (Keeps change rest) h = (tt, tt)
under_trusts (Done ∷ replies) (Keeps change rest) h = (h.0, under_trusts replies rest h.1)
under_trusts (Lost_new why ∷ replies) (Keeps change rest) h = (tt, tt)
under_trusts (Lost_old why ∷ replies) (Keeps change rest) h = (tt, tt)
under_trusts replies (Falls why) h = (tt, tt)

boot_trusts : (replies : List Reply) → AllTrust (cuts.boot_doings replies)
boot_trusts [] = (tt, (tt, tt))
boot_trusts (Done ∷ replies) = (tt, tt)
boot_trusts (Lost_new why ∷ replies) = (tt, (tt, tt))
boot_trusts (Lost_old why ∷ replies) = (tt, (tt, tt))

pub doings_trust : (c : Cluster) (me now : ℕ) (ends : Outcome) (replies : List Reply) (i : Input) (node : Node) → IsTrusting i → AllTrust (cuts.doings c me now ends replies i node)
doings_trust c me now ends replies i (Up x) is = (tt, under_trusts replies (cuts.course_of c me ends (at_second now x) i) (course_trusts c me ends (at_second now x) i is))
doings_trust c me now ends replies Boot Down is = boot_trusts replies
doings_trust c me now ends replies Crash Down is = tt
doings_trust c me now ends replies Tick Down is = tt
doings_trust c me now ends replies (Packet from m) Down is = tt
doings_trust c me now ends replies CommandDue Down is = tt
doings_trust c me now ends replies (Answered a) Down is = tt
doings_trust c me now ends replies (Wrote d value a) Down is = tt
doings_trust c me now ends replies (Commanded words) Down is = tt
doings_trust c me now ends replies (Reported r good) Down is = tt
doings_trust c me now ends replies (Client name number port) Down is = tt

-- ---- what follows the answer to a command

own_seized : (c : Cluster) (me : ℕ) (x : UpNode) (d : ℕ) (r : SeizeResult) (o : Option AttemptState) → Trusts (cuts.own_seized_course c me x d r o)
own_seized c me x d r None = tt
own_seized c me x d r (Some a) = goes_on c me x a (Own_seized d r)

pub seized : (c : Cluster) (me : ℕ) (x : UpNode) (d : ℕ) (r : SeizeResult) (o : Option ℕ) → Trusts (cuts.seized_course c me x d r o)
seized c me x d r None = tt
seized c me x d r (Some k) = either (k == me) _ _ (own_seized c me x d r x.attempt) (tt, tt)

pub joined_trusts : (c : Cluster) (me : ℕ) (x : UpNode) (o : Option ℕ) → Trusts (cuts.joined_course c me x o)
joined_trusts c me x None = tt
joined_trusts c me x (Some k) = either (k == me) _ _ (own_ready c me x) (quiet (cuts.readying_course c x k) (readying c x k))
