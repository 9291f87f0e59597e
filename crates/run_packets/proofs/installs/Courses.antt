-- In each course of a node an install of its own attempt is followed by its Installs, and by its start where it has no other member.
use Rattle.std.specs.Prelude.{ℕ, ◌≡◌, ◌==◌, ◌&&◌, map, nat_le, nat_lt, Bool, true, false, if◌then◌else◌, List, [], ◌∷◌, Option, None, Some, Ok, IfSome, is_some}
use Rattle.std.specs.Option.{unwrap_or}
use Rattle.std.proofs.Common.{refl, sym, subst, inl, inr}
use Rattle.cl_base.specs.Sets.{has}
use Rattle.cl_base.specs.Seizings.{SeizeResult}
use Rattle.cl_base.specs.declared.method.Outcome as method
use Rattle.cl_base.specs.declared.panic.Panic.TheVariants as panic
use Rattle.cl_base.specs.declared.seizing.SeizeEnd.TheVariants as seized
use Rattle.cmm_attempt.proofs.Basics.{false_true, if_either}
use Rattle.cmm_attempt.specs.Attempts.{AttemptState, Turn, all_ready, newest_installed, own_readying, own_readying_in, starting, waits, with_steps}
use Rattle.cmm_attempt.specs.Installs.{send_start}
use Rattle.cmm_attempt.specs.Plans.{others_of}
use Rattle.cmm_attempt.specs.Calls.{Call, May, Own_ready, Own_seized, Take, Tick as Call_tick, With_votes, starts_in, turn}
use Rattle.cmm_attempt.specs.declared.phase.Phase.{Phase}
use Rattle.cmm_attempt.specs.declared.phase.Phase.TheVariants.{Collecting, Choosing, SeizingVotes, SeizingOthers, Installing, Over}
use Rattle.cmm_attempt.specs.declared.step.AttemptEnd.{AttemptEnd}
use Rattle.cmm_attempt.specs.declared.step.Step.{Step}
use Rattle.cmm_attempt.specs.declared.step.Step.TheVariants as step
use Rattle.device_queue.specs.Queue.{begins_plainly, due_device, joins, kept_of, next_of, progress_after}
use Rattle.device_queue.specs.declared.progress.Progress.{Progress}
use Rattle.device_queue.specs.declared.progress.Progress.TheVariants.{GoesOn, Joined, Seized}
use Rattle.node_model.specs.Attempts.{begins_install, installs_now, is_choosing, left_out_by, starts_now, votes_in}
use Rattle.node_model.specs.Devices.{joining_so}
use Rattle.node_model.specs.Members.{hearing, is_foreign, rested_by}
use Rattle.node_model.specs.Seats.{coordinator_of, installed_of, is_in, promised_of, promising, record_of, session_of}
use Rattle.node_model.specs.Steps.{at_second}
use Rattle.node_model.specs.Ticks.{later, members_to_form, waiting_less}
use Rattle.node_model.specs.declared.cluster.Cluster.{Cluster}
use Rattle.node_model.specs.declared.input.Input.{Input}
use Rattle.node_model.specs.declared.input.Input.TheVariants.{Answered, Boot, Client, CommandDue, Commanded, Crash, Packet, Reported, Tick, Wrote}
use Rattle.node_model.specs.declared.node.Node.{Node}
use Rattle.node_model.specs.declared.node.Node.TheVariants.{Down, Up}
use Rattle.node_model.specs.declared.node.UpNode.{UpNode}
use Rattle.node_model.specs.declared.seat.Seat.{Seat}
use Rattle.node_model.specs.declared.seat.Seat.TheVariants.{Forming, Member}
use Rattle.pgr_device.specs.declared.command.PrAnswer.TheVariants as given
use Rattle.pgr_device.specs.declared.command.PrCommand.{PrCommand}
use Rattle.refinement.specs.Courses.{Course, Reply, joined, under}
use Rattle.refinement.specs.Courses.Course.{Acts, Falls, Keeps, Stops}
use Rattle.refinement.specs.Courses.Reply.{Done, Lost_new, Lost_old}
use Rattle.refinement.specs.Cuts as cuts
use Rattle.refinement.specs.Cuts.{course_at, course_of, writing}
use Rattle.refinement.specs.Doings.{Act, Change, acted, answered_so, changed, going}
use Rattle.refinement.specs.Doings.Act.{Accepts, Ends, Goes_on, Hears, Makes, Queues, Waits, Writes}
use Rattle.refinement.specs.Doings.Change.{Counts, Distrusts, Leads, Promises, Starts}
use Rattle.run_history.proofs.QuietCourses.{IsOther as IsOtherBody, Quiet, QuietAct, QuietChange, client, command, deciding, governing, other, readying, report}
use Rattle.run_history.specs.Guards.{MadeAt}
use Rattle.run_messages.specs.records.Losses.{AreLosses}
use Rattle.seize.specs.Answers.{Answer}
use Rattle.seize.specs.declared.kind.JoinResult.{JoinResult}
use Rattle.seize.specs.declared.kind.JoinResult.TheVariants as join
use Rattle.seize.specs.declared.kind.SeizeKind.{SeizeKind}
use Rattle.seize.specs.declared.kind.SeizeKind.TheVariants.{Plain, Vote}
use Rattle.status_report.specs.declared.node_entry.DownCause.TheVariants as down
use Rattle.wire.specs.declared.message.Body.{Body}
use Rattle.wire.specs.declared.message.Body.TheVariants as body
use Rattle.wire.specs.declared.message.Install.{Install}
use Rattle.wire.specs.declared.message.Message.{Message}
use Rattle.run_packets.specs.installs.Passing.{ActPasses, AllPass, EndsUnready, Follows, FollowsIn, GoesPassing, IsOther, IsUnready, NoCount, NodeUnready, SendsFirst, SendsNext, SendsStep, StartsFirst, StartsNext, StepsFollow, Unready}
use Rattle.run_packets.proofs.installs.Starting.{first_joined, lonely_first}
use Rattle.run_packets.proofs.installs.Turns.{first_unready, turn_brings}

by_test : {X : Type 0} (P : X → Type 0) (b : Bool) (x y : X) → (b ≡ true → P x) → (b ≡ false → P y) → P (if b then x else y)
by_test P true x y f g = f refl
by_test P false x y f g = g refl

-- ---- courses in which the attempt takes no call

made_passes : (change : Change) → MadeAt change → NoCount change
made_passes (Counts a k s i) h = absurd h
made_passes _ h = tt

quiet_act : (a : Act) → QuietAct a → ActPasses a
quiet_act (Makes change) h = made_passes change h
quiet_act _ h = tt

quiet_follows : (n : ℕ) → (change : Change) (rest : Course) → QuietChange change → Follows n change rest
quiet_follows n (Counts a k s i) rest h = absurd h
quiet_follows n _ rest h = tt

quiet_p : (n : ℕ) → (k : Course) → Quiet k → GoesPassing n k
quiet_p n Stops h = tt
quiet_p n (Acts a rest) h = (quiet_act a h.0, quiet_p n rest h.1)
quiet_p n (Keeps change rest) h = (quiet_follows n change rest h.0, quiet_p n rest h.1)
quiet_p n (Falls why) h = tt

promised_unready : (x : UpNode) (p : ℕ) (o : Option AttemptState) → IsUnready (rested_by (promising x p) o)
promised_unready x p None = tt
promised_unready x p (Some a) = tt

change_unready : (c : Cluster) (n : ℕ) (x : UpNode) (change : Change) → QuietChange change → IsUnready x → IsUnready (changed c n x change)
change_unready c n x (Counts a k s i) quiet h = absurd quiet
change_unready c n x (Leads p members) quiet h = first_unready p members _ c.attached c.id
change_unready c n x (Promises p) quiet h = promised_unready x p x.attempt
change_unready c n x (Starts a k s) quiet h = tt
change_unready c n x _ quiet h = h

made_unready : (c : Cluster) (n : ℕ) (x : UpNode) (change : Change) → MadeAt change → IsUnready x → IsUnready (changed c n x change)
made_unready c n x (Starts a k s) made h = tt
made_unready c n x (Counts a k s i) made h = absurd made
made_unready c n x (Leads p members) made h = absurd made
made_unready c n x (Promises p) made h = absurd made
made_unready c n x _ made h = h

act_unready : (c : Cluster) (n : ℕ) (x : UpNode) (a : Act) → QuietAct a → IsUnready x → IsUnready (acted c n x a)
act_unready c n x (Goes_on a k) quiet h = absurd quiet
act_unready c n x (Ends a e) quiet h = tt
act_unready c n x (Makes change) quiet h = made_unready c n x change quiet h
act_unready c n x (Queues a d kind) quiet h = absurd quiet
act_unready c n x _ quiet h = h

quiet_ends : (c : Cluster) (n : ℕ) (x : UpNode) (k : Course) → Quiet k → IsUnready x → EndsUnready c n x k
quiet_ends c n x Stops quiet h = h
quiet_ends c n x (Acts a rest) quiet h = quiet_ends c n (acted c n x a) rest quiet.1 (act_unready c n x a quiet.0 h)
quiet_ends c n x (Keeps change rest) quiet h = quiet_ends c n (changed c n x change) rest quiet.1 (change_unready c n x change quiet.0 h)
quiet_ends c n x (Falls why) quiet h = tt

-- ---- one course behind another

sends_joined : (c : Cluster) (n m : ℕ) (b : Body) (x : UpNode) (k : Course) (next : UpNode → Course) → SendsFirst m b k → SendsFirst m b (joined c n x k next)
sends_joined c n m b x (Acts (Writes to other_body) rest) next (inl here) = inl here
sends_joined c n m b x (Acts (Writes to other_body) rest) next (inr later_on) = inr (sends_joined c n m b (acted c n x (Writes to other_body)) rest next later_on)
sends_joined c n m b x _ next h = absurd h

follows_joined : (c : Cluster) (n : ℕ) (x : UpNode) (change : Change) (k : Course) (next : UpNode → Course) → Follows n change k → Follows n change (joined c n x k next)
follows_joined c n x (Counts a k s i) rest next h = (λ m is. sends_joined c n m (body.Install i) x rest next (h.0 m is), λ lonely. first_joined c n i.epoch x rest next (h.1 lonely))
follows_joined c n x _ k next h = tt

joined_p : (c : Cluster) (n : ℕ) (x : UpNode) (k : Course) (next : UpNode → Course) → GoesPassing n k → ((y : UpNode) → GoesPassing n (next y)) → GoesPassing n (joined c n x k next)
joined_p c n x Stops next h f = f x
joined_p c n x (Acts a rest) next h f = (h.0, joined_p c n (acted c n x a) rest next h.1 f)
joined_p c n x (Keeps change rest) next h f = (follows_joined c n (changed c n x change) change rest next h.0, joined_p c n (changed c n x change) rest next h.1 f)
joined_p c n x (Falls why) next h f = tt

joined_by : (c : Cluster) (n : ℕ) (x : UpNode) (k : Course) (next : UpNode → Course) → GoesPassing n k → EndsUnready c n x k → ((y : UpNode) → IsUnready y → GoesPassing n (next y)) → GoesPassing n (joined c n x k next)
joined_by c n x Stops next h e f = f x e
joined_by c n x (Acts a rest) next h e f = (h.0, joined_by c n (acted c n x a) rest next h.1 e f)
joined_by c n x (Keeps change rest) next h e f = (follows_joined c n (changed c n x change) change rest next h.0, joined_by c n (changed c n x change) rest next h.1 e f)
joined_by c n x (Falls why) next h e f = tt

-- ---- the steps of an attempt

excluded_p : (n e newest : ℕ) (o : Option ℕ) → GoesPassing n (cuts.excluded_course n e newest o)
excluded_p n e newest None = tt
excluded_p n e newest (Some m) = if_either (GoesPassing n) (m == n) (Falls (down.Panic (panic.Excluded newest))) (writing m (body.Excluded e newest)) tt (tt, tt)

ended_p : (n : ℕ) (e : AttemptEnd) (o : Option AttemptState) → GoesPassing n (cuts.ended_course n e o)
ended_p n e None = tt
ended_p n e (Some a) = (tt, excluded_p n a.plan.epoch (unwrap_or (newest_installed a) 0) (left_out_by e))

queued_p : (n : ℕ) → (d : ℕ) (kind : SeizeKind) (o : Option AttemptState) → GoesPassing n (cuts.queued_course d kind o)
queued_p n d kind None = tt
queued_p n d kind (Some a) = (tt, tt)

step_p : (n : ℕ) (x : UpNode) (s : Step) → GoesPassing n (cuts.step_course n x s)
step_p n x (step.Send to m) = (tt, tt)
step_p n x (step.SeizeHere d kind) = queued_p n d kind x.attempt
step_p n x (step.NeedVotes k) = tt
step_p n x (step.InstallHere i) = tt
step_p n x step.StartHere = tt
step_p n x (step.Ended e) = ended_p n e x.attempt

steps_p : (c : Cluster) (n : ℕ) (x : UpNode) (steps : List Step) → GoesPassing n (cuts.steps_course c n x steps)
steps_p c n x [] = tt
steps_p c n x (s ∷ steps) = joined_p c n x (cuts.step_course n x s) (λ y. cuts.steps_course c n y steps) (step_p n x s) (λ y. steps_p c n y steps)

-- what is sent to m is sent by the course
steps_send : (c : Cluster) (n m : ℕ) (i : Install) (x : UpNode) (steps : List Step) → SendsStep m i steps → SendsFirst m (body.Install i) (cuts.steps_course c n x steps)
steps_send c n m i x (step.Send to message ∷ steps) (inl here) = inl here
steps_send c n m i x (step.Send to message ∷ steps) (inr later_on) = inr (steps_send c n m i x steps later_on)
steps_send c n m i x _ h = absurd h

-- ---- calls

gone_p : (c : Cluster) (n : ℕ) (x : UpNode) (a : AttemptState) (k : Call) (steps : List Step) → GoesPassing n (cuts.gone_on c n x a k steps)
gone_p c n x a k steps = (tt, steps_p c n (going x a k) steps)

started_p : (c : Cluster) (n : ℕ) (x : UpNode) (a : AttemptState) (k : Call) (rest : List Step) (seat : Seat) → GoesPassing n (cuts.started c n x a k rest seat)
started_p c n x a k rest (Member s) = gone_p c n x a k rest
started_p c n x a k rest (Forming s) =
    let y : UpNode = changed c n x (Starts a k s) in
    let more : Course = cuts.steps_course c n y rest in
    if_either (GoesPassing n) (starts_now s (turn a k).after.plan.epoch) (cuts.kept_if (is_some s.saved.entries.pending) (Starts a k s) more) (cuts.gone_on c n x a k rest)
    (if_either (GoesPassing n) (is_some s.saved.entries.pending) (Keeps (Starts a k s) more) (Acts (Makes (Starts a k s)) more) (tt, steps_p c n y rest) (tt, steps_p c n y rest)) (gone_p c n x a k rest)

-- no install comes first
abbrev NoneFirst : List Step → Type 0
NoneFirst (step.InstallHere i ∷ rest) = ⊥
NoneFirst _ = Unit {0}

turned_by_p : (c : Cluster) (n : ℕ) (x : UpNode) (a : AttemptState) (k : Call) (steps : List Step) → NoneFirst steps → GoesPassing n (cuts.turned_by c n x a k steps)
turned_by_p c n x a k [] h = gone_p c n x a k []
turned_by_p c n x a k (step.InstallHere i ∷ rest) h = absurd h
turned_by_p c n x a k (step.StartHere ∷ rest) h = started_p c n x a k rest x.seat
turned_by_p c n x a k (step.Send to m ∷ rest) h = gone_p c n x a k (step.Send to m ∷ rest)
turned_by_p c n x a k (step.SeizeHere d kind ∷ rest) h = gone_p c n x a k (step.SeizeHere d kind ∷ rest)
turned_by_p c n x a k (step.NeedVotes m ∷ rest) h = gone_p c n x a k (step.NeedVotes m ∷ rest)
turned_by_p c n x a k (step.Ended e ∷ rest) h = gone_p c n x a k (step.Ended e ∷ rest)

if_started_p : (c : Cluster) (n : ℕ) (steps : List Step) (y : UpNode) → GoesPassing n (cuts.if_started c n steps y)
if_started_p c n steps y = if_either (GoesPassing n) (starts_in steps) (cuts.deciding_course c n y) Stops (quiet_p n (cuts.deciding_course c n y) (deciding c n y)) tt

turned_all_p : (c : Cluster) (n : ℕ) (x : UpNode) (a : AttemptState) (k : Call) (steps : List Step) → NoneFirst steps → GoesPassing n (joined c n x (cuts.turned_by c n x a k steps) (cuts.if_started c n steps))
turned_all_p c n x a k steps h = joined_p c n x (cuts.turned_by c n x a k steps) (cuts.if_started c n steps) (turned_by_p c n x a k steps h) (λ y. if_started_p c n steps y)

-- the coordinator's own part installs nothing
own_follows_in : (s : AttemptState) (p : Phase) → NoneFirst (own_readying_in s p).steps
unfolding starting
own_follows_in s Installing =
    let t : AttemptState = record s { own_ready = true } in
    if_either (λ (u : Turn). NoneFirst u.steps) (t.own_ready && all_ready t) (with_steps (record t { phase = Over }) (step.StartHere ∷ map (send_start t.plan) (others_of t.plan))) (waits t) tt tt
own_follows_in s Collecting = tt
own_follows_in s Choosing = tt
own_follows_in s SeizingVotes = tt
own_follows_in s SeizingOthers = tt
own_follows_in s Over = tt

own_follows : (a : AttemptState) → NoneFirst (turn a Own_ready).steps
unfolding own_readying
own_follows a = own_follows_in a a.phase

readied_p : (c : Cluster) (n : ℕ) (x : UpNode) (o : Option AttemptState) → GoesPassing n (cuts.readied_course c n x o)
readied_p c n x None = tt
readied_p c n x (Some a) = turned_all_p c n x a Own_ready (turn a Own_ready).steps (own_follows a)

own_ready_p : (c : Cluster) (n : ℕ) (x : UpNode) → GoesPassing n (cuts.own_ready_course c n x)
own_ready_p c n x = if_either (GoesPassing n) (joins x.tasks) Stops (cuts.readied_course c n x x.attempt) tt (readied_p c n x x.attempt)

if_installed_p : (c : Cluster) (n : ℕ) (steps : List Step) (y : UpNode) → GoesPassing n (cuts.if_installed c n steps y)
if_installed_p c n steps y = if_either (GoesPassing n) (begins_install steps) (cuts.own_ready_course c n y) Stops (own_ready_p c n y) tt

-- what a call comes to, with these steps
abbrev CalledBy : Cluster → ℕ → UpNode → AttemptState → Call → List Step → Course
CalledBy c n x a k steps = joined c n x (joined c n x (cuts.turned_by c n x a k steps) (cuts.if_started c n steps)) (cuts.if_installed c n steps)

plainly_called : (c : Cluster) (n : ℕ) (x : UpNode) (a : AttemptState) (k : Call) (steps : List Step) → NoneFirst steps → GoesPassing n (CalledBy c n x a k steps)
plainly_called c n x a k steps h =
    joined_p c n x (joined c n x (cuts.turned_by c n x a k steps) (cuts.if_started c n steps)) (cuts.if_installed c n steps) (turned_all_p c n x a k steps h) (λ y. if_installed_p c n steps y)

-- an install here, and what comes behind it
abbrev Behind : Cluster → ℕ → UpNode → Install → List Step → Course → Course
Behind c n x i rest k = joined c n x (joined c n x k (cuts.if_started c n (step.InstallHere i ∷ rest))) (cuts.if_installed c n (step.InstallHere i ∷ rest))

behind_p : (c : Cluster) (n : ℕ) (x : UpNode) (i : Install) (rest : List Step) (k : Course) → GoesPassing n k → GoesPassing n (Behind c n x i rest k)
behind_p c n x i rest k h =
    let steps : List Step = step.InstallHere i ∷ rest in
    joined_p c n x (joined c n x k (cuts.if_started c n steps)) (cuts.if_installed c n steps) (joined_p c n x k (cuts.if_started c n steps) h (λ y. if_started_p c n steps y)) (λ y. if_installed_p c n steps y)

counted_p : (c : Cluster) (n : ℕ) (x : UpNode) (a : AttemptState) (k : Call) (i : Install) (rest : List Step) (seat : Seat) → StepsFollow (turn a k).after (step.InstallHere i ∷ rest)
    → GoesPassing n (Behind c n x i rest (cuts.counted c n x a k i rest seat))
counted_p c n x a k i rest (Member s) h = behind_p c n x i rest (cuts.gone_on c n x a k rest) (gone_p c n x a k rest)
counted_p c n x a k i rest (Forming s) h =
    let y : UpNode = changed c n x (Counts a k s i) in
    by_test (λ z. GoesPassing n (Behind c n x i rest z)) (installs_now s i) (Keeps (Counts a k s i) (cuts.steps_course c n y rest)) (cuts.gone_on c n x a k rest)
    (λ now. (
      (
        λ m is. sends_joined c n m (body.Install i) y (joined c n y (cuts.steps_course c n y rest) (cuts.if_started c n (step.InstallHere i ∷ rest))) (cuts.if_installed c n (step.InstallHere i ∷ rest))
            (sends_joined c n m (body.Install i) y (cuts.steps_course c n y rest) (cuts.if_started c n (step.InstallHere i ∷ rest)) (steps_send c n m i y rest (h.0 m is))),
        λ lonely. subst (λ zs. StartsFirst i.epoch (Behind c n y i zs (cuts.steps_course c n y zs))) (sym (h.3 n lonely.alone)) (lonely_first c n x a k s i now h.1 h.2 lonely),
      ),
      behind_p c n y i rest (cuts.steps_course c n y rest) (steps_p c n y rest),
    ))
    (λ other. behind_p c n x i rest (cuts.gone_on c n x a k rest) (gone_p c n x a k rest))

called_by_p : (c : Cluster) (n : ℕ) (x : UpNode) (a : AttemptState) (k : Call) (steps : List Step) → StepsFollow (turn a k).after steps → GoesPassing n (CalledBy c n x a k steps)
called_by_p c n x a k (step.InstallHere i ∷ rest) h = counted_p c n x a k i rest x.seat h
called_by_p c n x a k [] h = plainly_called c n x a k [] tt
called_by_p c n x a k (step.StartHere ∷ rest) h = plainly_called c n x a k (step.StartHere ∷ rest) tt
called_by_p c n x a k (step.Send to m ∷ rest) h = plainly_called c n x a k (step.Send to m ∷ rest) tt
called_by_p c n x a k (step.SeizeHere d kind ∷ rest) h = plainly_called c n x a k (step.SeizeHere d kind ∷ rest) tt
called_by_p c n x a k (step.NeedVotes m ∷ rest) h = plainly_called c n x a k (step.NeedVotes m ∷ rest) tt
called_by_p c n x a k (step.Ended e ∷ rest) h = plainly_called c n x a k (step.Ended e ∷ rest) tt

called_p : (c : Cluster) (n : ℕ) (x : UpNode) (a : AttemptState) (k : Call) → StepsFollow (turn a k).after (turn a k).steps → GoesPassing n (cuts.called c n x a k)
called_p c n x a k h = called_by_p c n x a k (turn a k).steps h

is_choice : (p : Phase) → is_choosing p ≡ true → p ≡ Choosing
is_choice Choosing is = refl
is_choice Collecting is = absurd (false_true is)
is_choice SeizingVotes is = absurd (false_true is)
is_choice SeizingOthers is = absurd (false_true is)
is_choice Installing is = absurd (false_true is)
is_choice Over is = absurd (false_true is)

going_p : (c : Cluster) (n : ℕ) (x : UpNode) (a : AttemptState) (k : Call) → May a k → Unready a → GoesPassing n (cuts.going_course c n x a k)
going_p c n x a k may h =
    let t : AttemptState = (turn a k).after in
    by_test (GoesPassing n) (is_choosing t.phase) (Acts (Goes_on a k) (cuts.called c n (going x a k) t (With_votes (votes_in c t)))) (cuts.called c n x a k)
    (λ chooses. (tt, called_p c n (going x a k) t (With_votes (votes_in c t)) (turn_brings t (With_votes (votes_in c t)) (is_choice t.phase chooses) (turn_brings a k may h).0).1))
    (λ rests. called_p c n x a k (turn_brings a k may h).1)

-- ---- an attempt begins

begun_p : (c : Cluster) (n : ℕ) (x : UpNode) (t : Turn) → Unready t.after → GoesPassing n (cuts.begun_course c n x t)
begun_p c n x t h =
    by_test (GoesPassing n) (is_choosing t.after.phase) (cuts.called c n x t.after (With_votes (votes_in c t.after))) (cuts.steps_course c n x t.steps)
    (λ chooses. called_p c n x t.after (With_votes (votes_in c t.after)) (turn_brings t.after (With_votes (votes_in c t.after)) (is_choice t.after.phase chooses) h).1)
    (λ rests. steps_p c n x t.steps)

leading_p : (c : Cluster) (n : ℕ) (x : UpNode) (p members : ℕ) → GoesPassing n (cuts.leading_course c n x p members)
leading_p c n x p members =
    if_either (GoesPassing n) (nat_lt (promised_of x) p) (Keeps (Leads p members) (cuts.begun_course c n (changed c n x (Leads p members)) (cuts.first_turn c n x p members))) Stops
    (tt, begun_p c n (changed c n x (Leads p members)) (cuts.first_turn c n x p members) (first_unready p members _ c.attached c.id)) tt

forming_p : (c : Cluster) (n : ℕ) (x : UpNode) (o : Option ℕ) → GoesPassing n (cuts.forming_course c n x o)
forming_p c n x None = tt
forming_p c n x (Some members) = leading_p c n x _ members

-- ---- each input

answer_p : (c : Cluster) (n : ℕ) (x : UpNode) (from : ℕ) (m : Message) (o : Option AttemptState) → IfSome o Unready → GoesPassing n (cuts.answer_course c n x from m o)
answer_p c n x from m None h = tt
answer_p c n x from m (Some a) h = going_p c n x a (Take from m) tt h

request_p : (n : ℕ) → (x : UpNode) (from : ℕ) (kind : SeizeKind) (e members d : ℕ) (o : Option SeizeResult) → GoesPassing n (cuts.request_course x from kind e members d o)
request_p n x from kind e members d (Some result) = (tt, tt)
request_p n x from kind e members d None = if_either (GoesPassing n) (installed_of x == e) (writing from (body.Seized e d seized.Fault)) (Acts (Accepts kind e members d) Stops) (tt, tt) (tt, tt)

seizing_p : (n : ℕ) → (x : UpNode) (from : ℕ) (kind : SeizeKind) (e members d : ℕ) → GoesPassing n (cuts.seizing_course x from kind e members d)
seizing_p n x from kind e members d = if_either (GoesPassing n) (is_in x e) (cuts.request_course x from kind e members d (kept_of x.tasks d)) Stops (request_p n x from kind e members d (kept_of x.tasks d)) tt

other_p : (c : Cluster) (n : ℕ) (ends : method.Outcome) (x : UpNode) (from : ℕ) (m : Message) (b : Body) → IsOtherBody b → GoesPassing n (cuts.body_course c n ends x from m b)
other_p c n ends x from m b is = quiet_p n (cuts.body_course c n ends x from m b) (other c n ends x from m b is)

body_p : (c : Cluster) (n : ℕ) (ends : method.Outcome) (x : UpNode) (from : ℕ) (m : Message) (b : Body) → IsUnready x → GoesPassing n (cuts.body_course c n ends x from m b)
body_p c n ends x from m (body.Promise e installed members valid flagged committed pending) h = answer_p c n x from m x.attempt h
body_p c n ends x from m (body.Nack e promised) h = answer_p c n x from m x.attempt h
body_p c n ends x from m (body.Seized e d ended) h = answer_p c n x from m x.attempt h
body_p c n ends x from m (body.Ready e devices told) h = answer_p c n x from m x.attempt h
body_p c n ends x from m (body.SeizeQuorum e members d) h = seizing_p n x from Vote e members d
body_p c n ends x from m (body.SeizeData e members d) h = seizing_p n x from Plain e members d
body_p c n ends x from m (body.Heartbeat promised session member) h = other_p c n ends x from m (body.Heartbeat promised session member) tt
body_p c n ends x from m (body.Collect p members) h = other_p c n ends x from m (body.Collect p members) tt
body_p c n ends x from m (body.Install i) h = other_p c n ends x from m (body.Install i) tt
body_p c n ends x from m (body.Start e) h = other_p c n ends x from m (body.Start e) tt
body_p c n ends x from m (body.Excluded e newest) h = other_p c n ends x from m (body.Excluded e newest) tt
body_p c n ends x from m (body.Prepare e place text) h = other_p c n ends x from m (body.Prepare e place text) tt
body_p c n ends x from m (body.Prepared e place) h = other_p c n ends x from m (body.Prepared e place) tt
body_p c n ends x from m (body.Commit e place) h = other_p c n ends x from m (body.Commit e place) tt
body_p c n ends x from m (body.Order o) h = other_p c n ends x from m (body.Order o) tt
body_p c n ends x from m (body.Done e number ended) h = other_p c n ends x from m (body.Done e number ended) tt
body_p c n ends x from m (body.Request e number text) h = other_p c n ends x from m (body.Request e number text) tt
body_p c n ends x from m (body.Answer e number text) h = other_p c n ends x from m (body.Answer e number text) tt

ticked_p : (c : Cluster) (n : ℕ) (x : UpNode) (o : Option AttemptState) → IfSome o Unready → GoesPassing n (cuts.ticked_course c n x o)
ticked_p c n x (Some a) h = going_p c n x a Call_tick tt h
ticked_p c n x None h =
    let y : UpNode = waiting_less x in
    if_either (GoesPassing n) (nat_le 1 x.beats.wait) (Acts Waits Stops) (Acts Waits (cuts.forming_course c n y (members_to_form c n y))) (tt, tt) (tt, forming_p c n y (members_to_form c n y))

distrusting_p : (n : ℕ) → (x : UpNode) (o : Option ℕ) → GoesPassing n (cuts.distrusting_course x o)
distrusting_p n x None = tt
distrusting_p n x (Some d) = if_either (GoesPassing n) (has (record_of x).valid d) (Keeps (Distrusts d) Stops) Stops (tt, tt) tt

own_seized_p : (c : Cluster) (n : ℕ) (x : UpNode) (d : ℕ) (r : SeizeResult) (o : Option AttemptState) → IfSome o Unready → GoesPassing n (cuts.own_seized_course c n x d r o)
own_seized_p c n x d r None h = tt
own_seized_p c n x d r (Some a) h = going_p c n x a (Own_seized d r) tt h

seized_p : (c : Cluster) (n : ℕ) (x : UpNode) (d : ℕ) (r : SeizeResult) (o : Option ℕ) → IsUnready x → GoesPassing n (cuts.seized_course c n x d r o)
seized_p c n x d r None h = tt
seized_p c n x d r (Some k) h =
    if_either (GoesPassing n) (k == n) (cuts.own_seized_course c n x d r x.attempt) (writing k (body.Seized (session_of x) d r)) (own_seized_p c n x d r x.attempt h) (tt, tt)

joined_course_p : (c : Cluster) (n : ℕ) (x : UpNode) (o : Option ℕ) → GoesPassing n (cuts.joined_course c n x o)
joined_course_p c n x None = tt
joined_course_p c n x (Some k) =
    if_either (GoesPassing n) (k == n) (cuts.own_ready_course c n x) (cuts.readying_course c x k) (own_ready_p c n x) (quiet_p n (cuts.readying_course c x k) (readying c x k))

joining_p : (c : Cluster) (n : ℕ) (x : UpNode) (at : ℕ) (k : PrCommand) (a : Answer) (d : ℕ) (r : JoinResult) → GoesPassing n (cuts.joining_course c n x at k a d r)
joining_p c n x at k a d join.Joined = let y : UpNode = joining_so (answered_so x a) d in (tt, joined_course_p c n y (coordinator_of y))
joining_p c n x at k a d (join.Late w) = let y : UpNode = answered_so x a in (tt, joined_course_p c n y (coordinator_of y))
joining_p c n x at k a d join.Fault = let y : UpNode = answered_so x a in (tt, joined_course_p c n y (coordinator_of y))

progress_p : (c : Cluster) (n : ℕ) (x : UpNode) (at : ℕ) (k : PrCommand) (a : Answer) (p : Progress) → IsUnready x → GoesPassing n (cuts.progress_course c n x at k a p)
progress_p c n x at k a GoesOn h = (tt, tt)
progress_p c n x at k a (Seized d r) h = let y : UpNode = answered_so x a in (tt, seized_p c n y d r (coordinator_of y) h)
progress_p c n x at k a (Joined d r) h = joining_p c n x at k a d r

answered_p : (c : Cluster) (n : ℕ) (x : UpNode) (a : Answer) (o : Option ℕ) (k : Option PrCommand) → IsUnready x → GoesPassing n (cuts.answered_course c n x a o k)
answered_p c n x a None k h = tt
answered_p c n x a (Some d) None h = tt
answered_p c n x a (Some d) (Some k) h = progress_p c n x d k a (progress_after x.tasks a) h

fenced_p : (n : ℕ) → (d : ℕ) (a : Answer) → GoesPassing n (cuts.fenced_course d a)
fenced_p n d (Ok given.Good) = tt
fenced_p n d (Ok given.Conflict) = tt
fenced_p n d _ = tt

input_p : (c : Cluster) (n : ℕ) (ends : method.Outcome) (x : UpNode) (i : Input) → IsUnready x → GoesPassing n (course_of c n ends x i)
input_p c n ends x Boot h = tt
input_p c n ends x Crash h = tt
input_p c n ends x Tick h =
    let y : UpNode = later c x in
    let k : Course = cuts.governing_course c n ends x y in
    (tt, joined_by c n y k (λ z. cuts.ticked_course c n z z.attempt) (quiet_p n k (governing c n ends x y)) (quiet_ends c n y k (governing c n ends x y) h) (λ z unready. ticked_p c n z z.attempt unready))
input_p c n ends x (Packet from m) h =
    let y : UpNode = hearing x from m.body in
    if_either (GoesPassing n) (is_foreign c n x m.body) Stops (Acts (Hears from m.body) (cuts.body_course c n ends y from m m.body)) tt (tt, body_p c n ends y from m m.body h)
input_p c n ends x CommandDue h = distrusting_p n x (begins_plainly x.tasks)
input_p c n ends x (Answered a) h = answered_p c n x a (due_device x.tasks) (next_of x.tasks) h
input_p c n ends x (Wrote d value a) h = (tt, fenced_p n d a)
input_p c n ends x (Commanded words) h = quiet_p n (cuts.command_course c n x words) (command c n x words)
input_p c n ends x (Reported r good) h = quiet_p n (cuts.report_course c n x r good) (report c n x r good)
input_p c n ends x (Client name number port) h = quiet_p n (cuts.client_course c x name number port) (client c x name number port)

-- ---- small steps

sends_next : (replies : List Reply) (m : ℕ) (b : Body) (k : Course) → SendsFirst m b k → SendsNext m b (under replies k)
sends_next replies m b (Acts (Writes to other_body) rest) (inl here) = inl here
sends_next replies m b (Acts (Writes to other_body) rest) (inr later_on) = inr (sends_next replies m b rest later_on)
sends_next replies m b _ h = absurd h

-- the start comes next, whatever comes of its save
starts_next : (replies : List Reply) (e : ℕ) (k : Course) → AreLosses replies → StartsFirst e k → StartsNext e (under replies k)
starts_next replies e (Acts (Makes (Starts a k s)) rest) losses h = h
starts_next [] e (Keeps (Starts a k s) rest) losses h = tt
starts_next (Done ∷ replies) e (Keeps (Starts a k s) rest) losses h = h
starts_next (Lost_new why ∷ replies) e (Keeps (Starts a k s) rest) losses h = losses.0
starts_next (Lost_old why ∷ replies) e (Keeps (Starts a k s) rest) losses h = losses.0
starts_next replies e _ losses h = absurd h

follows_next : (n : ℕ) (replies : List Reply) (change : Change) (rest : Course) → AreLosses replies → Follows n change rest → FollowsIn n change (under replies rest)
follows_next n replies (Counts a k s i) rest losses h = (λ m is. sends_next replies m (body.Install i) rest (h.0 m is), λ lonely. starts_next replies i.epoch rest losses (h.1 lonely))
follows_next n replies _ rest losses h = tt

under_p : (n : ℕ) (replies : List Reply) (k : Course) → AreLosses replies → GoesPassing n k → AllPass n (under replies k)
under_p n replies Stops losses h = tt
under_p n replies (Acts a rest) losses h = (h.0, under_p n replies rest losses h.1)
under_p n [] (Keeps change rest) losses h = (tt, tt)
under_p n (Done ∷ replies) (Keeps change rest) losses h = (follows_next n replies change rest losses h.0, under_p n replies rest losses h.1)
under_p n (Lost_new why ∷ replies) (Keeps change rest) losses h = (tt, tt)
under_p n (Lost_old why ∷ replies) (Keeps change rest) losses h = (tt, tt)
under_p n replies (Falls why) losses h = (tt, tt)

boot_p : (n : ℕ) → (replies : List Reply) → AllPass n (cuts.boot_doings replies)
boot_p n [] = (tt, (tt, tt))
boot_p n (Done ∷ replies) = (tt, tt)
boot_p n (Lost_new why ∷ replies) = (tt, (tt, tt))
boot_p n (Lost_old why ∷ replies) = (tt, (tt, tt))

pub doings_pass : (c : Cluster) (n now : ℕ) (ends : method.Outcome) (replies : List Reply) (i : Input) (node : Node) → AreLosses replies → NodeUnready node → AllPass n (cuts.doings c n now ends replies i node)
doings_pass c n now ends replies i (Up x) losses h = under_p n replies (course_at c n now ends x i) losses (tt, input_p c n ends (at_second now x) i h)
doings_pass c n now ends replies Boot Down losses h = boot_p n replies
doings_pass c n now ends replies _ Down losses h = tt
