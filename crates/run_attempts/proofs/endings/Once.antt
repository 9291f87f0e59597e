-- What a node does in a tick takes one tick of its attempt at most; what else it does takes none.
use Rattle.std.specs.Prelude.{ℕ, zero, suc, ◌==◌, ◌&&◌, Bool, true, List, Option, None, Some, Result, Ok, Err, if◌then◌else◌, false, nat_lt, [], ◌∷◌, is_some, ◌≡◌, nat_le}
use Rattle.admin_commands.specs.declared.accepted.Accepted.{Accepted}
use Rattle.admin_commands.specs.declared.accepted.Accepted.TheVariants as accepted
use Rattle.admin_commands.specs.declared.error.CheckError.{CheckError}
use Rattle.admin_commands.specs.declared.error.CheckError.TheVariants as because
use Rattle.admin_words.specs.Commands.{request_of}
use Rattle.admin_words.specs.declared.error.WordError.{WordError}
use Rattle.admin_words.specs.declared.request.Request.TheVariants as asked
use Rattle.admin_words.specs.declared.request.Request as wanted
use Rattle.ccr_tables.specs.declared.command.AdminCommand.TheVariants as wish
use Rattle.cl_base.specs.declared.command.Ask.{Ask}
use Rattle.cl_base.specs.declared.method.Outcome.{Outcome}
use Rattle.proposals.specs.Proposing.{goes_again}
use Rattle.proposals.specs.State.{first_in}
use Rattle.proposals.specs.declared.arrived.Arrived.{Arrived}
use Rattle.proposals.specs.declared.arrived.Proposed.{Proposed}
use Rattle.rgm_member.specs.Orders.{answer_to, outcome_in}
use Rattle.rgm_member.specs.declared.carried.Carried.{Carried}
use Rattle.rgm_president.specs.Decisions as decisions
use Rattle.rgm_state.specs.Outcomes as order
use Rattle.status_report.specs.declared.command_entry.Answer.{Answer}
use Rattle.status_report.specs.declared.command_entry.Answer.TheVariants as answer
use Rattle.update_words.specs.Words.{words_of}
use Rattle.wire.specs.declared.message.Order.{Order}
use Rattle.node_model.specs.declared.cluster.Cluster.{Cluster}
use Rattle.node_model.specs.declared.node.UpNode.{UpNode}
use Rattle.node_model.specs.declared.presidency.Presidency.{Presidency}
use Rattle.node_model.specs.Configurations.{in_force}
use Rattle.node_model.specs.Deciding.{is_held_up, may_order}
use Rattle.node_model.specs.Groups.{is_last, orders_again, own_order, with_ended}
use Rattle.node_model.specs.Presidents.{checked, is_busy, is_clear, others_of, proposed_by, requests_of, with_act, word_answer}
use Rattle.node_model.specs.Seats.{record_of, version_of, promised_of}
use Rattle.refinement.specs.Doings.{changed, acted, Act, Change, going}
use Rattle.refinement.specs.Doings.Act.{Gives, Makes, Ticks, Goes_on}
use Rattle.refinement.specs.Courses.{Course, joined, Reply, under}
use Rattle.refinement.specs.Courses.Course.{Acts, Falls, Keeps, Stops}
use Rattle.refinement.specs.Cuts as cuts
use Rattle.refinement.specs.Cuts.{acks_of, first_turn, left_answered}
use Rattle.std.specs.Option.{unwrap_or}
use Rattle.cmm_attempt.specs.declared.step.AttemptEnd.{AttemptEnd}
use Rattle.cmm_attempt.specs.declared.step.Step.{Step}
use Rattle.cmm_attempt.specs.declared.step.Step.TheVariants as step
use Rattle.cmm_attempt.specs.Attempts.{AttemptState, Turn, newest_installed}
use Rattle.cmm_attempt.specs.Calls.{Call, Own_ready, Own_seized, Take, With_votes, starts_in, turn, Tick as Call_tick}
use Rattle.cmm_member.specs.Nodes.{NodeState}
use Rattle.device_queue.specs.Queue.{joins}
use Rattle.seize.specs.declared.kind.SeizeKind.{SeizeKind}
use Rattle.wire.specs.declared.message.Install.{Install}
use Rattle.node_model.specs.declared.seat.Seat.{Seat}
use Rattle.node_model.specs.declared.seat.Seat.TheVariants.{Forming, Member}
use Rattle.node_model.specs.Attempts.{begins_install, installs_now, is_choosing, left_out_by, starts_now, votes_in, next_epoch}
use Rattle.refinement.specs.Doings.Change.{Counts, Leads, Starts}
use Rattle.refinement.specs.Courses.Reply.{Done, Lost_new, Lost_old}
use Rattle.refinement.specs.Ties.{Delivered}
use Rattle.std.proofs.Common.{refl, sym, subst}
use Rattle.cmm_attempt.proofs.Basics.{false_true}
use Rattle.node_model.specs.declared.input.Input.{Input}
use Rattle.node_model.specs.declared.input.Input.TheVariants.{Boot, Crash, Tick, Packet, CommandDue, Answered, Wrote, Commanded, Reported, Client}
use Rattle.node_model.specs.declared.node.Node.{Node}
use Rattle.node_model.specs.declared.node.Node.TheVariants.{Down, Up}
use Rattle.node_model.specs.Ticks.{later, members_to_form, waiting_less}
use Rattle.node_model.specs.Steps.{at_second}
use Rattle.run_attempts.specs.endings.Once.{ActOnce, AllOnce, CallOnce, ChangeOnce, GoesOnce, left_by, left_by_call, left_by_change}
use Rattle.run_attempts.specs.endings.Steps.{ActFits, CallFits, ChangeFits, GoesFit}
use Rattle.run_attempts.proofs.endings.Courses.{Bounds, BoundsIn, course_at_so}

-- ---- no tick is taken, and none comes

abbrev pub FreeCall : Call → Type 0
FreeCall Call_tick = ⊥
FreeCall (Take from m) = Unit {0}
FreeCall (With_votes both) = Unit {0}
FreeCall (Own_seized d r) = Unit {0}
FreeCall Own_ready = Unit {0}

abbrev pub FreeChange : Change → Type 0
FreeChange (Counts a k s i) = FreeCall k
FreeChange (Starts a k s) = FreeCall k
FreeChange (Leads p members) = ⊥
FreeChange _ = Unit {0}

abbrev pub FreeAct : Act → Type 0
FreeAct Ticks = ⊥
FreeAct (Goes_on a k) = FreeCall k
FreeAct (Makes change) = FreeChange change
FreeAct _ = Unit {0}

abbrev pub IsFree : Course → Type 0
IsFree Stops = Unit {0}
IsFree (Acts a rest) = FreeAct a × IsFree rest
IsFree (Keeps change rest) = FreeChange change × IsFree rest
IsFree (Falls why) = Unit {0}

call_once : (left : Bool) (k : Call) → FreeCall k → CallOnce left k
call_once left Call_tick h = absurd h
call_once left (Take from m) h = tt
call_once left (With_votes both) h = tt
call_once left (Own_seized d r) h = tt
call_once left Own_ready h = tt

change_once : (left : Bool) (change : Change) → FreeChange change → ChangeOnce left change
change_once left (Counts a k s i) h = call_once left k h
change_once left (Starts a k s) h = call_once left k h
change_once left _ h = tt

act_once : (left : Bool) (a : Act) → FreeAct a → ActOnce left a
act_once left (Goes_on a k) h = call_once left k h
act_once left (Makes change) h = change_once left change h
act_once left _ h = tt

free_once : (left : Bool) (k : Course) → IsFree k → GoesOnce left k
free_once left Stops h = tt
free_once left (Acts a rest) h = (act_once left a h.0, free_once (left_by left a) rest h.1)
free_once left (Keeps change rest) h = (change_once left change h.0, free_once (left_by_change left change) rest h.1)
free_once left (Falls why) h = tt

left_call : (left : Bool) (k : Call) → FreeCall k → left_by_call left k ≡ left
left_call left Call_tick h = absurd h
left_call left (Take from m) h = refl
left_call left (With_votes both) h = refl
left_call left (Own_seized d r) h = refl
left_call left Own_ready h = refl

left_change : (left : Bool) (change : Change) → FreeChange change → left_by_change left change ≡ left
left_change left (Counts a k s i) h = left_call left k h
left_change left (Leads p members) h = absurd h
left_change left _ h = refl

left_act : (left : Bool) (a : Act) → FreeAct a → left_by left a ≡ left
left_act left Ticks h = absurd h
left_act left (Goes_on a k) h = left_call left k h
left_act left (Makes change) h = left_change left change h
left_act left _ h = refl

-- what is free leaves what is left
free_then : (c : Cluster) (me : ℕ) (left : Bool) (x : UpNode) (k : Course) (next : UpNode → Course) → IsFree k → ((y : UpNode) → GoesOnce left (next y)) → GoesOnce left (joined c me x k next)
free_then c me left x Stops next h i = i x
free_then c me left x (Acts a rest) next h i =
    (act_once left a h.0, subst (λ l. GoesOnce l (joined c me (acted c me x a) rest next)) (sym (left_act left a h.0)) (free_then c me left (acted c me x a) rest next h.1 i))
free_then c me left x (Keeps change rest) next h i =
    (change_once left change h.0, subst (λ l. GoesOnce l (joined c me (changed c me x change) rest next)) (sym (left_change left change h.0)) (free_then c me left (changed c me x change) rest next h.1 i))
free_then c me left x (Falls why) next h i = tt

-- .. and what is free may follow
once_then : (c : Cluster) (me : ℕ) (left : Bool) (x : UpNode) (k : Course) (next : UpNode → Course) → GoesOnce left k → ((y : UpNode) → IsFree (next y)) → GoesOnce left (joined c me x k next)
once_then c me left x Stops next h i = free_once left (next x) (i x)
once_then c me left x (Acts a rest) next h i = (h.0, once_then c me (left_by left a) (acted c me x a) rest next h.1 i)
once_then c me left x (Keeps change rest) next h i = (h.0, once_then c me (left_by_change left change) (changed c me x change) rest next h.1 i)
once_then c me left x (Falls why) next h i = tt

-- ---- what a president does

either_free : (b : Bool) (k l : Course) → IsFree k → IsFree l → IsFree (if b then k else l)
either_free true k l h i = h
either_free false k l h i = i

then_free : (c : Cluster) (me : ℕ) (x : UpNode) (k : Course) (next : UpNode → Course) → IsFree k → ((y : UpNode) → IsFree (next y)) → IsFree (joined c me x k next)
then_free c me x Stops next h i = i x
then_free c me x (Acts a rest) next h i = (h.0, then_free c me (acted c me x a) rest next h.1 i)
then_free c me x (Keeps change rest) next h i = (h.0, then_free c me (changed c me x change) rest next h.1 i)
then_free c me x (Falls why) next h i = tt

decided_free : (me : ℕ) (x : UpNode) (p : Presidency) (t : decisions.Turn) → IsFree (cuts.decided_course me x p t)
decided_free me x p t = (tt, (tt, tt))

deciding_by_free : (c : Cluster) (me : ℕ) (x : UpNode) (o : Option Presidency) → IsFree (cuts.deciding_by_course c me x o)
deciding_by_free c me x None = tt
deciding_by_free c me x (Some p) = either_free (may_order p.groups) _ _ (decided_free me x p (decisions.decision (in_force c x) x.second (is_held_up p) p.groups)) tt

pub deciding_free : (c : Cluster) (me : ℕ) (x : UpNode) → IsFree (cuts.deciding_course c me x)
deciding_free c me x = deciding_by_free c me x x.presidency

answering_free : (c : Cluster) (me : ℕ) (x : UpNode) (p : Presidency) (a : Arrived) (told : Answer) → IsFree (cuts.answering_course c me x p a told)
answering_free c me x p a told = (tt, (tt, deciding_free c me (left_answered me x p a told)))

acknowledged_free : (c : Cluster) (me : ℕ) (x : UpNode) (p : Presidency) (a : Arrived) (text : List ℕ) → IsFree (cuts.acknowledged_course c me x p a text)
acknowledged_free c me x p a text = (tt, (tt, (tt, deciding_free c me (changed c me x (acks_of c me x p a text)))))

acknowledging_text_free : (c : Cluster) (me : ℕ) (x : UpNode) (p : Presidency) (o : Option Arrived) (text : Option (List ℕ)) → IsFree (cuts.acknowledging_text_course c me x p o text)
acknowledging_text_free c me x p (Some a) (Some text) = acknowledged_free c me x p a text
acknowledging_text_free c me x p None text = tt
acknowledging_text_free c me x p (Some a) None = tt

acknowledging_by_free : (c : Cluster) (me : ℕ) (x : UpNode) (o : Option Presidency) → IsFree (cuts.acknowledging_by_course c me x o)
acknowledging_by_free c me x None = tt
acknowledging_by_free c me x (Some p) = acknowledging_text_free c me x p (first_in p.proposals.arrived) (record_of x).entries.pending

pub acknowledging_free : (c : Cluster) (me : ℕ) (x : UpNode) → IsFree (cuts.acknowledging_course c me x)
acknowledging_free c me x = acknowledging_by_free c me x x.presidency

proposing_free : (c : Cluster) (me : ℕ) (x : UpNode) (p : Presidency) (text : List ℕ) → IsFree (cuts.proposing_course c me x p text)
proposing_free c me x p text = (tt, (tt, either_free (others_of me x == 0) _ _ (acknowledging_free c me (proposed_by c me x p text)) tt))

acting_free : (c : Cluster) (me : ℕ) (x : UpNode) (p : Presidency) (a : Arrived) (ask : Ask) → IsFree (cuts.acting_course c me x p a ask)
acting_free c me x p a ask = either_free (may_order p.groups) _ _ (tt, answering_free c me x (with_act c me x p a ask) a answer.Ok) tt

taken_as_free : (c : Cluster) (me : ℕ) (x : UpNode) (p : Presidency) (a : Arrived) (r : Result Accepted CheckError) → IsFree (cuts.taken_as_course c me x p a r)
taken_as_free c me x p a (Ok (accepted.Change u)) = proposing_free c me x p (words_of u)
taken_as_free c me x p a (Ok (accepted.Act ask)) = acting_free c me x p a ask
taken_as_free c me x p a (Ok (accepted.Query q)) = answering_free c me x p a answer.Ok
taken_as_free c me x p a (Err (because.Refused r)) = answering_free c me x p a (answer.Refused r)
taken_as_free c me x p a (Err because.NoMemory) = tt

taken_free : (c : Cluster) (me : ℕ) (x : UpNode) (p : Presidency) (a : Arrived) (r : Result wanted.Request WordError) → IsFree (cuts.taken_course c me x p a r)
taken_free c me x p a (Ok (asked.Change u)) = either_free (is_busy p.groups) _ _ tt (taken_as_free c me x p a (checked c x p (wish.Change u)))
taken_free c me x p a (Ok (asked.Act ask)) = either_free (is_busy p.groups && is_clear ask) _ _ tt (taken_as_free c me x p a (checked c x p (wish.Act ask)))
taken_free c me x p a (Err e) = answering_free c me x p a (word_answer e)

turn_of_free : (c : Cluster) (me : ℕ) (x : UpNode) (p : Presidency) (o : Option Proposed) (first : Option Arrived) → IsFree (cuts.turn_of_course c me x p o first)
turn_of_free c me x p None (Some a) = taken_free c me x p a (request_of (version_of c) a.text)
turn_of_free c me x p None None = tt
turn_of_free c me x p (Some proposed) first = tt

turn_by_free : (c : Cluster) (me : ℕ) (x : UpNode) (o : Option Presidency) → IsFree (cuts.turn_by_course c me x o)
turn_by_free c me x None = tt
turn_by_free c me x (Some p) = turn_of_free c me x p p.proposals.proposed (first_in p.proposals.arrived)

one_turn_free : (c : Cluster) (me : ℕ) (x : UpNode) → IsFree (cuts.one_turn_course c me x)
one_turn_free c me x = turn_by_free c me x x.presidency

turns_free : (c : Cluster) (me : ℕ) (x : UpNode) (k : ℕ) → IsFree (cuts.turns_course c me x k)
turns_free c me x zero = tt
turns_free c me x (suc k) = then_free c me x _ _ (turns_free c me x k) (λ z. one_turn_free c me z)

pub handling_free : (c : Cluster) (me : ℕ) (x : UpNode) → IsFree (cuts.handling_course c me x)
handling_free c me x = turns_free c me x (requests_of x x.presidency)

pub done_at_free : (c : Cluster) (me : ℕ) (x : UpNode) (from number : ℕ) (outcome : Outcome) (o : Option Presidency) → IsFree (cuts.done_at_course c me x from number outcome o)
done_at_free c me x from number outcome None = tt
done_at_free c me x from number outcome (Some p) = either_free (order.is_due p.groups.view from number) _ _ (tt, then_free c me (record x { presidency = Some (with_ended c x p from number outcome) }) _ _ (deciding_free c me (record x { presidency = Some (with_ended c x p from number outcome) })) (λ z. handling_free c me z)) tt

pub carrying_free : (c : Cluster) (me : ℕ) (x : UpNode) (o : Order) (how : Carried) → IsFree (cuts.carrying_course c me x o how)
carrying_free c me x o how = (tt, either_free (is_last c x o how) _ _ tt (tt, tt))

own_done_free : (c : Cluster) (me : ℕ) (o : Order) (how : Carried) (x : UpNode) → IsFree (cuts.own_done_course c me o how x)
own_done_free c me o how x = done_at_free c me x me o.number (outcome_in how) x.presidency

own_turn_free : (c : Cluster) (me : ℕ) (outcome : Outcome) (x : UpNode) (o : Option Order) → IsFree (cuts.own_turn_course c me outcome x o)
own_turn_free c me outcome x None = tt
own_turn_free c me outcome x (Some o) = then_free c me x (cuts.carrying_course c me x o (answer_to x.worker o outcome)) _ (carrying_free c me x o (answer_to x.worker o outcome)) (λ z. own_done_free c me o (answer_to x.worker o outcome) z)

prepares_free : (x : UpNode) (o : Option Proposed) (text : Option (List ℕ)) (rest : Course) → IsFree rest → IsFree (cuts.prepares_course x o text rest)
prepares_free x (Some p) (Some text) rest h = (tt, h)
prepares_free x None text rest h = h
prepares_free x (Some p) None rest h = h

prepares_again_free : (x : UpNode) (o : Option Presidency) (rest : Course) → IsFree rest → IsFree (cuts.prepares_again_course x o rest)
prepares_again_free x None rest h = h
prepares_again_free x (Some p) rest h = either_free (goes_again p.proposals) _ _ (prepares_free x p.proposals.proposed (record_of x).entries.pending rest h) h

going_again_free : (c : Cluster) (me : ℕ) (before x : UpNode) → IsFree (cuts.going_again_course c me before x)
going_again_free c me before x = prepares_again_free before before.presidency (Acts (Gives (orders_again before x)) (cuts.deciding_course c me x)) (tt, deciding_free c me x)

pub governing_free : (c : Cluster) (me : ℕ) (outcome : Outcome) (before x : UpNode) → IsFree (cuts.governing_course c me outcome before x)
governing_free c me outcome before x = then_free c me x _ _ (own_turn_free c me outcome x (own_order me x)) (λ z. going_again_free c me before z)

-- ---- the steps of an attempt

excluded_free : (me e newest : ℕ) (o : Option ℕ) → IsFree (cuts.excluded_course me e newest o)
excluded_free me e newest None = tt
excluded_free me e newest (Some m) = either_free (m == me) _ _ tt (tt, tt)

ended_free : (me : ℕ) (e : AttemptEnd) (o : Option AttemptState) → IsFree (cuts.ended_course me e o)
ended_free me e None = tt
ended_free me e (Some a) = (tt, excluded_free me a.plan.epoch (unwrap_or (newest_installed a) 0) (left_out_by e))

queued_free : (d : ℕ) (kind : SeizeKind) (o : Option AttemptState) → IsFree (cuts.queued_course d kind o)
queued_free d kind None = tt
queued_free d kind (Some a) = (tt, tt)

step_free : (me : ℕ) (x : UpNode) (s : Step) → IsFree (cuts.step_course me x s)
step_free me x (step.Send to m) = (tt, tt)
step_free me x (step.SeizeHere d kind) = queued_free d kind x.attempt
step_free me x (step.NeedVotes n) = tt
step_free me x (step.InstallHere i) = tt
step_free me x step.StartHere = tt
step_free me x (step.Ended e) = ended_free me e x.attempt

steps_free : (c : Cluster) (me : ℕ) (x : UpNode) (steps : List Step) → IsFree (cuts.steps_course c me x steps)
steps_free c me x [] = tt
steps_free c me x (s ∷ steps) = then_free c me x _ _ (step_free me x s) (λ y. steps_free c me y steps)

kept_if_free : (keeps : Bool) (change : Change) (rest : Course) → FreeChange change → IsFree rest → IsFree (cuts.kept_if keeps change rest)
kept_if_free true change rest h k = (h, k)
kept_if_free false change rest h k = (h, k)

gone_on_free : (c : Cluster) (me : ℕ) (x : UpNode) (a : AttemptState) (k : Call) (steps : List Step) → FreeCall k → IsFree (cuts.gone_on c me x a k steps)
gone_on_free c me x a k steps f = (f, steps_free c me (going x a k) steps)

counted_free : (c : Cluster) (me : ℕ) (x : UpNode) (a : AttemptState) (k : Call) (i : Install) (rest : List Step) (seat : Seat) → FreeCall k → IsFree (cuts.counted c me x a k i rest seat)
counted_free c me x a k i rest (Member s) f = gone_on_free c me x a k rest f
counted_free c me x a k i rest (Forming s) f = either_free (installs_now s i) _ _ (f, steps_free c me (changed c me x (Counts a k s i)) rest) (gone_on_free c me x a k rest f)

started_free : (c : Cluster) (me : ℕ) (x : UpNode) (a : AttemptState) (k : Call) (rest : List Step) (seat : Seat) → FreeCall k → IsFree (cuts.started c me x a k rest seat)
started_free c me x a k rest (Member s) f = gone_on_free c me x a k rest f
started_free c me x a k rest (Forming s) f = either_free (starts_now s (turn a k).after.plan.epoch) _ _ (kept_if_free (is_some s.saved.entries.pending) (Starts a k s) (cuts.steps_course c me (changed c me x (Starts a k s)) rest) f (steps_free c me (changed c me x (Starts a k s)) rest)) (gone_on_free c me x a k rest f)

turned_by_free : (c : Cluster) (me : ℕ) (x : UpNode) (a : AttemptState) (k : Call) (steps : List Step) → FreeCall k → IsFree (cuts.turned_by c me x a k steps)
turned_by_free c me x a k [] f = gone_on_free c me x a k [] f
turned_by_free c me x a k (step.InstallHere i ∷ rest) f = counted_free c me x a k i rest x.seat f
turned_by_free c me x a k (step.StartHere ∷ rest) f = started_free c me x a k rest x.seat f
turned_by_free c me x a k (step.Send to m ∷ rest) f = gone_on_free c me x a k (step.Send to m ∷ rest) f
turned_by_free c me x a k (step.SeizeHere d kind ∷ rest) f = gone_on_free c me x a k (step.SeizeHere d kind ∷ rest) f
turned_by_free c me x a k (step.NeedVotes n ∷ rest) f = gone_on_free c me x a k (step.NeedVotes n ∷ rest) f
turned_by_free c me x a k (step.Ended e ∷ rest) f = gone_on_free c me x a k (step.Ended e ∷ rest) f

turned_free : (c : Cluster) (me : ℕ) (x : UpNode) (a : AttemptState) (k : Call) → FreeCall k → IsFree (cuts.turned c me x a k)
turned_free c me x a k f = turned_by_free c me x a k (turn a k).steps f

if_started_free : (c : Cluster) (me : ℕ) (steps : List Step) (y : UpNode) → IsFree (cuts.if_started c me steps y)
if_started_free c me steps y = either_free (starts_in steps) _ _ (deciding_free c me y) tt

turned_all_free : (c : Cluster) (me : ℕ) (x : UpNode) (a : AttemptState) (k : Call) → FreeCall k → IsFree (cuts.turned_all c me x a k)
turned_all_free c me x a k f = then_free c me x _ _ (turned_free c me x a k f) (λ z. if_started_free c me (turn a k).steps z)

readied_free : (c : Cluster) (me : ℕ) (x : UpNode) (o : Option AttemptState) → IsFree (cuts.readied_course c me x o)
readied_free c me x None = tt
readied_free c me x (Some a) = turned_all_free c me x a Own_ready tt

own_ready_free : (c : Cluster) (me : ℕ) (x : UpNode) → IsFree (cuts.own_ready_course c me x)
own_ready_free c me x = either_free (joins x.tasks) _ _ tt (readied_free c me x x.attempt)

if_installed_free : (c : Cluster) (me : ℕ) (steps : List Step) (y : UpNode) → IsFree (cuts.if_installed c me steps y)
if_installed_free c me steps y = either_free (begins_install steps) _ _ (own_ready_free c me y) tt

called_free : (c : Cluster) (me : ℕ) (x : UpNode) (a : AttemptState) (k : Call) → FreeCall k → IsFree (cuts.called c me x a k)
called_free c me x a k f = then_free c me x _ _ (turned_all_free c me x a k f) (λ z. if_installed_free c me (turn a k).steps z)

pub begun_free : (c : Cluster) (me : ℕ) (x : UpNode) (t : Turn) → IsFree (cuts.begun_course c me x t)
begun_free c me x t = either_free (is_choosing t.after.phase) _ _ (called_free c me x t.after (With_votes (votes_in c t.after)) tt) (steps_free c me x t.steps)

-- ---- a tick

either_once : (left : Bool) (b : Bool) (k l : Course) → GoesOnce left k → GoesOnce left l → GoesOnce left (if b then k else l)
either_once left true k l h i = h
either_once left false k l h i = i

gone_on_once : (c : Cluster) (me : ℕ) (x : UpNode) (a : AttemptState) (steps : List Step) → GoesOnce true (cuts.gone_on c me x a Call_tick steps)
gone_on_once c me x a steps = (refl, free_once false (cuts.steps_course c me (going x a Call_tick) steps) (steps_free c me (going x a Call_tick) steps))

counted_once : (c : Cluster) (me : ℕ) (x : UpNode) (a : AttemptState) (i : Install) (rest : List Step) (seat : Seat) → GoesOnce true (cuts.counted c me x a Call_tick i rest seat)
counted_once c me x a i rest (Member s) = gone_on_once c me x a rest
counted_once c me x a i rest (Forming s) =
    either_once true (installs_now s i) _ _ (refl, free_once false _ (steps_free c me (changed c me x (Counts a Call_tick s i)) rest)) (gone_on_once c me x a rest)

kept_if_once : (keeps : Bool) (a : AttemptState) (s : NodeState) (rest : Course) → IsFree rest → GoesOnce true (cuts.kept_if keeps (Starts a Call_tick s) rest)
kept_if_once true a s rest h = (refl, free_once true rest h)
kept_if_once false a s rest h = (refl, free_once true rest h)

started_once : (c : Cluster) (me : ℕ) (x : UpNode) (a : AttemptState) (rest : List Step) (seat : Seat) → GoesOnce true (cuts.started c me x a Call_tick rest seat)
started_once c me x a rest (Member s) = gone_on_once c me x a rest
started_once c me x a rest (Forming s) =
    either_once true (starts_now s (turn a Call_tick).after.plan.epoch) _ _
    (kept_if_once (is_some s.saved.entries.pending) a s (cuts.steps_course c me (changed c me x (Starts a Call_tick s)) rest) (steps_free c me (changed c me x (Starts a Call_tick s)) rest)) (gone_on_once c me x a rest)

turned_by_once : (c : Cluster) (me : ℕ) (x : UpNode) (a : AttemptState) (steps : List Step) → GoesOnce true (cuts.turned_by c me x a Call_tick steps)
turned_by_once c me x a [] = gone_on_once c me x a []
turned_by_once c me x a (step.InstallHere i ∷ rest) = counted_once c me x a i rest x.seat
turned_by_once c me x a (step.StartHere ∷ rest) = started_once c me x a rest x.seat
turned_by_once c me x a (step.Send to m ∷ rest) = gone_on_once c me x a (step.Send to m ∷ rest)
turned_by_once c me x a (step.SeizeHere d kind ∷ rest) = gone_on_once c me x a (step.SeizeHere d kind ∷ rest)
turned_by_once c me x a (step.NeedVotes n ∷ rest) = gone_on_once c me x a (step.NeedVotes n ∷ rest)
turned_by_once c me x a (step.Ended e ∷ rest) = gone_on_once c me x a (step.Ended e ∷ rest)

called_once : (c : Cluster) (me : ℕ) (x : UpNode) (a : AttemptState) → GoesOnce true (cuts.called c me x a Call_tick)
called_once c me x a =
    once_then c me true x (cuts.turned_all c me x a Call_tick) _
    (once_then c me true x (cuts.turned c me x a Call_tick) _ (turned_by_once c me x a (turn a Call_tick).steps) (λ y. if_started_free c me (turn a Call_tick).steps y)) (λ y. if_installed_free c me (turn a Call_tick).steps y)

going_once : (c : Cluster) (me : ℕ) (x : UpNode) (a : AttemptState) → GoesOnce true (cuts.going_course c me x a Call_tick)
going_once c me x a =
    either_once true (is_choosing (turn a Call_tick).after.phase) _ _
    (refl, free_once false _ (called_free c me (going x a Call_tick) (turn a Call_tick).after (With_votes (votes_in c (turn a Call_tick).after)) tt)) (called_once c me x a)

leading_once : (c : Cluster) (me : ℕ) (x : UpNode) (p members : ℕ) → GoesOnce true (cuts.leading_course c me x p members)
leading_once c me x p members =
    either_once true (nat_lt (promised_of x) p) _ _ (tt, free_once false _ (begun_free c me (changed c me x (Leads p members)) (cuts.first_turn c me x p members))) tt

forming_once : (c : Cluster) (me : ℕ) (x : UpNode) (o : Option ℕ) → GoesOnce true (cuts.forming_course c me x o)
forming_once c me x None = tt
forming_once c me x (Some members) = leading_once c me x (next_epoch me x) members

ticked_once : (c : Cluster) (me : ℕ) (x : UpNode) (o : Option AttemptState) → GoesOnce true (cuts.ticked_course c me x o)
ticked_once c me x (Some a) = going_once c me x a
ticked_once c me x None = either_once true (nat_le 1 x.beats.wait) _ _ (tt, tt) (tt, forming_once c me (waiting_less x) (members_to_form c me (waiting_less x)))

tick_once : (c : Cluster) (me : ℕ) (outcome : Outcome) (x : UpNode) → GoesOnce false (cuts.tick_course c me outcome x)
tick_once c me outcome x =
    (tt, free_then c me true (later c x) (cuts.governing_course c me outcome x (later c x)) _ (governing_free c me outcome x (later c x)) (λ y. ticked_once c me y y.attempt))

-- ---- what comes otherwise

fits_call : (told : Delivered) (left : Bool) (k : Call) → CallFits told false k → CallOnce left k
fits_call told left Call_tick h = absurd (false_true h)
fits_call told left (Take from m) h = tt
fits_call told left (With_votes both) h = tt
fits_call told left (Own_seized d r) h = tt
fits_call told left Own_ready h = tt

fits_change : (told : Delivered) (left : Bool) (change : Change) → ChangeFits told false change → ChangeOnce left change
fits_change told left (Counts a k s i) h = fits_call told left k h
fits_change told left (Starts a k s) h = fits_call told left k h
fits_change told left _ h = tt

fits_act : (told : Delivered) (left : Bool) (x : UpNode) (a : Act) → ActFits told false x a → ActOnce left a
fits_act told left x (Goes_on a k) h = fits_call told left k h
fits_act told left x (Makes change) h = fits_change told left change h
fits_act told left x _ h = tt

pub fits_once : (c : Cluster) (me : ℕ) (told : Delivered) (left : Bool) (x : UpNode) (k : Course) → GoesFit c me told false x k → GoesOnce left k
fits_once c me told left x Stops h = tt
fits_once c me told left x (Acts a rest) h = (fits_act told left x a h.0, fits_once c me told (left_by left a) (acted c me x a) rest h.1)
fits_once c me told left x (Keeps change rest) h = (fits_change told left change h.0, fits_once c me told (left_by_change left change) (changed c me x change) rest h.1)
fits_once c me told left x (Falls why) h = tt

-- ---- under all replies of the disk

under_once : (left : Bool) (replies : List Reply) (k : Course) → GoesOnce left k → AllOnce left (under replies k)
under_once left replies Stops h = tt
under_once left replies (Acts a rest) h = (h.0, under_once (left_by left a) replies rest h.1)
under_once left [] (Keeps change rest) h = (tt, tt)
under_once left (Done ∷ replies) (Keeps change rest) h = (h.0, under_once (left_by_change left change) replies rest h.1)
under_once left (Lost_new why ∷ replies) (Keeps change rest) h = (tt, tt)
under_once left (Lost_old why ∷ replies) (Keeps change rest) h = (tt, tt)
under_once left replies (Falls why) h = (tt, tt)

boot_once : (replies : List Reply) → AllOnce false (cuts.boot_doings replies)
boot_once [] = (tt, (tt, tt))
boot_once (Done ∷ replies) = (tt, tt)
boot_once (Lost_new why ∷ replies) = (tt, (tt, tt))
boot_once (Lost_old why ∷ replies) = (tt, (tt, tt))

course_once : (c : Cluster) (me now : ℕ) (outcome : Outcome) (x : UpNode) (i : Input) → Bounds me x i → GoesOnce false (cuts.course_at c me now outcome x i)
course_once c me now outcome x Tick most = (tt, tick_once c me outcome (at_second now x))
course_once c me now outcome x Boot most = fits_once c me None false x (cuts.course_at c me now outcome x Boot) (course_at_so c me None false now outcome x Boot refl refl most)
course_once c me now outcome x Crash most = fits_once c me None false x (cuts.course_at c me now outcome x Crash) (course_at_so c me None false now outcome x Crash refl refl most)
course_once c me now outcome x (Packet from m) most = fits_once c me (Some (from, m)) false x (cuts.course_at c me now outcome x (Packet from m)) (course_at_so c me (Some (from, m)) false now outcome x (Packet from m) refl refl most)
course_once c me now outcome x CommandDue most = fits_once c me None false x (cuts.course_at c me now outcome x CommandDue) (course_at_so c me None false now outcome x CommandDue refl refl most)
course_once c me now outcome x (Answered a) most = fits_once c me None false x (cuts.course_at c me now outcome x (Answered a)) (course_at_so c me None false now outcome x (Answered a) refl refl most)
course_once c me now outcome x (Wrote d value a) most = fits_once c me None false x (cuts.course_at c me now outcome x (Wrote d value a)) (course_at_so c me None false now outcome x (Wrote d value a) refl refl most)
course_once c me now outcome x (Commanded words) most = fits_once c me None false x (cuts.course_at c me now outcome x (Commanded words)) (course_at_so c me None false now outcome x (Commanded words) refl refl most)
course_once c me now outcome x (Reported r good) most = fits_once c me None false x (cuts.course_at c me now outcome x (Reported r good)) (course_at_so c me None false now outcome x (Reported r good) refl refl most)
course_once c me now outcome x (Client name client port) most =
    fits_once c me None false x (cuts.course_at c me now outcome x (Client name client port)) (course_at_so c me None false now outcome x (Client name client port) refl refl most)

pub doings_once : (c : Cluster) (me now : ℕ) (ends : Outcome) (replies : List Reply) (i : Input) (node : Node) → BoundsIn me node i → AllOnce false (cuts.doings c me now ends replies i node)
doings_once c me now ends replies i (Up x) most = under_once false replies (cuts.course_at c me now ends x i) (course_once c me now ends x i most)
doings_once c me now ends replies Boot Down most = boot_once replies
doings_once c me now ends replies Crash Down most = tt
doings_once c me now ends replies Tick Down most = tt
doings_once c me now ends replies (Packet from m) Down most = tt
doings_once c me now ends replies CommandDue Down most = tt
doings_once c me now ends replies (Answered a) Down most = tt
doings_once c me now ends replies (Wrote d value a) Down most = tt
doings_once c me now ends replies (Commanded words) Down most = tt
doings_once c me now ends replies (Reported r good) Down most = tt
doings_once c me now ends replies (Client name client port) Down most = tt
