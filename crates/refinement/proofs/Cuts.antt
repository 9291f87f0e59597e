-- What a node does in a step is its course.
use Rattle.std.specs.Prelude.{ℕ, zero, suc, ◌≡◌, ◌==◌, ◌&&◌, nat_le, nat_lt, not, Bool, true, false, List, [], ◌∷◌, ◌++◌, Option, None, Some, Result, Ok, Err, is_some, length, if◌then◌else◌}
use Rattle.std.proofs.Common.{refl, sym, ap, ◌∙◌, subst}
use Rattle.std.specs.Option.{unwrap_or}
use Rattle.admin_commands.specs.declared.accepted.Accepted.{Accepted}
use Rattle.admin_commands.specs.declared.accepted.Accepted.TheVariants as accepted
use Rattle.admin_commands.specs.declared.error.CheckError.{CheckError}
use Rattle.admin_commands.specs.declared.error.CheckError.TheVariants as because
use Rattle.admin_words.specs.Commands.{command_of, request_of}
use Rattle.admin_words.specs.declared.error.WordError.{WordError}
use Rattle.admin_words.specs.declared.request.Request.TheVariants as asked
use Rattle.admin_words.specs.declared.request.Request as wanted
use Rattle.answer_words.specs.Answers.{answer_in}
use Rattle.ccr_commit.specs.declared.entries.Prepared.{Prepared}
use Rattle.ccr_commit.specs.declared.entries.Prepared.TheVariants.{Taken, Already, Gap}
use Rattle.ccr_tables.specs.State.{ConfigState}
use Rattle.ccr_tables.specs.declared.command.AdminCommand.{AdminCommand}
use Rattle.ccr_tables.specs.declared.command.AdminCommand.TheVariants as wish
use Rattle.cl_base.specs.Sets.{has}
use Rattle.cl_base.specs.declared.command.Ask.{Ask}
use Rattle.cl_base.specs.declared.method.Outcome.{Outcome}
use Rattle.cl_base.specs.Seizings.{SeizeResult}
use Rattle.cl_base.specs.declared.panic.Panic.TheVariants as panic
use Rattle.ccr_commit.specs.Entries.{all_committed, answer_for, texts_of}
use Rattle.cmm_attempt.specs.declared.step.AttemptEnd.{AttemptEnd}
use Rattle.cmm_attempt.specs.declared.step.Step.{Step}
use Rattle.cmm_attempt.specs.declared.step.Step.TheVariants as step
use Rattle.cmm_attempt.specs.Attempts.{AttemptState, Turn, newest_installed}
use Rattle.cmm_attempt.specs.Calls.{Call, Own_ready, Own_seized, Take, Tick as Call_tick, With_votes, starts_in, turn}
use Rattle.cmm_member.specs.Nodes.{NodeState}
use Rattle.cmm_member.specs.Records.{NodeRecord}
use Rattle.device_queue.specs.declared.progress.Progress.{Progress}
use Rattle.device_queue.specs.declared.progress.Progress.TheVariants.{GoesOn, Seized, Joined}
use Rattle.device_queue.specs.Queue.{begins_plainly, due_device, joins, kept_of, next_of, progress_after}
use Rattle.pgr_device.specs.declared.command.PrAnswer.TheVariants as given
use Rattle.pgr_device.specs.declared.command.PrCommand.{PrCommand}
use Rattle.proposals.specs.Arrivals as arrivals
use Rattle.proposals.specs.Arrivals.{arrival_of, with_arrival}
use Rattle.proposals.specs.Proposing.{goes_again, is_prepared, prepared_by}
use Rattle.proposals.specs.State.{State, first_in, kept_at}
use Rattle.proposals.specs.declared.arrived.Arrival.{Arrival}
use Rattle.proposals.specs.declared.arrived.Arrival.TheVariants.{New, Waits as Waits_already, Answered as Answered_last, Past}
use Rattle.proposals.specs.declared.arrived.Arrived.{Arrived}
use Rattle.proposals.specs.declared.arrived.Kept.{Kept}
use Rattle.proposals.specs.declared.arrived.Proposed.{Proposed}
use Rattle.record_disk.specs.Savings.{Saving}
use Rattle.request_queue.specs.Queue as queue
use Rattle.request_queue.specs.Queue.{Queue, found, is_full, next_number, oldest, with_request}
use Rattle.request_queue.specs.declared.request.Request.{Request}
use Rattle.rgm_member.specs.Orders.{answer_to, outcome_in}
use Rattle.rgm_member.specs.Probes.{probed}
use Rattle.rgm_member.specs.declared.carried.Carried.{Carried}
use Rattle.rgm_member.specs.declared.carried.Carried.TheVariants as carried
use Rattle.rgm_member.specs.declared.probed.Probed.{Probed}
use Rattle.rgm_member.specs.declared.probed.Probed.TheVariants as probe
use Rattle.rgm_president.specs.Decisions as decisions
use Rattle.rgm_state.specs.Outcomes as order
use Rattle.seize.specs.Answers.{Answer as DeviceAnswer}
use Rattle.seize.specs.declared.kind.JoinResult.{JoinResult}
use Rattle.seize.specs.declared.kind.JoinResult.TheVariants as join
use Rattle.seize.specs.declared.kind.SeizeKind.{SeizeKind}
use Rattle.seize.specs.declared.kind.SeizeKind.TheVariants.{Vote, Plain}
use Rattle.status_report.specs.CommandLines.{reply_text}
use Rattle.status_report.specs.declared.attempt_entry.AttemptEntry.TheVariants as attempt
use Rattle.status_report.specs.declared.command_entry.Answer.{Answer}
use Rattle.status_report.specs.declared.command_entry.Answer.TheVariants as answer
use Rattle.status_report.specs.declared.command_entry.CommandEntry.TheVariants as command
use Rattle.status_report.specs.declared.entry.Entry.TheVariants as entry
use Rattle.status_report.specs.declared.node_entry.DownCause.TheVariants as down
use Rattle.status_report.specs.declared.node_entry.NodeEntry.TheVariants as note
use Rattle.status_report.specs.declared.status_entry.StatusEntry.{StatusEntry}
use Rattle.update_words.specs.Words.{ask_words_of, words_of}
use Rattle.wire.specs.declared.message.Body.{Body}
use Rattle.wire.specs.declared.message.Body.TheVariants as body
use Rattle.wire.specs.declared.message.Install.{Install}
use Rattle.wire.specs.declared.message.Message.{Message}
use Rattle.wire.specs.declared.message.Order.{Order}
use Rattle.node_model.specs.Addresses as addresses
use Rattle.ccr_tables.specs.declared.address.Address.{Address}
use Rattle.rg_props.specs.Lookups.{named}
use Rattle.shared_address.specs.Choosing as serving
use Rattle.shared_address.specs.History as clients
use Rattle.node_model.specs.declared.cluster.Cluster.{Cluster}
use Rattle.node_model.specs.declared.input.Input.{Input}
use Rattle.node_model.specs.declared.input.Input.TheVariants.{Boot, Crash, Tick, Packet, CommandDue, Answered, Wrote, Commanded, Reported, Client}
use Rattle.node_model.specs.declared.node.UpNode.{UpNode}
use Rattle.node_model.specs.declared.output.Output.{Output}
use Rattle.node_model.specs.declared.output.Output.TheVariants.{Tells}
use Rattle.node_model.specs.declared.presidency.Presidency.{Presidency}
use Rattle.node_model.specs.declared.seat.Seat.{Seat}
use Rattle.node_model.specs.declared.seat.Seat.TheVariants.{Forming, Member}
use Rattle.node_model.specs.Attempts as plans
use Rattle.node_model.specs.Attempts.{base_lines, begins_install, installs_now, is_choosing, left_out_by, next_epoch, promise_of, starts_now, starting_as, under_way, votes_in}
use Rattle.node_model.specs.Configurations.{in_force, own_config}
use Rattle.node_model.specs.Deciding.{decided, deciding, deciding_by, is_held_up, may_order, orders_sent, with_turn}
use Rattle.node_model.specs.Devices as devices
use Rattle.node_model.specs.Devices.{distrusting, joining_so}
use Rattle.node_model.specs.Entries.{replying, unknown_lines}
use Rattle.node_model.specs.Groups as groups
use Rattle.node_model.specs.Groups.{asked_by, is_last, monitor_asked, order_told, orders_again, own_order, report_told, reported, result_of, with_ended, worked}
use Rattle.node_model.specs.Members as members
use Rattle.node_model.specs.Members.{awaits_start, hearing, is_foreign, promised_so, ready_of}
use Rattle.node_model.specs.Plans.{Plan, and_then}
use Rattle.node_model.specs.Plans.Plan.{Stays, Falls, Says, Saves}
use Rattle.node_model.specs.Presidents as presidents
use Rattle.node_model.specs.Presidents.{answer_given, answered_by, checked, committed_by, committing, is_busy, is_clear, last_place, next_place, orders_for, others_of, own_arrival, own_line, proposed_by, query_lines, sent_to, told_lines, with_act, with_own, with_proposals, word_answer}
use Rattle.node_model.specs.Requests as requests
use Rattle.node_model.specs.Requests.{is_idle, numbered, waiting_with}
use Rattle.node_model.specs.Seats.{coordinator_of, installed_of, is_in, is_member, promised_of, promising, record_of, session_of, state_of, version_of}
use Rattle.node_model.specs.Steps.{at_second, plan_of}
use Rattle.node_model.specs.Ticks as ticks
use Rattle.node_model.specs.Ticks.{later, members_to_form, ticked_output, waiting_less}
use Rattle.node_model.specs.Updates as updates
use Rattle.node_model.specs.Updates.{commits_now, is_of_member, prepares_again, prepares_again_by, prepares_of}
use Rattle.refinement.specs.Doings.{Change, acted, adopted_by, answered_so, changed, first_lines, going, last_lines, minded, of_node, said, saved_lines, superseded_lines, write_lines}
use Rattle.refinement.specs.Doings.Act.{Accepts, Ends, Gives, Goes_on, Hears, Minds, Takes, Waits, Works}
use Rattle.refinement.specs.Doings.Change.{Admits, Commits, Counts, Distrusts, Installs, Leads, Promises, Proposes, Sits, Starts}
use Rattle.refinement.specs.Courses.{Course, joined, plan_from, saying}
use Rattle.refinement.specs.Courses.Course.{Acts, Falls as Course_falls, Keeps, Stops}
use Rattle.refinement.specs.Cuts as cuts
use Rattle.refinement.specs.Cuts.{acks_of, begun_course, called, counted, course_at, course_of, deciding_course, going_course, gone_on, if_installed, if_started, kept_if, own_ready_course, started, step_course, steps_course, turned, turned_all, turned_by, with_committed, writing}
use Rattle.refinement.proofs.Heads.{ArePlain, IsHeaded, IsPlain, first_plain, heads}
use Rattle.refinement.proofs.Plans.{Same, said_singly, same, same_gives, same_is, same_says, same_saves, same_then, same_trans, saying_append, saying_then}

-- the plan is this course, from the node x on
abbrev pub Cut : {K : Type 0} → (K → NodeRecord → Saving K) → Cluster → ℕ → UpNode → Plan → Course → Type 0
Cut saving c me x p k = Same saving me p (plan_from c me x k)

pub plan_joined : (c : Cluster) (me : ℕ) (x : UpNode) (k : Course) (next : UpNode → Course)
    → plan_from c me x (joined c me x k next) ≡ and_then (plan_from c me x k) (λ y. plan_from c me y (next y))
plan_joined c me x Stops next = refl
plan_joined c me x (Acts a rest) next =
    ap (λ p. saying (said c me x a) p) (plan_joined c me (acted c me x a) rest next)
    ∙ sym (saying_then (said c me x a) (plan_from c me (acted c me x a) rest) (λ y. plan_from c me y (next y)))
plan_joined c me x (Keeps ch rest) next =
    let y : UpNode = changed c me x ch in
    let f : UpNode → Plan = λ z. plan_from c me z (next z) in
    ap (λ p. saying (first_lines me ch) (Saves (record_of y) p))
    (ap (λ p. saying (saved_lines c me x ch) p) (plan_joined c me y rest next) ∙ sym (saying_then (saved_lines c me x ch) (plan_from c me y rest) f))
    ∙ sym (saying_then (first_lines me ch) (Saves (record_of y) (saying (saved_lines c me x ch) (plan_from c me y rest))) f)
plan_joined c me x (Course_falls why) next = refl

cut_then : {K : Type 0} → (saving : K → NodeRecord → Saving K) (c : Cluster) (me : ℕ) (x : UpNode) (p : Plan) (k : Course) (f : UpNode → Plan) (next : UpNode → Course)
    → Cut saving c me x p k → ((y : UpNode) → Cut saving c me y (f y) (next y)) → Cut saving c me x (and_then p f) (joined c me x k next)
cut_then saving c me x p k f next h so =
    same_trans saving me (and_then p f) (and_then (plan_from c me x k) (λ y. plan_from c me y (next y))) (plan_from c me x (joined c me x k next))
    (same_then saving me p (plan_from c me x k) f (λ y. plan_from c me y (next y)) h so)
    (same_is saving me (and_then (plan_from c me x k) (λ y. plan_from c me y (next y))) (plan_from c me x (joined c me x k next)) (sym (plan_joined c me x k next)))

cut_if : {K : Type 0} → (saving : K → NodeRecord → Saving K) (c : Cluster) (me : ℕ) (x : UpNode) (b : Bool) (p q : Plan) (k l : Course)
    → Cut saving c me x p k → Cut saving c me x q l → Cut saving c me x (if b then p else q) (if b then k else l)
cut_if saving c me x true p q k l h i = h
cut_if saving c me x false p q k l h i = i

-- The president decides.

deciding_by_cut : {K : Type 0} → (saving : K → NodeRecord → Saving K) (c : Cluster) (me : ℕ) (x : UpNode) (o : Option Presidency) → Cut saving c me x (deciding_by c me x o) (cuts.deciding_by_course c me x o)
deciding_by_cut saving c me x None = same saving me (Stays x)
deciding_by_cut saving c me x (Some p) =
    let t : decisions.Turn = decisions.decision (in_force c x) x.second (is_held_up p) p.groups in
    let y : UpNode = record x { presidency = Some (with_turn me p t) } in
    cut_if saving c me x (may_order p.groups) (decided me x p t) (Stays x) (cuts.decided_course me x p t) Stops
    (same_gives saving me (orders_sent me t.orders) (Stays y) (Stays y) (same saving me (Stays y))) (same saving me (Stays x))

deciding_cut : {K : Type 0} → (saving : K → NodeRecord → Saving K) (c : Cluster) (me : ℕ) (x : UpNode) → Cut saving c me x (deciding c me x) (deciding_course c me x)
deciding_cut saving c me x = deciding_by_cut saving c me x x.presidency

-- The steps of an attempt.

excluded_cut : {K : Type 0} → (saving : K → NodeRecord → Saving K) (c : Cluster) (me : ℕ) (x : UpNode) (e newest : ℕ) (o : Option ℕ)
    → Cut saving c me x (plans.excluding me x e newest o) (cuts.excluded_course me e newest o)
excluded_cut saving c me x e newest None = same saving me (Stays x)
excluded_cut saving c me x e newest (Some m) =
    cut_if saving c me x (m == me) (Falls (down.Panic (panic.Excluded newest))) (Says _ (Stays x)) (Course_falls (down.Panic (panic.Excluded newest))) (writing m (body.Excluded e newest))
    (same saving me (Falls (down.Panic (panic.Excluded newest)))) (same saving me _)

ended_cut : {K : Type 0} → (saving : K → NodeRecord → Saving K) (c : Cluster) (me : ℕ) (x : UpNode) (e : AttemptEnd) (o : Option AttemptState)
    → Cut saving c me x (plans.ending me x e o) (cuts.ended_course me e o)
ended_cut saving c me x e None = same saving me (Stays x)
ended_cut saving c me x e (Some a) =
    same_says saving me (said c me x (Ends a e)) _ _ (excluded_cut saving c me (plans.resting x) a.plan.epoch (unwrap_or (newest_installed a) 0) (left_out_by e))

queued_cut : {K : Type 0} → (saving : K → NodeRecord → Saving K) (c : Cluster) (me : ℕ) (x : UpNode) (d : ℕ) (kind : SeizeKind) (o : Option AttemptState)
    → Cut saving c me x (Stays (plans.seizing_here c me x d kind o)) (cuts.queued_course d kind o)
queued_cut saving c me x d kind None = same saving me (Stays x)
queued_cut saving c me x d kind (Some a) = same saving me (Stays (plans.seizing_here c me x d kind (Some a)))

step_cut : {K : Type 0} → (saving : K → NodeRecord → Saving K) (c : Cluster) (me : ℕ) (x : UpNode) (s : Step) → IsPlain s
    → Cut saving c me x (plans.step_plan c me x s) (step_course me x s)
step_cut saving c me x (step.Send to m) h = same saving me _
step_cut saving c me x (step.SeizeHere d kind) h = queued_cut saving c me x d kind x.attempt
step_cut saving c me x (step.NeedVotes n) h = same saving me (Stays x)
step_cut saving c me x (step.InstallHere i) h = absurd h
step_cut saving c me x step.StartHere h = absurd h
step_cut saving c me x (step.Ended e) h = ended_cut saving c me x e x.attempt

pub steps_cut : {K : Type 0} → (saving : K → NodeRecord → Saving K) (c : Cluster) (me : ℕ) (x : UpNode) (steps : List Step) → ArePlain steps
    → Cut saving c me x (plans.performing c me x steps) (steps_course c me x steps)
steps_cut saving c me x [] h = same saving me (Stays x)
steps_cut saving c me x (s ∷ steps) h =
    cut_then saving c me x (plans.step_plan c me x s) (step_course me x s) (λ y. plans.performing c me y steps) (λ y. steps_course c me y steps)
    (step_cut saving c me x s h.0) (λ y. steps_cut saving c me y steps h.1)

-- An attempt takes a

counted_cut : {K : Type 0} → (saving : K → NodeRecord → Saving K) (c : Cluster) (me : ℕ) (x : UpNode) (a : AttemptState) (k : Call) (i : Install) (rest : List Step) (seat : Seat) → ArePlain rest
    → Cut saving c me x (and_then (plans.installing_here c me (going x a k) i seat) (λ y. plans.performing c me y rest)) (counted c me x a k i rest seat)
counted_cut saving c me x a k i rest (Member s) h = steps_cut saving c me (going x a k) rest h
counted_cut saving c me x a k i rest (Forming s) h = by_test (installs_now s i)
  where
    y : UpNode
    y = changed c me x (Counts a k s i)

    by_test : (b : Bool)
        → Cut saving c me x (and_then (if b then plans.installed_so me y i.epoch (Stays y) else Stays (going x a k)) (λ z. plans.performing c me z rest))
        (if b then Keeps (Counts a k s i) (steps_course c me y rest) else gone_on c me x a k rest)
    by_test true =
        same_saves saving me (record_of y) _ _ (same_says saving me (of_node me note.Saved ∷ []) _ _ (same_says saving me (of_node me (note.Installed i.epoch) ∷ []) _ _ (steps_cut saving c me y rest h)))
    by_test false = steps_cut saving c me (going x a k) rest h

-- the lines of a start
started_said : {K : Type 0} → (saving : K → NodeRecord → Saving K) (me : ℕ) (first last : Output) (base adopted : List Output) (p q : Plan) → Same saving me p q
    → Same saving me (Says (first ∷ []) (Says base (Says adopted (Says (last ∷ []) p)))) (saying (first ∷ (base ++ (adopted ++ last ∷ []))) q)
started_said saving me first last base adopted p q h =
    let ends : Plan = Says (last ∷ []) p in
    let more : List Output = adopted ++ last ∷ [] in
    same_says saving me (first ∷ []) (Says base (Says adopted ends)) (saying (base ++ more) q)
    (same_trans saving me (Says base (Says adopted ends)) (saying base (saying more q)) (saying (base ++ more) q)
    (same_gives saving me base (Says adopted ends) (saying more q)
    (same_trans saving me (Says adopted ends) (saying adopted (saying (last ∷ []) q)) (saying more q)
    (same_gives saving me adopted ends (saying (last ∷ []) q) (same_says saving me (last ∷ []) p q h))
    (same_is saving me (saying adopted (saying (last ∷ []) q)) (saying more q) (sym (saying_append adopted (last ∷ []) q)))))
    (same_is saving me (saying base (saying more q)) (saying (base ++ more) q) (sym (saying_append base more q))))

started_cut : {K : Type 0} → (saving : K → NodeRecord → Saving K) (c : Cluster) (me : ℕ) (x : UpNode) (a : AttemptState) (k : Call) (rest : List Step) (seat : Seat) → ArePlain rest
    → Cut saving c me x (and_then (plans.starting_with c me (going x a k) (turn a k).after seat) (λ y. plans.performing c me y rest)) (started c me x a k rest seat)
started_cut saving c me x a k rest (Member s) h = steps_cut saving c me (going x a k) rest h
started_cut saving c me x a k rest (Forming s) h = by_tests (starts_now s (turn a k).after.plan.epoch) (is_some s.saved.entries.pending)
  where
    t : AttemptState
    t = (turn a k).after

    y : UpNode
    y = changed c me x (Starts a k s)

    after : UpNode → Plan
    after z = plans.performing c me z rest

    lines : Plan
    lines = plans.start_lines c t s y (Says (of_node me (note.Member t.plan.epoch) ∷ []) (Stays y))

    said_so : Same saving me (and_then lines after) (saying (last_lines c me x (Starts a k s)) (plan_from c me y (steps_course c me y rest)))
    said_so =
        started_said saving me (Tells (entry.Start (plans.started_entry t (length (all_committed s.saved.entries).committed)))) (of_node me (note.Member t.plan.epoch))
        (base_lines t.plan.epoch 0 (all_committed s.saved.entries).committed) (adopted_by c t y) (plans.performing c me y rest) (plan_from c me y (steps_course c me y rest)) (steps_cut saving c me y rest h)

    by_tests : (b keeps : Bool)
        → Cut saving c me x (and_then (if b then plans.keeping_if keeps me y lines else Stays (going x a k)) after)
        (if b then kept_if keeps (Starts a k s) (steps_course c me y rest) else gone_on c me x a k rest)
    by_tests true true = same_saves saving me (record_of y) _ _ (same_says saving me (of_node me note.Saved ∷ []) _ _ said_so)
    by_tests true false = said_so
    by_tests false keeps = steps_cut saving c me (going x a k) rest h

turned_cut_by : {K : Type 0} → (saving : K → NodeRecord → Saving K) (c : Cluster) (me : ℕ) (x : UpNode) (a : AttemptState) (k : Call) (steps : List Step) → IsHeaded steps
    → Cut saving c me x (plans.performing c me (going x a k) steps) (turned_by c me x a k steps)
turned_cut_by saving c me x a k [] h = same saving me (Stays (going x a k))
turned_cut_by saving c me x a k (step.InstallHere i ∷ rest) h = counted_cut saving c me x a k i rest x.seat h
turned_cut_by saving c me x a k (step.StartHere ∷ rest) h = started_cut saving c me x a k rest x.seat h
turned_cut_by saving c me x a k (step.Send to m ∷ rest) h = steps_cut saving c me (going x a k) (step.Send to m ∷ rest) (tt, h)
turned_cut_by saving c me x a k (step.SeizeHere d kind ∷ rest) h = steps_cut saving c me (going x a k) (step.SeizeHere d kind ∷ rest) (tt, h)
turned_cut_by saving c me x a k (step.NeedVotes n ∷ rest) h = steps_cut saving c me (going x a k) (step.NeedVotes n ∷ rest) (tt, h)
turned_cut_by saving c me x a k (step.Ended e ∷ rest) h = steps_cut saving c me (going x a k) (step.Ended e ∷ rest) (tt, h)

turned_cut : {K : Type 0} → (saving : K → NodeRecord → Saving K) (c : Cluster) (me : ℕ) (x : UpNode) (a : AttemptState) (k : Call)
    → Cut saving c me x (plans.performing c me (going x a k) (turn a k).steps) (turned c me x a k)
turned_cut saving c me x a k = turned_cut_by saving c me x a k (turn a k).steps (heads a k)

if_started_cut : {K : Type 0} → (saving : K → NodeRecord → Saving K) (c : Cluster) (me : ℕ) (steps : List Step) (y : UpNode)
    → Cut saving c me y (if starts_in steps then deciding c me y else Stays y) (if_started c me steps y)
if_started_cut saving c me steps y =
    cut_if saving c me y (starts_in steps) (deciding c me y) (Stays y) (deciding_course c me y) Stops (deciding_cut saving c me y) (same saving me (Stays y))

turned_all_cut : {K : Type 0} → (saving : K → NodeRecord → Saving K) (c : Cluster) (me : ℕ) (x : UpNode) (a : AttemptState) (k : Call)
    → Cut saving c me x (plans.performed_all c me (going x a k) (turn a k).steps) (turned_all c me x a k)
turned_all_cut saving c me x a k =
    cut_then saving c me x (plans.performing c me (going x a k) (turn a k).steps) (turned c me x a k)
    (λ y. if starts_in (turn a k).steps then deciding c me y else Stays y) (if_started c me (turn a k).steps)
    (turned_cut saving c me x a k) (λ y. if_started_cut saving c me (turn a k).steps y)

readied_cut : {K : Type 0} → (saving : K → NodeRecord → Saving K) (c : Cluster) (me : ℕ) (x : UpNode) (o : Option AttemptState)
    → Cut saving c me x (plans.readied_by c me x o) (cuts.readied_course c me x o)
readied_cut saving c me x None = same saving me (Stays x)
readied_cut saving c me x (Some a) = turned_all_cut saving c me x a Own_ready

own_ready_cut : {K : Type 0} → (saving : K → NodeRecord → Saving K) (c : Cluster) (me : ℕ) (x : UpNode)
    → Cut saving c me x (plans.own_ready c me x) (own_ready_course c me x)
own_ready_cut saving c me x =
    cut_if saving c me x (joins x.tasks) (Stays x) (plans.readied_by c me x x.attempt) Stops (cuts.readied_course c me x x.attempt)
    (same saving me (Stays x)) (readied_cut saving c me x x.attempt)

if_installed_cut : {K : Type 0} → (saving : K → NodeRecord → Saving K) (c : Cluster) (me : ℕ) (steps : List Step) (y : UpNode)
    → Cut saving c me y (if begins_install steps then plans.own_ready c me y else Stays y) (if_installed c me steps y)
if_installed_cut saving c me steps y =
    cut_if saving c me y (begins_install steps) (plans.own_ready c me y) (Stays y) (own_ready_course c me y) Stops (own_ready_cut saving c me y) (same saving me (Stays y))

called_cut : {K : Type 0} → (saving : K → NodeRecord → Saving K) (c : Cluster) (me : ℕ) (x : UpNode) (a : AttemptState) (k : Call)
    → Cut saving c me x (plans.performed c me (going x a k) (turn a k).steps) (called c me x a k)
called_cut saving c me x a k =
    cut_then saving c me x (plans.performed_all c me (going x a k) (turn a k).steps) (turned_all c me x a k)
    (λ y. if begins_install (turn a k).steps then plans.own_ready c me y else Stays y) (if_installed c me (turn a k).steps)
    (turned_all_cut saving c me x a k) (λ y. if_installed_cut saving c me (turn a k).steps y)

going_cut : {K : Type 0} → (saving : K → NodeRecord → Saving K) (c : Cluster) (me : ℕ) (x : UpNode) (a : AttemptState) (k : Call)
    → Cut saving c me x (plans.going_on c me x (turn a k)) (going_course c me x a k)
going_cut saving c me x a k =
    let t : AttemptState = (turn a k).after in
    let votes : Call = With_votes (votes_in c t) in
    cut_if saving c me x (is_choosing t.phase) (plans.performed c me (under_way x (turn t votes).after) (turn t votes).steps) (plans.performed c me (going x a k) (turn a k).steps)
    (Acts (Goes_on a k) (called c me (going x a k) t votes)) (called c me x a k)
    (called_cut saving c me (going x a k) t votes) (called_cut saving c me x a k)

-- An attempt begins.

no_install : (steps : List Step) → ArePlain steps → begins_install steps ≡ false
no_install [] h = refl
no_install (step.Send to m ∷ steps) h = refl
no_install (step.SeizeHere d kind ∷ steps) h = refl
no_install (step.NeedVotes n ∷ steps) h = refl
no_install (step.InstallHere i ∷ steps) h = absurd h.0
no_install (step.StartHere ∷ steps) h = refl
no_install (step.Ended e ∷ steps) h = refl

no_start : (steps : List Step) → ArePlain steps → starts_in steps ≡ false
no_start [] h = refl
no_start (step.Send to m ∷ steps) h = no_start steps h.1
no_start (step.SeizeHere d kind ∷ steps) h = no_start steps h.1
no_start (step.NeedVotes n ∷ steps) h = no_start steps h.1
no_start (step.InstallHere i ∷ steps) h = absurd h.0
no_start (step.StartHere ∷ steps) h = absurd h.0
no_start (step.Ended e ∷ steps) h = no_start steps h.1

then_stays : (p : Plan) → and_then p (λ y. Stays y) ≡ p
then_stays (Stays x) = refl
then_stays (Falls why) = refl
then_stays (Says os rest) = ap (λ p. Says os p) (then_stays rest)
then_stays (Saves r rest) = ap (λ p. Saves r p) (then_stays rest)

begun_cut : {K : Type 0} → (saving : K → NodeRecord → Saving K) (c : Cluster) (me : ℕ) (x : UpNode) (t : Turn) → ArePlain t.steps
    → Cut saving c me (under_way x t.after) (plans.going_on c me x t) (begun_course c me (under_way x t.after) t)
begun_cut saving c me x t h =
    let votes : Call = With_votes (votes_in c t.after) in
    cut_if saving c me y (is_choosing t.after.phase) (plans.performed c me (under_way x (turn t.after votes).after) (turn t.after votes).steps) (plans.performed c me y t.steps)
    (called c me y t.after votes) (steps_course c me y t.steps)
    (called_cut saving c me y t.after votes)
    (subst (λ p. Cut saving c me y p (steps_course c me y t.steps)) (sym none_more) (steps_cut saving c me y t.steps h))
  where
    y : UpNode
    y = under_way x t.after

    steps : Plan
    steps = plans.performing c me y t.steps

    started_none : plans.performed_all c me y t.steps ≡ steps
    started_none = ap (λ b. and_then steps (λ z. if b then deciding c me z else Stays z)) (no_start t.steps h) ∙ then_stays steps

    none_more : plans.performed c me y t.steps ≡ steps
    none_more =
        ap (λ b. and_then (plans.performed_all c me y t.steps) (λ z. if b then plans.own_ready c me z else Stays z)) (no_install t.steps h)
        ∙ (then_stays (plans.performed_all c me y t.steps) ∙ started_none)

leading_cut : {K : Type 0} → (saving : K → NodeRecord → Saving K) (c : Cluster) (me : ℕ) (x : UpNode) (p members : ℕ)
    → Cut saving c me x (plans.leading_to c me x p members) (cuts.leading_course c me x p members)
leading_cut saving c me x p members =
    let z : UpNode = record (promising x p) { greatest = p } in
    let y : UpNode = changed c me x (Leads p members) in
    let t : Turn = cuts.first_turn c me x p members in
    cut_if saving c me x (nat_lt (promised_of x) p) (plans.led c me z x.requests.waiting p members) (Stays x) (Keeps (Leads p members) (begun_course c me y t)) Stops
    (same_saves saving me (record_of y) _ _ (same_says saving me (of_node me note.Saved ∷ []) _ _ (same_says saving me (Tells (entry.Attempt (attempt.Begun p members)) ∷ []) _ _
    (same_gives saving me (unknown_lines me x.requests.waiting) _ _ (begun_cut saving c me z t (first_plain p members _ c.attached c.id)))))) (same saving me (Stays x))

-- A tick.

forming_cut : {K : Type 0} → (saving : K → NodeRecord → Saving K) (c : Cluster) (me : ℕ) (x : UpNode) (o : Option ℕ)
    → Cut saving c me x (ticks.forming c me x o) (cuts.forming_course c me x o)
forming_cut saving c me x None = same saving me (Stays x)
forming_cut saving c me x (Some members) = leading_cut saving c me x (next_epoch me x) members

ticked_cut : {K : Type 0} → (saving : K → NodeRecord → Saving K) (c : Cluster) (me : ℕ) (x : UpNode) (o : Option AttemptState)
    → Cut saving c me x (ticks.attempt_ticked c me x o) (cuts.ticked_course c me x o)
ticked_cut saving c me x (Some a) = going_cut saving c me x a Call_tick
ticked_cut saving c me x None =
    let y : UpNode = waiting_less x in
    cut_if saving c me x (nat_le 1 x.beats.wait) (Stays y) (ticks.forming c me y (members_to_form c me y)) (Acts Waits Stops) (Acts Waits (cuts.forming_course c me y (members_to_form c me y)))
    (same saving me (Stays y)) (forming_cut saving c me y (members_to_form c me y))

-- Messages.

heartbeat_cut : {K : Type 0} → (saving : K → NodeRecord → Saving K) (c : Cluster) (me : ℕ) (x : UpNode) (from session : ℕ) (member : Bool)
    → Cut saving c me x (members.on_heartbeat me x from session member) (cuts.heartbeat_course me x from session member)
heartbeat_cut saving c me x from session member =
    cut_if saving c me x (awaits_start me x from session member) _ (Stays x) (writing from (body.Start (session_of x))) Stops (same saving me _) (same saving me (Stays x))

superseded_cut : {K : Type 0} → (saving : K → NodeRecord → Saving K) (me : ℕ) (x : UpNode) (p : ℕ) (o : Option AttemptState) (more : List Output) (rest : Plan)
    → Same saving me (members.superseded_by x p o (Says more rest)) (saying (superseded_lines p o ++ more) rest)
superseded_cut saving me x p None more rest = said_singly saving me more rest
superseded_cut saving me x p (Some a) more rest = same_says saving me (superseded_lines p (Some a)) (Says more rest) (saying more rest) (said_singly saving me more rest)

collect_cut : {K : Type 0} → (saving : K → NodeRecord → Saving K) (c : Cluster) (me : ℕ) (x : UpNode) (from p : ℕ)
    → Cut saving c me x (members.on_collect me x from p) (cuts.collect_course x from p)
collect_cut saving c me x from p =
    let y : UpNode = promised_so x p in
    cut_if saving c me x (nat_lt (promised_of x) p) _ _ (Keeps (Promises p) (writing from (promise_of y p)))
    (if is_in x p then writing from (promise_of x p) else writing from (body.Nack p (promised_of x)))
    (same_saves saving me (record_of y) _ _ (same_says saving me (of_node me note.Saved ∷ []) _ _ (superseded_cut saving me x p x.attempt (unknown_lines me x.requests.waiting) (plan_from c me y (writing from (promise_of y p))))))
    (cut_if saving c me x (is_in x p) _ _ (writing from (promise_of x p)) (writing from (body.Nack p (promised_of x))) (same saving me _) (same saving me _))

request_cut : {K : Type 0} → (saving : K → NodeRecord → Saving K) (c : Cluster) (me : ℕ) (x : UpNode) (from : ℕ) (kind : SeizeKind) (e ms d : ℕ) (o : Option SeizeResult)
    → Cut saving c me x (members.on_request c me x from kind e ms d o) (cuts.request_course x from kind e ms d o)
request_cut saving c me x from kind e ms d (Some result) = same saving me _
request_cut saving c me x from kind e ms d None =
    cut_if saving c me x (installed_of x == e) _ _ _ (Acts (Accepts kind e ms d) Stops) (same saving me _) (same saving me _)

seizing_cut : {K : Type 0} → (saving : K → NodeRecord → Saving K) (c : Cluster) (me : ℕ) (x : UpNode) (from : ℕ) (kind : SeizeKind) (e ms d : ℕ)
    → Cut saving c me x (members.on_seizing c me x from kind e ms d) (cuts.seizing_course x from kind e ms d)
seizing_cut saving c me x from kind e ms d =
    cut_if saving c me x (is_in x e) _ (Stays x) _ Stops (request_cut saving c me x from kind e ms d (kept_of x.tasks d)) (same saving me (Stays x))

readying_cut : {K : Type 0} → (saving : K → NodeRecord → Saving K) (c : Cluster) (me : ℕ) (x : UpNode) (to : ℕ)
    → Cut saving c me x (members.readying c x to) (cuts.readying_course c x to)
readying_cut saving c me x to = cut_if saving c me x (joins x.tasks) (Stays x) _ Stops _ (same saving me (Stays x)) (same saving me _)

installed_cut : {K : Type 0} → (saving : K → NodeRecord → Saving K) (c : Cluster) (me : ℕ) (x : UpNode) (from : ℕ) (i : Install) (seat : Seat)
    → Cut saving c me x (members.on_install_as c me x from i seat) (cuts.installed_course c me x from i seat)
installed_cut saving c me x from i (Member s) = readying_cut saving c me x from
installed_cut saving c me x from i (Forming s) =
    let y : UpNode = changed c me x (Installs s i) in
    cut_if saving c me x (s.saved.installed == i.epoch) (members.readying c x from) _ (cuts.readying_course c x from) (Keeps (Installs s i) (cuts.readying_course c y from))
    (readying_cut saving c me x from)
    (same_saves saving me (record_of y) _ _ (same_says saving me (of_node me note.Saved ∷ []) _ _ (same_says saving me (of_node me (note.Installed i.epoch) ∷ []) _ _ (readying_cut saving c me y from))))

install_cut : {K : Type 0} → (saving : K → NodeRecord → Saving K) (c : Cluster) (me : ℕ) (x : UpNode) (from : ℕ) (i : Install)
    → Cut saving c me x (members.on_install c me x from i) (cuts.install_course c me x from i)
install_cut saving c me x from i =
    cut_if saving c me x (is_in x i.epoch) _ _ (cuts.installed_course c me x from i x.seat) (writing from (body.Nack i.epoch (promised_of x))) (installed_cut saving c me x from i x.seat) (same saving me _)

start_cut : {K : Type 0} → (saving : K → NodeRecord → Saving K) (c : Cluster) (me : ℕ) (x : UpNode) (e : ℕ) (seat : Seat)
    → Cut saving c me x (members.on_start_as me x e seat) (cuts.start_course e seat)
start_cut saving c me x e (Member s) = same saving me (Stays x)
start_cut saving c me x e (Forming s) = by_tests (starts_now s e) (is_some s.saved.entries.pending)
  where
    y : UpNode
    y = changed c me x (Sits s e)

    by_tests : (b keeps : Bool)
        → Cut saving c me x (if b then plans.keeping_if keeps me y (Says (of_node me (note.Member e) ∷ []) (Stays y)) else Stays x)
        (if b then kept_if keeps (Sits s e) Stops else Stops)
    by_tests true true = same saving me _
    by_tests true false = same saving me _
    by_tests false keeps = same saving me (Stays x)

notice_cut : {K : Type 0} → (saving : K → NodeRecord → Saving K) (c : Cluster) (me : ℕ) (x : UpNode) (e newest : ℕ)
    → Cut saving c me x (members.on_excluded x e newest) (cuts.notice_course x e newest)
notice_cut saving c me x e newest =
    cut_if saving c me x (is_in x e) _ (Stays x) (Course_falls (down.Panic (panic.Excluded newest))) Stops (same saving me _) (same saving me (Stays x))

-- Requests and updates at the president.

answered_is : (me : ℕ) (x : UpNode) (p : Presidency) (a : Arrived) (told : Answer)
    → answered_by me x p a told ≡ minded x (cuts.queue_by me x a) (Some (cuts.left_by_answer me x p a told))
answered_is me x p a told = by_test (a.from == me)
  where
    s : State
    s = arrivals.answered p.proposals (reply_text told)

    q : Queue
    q = queue.answered x.requests a.number

    by_test : (b : Bool)
        → (if b then presidents.own_answered me x p s q else with_proposals x p s)
        ≡ minded x (if b then q else x.requests) (Some (record p { proposals = if b then with_own me s (oldest q) else s }))
    by_test true = refl
    by_test false = refl

answering_cut : {K : Type 0} → (saving : K → NodeRecord → Saving K) (c : Cluster) (me : ℕ) (x : UpNode) (p : Presidency) (a : Arrived) (told : Answer)
    → Cut saving c me x (presidents.answering_first c me x p a told) (cuts.answering_course c me x p a told)
answering_cut saving c me x p a told =
    let y : UpNode = cuts.left_answered me x p a told in
    same_gives saving me (answer_given me x a told) (deciding c me (answered_by me x p a told)) (plan_from c me y (deciding_course c me y))
    (subst (λ z. Same saving me (deciding c me z) (plan_from c me y (deciding_course c me y))) (sym (answered_is me x p a told)) (deciding_cut saving c me y))

acknowledged_cut : {K : Type 0} → (saving : K → NodeRecord → Saving K) (c : Cluster) (me : ℕ) (x : UpNode) (p : Presidency) (a : Arrived) (text : List ℕ)
    → Cut saving c me x (presidents.acknowledging_so c me x a text (committed_by c me x p a text)) (cuts.acknowledged_course c me x p a text)
acknowledged_cut saving c me x p a text =
    let change : Change = acks_of c me x p a text in
    let y : UpNode = changed c me x change in
    subst (λ z. Cut saving c me x (presidents.acknowledging_so c me x a text z) (cuts.acknowledged_course c me x p a text)) (sym (answered_is me (committing x) (with_committed c x p text) a answer.Ok))
    (same_saves saving me (record_of y) _ _ (same_says saving me (of_node me note.Saved ∷ []) _ _ (same_says saving me (last_lines c me x change) _ _
    (same_gives saving me (sent_to (others_of me x) (body.Commit (session_of x) (last_place x))) _ _
    (same_gives saving me (answer_given me x a answer.Ok) (deciding c me y) (plan_from c me y (deciding_course c me y)) (deciding_cut saving c me y))))))

acknowledging_text_cut : {K : Type 0} → (saving : K → NodeRecord → Saving K) (c : Cluster) (me : ℕ) (x : UpNode) (p : Presidency) (first : Option Arrived) (pending : Option (List ℕ))
    → Cut saving c me x (presidents.acknowledging_text c me x p first pending) (cuts.acknowledging_text_course c me x p first pending)
acknowledging_text_cut saving c me x p (Some a) (Some text) = acknowledged_cut saving c me x p a text
acknowledging_text_cut saving c me x p None pending = same saving me (Stays x)
acknowledging_text_cut saving c me x p (Some a) None = same saving me (Stays x)

acknowledging_by_cut : {K : Type 0} → (saving : K → NodeRecord → Saving K) (c : Cluster) (me : ℕ) (x : UpNode) (o : Option Presidency)
    → Cut saving c me x (presidents.acknowledging_by c me x o) (cuts.acknowledging_by_course c me x o)
acknowledging_by_cut saving c me x None = same saving me (Stays x)
acknowledging_by_cut saving c me x (Some p) = acknowledging_text_cut saving c me x p (first_in p.proposals.arrived) (record_of x).entries.pending

acknowledging_cut : {K : Type 0} → (saving : K → NodeRecord → Saving K) (c : Cluster) (me : ℕ) (x : UpNode) → Cut saving c me x (presidents.acknowledging c me x) (cuts.acknowledging_course c me x)
acknowledging_cut saving c me x = acknowledging_by_cut saving c me x x.presidency

proposing_cut : {K : Type 0} → (saving : K → NodeRecord → Saving K) (c : Cluster) (me : ℕ) (x : UpNode) (p : Presidency) (text : List ℕ)
    → Cut saving c me x (presidents.proposing_so c me x text (proposed_by c me x p text)) (cuts.proposing_course c me x p text)
proposing_cut saving c me x p text =
    let y : UpNode = proposed_by c me x p text in
    let line : List Output = first_lines me (Proposes (state_of x.seat) p text) in
    let sent : List Output = sent_to (others_of me x) (body.Prepare (session_of x) (next_place x) text) in
    same_says saving me line _ _ (same_saves saving me (record_of y) _ _ (same_says saving me (of_node me note.Saved ∷ []) _ _ (same_gives saving me sent _ _
    (cut_if saving c me y (others_of me x == 0) (presidents.acknowledging c me y) (Stays y) (cuts.acknowledging_course c me y) Stops (acknowledging_cut saving c me y) (same saving me (Stays y))))))

acting_cut : {K : Type 0} → (saving : K → NodeRecord → Saving K) (c : Cluster) (me : ℕ) (x : UpNode) (p : Presidency) (a : Arrived) (ask : Ask) → Cut saving c me x (presidents.acting c me x p a ask) (cuts.acting_course c me x p a ask)
acting_cut saving c me x p a ask =
    let q : Presidency = with_act c me x p a ask in
    cut_if saving c me x (may_order p.groups) _ (Stays x) (Acts (Gives (orders_sent me (orders_for p.groups ask))) (cuts.answering_course c me x q a answer.Ok)) Stops
    (same_gives saving me (orders_sent me (orders_for p.groups ask)) _ _ (answering_cut saving c me x q a answer.Ok)) (same saving me (Stays x))

taken_as_cut : {K : Type 0} → (saving : K → NodeRecord → Saving K) (c : Cluster) (me : ℕ) (x : UpNode) (p : Presidency) (a : Arrived) (r : Result Accepted CheckError)
    → Cut saving c me x (presidents.taken_as c me x p a r) (cuts.taken_as_course c me x p a r)
taken_as_cut saving c me x p a (Ok (accepted.Change u)) = proposing_cut saving c me x p (words_of u)
taken_as_cut saving c me x p a (Ok (accepted.Act ask)) = acting_cut saving c me x p a ask
taken_as_cut saving c me x p a (Ok (accepted.Query q)) = answering_cut saving c me x p a answer.Ok
taken_as_cut saving c me x p a (Err (because.Refused r)) = answering_cut saving c me x p a (answer.Refused r)
taken_as_cut saving c me x p a (Err because.NoMemory) = same saving me (Stays x)

taken_cut : {K : Type 0} → (saving : K → NodeRecord → Saving K) (c : Cluster) (me : ℕ) (x : UpNode) (p : Presidency) (a : Arrived) (r : Result wanted.Request WordError)
    → Cut saving c me x (presidents.taken c me x p a r) (cuts.taken_course c me x p a r)
taken_cut saving c me x p a (Ok (asked.Change u)) =
    cut_if saving c me x (is_busy p.groups) (Stays x) _ Stops (cuts.taken_as_course c me x p a (checked c x p (wish.Change u))) (same saving me (Stays x))
    (taken_as_cut saving c me x p a (checked c x p (wish.Change u)))
taken_cut saving c me x p a (Ok (asked.Act ask)) =
    cut_if saving c me x (is_busy p.groups && is_clear ask) (Stays x) _ Stops (cuts.taken_as_course c me x p a (checked c x p (wish.Act ask))) (same saving me (Stays x))
    (taken_as_cut saving c me x p a (checked c x p (wish.Act ask)))
taken_cut saving c me x p a (Err e) = answering_cut saving c me x p a (word_answer e)

turn_of_cut : {K : Type 0} → (saving : K → NodeRecord → Saving K) (c : Cluster) (me : ℕ) (x : UpNode) (p : Presidency) (proposed : Option Proposed) (first : Option Arrived)
    → Cut saving c me x (presidents.turn_of c me x p proposed first) (cuts.turn_of_course c me x p proposed first)
turn_of_cut saving c me x p None (Some a) = taken_cut saving c me x p a (request_of (version_of c) a.text)
turn_of_cut saving c me x p None None = same saving me (Stays x)
turn_of_cut saving c me x p (Some proposed) first = same saving me (Stays x)

turn_by_cut : {K : Type 0} → (saving : K → NodeRecord → Saving K) (c : Cluster) (me : ℕ) (x : UpNode) (o : Option Presidency) → Cut saving c me x (presidents.turn_by c me x o) (cuts.turn_by_course c me x o)
turn_by_cut saving c me x None = same saving me (Stays x)
turn_by_cut saving c me x (Some p) = turn_of_cut saving c me x p p.proposals.proposed (first_in p.proposals.arrived)

turns_cut : {K : Type 0} → (saving : K → NodeRecord → Saving K) (c : Cluster) (me : ℕ) (x : UpNode) (k : ℕ) → Cut saving c me x (presidents.turns c me x k) (cuts.turns_course c me x k)
turns_cut saving c me x zero = same saving me (Stays x)
turns_cut saving c me x (suc k) =
    cut_then saving c me x (presidents.turns c me x k) (cuts.turns_course c me x k) (presidents.one_turn c me) (cuts.one_turn_course c me)
    (turns_cut saving c me x k) (λ y. turn_by_cut saving c me y y.presidency)

handling_cut : {K : Type 0} → (saving : K → NodeRecord → Saving K) (c : Cluster) (me : ℕ) (x : UpNode) → Cut saving c me x (presidents.handling c me x) (cuts.handling_course c me x)
handling_cut saving c me x = turns_cut saving c me x (presidents.requests_of x x.presidency)

-- A request comes.

kept_again_cut : {K : Type 0} → (saving : K → NodeRecord → Saving K) (c : Cluster) (me : ℕ) (x : UpNode) (from : ℕ) (o : Option Kept)
    → Cut saving c me x (presidents.kept_again x from o) (cuts.kept_again_course x from o)
kept_again_cut saving c me x from None = same saving me (Stays x)
kept_again_cut saving c me x from (Some k) = same saving me _

arrived_cut : {K : Type 0} → (saving : K → NodeRecord → Saving K) (c : Cluster) (me : ℕ) (x : UpNode) (p : Presidency) (a : Arrived) (arrival : Arrival)
    → Cut saving c me x (presidents.arrived_as c me x p a arrival) (cuts.arrived_course c me x p a arrival)
arrived_cut saving c me x p a New = handling_cut saving c me (with_proposals x p (with_arrival p.proposals a New))
arrived_cut saving c me x p a Waits_already = same saving me (Stays x)
arrived_cut saving c me x p a Answered_last = kept_again_cut saving c me x a.from (kept_at p.proposals.answers a.from)
arrived_cut saving c me x p a Past = same saving me (Stays x)

arriving_cut : {K : Type 0} → (saving : K → NodeRecord → Saving K) (c : Cluster) (me : ℕ) (x : UpNode) (p : Presidency) (a : Arrived) → Cut saving c me x (presidents.arriving c me x p a) (cuts.arriving_course c me x p a)
arriving_cut saving c me x p a = arrived_cut saving c me x p a (arrival_of p.proposals a.from a.number)

requested_cut : {K : Type 0} → (saving : K → NodeRecord → Saving K) (c : Cluster) (me : ℕ) (x : UpNode) (from number : ℕ) (text : List ℕ) (o : Option Presidency)
    → Cut saving c me x (updates.requested c me x from number text o) (cuts.requested_course c me x from number text o)
requested_cut saving c me x from number text None = same saving me (Stays x)
requested_cut saving c me x from number text (Some p) = arriving_cut saving c me x p (record { from = from; number = number; text = text })

asked_cut : {K : Type 0} → (saving : K → NodeRecord → Saving K) (c : Cluster) (me : ℕ) (x : UpNode) (from e number : ℕ) (text : List ℕ)
    → Cut saving c me x (updates.on_asked c me x from e number text) (cuts.asked_course c me x from e number text)
asked_cut saving c me x from e number text =
    cut_if saving c me x (is_of_member x from e) _ (Stays x) (cuts.requested_course c me x from number text x.presidency) Stops
    (requested_cut saving c me x from number text x.presidency) (same saving me (Stays x))

-- Requests of the node itself.

request_to_cut : {K : Type 0} → (saving : K → NodeRecord → Saving K) (c : Cluster) (me : ℕ) (x : UpNode) (r : Request) (o : Option ℕ) → Cut saving c me x (requests.request_to x r o) (cuts.request_to_course x r o)
request_to_cut saving c me x r None = same saving me (Stays x)
request_to_cut saving c me x r (Some president) = same saving me _

asking_of_cut : {K : Type 0} → (saving : K → NodeRecord → Saving K) (c : Cluster) (me : ℕ) (x : UpNode) (r : Request) (o : Option Presidency) → Cut saving c me x (requests.asking_of c me x r o) (cuts.asking_of_course c me x r o)
asking_of_cut saving c me x r None = request_to_cut saving c me x r (coordinator_of x)
asking_of_cut saving c me x r (Some p) = arriving_cut saving c me x p (own_arrival me r)

asking_for_cut : {K : Type 0} → (saving : K → NodeRecord → Saving K) (c : Cluster) (me : ℕ) (x : UpNode) (o : Option Request) → Cut saving c me x (requests.asking_for c me x o) (cuts.asking_for_course c me x o)
asking_for_cut saving c me x None = same saving me (Stays x)
asking_for_cut saving c me x (Some r) = asking_of_cut saving c me x r x.presidency

asking_cut : {K : Type 0} → (saving : K → NodeRecord → Saving K) (c : Cluster) (me : ℕ) (x : UpNode) → Cut saving c me x (requests.asking c me x) (cuts.asking_course c me x)
asking_cut saving c me x = asking_for_cut saving c me x (oldest x.requests)

replying_cut : {K : Type 0} → (saving : K → NodeRecord → Saving K) (c : Cluster) (me : ℕ) (x : UpNode) (number : ℕ) (told : Answer) → Cut saving c me x (replying me number told x) (cuts.replying_course me number told)
replying_cut saving c me x number told = same saving me _

asking_if_cut : {K : Type 0} → (saving : K → NodeRecord → Saving K) (c : Cluster) (me : ℕ) (x : UpNode) (alone : Bool) → Cut saving c me x (requests.asking_if alone c me x) (cuts.asking_if_course alone c me x)
asking_if_cut saving c me x alone = cut_if saving c me x alone (requests.asking c me x) (Stays x) (cuts.asking_course c me x) Stops (asking_cut saving c me x) (same saving me (Stays x))

waiting_cut : {K : Type 0} → (saving : K → NodeRecord → Saving K) (c : Cluster) (me : ℕ) (x : UpNode) (number : ℕ) (text : List ℕ)
    → Cut saving c me x (requests.queued c me x number text) (cuts.waiting_course c me x number text)
waiting_cut saving c me x number text =
    let alone : Bool = is_idle x.requests.waiting in
    let y : UpNode = waiting_with x number text in
    cut_if saving c me x (is_full x.requests) (replying me number answer.QueueFull x) (requests.asking_if alone c me y) (cuts.replying_course me number answer.QueueFull)
    (Acts (Minds (with_request x.requests (record { number = number; text = text; told = true; second = x.second })) x.presidency) (cuts.asking_if_course alone c me y))
    (replying_cut saving c me x number answer.QueueFull) (asking_if_cut saving c me y alone)

elsewhere_cut : {K : Type 0} → (saving : K → NodeRecord → Saving K) (c : Cluster) (me : ℕ) (x : UpNode) (number : ℕ) (o : Option ℕ) → Cut saving c me x (requests.elsewhere me x number o) (cuts.elsewhere_course me number o)
elsewhere_cut saving c me x number None = same saving me (Stays x)
elsewhere_cut saving c me x number (Some president) = same saving me _

telling_cut : {K : Type 0} → (saving : K → NodeRecord → Saving K) (c : Cluster) (me : ℕ) (x : UpNode) (number : ℕ) (lines : List StatusEntry)
    → Cut saving c me x (Says (told_lines lines) (replying me number answer.Ok x)) (cuts.telling_course me number lines)
telling_cut saving c me x number lines = same_gives saving me (told_lines lines) _ _ (replying_cut saving c me x number answer.Ok)

query_cut : {K : Type 0} → (saving : K → NodeRecord → Saving K) (c : Cluster) (me : ℕ) (x : UpNode) (p : Presidency) (number : ℕ) (s : ConfigState) (r : Result Accepted CheckError)
    → Cut saving c me x (presidents.query_told me x p number s r) (cuts.query_course me x p number s r)
query_cut saving c me x p number s (Ok (accepted.Query q)) = telling_cut saving c me x number (query_lines x p s q)
query_cut saving c me x p number s (Ok (accepted.Change u)) = same saving me (Stays x)
query_cut saving c me x p number s (Ok (accepted.Act ask)) = same saving me (Stays x)
query_cut saving c me x p number s (Err (because.Refused r)) = replying_cut saving c me x number (answer.Refused r)
query_cut saving c me x p number s (Err because.NoMemory) = same saving me (Stays x)

queried_cut : {K : Type 0} → (saving : K → NodeRecord → Saving K) (c : Cluster) (me : ℕ) (x : UpNode) (number : ℕ) (question : AdminCommand) (o : Option Presidency)
    → Cut saving c me x (requests.queried c me x number question o) (cuts.queried_course c me x number question o)
queried_cut saving c me x number question None = elsewhere_cut saving c me x number (coordinator_of x)
queried_cut saving c me x number question (Some p) =
    cut_if saving c me x (is_full x.requests) (replying me number answer.QueueFull x) (presidents.answering_query c me x p number question)
    (cuts.replying_course me number answer.QueueFull) (cuts.query_course me x p number (in_force c x) (checked c x p question))
    (replying_cut saving c me x number answer.QueueFull) (query_cut saving c me x p number (in_force c x) (checked c x p question))

commanded_cut : {K : Type 0} → (saving : K → NodeRecord → Saving K) (c : Cluster) (me : ℕ) (x : UpNode) (number : ℕ) (command : AdminCommand)
    → Cut saving c me x (requests.commanded c me x number command) (cuts.commanded_course c me x number command)
commanded_cut saving c me x number (wish.Change u) = waiting_cut saving c me x number (words_of u)
commanded_cut saving c me x number (wish.Act a) = waiting_cut saving c me x number (ask_words_of a)
commanded_cut saving c me x number (wish.Status q) = queried_cut saving c me x number (wish.Status q) x.presidency
commanded_cut saving c me x number (wish.Rows table) = queried_cut saving c me x number (wish.Rows table) x.presidency

worded_cut : {K : Type 0} → (saving : K → NodeRecord → Saving K) (c : Cluster) (me : ℕ) (x : UpNode) (number : ℕ) (r : Result AdminCommand WordError)
    → Cut saving c me x (requests.worded c me x number r) (cuts.worded_course c me x number r)
worded_cut saving c me x number (Err e) = replying_cut saving c me x number (word_answer e)
worded_cut saving c me x number (Ok command) =
    cut_if saving c me x (is_member x.seat) (requests.commanded c me x number command) (replying me number answer.NotMember x) (cuts.commanded_course c me x number command)
    (cuts.replying_course me number answer.NotMember) (commanded_cut saving c me x number command) (replying_cut saving c me x number answer.NotMember)

command_cut : {K : Type 0} → (saving : K → NodeRecord → Saving K) (c : Cluster) (me : ℕ) (x : UpNode) (words : List ℕ) → Cut saving c me x (requests.on_command c me x words) (cuts.command_course c me x words)
command_cut saving c me x words =
    same_says saving me (Tells (entry.Command (command.Asked me (next_number x.requests))) ∷ []) _ _
    (worded_cut saving c me (numbered x) (next_number x.requests) (command_of (version_of c) words))

replied_to_cut : {K : Type 0} → (saving : K → NodeRecord → Saving K) (c : Cluster) (me : ℕ) (x : UpNode) (number : ℕ) (told : Answer) (o : Option Request)
    → Cut saving c me x (requests.replied_to c me x number told o) (cuts.replied_to_course c me x number told o)
replied_to_cut saving c me x number told None = same saving me (Stays x)
replied_to_cut saving c me x number told (Some r) =
    same_gives saving me (own_line me told (Some r)) _ _ (asking_cut saving c me (record x { requests = queue.answered x.requests number }))

replied_cut : {K : Type 0} → (saving : K → NodeRecord → Saving K) (c : Cluster) (me : ℕ) (x : UpNode) (number : ℕ) (o : Option Answer)
    → Cut saving c me x (requests.replied_as c me x number o) (cuts.replied_course c me x number o)
replied_cut saving c me x number None = same saving me (Stays x)
replied_cut saving c me x number (Some told) = replied_to_cut saving c me x number told (found x.requests.waiting number)

reply_cut : {K : Type 0} → (saving : K → NodeRecord → Saving K) (c : Cluster) (me : ℕ) (x : UpNode) (e number : ℕ) (o : Option Answer)
    → Cut saving c me x (requests.on_reply c me x e number o) (cuts.reply_course c me x e number o)
reply_cut saving c me x e number o =
    cut_if saving c me x (is_member x.seat && is_in x e) (requests.replied_as c me x number o) (Stays x) (cuts.replied_course c me x number o) Stops
    (replied_cut saving c me x number o) (same saving me (Stays x))

-- Updates at members and at their president.

preparing_cut : {K : Type 0} → (saving : K → NodeRecord → Saving K) (c : Cluster) (me : ℕ) (x : UpNode) (from e place : ℕ) (s : NodeState) (text : List ℕ) (r : Prepared)
    → Cut saving c me x (updates.preparing c me x from e place s text r) (cuts.preparing_course from e place s text r)
preparing_cut saving c me x from e place s text Taken = same saving me _
preparing_cut saving c me x from e place s text Already = same saving me _
preparing_cut saving c me x from e place s text (Gap k) = same saving me (Stays x)

prepare_cut : {K : Type 0} → (saving : K → NodeRecord → Saving K) (c : Cluster) (me : ℕ) (x : UpNode) (from e place : ℕ) (text : List ℕ) (seat : Seat)
    → Cut saving c me x (updates.on_prepare_as c me x from e place text seat) (cuts.prepare_course x from e place text seat)
prepare_cut saving c me x from e place text (Forming s) = same saving me (Stays x)
prepare_cut saving c me x from e place text (Member s) =
    let r : Prepared = answer_for (length (texts_of s.saved.entries)) place in
    cut_if saving c me x (is_in x e) _ (Stays x) (cuts.preparing_course from e place s text r) Stops (preparing_cut saving c me x from e place s text r) (same saving me (Stays x))

prepared_all_cut : {K : Type 0} → (saving : K → NodeRecord → Saving K) (c : Cluster) (me : ℕ) (x : UpNode) (p : Presidency) → Cut saving c me x (updates.prepared_all c me x p) (cuts.prepared_all_course c me x p)
prepared_all_cut saving c me x p =
    cut_if saving c me x (is_prepared p.proposals) (and_then (presidents.acknowledging c me x) (presidents.handling c me)) (Stays x)
    (joined c me x (cuts.acknowledging_course c me x) (cuts.handling_course c me)) Stops
    (cut_then saving c me x (presidents.acknowledging c me x) (cuts.acknowledging_course c me x) (presidents.handling c me) (cuts.handling_course c me)
    (acknowledging_cut saving c me x) (λ y. handling_cut saving c me y))
    (same saving me (Stays x))

prepared_at_cut : {K : Type 0} → (saving : K → NodeRecord → Saving K) (c : Cluster) (me : ℕ) (x : UpNode) (from place : ℕ) (o : Option Presidency)
    → Cut saving c me x (updates.prepared_at c me x from place o) (cuts.prepared_at_course c me x from place o)
prepared_at_cut saving c me x from place None = same saving me (Stays x)
prepared_at_cut saving c me x from place (Some p) =
    let s : State = prepared_by p.proposals from place in
    prepared_all_cut saving c me (with_proposals x p s) (record p { proposals = s })

prepared_cut : {K : Type 0} → (saving : K → NodeRecord → Saving K) (c : Cluster) (me : ℕ) (x : UpNode) (from e place : ℕ) → Cut saving c me x (updates.on_prepared c me x from e place) (cuts.prepared_course c me x from e place)
prepared_cut saving c me x from e place =
    cut_if saving c me x (is_of_member x from e) _ (Stays x) (cuts.prepared_at_course c me x from place x.presidency) Stops
    (prepared_at_cut saving c me x from place x.presidency) (same saving me (Stays x))

commit_cut : {K : Type 0} → (saving : K → NodeRecord → Saving K) (c : Cluster) (me : ℕ) (x : UpNode) (e place : ℕ) (seat : Seat) → Cut saving c me x (updates.on_commit_as me x e place seat) (cuts.commit_course x e place seat)
commit_cut saving c me x e place (Forming s) = same saving me (Stays x)
commit_cut saving c me x e place (Member s) =
    cut_if saving c me x (is_in x e && commits_now s place) _ (Stays x) (Keeps (Commits s) Stops) Stops (same saving me _) (same saving me (Stays x))

-- Orders.

done_at_cut : {K : Type 0} → (saving : K → NodeRecord → Saving K) (c : Cluster) (me : ℕ) (x : UpNode) (from number : ℕ) (outcome : Outcome) (o : Option Presidency)
    → Cut saving c me x (groups.done_at c me x from number outcome o) (cuts.done_at_course c me x from number outcome o)
done_at_cut saving c me x from number outcome None = same saving me (Stays x)
done_at_cut saving c me x from number outcome (Some p) =
    let y : UpNode = record x { presidency = Some (with_ended c x p from number outcome) } in
    cut_if saving c me x (order.is_due p.groups.view from number) (and_then (deciding c me y) (presidents.handling c me)) (Stays x)
    (Acts (Minds x.requests y.presidency) (joined c me y (deciding_course c me y) (cuts.handling_course c me))) Stops
    (cut_then saving c me y (deciding c me y) (deciding_course c me y) (presidents.handling c me) (cuts.handling_course c me) (deciding_cut saving c me y) (λ z. handling_cut saving c me z))
    (same saving me (Stays x))

done_cut : {K : Type 0} → (saving : K → NodeRecord → Saving K) (c : Cluster) (me : ℕ) (x : UpNode) (from e number : ℕ) (outcome : Outcome)
    → Cut saving c me x (groups.on_done c me x from e number outcome) (cuts.done_course c me x from e number outcome)
done_cut saving c me x from e number outcome =
    cut_if saving c me x (is_of_member x from e) _ (Stays x) (cuts.done_at_course c me x from number outcome x.presidency) Stops
    (done_at_cut saving c me x from number outcome x.presidency) (same saving me (Stays x))

carrying_cut : {K : Type 0} → (saving : K → NodeRecord → Saving K) (c : Cluster) (me : ℕ) (x : UpNode) (o : Order) (how : Carried) → Cut saving c me x (groups.carrying c me x o how) (cuts.carrying_course c me x o how)
carrying_cut saving c me x o how =
    let y : UpNode = worked c x o how in
    let fall : Plan = Falls (down.Panic (panic.Stop o.resource)) in
    same_gives saving me (order_told me o how) (if is_last c x o how then fall else Stays y) _
    (cut_if saving c me x (is_last c x o how) fall (Stays y) (Course_falls (down.Panic (panic.Stop o.resource))) (Acts (Works y.worker) Stops)
    (same saving me fall) (same saving me (Stays y)))

order_answered_cut : {K : Type 0} → (saving : K → NodeRecord → Saving K) (c : Cluster) (me : ℕ) (from : ℕ) (o : Order) (how : Carried) (x : UpNode)
    → Cut saving c me x (groups.order_answered from o how x) (cuts.order_answered_course from o how x)
order_answered_cut saving c me from o carried.Old x = same saving me (Stays x)
order_answered_cut saving c me from o (carried.Called outcome) x = same saving me _
order_answered_cut saving c me from o carried.Cleared x = same saving me _
order_answered_cut saving c me from o (carried.Kept outcome) x = same saving me _

obeying_cut : {K : Type 0} → (saving : K → NodeRecord → Saving K) (c : Cluster) (me : ℕ) (x : UpNode) (from : ℕ) (o : Order) (how : Carried) → Cut saving c me x (groups.obeying c me x from o how) (cuts.obeying_course c me x from o how)
obeying_cut saving c me x from o how =
    cut_then saving c me x (groups.carrying c me x o how) (cuts.carrying_course c me x o how) (groups.order_answered from o how) (cuts.order_answered_course from o how)
    (carrying_cut saving c me x o how) (λ y. order_answered_cut saving c me from o how y)

order_cut : {K : Type 0} → (saving : K → NodeRecord → Saving K) (c : Cluster) (me : ℕ) (outcome : Outcome) (x : UpNode) (from : ℕ) (o : Order)
    → Cut saving c me x (groups.on_order c me outcome x from o) (cuts.order_course c me outcome x from o)
order_cut saving c me outcome x from o =
    cut_if saving c me x (is_member x.seat && is_in x o.epoch) _ (Stays x) (cuts.obeying_course c me x from o (answer_to x.worker o outcome)) Stops
    (obeying_cut saving c me x from o (answer_to x.worker o outcome)) (same saving me (Stays x))

own_turn_cut : {K : Type 0} → (saving : K → NodeRecord → Saving K) (c : Cluster) (me : ℕ) (outcome : Outcome) (x : UpNode) (o : Option Order)
    → Cut saving c me x (groups.own_turn c me outcome x o) (cuts.own_turn_course c me outcome x o)
own_turn_cut saving c me outcome x None = same saving me (Stays x)
own_turn_cut saving c me outcome x (Some o) =
    let how : Carried = answer_to x.worker o outcome in
    cut_then saving c me x (groups.carrying c me x o how) (cuts.carrying_course c me x o how) (groups.own_done c me o how) (cuts.own_done_course c me o how)
    (carrying_cut saving c me x o how) (λ y. done_at_cut saving c me y me o.number (outcome_in how) y.presidency)

-- A tick.

prepares_are : (c : Cluster) (me : ℕ) (before x : UpNode) (o : Option Presidency) (rest : Course)
    → plan_from c me x (cuts.prepares_again_course before o rest) ≡ saying (prepares_again_by before o) (plan_from c me x rest)
prepares_are c me before x None rest = refl
prepares_are c me before x (Some p) rest = by_test (goes_again p.proposals)
  where
    proposed_are : (o : Option Proposed) (pending : Option (List ℕ))
        → plan_from c me x (cuts.prepares_course before o pending rest) ≡ saying (prepares_of before o pending) (plan_from c me x rest)
    proposed_are (Some q) (Some text) = refl
    proposed_are None pending = refl
    proposed_are (Some q) None = refl

    by_test : (b : Bool)
        → plan_from c me x (if b then cuts.prepares_course before p.proposals.proposed (record_of before).entries.pending rest else rest)
        ≡ saying (if b then prepares_of before p.proposals.proposed (record_of before).entries.pending else []) (plan_from c me x rest)
    by_test true = proposed_are p.proposals.proposed (record_of before).entries.pending
    by_test false = refl

going_again_cut : {K : Type 0} → (saving : K → NodeRecord → Saving K) (c : Cluster) (me : ℕ) (before x : UpNode) → Cut saving c me x (ticks.going_again c me before x) (cuts.going_again_course c me before x)
going_again_cut saving c me before x =
    let prepares : List Output = prepares_again before in
    let orders : List Output = orders_again before x in
    let ends : Plan = plan_from c me x (deciding_course c me x) in
    let rest : Course = Acts (Gives orders) (deciding_course c me x) in
    same_trans saving me (Says (prepares ++ orders) (deciding c me x)) (saying (prepares ++ orders) ends) (plan_from c me x (cuts.going_again_course c me before x))
    (same_gives saving me (prepares ++ orders) (deciding c me x) ends (deciding_cut saving c me x))
    (same_is saving me (saying (prepares ++ orders) ends) (plan_from c me x (cuts.going_again_course c me before x))
    (saying_append prepares orders ends ∙ sym (prepares_are c me before x before.presidency rest)))

governing_cut : {K : Type 0} → (saving : K → NodeRecord → Saving K) (c : Cluster) (me : ℕ) (outcome : Outcome) (before x : UpNode)
    → Cut saving c me x (ticks.governing c me outcome before x) (cuts.governing_course c me outcome before x)
governing_cut saving c me outcome before x =
    cut_then saving c me x (groups.own_turn c me outcome x (own_order me x)) (cuts.own_turn_course c me outcome x (own_order me x))
    (ticks.going_again c me before) (cuts.going_again_course c me before)
    (own_turn_cut saving c me outcome x (own_order me x)) (λ y. going_again_cut saving c me before y)

pub tick_cut : {K : Type 0} → (saving : K → NodeRecord → Saving K) (c : Cluster) (me : ℕ) (outcome : Outcome) (x : UpNode) → Cut saving c me x (ticks.on_tick c me outcome x) (cuts.tick_course c me outcome x)
tick_cut saving c me outcome x =
    let y : UpNode = later c x in
    let after : UpNode → Plan = λ z. ticks.attempt_ticked c me z z.attempt in
    let next : UpNode → Course = λ z. cuts.ticked_course c me z z.attempt in
    same_says saving me (of_node me note.Ticked ∷ []) _ _
    (same_gives saving me (ticked_output c x y) (and_then (ticks.governing c me outcome x y) after) (plan_from c me y (joined c me y (cuts.governing_course c me outcome x y) next))
    (cut_then saving c me y (ticks.governing c me outcome x y) (cuts.governing_course c me outcome x y) after next (governing_cut saving c me outcome x y) (λ z. ticked_cut saving c me z z.attempt)))

-- A monitor reports.

asking_this_cut : {K : Type 0} → (saving : K → NodeRecord → Saving K) (c : Cluster) (me : ℕ) (x : UpNode) (o : Option Ask) → Cut saving c me x (groups.asking_this c me x o) (cuts.asking_this_course c me x o)
asking_this_cut saving c me x None = same saving me (Stays x)
asking_this_cut saving c me x (Some ask) =
    let y : UpNode = monitor_asked x ask in
    let alone : Bool = is_idle x.requests.waiting in
    cut_if saving c me x (is_member x.seat && not (is_full x.requests)) (requests.asking_if alone c me y) (Stays x)
    (Acts (Minds y.requests x.presidency) (cuts.asking_if_course alone c me y)) Stops
    (asking_if_cut saving c me y alone) (same saving me (Stays x))

reporting_cut : {K : Type 0} → (saving : K → NodeRecord → Saving K) (c : Cluster) (me : ℕ) (x : UpNode) (r : List ℕ) (p : Probed) → Cut saving c me x (groups.reporting c me x r p) (cuts.reporting_course c me x r p)
reporting_cut saving c me x r probe.NoMonitor = same saving me (Stays x)
reporting_cut saving c me x r probe.Good = same saving me _
reporting_cut saving c me x r (probe.Failed a) =
    let y : UpNode = reported x c r (probe.Failed a) in
    same_says saving me (report_told me r (result_of a) ∷ []) _ _ (asking_this_cut saving c me y (asked_by a r))

-- A client's request.

serving_at_cut : {K : Type 0} → (saving : K → NodeRecord → Saving K) (c : Cluster) (me : ℕ) (s : ConfigState) (x : UpNode) (p : Presidency) (name : List ℕ) (client port : ℕ) (o : Option Address)
    → Cut saving c me x (addresses.serving_at s x p name client port o) (cuts.serving_at_course s x p name client port o)
serving_at_cut saving c me s x p name client port None = same saving me (Stays x)
serving_at_cut saving c me s x p name client port (Some a) =
    let o : serving.Outcome = serving.chosen (clients.state_of p.balancer name) (addresses.request_for s p a client port) in
    let y : UpNode = record x { presidency = Some (cuts.balanced p name o) } in
    same_gives saving me (addresses.served_lines name client port o) (Stays y) (Stays y) (same saving me (Stays y))

serving_by_cut : {K : Type 0} → (saving : K → NodeRecord → Saving K) (c : Cluster) (me : ℕ) (x : UpNode) (name : List ℕ) (client port : ℕ) (o : Option Presidency)
    → Cut saving c me x (addresses.serving_by c x name client port o) (cuts.serving_by_course c x name client port o)
serving_by_cut saving c me x name client port None = same saving me (Stays x)
serving_by_cut saving c me x name client port (Some p) = serving_at_cut saving c me (in_force c x) x p name client port (named (in_force c x).addresses name)

-- Each message.

answer_cut : {K : Type 0} → (saving : K → NodeRecord → Saving K) (c : Cluster) (me : ℕ) (x : UpNode) (from : ℕ) (m : Message) (o : Option AttemptState)
    → Cut saving c me x (members.on_answer c me x from m o) (cuts.answer_course c me x from m o)
answer_cut saving c me x from m None = same saving me (Stays x)
answer_cut saving c me x from m (Some a) = going_cut saving c me x a (Take from m)

body_cut : {K : Type 0} → (saving : K → NodeRecord → Saving K) (c : Cluster) (me : ℕ) (outcome : Outcome) (x : UpNode) (from : ℕ) (m : Message) (b : Body)
    → Cut saving c me x (members.on_body c me outcome x from m b) (cuts.body_course c me outcome x from m b)
body_cut saving c me outcome x from m (body.Heartbeat promised session member) = heartbeat_cut saving c me x from session member
body_cut saving c me outcome x from m (body.Collect e ms) = collect_cut saving c me x from e
body_cut saving c me outcome x from m (body.Promise e installed ms valid flagged committed pending) = answer_cut saving c me x from m x.attempt
body_cut saving c me outcome x from m (body.Nack e promised) = answer_cut saving c me x from m x.attempt
body_cut saving c me outcome x from m (body.SeizeQuorum e ms d) = seizing_cut saving c me x from Vote e ms d
body_cut saving c me outcome x from m (body.SeizeData e ms d) = seizing_cut saving c me x from Plain e ms d
body_cut saving c me outcome x from m (body.Seized e d ended) = answer_cut saving c me x from m x.attempt
body_cut saving c me outcome x from m (body.Install i) = install_cut saving c me x from i
body_cut saving c me outcome x from m (body.Ready e joined_devices report) = answer_cut saving c me x from m x.attempt
body_cut saving c me outcome x from m (body.Start e) = start_cut saving c me x e x.seat
body_cut saving c me outcome x from m (body.Excluded e newest) = notice_cut saving c me x e newest
body_cut saving c me outcome x from m (body.Prepare e place text) = prepare_cut saving c me x from e place text x.seat
body_cut saving c me outcome x from m (body.Prepared e place) = prepared_cut saving c me x from e place
body_cut saving c me outcome x from m (body.Commit e place) = commit_cut saving c me x e place x.seat
body_cut saving c me outcome x from m (body.Order o) = order_cut saving c me outcome x from o
body_cut saving c me outcome x from m (body.Done e number ended) = done_cut saving c me x from e number ended
body_cut saving c me outcome x from m (body.Request e number text) = asked_cut saving c me x from e number text
body_cut saving c me outcome x from m (body.Answer e number text) = reply_cut saving c me x e number (answer_in text)

pub packet_cut : {K : Type 0} → (saving : K → NodeRecord → Saving K) (c : Cluster) (me : ℕ) (outcome : Outcome) (x : UpNode) (from : ℕ) (m : Message)
    → Cut saving c me x (members.on_packet c me outcome x from m) (cuts.packet_course c me outcome x from m)
packet_cut saving c me outcome x from m =
    let y : UpNode = hearing x from m.body in
    cut_if saving c me x (is_foreign c me x m.body) (Stays x) _ Stops (Acts (Hears from m.body) (cuts.body_course c me outcome y from m m.body)) (same saving me (Stays x)) (body_cut saving c me outcome y from m m.body)

-- Devices.

distrusting_cut : {K : Type 0} → (saving : K → NodeRecord → Saving K) (c : Cluster) (me : ℕ) (x : UpNode) (o : Option ℕ)
    → Cut saving c me x (devices.distrusting_at me x o) (cuts.distrusting_course x o)
distrusting_cut saving c me x None = same saving me (Stays x)
distrusting_cut saving c me x (Some d) =
    cut_if saving c me x (has (record_of x).valid d) _ (Stays x) (Keeps (Distrusts d) Stops) Stops (same saving me _) (same saving me (Stays x))

own_seized_cut : {K : Type 0} → (saving : K → NodeRecord → Saving K) (c : Cluster) (me : ℕ) (x : UpNode) (d : ℕ) (result : SeizeResult) (o : Option AttemptState)
    → Cut saving c me x (devices.own_seized c me x d result o) (cuts.own_seized_course c me x d result o)
own_seized_cut saving c me x d result None = same saving me (Stays x)
own_seized_cut saving c me x d result (Some a) = going_cut saving c me x a (Own_seized d result)

seized_cut : {K : Type 0} → (saving : K → NodeRecord → Saving K) (c : Cluster) (me : ℕ) (x : UpNode) (d : ℕ) (result : SeizeResult) (o : Option ℕ)
    → Cut saving c me x (devices.seized_for c me x d result o) (cuts.seized_course c me x d result o)
seized_cut saving c me x d result None = same saving me (Stays x)
seized_cut saving c me x d result (Some coordinator) =
    cut_if saving c me x (coordinator == me) _ _ (cuts.own_seized_course c me x d result x.attempt) (writing coordinator (body.Seized (session_of x) d result))
    (own_seized_cut saving c me x d result x.attempt) (same saving me _)

joined_cut : {K : Type 0} → (saving : K → NodeRecord → Saving K) (c : Cluster) (me : ℕ) (x : UpNode) (o : Option ℕ)
    → Cut saving c me x (devices.joined_for c me x o) (cuts.joined_course c me x o)
joined_cut saving c me x None = same saving me (Stays x)
joined_cut saving c me x (Some coordinator) =
    cut_if saving c me x (coordinator == me) _ _ (own_ready_course c me x) (cuts.readying_course c x coordinator) (own_ready_cut saving c me x) (readying_cut saving c me x coordinator)

joining_cut : {K : Type 0} → (saving : K → NodeRecord → Saving K) (c : Cluster) (me : ℕ) (x : UpNode) (at : ℕ) (command : PrCommand) (a : DeviceAnswer) (d : ℕ) (result : JoinResult)
    → Cut saving c me x (Says (said c me x (Takes at command a)) (devices.joined_here c me (answered_so x a) d result)) (cuts.joining_course c me x at command a d result)
joining_cut saving c me x at command a d join.Joined =
    let y : UpNode = changed c me x (Admits at command a d) in
    same_says saving me (said c me x (Takes at command a)) _ _
    (same_saves saving me (record_of y) _ _ (same_says saving me (of_node me note.Saved ∷ []) _ _ (joined_cut saving c me y (coordinator_of y))))
joining_cut saving c me x at command a d (join.Late w) = same_says saving me (said c me x (Takes at command a)) _ _ (joined_cut saving c me (answered_so x a) (coordinator_of (answered_so x a)))
joining_cut saving c me x at command a d join.Fault = same_says saving me (said c me x (Takes at command a)) _ _ (joined_cut saving c me (answered_so x a) (coordinator_of (answered_so x a)))

progress_cut : {K : Type 0} → (saving : K → NodeRecord → Saving K) (c : Cluster) (me : ℕ) (x : UpNode) (at : ℕ) (command : PrCommand) (a : DeviceAnswer) (p : Progress)
    → Cut saving c me x (Says (said c me x (Takes at command a)) (devices.on_progress c me (answered_so x a) p)) (cuts.progress_course c me x at command a p)
progress_cut saving c me x at command a GoesOn = same saving me _
progress_cut saving c me x at command a (Seized d result) =
    same_says saving me (said c me x (Takes at command a)) _ _ (seized_cut saving c me (answered_so x a) d result (coordinator_of (answered_so x a)))
progress_cut saving c me x at command a (Joined d result) = joining_cut saving c me x at command a d result

answered_cut : {K : Type 0} → (saving : K → NodeRecord → Saving K) (c : Cluster) (me : ℕ) (x : UpNode) (a : DeviceAnswer) (o : Option ℕ) (p : Option PrCommand)
    → Cut saving c me x (devices.answered_with c me x a o p) (cuts.answered_course c me x a o p)
answered_cut saving c me x a (Some d) (Some command) = progress_cut saving c me x d command a (progress_after x.tasks a)
answered_cut saving c me x a None p = same saving me (Stays x)
answered_cut saving c me x a (Some d) None = same saving me (Stays x)

wrote_cut : {K : Type 0} → (saving : K → NodeRecord → Saving K) (c : Cluster) (me : ℕ) (x : UpNode) (d value : ℕ) (a : DeviceAnswer)
    → Same saving me (devices.write_ended me x d value a) (saying (write_lines me x d value a) (plan_from c me x (cuts.fenced_course d a)))
wrote_cut saving c me x d value (Ok given.Good) = same saving me _
wrote_cut saving c me x d value (Ok given.Conflict) = same saving me _
wrote_cut saving c me x d value (Ok given.InvalidRelease) = same saving me _
wrote_cut saving c me x d value (Ok given.NoPath) = same saving me _
wrote_cut saving c me x d value (Ok (given.Keys keys)) = same saving me _
wrote_cut saving c me x d value (Ok (given.Holder holder)) = same saving me _
wrote_cut saving c me x d value (Ok (given.Word w)) = same saving me _
wrote_cut saving c me x d value (Ok (given.Value v)) = same saving me _
wrote_cut saving c me x d value (Ok (given.Miscompare w)) = same saving me _
wrote_cut saving c me x d value (Err e) = same saving me _

-- Each step of a node that is up.
step_is_its_course : {K : Type 0} → (saving : K → NodeRecord → Saving K) (c : Cluster) (me : ℕ) (outcome : Outcome) (x : UpNode) (i : Input)
    → Cut saving c me x (plan_of c me outcome x i) (course_of c me outcome x i)
step_is_its_course saving c me outcome x Boot = same saving me (Stays x)
step_is_its_course saving c me outcome x Crash = same saving me (Falls down.Crash)
step_is_its_course saving c me outcome x Tick = tick_cut saving c me outcome x
step_is_its_course saving c me outcome x (Packet from message) = packet_cut saving c me outcome x from message
step_is_its_course saving c me outcome x CommandDue = distrusting_cut saving c me x (begins_plainly x.tasks)
step_is_its_course saving c me outcome x (Answered a) = answered_cut saving c me x a (due_device x.tasks) (next_of x.tasks)
step_is_its_course saving c me outcome x (Commanded words) = command_cut saving c me x words
step_is_its_course saving c me outcome x (Wrote d value a) = same_says saving me (Tells (devices.write_told me d value a) ∷ []) _ _ (wrote_cut saving c me x d value a)
step_is_its_course saving c me outcome x (Reported r good) = reporting_cut saving c me x r (probed x.worker (own_config c x) r good x.second)
step_is_its_course saving c me outcome x (Client name client port) = serving_by_cut saving c me x name client port x.presidency

-- .. at a second of the clock
pub step_of_node_is_its_course : {K : Type 0} → (saving : K → NodeRecord → Saving K) (c : Cluster) (me : ℕ) (now : ℕ) (outcome : Outcome) (x : UpNode) (i : Input)
    → Cut saving c me x (plan_of c me outcome (at_second now x) i) (course_at c me now outcome x i)
step_of_node_is_its_course saving c me now outcome x i = step_is_its_course saving c me outcome (at_second now x) i
