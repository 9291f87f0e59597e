-- Whatever happens to a node, what it does has its widths.
use Rattle.std.specs.Prelude.{ℕ, ◌≡◌, ◌≤◌, ◌<◌, ◌^◌, ◌+◌, ◌*◌, ◌/◌, ◌==◌, ◌&&◌, nat_le, nat_lt, Bool, true, false, List, [], ◌∷◌, Option, None, Some, IfSome, Ok, find, flat_map, is_some, if◌then◌else◌}
use Rattle.std.proofs.Common.{refl, subst, arith}
use Rattle.std.specs.Option.{option_map, unwrap_or}
use Rattle.answer_words.specs.Answers.{answer_in}
use Rattle.cl_base.specs.Seizings.{SeizeResult}
use Rattle.cl_base.specs.Limits.{most_nodes}
use Rattle.cl_base.specs.Numbers.{numbers_to}
use Rattle.cl_base.specs.Sets.{has, set_without}
use Rattle.cl_base.specs.declared.method.Outcome.{Outcome}
use Rattle.ccr_commit.specs.Entries.{all_committed}
use Rattle.ccr_tables.specs.State.{ConfigState}
use Rattle.cmm_attempt.specs.declared.phase.Phase.{Phase}
use Rattle.cmm_attempt.specs.declared.phase.Phase.TheVariants.{Collecting, Choosing, SeizingVotes, SeizingOthers, Installing, Over}
use Rattle.cmm_attempt.specs.declared.promised.Promised.{Promised}
use Rattle.cmm_attempt.specs.declared.step.AttemptEnd.{AttemptEnd}
use Rattle.cmm_attempt.specs.declared.step.AttemptEnd.TheVariants as ended
use Rattle.cmm_attempt.specs.declared.step.Step.{Step}
use Rattle.cmm_attempt.specs.declared.step.Step.TheVariants as step
use Rattle.cmm_attempt.specs.Attempts.{AttemptState, Turn, beginning, newest_installed, own_readying}
use Rattle.cmm_attempt.specs.Calls.{Own_ready, Own_seized, Take, Tick as Call_tick, With_votes, starts_in, turn}
use Rattle.cmm_attempt.specs.Promises.{is_from}
use Rattle.cmm_attempt.proofs.Basics.{false_true, if_either, less, none_some, same_some}
use Rattle.attempt_laws.proofs.Walk.{if_with}
use Rattle.device_queue.specs.declared.progress.Progress.{Progress}
use Rattle.device_queue.specs.declared.progress.Progress.TheVariants as progress
use Rattle.device_queue.specs.Queue.{after_answer, begins_plainly, due_device, joins, kept_of, next_of, progress_after, seizure_of}
use Rattle.heartbeats.specs.Due.{begins}
use Rattle.heartbeats.specs.Views.{receivers_of}
use Rattle.pgr_device.specs.declared.command.PrAnswer.TheVariants as given
use Rattle.pgr_device.specs.declared.command.PrCommand.{PrCommand}
use Rattle.request_queue.specs.declared.request.Request.{Request}
use Rattle.rg_props.specs.declared.group.Resource.{Resource}
use Rattle.rg_view.specs.States as states
use Rattle.rg_view.specs.declared.view.GroupView.{GroupView}
use Rattle.rgm_member.specs.Flags.{has_flag}
use Rattle.rgm_member.specs.Reports.{report_of}
use Rattle.seize.specs.Answers.{Answer}
use Rattle.seize.specs.declared.kind.JoinResult.{JoinResult}
use Rattle.seize.specs.declared.kind.JoinResult.TheVariants as join
use Rattle.seize.specs.declared.kind.SeizeKind.{SeizeKind}
use Rattle.seize.specs.declared.kind.SeizeKind.TheVariants.{Vote, Plain}
use Rattle.cl_base.specs.declared.seizing.SeizeEnd.TheVariants as seized
use Rattle.status_report.specs.declared.node_entry.NodeEntry.TheVariants as note
use Rattle.status_report.specs.declared.attempt_entry.AttemptEntry.TheVariants as attempt
use Rattle.status_report.specs.declared.entry.Entry.TheVariants as entry
use Rattle.wire.specs.declared.message.Body.{Body}
use Rattle.wire.specs.declared.message.Body.TheVariants as body
use Rattle.wire.specs.declared.message.Install.{Install}
use Rattle.wire.specs.declared.message.Message.{Message}
use Rattle.wire.specs.Spelling.{FitsResult, IsDevice, IsNode, IsNodes, IsWord}
use Rattle.refinement.proofs.node_widths.Clients.{client_so}
use Rattle.node_model.specs.Configurations.{configured_at}
use Rattle.node_model.specs.declared.cluster.Cluster.{Cluster}
use Rattle.node_model.specs.declared.input.Input.TheVariants as input
use Rattle.node_model.specs.declared.node.UpNode.{UpNode}
use Rattle.node_model.specs.declared.output.Output.{Output}
use Rattle.node_model.specs.declared.presidency.Presidency.{Presidency}
use Rattle.node_model.specs.declared.seat.Seat.{Seat}
use Rattle.node_model.specs.declared.seat.Seat.TheVariants.{Forming, Member}
use Rattle.node_model.specs.Attempts as attempts
use Rattle.node_model.specs.Attempts.{adopted_line, adopted_lines, adopted_of, adopted_on, begins_install, installing, is_adopted, is_choosing, left_out_by, may_count_on, next_epoch, own_promise, presiding, promise_of, reports_of, resting, start_lines, starting_as, under_way, votes_in}
use Rattle.node_model.specs.Configurations.{in_force, own_config}
use Rattle.node_model.specs.Deciding as deciding
use Rattle.node_model.specs.Devices as devices
use Rattle.node_model.specs.Devices.{distrusting, joining_so}
use Rattle.node_model.specs.Members as members
use Rattle.node_model.specs.Members.{hearing, is_foreign, promised_so, ready_of, rested_by, sitting}
use Rattle.node_model.specs.Entries.{answering, telling, telling_of, unknown_lines}
use Rattle.node_model.specs.Groups.{orders_again, own_order, own_turn}
use Rattle.node_model.specs.Plans.{Plan}
use Rattle.node_model.specs.Plans.Plan.{Stays, Falls, Says}
use Rattle.node_model.specs.Seats.{coordinator_of, installed_of, is_in, promised_of, promising, record_of, session_of, state_of}
use Rattle.node_model.specs.Ticks as ticks
use Rattle.node_model.specs.Ticks.{heartbeats_to, later, membership_of, members_to_form, to_form_in, waiting_less}
use Rattle.node_model.specs.Updates.{prepares_again, request_again}
use Rattle.refinement.specs.node_widths.Widths.{AllFit, AreDevices, AttemptFits, BodyFits, AnswerFits, PresidencyFits, PromisedFits, StateFits, UpFits}
use Rattle.refinement.specs.node_widths.Plans.{PlanFits, StepsKeepWidths}
use Rattle.refinement.proofs.node_widths.Deciding.{decides}
use Rattle.refinement.proofs.node_widths.Groups.{done_so, order_so, orders_again_fits, own_turn_fits, report_so}
use Rattle.refinement.proofs.node_widths.Nodes.{answers, base_fits, both_fit, committed_fits, coordinator_is_node, either_fits, first_read_fits, heartbeats_fit, installing_fits, joined_fits, keeps, later_fits, promised_fits, seizing_here_fits, shown_fits, then_fits, unknown_fit, valid_fits, with_attempt_fits, with_state_fits, with_tasks_fits}
use Rattle.refinement.proofs.node_widths.Orders.{begun_fits}
use Rattle.refinement.proofs.node_widths.Queues.{nothing_fits}
use Rattle.refinement.proofs.node_widths.Requests.{command_so, reply_so}
use Rattle.refinement.proofs.node_widths.Sets.{device_without, held_fits}
use Rattle.refinement.proofs.node_widths.Tasks.{ProgressFits, answered_fit, found_fits, kept_fits, progress_fits, put_fits}
use Rattle.refinement.proofs.node_widths.Turns.{AllSteps, EndFits, StepFits, first_fits, turn_fits}
use Rattle.refinement.proofs.node_widths.Updates.{asked_so, commit_so, prepare_so, prepared_fits_so, prepares_again_fits, request_again_fits}
use Rattle.refinement.proofs.node_widths.Workers.{report_fits}

-- The steps of an attempt.

newest_fits : (o : Option Promised) → IfSome o PromisedFits → IsWord (unwrap_or (option_map (λ (p : Promised). p.shown.summary.installed) o) 0)
newest_fits None h = omega arith
newest_fits (Some p) h = h.1

excludes : (c : Cluster) (n : ℕ) (x : UpNode) (e newest : ℕ) (o : Option ℕ) → IsWord e → IsWord newest → IfSome o IsNode → UpFits c n x → PlanFits c n (attempts.excluding n x e newest o)
excludes c n x e newest None small new is h = h
excludes c n x e newest (Some m) small new is h =
    either_fits c n (m == n) (Falls _) (answering m (body.Excluded e newest) x) tt (answers c n m (body.Excluded e newest) x is.0 (small, new) h)

left_out_fits : (e : AttemptEnd) → EndFits e → IfSome (left_out_by e) IsNode
left_out_fits (ended.Votes have need lacking) h = tt
left_out_fits (ended.Superseded p) h = tt
left_out_fits (ended.Silent m) h = tt
left_out_fits (ended.Foreign m) h = tt
left_out_fits (ended.Excluded m) h = h

rests : (c : Cluster) (n : ℕ) (x : UpNode) → UpFits c n x → UpFits c n (resting x)
rests c n x h = record { state = h.state; all_tasks = h.all_tasks; own = tt; seen = h.seen; asked = h.asked; works = h.works; clock = h.clock; presides = h.presides }

ends : (c : Cluster) (n : ℕ) (x : UpNode) (e : AttemptEnd) (o : Option AttemptState) → EndFits e → IfSome o AttemptFits → UpFits c n x → PlanFits c n (attempts.ending n x e o)
ends c n x e None is f h = h
ends c n x e (Some a) is f h = (
  tt,
  excludes c n (resting x) a.plan.epoch (unwrap_or (newest_installed a) 0) (left_out_by e) f.epoch (newest_fits (find (is_from a.newest) a.promises) (found_fits PromisedFits (is_from a.newest) a.promises f.promised))
      (left_out_fits e is) (rests c n x h),
)

installs_here : (c : Cluster) (n : ℕ) (x : UpNode) (i : Install) (seat : Seat) → BodyFits (body.Install i) → StateFits (state_of seat) → UpFits c n x → PlanFits c n (attempts.installing_here c n x i seat)
installs_here c n x i (Member s) f state h = h
installs_here c n x i (Forming s) f state h =
    let y : UpNode = installing c n x s [] i in
    let k : UpFits c n y = installing_fits c n x s [] i f state tt h in
    either_fits c n (attempts.installs_now s i) (attempts.installed_so n y i.epoch (Stays y)) (Stays x) (keeps c n y (telling_of n (note.Installed i.epoch) (Stays y)) k (tt, k)) h

presides : (c : Cluster) (n : ℕ) (x : UpNode) (a : AttemptState) → AttemptFits a → PresidencyFits (presiding c n x a)
presides c n x a f =
    (nothing_fits, held_fits a.devices f.seizings, begun_fits (own_config c x) a.plan.epoch a.plan.members (reports_of n (report_of x.worker (own_config c x)) a) x.second f.epoch)

-- Lines have no widths.

each_fits : {X : Type 0} (f : X → List Output) (xs : List X) → ((x : X) → AllFit (f x)) → AllFit (flat_map f xs)
each_fits f [] h = tt
each_fits f (x ∷ xs) h = both_fit (f x) (flat_map f xs) (h x) (each_fits f xs h)

adopted_fits : (e : ℕ) (v : GroupView) (resources : List (List ℕ × Resource)) → AllFit (adopted_lines e v resources)
unfolding adopted_lines
adopted_fits e v resources =
    each_fits (adopted_on e v resources) (numbers_to v.members most_nodes)
    (λ n. each_fits (λ x. adopted_line e n x.0 (states.state_of v.resources x.0 n)) resources (λ x. if_either AllFit (is_adopted (states.state_of v.resources x.0 n)) _ [] tt tt))

adopted_of_fits : (e : ℕ) (s : ConfigState) (o : Option Presidency) → AllFit (adopted_of e s o)
adopted_of_fits e s None = tt
adopted_of_fits e s (Some p) = adopted_fits e p.groups.view s.groups.resources

started_with : (c : Cluster) (n : ℕ) (x : UpNode) (a : AttemptState) (seat : Seat) → AttemptFits a → StateFits (state_of seat) → UpFits c n x → PlanFits c n (attempts.starting_with c n x a seat)
started_with c n x a (Member s) f state h = h
started_with c n x a (Forming s) f state h =
    let y : UpNode = starting_as c n x a s in
    let k : UpFits c n y = record {
      state = committed_fits s state;
      all_tasks = h.all_tasks;
      own = tt;
      seen = h.seen;
      asked = h.asked;
      works = (f.epoch, tt, h.works.2, h.works.3);
      clock = h.clock;
      presides = presides c n x a f;
    } in
    let last : Plan = telling_of n (note.Member a.plan.epoch) (Stays y) in
    let lines : PlanFits c n (start_lines c a s y last) =
    (tt, (base_fits a.plan.epoch 0 (all_committed s.saved.entries).committed, (adopted_of_fits a.plan.epoch (in_force c y) y.presidency, (tt, k)))) in
    either_fits c n (attempts.starts_now s a.plan.epoch) (attempts.started_so c n a s y) (Stays x)
    (either_fits c n (is_some s.saved.entries.pending) _ _ (keeps c n y (start_lines c a s y last) k lines) lines) h

starts_here : (c : Cluster) (n : ℕ) (x : UpNode) (o : Option AttemptState) → IfSome o AttemptFits → UpFits c n x → PlanFits c n (attempts.starting_here c n x o)
starts_here c n x None f h = h
starts_here c n x (Some a) f h = started_with c n x a x.seat f h.state h

does_step : (c : Cluster) (n : ℕ) (x : UpNode) (s : Step) → StepFits s → UpFits c n x → PlanFits c n (attempts.step_plan c n x s)
does_step c n x (step.Send to m) f h = answers c n to m.body x f.0.0 f.1 h
does_step c n x (step.SeizeHere d kind) f h = seizing_here_fits c n x d kind x.attempt f h.own h
does_step c n x (step.NeedVotes m) f h = h
does_step c n x (step.InstallHere i) f h = installs_here c n x i x.seat f h.state h
does_step c n x step.StartHere f h = starts_here c n x x.attempt h.own h
does_step c n x (step.Ended e) f h = ends c n x e x.attempt f h.own h

does_steps : (c : Cluster) (n : ℕ) (x : UpNode) (steps : List Step) → AllSteps steps → UpFits c n x → PlanFits c n (attempts.performing c n x steps)
does_steps c n x [] f h = h
does_steps c n x (s ∷ steps) f h =
    then_fits c n (attempts.step_plan c n x s) (λ y. attempts.performing c n y steps) (does_step c n x s f.0 h) (λ y k. does_steps c n y steps f.1 k)

does_all : (c : Cluster) (n : ℕ) (x : UpNode) (steps : List Step) → AllSteps steps → UpFits c n x → PlanFits c n (attempts.performed_all c n x steps)
does_all c n x steps f h =
    then_fits c n (attempts.performing c n x steps) (λ y. if starts_in steps then deciding.deciding c n y else Stays y) (does_steps c n x steps f h)
    (λ y k. either_fits c n (starts_in steps) (deciding.deciding c n y) (Stays y) (decides c n y k) k)

readied : (c : Cluster) (n : ℕ) (x : UpNode) (o : Option AttemptState) → IfSome o AttemptFits → UpFits c n x → PlanFits c n (attempts.readied_by c n x o)
readied c n x None f h = h
readied c n x (Some a) f h =
    let good : AttemptFits (turn a Own_ready).after × AllSteps (turn a Own_ready).steps = turn_fits a Own_ready tt tt f in
    does_all c n (under_way x (own_readying a).after) (own_readying a).steps good.1 (with_attempt_fits c n x (Some (own_readying a).after) good.0 h)

own_ready_fits : (c : Cluster) (n : ℕ) (x : UpNode) → UpFits c n x → PlanFits c n (attempts.own_ready c n x)
own_ready_fits c n x h = either_fits c n (joins x.tasks) (Stays x) (attempts.readied_by c n x x.attempt) h (readied c n x x.attempt h.own h)

performed_fits : (c : Cluster) (n : ℕ) (x : UpNode) (steps : List Step) → AllSteps steps → UpFits c n x → PlanFits c n (attempts.performed c n x steps)
performed_fits c n x steps f h =
    then_fits c n (attempts.performed_all c n x steps) (λ y. if begins_install steps then attempts.own_ready c n y else Stays y) (does_all c n x steps f h)
    (λ y k. either_fits c n (begins_install steps) (attempts.own_ready c n y) (Stays y) (own_ready_fits c n y k) k)

choosing_is : (phase : Phase) → is_choosing phase ≡ true → phase ≡ Choosing
choosing_is Collecting h = absurd (false_true h)
choosing_is Choosing h = refl
choosing_is SeizingVotes h = absurd (false_true h)
choosing_is SeizingOthers h = absurd (false_true h)
choosing_is Installing h = absurd (false_true h)
choosing_is Over h = absurd (false_true h)

abbrev Good : Turn → Type 0
Good t = AttemptFits t.after × AllSteps t.steps

goes_on : (c : Cluster) (n : ℕ) (x : UpNode) (t : Turn) → Good t → UpFits c n x → PlanFits c n (attempts.going_on c n x t)
goes_on c n x t good h =
    let u : Turn = turn t.after (With_votes (votes_in c t.after)) in
    if_with (PlanFits c n) (is_choosing t.after.phase) (is_choosing t.after.phase) (attempts.performed c n (under_way x u.after) u.steps) (attempts.performed c n (under_way x t.after) t.steps) refl
    (λ e.
    let next : Good u = turn_fits t.after (With_votes (votes_in c t.after)) (choosing_is t.after.phase e) tt good.0 in
    performed_fits c n (under_way x u.after) u.steps next.1 (with_attempt_fits c n x (Some u.after) next.0 h))
    (λ e. performed_fits c n (under_way x t.after) t.steps good.1 (with_attempt_fits c n x (Some t.after) good.0 h))

-- An attempt begins.

led_fits : (c : Cluster) (n : ℕ) (y : UpNode) (waiting : List Request) (p members : ℕ) → AreDevices c → IsWord p → IsNodes members → UpFits c n y
    → PlanFits c n (attempts.led c n y waiting p members)
led_fits c n y waiting p members are small set h =
    keeps c n y (telling (entry.Attempt (attempt.Begun p members)) (Says (unknown_lines n waiting) (attempts.going_on c n y (beginning p members (own_promise n y p) c.attached c.id)))) h (
      tt,
      (
        unknown_fit n waiting,
        goes_on c n y (beginning p members (own_promise n y p) c.attached c.id)
            (first_fits p members (own_promise n y p) c.attached c.id small set (shown_fits (record_of y) (has_flag y.worker) p h.state.record_fits small) are.few are.attached) h,
      ),
    )

promises_so : (c : Cluster) (n : ℕ) (x : UpNode) (p : ℕ) → IsWord p → UpFits c n x → UpFits c n (promising x p)
promises_so c n x p small h = record { state = promised_fits (state_of x.seat) p small h.state; all_tasks = tt; own = tt; seen = h.seen; asked = (h.asked.0, tt); works = h.works; clock = h.clock; presides = tt }

leads : (c : Cluster) (n : ℕ) (x : UpNode) (p members : ℕ) → AreDevices c → IsWord p → IsNodes members → UpFits c n x → PlanFits c n (attempts.leading_to c n x p members)
leads c n x p members are small set h =
    either_fits c n (nat_lt (promised_of x) p) (attempts.led c n (record (promising x p) { greatest = p }) x.requests.waiting p members) (Stays x)
    (led_fits c n (record (promising x p) { greatest = p }) x.requests.waiting p members are small set (promises_so c n x p small h)) h

-- the members are the view, and there is an epoch above
formed : (c : Cluster) (n : ℕ) (x : UpNode) (o : Option ℕ) (members : ℕ) → IfSome o IsNodes → to_form_in c n x o ≡ Some members → (may_count_on x.greatest ≡ true) × IsNodes members
formed c n x None members f h = absurd (none_some members h)
formed c n x (Some view) members f h = by_test (may_count_on x.greatest) (begins x.beats (configured_at c x) (membership_of x.seat)) (has view n) h
  where
    by_test : (first second third : Bool) → (if first && second && third then Some view else None) ≡ Some members → (first ≡ true) × IsNodes members
    by_test true true true is = (refl, subst IsNodes (same_some view members is) f)
    by_test true true false is = absurd (none_some members is)
    by_test true false third is = absurd (none_some members is)
    by_test false second third is = absurd (none_some members is)

next_is_word : (n : ℕ) (x : UpNode) → n ≤ 32 → may_count_on x.greatest ≡ true → IsWord (next_epoch n x)
next_is_word n x low may = small (x.greatest / 64) low (less (x.greatest / 64) (2 ^ 56) may)
  where
    small : (k : ℕ) → n ≤ 32 → k < 2 ^ 56 → (k + 1) * 64 + n < 2 ^ 64
    small k l b = omega (arith, l, b)

forms : (c : Cluster) (n : ℕ) (x : UpNode) (o : Option ℕ) → AreDevices c → IsNode n → members_to_form c n x ≡ o → UpFits c n x → PlanFits c n (ticks.forming c n x o)
forms c n x None are is e h = h
forms c n x (Some members) are is e h =
    let two : (may_count_on x.greatest ≡ true) × IsNodes members = formed c n x x.beats.view members h.seen e in
    leads c n x (next_epoch n x) members are (next_is_word n x is.1 two.0) two.1 h

ticks_by : (c : Cluster) (n : ℕ) (x : UpNode) (o : Option AttemptState) → AreDevices c → IsNode n → IfSome o AttemptFits → UpFits c n x → PlanFits c n (ticks.attempt_ticked c n x o)
ticks_by c n x (Some a) are is f h = goes_on c n x (turn a Call_tick) (turn_fits a Call_tick tt tt f) h
ticks_by c n x None are is f h =
    either_fits c n (nat_le 1 x.beats.wait) (Stays (waiting_less x)) (ticks.forming c n (waiting_less x) (members_to_form c n (waiting_less x))) h
    (forms c n (waiting_less x) (members_to_form c n (waiting_less x)) are is refl h)

ticked_fits : (c : Cluster) (n : ℕ) (before x : UpNode) → UpFits c n before → StateFits (state_of x.seat) → AllFit (ticks.ticked_output c before x)
ticked_fits c n before x h state =
    both_fit (heartbeats_to x (receivers_of x.beats (configured_at c x))) (request_again before) (heartbeats_fit x (receivers_of x.beats (configured_at c x)) state) (request_again_fits c n before h)

again_output_fits : (c : Cluster) (n : ℕ) (before x : UpNode) → UpFits c n before → UpFits c n x → AllFit (ticks.again_output before x)
again_output_fits c n before x h k = both_fit (prepares_again before) (orders_again before x) (prepares_again_fits c n before h) (orders_again_fits c n before x k)

governs : (c : Cluster) (n : ℕ) (outcome : Outcome) (before x : UpNode) → IsNode n → UpFits c n before → UpFits c n x → PlanFits c n (ticks.governing c n outcome before x)
governs c n outcome before x is h k =
    then_fits c n (own_turn c n outcome x (own_order n x)) (ticks.going_again c n before) (own_turn_fits c n outcome x is k)
    (λ y l. (again_output_fits c n before y h l, decides c n y l))

ticks_so : (c : Cluster) (n : ℕ) (outcome : Outcome) (x : UpNode) → AreDevices c → IsNode n → UpFits c n x → PlanFits c n (ticks.on_tick c n outcome x)
ticks_so c n outcome x are is h =
    let y : UpNode = later c x in
    let k : UpFits c n y = later_fits c n x h in (
      tt,
      (
        ticked_fits c n x y h k.state,
        then_fits c n (ticks.governing c n outcome x y) (λ z. ticks.attempt_ticked c n z z.attempt) (governs c n outcome x y is h k) (λ z l. ticks_by c n z z.attempt are is l.own l),
      ),
    )

-- Messages.

beats_so : (c : Cluster) (n : ℕ) (x : UpNode) (from session : ℕ) (member : Bool) → IsNode from → UpFits c n x → PlanFits c n (members.on_heartbeat n x from session member)
beats_so c n x from session member is h =
    either_fits c n (members.awaits_start n x from session member) _ (Stays x) (answers c n from (body.Start (session_of x)) x is.0 h.state.session h) h

promised_so_fits : (c : Cluster) (n : ℕ) (x : UpNode) (p : ℕ) (o : Option AttemptState) → IsWord p → UpFits c n x → UpFits c n (rested_by (promising x p) o)
promised_so_fits c n x p None small h = promises_so c n x p small h
promised_so_fits c n x p (Some a) small h = rests c n (promising x p) (promises_so c n x p small h)

superseded_fits : (c : Cluster) (n : ℕ) (x : UpNode) (p : ℕ) (o : Option AttemptState) (rest : Plan) → PlanFits c n rest → PlanFits c n (members.superseded_by x p o rest)
superseded_fits c n x p None rest h = h
superseded_fits c n x p (Some a) rest h = (tt, h)

promise_answers : (c : Cluster) (n : ℕ) (x : UpNode) (from p : ℕ) → IsNode from → IsWord p → UpFits c n x → PlanFits c n (answering from (promise_of x p) x)
promise_answers c n x from p is small h = answers c n from (promise_of x p) x is.0 (shown_fits (record_of x) (has_flag x.worker) p h.state.record_fits small) h

collects_so : (c : Cluster) (n : ℕ) (x : UpNode) (from p : ℕ) → IsNode from → IsWord p → UpFits c n x → PlanFits c n (members.on_collect n x from p)
collects_so c n x from p is small h =
    let y : UpNode = promised_so x p in
    let k : UpFits c n y = promised_so_fits c n x p x.attempt small h in
    either_fits c n (nat_lt (promised_of x) p) _ _ (keeps c n y _ k (superseded_fits c n x p x.attempt _ (unknown_fit n x.requests.waiting, promise_answers c n y from p is small k)))
    (either_fits c n (is_in x p) _ _ (promise_answers c n x from p is small h) (answers c n from (body.Nack p (promised_of x)) x is.0 (small, h.state.record_fits.promised) h))

requests_so : (c : Cluster) (n : ℕ) (x : UpNode) (from : ℕ) (kind : SeizeKind) (e ms d : ℕ) (o : Option SeizeResult) → IsNode from → IsWord e → IsDevice d → IfSome o FitsResult → UpFits c n x
    → PlanFits c n (members.on_request c n x from kind e ms d o)
requests_so c n x from kind e ms d (Some result) is small device f h = answers c n from (body.Seized e d result) x is.0 (small, device, f) h
requests_so c n x from kind e ms d None is small device f h =
    either_fits c n (installed_of x == e) _ (Stays _) (answers c n from (body.Seized e d seized.Fault) x is.0 (small, device, tt) h)
    (with_tasks_fits c n x _ (put_fits c n (seizure_of x.tasks d) _ x.tasks (device, (small, refl, refl, first_read_fits kind)) h.all_tasks) h)

seizes_so : (c : Cluster) (n : ℕ) (x : UpNode) (from : ℕ) (kind : SeizeKind) (e ms d : ℕ) → IsNode from → IsWord e → IsDevice d → UpFits c n x
    → PlanFits c n (members.on_seizing c n x from kind e ms d)
seizes_so c n x from kind e ms d is small device h =
    either_fits c n (is_in x e) _ (Stays x) (requests_so c n x from kind e ms d (kept_of x.tasks d) is small device (kept_fits c n x.tasks d h.all_tasks) h) h

readies : (c : Cluster) (n : ℕ) (x : UpNode) (to : ℕ) → IsNode to → UpFits c n x → PlanFits c n (members.readying c x to)
readies c n x to is h =
    either_fits c n (joins x.tasks) (Stays x) (answering to (ready_of c x) x) h
    (answers c n to (ready_of c x) x is.0 (h.state.session, h.state.joined, report_fits x.worker (own_config c x) h.works) h)

installs_as : (c : Cluster) (n : ℕ) (x : UpNode) (from : ℕ) (i : Install) (seat : Seat) → IsNode from → BodyFits (body.Install i) → StateFits (state_of seat) → UpFits c n x
    → PlanFits c n (members.on_install_as c n x from i seat)
installs_as c n x from i (Member s) is f state h = readies c n x from is h
installs_as c n x from i (Forming s) is f state h =
    let y : UpNode = installing c n x s x.tasks i in
    let k : UpFits c n y = installing_fits c n x s x.tasks i f state h.all_tasks h in
    either_fits c n (s.saved.installed == i.epoch) (members.readying c x from) _ (readies c n x from is h) (keeps c n y (telling_of n (note.Installed i.epoch) (members.readying c y from)) k (tt, readies c n y from is k))

installs_so : (c : Cluster) (n : ℕ) (x : UpNode) (from : ℕ) (i : Install) → IsNode from → BodyFits (body.Install i) → UpFits c n x → PlanFits c n (members.on_install c n x from i)
installs_so c n x from i is f h =
    either_fits c n (is_in x i.epoch) (members.on_install_as c n x from i x.seat) _ (installs_as c n x from i x.seat is f h.state h)
    (answers c n from (body.Nack i.epoch (promised_of x)) x is.0 (f.0, h.state.record_fits.promised) h)

sits_as : (c : Cluster) (n : ℕ) (x : UpNode) (e : ℕ) (seat : Seat) → StateFits (state_of seat) → UpFits c n x → PlanFits c n (members.on_start_as n x e seat)
sits_as c n x e (Member s) state h = h
sits_as c n x e (Forming s) state h =
    let y : UpNode = sitting x s in
    let k : UpFits c n y = record {
      state = committed_fits s state;
      all_tasks = h.all_tasks;
      own = h.own;
      seen = h.seen;
      asked = h.asked;
      works = (state.session, tt, h.works.2, h.works.3);
      clock = h.clock;
      presides = h.presides;
    } in
    either_fits c n (attempts.starts_now s e) _ (Stays x) (either_fits c n (is_some s.saved.entries.pending) _ _ (keeps c n y (telling_of n (note.Member e) (Stays y)) k (tt, k)) (tt, k)) h

takes_so : (c : Cluster) (n : ℕ) (x : UpNode) (from : ℕ) (m : Message) (o : Option AttemptState) → BodyFits m.body → IfSome o AttemptFits → UpFits c n x → PlanFits c n (members.on_answer c n x from m o)
takes_so c n x from m None f g h = h
takes_so c n x from m (Some a) f g h = goes_on c n x (turn a (Take from m)) (turn_fits a (Take from m) tt f g) h

body_so : (c : Cluster) (n : ℕ) (outcome : Outcome) (x : UpNode) (from : ℕ) (m : Message) (b : Body) → m.body ≡ b → IsNode n → IsNode from → BodyFits m.body → BodyFits b → UpFits c n x
    → PlanFits c n (members.on_body c n outcome x from m b)
body_so c n outcome x from m (body.Heartbeat promised session member) e own is whole f h = beats_so c n x from session member is h
body_so c n outcome x from m (body.Collect p members) e own is whole f h = collects_so c n x from p is f.0 h
body_so c n outcome x from m (body.Promise p installed members valid flagged committed pending) e own is whole f h = takes_so c n x from m x.attempt whole h.own h
body_so c n outcome x from m (body.Nack p promised) e own is whole f h = takes_so c n x from m x.attempt whole h.own h
body_so c n outcome x from m (body.SeizeQuorum p members d) e own is whole f h = seizes_so c n x from Vote p members d is f.0 f.2 h
body_so c n outcome x from m (body.SeizeData p members d) e own is whole f h = seizes_so c n x from Plain p members d is f.0 f.2 h
body_so c n outcome x from m (body.Seized p d result) e own is whole f h = takes_so c n x from m x.attempt whole h.own h
body_so c n outcome x from m (body.Install i) e own is whole f h = installs_so c n x from i is f h
body_so c n outcome x from m (body.Ready p joined report) e own is whole f h = takes_so c n x from m x.attempt whole h.own h
body_so c n outcome x from m (body.Start p) e own is whole f h = sits_as c n x p x.seat h.state h
body_so c n outcome x from m (body.Prepare p place text) e own is whole f h = prepare_so c n x from p place text x.seat is f.0 f.1 h.state h
body_so c n outcome x from m (body.Prepared p place) e own is whole f h = prepared_fits_so c n x from p place own h
body_so c n outcome x from m (body.Commit p place) e own is whole f h = commit_so c n x p place x.seat h.state h
body_so c n outcome x from m (body.Order o) e own is whole f h = order_so c n outcome x from o is f.0 f.1 h
body_so c n outcome x from m (body.Done p number ended) e own is whole f h = done_so c n x from p number ended own h
body_so c n outcome x from m (body.Request p number text) e own is whole f h = asked_so c n x from p number text own is f.1 h
body_so c n outcome x from m (body.Answer p number text) e own is whole f h = reply_so c n x p number (answer_in text) own h
body_so c n outcome x from m (body.Excluded p newest) e own is whole f h = either_fits c n (is_in x p) (Falls _) (Stays x) tt h

packet_so : (c : Cluster) (n : ℕ) (outcome : Outcome) (x : UpNode) (from : ℕ) (m : Message) → IsNode n → IsNode from → BodyFits m.body → UpFits c n x → PlanFits c n (members.on_packet c n outcome x from m)
packet_so c n outcome x from m own is f h =
    either_fits c n (is_foreign c n x m.body) (Stays x) (members.on_body c n outcome (hearing x from m.body) from m m.body) h
    (body_so c n outcome (hearing x from m.body) from m m.body refl own is f f h)

-- Devices.

distrusts : (c : Cluster) (n : ℕ) (x : UpNode) (o : Option ℕ) → UpFits c n x → PlanFits c n (devices.distrusting_at n x o)
distrusts c n x None h = h
distrusts c n x (Some d) h =
    let k : UpFits c n (distrusting x d) =
    with_state_fits c n x _ (valid_fits (state_of x.seat) (set_without (record_of x).valid d) (device_without (record_of x).valid d h.state.record_fits.valid) h.state) h in
    either_fits c n (has (record_of x).valid d) _ (Stays x) (keeps c n (distrusting x d) (Stays (distrusting x d)) k k) h

own_seized_so : (c : Cluster) (n : ℕ) (x : UpNode) (d : ℕ) (result : SeizeResult) (o : Option AttemptState) → FitsResult result → IfSome o AttemptFits → UpFits c n x
    → PlanFits c n (devices.own_seized c n x d result o)
own_seized_so c n x d result None f g h = h
own_seized_so c n x d result (Some a) f g h = goes_on c n x (turn a (Own_seized d result)) (turn_fits a (Own_seized d result) tt f g) h

seized_so : (c : Cluster) (n : ℕ) (x : UpNode) (d : ℕ) (result : SeizeResult) (o : Option ℕ) → IsDevice d → FitsResult result → IfSome o IsNode → UpFits c n x
    → PlanFits c n (devices.seized_for c n x d result o)
seized_so c n x d result None device f is h = h
seized_so c n x d result (Some coordinator) device f is h =
    either_fits c n (coordinator == n) _ _ (own_seized_so c n x d result x.attempt f h.own h)
    (answers c n coordinator (body.Seized (session_of x) d result) x is.0 (h.state.session, device, f) h)

joined_so : (c : Cluster) (n : ℕ) (x : UpNode) (o : Option ℕ) → IfSome o IsNode → UpFits c n x → PlanFits c n (devices.joined_for c n x o)
joined_so c n x None is h = h
joined_so c n x (Some coordinator) is h = either_fits c n (coordinator == n) _ _ (own_ready_fits c n x h) (readies c n x coordinator is h)

joins_so : (c : Cluster) (n : ℕ) (x : UpNode) (d : ℕ) (result : JoinResult) → IsDevice d → UpFits c n x → PlanFits c n (devices.joined_here c n x d result)
joins_so c n x d join.Joined device h =
    let y : UpNode = joining_so x d in
    let k : UpFits c n y = with_state_fits c n x _ (joined_fits (state_of x.seat) d device h.state) h in
    keeps c n y _ k (joined_so c n y (coordinator_of y) (coordinator_is_node y) k)
joins_so c n x d (join.Late w) device h = joined_so c n x (coordinator_of x) (coordinator_is_node x) h
joins_so c n x d join.Fault device h = joined_so c n x (coordinator_of x) (coordinator_is_node x) h

progress_so : (c : Cluster) (n : ℕ) (x : UpNode) (p : Progress) → ProgressFits p → UpFits c n x → PlanFits c n (devices.on_progress c n x p)
progress_so c n x progress.GoesOn f h = h
progress_so c n x (progress.Seized d result) f h = seized_so c n x d result (coordinator_of x) f.0 f.1 (coordinator_is_node x) h
progress_so c n x (progress.Joined d result) f h = joins_so c n x d result f h

answered_so : (c : Cluster) (n : ℕ) (x : UpNode) (a : Answer) (o : Option ℕ) (p : Option PrCommand) → AnswerFits a → UpFits c n x → PlanFits c n (devices.answered_with c n x a o p)
answered_so c n x a (Some d) (Some command) f h =
    (tt, progress_so c n _ (progress_after x.tasks a) (progress_fits c n x.tasks a f h.all_tasks) (with_tasks_fits c n x (after_answer x.tasks a) (answered_fit c n x.tasks a f h.all_tasks) h))
answered_so c n x a None p f h = h
answered_so c n x a (Some d) None f h = h

written : (c : Cluster) (n : ℕ) (x : UpNode) (d value : ℕ) (a : Answer) → UpFits c n x → PlanFits c n (devices.write_ended n x d value a)
written c n x d value (Ok given.Good) h = (tt, h)
written c n x d value (Ok given.Conflict) h = (tt, tt)
written c n x d value _ h = (tt, h)

-- The law.

pub steps_keep_widths : StepsKeepWidths
steps_keep_widths c n outcome x input.Boot are is h f = h
steps_keep_widths c n outcome x input.Crash are is h f = tt
steps_keep_widths c n outcome x input.Tick are is h f = ticks_so c n outcome x are is h
steps_keep_widths c n outcome x (input.Packet from m) are is h f = packet_so c n outcome x from m is f.0 f.1 h
steps_keep_widths c n outcome x input.CommandDue are is h f = distrusts c n x (begins_plainly x.tasks) h
steps_keep_widths c n outcome x (input.Answered a) are is h f = answered_so c n x a (due_device x.tasks) (next_of x.tasks) f h
steps_keep_widths c n outcome x (input.Wrote d value a) are is h f = (tt, written c n x d value a h)
steps_keep_widths c n outcome x (input.Commanded words) are is h f = command_so c n x words is h
steps_keep_widths c n outcome x (input.Reported r good) are is h f = report_so c n x r good is h
steps_keep_widths c n outcome x (input.Client address client port) are is h f = client_so c n x address client port h
