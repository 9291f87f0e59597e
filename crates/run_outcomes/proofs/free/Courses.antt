-- Most of what a node does ends no attempt, excludes nobody, and is no panic for an exclusion.
use Rattle.admin_commands.specs.declared.accepted.Accepted.{Accepted}
use Rattle.admin_commands.specs.declared.accepted.Accepted.TheVariants as accepted
use Rattle.admin_commands.specs.declared.error.CheckError.{CheckError}
use Rattle.admin_commands.specs.declared.error.CheckError.TheVariants as because
use Rattle.admin_words.specs.Commands.{command_of}
use Rattle.admin_words.specs.declared.error.WordError.{WordError}
use Rattle.ccr_commit.specs.Entries.{answer_for, texts_of}
use Rattle.ccr_commit.specs.declared.entries.Prepared.{Prepared}
use Rattle.ccr_commit.specs.declared.entries.Prepared.TheVariants.{Taken, Already, Gap}
use Rattle.ccr_tables.specs.State.{ConfigState}
use Rattle.ccr_tables.specs.declared.command.AdminCommand.{AdminCommand}
use Rattle.ccr_tables.specs.declared.command.AdminCommand.TheVariants as wish
use Rattle.cl_base.specs.Sets.{has}
use Rattle.cl_base.specs.declared.command.Ask.{Ask}
use Rattle.cl_base.specs.declared.method.Outcome.{Outcome}
use Rattle.cl_base.specs.Seizings.{SeizeResult}
use Rattle.cmm_attempt.specs.declared.step.Step.{Step}
use Rattle.cmm_attempt.specs.Calls.{starts_in}
use Rattle.cmm_member.specs.Nodes.{NodeState}
use Rattle.device_queue.specs.Queue.{joins, kept_of}
use Rattle.pgr_device.specs.declared.command.PrAnswer.TheVariants as given
use Rattle.proposals.specs.Arrivals.{arrival_of, with_arrival}
use Rattle.proposals.specs.Proposing.{goes_again}
use Rattle.proposals.specs.State.{State, kept_at}
use Rattle.proposals.specs.declared.arrived.Arrival.{Arrival}
use Rattle.proposals.specs.declared.arrived.Arrival.TheVariants.{New, Waits as Waits_already, Answered as Answered_last, Past}
use Rattle.proposals.specs.declared.arrived.Arrived.{Arrived}
use Rattle.proposals.specs.declared.arrived.Kept.{Kept}
use Rattle.proposals.specs.declared.arrived.Proposed.{Proposed}
use Rattle.request_queue.specs.Queue as queue
use Rattle.request_queue.specs.Queue.{found, is_full, next_number, oldest}
use Rattle.request_queue.specs.declared.request.Request.{Request}
use Rattle.rgm_member.specs.Orders.{answer_to, outcome_in}
use Rattle.rgm_member.specs.Probes.{probed}
use Rattle.rgm_member.specs.declared.carried.Carried.{Carried}
use Rattle.rgm_member.specs.declared.carried.Carried.TheVariants as carried
use Rattle.rgm_member.specs.declared.probed.Probed.{Probed}
use Rattle.rgm_member.specs.declared.probed.Probed.TheVariants as probe
use Rattle.seize.specs.Answers.{Answer as DeviceAnswer}
use Rattle.seize.specs.declared.kind.SeizeKind.{SeizeKind}
use Rattle.status_report.specs.declared.command_entry.Answer.{Answer}
use Rattle.status_report.specs.declared.command_entry.Answer.TheVariants as answer
use Rattle.status_report.specs.declared.status_entry.StatusEntry.{StatusEntry}
use Rattle.update_words.specs.Words.{ask_words_of, words_of}
use Rattle.wire.specs.declared.message.Install.{Install}
use Rattle.wire.specs.declared.message.Order.{Order}
use Rattle.node_model.specs.Addresses.{request_for}
use Rattle.ccr_tables.specs.declared.address.Address.{Address}
use Rattle.rg_props.specs.Lookups.{named}
use Rattle.shared_address.specs.Choosing as serving
use Rattle.shared_address.specs.History as clients
use Rattle.node_model.specs.declared.cluster.Cluster.{Cluster}
use Rattle.node_model.specs.declared.node.UpNode.{UpNode}
use Rattle.node_model.specs.declared.presidency.Presidency.{Presidency}
use Rattle.node_model.specs.declared.seat.Seat.{Seat}
use Rattle.node_model.specs.declared.seat.Seat.TheVariants.{Forming, Member}
use Rattle.node_model.specs.Attempts.{starts_now}
use Rattle.node_model.specs.Configurations.{in_force, own_config}
use Rattle.node_model.specs.Groups.{asked_by, is_last, monitor_asked, orders_again, own_order, reported}
use Rattle.node_model.specs.Members.{awaits_start}
use Rattle.node_model.specs.Presidents.{checked, own_arrival, query_lines, with_proposals, word_answer}
use Rattle.node_model.specs.Requests.{is_idle, numbered, waiting_with}
use Rattle.node_model.specs.Updates.{commits_now, is_of_member}
use Rattle.refinement.specs.Courses.Course.{Acts, Stops}
use Rattle.refinement.specs.Cuts as cuts
use Rattle.std.specs.Prelude.{ℕ, ◌==◌, ◌&&◌, nat_lt, not, Bool, List, length, Option, None, Some, Result, Ok, Err, is_some}
use Rattle.node_model.specs.Seats.{coordinator_of, installed_of, is_in, is_member, promised_of, record_of, version_of}
use Rattle.refinement.specs.Doings.{changed}
use Rattle.refinement.specs.Doings.Act.{Gives}
use Rattle.refinement.specs.Doings.Change.{Installs, Sits}
use Rattle.refinement.specs.Courses.{Course}
use Rattle.run_outcomes.specs.Free.{IsFree}
use Rattle.run_outcomes.proofs.free.Presidents.{deciding_free, done_at_free, either_free, handling_free, kept_if_free, then_free}

module _ (c : Cluster) (me : ℕ) where
  pub if_started_free : (steps : List Step) (y : UpNode) → IsFree (cuts.if_started c me steps y)
  if_started_free steps y = either_free c me (starts_in steps) _ _ (deciding_free c me y) tt

  pub heartbeat_free : (x : UpNode) (from session : ℕ) (member : Bool) → IsFree (cuts.heartbeat_course me x from session member)
  heartbeat_free x from session member = either_free c me (awaits_start me x from session member) _ _ (tt, tt) tt

  pub collect_free : (x : UpNode) (from p : ℕ) → IsFree (cuts.collect_course x from p)
  collect_free x from p = either_free c me (nat_lt (promised_of x) p) _ _ (tt, (tt, tt)) (either_free c me (is_in x p) _ _ (tt, tt) (tt, tt))

  request_free : (x : UpNode) (from : ℕ) (kind : SeizeKind) (e members d : ℕ) (o : Option SeizeResult) → IsFree (cuts.request_course x from kind e members d o)
  request_free x from kind e members d (Some result) = (tt, tt)
  request_free x from kind e members d None = either_free c me (installed_of x == e) _ _ (tt, tt) (tt, tt)

  pub seizing_free : (x : UpNode) (from : ℕ) (kind : SeizeKind) (e members d : ℕ) → IsFree (cuts.seizing_course x from kind e members d)
  seizing_free x from kind e members d = either_free c me (is_in x e) _ _ (request_free x from kind e members d (kept_of x.tasks d)) tt

  pub readying_free : (x : UpNode) (to : ℕ) → IsFree (cuts.readying_course c x to)
  readying_free x to = either_free c me (joins x.tasks) _ _ tt (tt, tt)

  installed_free : (x : UpNode) (from : ℕ) (i : Install) (seat : Seat) → IsFree (cuts.installed_course c me x from i seat)
  installed_free x from i (Member s) = readying_free x from
  installed_free x from i (Forming s) = either_free c me (s.saved.installed == i.epoch) _ _ (readying_free x from) (tt, readying_free (changed c me x (Installs s i)) from)

  pub install_free : (x : UpNode) (from : ℕ) (i : Install) → IsFree (cuts.install_course c me x from i)
  install_free x from i = either_free c me (is_in x i.epoch) _ _ (installed_free x from i x.seat) (tt, tt)

  pub start_free : (x : UpNode) (e : ℕ) (seat : Seat) → IsFree (cuts.start_course e seat)
  start_free x e (Member s) = tt
  start_free x e (Forming s) = either_free c me (starts_now s e) _ _ (kept_if_free c me (is_some s.saved.entries.pending) (Sits s e) Stops tt) tt

  kept_again_free : (x : UpNode) (from : ℕ) (o : Option Kept) → IsFree (cuts.kept_again_course x from o)
  kept_again_free x from None = tt
  kept_again_free x from (Some k) = (tt, tt)

  arrived_free : (x : UpNode) (p : Presidency) (a : Arrived) (how : Arrival) → IsFree (cuts.arrived_course c me x p a how)
  arrived_free x p a New = let s : State = with_arrival p.proposals a New in (tt, handling_free c me (with_proposals x p s))
  arrived_free x p a Waits_already = tt
  arrived_free x p a Answered_last = kept_again_free x a.from (kept_at p.proposals.answers a.from)
  arrived_free x p a Past = tt

  arriving_free : (x : UpNode) (p : Presidency) (a : Arrived) → IsFree (cuts.arriving_course c me x p a)
  arriving_free x p a = arrived_free x p a (arrival_of p.proposals a.from a.number)

  requested_free : (x : UpNode) (from number : ℕ) (text : List ℕ) (o : Option Presidency) → IsFree (cuts.requested_course c me x from number text o)
  requested_free x from number text None = tt
  requested_free x from number text (Some p) = arriving_free x p (record { from = from; number = number; text = text })

  pub asked_free : (x : UpNode) (from e number : ℕ) (text : List ℕ) → IsFree (cuts.asked_course c me x from e number text)
  asked_free x from e number text = either_free c me (is_of_member x from e) _ _ (requested_free x from number text x.presidency) tt

  request_to_free : (x : UpNode) (r : Request) (o : Option ℕ) → IsFree (cuts.request_to_course x r o)
  request_to_free x r None = tt
  request_to_free x r (Some president) = (tt, tt)

  asking_of_free : (x : UpNode) (r : Request) (o : Option Presidency) → IsFree (cuts.asking_of_course c me x r o)
  asking_of_free x r None = request_to_free x r (coordinator_of x)
  asking_of_free x r (Some p) = arriving_free x p (own_arrival me r)

  asking_for_free : (x : UpNode) (o : Option Request) → IsFree (cuts.asking_for_course c me x o)
  asking_for_free x None = tt
  asking_for_free x (Some r) = asking_of_free x r x.presidency

  asking_free : (x : UpNode) → IsFree (cuts.asking_course c me x)
  asking_free x = asking_for_free x (oldest x.requests)

  replying_free : (x : UpNode) (number : ℕ) (told : Answer) → IsFree (cuts.replying_course me number told)
  replying_free x number told = (tt, tt)

  asking_if_free : (alone : Bool) (x : UpNode) → IsFree (cuts.asking_if_course alone c me x)
  asking_if_free alone x = either_free c me alone _ _ (asking_free x) tt

  waiting_free : (x : UpNode) (number : ℕ) (text : List ℕ) → IsFree (cuts.waiting_course c me x number text)
  waiting_free x number text = either_free c me (is_full x.requests) _ _ (replying_free x number answer.QueueFull) (tt, asking_if_free (is_idle x.requests.waiting) (waiting_with x number text))

  elsewhere_free : (x : UpNode) (number : ℕ) (o : Option ℕ) → IsFree (cuts.elsewhere_course me number o)
  elsewhere_free x number None = tt
  elsewhere_free x number (Some president) = replying_free x number (answer.Ask president)

  telling_free : (x : UpNode) (number : ℕ) (lines : List StatusEntry) → IsFree (cuts.telling_course me number lines)
  telling_free x number lines = (tt, replying_free x number answer.Ok)

  query_free : (x : UpNode) (p : Presidency) (number : ℕ) (s : ConfigState) (r : Result Accepted CheckError) → IsFree (cuts.query_course me x p number s r)
  query_free x p number s (Ok (accepted.Query q)) = telling_free x number (query_lines x p s q)
  query_free x p number s (Ok (accepted.Change u)) = tt
  query_free x p number s (Ok (accepted.Act ask)) = tt
  query_free x p number s (Err (because.Refused r)) = replying_free x number (answer.Refused r)
  query_free x p number s (Err because.NoMemory) = tt

  queried_free : (x : UpNode) (number : ℕ) (question : AdminCommand) (o : Option Presidency) → IsFree (cuts.queried_course c me x number question o)
  queried_free x number question None = elsewhere_free x number (coordinator_of x)
  queried_free x number question (Some p) = either_free c me (is_full x.requests) _ _ (replying_free x number answer.QueueFull) (query_free x p number (in_force c x) (checked c x p question))

  commanded_free : (x : UpNode) (number : ℕ) (o : AdminCommand) → IsFree (cuts.commanded_course c me x number o)
  commanded_free x number (wish.Change u) = waiting_free x number (words_of u)
  commanded_free x number (wish.Act a) = waiting_free x number (ask_words_of a)
  commanded_free x number (wish.Status q) = queried_free x number (wish.Status q) x.presidency
  commanded_free x number (wish.Rows table) = queried_free x number (wish.Rows table) x.presidency

  worded_free : (x : UpNode) (number : ℕ) (r : Result AdminCommand WordError) → IsFree (cuts.worded_course c me x number r)
  worded_free x number (Err e) = replying_free x number (word_answer e)
  worded_free x number (Ok command) = either_free c me (is_member x.seat) _ _ (commanded_free x number command) (replying_free x number answer.NotMember)

  pub command_free : (x : UpNode) (words : List ℕ) → IsFree (cuts.command_course c me x words)
  command_free x words = (tt, (tt, worded_free (numbered x) (next_number x.requests) (command_of (version_of c) words)))

  replied_to_free : (x : UpNode) (number : ℕ) (told : Answer) (o : Option Request) → IsFree (cuts.replied_to_course c me x number told o)
  replied_to_free x number told None = tt
  replied_to_free x number told (Some r) = (tt, (tt, asking_free (record x { requests = queue.answered x.requests number })))

  replied_free : (x : UpNode) (number : ℕ) (o : Option Answer) → IsFree (cuts.replied_course c me x number o)
  replied_free x number None = tt
  replied_free x number (Some told) = replied_to_free x number told (found x.requests.waiting number)

  pub reply_free : (x : UpNode) (e number : ℕ) (told : Option Answer) → IsFree (cuts.reply_course c me x e number told)
  reply_free x e number told = either_free c me (is_member x.seat && is_in x e) _ _ (replied_free x number told) tt

  preparing_free : (x : UpNode) (from e place : ℕ) (s : NodeState) (text : List ℕ) (o : Prepared) → IsFree (cuts.preparing_course from e place s text o)
  preparing_free x from e place s text Taken = (tt, (tt, tt))
  preparing_free x from e place s text Already = (tt, tt)
  preparing_free x from e place s text (Gap k) = tt

  pub prepare_free : (x : UpNode) (from e place : ℕ) (text : List ℕ) (seat : Seat) → IsFree (cuts.prepare_course x from e place text seat)
  prepare_free x from e place text (Forming s) = tt
  prepare_free x from e place text (Member s) = either_free c me (is_in x e) _ _ (preparing_free x from e place s text (answer_for (length (texts_of s.saved.entries)) place)) tt

  pub commit_free : (x : UpNode) (e place : ℕ) (seat : Seat) → IsFree (cuts.commit_course x e place seat)
  commit_free x e place (Forming s) = tt
  commit_free x e place (Member s) = either_free c me (is_in x e && commits_now s place) _ _ (tt, tt) tt

  carrying_free : (x : UpNode) (o : Order) (how : Carried) → IsFree (cuts.carrying_course c me x o how)
  carrying_free x o how = (tt, either_free c me (is_last c x o how) _ _ tt (tt, tt))

  order_answered_free : (from : ℕ) (o : Order) (how : Carried) (x : UpNode) → IsFree (cuts.order_answered_course from o how x)
  order_answered_free from o carried.Old x = tt
  order_answered_free from o (carried.Called outcome) x = (tt, tt)
  order_answered_free from o carried.Cleared x = (tt, tt)
  order_answered_free from o (carried.Kept outcome) x = (tt, tt)

  obeying_free : (x : UpNode) (from : ℕ) (o : Order) (how : Carried) → IsFree (cuts.obeying_course c me x from o how)
  obeying_free x from o how = then_free c me x (cuts.carrying_course c me x o how) _ (carrying_free x o how) (λ z. order_answered_free from o how z)

  pub order_free : (outcome : Outcome) (x : UpNode) (from : ℕ) (o : Order) → IsFree (cuts.order_course c me outcome x from o)
  order_free outcome x from o = either_free c me (is_member x.seat && is_in x o.epoch) _ _ (obeying_free x from o (answer_to x.worker o outcome)) tt

  own_done_free : (o : Order) (how : Carried) (x : UpNode) → IsFree (cuts.own_done_course c me o how x)
  own_done_free o how x = done_at_free c me x me o.number (outcome_in how) x.presidency

  own_turn_free : (outcome : Outcome) (x : UpNode) (o : Option Order) → IsFree (cuts.own_turn_course c me outcome x o)
  own_turn_free outcome x None = tt
  own_turn_free outcome x (Some o) = then_free c me x (cuts.carrying_course c me x o (answer_to x.worker o outcome)) _ (carrying_free x o (answer_to x.worker o outcome)) (λ z. own_done_free o (answer_to x.worker o outcome) z)

  prepares_free : (x before : UpNode) (o : Option Proposed) (text : Option (List ℕ)) (rest : Course) → IsFree rest → IsFree (cuts.prepares_course before o text rest)
  prepares_free x before (Some p) (Some text) rest h = (tt, h)
  prepares_free x before None text rest h = h
  prepares_free x before (Some p) None rest h = h

  prepares_again_free : (x before : UpNode) (o : Option Presidency) (rest : Course) → IsFree rest → IsFree (cuts.prepares_again_course before o rest)
  prepares_again_free x before None rest h = h
  prepares_again_free x before (Some p) rest h = either_free c me (goes_again p.proposals) _ _ (prepares_free x before p.proposals.proposed (record_of before).entries.pending rest h) h

  going_again_free : (before x : UpNode) → IsFree (cuts.going_again_course c me before x)
  going_again_free before x = prepares_again_free x before before.presidency (Acts (Gives (orders_again before x)) (cuts.deciding_course c me x)) (tt, deciding_free c me x)

  pub governing_free : (outcome : Outcome) (before x : UpNode) → IsFree (cuts.governing_course c me outcome before x)
  governing_free outcome before x = then_free c me x _ _ (own_turn_free outcome x (own_order me x)) (λ z. going_again_free before z)

  asking_this_free : (x : UpNode) (o : Option Ask) → IsFree (cuts.asking_this_course c me x o)
  asking_this_free x None = tt
  asking_this_free x (Some ask) = either_free c me (is_member x.seat && not (is_full x.requests)) _ _ (tt, asking_if_free (is_idle x.requests.waiting) (monitor_asked x ask)) tt

  reporting_free : (x : UpNode) (r : List ℕ) (how : Probed) → IsFree (cuts.reporting_course c me x r how)
  reporting_free x r probe.NoMonitor = tt
  reporting_free x r probe.Good = (tt, (tt, tt))
  reporting_free x r (probe.Failed a) = (tt, (tt, asking_this_free (reported x c r (probe.Failed a)) (asked_by a r)))

  pub report_free : (x : UpNode) (r : List ℕ) (good : Bool) → IsFree (cuts.report_course c me x r good)
  report_free x r good = reporting_free x r (probed x.worker (own_config c x) r good x.second)

  serving_free : (x : UpNode) (p : Presidency) (name : List ℕ) (client port : ℕ) (o : serving.Outcome) → IsFree (cuts.serving_course x p name client port o)
  serving_free x p name client port o = (tt, (tt, tt))

  serving_at_free : (s : ConfigState) (x : UpNode) (p : Presidency) (name : List ℕ) (client port : ℕ) (o : Option Address) → IsFree (cuts.serving_at_course s x p name client port o)
  serving_at_free s x p name client port None = tt
  serving_at_free s x p name client port (Some a) = serving_free x p name client port (serving.chosen (clients.state_of p.balancer name) (request_for s p a client port))

  serving_by_free : (x : UpNode) (name : List ℕ) (client port : ℕ) (o : Option Presidency) → IsFree (cuts.serving_by_course c x name client port o)
  serving_by_free x name client port None = tt
  serving_by_free x name client port (Some p) = serving_at_free (in_force c x) x p name client port (named (in_force c x).addresses name)

  pub client_free : (x : UpNode) (name : List ℕ) (client port : ℕ) → IsFree (cuts.client_course c x name client port)
  client_free x name client port = serving_by_free x name client port x.presidency

  pub distrusting_free : (x : UpNode) (o : Option ℕ) → IsFree (cuts.distrusting_course x o)
  distrusting_free x None = tt
  distrusting_free x (Some d) = either_free c me (has (record_of x).valid d) _ _ (tt, tt) tt

  pub fenced_free : (x : UpNode) (d : ℕ) (a : DeviceAnswer) → IsFree (cuts.fenced_course d a)
  fenced_free x d (Ok given.Good) = tt
  fenced_free x d (Ok given.Conflict) = tt
  fenced_free x d (Ok given.InvalidRelease) = tt
  fenced_free x d (Ok given.NoPath) = tt
  fenced_free x d (Ok (given.Keys keys)) = tt
  fenced_free x d (Ok (given.Holder holder)) = tt
  fenced_free x d (Ok (given.Word w)) = tt
  fenced_free x d (Ok (given.Value v)) = tt
  fenced_free x d (Ok (given.Miscompare w)) = tt
  fenced_free x d (Err e) = tt
