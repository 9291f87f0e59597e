-- What a node does with each input sends a Promise only to answer the Collect that is delivered.
use Rattle.std.specs.Option.{unwrap_or}
use Rattle.admin_commands.specs.declared.accepted.Accepted.{Accepted}
use Rattle.admin_commands.specs.declared.accepted.Accepted.TheVariants as accepted
use Rattle.admin_commands.specs.declared.error.CheckError.{CheckError}
use Rattle.admin_commands.specs.declared.error.CheckError.TheVariants as because
use Rattle.admin_words.specs.Commands.{command_of, request_of}
use Rattle.admin_words.specs.declared.error.WordError.{WordError}
use Rattle.admin_words.specs.declared.request.Request.TheVariants as asked
use Rattle.admin_words.specs.declared.request.Request as wanted
use Rattle.answer_words.specs.Answers.{answer_in}
use Rattle.ccr_commit.specs.Entries.{answer_for, texts_of}
use Rattle.ccr_commit.specs.declared.entries.Prepared.{Prepared}
use Rattle.ccr_commit.specs.declared.entries.Prepared.TheVariants.{Taken, Already, Gap}
use Rattle.ccr_tables.specs.State.{ConfigState}
use Rattle.ccr_tables.specs.declared.command.AdminCommand.{AdminCommand}
use Rattle.ccr_tables.specs.declared.command.AdminCommand.TheVariants as wish
use Rattle.cl_base.specs.Sets.{has}
use Rattle.cl_base.specs.declared.command.Ask.{Ask}
use Rattle.cl_base.specs.declared.method.Outcome.{Outcome}
use Rattle.cl_base.specs.Seizings.{SeizeResult}
use Rattle.cmm_attempt.specs.declared.step.AttemptEnd.{AttemptEnd}
use Rattle.cmm_attempt.specs.declared.step.Step.{Step}
use Rattle.cmm_attempt.specs.declared.step.Step.TheVariants as step
use Rattle.cmm_attempt.specs.Attempts.{AttemptState, Turn, newest_installed}
use Rattle.cmm_attempt.specs.Calls.{Call, Own_ready, Own_seized, Take, Tick as Call_tick, With_votes, starts_in, turn}
use Rattle.cmm_member.specs.Nodes.{NodeState}
use Rattle.device_queue.specs.declared.progress.Progress.{Progress}
use Rattle.device_queue.specs.declared.progress.Progress.TheVariants.{GoesOn, Seized, Joined}
use Rattle.device_queue.specs.Queue.{begins_plainly, due_device, joins, kept_of, next_of, progress_after}
use Rattle.pgr_device.specs.declared.command.PrAnswer.TheVariants as given
use Rattle.pgr_device.specs.declared.command.PrCommand.{PrCommand}
use Rattle.proposals.specs.Arrivals.{arrival_of, with_arrival}
use Rattle.proposals.specs.Proposing.{goes_again, is_prepared, prepared_by}
use Rattle.proposals.specs.State.{State, first_in, kept_at}
use Rattle.proposals.specs.declared.arrived.Arrival.{Arrival}
use Rattle.proposals.specs.declared.arrived.Arrival.TheVariants.{New, Waits as Waits_already, Answered as Answered_last, Past}
use Rattle.proposals.specs.declared.arrived.Arrived.{Arrived}
use Rattle.proposals.specs.declared.arrived.Kept.{Kept}
use Rattle.proposals.specs.declared.arrived.Proposed.{Proposed}
use Rattle.request_queue.specs.Queue as queue
use Rattle.request_queue.specs.Queue.{found, is_full, next_number, oldest}
use Rattle.request_queue.specs.declared.request.Request.{Request}
use Rattle.rgm_member.specs.Orders.{answer_to, outcome_in}
use Rattle.rgm_member.specs.Probes.{probed}
use Rattle.rgm_member.specs.declared.carried.Carried.{Carried}
use Rattle.rgm_member.specs.declared.carried.Carried.TheVariants as carried
use Rattle.rgm_member.specs.declared.probed.Probed.{Probed}
use Rattle.rgm_member.specs.declared.probed.Probed.TheVariants as probe
use Rattle.rgm_president.specs.Decisions as decisions
use Rattle.rgm_state.specs.Outcomes as order
use Rattle.seize.specs.Answers.{Answer as DeviceAnswer}
use Rattle.seize.specs.declared.kind.JoinResult.{JoinResult}
use Rattle.seize.specs.declared.kind.JoinResult.TheVariants as join
use Rattle.seize.specs.declared.kind.SeizeKind.{SeizeKind}
use Rattle.seize.specs.declared.kind.SeizeKind.TheVariants.{Vote, Plain}
use Rattle.status_report.specs.declared.command_entry.Answer.{Answer}
use Rattle.status_report.specs.declared.command_entry.Answer.TheVariants as answer
use Rattle.status_report.specs.declared.status_entry.StatusEntry.{StatusEntry}
use Rattle.update_words.specs.Words.{ask_words_of, words_of}
use Rattle.wire.specs.declared.message.Body.{Body}
use Rattle.wire.specs.declared.message.Body.TheVariants as body
use Rattle.wire.specs.declared.message.Install.{Install}
use Rattle.wire.specs.declared.message.Message.{Message}
use Rattle.wire.specs.declared.message.Order.{Order}
use Rattle.node_model.specs.Addresses.{request_for}
use Rattle.ccr_tables.specs.declared.address.Address.{Address}
use Rattle.rg_props.specs.Lookups.{named}
use Rattle.shared_address.specs.Choosing as serving
use Rattle.shared_address.specs.History as clients
use Rattle.node_model.specs.declared.cluster.Cluster.{Cluster}
use Rattle.node_model.specs.declared.input.Input.{Input}
use Rattle.node_model.specs.declared.input.Input.TheVariants.{Boot, Crash, Tick, Packet, CommandDue, Answered, Wrote, Commanded, Reported, Client}
use Rattle.node_model.specs.declared.node.Node.{Node}
use Rattle.node_model.specs.declared.node.Node.TheVariants.{Down, Up}
use Rattle.node_model.specs.declared.node.UpNode.{UpNode}
use Rattle.node_model.specs.declared.presidency.Presidency.{Presidency}
use Rattle.node_model.specs.declared.seat.Seat.{Seat}
use Rattle.node_model.specs.declared.seat.Seat.TheVariants.{Forming, Member}
use Rattle.node_model.specs.Attempts.{begins_install, installs_now, is_choosing, left_out_by, next_epoch, starts_now, votes_in}
use Rattle.node_model.specs.Configurations.{in_force, own_config}
use Rattle.node_model.specs.Deciding.{is_held_up, may_order}
use Rattle.node_model.specs.Devices.{joining_so}
use Rattle.node_model.specs.Groups.{asked_by, is_last, monitor_asked, orders_again, own_order, reported, with_ended}
use Rattle.node_model.specs.Members.{awaits_start, hearing, is_foreign}
use Rattle.node_model.specs.Presidents.{checked, is_busy, is_clear, others_of, own_arrival, proposed_by, query_lines, requests_of, with_act, with_proposals, word_answer}
use Rattle.node_model.specs.Requests.{is_idle, numbered, waiting_with}
use Rattle.node_model.specs.Ticks.{later, members_to_form, waiting_less}
use Rattle.node_model.specs.Steps.{at_second}
use Rattle.node_model.specs.Updates.{commits_now, is_of_member}
use Rattle.refinement.specs.Courses.{Course, Reply, joined, under}
use Rattle.refinement.specs.Courses.Reply.{Done, Lost_new, Lost_old}
use Rattle.refinement.specs.Courses.Course.{Acts, Falls, Keeps, Stops}
use Rattle.refinement.specs.Cuts as cuts
use Rattle.refinement.specs.Cuts.{acks_of, first_turn, left_answered}
use Rattle.std.specs.Prelude.{ℕ, zero, suc, ◌≡◌, ◌==◌, ◌&&◌, ◌⊎◌, nat_le, nat_lt, not, Bool, true, false, List, [], ◌∷◌, length, Option, None, Some, Result, Ok, Err, is_some, if◌then◌else◌}
use Rattle.std.proofs.Common.{refl, sym, subst, inl, inr}
use Rattle.node_model.specs.Seats.{coordinator_of, installed_of, is_in, is_member, promised_of, record_of, version_of}
use Rattle.refinement.specs.Doings.{Change, acted, answered_so, changed, going, site}
use Rattle.refinement.specs.Doings.Act.{Gives, Writes}
use Rattle.refinement.specs.Doings.Change.{Counts, Installs, Leads, Sits, Starts}
use Rattle.run_history.specs.Guards.{MadeAt}
use Rattle.refinement.specs.Guards.{Asks, Says}
use Rattle.refinement.specs.Ties.{Delivered}
use Rattle.refinement.proofs.Handlers.{delivered_by}
use Rattle.run_messages.specs.records.Answers.{ActTold, AllTold, AreCollects, AskNothing, GoesTold, IsCollectTo, IsNoAsking, IsOneself}
use Rattle.run_messages.proofs.records.Asks.{first_asks, turn_asks}
use Rattle.cmm_member.specs.Records.{NodeRecord}

module _ (c : Cluster) (me : ℕ) (hand : Delivered) where
  either_so : (x : UpNode) (b : Bool) (k l : Course) → GoesTold c me hand x k → GoesTold c me hand x l → GoesTold c me hand x (if b then k else l)
  either_so x true k l h i = h
  either_so x false k l h i = i

  then_so : (x : UpNode) (k : Course) (next : UpNode → Course) → GoesTold c me hand x k → ((y : UpNode) → GoesTold c me hand y (next y)) → GoesTold c me hand x (joined c me x k next)
  then_so x Stops next h i = i x
  then_so x (Acts a rest) next h i = (h.0, then_so (acted c me x a) rest next h.1 i)
  then_so x (Keeps change rest) next h i = (tt, then_so (changed c me x change) rest next h.1 i)
  then_so x (Falls why) next h i = tt

  -- Each course.

  decided_so : (x : UpNode) (p : Presidency) (t : decisions.Turn) → GoesTold c me hand x (cuts.decided_course me x p t)
  decided_so x p t = (tt, (tt, tt))

  deciding_by_so : (x : UpNode) (o : Option Presidency) → GoesTold c me hand x (cuts.deciding_by_course c me x o)
  deciding_by_so x None = tt
  deciding_by_so x (Some p) = either_so _ (may_order p.groups) _ _ (decided_so x p (decisions.decision (in_force c x) x.second (is_held_up p) p.groups)) tt

  deciding_so : (x : UpNode) → GoesTold c me hand x (cuts.deciding_course c me x)
  deciding_so x = deciding_by_so x x.presidency

  excluded_so : (x : UpNode) (e newest : ℕ) (o : Option ℕ) → GoesTold c me hand x (cuts.excluded_course me e newest o)
  excluded_so x e newest None = tt
  excluded_so x e newest (Some m) = either_so _ (m == me) _ _ tt (tt, tt)

  ended_so : (x : UpNode) (e : AttemptEnd) (o : Option AttemptState) → GoesTold c me hand x (cuts.ended_course me e o)
  ended_so x e None = tt
  ended_so x e (Some a) = (tt, excluded_so _ a.plan.epoch (unwrap_or (newest_installed a) 0) (left_out_by e))

  queued_so : (x : UpNode) (d : ℕ) (kind : SeizeKind) (o : Option AttemptState) → GoesTold c me hand x (cuts.queued_course d kind o)
  queued_so x d kind None = tt
  queued_so x d kind (Some a) = (tt, tt)

  -- what is no Collect and no Promise
  sent_so : (x : UpNode) (to : ℕ) (b : Body) → IsNoAsking b → ActTold hand x (Writes to b)
  sent_so x to (body.Promise e newest members valid flagged committed pending) none = absurd none
  sent_so x to (body.Collect e members) none = absurd none
  sent_so x to (body.Start p) none = tt
  sent_so x to (body.Prepared e v) none = tt
  sent_so x to (body.Heartbeat promised session is_one) none = tt
  sent_so x to (body.Nack e promised) none = tt
  sent_so x to (body.SeizeQuorum e members d) none = tt
  sent_so x to (body.SeizeData e members d) none = tt
  sent_so x to (body.Seized e d ended) none = tt
  sent_so x to (body.Install i) none = tt
  sent_so x to (body.Ready e joined_devices report) none = tt
  sent_so x to (body.Prepare e place text) none = tt
  sent_so x to (body.Commit e place) none = tt
  sent_so x to (body.Order o) none = tt
  sent_so x to (body.Done e number ended) none = tt
  sent_so x to (body.Request e number text) none = tt
  sent_so x to (body.Answer e number text) none = tt
  sent_so x to (body.Excluded e newest) none = tt

  step_so : (x : UpNode) (s : Step) → AskNothing (s ∷ []) → GoesTold c me hand x (cuts.step_course me x s)
  step_so x (step.Send to m) none = (sent_so x to m.body none.0, tt)
  step_so x (step.SeizeHere d kind) none = queued_so x d kind x.attempt
  step_so x (step.NeedVotes n) none = tt
  step_so x (step.InstallHere i) none = tt
  step_so x step.StartHere none = tt
  step_so x (step.Ended e) none = ended_so x e x.attempt

  one_step : (s : Step) (steps : List Step) → AskNothing (s ∷ steps) → AskNothing (s ∷ []) × AskNothing steps
  one_step (step.Send to m) steps h = ((h.0, tt), h.1)
  one_step (step.SeizeHere d kind) steps h = (tt, h)
  one_step (step.NeedVotes n) steps h = (tt, h)
  one_step (step.InstallHere i) steps h = (tt, h)
  one_step step.StartHere steps h = (tt, h)
  one_step (step.Ended e) steps h = (tt, h)

  nothing_so : (x : UpNode) (steps : List Step) → AskNothing steps → GoesTold c me hand x (cuts.steps_course c me x steps)
  nothing_so x [] none = tt
  nothing_so x (s ∷ steps) none = then_so x _ _ (step_so x s (one_step s steps none).0) (λ y. nothing_so y steps (one_step s steps none).1)

  -- Collects alone, to members of its attempt
  collects_so : (x : UpNode) (steps : List Step) → AreCollects x.attempt steps → GoesTold c me hand x (cuts.steps_course c me x steps)
  collects_so x [] all = tt
  collects_so x (step.Send to m ∷ steps) all = (collect_told m.body all.0, collects_so x steps all.1)
    where
      collect_told : (b : Body) → IsCollectTo x.attempt to b → ActTold hand x (Writes to b)
      collect_told (body.Collect p members) h = h
      collect_told (body.Promise e newest members valid flagged committed pending) h = absurd h
      collect_told (body.Start p) h = absurd h
      collect_told (body.Prepared e v) h = absurd h
      collect_told (body.Heartbeat promised session is_one) h = absurd h
      collect_told (body.Nack e promised) h = absurd h
      collect_told (body.SeizeQuorum e members d) h = absurd h
      collect_told (body.SeizeData e members d) h = absurd h
      collect_told (body.Seized e d ended) h = absurd h
      collect_told (body.Install i) h = absurd h
      collect_told (body.Ready e joined_devices report) h = absurd h
      collect_told (body.Prepare e place text) h = absurd h
      collect_told (body.Commit e place) h = absurd h
      collect_told (body.Order o) h = absurd h
      collect_told (body.Done e number ended) h = absurd h
      collect_told (body.Request e number text) h = absurd h
      collect_told (body.Answer e number text) h = absurd h
      collect_told (body.Excluded e newest) h = absurd h
  collects_so x (step.SeizeHere d kind ∷ steps) all = absurd all
  collects_so x (step.NeedVotes n ∷ steps) all = absurd all
  collects_so x (step.InstallHere i ∷ steps) all = absurd all
  collects_so x (step.StartHere ∷ steps) all = absurd all
  collects_so x (step.Ended e ∷ steps) all = absurd all

  steps_so : (x : UpNode) (steps : List Step) → AskNothing steps ⊎ AreCollects x.attempt steps → GoesTold c me hand x (cuts.steps_course c me x steps)
  steps_so x steps (inl none) = nothing_so x steps none
  steps_so x steps (inr all) = collects_so x steps all

  kept_if_so : (x : UpNode) (keeps : Bool) (change : Change) (rest : Course) → MadeAt change → GoesTold c me hand (changed c me x change) rest → GoesTold c me hand x (cuts.kept_if keeps change rest)
  kept_if_so x true change rest made k = (tt, k)
  kept_if_so x false change rest made k = (made, k)

  gone_on_so : (x : UpNode) (a : AttemptState) (k : Call) (steps : List Step) → AskNothing steps ⊎ AreCollects (Some (turn a k).after) steps → GoesTold c me hand x (cuts.gone_on c me x a k steps)
  gone_on_so x a k steps h = (tt, steps_so (going x a k) steps h)

  counted_so : (x : UpNode) (a : AttemptState) (k : Call) (i : Install) (rest : List Step) (seat : Seat) → AskNothing rest → GoesTold c me hand x (cuts.counted c me x a k i rest seat)
  counted_so x a k i rest (Member s) none = gone_on_so x a k rest (inl none)
  counted_so x a k i rest (Forming s) none =
      either_so _ (installs_now s i) _ _ (tt, nothing_so (changed c me x (Counts a k s i)) rest none) (gone_on_so x a k rest (inl none))

  started_so : (x : UpNode) (a : AttemptState) (k : Call) (rest : List Step) (seat : Seat) → AskNothing rest → GoesTold c me hand x (cuts.started c me x a k rest seat)
  started_so x a k rest (Member s) none = gone_on_so x a k rest (inl none)
  started_so x a k rest (Forming s) none =
      either_so _ (starts_now s (turn a k).after.plan.epoch) _ _
      (kept_if_so x (is_some s.saved.entries.pending) (Starts a k s) (cuts.steps_course c me (changed c me x (Starts a k s)) rest) tt (nothing_so (changed c me x (Starts a k s)) rest none))
      (gone_on_so x a k rest (inl none))

  rest_so : (s : Step) (rest : List Step) (o : Option AttemptState) → IsOneself s → AskNothing (s ∷ rest) ⊎ AreCollects o (s ∷ rest) → AskNothing rest
  rest_so (step.InstallHere i) rest o is (inl none) = none
  rest_so (step.InstallHere i) rest o is (inr all) = absurd all
  rest_so step.StartHere rest o is (inl none) = none
  rest_so step.StartHere rest o is (inr all) = absurd all
  rest_so (step.Send to m) rest o is h = absurd is
  rest_so (step.SeizeHere d kind) rest o is h = absurd is
  rest_so (step.NeedVotes n) rest o is h = absurd is
  rest_so (step.Ended e) rest o is h = absurd is

  turned_by_so : (x : UpNode) (a : AttemptState) (k : Call) (steps : List Step) → AskNothing steps ⊎ AreCollects (Some (turn a k).after) steps → GoesTold c me hand x (cuts.turned_by c me x a k steps)
  turned_by_so x a k [] h = gone_on_so x a k [] h
  turned_by_so x a k (step.InstallHere i ∷ rest) h = counted_so x a k i rest x.seat (rest_so (step.InstallHere i) rest (Some (turn a k).after) tt h)
  turned_by_so x a k (step.StartHere ∷ rest) h = started_so x a k rest x.seat (rest_so step.StartHere rest (Some (turn a k).after) tt h)
  turned_by_so x a k (step.Send to m ∷ rest) h = gone_on_so x a k (step.Send to m ∷ rest) h
  turned_by_so x a k (step.SeizeHere d kind ∷ rest) h = gone_on_so x a k (step.SeizeHere d kind ∷ rest) h
  turned_by_so x a k (step.NeedVotes n ∷ rest) h = gone_on_so x a k (step.NeedVotes n ∷ rest) h
  turned_by_so x a k (step.Ended e ∷ rest) h = gone_on_so x a k (step.Ended e ∷ rest) h

  turned_so : (x : UpNode) (a : AttemptState) (k : Call) → GoesTold c me hand x (cuts.turned c me x a k)
  turned_so x a k = turned_by_so x a k (turn a k).steps (turn_asks a k)

  if_started_so : (steps : List Step) (y : UpNode) → GoesTold c me hand y (cuts.if_started c me steps y)
  if_started_so steps y = either_so _ (starts_in steps) _ _ (deciding_so y) tt

  turned_all_so : (x : UpNode) (a : AttemptState) (k : Call) → GoesTold c me hand x (cuts.turned_all c me x a k)
  turned_all_so x a k = then_so x _ _ (turned_so x a k) (λ z. if_started_so (turn a k).steps z)

  readied_so : (x : UpNode) (o : Option AttemptState) → GoesTold c me hand x (cuts.readied_course c me x o)
  readied_so x None = tt
  readied_so x (Some a) = turned_all_so x a Own_ready

  own_ready_so : (x : UpNode) → GoesTold c me hand x (cuts.own_ready_course c me x)
  own_ready_so x = either_so _ (joins x.tasks) _ _ tt (readied_so x x.attempt)

  if_installed_so : (steps : List Step) (y : UpNode) → GoesTold c me hand y (cuts.if_installed c me steps y)
  if_installed_so steps y = either_so _ (begins_install steps) _ _ (own_ready_so y) tt

  called_so : (x : UpNode) (a : AttemptState) (k : Call) → GoesTold c me hand x (cuts.called c me x a k)
  called_so x a k = then_so x _ _ (turned_all_so x a k) (λ z. if_installed_so (turn a k).steps z)

  going_so : (x : UpNode) (a : AttemptState) (k : Call) → GoesTold c me hand x (cuts.going_course c me x a k)
  going_so x a k = either_so _ (is_choosing (turn a k).after.phase) _ _ (tt, called_so (going x a k) (turn a k).after (With_votes (votes_in c (turn a k).after))) (called_so x a k)

  begun_so : (x : UpNode) (t : Turn) → AskNothing t.steps ⊎ AreCollects x.attempt t.steps → GoesTold c me hand x (cuts.begun_course c me x t)
  begun_so x t h = either_so _ (is_choosing t.after.phase) _ _ (called_so x t.after (With_votes (votes_in c t.after))) (steps_so x t.steps h)

  leading_so : (x : UpNode) (p members : ℕ) → GoesTold c me hand x (cuts.leading_course c me x p members)
  leading_so x p members =
      either_so _ (nat_lt (promised_of x) p) _ _ (tt, begun_so (changed c me x (Leads p members)) (first_turn c me x p members) (first_asks p members _ c.attached c.id)) tt

  forming_so : (x : UpNode) (o : Option ℕ) → GoesTold c me hand x (cuts.forming_course c me x o)
  forming_so x None = tt
  forming_so x (Some members) = leading_so x (next_epoch me x) members

  ticked_so : (x : UpNode) (o : Option AttemptState) → GoesTold c me hand x (cuts.ticked_course c me x o)
  ticked_so x (Some a) = going_so x a Call_tick
  ticked_so x None = either_so _ (nat_le 1 x.beats.wait) _ _ (tt, tt) (tt, forming_so (waiting_less x) (members_to_form c me (waiting_less x)))

  heartbeat_so : (x : UpNode) (from session : ℕ) (member : Bool) → GoesTold c me hand x (cuts.heartbeat_course me x from session member)
  heartbeat_so x from session member = either_so _ (awaits_start me x from session member) _ _ (tt, tt) tt

  -- the Collect that is delivered
  collect_of : (from : ℕ) (m : Message) (e members : ℕ) → hand ≡ Some (from, m) → m.body ≡ body.Collect e members → Says (Asks e) hand
  collect_of from m e members told is = subst (λ t. Says (Asks e) t) (sym told) (subst (λ b. Asks e b) (sym is) refl)

  collect_so : (x : UpNode) (from p : ℕ) → Says (Asks p) hand → GoesTold c me hand x (cuts.collect_course x from p)
  collect_so x from p says = either_so _ (nat_lt (promised_of x) p) _ _ (tt, (says, tt)) (either_so _ (is_in x p) _ _ (says, tt) (tt, tt))

  request_so : (x : UpNode) (from : ℕ) (kind : SeizeKind) (e members d : ℕ) (o : Option SeizeResult) → GoesTold c me hand x (cuts.request_course x from kind e members d o)
  request_so x from kind e members d (Some result) = (tt, tt)
  request_so x from kind e members d None = either_so _ (installed_of x == e) _ _ (tt, tt) (tt, tt)

  seizing_so : (x : UpNode) (from : ℕ) (kind : SeizeKind) (e members d : ℕ) → GoesTold c me hand x (cuts.seizing_course x from kind e members d)
  seizing_so x from kind e members d = either_so _ (is_in x e) _ _ (request_so x from kind e members d (kept_of x.tasks d)) tt

  readying_so : (x : UpNode) (to : ℕ) → GoesTold c me hand x (cuts.readying_course c x to)
  readying_so x to = either_so _ (joins x.tasks) _ _ tt (tt, tt)

  installed_so : (x : UpNode) (from : ℕ) (i : Install) (seat : Seat) → GoesTold c me hand x (cuts.installed_course c me x from i seat)
  installed_so x from i (Member s) = readying_so x from
  installed_so x from i (Forming s) = either_so _ (s.saved.installed == i.epoch) _ _ (readying_so x from) (tt, readying_so (changed c me x (Installs s i)) from)

  install_so : (x : UpNode) (from : ℕ) (i : Install) → GoesTold c me hand x (cuts.install_course c me x from i)
  install_so x from i = either_so _ (is_in x i.epoch) _ _ (installed_so x from i x.seat) (tt, tt)

  start_so : (x : UpNode) (e : ℕ) (seat : Seat) → GoesTold c me hand x (cuts.start_course e seat)
  start_so x e (Member s) = tt
  start_so x e (Forming s) = either_so _ (starts_now s e) _ _ (kept_if_so _ (is_some s.saved.entries.pending) (Sits s e) Stops tt tt) tt

  notice_so : (x : UpNode) (e newest : ℕ) → GoesTold c me hand x (cuts.notice_course x e newest)
  notice_so x e newest = either_so _ (is_in x e) _ _ tt tt

  answering_so : (x : UpNode) (p : Presidency) (a : Arrived) (told : Answer) → GoesTold c me hand x (cuts.answering_course c me x p a told)
  answering_so x p a told = (tt, (tt, deciding_so (left_answered me x p a told)))

  acknowledged_so : (x : UpNode) (p : Presidency) (a : Arrived) (text : List ℕ) → (record_of x).entries.pending ≡ Some text → GoesTold c me hand x (cuts.acknowledged_course c me x p a text)
  acknowledged_so x p a text is = (tt, (tt, (tt, deciding_so (changed c me x (acks_of c me x p a text)))))

  acknowledging_text_so : (x : UpNode) (p : Presidency) (o : Option Arrived) (text : Option (List ℕ)) → (record_of x).entries.pending ≡ text → GoesTold c me hand x (cuts.acknowledging_text_course c me x p o text)
  acknowledging_text_so x p (Some a) (Some text) is = acknowledged_so x p a text is
  acknowledging_text_so x p None text is = tt
  acknowledging_text_so x p (Some a) None is = tt

  acknowledging_by_so : (x : UpNode) (o : Option Presidency) → GoesTold c me hand x (cuts.acknowledging_by_course c me x o)
  acknowledging_by_so x None = tt
  acknowledging_by_so x (Some p) = acknowledging_text_so x p (first_in p.proposals.arrived) (record_of x).entries.pending refl

  acknowledging_so : (x : UpNode) → GoesTold c me hand x (cuts.acknowledging_course c me x)
  acknowledging_so x = acknowledging_by_so x x.presidency

  proposing_so : (x : UpNode) (p : Presidency) (text : List ℕ) → GoesTold c me hand x (cuts.proposing_course c me x p text)
  proposing_so x p text = (tt, (tt, either_so _ (others_of me x == 0) _ _ (acknowledging_so (proposed_by c me x p text)) tt))

  acting_so : (x : UpNode) (p : Presidency) (a : Arrived) (ask : Ask) → GoesTold c me hand x (cuts.acting_course c me x p a ask)
  acting_so x p a ask = either_so _ (may_order p.groups) _ _ (tt, answering_so x (with_act c me x p a ask) a answer.Ok) tt

  taken_as_so : (x : UpNode) (p : Presidency) (a : Arrived) (r : Result Accepted CheckError) → GoesTold c me hand x (cuts.taken_as_course c me x p a r)
  taken_as_so x p a (Ok (accepted.Change u)) = proposing_so x p (words_of u)
  taken_as_so x p a (Ok (accepted.Act ask)) = acting_so x p a ask
  taken_as_so x p a (Ok (accepted.Query q)) = answering_so x p a answer.Ok
  taken_as_so x p a (Err (because.Refused r)) = answering_so x p a (answer.Refused r)
  taken_as_so x p a (Err because.NoMemory) = tt

  taken_so : (x : UpNode) (p : Presidency) (a : Arrived) (r : Result wanted.Request WordError) → GoesTold c me hand x (cuts.taken_course c me x p a r)
  taken_so x p a (Ok (asked.Change u)) = either_so _ (is_busy p.groups) _ _ tt (taken_as_so x p a (checked c x p (wish.Change u)))
  taken_so x p a (Ok (asked.Act ask)) = either_so _ (is_busy p.groups && is_clear ask) _ _ tt (taken_as_so x p a (checked c x p (wish.Act ask)))
  taken_so x p a (Err e) = answering_so x p a (word_answer e)

  turn_of_so : (x : UpNode) (p : Presidency) (o : Option Proposed) (first : Option Arrived) → GoesTold c me hand x (cuts.turn_of_course c me x p o first)
  turn_of_so x p None (Some a) = taken_so x p a (request_of (version_of c) a.text)
  turn_of_so x p None None = tt
  turn_of_so x p (Some proposed) first = tt

  turn_by_so : (x : UpNode) (o : Option Presidency) → GoesTold c me hand x (cuts.turn_by_course c me x o)
  turn_by_so x None = tt
  turn_by_so x (Some p) = turn_of_so x p p.proposals.proposed (first_in p.proposals.arrived)

  one_turn_so : (x : UpNode) → GoesTold c me hand x (cuts.one_turn_course c me x)
  one_turn_so x = turn_by_so x x.presidency

  turns_so : (x : UpNode) (k : ℕ) → GoesTold c me hand x (cuts.turns_course c me x k)
  turns_so x zero = tt
  turns_so x (suc k) = then_so x _ _ (turns_so x k) (λ z. one_turn_so z)

  handling_so : (x : UpNode) → GoesTold c me hand x (cuts.handling_course c me x)
  handling_so x = turns_so x (requests_of x x.presidency)

  kept_again_so : (x : UpNode) (from : ℕ) (o : Option Kept) → GoesTold c me hand x (cuts.kept_again_course x from o)
  kept_again_so x from None = tt
  kept_again_so x from (Some k) = (tt, tt)

  arrived_so : (x : UpNode) (p : Presidency) (a : Arrived) (how : Arrival) → GoesTold c me hand x (cuts.arrived_course c me x p a how)
  arrived_so x p a New = let s : State = with_arrival p.proposals a New in (tt, handling_so (with_proposals x p s))
  arrived_so x p a Waits_already = tt
  arrived_so x p a Answered_last = kept_again_so x a.from (kept_at p.proposals.answers a.from)
  arrived_so x p a Past = tt

  arriving_so : (x : UpNode) (p : Presidency) (a : Arrived) → GoesTold c me hand x (cuts.arriving_course c me x p a)
  arriving_so x p a = arrived_so x p a (arrival_of p.proposals a.from a.number)

  requested_so : (x : UpNode) (from number : ℕ) (text : List ℕ) (o : Option Presidency) → GoesTold c me hand x (cuts.requested_course c me x from number text o)
  requested_so x from number text None = tt
  requested_so x from number text (Some p) = arriving_so x p (record { from = from; number = number; text = text })

  asked_so : (x : UpNode) (from e number : ℕ) (text : List ℕ) → GoesTold c me hand x (cuts.asked_course c me x from e number text)
  asked_so x from e number text = either_so _ (is_of_member x from e) _ _ (requested_so x from number text x.presidency) tt

  request_to_so : (x : UpNode) (r : Request) (o : Option ℕ) → GoesTold c me hand x (cuts.request_to_course x r o)
  request_to_so x r None = tt
  request_to_so x r (Some president) = (tt, tt)

  asking_of_so : (x : UpNode) (r : Request) (o : Option Presidency) → GoesTold c me hand x (cuts.asking_of_course c me x r o)
  asking_of_so x r None = request_to_so x r (coordinator_of x)
  asking_of_so x r (Some p) = arriving_so x p (own_arrival me r)

  asking_for_so : (x : UpNode) (o : Option Request) → GoesTold c me hand x (cuts.asking_for_course c me x o)
  asking_for_so x None = tt
  asking_for_so x (Some r) = asking_of_so x r x.presidency

  asking_so : (x : UpNode) → GoesTold c me hand x (cuts.asking_course c me x)
  asking_so x = asking_for_so x (oldest x.requests)

  replying_so : (x : UpNode) (number : ℕ) (told : Answer) → GoesTold c me hand x (cuts.replying_course me number told)
  replying_so x number told = (tt, tt)

  asking_if_so : (alone : Bool) (x : UpNode) → GoesTold c me hand x (cuts.asking_if_course alone c me x)
  asking_if_so alone x = either_so _ alone _ _ (asking_so x) tt

  waiting_so : (x : UpNode) (number : ℕ) (text : List ℕ) → GoesTold c me hand x (cuts.waiting_course c me x number text)
  waiting_so x number text = either_so _ (is_full x.requests) _ _ (replying_so x number answer.QueueFull) (tt, asking_if_so (is_idle x.requests.waiting) (waiting_with x number text))

  elsewhere_so : (x : UpNode) (number : ℕ) (o : Option ℕ) → GoesTold c me hand x (cuts.elsewhere_course me number o)
  elsewhere_so x number None = tt
  elsewhere_so x number (Some president) = replying_so x number (answer.Ask president)

  telling_so : (x : UpNode) (number : ℕ) (lines : List StatusEntry) → GoesTold c me hand x (cuts.telling_course me number lines)
  telling_so x number lines = (tt, replying_so x number answer.Ok)

  query_so : (x : UpNode) (p : Presidency) (number : ℕ) (s : ConfigState) (r : Result Accepted CheckError) → GoesTold c me hand x (cuts.query_course me x p number s r)
  query_so x p number s (Ok (accepted.Query q)) = telling_so x number (query_lines x p s q)
  query_so x p number s (Ok (accepted.Change u)) = tt
  query_so x p number s (Ok (accepted.Act ask)) = tt
  query_so x p number s (Err (because.Refused r)) = replying_so x number (answer.Refused r)
  query_so x p number s (Err because.NoMemory) = tt

  queried_so : (x : UpNode) (number : ℕ) (question : AdminCommand) (o : Option Presidency) → GoesTold c me hand x (cuts.queried_course c me x number question o)
  queried_so x number question None = elsewhere_so x number (coordinator_of x)
  queried_so x number question (Some p) = either_so _ (is_full x.requests) _ _ (replying_so x number answer.QueueFull) (query_so x p number (in_force c x) (checked c x p question))

  commanded_so : (x : UpNode) (number : ℕ) (o : AdminCommand) → GoesTold c me hand x (cuts.commanded_course c me x number o)
  commanded_so x number (wish.Change u) = waiting_so x number (words_of u)
  commanded_so x number (wish.Act a) = waiting_so x number (ask_words_of a)
  commanded_so x number (wish.Status q) = queried_so x number (wish.Status q) x.presidency
  commanded_so x number (wish.Rows table) = queried_so x number (wish.Rows table) x.presidency

  worded_so : (x : UpNode) (number : ℕ) (r : Result AdminCommand WordError) → GoesTold c me hand x (cuts.worded_course c me x number r)
  worded_so x number (Err e) = replying_so x number (word_answer e)
  worded_so x number (Ok command) = either_so _ (is_member x.seat) _ _ (commanded_so x number command) (replying_so x number answer.NotMember)

  command_so : (x : UpNode) (words : List ℕ) → GoesTold c me hand x (cuts.command_course c me x words)
  command_so x words = (tt, (tt, worded_so (numbered x) (next_number x.requests) (command_of (version_of c) words)))

  replied_to_so : (x : UpNode) (number : ℕ) (told : Answer) (o : Option Request) → GoesTold c me hand x (cuts.replied_to_course c me x number told o)
  replied_to_so x number told None = tt
  replied_to_so x number told (Some r) = (tt, (tt, asking_so (record x { requests = queue.answered x.requests number })))

  replied_so : (x : UpNode) (number : ℕ) (o : Option Answer) → GoesTold c me hand x (cuts.replied_course c me x number o)
  replied_so x number None = tt
  replied_so x number (Some told) = replied_to_so x number told (found x.requests.waiting number)

  reply_so : (x : UpNode) (e number : ℕ) (told : Option Answer) → GoesTold c me hand x (cuts.reply_course c me x e number told)
  reply_so x e number told = either_so _ (is_member x.seat && is_in x e) _ _ (replied_so x number told) tt

  preparing_so : (x : UpNode) (from e place : ℕ) (s : NodeState) (text : List ℕ) (o : Prepared) → GoesTold c me hand x (cuts.preparing_course from e place s text o)
  preparing_so x from e place s text Taken = (tt, (tt, tt))
  preparing_so x from e place s text Already = (tt, tt)
  preparing_so x from e place s text (Gap k) = tt

  prepare_so : (x : UpNode) (from e place : ℕ) (text : List ℕ) (seat : Seat) → GoesTold c me hand x (cuts.prepare_course x from e place text seat)
  prepare_so x from e place text (Forming s) = tt
  prepare_so x from e place text (Member s) = either_so _ (is_in x e) _ _ (preparing_so _ from e place s text (answer_for (length (texts_of s.saved.entries)) place)) tt

  prepared_all_so : (x : UpNode) (p : Presidency) → GoesTold c me hand x (cuts.prepared_all_course c me x p)
  prepared_all_so x p = either_so _ (is_prepared p.proposals) _ _ (then_so x _ _ (acknowledging_so x) (λ z. handling_so z)) tt

  prepared_at_so : (x : UpNode) (from place : ℕ) (o : Option Presidency) → GoesTold c me hand x (cuts.prepared_at_course c me x from place o)
  prepared_at_so x from place None = tt
  prepared_at_so x from place (Some p) = let s : State = prepared_by p.proposals from place in (tt, prepared_all_so (with_proposals x p s) (record p { proposals = s }))

  prepared_so : (x : UpNode) (from e place : ℕ) → GoesTold c me hand x (cuts.prepared_course c me x from e place)
  prepared_so x from e place = either_so _ (is_of_member x from e) _ _ (prepared_at_so x from place x.presidency) tt

  commit_so : (x : UpNode) (e place : ℕ) (seat : Seat) → GoesTold c me hand x (cuts.commit_course x e place seat)
  commit_so x e place (Forming s) = tt
  commit_so x e place (Member s) = either_so _ (is_in x e && commits_now s place) _ _ (tt, tt) tt

  done_at_so : (x : UpNode) (from number : ℕ) (outcome : Outcome) (o : Option Presidency) → GoesTold c me hand x (cuts.done_at_course c me x from number outcome o)
  done_at_so x from number outcome None = tt
  done_at_so x from number outcome (Some p) = either_so _ (order.is_due p.groups.view from number) _ _ (tt, then_so (record x { presidency = Some (with_ended c x p from number outcome) }) _ _ (deciding_so (record x { presidency = Some (with_ended c x p from number outcome) })) (λ z. handling_so z)) tt

  done_so : (x : UpNode) (from e number : ℕ) (outcome : Outcome) → GoesTold c me hand x (cuts.done_course c me x from e number outcome)
  done_so x from e number outcome = either_so _ (is_of_member x from e) _ _ (done_at_so x from number outcome x.presidency) tt

  carrying_so : (x : UpNode) (o : Order) (how : Carried) → GoesTold c me hand x (cuts.carrying_course c me x o how)
  carrying_so x o how = (tt, either_so _ (is_last c x o how) _ _ tt (tt, tt))

  order_answered_so : (from : ℕ) (o : Order) (how : Carried) (x : UpNode) → GoesTold c me hand x (cuts.order_answered_course from o how x)
  order_answered_so from o carried.Old x = tt
  order_answered_so from o (carried.Called outcome) x = (tt, tt)
  order_answered_so from o carried.Cleared x = (tt, tt)
  order_answered_so from o (carried.Kept outcome) x = (tt, tt)

  obeying_so : (x : UpNode) (from : ℕ) (o : Order) (how : Carried) → GoesTold c me hand x (cuts.obeying_course c me x from o how)
  obeying_so x from o how = then_so x (cuts.carrying_course c me x o how) _ (carrying_so x o how) (λ z. order_answered_so from o how z)

  order_so : (outcome : Outcome) (x : UpNode) (from : ℕ) (o : Order) → GoesTold c me hand x (cuts.order_course c me outcome x from o)
  order_so outcome x from o = either_so _ (is_member x.seat && is_in x o.epoch) _ _ (obeying_so x from o (answer_to x.worker o outcome)) tt

  own_done_so : (o : Order) (how : Carried) (x : UpNode) → GoesTold c me hand x (cuts.own_done_course c me o how x)
  own_done_so o how x = done_at_so x me o.number (outcome_in how) x.presidency

  own_turn_so : (outcome : Outcome) (x : UpNode) (o : Option Order) → GoesTold c me hand x (cuts.own_turn_course c me outcome x o)
  own_turn_so outcome x None = tt
  own_turn_so outcome x (Some o) = then_so x (cuts.carrying_course c me x o (answer_to x.worker o outcome)) _ (carrying_so x o (answer_to x.worker o outcome)) (λ z. own_done_so o (answer_to x.worker o outcome) z)

  prepares_so : (x before : UpNode) (o : Option Proposed) (text : Option (List ℕ)) (rest : Course) → GoesTold c me hand x rest → GoesTold c me hand x (cuts.prepares_course before o text rest)
  prepares_so x before (Some p) (Some text) rest h = (tt, h)
  prepares_so x before None text rest h = h
  prepares_so x before (Some p) None rest h = h

  prepares_again_so : (x before : UpNode) (o : Option Presidency) (rest : Course) → GoesTold c me hand x rest → GoesTold c me hand x (cuts.prepares_again_course before o rest)
  prepares_again_so x before None rest h = h
  prepares_again_so x before (Some p) rest h = either_so _ (goes_again p.proposals) _ _ (prepares_so x before p.proposals.proposed (record_of before).entries.pending rest h) h

  going_again_so : (before x : UpNode) → GoesTold c me hand x (cuts.going_again_course c me before x)
  going_again_so before x = prepares_again_so x before before.presidency (Acts (Gives (orders_again before x)) (cuts.deciding_course c me x)) (tt, deciding_so x)

  governing_so : (outcome : Outcome) (before x : UpNode) → GoesTold c me hand x (cuts.governing_course c me outcome before x)
  governing_so outcome before x = then_so x _ _ (own_turn_so outcome x (own_order me x)) (λ z. going_again_so before z)

  tick_so : (outcome : Outcome) (x : UpNode) → GoesTold c me hand x (cuts.tick_course c me outcome x)
  tick_so outcome x = (tt, then_so (later c x) _ _ (governing_so outcome x (later c x)) (λ y. ticked_so y y.attempt))

  asking_this_so : (x : UpNode) (o : Option Ask) → GoesTold c me hand x (cuts.asking_this_course c me x o)
  asking_this_so x None = tt
  asking_this_so x (Some ask) = either_so _ (is_member x.seat && not (is_full x.requests)) _ _ (tt, asking_if_so (is_idle x.requests.waiting) (monitor_asked x ask)) tt

  reporting_so : (x : UpNode) (r : List ℕ) (how : Probed) → GoesTold c me hand x (cuts.reporting_course c me x r how)
  reporting_so x r probe.NoMonitor = tt
  reporting_so x r probe.Good = (tt, (tt, tt))
  reporting_so x r (probe.Failed a) = (tt, (tt, asking_this_so (reported x c r (probe.Failed a)) (asked_by a r)))

  report_so : (x : UpNode) (r : List ℕ) (good : Bool) → GoesTold c me hand x (cuts.report_course c me x r good)
  report_so x r good = reporting_so x r (probed x.worker (own_config c x) r good x.second)

  serving_so : (x : UpNode) (p : Presidency) (name : List ℕ) (client port : ℕ) (o : serving.Outcome) → GoesTold c me hand x (cuts.serving_course x p name client port o)
  serving_so x p name client port o = (tt, (tt, tt))

  serving_at_so : (s : ConfigState) (x : UpNode) (p : Presidency) (name : List ℕ) (client port : ℕ) (o : Option Address) → GoesTold c me hand x (cuts.serving_at_course s x p name client port o)
  serving_at_so s x p name client port None = tt
  serving_at_so s x p name client port (Some a) = serving_so x p name client port (serving.chosen (clients.state_of p.balancer name) (request_for s p a client port))

  serving_by_so : (x : UpNode) (name : List ℕ) (client port : ℕ) (o : Option Presidency) → GoesTold c me hand x (cuts.serving_by_course c x name client port o)
  serving_by_so x name client port None = tt
  serving_by_so x name client port (Some p) = serving_at_so (in_force c x) x p name client port (named (in_force c x).addresses name)

  client_so : (x : UpNode) (name : List ℕ) (client port : ℕ) → GoesTold c me hand x (cuts.client_course c x name client port)
  client_so x name client port = serving_by_so x name client port x.presidency

  answer_so : (x : UpNode) (from : ℕ) (m : Message) (o : Option AttemptState) → GoesTold c me hand x (cuts.answer_course c me x from m o)
  answer_so x from m None = tt
  answer_so x from m (Some a) = going_so x a (Take from m)

  body_so : (outcome : Outcome) (x : UpNode) (from : ℕ) (m : Message) (b : Body) → hand ≡ Some (from, m) → m.body ≡ b → GoesTold c me hand x (cuts.body_course c me outcome x from m b)
  body_so outcome x from m (body.Heartbeat promised session member) told is = heartbeat_so x from session member
  body_so outcome x from m (body.Collect e members) told is = collect_so x from e (collect_of from m e members told is)
  body_so outcome x from m (body.Promise e installed members valid flagged committed pending) told is = answer_so x from m x.attempt
  body_so outcome x from m (body.Nack e promised) told is = answer_so x from m x.attempt
  body_so outcome x from m (body.SeizeQuorum e members d) told is = seizing_so x from Vote e members d
  body_so outcome x from m (body.SeizeData e members d) told is = seizing_so x from Plain e members d
  body_so outcome x from m (body.Seized e d ended) told is = answer_so x from m x.attempt
  body_so outcome x from m (body.Install i) told is = install_so x from i
  body_so outcome x from m (body.Ready e joined_devices report) told is = answer_so x from m x.attempt
  body_so outcome x from m (body.Start e) told is = start_so _ e x.seat
  body_so outcome x from m (body.Excluded e newest) told is = notice_so x e newest
  body_so outcome x from m (body.Prepare e place text) told is = prepare_so x from e place text x.seat
  body_so outcome x from m (body.Prepared e place) told is = prepared_so x from e place
  body_so outcome x from m (body.Commit e place) told is = commit_so x e place x.seat
  body_so outcome x from m (body.Request e number text) told is = asked_so x from e number text
  body_so outcome x from m (body.Answer e number text) told is = reply_so x e number (answer_in text)
  body_so outcome x from m (body.Order o) told is = order_so outcome x from o
  body_so outcome x from m (body.Done e number ended) told is = done_so x from e number ended

  packet_so : (outcome : Outcome) (x : UpNode) (from : ℕ) (m : Message) → hand ≡ Some (from, m) → GoesTold c me hand x (cuts.packet_course c me outcome x from m)
  packet_so outcome x from m told = either_so _ (is_foreign c me x m.body) _ _ tt (tt, body_so outcome (hearing x from m.body) from m m.body told refl)

  distrusting_so : (x : UpNode) (o : Option ℕ) → GoesTold c me hand x (cuts.distrusting_course x o)
  distrusting_so x None = tt
  distrusting_so x (Some d) = either_so _ (has (record_of x).valid d) _ _ (tt, tt) tt

  own_seized_so : (x : UpNode) (d : ℕ) (result : SeizeResult) (o : Option AttemptState) → GoesTold c me hand x (cuts.own_seized_course c me x d result o)
  own_seized_so x d result None = tt
  own_seized_so x d result (Some a) = going_so x a (Own_seized d result)

  seized_so : (x : UpNode) (d : ℕ) (result : SeizeResult) (o : Option ℕ) → GoesTold c me hand x (cuts.seized_course c me x d result o)
  seized_so x d result None = tt
  seized_so x d result (Some coordinator) = either_so _ (coordinator == me) _ _ (own_seized_so x d result x.attempt) (tt, tt)

  joined_so : (x : UpNode) (o : Option ℕ) → GoesTold c me hand x (cuts.joined_course c me x o)
  joined_so x None = tt
  joined_so x (Some coordinator) = either_so _ (coordinator == me) _ _ (own_ready_so x) (readying_so x coordinator)

  joins_device_so : (x : UpNode) (at : ℕ) (command : PrCommand) (a : DeviceAnswer) (d : ℕ) (r : JoinResult) → GoesTold c me hand x (cuts.joining_course c me x at command a d r)
  joins_device_so x at command a d join.Joined = (tt, joined_so (joining_so (answered_so x a) d) (coordinator_of (joining_so (answered_so x a) d)))
  joins_device_so x at command a d (join.Late w) = (tt, joined_so (answered_so x a) (coordinator_of (answered_so x a)))
  joins_device_so x at command a d join.Fault = (tt, joined_so (answered_so x a) (coordinator_of (answered_so x a)))

  progress_so : (x : UpNode) (at : ℕ) (command : PrCommand) (a : DeviceAnswer) (p : Progress) → GoesTold c me hand x (cuts.progress_course c me x at command a p)
  progress_so x at command a GoesOn = (tt, tt)
  progress_so x at command a (Seized d result) = (tt, seized_so (answered_so x a) d result (coordinator_of (answered_so x a)))
  progress_so x at command a (Joined d result) = joins_device_so x at command a d result

  answer_taken_so : (x : UpNode) (a : DeviceAnswer) (o : Option ℕ) (command : Option PrCommand) → GoesTold c me hand x (cuts.answered_course c me x a o command)
  answer_taken_so x a (Some d) (Some command) = progress_so x d command a (progress_after x.tasks a)
  answer_taken_so x a None command = tt
  answer_taken_so x a (Some d) None = tt

  fenced_so : (x : UpNode) (d : ℕ) (a : DeviceAnswer) → GoesTold c me hand x (cuts.fenced_course d a)
  fenced_so x d (Ok given.Good) = tt
  fenced_so x d (Ok given.Conflict) = tt
  fenced_so x d (Ok given.InvalidRelease) = tt
  fenced_so x d (Ok given.NoPath) = tt
  fenced_so x d (Ok (given.Keys keys)) = tt
  fenced_so x d (Ok (given.Holder holder)) = tt
  fenced_so x d (Ok (given.Word w)) = tt
  fenced_so x d (Ok (given.Value v)) = tt
  fenced_so x d (Ok (given.Miscompare w)) = tt
  fenced_so x d (Err e) = tt

  course_of_so : (outcome : Outcome) (x : UpNode) (i : Input) → hand ≡ delivered_by i → GoesTold c me hand x (cuts.course_of c me outcome x i)
  course_of_so outcome x Boot told = tt
  course_of_so outcome x Crash told = tt
  course_of_so outcome x Tick told = tick_so outcome x
  course_of_so outcome x (Packet from message) told = packet_so outcome x from message told
  course_of_so outcome x CommandDue told = distrusting_so x (begins_plainly x.tasks)
  course_of_so outcome x (Answered a) told = answer_taken_so x a (due_device x.tasks) (next_of x.tasks)
  course_of_so outcome x (Wrote d value a) told = (tt, fenced_so _ d a)
  course_of_so outcome x (Commanded words) told = command_so x words
  course_of_so outcome x (Reported r good) told = report_so x r good
  course_of_so outcome x (Client name client port) told = client_so x name client port

  pub course_at_so : (now : ℕ) (outcome : Outcome) (x : UpNode) (i : Input) → hand ≡ delivered_by i → GoesTold c me hand x (cuts.course_at c me now outcome x i)
  course_at_so now outcome x i told = (tt, course_of_so outcome (at_second now x) i told)

-- Under all replies of the disk.

under_told : (c : Cluster) (me : ℕ) (hand : Delivered) (replies : List Reply) (kept : NodeRecord) (x : UpNode) (k : Course) → GoesTold c me hand x k → AllTold c me hand (site (Up x) kept) (under replies k)
under_told c me hand replies kept x Stops h = tt
under_told c me hand replies kept x (Acts a rest) h = (h.0, under_told c me hand replies kept (acted c me x a) rest h.1)
under_told c me hand [] kept x (Keeps change rest) h = (tt, tt)
under_told c me hand (Done ∷ replies) kept x (Keeps change rest) h = (tt, under_told c me hand replies _ (changed c me x change) rest h.1)
under_told c me hand (Lost_new why ∷ replies) kept x (Keeps change rest) h = (tt, tt)
under_told c me hand (Lost_old why ∷ replies) kept x (Keeps change rest) h = (tt, tt)
under_told c me hand replies kept x (Falls why) h = (tt, tt)

boot_told : (c : Cluster) (me : ℕ) (hand : Delivered) (replies : List Reply) (kept : NodeRecord) → AllTold c me hand (site Down kept) (cuts.boot_doings replies)
boot_told c me hand [] kept = (tt, (tt, tt))
boot_told c me hand (Done ∷ replies) kept = (tt, tt)
boot_told c me hand (Lost_new why ∷ replies) kept = (tt, (tt, tt))
boot_told c me hand (Lost_old why ∷ replies) kept = (tt, (tt, tt))

pub doings_told : (c : Cluster) (me now : ℕ) (ends : Outcome) (replies : List Reply) (i : Input) (kept : NodeRecord) (node : Node) → AllTold c me (delivered_by i) (site node kept) (cuts.doings c me now ends replies i node)
doings_told c me now ends replies i kept (Up x) = under_told c me (delivered_by i) replies kept x (cuts.course_at c me now ends x i) (course_at_so c me (delivered_by i) now ends x i refl)
doings_told c me now ends replies Boot kept Down = boot_told c me None replies kept
doings_told c me now ends replies Crash kept Down = tt
doings_told c me now ends replies Tick kept Down = tt
doings_told c me now ends replies (Packet from m) kept Down = tt
doings_told c me now ends replies CommandDue kept Down = tt
doings_told c me now ends replies (Answered a) kept Down = tt
doings_told c me now ends replies (Wrote d value a) kept Down = tt
doings_told c me now ends replies (Commanded words) kept Down = tt
doings_told c me now ends replies (Reported r good) kept Down = tt
doings_told c me now ends replies (Client name client port) kept Down = tt
