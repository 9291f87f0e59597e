-- The end of an attempt is among the steps that its last call gave, in whatever a node does.
use Rattle.answer_words.specs.Answers.{answer_in}
use Rattle.cl_base.specs.declared.method.Outcome.{Outcome}
use Rattle.cl_base.specs.Seizings.{SeizeResult}
use Rattle.cmm_attempt.specs.Attempts.{AttemptState, Turn}
use Rattle.cmm_attempt.specs.Calls.{Own_seized, Take, Tick as Call_tick, With_votes, end_in}
use Rattle.device_queue.specs.declared.progress.Progress.{Progress}
use Rattle.device_queue.specs.declared.progress.Progress.TheVariants.{GoesOn, Seized, Joined}
use Rattle.device_queue.specs.Queue.{begins_plainly, due_device, next_of, progress_after}
use Rattle.pgr_device.specs.declared.command.PrCommand.{PrCommand}
use Rattle.seize.specs.Answers.{Answer as DeviceAnswer}
use Rattle.seize.specs.declared.kind.JoinResult.{JoinResult}
use Rattle.seize.specs.declared.kind.JoinResult.TheVariants as join
use Rattle.seize.specs.declared.kind.SeizeKind.TheVariants.{Vote, Plain}
use Rattle.wire.specs.declared.message.Body.{Body}
use Rattle.wire.specs.declared.message.Body.TheVariants as body
use Rattle.wire.specs.declared.message.Message.{Message}
use Rattle.node_model.specs.declared.cluster.Cluster.{Cluster}
use Rattle.node_model.specs.declared.input.Input.{Input}
use Rattle.node_model.specs.declared.input.Input.TheVariants.{Boot, Crash, Tick, Packet, CommandDue, Answered, Wrote, Commanded, Reported, Client}
use Rattle.node_model.specs.declared.node.Node.{Node}
use Rattle.node_model.specs.declared.node.Node.TheVariants.{Down, Up}
use Rattle.node_model.specs.declared.node.UpNode.{UpNode}
use Rattle.node_model.specs.Attempts.{is_choosing, next_epoch, votes_in}
use Rattle.node_model.specs.Devices.{joining_so}
use Rattle.node_model.specs.Members.{hearing, is_foreign}
use Rattle.node_model.specs.Ticks.{later, members_to_form, waiting_less}
use Rattle.node_model.specs.Steps.{at_second}
use Rattle.refinement.specs.Courses.{Course, Reply, under}
use Rattle.refinement.specs.Courses.Reply.{Done, Lost_new, Lost_old}
use Rattle.refinement.specs.Courses.Course.{Acts, Falls, Keeps, Stops}
use Rattle.refinement.specs.Cuts as cuts
use Rattle.refinement.specs.Cuts.{first_turn}
use Rattle.std.specs.Prelude.{ℕ, ◌≡◌, ◌==◌, nat_le, nat_lt, List, [], ◌∷◌, Option, None, Some}
use Rattle.node_model.specs.Seats.{coordinator_of, is_in, promised_of}
use Rattle.refinement.specs.Doings.{acted, answered_so, changed, site}
use Rattle.refinement.specs.Doings.Act.{Hears}
use Rattle.refinement.specs.Doings.Change.{Leads}
use Rattle.cmm_member.specs.Records.{NodeRecord}
use Rattle.run_outcomes.specs.counts.Ends.{AllFit, GoesFit, Last, last_by, last_by_change}
use Rattle.run_outcomes.proofs.free.Courses.{client_free, collect_free, command_free, asked_free, commit_free, distrusting_free, fenced_free, governing_free, heartbeat_free, install_free, order_free, prepare_free, readying_free, reply_free, report_free, seizing_free, start_free}
use Rattle.run_outcomes.proofs.free.Presidents.{done_free, prepared_free}
use Rattle.run_outcomes.proofs.counts.Given.{begins_alive}
use Rattle.run_outcomes.proofs.counts.Calls.{free_fits, either_fits, free_then, calm_fits, own_ready_fits, called_fits, going_fits}

module _ (c : Cluster) (me : ℕ) where
  -- ---- an attempt begins

  begun_fits : (last : Last) (x : UpNode) (t : Turn) → end_in t.steps ≡ None → GoesFit c me last x (cuts.begun_course c me x t)
  begun_fits last x t calm = either_fits c me last x (is_choosing t.after.phase) _ _ (called_fits c me last x t.after (With_votes (votes_in c t.after))) (calm_fits c me last x t.steps calm)

  leading_fits : (last : Last) (x : UpNode) (p members : ℕ) → GoesFit c me last x (cuts.leading_course c me x p members)
  leading_fits last x p members =
      either_fits c me last x (nat_lt (promised_of x) p) _ _
      (tt, begun_fits None (changed c me x (Leads p members)) (first_turn c me x p members) (begins_alive p members _ c.attached c.id)) tt

  forming_fits : (last : Last) (x : UpNode) (o : Option ℕ) → GoesFit c me last x (cuts.forming_course c me x o)
  forming_fits last x None = tt
  forming_fits last x (Some members) = leading_fits last x (next_epoch me x) members

  -- ---- what comes to a node

  ticked_fits : (last : Last) (x : UpNode) (o : Option AttemptState) → GoesFit c me last x (cuts.ticked_course c me x o)
  ticked_fits last x (Some a) = going_fits c me last x a Call_tick
  ticked_fits last x None = either_fits c me last x (nat_le 1 x.beats.wait) _ _ (tt, tt) (tt, forming_fits None (waiting_less x) (members_to_form c me (waiting_less x)))

  tick_fits : (last : Last) (outcome : Outcome) (x : UpNode) → GoesFit c me last x (cuts.tick_course c me outcome x)
  tick_fits last outcome x =
      (tt, free_then c me None (later c x) (cuts.governing_course c me outcome x (later c x)) _ (governing_free c me outcome x (later c x)) (λ l y. ticked_fits l y y.attempt))

  answer_fits : (last : Last) (x : UpNode) (from : ℕ) (m : Message) (o : Option AttemptState) → GoesFit c me last x (cuts.answer_course c me x from m o)
  answer_fits last x from m None = tt
  answer_fits last x from m (Some a) = going_fits c me last x a (Take from m)

  body_fits : (last : Last) (outcome : Outcome) (x : UpNode) (from : ℕ) (m : Message) (b : Body) → GoesFit c me last x (cuts.body_course c me outcome x from m b)
  body_fits last outcome x from m (body.Heartbeat promised session member) = free_fits c me last x _ (heartbeat_free c me x from session member)
  body_fits last outcome x from m (body.Collect e members) = free_fits c me last x _ (collect_free c me x from e)
  body_fits last outcome x from m (body.Promise e installed members valid flagged committed pending) = answer_fits last x from m x.attempt
  body_fits last outcome x from m (body.Nack e promised) = answer_fits last x from m x.attempt
  body_fits last outcome x from m (body.SeizeQuorum e members d) = free_fits c me last x _ (seizing_free c me x from Vote e members d)
  body_fits last outcome x from m (body.SeizeData e members d) = free_fits c me last x _ (seizing_free c me x from Plain e members d)
  body_fits last outcome x from m (body.Seized e d ended) = answer_fits last x from m x.attempt
  body_fits last outcome x from m (body.Install i) = free_fits c me last x _ (install_free c me x from i)
  body_fits last outcome x from m (body.Ready e joined_devices report) = answer_fits last x from m x.attempt
  body_fits last outcome x from m (body.Start e) = free_fits c me last x _ (start_free c me x e x.seat)
  body_fits last outcome x from m (body.Excluded e newest) = either_fits c me last x (is_in x e) _ _ tt tt
  body_fits last outcome x from m (body.Prepare e place text) = free_fits c me last x _ (prepare_free c me x from e place text x.seat)
  body_fits last outcome x from m (body.Prepared e place) = free_fits c me last x _ (prepared_free c me x from e place)
  body_fits last outcome x from m (body.Commit e place) = free_fits c me last x _ (commit_free c me x e place x.seat)
  body_fits last outcome x from m (body.Request e number text) = free_fits c me last x _ (asked_free c me x from e number text)
  body_fits last outcome x from m (body.Answer e number text) = free_fits c me last x _ (reply_free c me x e number (answer_in text))
  body_fits last outcome x from m (body.Order o) = free_fits c me last x _ (order_free c me outcome x from o)
  body_fits last outcome x from m (body.Done e number ended) = free_fits c me last x _ (done_free c me x from e number ended)

  packet_fits : (last : Last) (outcome : Outcome) (x : UpNode) (from : ℕ) (m : Message) → GoesFit c me last x (cuts.packet_course c me outcome x from m)
  packet_fits last outcome x from m =
      either_fits c me last x (is_foreign c me x m.body) Stops (Acts (Hears from m.body) (cuts.body_course c me outcome (hearing x from m.body) from m m.body)) tt
      (tt, body_fits None outcome (hearing x from m.body) from m m.body)

  -- ---- devices

  own_seized_fits : (last : Last) (x : UpNode) (d : ℕ) (result : SeizeResult) (o : Option AttemptState) → GoesFit c me last x (cuts.own_seized_course c me x d result o)
  own_seized_fits last x d result None = tt
  own_seized_fits last x d result (Some a) = going_fits c me last x a (Own_seized d result)

  seized_fits : (last : Last) (x : UpNode) (d : ℕ) (result : SeizeResult) (o : Option ℕ) → GoesFit c me last x (cuts.seized_course c me x d result o)
  seized_fits last x d result None = tt
  seized_fits last x d result (Some coordinator) = either_fits c me last x (coordinator == me) _ _ (own_seized_fits last x d result x.attempt) (tt, tt)

  joined_fits : (last : Last) (x : UpNode) (o : Option ℕ) → GoesFit c me last x (cuts.joined_course c me x o)
  joined_fits last x None = tt
  joined_fits last x (Some coordinator) = either_fits c me last x (coordinator == me) _ _ (own_ready_fits c me last x) (free_fits c me last x _ (readying_free c me x coordinator))

  joining_fits : (last : Last) (x : UpNode) (at : ℕ) (command : PrCommand) (a : DeviceAnswer) (d : ℕ) (r : JoinResult) → GoesFit c me last x (cuts.joining_course c me x at command a d r)
  joining_fits last x at command a d join.Joined = (tt, joined_fits None (joining_so (answered_so x a) d) (coordinator_of (joining_so (answered_so x a) d)))
  joining_fits last x at command a d (join.Late w) = (tt, joined_fits None (answered_so x a) (coordinator_of (answered_so x a)))
  joining_fits last x at command a d join.Fault = (tt, joined_fits None (answered_so x a) (coordinator_of (answered_so x a)))

  progress_fits : (last : Last) (x : UpNode) (at : ℕ) (command : PrCommand) (a : DeviceAnswer) (p : Progress) → GoesFit c me last x (cuts.progress_course c me x at command a p)
  progress_fits last x at command a GoesOn = (tt, tt)
  progress_fits last x at command a (Seized d result) = (tt, seized_fits None (answered_so x a) d result (coordinator_of (answered_so x a)))
  progress_fits last x at command a (Joined d result) = joining_fits last x at command a d result

  taken_fits : (last : Last) (x : UpNode) (a : DeviceAnswer) (o : Option ℕ) (command : Option PrCommand) → GoesFit c me last x (cuts.answered_course c me x a o command)
  taken_fits last x a (Some d) (Some command) = progress_fits last x d command a (progress_after x.tasks a)
  taken_fits last x a None command = tt
  taken_fits last x a (Some d) None = tt

  -- ---- each input

  course_fits : (last : Last) (outcome : Outcome) (x : UpNode) (i : Input) → GoesFit c me last x (cuts.course_of c me outcome x i)
  course_fits last outcome x Boot = tt
  course_fits last outcome x Crash = tt
  course_fits last outcome x Tick = tick_fits last outcome x
  course_fits last outcome x (Packet from message) = packet_fits last outcome x from message
  course_fits last outcome x CommandDue = free_fits c me last x _ (distrusting_free c me x (begins_plainly x.tasks))
  course_fits last outcome x (Answered a) = taken_fits last x a (due_device x.tasks) (next_of x.tasks)
  course_fits last outcome x (Wrote d value a) = (tt, free_fits c me None x _ (fenced_free c me x d a))
  course_fits last outcome x (Commanded words) = free_fits c me last x (cuts.command_course c me x words) (command_free c me x words)
  course_fits last outcome x (Reported r good) = free_fits c me last x _ (report_free c me x r good)
  course_fits last outcome x (Client name client port) = free_fits c me last x _ (client_free c me x name client port)

-- ---- under all replies of the disk

under_fits : (c : Cluster) (me : ℕ) (last : Last) (replies : List Reply) (kept : NodeRecord) (x : UpNode) (k : Course) → GoesFit c me last x k → AllFit c me last (site (Up x) kept) (under replies k)
under_fits c me last replies kept x Stops h = tt
under_fits c me last replies kept x (Acts a rest) h = (h.0, under_fits c me (last_by last a) replies kept (acted c me x a) rest h.1)
under_fits c me last [] kept x (Keeps change rest) h = (tt, tt)
under_fits c me last (Done ∷ replies) kept x (Keeps change rest) h = (tt, under_fits c me (last_by_change last change) replies _ (changed c me x change) rest h.1)
under_fits c me last (Lost_new why ∷ replies) kept x (Keeps change rest) h = (tt, tt)
under_fits c me last (Lost_old why ∷ replies) kept x (Keeps change rest) h = (tt, tt)
under_fits c me last replies kept x (Falls why) h = (tt, tt)

boot_fits : (c : Cluster) (me : ℕ) (last : Last) (replies : List Reply) (kept : NodeRecord) → AllFit c me last (site Down kept) (cuts.boot_doings replies)
boot_fits c me last [] kept = (tt, (tt, tt))
boot_fits c me last (Done ∷ replies) kept = (tt, tt)
boot_fits c me last (Lost_new why ∷ replies) kept = (tt, (tt, tt))
boot_fits c me last (Lost_old why ∷ replies) kept = (tt, (tt, tt))

pub doings_fit : (c : Cluster) (me now : ℕ) (ends : Outcome) (replies : List Reply) (i : Input) (kept : NodeRecord) (node : Node) → AllFit c me None (site node kept) (cuts.doings c me now ends replies i node)
doings_fit c me now ends replies i kept (Up x) =
    under_fits c me None replies kept x (cuts.course_at c me now ends x i) (tt, course_fits c me None ends (at_second now x) i)
doings_fit c me now ends replies Boot kept Down = boot_fits c me None replies kept
doings_fit c me now ends replies Crash kept Down = tt
doings_fit c me now ends replies Tick kept Down = tt
doings_fit c me now ends replies (Packet from m) kept Down = tt
doings_fit c me now ends replies CommandDue kept Down = tt
doings_fit c me now ends replies (Answered a) kept Down = tt
doings_fit c me now ends replies (Wrote d value a) kept Down = tt
doings_fit c me now ends replies (Commanded words) kept Down = tt
doings_fit c me now ends replies (Reported r good) kept Down = tt
doings_fit c me now ends replies (Client name client port) kept Down = tt
