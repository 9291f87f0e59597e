-- Whatever comes to a node, its requests, Collects and Installs are of its attempt.
use Rattle.std.specs.Prelude.{ℕ, ◌==◌, List, [], ◌∷◌, Option, None, Some}
use Rattle.answer_words.specs.Answers.{answer_in}
use Rattle.cl_base.specs.Seizings.{SeizeResult}
use Rattle.cl_base.specs.declared.method.Outcome.{Outcome}
use Rattle.cmm_attempt.specs.Attempts.{AttemptState}
use Rattle.cmm_attempt.specs.Calls.{Own_seized, Take}
use Rattle.device_queue.specs.Queue.{progress_after, begins_plainly, due_device, next_of}
use Rattle.device_queue.specs.declared.progress.Progress.{Progress}
use Rattle.device_queue.specs.declared.progress.Progress.TheVariants.{GoesOn, Seized, Joined}
use Rattle.node_model.specs.Devices.{joining_so}
use Rattle.node_model.specs.Members.{hearing, is_foreign}
use Rattle.node_model.specs.Seats.{coordinator_of, session_of}
use Rattle.node_model.specs.Steps.{at_second}
use Rattle.node_model.specs.Ticks.{later}
use Rattle.node_model.specs.declared.cluster.Cluster.{Cluster}
use Rattle.node_model.specs.declared.input.Input.{Input}
use Rattle.node_model.specs.declared.input.Input.TheVariants.{Answered, Boot, Client, CommandDue, Commanded, Crash, Packet, Reported, Tick, Wrote}
use Rattle.node_model.specs.declared.node.Node.{Node}
use Rattle.node_model.specs.declared.node.Node.TheVariants.{Down, Up}
use Rattle.node_model.specs.declared.node.UpNode.{UpNode}
use Rattle.pgr_device.specs.declared.command.PrCommand.{PrCommand}
use Rattle.refinement.specs.Courses.{Course, Reply, under}
use Rattle.refinement.specs.Courses.Course.{Acts, Falls, Keeps, Stops}
use Rattle.refinement.specs.Courses.Reply.{Done, Lost_new, Lost_old}
use Rattle.refinement.specs.Cuts as cuts
use Rattle.refinement.specs.Doings.{answered_so}
use Rattle.refinement.specs.Doings.Act.{Hears}
use Rattle.seize.specs.Answers.{Answer as DeviceAnswer}
use Rattle.seize.specs.declared.kind.JoinResult.{JoinResult}
use Rattle.seize.specs.declared.kind.JoinResult.TheVariants as join
use Rattle.seize.specs.declared.kind.SeizeKind.TheVariants.{Vote, Plain}
use Rattle.wire.specs.declared.message.Body.{Body}
use Rattle.wire.specs.declared.message.Body.TheVariants as body
use Rattle.wire.specs.declared.message.Message.{Message}
use Rattle.run_outcomes.proofs.requests.Asking.{asked_bare, command_bare, reply_bare, report_bare}
use Rattle.run_outcomes.proofs.requests.Attempts.{bare_from, bare_then, either_from, going_from, own_ready_from, ticked_from}
use Rattle.run_outcomes.proofs.requests.Beside.{client_bare, collect_bare, commit_bare, distrusting_bare, done_bare, fenced_bare, heartbeat_bare, install_bare, notice_bare, order_bare, prepare_bare, prepared_bare, readying_bare, seizing_bare, start_bare}
use Rattle.run_outcomes.proofs.requests.Presidents.{governing_bare}
use Rattle.run_outcomes.specs.reports.Requests.{AllFrom, GoesFrom, Tried, by_act, by_change}

module _ (c : Cluster) (me : ℕ) where
  -- ---- messages

  answer_from : (o : Option Tried) (x : UpNode) (from : ℕ) (m : Message) (a : Option AttemptState) → GoesFrom me o (cuts.answer_course c me x from m a)
  answer_from o x from m None = tt
  answer_from o x from m (Some a) = going_from c me o x a (Take from m)

  body_from : (o : Option Tried) (ends : Outcome) (x : UpNode) (from : ℕ) (m : Message) (b : Body) → GoesFrom me o (cuts.body_course c me ends x from m b)
  body_from o ends x from m (body.Heartbeat promised session member) = bare_from me o (cuts.heartbeat_course me x from session member) (heartbeat_bare me x from session member)
  body_from o ends x from m (body.Collect e members) = bare_from me o (cuts.collect_course x from e) (collect_bare x from e)
  body_from o ends x from m (body.Promise e installed members valid flagged committed pending) = answer_from o x from m x.attempt
  body_from o ends x from m (body.Nack e promised) = answer_from o x from m x.attempt
  body_from o ends x from m (body.SeizeQuorum e members d) = bare_from me o (cuts.seizing_course x from Vote e members d) (seizing_bare x from Vote e members d)
  body_from o ends x from m (body.SeizeData e members d) = bare_from me o (cuts.seizing_course x from Plain e members d) (seizing_bare x from Plain e members d)
  body_from o ends x from m (body.Seized e d ended) = answer_from o x from m x.attempt
  body_from o ends x from m (body.Install i) = bare_from me o (cuts.install_course c me x from i) (install_bare c me x from i)
  body_from o ends x from m (body.Ready e devices report) = answer_from o x from m x.attempt
  body_from o ends x from m (body.Start e) = bare_from me o (cuts.start_course e x.seat) (start_bare e x.seat)
  body_from o ends x from m (body.Excluded e newest) = bare_from me o (cuts.notice_course x e newest) (notice_bare x e newest)
  body_from o ends x from m (body.Prepare e place text) = bare_from me o (cuts.prepare_course x from e place text x.seat) (prepare_bare x from e place text x.seat)
  body_from o ends x from m (body.Prepared e place) = bare_from me o (cuts.prepared_course c me x from e place) (prepared_bare c me x from e place)
  body_from o ends x from m (body.Commit e place) = bare_from me o (cuts.commit_course x e place x.seat) (commit_bare x e place x.seat)
  body_from o ends x from m (body.Request e number text) = bare_from me o (cuts.asked_course c me x from e number text) (asked_bare c me x from e number text)
  body_from o ends x from m (body.Answer e number text) = bare_from me o (cuts.reply_course c me x e number (answer_in text)) (reply_bare c me x e number (answer_in text))
  body_from o ends x from m (body.Order order) = bare_from me o (cuts.order_course c me ends x from order) (order_bare c me ends x from order)
  body_from o ends x from m (body.Done e number ended) = bare_from me o (cuts.done_course c me x from e number ended) (done_bare c me x from e number ended)

  -- ---- an answer of a device

  own_seized_from : (o : Option Tried) (x : UpNode) (d : ℕ) (r : SeizeResult) (a : Option AttemptState) → GoesFrom me o (cuts.own_seized_course c me x d r a)
  own_seized_from o x d r None = tt
  own_seized_from o x d r (Some a) = going_from c me o x a (Own_seized d r)

  seized_from : (o : Option Tried) (x : UpNode) (d : ℕ) (r : SeizeResult) (k : Option ℕ) → GoesFrom me o (cuts.seized_course c me x d r k)
  seized_from o x d r None = tt
  seized_from o x d r (Some k) =
      either_from me o (k == me) (cuts.own_seized_course c me x d r x.attempt) (cuts.writing k (body.Seized (session_of x) d r)) (own_seized_from o x d r x.attempt)
      (bare_from me o (cuts.writing k (body.Seized (session_of x) d r)) (tt, tt))

  joined_from : (o : Option Tried) (x : UpNode) (k : Option ℕ) → GoesFrom me o (cuts.joined_course c me x k)
  joined_from o x None = tt
  joined_from o x (Some k) = either_from me o (k == me) (cuts.own_ready_course c me x) (cuts.readying_course c x k) (own_ready_from c me o x) (bare_from me o (cuts.readying_course c x k) (readying_bare c x k))

  joining_from : (o : Option Tried) (x : UpNode) (at : ℕ) (k : PrCommand) (a : DeviceAnswer) (d : ℕ) (r : JoinResult) → GoesFrom me o (cuts.joining_course c me x at k a d r)
  joining_from o x at k a d join.Joined = let y : UpNode = joining_so (answered_so x a) d in joined_from o y (coordinator_of y)
  joining_from o x at k a d (join.Late w) = (tt, joined_from o (answered_so x a) (coordinator_of (answered_so x a)))
  joining_from o x at k a d join.Fault = (tt, joined_from o (answered_so x a) (coordinator_of (answered_so x a)))

  progress_from : (o : Option Tried) (x : UpNode) (at : ℕ) (k : PrCommand) (a : DeviceAnswer) (p : Progress) → GoesFrom me o (cuts.progress_course c me x at k a p)
  progress_from o x at k a GoesOn = (tt, tt)
  progress_from o x at k a (Seized d r) = (tt, seized_from o (answered_so x a) d r (coordinator_of (answered_so x a)))
  progress_from o x at k a (Joined d r) = joining_from o x at k a d r

  taken_from : (o : Option Tried) (x : UpNode) (a : DeviceAnswer) (d : Option ℕ) (k : Option PrCommand) → GoesFrom me o (cuts.answered_course c me x a d k)
  taken_from o x a None k = tt
  taken_from o x a (Some d) None = tt
  taken_from o x a (Some d) (Some k) = progress_from o x d k a (progress_after x.tasks a)

  -- ---- each input

  input_from : (o : Option Tried) (ends : Outcome) (x : UpNode) (i : Input) → GoesFrom me o (cuts.course_of c me ends x i)
  input_from o ends x Boot = tt
  input_from o ends x Crash = tt
  input_from o ends x Tick =
      let y : UpNode = later c x in
      (tt, bare_then c me o y (cuts.governing_course c me ends x y) (λ z. cuts.ticked_course c me z z.attempt) (governing_bare c me ends x y) (λ z. ticked_from c me o z z.attempt))
  input_from o ends x (Packet from m) =
      let y : UpNode = hearing x from m.body in
      either_from me o (is_foreign c me x m.body) Stops (Acts (Hears from m.body) (cuts.body_course c me ends y from m m.body)) tt (tt, body_from o ends y from m m.body)
  input_from o ends x CommandDue = bare_from me o (cuts.distrusting_course x (begins_plainly x.tasks)) (distrusting_bare x (begins_plainly x.tasks))
  input_from o ends x (Answered a) = taken_from o x a (due_device x.tasks) (next_of x.tasks)
  input_from o ends x (Wrote d value a) = (tt, bare_from me o (cuts.fenced_course d a) (fenced_bare d a))
  input_from o ends x (Commanded words) = bare_from me o (cuts.command_course c me x words) (command_bare c me x words)
  input_from o ends x (Reported r good) = bare_from me o (cuts.report_course c me x r good) (report_bare c me x r good)
  input_from o ends x (Client name number port) = bare_from me o (cuts.client_course c x name number port) (client_bare c x name number port)

-- ---- under all replies of the disk

under_from : (me : ℕ) (o : Option Tried) (replies : List Reply) (k : Course) → GoesFrom me o k → AllFrom me o (under replies k)
under_from me o replies Stops h = tt
under_from me o replies (Acts a rest) h = (h.0, under_from me (by_act me o a) replies rest h.1)
under_from me o [] (Keeps change rest) h = (tt, tt)
under_from me o (Done ∷ replies) (Keeps change rest) h = (tt, under_from me (by_change me o change) replies rest h)
under_from me o (Lost_new why ∷ replies) (Keeps change rest) h = (tt, tt)
under_from me o (Lost_old why ∷ replies) (Keeps change rest) h = (tt, tt)
under_from me o replies (Falls why) h = (tt, tt)

boot_from : (me : ℕ) (replies : List Reply) → AllFrom me None (cuts.boot_doings replies)
boot_from me [] = (tt, (tt, tt))
boot_from me (Done ∷ replies) = (tt, tt)
boot_from me (Lost_new why ∷ replies) = (tt, (tt, tt))
boot_from me (Lost_old why ∷ replies) = (tt, (tt, tt))

pub doings_from : (c : Cluster) (me now : ℕ) (ends : Outcome) (replies : List Reply) (i : Input) (node : Node) → AllFrom me None (cuts.doings c me now ends replies i node)
doings_from c me now ends replies i (Up x) = under_from me None replies (cuts.course_at c me now ends x i) (tt, input_from c me None ends (at_second now x) i)
doings_from c me now ends replies Boot Down = boot_from me replies
doings_from c me now ends replies _ Down = tt
