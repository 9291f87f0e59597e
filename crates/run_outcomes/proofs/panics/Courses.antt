-- Whom a node tells of an exclusion, and why it panics for one, in whatever it does.
use Rattle.answer_words.specs.Answers.{answer_in}
use Rattle.cl_base.specs.declared.method.Outcome.{Outcome}
use Rattle.cl_base.specs.Seizings.{SeizeResult}
use Rattle.cmm_attempt.specs.Attempts.{AttemptState, Turn}
use Rattle.cmm_attempt.specs.Calls.{Own_seized, Take, Tick as Call_tick, With_votes}
use Rattle.device_queue.specs.declared.progress.Progress.{Progress}
use Rattle.device_queue.specs.declared.progress.Progress.TheVariants.{GoesOn, Seized, Joined}
use Rattle.device_queue.specs.Queue.{begins_plainly, due_device, next_of, progress_after}
use Rattle.pgr_device.specs.declared.command.PrCommand.{PrCommand}
use Rattle.seize.specs.Answers.{Answer as DeviceAnswer}
use Rattle.seize.specs.declared.kind.JoinResult.{JoinResult}
use Rattle.seize.specs.declared.kind.JoinResult.TheVariants as join
use Rattle.seize.specs.declared.kind.SeizeKind.TheVariants.{Vote, Plain}
use Rattle.wire.specs.declared.message.Body.{Body}
use Rattle.wire.specs.declared.message.Body.TheVariants as body
use Rattle.wire.specs.declared.message.Message.{Message}
use Rattle.node_model.specs.declared.cluster.Cluster.{Cluster}
use Rattle.node_model.specs.declared.input.Input.{Input}
use Rattle.node_model.specs.declared.input.Input.TheVariants.{Boot, Crash, Tick, Packet, CommandDue, Answered, Wrote, Commanded, Reported, Client}
use Rattle.node_model.specs.declared.node.Node.{Node}
use Rattle.node_model.specs.declared.node.Node.TheVariants.{Down, Up}
use Rattle.node_model.specs.declared.node.UpNode.{UpNode}
use Rattle.node_model.specs.Attempts.{is_choosing, next_epoch, votes_in}
use Rattle.node_model.specs.Devices.{joining_so}
use Rattle.node_model.specs.Members.{hearing, is_foreign}
use Rattle.node_model.specs.Ticks.{later, members_to_form, waiting_less}
use Rattle.node_model.specs.Steps.{at_second}
use Rattle.refinement.specs.Courses.{Course, Reply, under}
use Rattle.refinement.specs.Courses.Reply.{Done, Lost_new, Lost_old}
use Rattle.refinement.specs.Courses.Course.{Acts, Falls, Keeps, Stops}
use Rattle.refinement.specs.Cuts as cuts
use Rattle.refinement.specs.Cuts.{first_turn}
use Rattle.std.specs.Prelude.{ℕ, ◌≡◌, ◌==◌, nat_le, nat_lt, List, [], ◌∷◌, Option, None, Some}
use Rattle.std.proofs.Common.{refl, sym, subst, inr}
use Rattle.node_model.specs.Seats.{coordinator_of, is_in, promised_of, up_with}
use Rattle.refinement.specs.Doings.{acted, answered_so, changed, site}
use Rattle.refinement.specs.Doings.Act.{Hears}
use Rattle.refinement.specs.Doings.Change.{Leads}
use Rattle.cmm_member.specs.Records.{NodeRecord}
use Rattle.attempt_laws.proofs.Walk.{if_with}
use Rattle.cl_base.specs.declared.panic.Panic.TheVariants as panic
use Rattle.node_model.specs.Clusters.{first_valid_of}
use Rattle.refinement.proofs.Fits.{AllFit, first_fits}
use Rattle.refinement.proofs.Handlers.{delivered_by}
use Rattle.refinement.specs.Guards.{Says}
use Rattle.refinement.specs.Ties.{Delivered}
use Rattle.run_messages.specs.records.Losses.{AreLosses, IsLoss}
use Rattle.status_report.specs.declared.node_entry.DownCause.{DownCause}
use Rattle.status_report.specs.declared.node_entry.DownCause.TheVariants as cause
use Rattle.run_outcomes.specs.panics.Notices.{AllSaid, FallSaid, GoesSaid, IsNoticeIn, Notice, notice_by}
use Rattle.run_outcomes.proofs.panics.Calls.{all_fit_free, called_said, either_said, free_said, free_then, going_said, own_ready_said, steps_said}
use Rattle.run_outcomes.proofs.free.Courses.{asked_free, client_free, collect_free, command_free, commit_free, distrusting_free, fenced_free, governing_free, heartbeat_free, install_free, order_free, prepare_free, readying_free, reply_free, report_free, seizing_free, start_free}
use Rattle.run_outcomes.proofs.free.Presidents.{done_free, prepared_free}

module _ (c : Cluster) (me : ℕ) (told : Delivered) where
  -- ---- an attempt begins

  begun_said : (said : Option Notice) (x : UpNode) (t : Turn) → AllFit t.after t.steps → GoesSaid c me told said x (cuts.begun_course c me x t)
  begun_said said x t fits = either_said c me told said x (is_choosing t.after.phase) _ _ (called_said c me told said x t.after (With_votes (votes_in c t.after))) (steps_said c me told said x t.steps (all_fit_free t.after t.steps fits))

  leading_said : (said : Option Notice) (x : UpNode) (p members : ℕ) → GoesSaid c me told said x (cuts.leading_course c me x p members)
  leading_said said x p members =
      either_said c me told said x (nat_lt (promised_of x) p) _ _
      (tt, begun_said None (changed c me x (Leads p members)) (first_turn c me x p members) (first_fits p members _ c.attached c.id)) tt

  forming_said : (said : Option Notice) (x : UpNode) (o : Option ℕ) → GoesSaid c me told said x (cuts.forming_course c me x o)
  forming_said said x None = tt
  forming_said said x (Some members) = leading_said said x (next_epoch me x) members

  -- ---- what comes to a node

  ticked_said : (said : Option Notice) (x : UpNode) (o : Option AttemptState) → GoesSaid c me told said x (cuts.ticked_course c me x o)
  ticked_said said x (Some a) = going_said c me told said x a Call_tick
  ticked_said said x None = either_said c me told said x (nat_le 1 x.beats.wait) _ _ (tt, tt) (tt, forming_said None (waiting_less x) (members_to_form c me (waiting_less x)))

  tick_said : (said : Option Notice) (outcome : Outcome) (x : UpNode) → GoesSaid c me told said x (cuts.tick_course c me outcome x)
  tick_said said outcome x =
      (tt, free_then c me told None (later c x) (cuts.governing_course c me outcome x (later c x)) _ (governing_free c me outcome x (later c x)) (λ l y. ticked_said l y y.attempt))

  answer_said : (said : Option Notice) (x : UpNode) (from : ℕ) (m : Message) (o : Option AttemptState) → GoesSaid c me told said x (cuts.answer_course c me x from m o)
  answer_said said x from m None = tt
  answer_said said x from m (Some a) = going_said c me told said x a (Take from m)

  notice_said : (said : Option Notice) (x : UpNode) (from e newest : ℕ) (m : Message) → told ≡ Some (from, m) → m.body ≡ body.Excluded e newest → GoesSaid c me told said x (cuts.notice_course x e newest)
  notice_said said x from e newest m comes is =
      if_with (GoesSaid c me told said x) (is_in x e) (is_in x e) (Falls (cause.Panic (panic.Excluded newest))) Stops refl
      (λ here. inr (subst (Says (IsNoticeIn x newest)) (sym comes) (subst (IsNoticeIn x newest) (sym is) (here, refl)))) (λ elsewhere. tt)

  body_said : (said : Option Notice) (outcome : Outcome) (x : UpNode) (from : ℕ) (m : Message) (b : Body) → told ≡ Some (from, m) → m.body ≡ b → GoesSaid c me told said x (cuts.body_course c me outcome x from m b)
  body_said said outcome x from m (body.Heartbeat promised session member) comes is = free_said c me told said x _ (heartbeat_free c me x from session member)
  body_said said outcome x from m (body.Collect e members) comes is = free_said c me told said x _ (collect_free c me x from e)
  body_said said outcome x from m (body.Promise e installed members valid flagged committed pending) comes is = answer_said said x from m x.attempt
  body_said said outcome x from m (body.Nack e promised) comes is = answer_said said x from m x.attempt
  body_said said outcome x from m (body.SeizeQuorum e members d) comes is = free_said c me told said x _ (seizing_free c me x from Vote e members d)
  body_said said outcome x from m (body.SeizeData e members d) comes is = free_said c me told said x _ (seizing_free c me x from Plain e members d)
  body_said said outcome x from m (body.Seized e d ended) comes is = answer_said said x from m x.attempt
  body_said said outcome x from m (body.Install i) comes is = free_said c me told said x _ (install_free c me x from i)
  body_said said outcome x from m (body.Ready e joined_devices report) comes is = answer_said said x from m x.attempt
  body_said said outcome x from m (body.Start e) comes is = free_said c me told said x _ (start_free c me x e x.seat)
  body_said said outcome x from m (body.Excluded e newest) comes is = notice_said said x from e newest m comes is
  body_said said outcome x from m (body.Prepare e place text) comes is = free_said c me told said x _ (prepare_free c me x from e place text x.seat)
  body_said said outcome x from m (body.Prepared e place) comes is = free_said c me told said x _ (prepared_free c me x from e place)
  body_said said outcome x from m (body.Commit e place) comes is = free_said c me told said x _ (commit_free c me x e place x.seat)
  body_said said outcome x from m (body.Request e number text) comes is = free_said c me told said x _ (asked_free c me x from e number text)
  body_said said outcome x from m (body.Answer e number text) comes is = free_said c me told said x _ (reply_free c me x e number (answer_in text))
  body_said said outcome x from m (body.Order o) comes is = free_said c me told said x _ (order_free c me outcome x from o)
  body_said said outcome x from m (body.Done e number ended) comes is = free_said c me told said x _ (done_free c me x from e number ended)

  packet_said : (said : Option Notice) (outcome : Outcome) (x : UpNode) (from : ℕ) (m : Message) → told ≡ Some (from, m) → GoesSaid c me told said x (cuts.packet_course c me outcome x from m)
  packet_said said outcome x from m comes =
      either_said c me told said x (is_foreign c me x m.body) Stops (Acts (Hears from m.body) (cuts.body_course c me outcome (hearing x from m.body) from m m.body)) tt
      (tt, body_said None outcome (hearing x from m.body) from m m.body comes refl)

  -- ---- devices

  own_seized_said : (said : Option Notice) (x : UpNode) (d : ℕ) (result : SeizeResult) (o : Option AttemptState) → GoesSaid c me told said x (cuts.own_seized_course c me x d result o)
  own_seized_said said x d result None = tt
  own_seized_said said x d result (Some a) = going_said c me told said x a (Own_seized d result)

  seized_said : (said : Option Notice) (x : UpNode) (d : ℕ) (result : SeizeResult) (o : Option ℕ) → GoesSaid c me told said x (cuts.seized_course c me x d result o)
  seized_said said x d result None = tt
  seized_said said x d result (Some coordinator) = either_said c me told said x (coordinator == me) _ _ (own_seized_said said x d result x.attempt) (tt, tt)

  joined_said : (said : Option Notice) (x : UpNode) (o : Option ℕ) → GoesSaid c me told said x (cuts.joined_course c me x o)
  joined_said said x None = tt
  joined_said said x (Some coordinator) = either_said c me told said x (coordinator == me) _ _ (own_ready_said c me told said x) (free_said c me told said x _ (readying_free c me x coordinator))

  joining_said : (said : Option Notice) (x : UpNode) (at : ℕ) (command : PrCommand) (a : DeviceAnswer) (d : ℕ) (r : JoinResult) → GoesSaid c me told said x (cuts.joining_course c me x at command a d r)
  joining_said said x at command a d join.Joined = (tt, joined_said None (joining_so (answered_so x a) d) (coordinator_of (joining_so (answered_so x a) d)))
  joining_said said x at command a d (join.Late w) = (tt, joined_said None (answered_so x a) (coordinator_of (answered_so x a)))
  joining_said said x at command a d join.Fault = (tt, joined_said None (answered_so x a) (coordinator_of (answered_so x a)))

  progress_said : (said : Option Notice) (x : UpNode) (at : ℕ) (command : PrCommand) (a : DeviceAnswer) (p : Progress) → GoesSaid c me told said x (cuts.progress_course c me x at command a p)
  progress_said said x at command a GoesOn = (tt, tt)
  progress_said said x at command a (Seized d result) = (tt, seized_said None (answered_so x a) d result (coordinator_of (answered_so x a)))
  progress_said said x at command a (Joined d result) = joining_said said x at command a d result

  taken_said : (said : Option Notice) (x : UpNode) (a : DeviceAnswer) (o : Option ℕ) (command : Option PrCommand) → GoesSaid c me told said x (cuts.answered_course c me x a o command)
  taken_said said x a (Some d) (Some command) = progress_said said x d command a (progress_after x.tasks a)
  taken_said said x a None command = tt
  taken_said said x a (Some d) None = tt

  -- ---- each input

  course_said : (said : Option Notice) (outcome : Outcome) (x : UpNode) (i : Input) → told ≡ delivered_by i → GoesSaid c me told said x (cuts.course_of c me outcome x i)
  course_said said outcome x Boot is = tt
  course_said said outcome x Crash is = tt
  course_said said outcome x Tick is = tick_said said outcome x
  course_said said outcome x (Packet from message) is = packet_said said outcome x from message is
  course_said said outcome x CommandDue is = free_said c me told said x _ (distrusting_free c me x (begins_plainly x.tasks))
  course_said said outcome x (Answered a) is = taken_said said x a (due_device x.tasks) (next_of x.tasks)
  course_said said outcome x (Wrote d value a) is = (tt, free_said c me told None x _ (fenced_free c me x d a))
  course_said said outcome x (Commanded words) is = free_said c me told said x (cuts.command_course c me x words) (command_free c me x words)
  course_said said outcome x (Reported r good) is = free_said c me told said x _ (report_free c me x r good)
  course_said said outcome x (Client name client port) is = free_said c me told said x _ (client_free c me x name client port)

-- ---- under all replies of the disk

loss_said : (me : ℕ) (told : Delivered) (said : Option Notice) (x : UpNode) (why : DownCause) → IsLoss why → FallSaid me told said x why
loss_said me told said x cause.Crash h = absurd h
loss_said me told said x cause.Stopped h = tt
loss_said me told said x (cause.Panic (panic.Excluded f)) h = absurd h
loss_said me told said x (cause.Panic p) h = tt

under_said : (c : Cluster) (me : ℕ) (told : Delivered) (said : Option Notice) (replies : List Reply) (kept : NodeRecord) (x : UpNode) (k : Course) → GoesSaid c me told said x k → AllSaid c me told said (site (Up x) kept) (under replies k)
under_said c me told said replies kept x Stops h = tt
under_said c me told said replies kept x (Acts a rest) h = (h.0, under_said c me told (notice_by a) replies kept (acted c me x a) rest h.1)
under_said c me told said [] kept x (Keeps change rest) h = (tt, tt)
under_said c me told said (Done ∷ replies) kept x (Keeps change rest) h = (tt, under_said c me told None replies _ (changed c me x change) rest h.1)
under_said c me told said (Lost_new why ∷ replies) kept x (Keeps change rest) h = (tt, tt)
under_said c me told said (Lost_old why ∷ replies) kept x (Keeps change rest) h = (tt, tt)
under_said c me told said replies kept x (Falls why) h = (h, tt)

boot_said : (c : Cluster) (me : ℕ) (told : Delivered) (said : Option Notice) (replies : List Reply) (kept : NodeRecord) → AreLosses replies → AllSaid c me told said (site Down kept) (cuts.boot_doings replies)
boot_said c me told said [] kept h = (tt, (tt, tt))
boot_said c me told said (Done ∷ replies) kept h = (tt, tt)
boot_said c me told said (Lost_new why ∷ replies) kept h = (tt, (loss_said me told None (up_with me (first_valid_of c me) kept) why h.0, tt))
boot_said c me told said (Lost_old why ∷ replies) kept h = (tt, (loss_said me told None (up_with me (first_valid_of c me) kept) why h.0, tt))

pub doings_said : (c : Cluster) (me now : ℕ) (ends : Outcome) (replies : List Reply) (i : Input) (kept : NodeRecord) (node : Node) → AreLosses replies
    → AllSaid c me (delivered_by i) None (site node kept) (cuts.doings c me now ends replies i node)
doings_said c me now ends replies i kept (Up x) h =
    under_said c me (delivered_by i) None replies kept x (cuts.course_at c me now ends x i) (tt, course_said c me (delivered_by i) None ends (at_second now x) i refl)
doings_said c me now ends replies Boot kept Down h = boot_said c me None None replies kept h
doings_said c me now ends replies Crash kept Down h = tt
doings_said c me now ends replies Tick kept Down h = tt
doings_said c me now ends replies (Packet from m) kept Down h = tt
doings_said c me now ends replies CommandDue kept Down h = tt
doings_said c me now ends replies (Answered a) kept Down h = tt
doings_said c me now ends replies (Wrote d value a) kept Down h = tt
doings_said c me now ends replies (Commanded words) kept Down h = tt
doings_said c me now ends replies (Reported r good) kept Down h = tt
doings_said c me now ends replies (Client name client port) kept Down h = tt
