-- Whatever comes to a node, its attempt has sent what its state has.
use Rattle.std.specs.Prelude.{ℕ, ◌==◌, ◌++◌, false, List, Option, None, Some, Ok}
use Rattle.std.proofs.Common.{refl}
use Rattle.attempt_laws.specs.Asking.{AreApart, numbers_of}
use Rattle.ccr_tables.specs.State.{ConfigState}
use Rattle.ccr_tables.specs.declared.address.Address.{Address}
use Rattle.cl_base.specs.Seizings.{SeizeResult}
use Rattle.cl_base.specs.Sets.{has}
use Rattle.cl_base.specs.declared.method.Outcome as method
use Rattle.cl_base.specs.declared.seizing.SeizeEnd.TheVariants as seized
use Rattle.cmm_attempt.proofs.Basics.{if_either}
use Rattle.cmm_attempt.specs.Attempts.{AttemptState}
use Rattle.cmm_attempt.specs.Calls.{Own_seized, Take}
use Rattle.device_queue.specs.Queue.{begins_plainly, due_device, kept_of, next_of, progress_after}
use Rattle.device_queue.specs.declared.progress.Progress.{Progress}
use Rattle.device_queue.specs.declared.progress.Progress.TheVariants.{GoesOn, Joined, Seized}
use Rattle.node_model.specs.Configurations.{in_force}
use Rattle.node_model.specs.Devices.{joining_so}
use Rattle.node_model.specs.Members.{hearing, is_foreign}
use Rattle.node_model.specs.Seats.{coordinator_of, installed_of, is_in, record_of, session_of}
use Rattle.node_model.specs.Steps.{at_second}
use Rattle.node_model.specs.Ticks.{later}
use Rattle.node_model.specs.declared.cluster.Cluster.{Cluster}
use Rattle.node_model.specs.declared.input.Input.{Input}
use Rattle.node_model.specs.declared.input.Input.TheVariants.{Answered, Boot, Client, CommandDue, Commanded, Crash, Packet, Reported, Tick, Wrote}
use Rattle.node_model.specs.declared.node.UpNode.{UpNode}
use Rattle.node_model.specs.declared.presidency.Presidency.{Presidency}
use Rattle.pgr_device.specs.declared.command.PrAnswer.TheVariants as given
use Rattle.pgr_device.specs.declared.command.PrCommand.{PrCommand}
use Rattle.refinement.specs.Courses.{Course}
use Rattle.refinement.specs.Courses.Course.{Acts, Keeps, Stops}
use Rattle.refinement.specs.Cuts as cuts
use Rattle.refinement.specs.Cuts.{course_at, course_of, writing}
use Rattle.refinement.specs.Doings.{answered_so, first_lines, said, saved_lines}
use Rattle.refinement.specs.Doings.Act.{Accepts, Hears, Stores, Takes, Ticks}
use Rattle.refinement.specs.Doings.Change.{Admits, Distrusts}
use Rattle.rg_props.specs.Lookups.{named}
use Rattle.run_attempts.proofs.Staid.{governing_staid}
use Rattle.run_downs.proofs.Proposing.{command_p, report_p}
use Rattle.run_history.proofs.QuietCourses.{IsOther, client, command, governing, other, readying, report}
use Rattle.seize.specs.Answers.{Answer}
use Rattle.seize.specs.declared.kind.JoinResult.{JoinResult}
use Rattle.seize.specs.declared.kind.JoinResult.TheVariants as join
use Rattle.seize.specs.declared.kind.SeizeKind.{SeizeKind}
use Rattle.seize.specs.declared.kind.SeizeKind.TheVariants.{Plain, Vote}
use Rattle.wire.specs.declared.message.Body.{Body}
use Rattle.wire.specs.declared.message.Body.TheVariants as body
use Rattle.wire.specs.declared.message.Message.{Message}
use Rattle.run_outcomes.specs.phases.Kept.{In}
use Rattle.run_outcomes.specs.saves.Courses.{Leaves}
use Rattle.run_outcomes.specs.silence.Asked.{HandTold, InputTold}
use Rattle.run_outcomes.specs.Mute.{GivesPlainly, GoesTo, Mute}
use Rattle.run_outcomes.specs.silence.AskedCourses.{AttemptTold, HasTold, Tally, then_given}
use Rattle.run_outcomes.proofs.silence.Leading.{going_told, own_ready_told, ticked_told}
use Rattle.run_outcomes.proofs.Mute.{goes_if, goes_joined, plain_first, quiet_mute}
use Rattle.run_outcomes.proofs.silence.Quiet.{act_told, change_told, silent_goes}
use Rattle.run_outcomes.proofs.phases.LiveSteps.{staid_leaves}
use Rattle.run_outcomes.proofs.phases.Steps.{other_l, seizing_l}
use Rattle.run_outcomes.proofs.saves.Beside.{no_leads, quiet_leaves, readying_no}

-- ---- a request to seize

request_mute : (x : UpNode) (from : ℕ) (kind : SeizeKind) (e members d : ℕ) (o : Option SeizeResult) → Mute (cuts.request_course x from kind e members d o)
request_mute x from kind e members d (Some result) = (tt, tt)
request_mute x from kind e members d None = if_either Mute (installed_of x == e) (writing from (body.Seized e d seized.Fault)) (Acts (Accepts kind e members d) Stops) (tt, tt) (tt, tt)

seizing_mute : (x : UpNode) (from : ℕ) (kind : SeizeKind) (e members d : ℕ) → Mute (cuts.seizing_course x from kind e members d)
seizing_mute x from kind e members d = if_either Mute (is_in x e) (cuts.request_course x from kind e members d (kept_of x.tasks d)) Stops (request_mute x from kind e members d (kept_of x.tasks d)) tt

-- ---- a client's request

serving_at_leaves : (s : ConfigState) (x : UpNode) (p : Presidency) (name : List ℕ) (number port : ℕ) (o : Option Address) → Leaves (cuts.serving_at_course s x p name number port o)
serving_at_leaves s x p name number port None = tt
serving_at_leaves s x p name number port (Some a) = (tt, (tt, tt))

serving_leaves : (c : Cluster) (x : UpNode) (name : List ℕ) (number port : ℕ) (o : Option Presidency) → Leaves (cuts.serving_by_course c x name number port o)
serving_leaves c x name number port None = tt
serving_leaves c x name number port (Some p) = serving_at_leaves (in_force c x) x p name number port (named (in_force c x).addresses name)

module _ (c : Cluster) (me : ℕ) (apart : AreApart (numbers_of c.attached)) where
  abbrev Goes : UpNode → Tally → Course → Type 0
  Goes x g k = GoesTo then_given c me HasTold x g k

  -- ---- messages

  answer_told : (x : UpNode) (g : Tally) (from : ℕ) (m : Message) (o : Option AttemptState) → In (λ a. HandTold g a.plan.epoch from m.body) o → GivesPlainly (cuts.answer_course c me x from m o) → In (AttemptTold g) o → HasTold x g → Goes x g (cuts.answer_course c me x from m o)
  answer_told x g from m None hand plain here h = h
  answer_told x g from m (Some a) hand plain here h = going_told c me x g a (Take from m) tt hand plain here

  seizing_told : (x : UpNode) (g : Tally) (from : ℕ) (kind : SeizeKind) (e members d : ℕ) → GivesPlainly (cuts.seizing_course x from kind e members d) → HasTold x g → Goes x g (cuts.seizing_course x from kind e members d)
  seizing_told x g from kind e members d plain h = silent_goes c me x g (cuts.seizing_course x from kind e members d) (seizing_l x from kind e members d) (seizing_mute x from kind e members d) plain h

  other_told : (ends : method.Outcome) (x : UpNode) (g : Tally) (from : ℕ) (m : Message) (b : Body) → IsOther b → GivesPlainly (cuts.body_course c me ends x from m b) → HasTold x g → Goes x g (cuts.body_course c me ends x from m b)
  other_told ends x g from m b is plain h = silent_goes c me x g (cuts.body_course c me ends x from m b) (other_l c me ends x from m b is) (quiet_mute (cuts.body_course c me ends x from m b) (other c me ends x from m b is)) plain h

  body_told : (ends : method.Outcome) (x : UpNode) (g : Tally) (from : ℕ) (m : Message) (b : Body) → In (λ a. HandTold g a.plan.epoch from m.body) x.attempt → GivesPlainly (cuts.body_course c me ends x from m b) → HasTold x g → Goes x g (cuts.body_course c me ends x from m b)
  body_told ends x g from m (body.Promise e installed members valid flagged committed pending) hand plain h = answer_told x g from m x.attempt hand plain h h
  body_told ends x g from m (body.Nack e promised) hand plain h = answer_told x g from m x.attempt hand plain h h
  body_told ends x g from m (body.Seized e d ended) hand plain h = answer_told x g from m x.attempt hand plain h h
  body_told ends x g from m (body.Ready e devices told) hand plain h = answer_told x g from m x.attempt hand plain h h
  body_told ends x g from m (body.SeizeQuorum e members d) hand plain h = seizing_told x g from Vote e members d plain h
  body_told ends x g from m (body.SeizeData e members d) hand plain h = seizing_told x g from Plain e members d plain h
  body_told ends x g from m (body.Heartbeat promised session member) hand plain h = other_told ends x g from m (body.Heartbeat promised session member) tt plain h
  body_told ends x g from m (body.Collect p members) hand plain h = other_told ends x g from m (body.Collect p members) tt plain h
  body_told ends x g from m (body.Install i) hand plain h = other_told ends x g from m (body.Install i) tt plain h
  body_told ends x g from m (body.Start e) hand plain h = other_told ends x g from m (body.Start e) tt plain h
  body_told ends x g from m (body.Excluded e newest) hand plain h = other_told ends x g from m (body.Excluded e newest) tt plain h
  body_told ends x g from m (body.Prepare e place text) hand plain h = other_told ends x g from m (body.Prepare e place text) tt plain h
  body_told ends x g from m (body.Prepared e place) hand plain h = other_told ends x g from m (body.Prepared e place) tt plain h
  body_told ends x g from m (body.Commit e place) hand plain h = other_told ends x g from m (body.Commit e place) tt plain h
  body_told ends x g from m (body.Order o) hand plain h = other_told ends x g from m (body.Order o) tt plain h
  body_told ends x g from m (body.Done e number ended) hand plain h = other_told ends x g from m (body.Done e number ended) tt plain h
  body_told ends x g from m (body.Request e number text) hand plain h = other_told ends x g from m (body.Request e number text) tt plain h
  body_told ends x g from m (body.Answer e number text) hand plain h = other_told ends x g from m (body.Answer e number text) tt plain h

  -- ---- an answer of a device

  own_seized_told : (x : UpNode) (g : Tally) (d : ℕ) (r : SeizeResult) (o : Option AttemptState) → GivesPlainly (cuts.own_seized_course c me x d r o) → In (AttemptTold g) o → HasTold x g → Goes x g (cuts.own_seized_course c me x d r o)
  own_seized_told x g d r None plain here h = h
  own_seized_told x g d r (Some a) plain here h = going_told c me x g a (Own_seized d r) tt tt plain here

  seized_told : (x : UpNode) (g : Tally) (d : ℕ) (r : SeizeResult) (o : Option ℕ) → GivesPlainly (cuts.seized_course c me x d r o) → HasTold x g → Goes x g (cuts.seized_course c me x d r o)
  seized_told x g d r None plain h = h
  seized_told x g d r (Some k) plain h =
      goes_if then_given c me HasTold x g (k == me) (cuts.own_seized_course c me x d r x.attempt) (writing k (body.Seized (session_of x) d r)) plain
      (λ _ more. own_seized_told x g d r x.attempt more h h) (λ _ more. silent_goes c me x g (writing k (body.Seized (session_of x) d r)) (tt, tt) (tt, tt) more h)

  joined_told : (x : UpNode) (g : Tally) (o : Option ℕ) → GivesPlainly (cuts.joined_course c me x o) → HasTold x g → Goes x g (cuts.joined_course c me x o)
  joined_told x g None plain h = h
  joined_told x g (Some k) plain h =
      goes_if then_given c me HasTold x g (k == me) (cuts.own_ready_course c me x) (cuts.readying_course c x k) plain (λ _ more. own_ready_told c me x g more h)
      (λ _ more. silent_goes c me x g (cuts.readying_course c x k) (quiet_leaves (cuts.readying_course c x k) (readying c x k) (readying_no c x k)) (quiet_mute (cuts.readying_course c x k) (readying c x k)) more h)

  joining_told : (x : UpNode) (g : Tally) (at : ℕ) (k : PrCommand) (a : Answer) (d : ℕ) (r : JoinResult) → GivesPlainly (cuts.joining_course c me x at k a d r) → HasTold x g → Goes x g (cuts.joining_course c me x at k a d r)
  joining_told x g at k a d join.Joined plain h =
      let y : UpNode = joining_so (answered_so x a) d in
      joined_told y (then_given g (first_lines me (Admits at k a d) ++ saved_lines c me x (Admits at k a d))) (coordinator_of y) plain (change_told c me x g (Admits at k a d) tt h)
  joining_told x g at k a d (join.Late w) plain h = let y : UpNode = answered_so x a in joined_told y (then_given g (said c me x (Takes at k a))) (coordinator_of y) plain.1 (act_told c me x g (Takes at k a) tt tt tt h)
  joining_told x g at k a d join.Fault plain h = let y : UpNode = answered_so x a in joined_told y (then_given g (said c me x (Takes at k a))) (coordinator_of y) plain.1 (act_told c me x g (Takes at k a) tt tt tt h)

  progress_told : (x : UpNode) (g : Tally) (at : ℕ) (k : PrCommand) (a : Answer) (p : Progress) → GivesPlainly (cuts.progress_course c me x at k a p) → HasTold x g → Goes x g (cuts.progress_course c me x at k a p)
  progress_told x g at k a GoesOn plain h = act_told c me x g (Takes at k a) tt tt tt h
  progress_told x g at k a (Seized d r) plain h = let y : UpNode = answered_so x a in seized_told y (then_given g (said c me x (Takes at k a))) d r (coordinator_of y) plain.1 (act_told c me x g (Takes at k a) tt tt tt h)
  progress_told x g at k a (Joined d r) plain h = joining_told x g at k a d r plain h

  answered_told : (x : UpNode) (g : Tally) (a : Answer) (o : Option ℕ) (k : Option PrCommand) → GivesPlainly (cuts.answered_course c me x a o k) → HasTold x g → Goes x g (cuts.answered_course c me x a o k)
  answered_told x g a None k plain h = h
  answered_told x g a (Some d) None plain h = h
  answered_told x g a (Some d) (Some k) plain h = progress_told x g d k a (progress_after x.tasks a) plain h

  distrusting_told : (x : UpNode) (g : Tally) (o : Option ℕ) → GivesPlainly (cuts.distrusting_course x o) → HasTold x g → Goes x g (cuts.distrusting_course x o)
  distrusting_told x g None plain h = h
  distrusting_told x g (Some d) plain h = goes_if then_given c me HasTold x g (has (record_of x).valid d) (Keeps (Distrusts d) Stops) Stops plain (λ _ _. change_told c me x g (Distrusts d) tt h) (λ _ _. h)

  fenced_told : (x : UpNode) (g : Tally) (d : ℕ) (a : Answer) → HasTold x g → Goes x g (cuts.fenced_course d a)
  fenced_told x g d (Ok given.Good) h = h
  fenced_told x g d (Ok given.Conflict) h = tt
  fenced_told x g d _ h = h

  -- ---- each input

  input_told : (ends : method.Outcome) (x : UpNode) (g : Tally) (i : Input) → InputTold g x.attempt i → GivesPlainly (course_of c me ends x i) → HasTold x g → Goes x g (course_of c me ends x i)
  input_told ends x g Boot hand plain h = h
  input_told ends x g Crash hand plain h = tt
  input_told ends x g Tick hand plain h =
      let y : UpNode = later c x in
      let f : Tally = then_given g (said c me x Ticks) in
      let k : Course = cuts.governing_course c me ends x y in
      goes_joined then_given c me HasTold HasTold y f k (λ z. cuts.ticked_course c me z z.attempt) plain.1
      (silent_goes c me y f k (staid_leaves k (governing_staid c me ends x y) (governing c me ends x y)) (quiet_mute k (governing c me ends x y)) (plain_first c me y k (λ z. cuts.ticked_course c me z z.attempt) plain.1) (act_told c me x g Ticks tt tt tt h))
      (λ z r told left. ticked_told c me z r z.attempt refl apart left told)
  input_told ends x g (Packet from m) hand plain h =
      let y : UpNode = hearing x from m.body in
      goes_if then_given c me HasTold x g (is_foreign c me x m.body) Stops (Acts (Hears from m.body) (cuts.body_course c me ends y from m m.body)) plain (λ _ _. h)
      (λ _ more. body_told ends y (then_given g (said c me x (Hears from m.body))) from m m.body hand more.1 (act_told c me x g (Hears from m.body) tt tt tt h))
  input_told ends x g CommandDue hand plain h = distrusting_told x g (begins_plainly x.tasks) plain h
  input_told ends x g (Answered a) hand plain h = answered_told x g a (due_device x.tasks) (next_of x.tasks) plain h
  input_told ends x g (Wrote d value a) hand plain h = fenced_told x (then_given g (said c me x (Stores d value a))) d a (act_told c me x g (Stores d value a) tt tt tt h)
  input_told ends x g (Commanded words) hand plain h =
      let k : Course = cuts.command_course c me x words in
      silent_goes c me x g k (quiet_leaves k (command c me x words) (no_leads false k (command_p false c me x words))) (quiet_mute k (command c me x words)) plain h
  input_told ends x g (Reported r good) hand plain h =
      let k : Course = cuts.report_course c me x r good in
      silent_goes c me x g k (quiet_leaves k (report c me x r good) (no_leads false k (report_p false c me x r good))) (quiet_mute k (report c me x r good)) plain h
  input_told ends x g (Client name number port) hand plain h =
      let k : Course = cuts.client_course c x name number port in
      silent_goes c me x g k (serving_leaves c x name number port x.presidency) (quiet_mute k (client c x name number port)) plain h

  pub course_told : (now : ℕ) (ends : method.Outcome) (x : UpNode) (g : Tally) (i : Input) → InputTold g x.attempt i → GivesPlainly (course_at c me now ends x i) → HasTold x g → Goes x g (course_at c me now ends x i)
  course_told now ends x g i hand plain h = input_told ends (at_second now x) g i hand plain.1 h
