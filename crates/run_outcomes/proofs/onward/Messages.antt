-- What a message that comes to a coordinator makes of its attempt and its tasks, and that no line changes these.
use Rattle.std.specs.Prelude.{ℕ, ◌≡◌, ◌⊎◌, ◌++◌, ◌==◌, Bool, true, false, List, [], Option, None, Some, if◌then◌else◌}
use Rattle.std.proofs.Common.{refl, inl, inr}
use Rattle.cl_base.specs.Seizings.{SeizeResult}
use Rattle.cl_base.specs.declared.method.Outcome as method
use Rattle.cl_base.specs.declared.seizing.SeizeEnd.TheVariants as seized
use Rattle.cmm_attempt.proofs.Basics.{if_either}
use Rattle.cmm_attempt.specs.Attempts.{AttemptState}
use Rattle.cmm_attempt.specs.Calls.{Call, Take}
use Rattle.device_queue.specs.Queue.{joins, kept_of}
use Rattle.device_queue.specs.declared.task.Task.{Task}
use Rattle.node_model.specs.Members.{hearing, is_foreign, ready_of}
use Rattle.node_model.specs.Seats.{installed_of, is_in, record_of}
use Rattle.node_model.specs.declared.cluster.Cluster.{Cluster}
use Rattle.node_model.specs.declared.node.UpNode.{UpNode}
use Rattle.node_model.specs.declared.output.Output.{Output}
use Rattle.node_model.specs.declared.seat.Seat.{Seat}
use Rattle.node_model.specs.declared.seat.Seat.TheVariants.{Forming, Member}
use Rattle.refinement.specs.Courses.{Course}
use Rattle.refinement.specs.Courses.Course.{Acts, Keeps, Stops}
use Rattle.refinement.specs.Cuts as cuts
use Rattle.refinement.specs.Cuts.{writing}
use Rattle.refinement.specs.Doings.{accepting, changed}
use Rattle.refinement.specs.Doings.Act.{Accepts, Hears}
use Rattle.refinement.specs.Doings.Change.{Installs}
use Rattle.run_history.proofs.Lists.{both}
use Rattle.seize.specs.declared.kind.SeizeKind.{SeizeKind}
use Rattle.seize.specs.declared.kind.SeizeKind.TheVariants.{Plain, Vote}
use Rattle.wire.specs.declared.message.Body.{Body}
use Rattle.wire.specs.declared.message.Body.TheVariants as body
use Rattle.wire.specs.declared.message.Install.{Install}
use Rattle.wire.specs.declared.message.Message.{Message}
use Rattle.run_outcomes.specs.phases.Kept.{In}
use Rattle.run_outcomes.specs.phases.Laws.{is_seizing}
use Rattle.run_outcomes.specs.saves.Courses.{LeadsTo}
use Rattle.run_outcomes.specs.tasks.Onward.{AreStill, ByEither, GoesOut, IsStill, Onward, OnwardOf}
use Rattle.run_outcomes.proofs.own_tasks.Beside.{beside_left}
use Rattle.run_outcomes.proofs.phases.Leading.{Has}
use Rattle.run_outcomes.proofs.onward.Beside.{left_out}
use Rattle.run_outcomes.proofs.onward.Calls.{finished_onward, going_out, onward_by}
use Rattle.run_outcomes.proofs.onward.Finals.{Finished}
use Rattle.run_outcomes.proofs.onward.Given.{out_by, out_leads}

-- the attempt and the tasks are those of the node, or its attempt took the call
abbrev pub Took : Cluster → ℕ → UpNode → Call → AttemptState → List Task → Type 0
Took c n x k b ts = ((x.attempt ≡ Some b) × (ts ≡ x.tasks)) ⊎ ((a : AttemptState) × (x.attempt ≡ Some a) × ByEither c n (record_of x).valid a k x.tasks b ts)

pub onward_start : (c : Cluster) (n : ℕ) (x : UpNode) (k : Call) (os : List Output) → AreStill n os → Onward n (Took c n x k) x os
onward_start c n x k os still = by_attempt x.attempt refl
  where
    by_attempt : (o : Option AttemptState) → x.attempt ≡ o → In (OnwardOf n (Took c n x k) x.tasks os) o
    by_attempt None at = tt
    by_attempt (Some b) at = λ is. (still, inl (at, refl))

pub call_out : (c : Cluster) (n : ℕ) (x : UpNode) (os : List Output) (a : AttemptState) (k : Call) → x.attempt ≡ Some a → AreStill n os → GoesOut c n (Onward n (Took c n x k)) x os (cuts.going_course c n x a k)
call_out c n x os a k at still =
    out_by c n (Onward n (ByEither c n (record_of x).valid a k x.tasks)) (Onward n (Took c n x k)) x os (cuts.going_course c n x a k)
    (λ y more h. onward_by n (ByEither c n (record_of x).valid a k x.tasks) (Took c n x k) y more (λ b ts r. inr (a, at, r)) h) (going_out c n x os a k still)

-- ---- what is known of a message

-- a request to seize asks a coordinator for nothing new; and what it coordinates is installed by nobody before it
abbrev pub KeepsTasks : Cluster → ℕ → UpNode → Body → Type 0
KeepsTasks c n x (body.SeizeQuorum e members d) = is_in x e ≡ true → In (λ a. is_seizing a.phase ≡ true → (accepting c n x Vote e members d).tasks ≡ x.tasks) x.attempt
KeepsTasks c n x (body.SeizeData e members d) = is_in x e ≡ true → In (λ a. is_seizing a.phase ≡ true → (accepting c n x Plain e members d).tasks ≡ x.tasks) x.attempt
KeepsTasks c n x (body.Install i) = is_in x i.epoch ≡ true → Has Finished x
KeepsTasks c n x _ = Unit {0}

module _ (c : Cluster) (n : ℕ) (x : UpNode) (from : ℕ) (m : Message) where
  abbrev J : UpNode → List Output → Type 0
  J y os = Onward n (Took c n x (Take from m)) y os

  start : (os : List Output) → AreStill n os → J x os
  start os still = onward_start c n x (Take from m) os still

  answer_out : (os : List Output) (o : Option AttemptState) → x.attempt ≡ o → AreStill n os → GoesOut c n J x os (cuts.answer_course c n x from m o)
  answer_out os None at still = start os still
  answer_out os (Some a) at still = call_out c n x os a (Take from m) at still

  accepted : (os : List Output) (kind : SeizeKind) (e members d : ℕ) → In (λ a. is_seizing a.phase ≡ true → (accepting c n x kind e members d).tasks ≡ x.tasks) x.attempt → AreStill n os
      → J (accepting c n x kind e members d) os
  accepted os kind e members d same still = by_attempt x.attempt refl same
    where
      by_attempt : (o : Option AttemptState) → x.attempt ≡ o → In (λ a. is_seizing a.phase ≡ true → (accepting c n x kind e members d).tasks ≡ x.tasks) o
          → In (OnwardOf n (Took c n x (Take from m)) (accepting c n x kind e members d).tasks os) o
      by_attempt None at h = tt
      by_attempt (Some b) at h = λ is. (still, inl (at, h is))

  request_out : (os : List Output) (kind : SeizeKind) (e members d : ℕ) (o : Option SeizeResult) → In (λ a. is_seizing a.phase ≡ true → (accepting c n x kind e members d).tasks ≡ x.tasks) x.attempt → AreStill n os
      → GoesOut c n J x os (cuts.request_course x from kind e members d o)
  request_out os kind e members d (Some result) same still = λ so. start (os ++ _) (both (IsStill n) os _ still (tt, tt))
  request_out os kind e members d None same still =
      if_either (GoesOut c n J x os) (installed_of x == e) (writing from (body.Seized e d seized.Fault)) (Acts (Accepts kind e members d) Stops) (λ so. start (os ++ _) (both (IsStill n) os _ still (tt, tt)))
      (λ so. accepted (os ++ []) kind e members d same (both (IsStill n) os [] still tt))

  if_so : (os : List Output) (b : Bool) (k l : Course) → (b ≡ true → GoesOut c n J x os k) → GoesOut c n J x os l → GoesOut c n J x os (if b then k else l)
  if_so os true k l f h = f refl
  if_so os false k l f h = h

  asked_out : (os : List Output) (kind : SeizeKind) (e members d : ℕ) → (is_in x e ≡ true → In (λ a. is_seizing a.phase ≡ true → (accepting c n x kind e members d).tasks ≡ x.tasks) x.attempt) → AreStill n os
      → GoesOut c n J x os (cuts.seizing_course x from kind e members d)
  asked_out os kind e members d same still =
      if_so os (is_in x e) (cuts.request_course x from kind e members d (kept_of x.tasks d)) Stops (λ is. request_out os kind e members d (kept_of x.tasks d) (same is) still) (start os still)

  readying_leads : (y z : UpNode) (to : ℕ) → Has Finished y → LeadsTo c n (Has Finished) y (cuts.readying_course c z to)
  readying_leads y z to h = if_either (LeadsTo c n (Has Finished) y) (joins z.tasks) Stops (writing to (ready_of c z)) h h

  installed_leads : (i : Install) (seat : Seat) → Has Finished x → LeadsTo c n (Has Finished) x (cuts.installed_course c n x from i seat)
  installed_leads i (Member s) h = readying_leads x x from h
  installed_leads i (Forming s) h =
      if_either (LeadsTo c n (Has Finished) x) (s.saved.installed == i.epoch) (cuts.readying_course c x from) (Keeps (Installs s i) (cuts.readying_course c (changed c n x (Installs s i)) from)) (readying_leads x x from h)
      (readying_leads (changed c n x (Installs s i)) (changed c n x (Installs s i)) from h)

  install_out : (os : List Output) (i : Install) → (is_in x i.epoch ≡ true → Has Finished x) → AreStill n os → GoesOut c n J x os (cuts.install_course c n x from i)
  install_out os i over still =
      if_so os (is_in x i.epoch) (cuts.installed_course c n x from i x.seat) (writing from (body.Nack i.epoch _))
      (λ is.
      out_leads c n (Has Finished) J x os (cuts.installed_course c n x from i x.seat) (λ y more h. finished_onward n (Took c n x (Take from m)) y more h) (installed_leads i x.seat (over is)))
      (λ so. start (os ++ _) (both (IsStill n) os _ still (tt, tt)))

  pub body_out : (ends : method.Outcome) (os : List Output) (b : Body) → KeepsTasks c n x b → AreStill n os → GoesOut c n J x os (cuts.body_course c n ends x from m b)
  body_out ends os (body.Promise e installed members valid flagged committed pending) so still = answer_out os x.attempt refl still
  body_out ends os (body.Nack e promised) so still = answer_out os x.attempt refl still
  body_out ends os (body.Seized e d r) so still = answer_out os x.attempt refl still
  body_out ends os (body.Ready e devices told) so still = answer_out os x.attempt refl still
  body_out ends os (body.SeizeQuorum e members d) so still = asked_out os Vote e members d so still
  body_out ends os (body.SeizeData e members d) so still = asked_out os Plain e members d so still
  body_out ends os (body.Install i) so still = install_out os i so still
  body_out ends os (body.Heartbeat promised session member) so still = let b : Body = body.Heartbeat promised session member in left_out c n (Took c n x (Take from m)) x os (cuts.body_course c n ends x from m b) (beside_left c n ends x from m b tt) (start os still)
  body_out ends os (body.Collect p members) so still = let b : Body = body.Collect p members in left_out c n (Took c n x (Take from m)) x os (cuts.body_course c n ends x from m b) (beside_left c n ends x from m b tt) (start os still)
  body_out ends os (body.Start e) so still = let b : Body = body.Start e in left_out c n (Took c n x (Take from m)) x os (cuts.body_course c n ends x from m b) (beside_left c n ends x from m b tt) (start os still)
  body_out ends os (body.Excluded e newest) so still = let b : Body = body.Excluded e newest in left_out c n (Took c n x (Take from m)) x os (cuts.body_course c n ends x from m b) (beside_left c n ends x from m b tt) (start os still)
  body_out ends os (body.Prepare e place text) so still = let b : Body = body.Prepare e place text in left_out c n (Took c n x (Take from m)) x os (cuts.body_course c n ends x from m b) (beside_left c n ends x from m b tt) (start os still)
  body_out ends os (body.Prepared e place) so still = let b : Body = body.Prepared e place in left_out c n (Took c n x (Take from m)) x os (cuts.body_course c n ends x from m b) (beside_left c n ends x from m b tt) (start os still)
  body_out ends os (body.Commit e place) so still = let b : Body = body.Commit e place in left_out c n (Took c n x (Take from m)) x os (cuts.body_course c n ends x from m b) (beside_left c n ends x from m b tt) (start os still)
  body_out ends os (body.Order o) so still = let b : Body = body.Order o in left_out c n (Took c n x (Take from m)) x os (cuts.body_course c n ends x from m b) (beside_left c n ends x from m b tt) (start os still)
  body_out ends os (body.Done e number ended) so still = let b : Body = body.Done e number ended in left_out c n (Took c n x (Take from m)) x os (cuts.body_course c n ends x from m b) (beside_left c n ends x from m b tt) (start os still)
  body_out ends os (body.Request e number text) so still = let b : Body = body.Request e number text in left_out c n (Took c n x (Take from m)) x os (cuts.body_course c n ends x from m b) (beside_left c n ends x from m b tt) (start os still)
  body_out ends os (body.Answer e number text) so still = let b : Body = body.Answer e number text in left_out c n (Took c n x (Take from m)) x os (cuts.body_course c n ends x from m b) (beside_left c n ends x from m b tt) (start os still)

-- what comes in a packet; nothing of an attempt, a task, or the devices in the record is changed as it is heard
pub packet_out : (c : Cluster) (n : ℕ) (ends : method.Outcome) (x : UpNode) (from : ℕ) (m : Message) → KeepsTasks c n (hearing x from m.body) m.body
    → GoesOut c n (Onward n (Took c n x (Take from m))) x [] (cuts.packet_course c n ends x from m)
packet_out c n ends x from m so =
    if_either (GoesOut c n (Onward n (Took c n x (Take from m))) x []) (is_foreign c n x m.body) Stops (Acts (Hears from m.body) (cuts.body_course c n ends (hearing x from m.body) from m m.body))
    (onward_start c n x (Take from m) [] tt) (λ is. body_out c n (hearing x from m.body) from m ends [] m.body so tt)
