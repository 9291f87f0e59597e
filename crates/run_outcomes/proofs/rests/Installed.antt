-- A node that has installed its session stays so while its attempt goes on, ends or starts.
use Rattle.std.specs.Prelude.{ℕ, ◌≡◌, ◌==◌, ◌&&◌, nat_le, true, List, [], ◌∷◌, Option, None, Some, is_some}
use Rattle.std.specs.Option.{unwrap_or}
use Rattle.std.proofs.Common.{sym, ◌∙◌}
use Rattle.cl_base.specs.Sets.{has}
use Rattle.cl_base.specs.declared.panic.Panic.TheVariants as panic
use Rattle.cmm_attempt.proofs.Basics.{and_cases, if_either, same_number}
use Rattle.cmm_attempt.specs.Attempts.{AttemptState, newest_installed}
use Rattle.cmm_attempt.specs.Calls.{Call, Own_ready, starts_in, turn}
use Rattle.cmm_attempt.specs.declared.step.AttemptEnd.{AttemptEnd}
use Rattle.cmm_attempt.specs.declared.step.Step.{Step}
use Rattle.cmm_attempt.specs.declared.step.Step.TheVariants as step
use Rattle.cmm_member.specs.Nodes.{NodeState}
use Rattle.device_queue.specs.Queue.{after_seize, joins}
use Rattle.node_model.specs.Attempts.{installs_now, left_out_by, resting, starts_now}
use Rattle.node_model.specs.Deciding.{may_order}
use Rattle.node_model.specs.Seats.{record_of}
use Rattle.node_model.specs.declared.cluster.Cluster.{Cluster}
use Rattle.node_model.specs.declared.node.UpNode.{UpNode}
use Rattle.node_model.specs.declared.presidency.Presidency.{Presidency}
use Rattle.node_model.specs.declared.seat.Seat.{Seat}
use Rattle.node_model.specs.declared.seat.Seat.TheVariants.{Forming, Member}
use Rattle.refinement.specs.Courses.{Course, joined}
use Rattle.refinement.specs.Courses.Course.{Acts, Falls, Keeps, Stops}
use Rattle.refinement.specs.Cuts as cuts
use Rattle.refinement.specs.Cuts.{deciding_course, if_started, steps_course, turned, writing}
use Rattle.refinement.specs.Doings.{changed, going}
use Rattle.refinement.specs.Doings.Act.{Makes}
use Rattle.refinement.specs.Doings.Change.{Counts, Starts}
use Rattle.run_downs.proofs.Courses.{by_test}
use Rattle.seize.specs.Seizing as seizing
use Rattle.seize.specs.declared.kind.SeizeKind.{SeizeKind}
use Rattle.status_report.specs.declared.node_entry.DownCause.TheVariants as down
use Rattle.wire.specs.declared.message.Body.TheVariants as body
use Rattle.wire.specs.declared.message.Install.{Install}
use Rattle.run_outcomes.specs.saves.Courses.{LeadsTo}
use Rattle.run_outcomes.proofs.saves.Rests.{leads_joined}
use Rattle.run_outcomes.proofs.rests.Left.{IsInstalled}

-- ---- by the changes of an attempt

pub counts_installed : (c : Cluster) (me : ℕ) (x : UpNode) (a : AttemptState) (k : Call) (s : NodeState) (i : Install) → installs_now s i ≡ true → IsInstalled (changed c me x (Counts a k s i))
counts_installed c me x a k s i now =
    let two : ((nat_le 1 i.epoch && (s.session == i.epoch)) ≡ true) × (_ ≡ true) = and_cases (nat_le 1 i.epoch && (s.session == i.epoch)) _ now in
    sym (same_number s.session i.epoch (and_cases (nat_le 1 i.epoch) (s.session == i.epoch) two.0).1)

pub starts_installed : (c : Cluster) (me : ℕ) (x : UpNode) (a : AttemptState) (k : Call) (s : NodeState) (e : ℕ) → starts_now s e ≡ true → IsInstalled (changed c me x (Starts a k s))
starts_installed c me x a k s e now =
    let two : ((nat_le 1 e && (s.session == e)) ≡ true) × ((s.saved.installed == e) ≡ true) = and_cases (nat_le 1 e && (s.session == e)) (s.saved.installed == e) now in
    same_number s.saved.installed e two.1 ∙ sym (same_number s.session e (and_cases (nat_le 1 e) (s.session == e) two.0).1)

-- ---- steps

module _ (c : Cluster) (me : ℕ) where
  excluded_installed : (x : UpNode) (e newest : ℕ) (o : Option ℕ) (steps : List Step) → IsInstalled x → ((y : UpNode) → IsInstalled y → LeadsTo c me IsInstalled y (steps_course c me y steps))
      → LeadsTo c me IsInstalled x (joined c me x (cuts.excluded_course me e newest o) (λ y. steps_course c me y steps))
  excluded_installed x e newest None steps h f = f x h
  excluded_installed x e newest (Some m) steps h f =
      if_either (λ (k : Course). LeadsTo c me IsInstalled x (joined c me x k (λ y. steps_course c me y steps))) (m == me) (Falls (down.Panic (panic.Excluded newest))) (writing m (body.Excluded e newest)) tt (f x h)

  ended_installed : (x : UpNode) (e : AttemptEnd) (o : Option AttemptState) (steps : List Step) → IsInstalled x → ((y : UpNode) → IsInstalled y → LeadsTo c me IsInstalled y (steps_course c me y steps))
      → LeadsTo c me IsInstalled x (joined c me x (cuts.ended_course me e o) (λ y. steps_course c me y steps))
  ended_installed x e None steps h f = f x h
  ended_installed x e (Some a) steps h f = excluded_installed (resting x) a.plan.epoch (unwrap_or (newest_installed a) 0) (left_out_by e) steps h f

  queued_installed : (x : UpNode) (d : ℕ) (kind : SeizeKind) (o : Option AttemptState) (steps : List Step) → IsInstalled x → ((y : UpNode) → IsInstalled y → LeadsTo c me IsInstalled y (steps_course c me y steps))
      → LeadsTo c me IsInstalled x (joined c me x (cuts.queued_course d kind o) (λ y. steps_course c me y steps))
  queued_installed x d kind None steps h f = f x h
  queued_installed x d kind (Some a) steps h f =
      let y : UpNode = record x { tasks = after_seize x.tasks d (seizing.begun kind a.plan.epoch a.plan.members me c.id (has (record_of x).valid d)) } in
      if_either (λ (z : UpNode). LeadsTo c me IsInstalled z (steps_course c me z steps)) (has a.plan.members me) y x (f y h) (f x h)

  pub steps_installed : (x : UpNode) (steps : List Step) → IsInstalled x → LeadsTo c me IsInstalled x (steps_course c me x steps)
  steps_installed x [] h = h
  steps_installed x (step.Send to m ∷ steps) h = steps_installed x steps h
  steps_installed x (step.NeedVotes n ∷ steps) h = steps_installed x steps h
  steps_installed x (step.InstallHere i ∷ steps) h = steps_installed x steps h
  steps_installed x (step.StartHere ∷ steps) h = steps_installed x steps h
  steps_installed x (step.SeizeHere d kind ∷ steps) h = queued_installed x d kind x.attempt steps h (λ y k. steps_installed y steps k)
  steps_installed x (step.Ended e ∷ steps) h = ended_installed x e x.attempt steps h (λ y k. steps_installed y steps k)

  -- ---- a turn

  gone_installed : (x : UpNode) (a : AttemptState) (k : Call) (steps : List Step) → IsInstalled x → LeadsTo c me IsInstalled x (cuts.gone_on c me x a k steps)
  gone_installed x a k steps h = steps_installed (going x a k) steps h

  counted_installed : (x : UpNode) (a : AttemptState) (k : Call) (i : Install) (rest : List Step) (seat : Seat) → IsInstalled x → LeadsTo c me IsInstalled x (cuts.counted c me x a k i rest seat)
  counted_installed x a k i rest (Member s) h = gone_installed x a k rest h
  counted_installed x a k i rest (Forming s) h =
      by_test (LeadsTo c me IsInstalled x) (installs_now s i) (Keeps (Counts a k s i) (steps_course c me (changed c me x (Counts a k s i)) rest)) (cuts.gone_on c me x a k rest)
      (λ now. steps_installed (changed c me x (Counts a k s i)) rest (counts_installed c me x a k s i now)) (λ no. gone_installed x a k rest h)

  pub started_by : (x : UpNode) (a : AttemptState) (k : Call) (rest : List Step) (s : NodeState) → starts_now s (turn a k).after.plan.epoch ≡ true
      → LeadsTo c me IsInstalled x (cuts.kept_if (is_some s.saved.entries.pending) (Starts a k s) (steps_course c me (changed c me x (Starts a k s)) rest))
  started_by x a k rest s now =
      let y : UpNode = changed c me x (Starts a k s) in
      let more : Course = steps_course c me y rest in
      let h : LeadsTo c me IsInstalled y more = steps_installed y rest (starts_installed c me x a k s (turn a k).after.plan.epoch now) in
      if_either (LeadsTo c me IsInstalled x) (is_some s.saved.entries.pending) (Keeps (Starts a k s) more) (Acts (Makes (Starts a k s)) more) h h

  started_installed : (x : UpNode) (a : AttemptState) (k : Call) (rest : List Step) (seat : Seat) → IsInstalled x → LeadsTo c me IsInstalled x (cuts.started c me x a k rest seat)
  started_installed x a k rest (Member s) h = gone_installed x a k rest h
  started_installed x a k rest (Forming s) h =
      by_test (LeadsTo c me IsInstalled x) (starts_now s (turn a k).after.plan.epoch) (cuts.kept_if (is_some s.saved.entries.pending) (Starts a k s) (steps_course c me (changed c me x (Starts a k s)) rest)) (cuts.gone_on c me x a k rest)
      (λ now. started_by x a k rest s now) (λ no. gone_installed x a k rest h)

  turned_installed : (x : UpNode) (a : AttemptState) (k : Call) (steps : List Step) → IsInstalled x → LeadsTo c me IsInstalled x (cuts.turned_by c me x a k steps)
  turned_installed x a k [] h = gone_installed x a k [] h
  turned_installed x a k (step.InstallHere i ∷ rest) h = counted_installed x a k i rest x.seat h
  turned_installed x a k (step.StartHere ∷ rest) h = started_installed x a k rest x.seat h
  turned_installed x a k (step.Send to m ∷ rest) h = gone_installed x a k (step.Send to m ∷ rest) h
  turned_installed x a k (step.SeizeHere d kind ∷ rest) h = gone_installed x a k (step.SeizeHere d kind ∷ rest) h
  turned_installed x a k (step.NeedVotes m ∷ rest) h = gone_installed x a k (step.NeedVotes m ∷ rest) h
  turned_installed x a k (step.Ended e ∷ rest) h = gone_installed x a k (step.Ended e ∷ rest) h

  deciding_by_installed : (x : UpNode) (o : Option Presidency) → IsInstalled x → LeadsTo c me IsInstalled x (cuts.deciding_by_course c me x o)
  deciding_by_installed x None h = h
  deciding_by_installed x (Some p) h = if_either (LeadsTo c me IsInstalled x) (may_order p.groups) _ Stops h h

  pub if_started_installed : (x : UpNode) (steps : List Step) → IsInstalled x → LeadsTo c me IsInstalled x (if_started c me steps x)
  if_started_installed x steps h = if_either (LeadsTo c me IsInstalled x) (starts_in steps) (deciding_course c me x) Stops (deciding_by_installed x x.presidency h) h

  turned_all_installed : (x : UpNode) (a : AttemptState) (k : Call) → IsInstalled x → LeadsTo c me IsInstalled x (cuts.turned_all c me x a k)
  turned_all_installed x a k h =
      leads_joined c me IsInstalled IsInstalled x (turned c me x a k) (if_started c me (turn a k).steps) (turned_installed x a k (turn a k).steps h) (λ y i. if_started_installed y (turn a k).steps i)

  readied_installed : (x : UpNode) (o : Option AttemptState) → IsInstalled x → LeadsTo c me IsInstalled x (cuts.readied_course c me x o)
  readied_installed x None h = h
  readied_installed x (Some a) h = turned_all_installed x a Own_ready h

  pub own_ready_installed : (x : UpNode) → IsInstalled x → LeadsTo c me IsInstalled x (cuts.own_ready_course c me x)
  own_ready_installed x h = if_either (LeadsTo c me IsInstalled x) (joins x.tasks) Stops (cuts.readied_course c me x x.attempt) h (readied_installed x x.attempt h)
