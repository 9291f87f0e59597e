-- What the answer to a command at a device leaves of the tasks of a node that has no attempt after it.
use Rattle.std.specs.Prelude.{ℕ, ◌≡◌, ◌==◌, ◌++◌, false, List, [], ◌∷◌, Option, None, Some}
use Rattle.std.proofs.Common.{refl, sym, ap, subst, ◌∙◌, append-nil}
use Rattle.attempt_laws.proofs.Stays.{plan_stays}
use Rattle.attempt_laws.specs.Laws.{HasCause}
use Rattle.cl_base.specs.Seizings.{SeizeResult}
use Rattle.cmm_attempt.proofs.Basics.{false_true, if_either}
use Rattle.cmm_attempt.specs.Attempts.{AttemptState}
use Rattle.cmm_attempt.specs.Calls.{Own_ready, Own_seized, turn}
use Rattle.cmm_attempt.specs.declared.plan.Plan.{Plan}
use Rattle.cmm_attempt.specs.declared.step.AttemptEnd.{AttemptEnd}
use Rattle.cmm_attempt.specs.declared.step.AttemptEnd.TheVariants as end
use Rattle.device_queue.specs.Queue.{joins, progress_after}
use Rattle.device_queue.specs.declared.progress.Progress.{Progress}
use Rattle.device_queue.specs.declared.progress.Progress.TheVariants.{GoesOn, Joined, Seized}
use Rattle.device_queue.specs.declared.task.Task.{Task}
use Rattle.history.specs.Setting.{coordinator}
use Rattle.node_model.specs.Devices.{joining_so}
use Rattle.node_model.specs.Members.{ready_of}
use Rattle.node_model.specs.Seats.{coordinator_of, session_of}
use Rattle.node_model.specs.declared.cluster.Cluster.{Cluster}
use Rattle.node_model.specs.declared.node.UpNode.{UpNode}
use Rattle.node_model.specs.declared.output.Output.{Output}
use Rattle.pgr_device.specs.declared.command.PrCommand.{PrCommand}
use Rattle.refinement.specs.Courses.{Course}
use Rattle.refinement.specs.Courses.Course.{Stops}
use Rattle.refinement.specs.Cuts as cuts
use Rattle.refinement.specs.Cuts.{writing}
use Rattle.refinement.specs.Doings.{answered_so, command_line, of_node}
use Rattle.seize.specs.Answers.{Answer}
use Rattle.seize.specs.declared.kind.JoinResult.{JoinResult}
use Rattle.seize.specs.declared.kind.JoinResult.TheVariants as join
use Rattle.status_report.specs.declared.node_entry.NodeEntry.TheVariants as note
use Rattle.wire.specs.declared.message.Body.TheVariants as body
use Rattle.run_outcomes.specs.tasks.Onward.{AreStill, GoesOut}
use Rattle.run_outcomes.specs.tasks.Own.{IsOrdered, Owns}
use Rattle.run_outcomes.proofs.onward.Given.{Behind, out_behind, out_by}
use Rattle.run_outcomes.proofs.own_tasks.Devices.{call_so}
use Rattle.run_outcomes.proofs.rests.Calls.{going_left, ready_so, turned_all_left}
use Rattle.run_outcomes.proofs.rests.Drops.{is_dropping}
use Rattle.run_outcomes.proofs.rests.Kept.{AreKept, Stays, kept_out}
use Rattle.run_outcomes.proofs.rests.Left.{IsLeft, alive_left, left_behind}

-- what is left behind the line of the command
abbrev pub LeftBehind : ℕ → List Output → Type 0 → List Task → UpNode → List Output → Type 0
LeftBehind n line C ts y all = Behind line (IsLeft n C ts) y all

none_some_so : (o : Option AttemptState) (a : AttemptState) → o ≡ None → o ≡ Some a → ⊥
none_some_so o a none some = never (sym none ∙ some)
  where
    never : None ≡ Some a → ⊥
    never e = cc

-- from a node behind the line
from_line : (c : Cluster) (n : ℕ) (C : Type 0) (ts : List Task) (z : UpNode) (line : List Output) (k : Course) → GoesOut c n (IsLeft n C ts) z [] k → GoesOut c n (LeftBehind n line C ts) z line k
from_line c n C ts z line k h = subst (λ all. GoesOut c n (LeftBehind n line C ts) z all k) (append-nil line) (out_behind c n (IsLeft n C ts) z line [] k h)

-- .. and behind more that changes nothing
from_more : (c : Cluster) (n : ℕ) (C : Type 0) (ts : List Task) (z : UpNode) (line more : List Output) (k : Course) → AreStill n more → GoesOut c n (IsLeft n C ts) z [] k → GoesOut c n (LeftBehind n line C ts) z (line ++ more) k
from_more c n C ts z line more k still h =
    out_behind c n (IsLeft n C ts) z line more k
    (out_by c n (Behind more (IsLeft n C ts)) (IsLeft n C ts) z more k (λ y all b. subst (IsLeft n C ts y) (sym b.1) (left_behind n C ts y more b.0 still b.2)) (from_line c n C ts z more k h))

-- ---- with an attempt

seized_leaves : (a : AttemptState) (d : ℕ) (r : SeizeResult) (e : AttemptEnd) → HasCause a (Own_seized d r) (turn a (Own_seized d r)).after e → is_dropping e ≡ false → ⊥
seized_leaves a d r (end.Superseded q) cause leaves = cause
seized_leaves a d r (end.Silent m) cause leaves = cause
seized_leaves a d r (end.Votes have need lacking) cause leaves = false_true (sym leaves)
seized_leaves a d r (end.Foreign m) cause leaves = false_true (sym leaves)
seized_leaves a d r (end.Excluded m) cause leaves = false_true (sym leaves)

module _ (c : Cluster) (n : ℕ) (x : UpNode) (a : Answer) (b : AttemptState) (at : x.attempt ≡ Some b) (own : coordinator b.plan.epoch ≡ n) (ok : IsOrdered n b) (owns : Owns n x.tasks b) where
  abbrev y : UpNode
  y = answered_so x a

  abbrev J : UpNode → List Output → Type 0
  J z os = IsLeft n ⊥ y.tasks z os

  own_left : (d : ℕ) (r : SeizeResult) (o : Option AttemptState) → x.attempt ≡ o → progress_after x.tasks a ≡ Seized d r → GoesOut c n J y [] (cuts.own_seized_course c n y d r o)
  own_left d r None none is = absurd (none_some_so x.attempt b none at)
  own_left d r (Some s) has is =
      subst (λ z. GoesOut c n J y [] (cuts.going_course c n y z (Own_seized d r))) (same (sym at ∙ has))
      (going_left c n ⊥ y b (Own_seized d r) own tt (call_so n x.tasks b a d r is ok owns) (λ e cause leaves. seized_leaves b d r e cause leaves))
    where
      same : Some b ≡ Some s → b ≡ s
      same e = cc

  seized_left : (d : ℕ) (r : SeizeResult) (o : Option ℕ) → progress_after x.tasks a ≡ Seized d r → GoesOut c n J y [] (cuts.seized_course c n y d r o)
  seized_left d r None is = alive_left n ⊥ y.tasks y [] b at
  seized_left d r (Some m) is =
      if_either (GoesOut c n J y []) (m == n) (cuts.own_seized_course c n y d r y.attempt) (writing m (body.Seized (session_of y) d r)) (own_left d r x.attempt refl is) (λ so. alive_left n ⊥ y.tasks y _ b at)

  readied_left : (z : UpNode) (o : Option AttemptState) → z.attempt ≡ x.attempt → x.attempt ≡ o → GoesOut c n (IsLeft n ⊥ z.tasks) z [] (cuts.readied_course c n z o)
  readied_left z None same none = absurd (none_some_so x.attempt b none at)
  readied_left z (Some s) same has =
      subst (λ w. GoesOut c n (IsLeft n ⊥ z.tasks) z [] (cuts.turned_all c n z w Own_ready)) (one (sym at ∙ has))
      (turned_all_left c n ⊥ b Own_ready (ap (λ (p : Plan). coordinator p.epoch) (plan_stays b Own_ready tt) ∙ own) z (turn b Own_ready).steps (ready_so ⊥ z.tasks b))
    where
      one : Some b ≡ Some s → b ≡ s
      one e = cc

  joined_left : (z : UpNode) (o : Option ℕ) → z.attempt ≡ x.attempt → GoesOut c n (IsLeft n ⊥ z.tasks) z [] (cuts.joined_course c n z o)
  joined_left z None same = alive_left n ⊥ z.tasks z [] b (same ∙ at)
  joined_left z (Some m) same =
      if_either (GoesOut c n (IsLeft n ⊥ z.tasks) z []) (m == n) (cuts.own_ready_course c n z) (cuts.readying_course c z m)
      (if_either (GoesOut c n (IsLeft n ⊥ z.tasks) z []) (joins z.tasks) Stops (cuts.readied_course c n z z.attempt) (alive_left n ⊥ z.tasks z [] b (same ∙ at)) (readied_left z z.attempt same (sym same)))
      (if_either (GoesOut c n (IsLeft n ⊥ z.tasks) z []) (joins z.tasks) Stops (writing m (ready_of c z)) (alive_left n ⊥ z.tasks z [] b (same ∙ at)) (λ so. alive_left n ⊥ z.tasks z _ b (same ∙ at)))

  joining_left : (at_device : ℕ) (q : PrCommand) (d : ℕ) (r : JoinResult) → GoesOut c n (LeftBehind n (command_line n at_device q a) ⊥ y.tasks) x [] (cuts.joining_course c n x at_device q a d r)
  joining_left at_device q d join.Joined =
      let z : UpNode = joining_so y d in
      from_more c n ⊥ y.tasks z (command_line n at_device q a) (of_node n note.Saved ∷ []) (cuts.joined_course c n z (coordinator_of z)) (tt, tt) (joined_left z (coordinator_of z) refl)
  joining_left at_device q d (join.Late w) = λ so. from_line c n ⊥ y.tasks y (command_line n at_device q a) (cuts.joined_course c n y (coordinator_of y)) (joined_left y (coordinator_of y) refl)
  joining_left at_device q d join.Fault = λ so. from_line c n ⊥ y.tasks y (command_line n at_device q a) (cuts.joined_course c n y (coordinator_of y)) (joined_left y (coordinator_of y) refl)

  progress_left : (at_device : ℕ) (q : PrCommand) (p : Progress) → progress_after x.tasks a ≡ p → GoesOut c n (LeftBehind n (command_line n at_device q a) ⊥ y.tasks) x [] (cuts.progress_course c n x at_device q a p)
  progress_left at_device q GoesOn is = λ so. from_line c n ⊥ y.tasks y (command_line n at_device q a) Stops (alive_left n ⊥ y.tasks y [] b at)
  progress_left at_device q (Seized d r) is = λ so. from_line c n ⊥ y.tasks y (command_line n at_device q a) (cuts.seized_course c n y d r (coordinator_of y)) (seized_left d r (coordinator_of y) is)
  progress_left at_device q (Joined d r) is = joining_left at_device q d r

  pub answer_left : (d : ℕ) (q : PrCommand) → GoesOut c n (LeftBehind n (command_line n d q a) ⊥ (answered_so x a).tasks) x [] (cuts.answered_course c n x a (Some d) (Some q))
  answer_left d q = progress_left d q (progress_after x.tasks a) refl

-- ---- without one

-- its first task has moved on, and nothing behind the line changes its tasks
abbrev pub StaysBehind : ℕ → List Output → UpNode → UpNode → List Output → Type 0
StaysBehind n line x y all = Behind line (Stays n x) y all

module _ (c : Cluster) (n : ℕ) (x : UpNode) (a : Answer) (none : x.attempt ≡ None) where
  abbrev w : UpNode
  w = answered_so x a

  own_kept : (d : ℕ) (r : SeizeResult) (o : Option AttemptState) → x.attempt ≡ o → AreKept (cuts.own_seized_course c n w d r o)
  own_kept d r None at = tt
  own_kept d r (Some s) at = absurd (none_some_so x.attempt s none at)

  seized_kept : (d : ℕ) (r : SeizeResult) (o : Option ℕ) → AreKept (cuts.seized_course c n w d r o)
  seized_kept d r None = tt
  seized_kept d r (Some m) = if_either AreKept (m == n) (cuts.own_seized_course c n w d r w.attempt) (writing m (body.Seized (session_of w) d r)) (own_kept d r x.attempt refl) (tt, tt)

  readied_kept : (z : UpNode) (o : Option AttemptState) → x.attempt ≡ o → AreKept (cuts.readied_course c n z o)
  readied_kept z None at = tt
  readied_kept z (Some s) at = absurd (none_some_so x.attempt s none at)

  joined_kept : (z : UpNode) (o : Option ℕ) → x.attempt ≡ z.attempt → AreKept (cuts.joined_course c n z o)
  joined_kept z None same = tt
  joined_kept z (Some m) same =
      if_either AreKept (m == n) (cuts.own_ready_course c n z) (cuts.readying_course c z m) (if_either AreKept (joins z.tasks) Stops (cuts.readied_course c n z z.attempt) tt (readied_kept z z.attempt same))
      (if_either AreKept (joins z.tasks) Stops (writing m (ready_of c z)) tt (tt, tt))

  behind : (z : UpNode) (line more : List Output) (k : Course) → z.attempt ≡ w.attempt → z.tasks ≡ w.tasks → AreStill n more → AreKept k → GoesOut c n (StaysBehind n line w) z (line ++ more) k
  behind z line more k same tasks still kept = out_behind c n (Stays n w) z line more k (kept_out c n w z more k kept (same, tasks, still))

  joining_kept : (at : ℕ) (q : PrCommand) (d : ℕ) (r : JoinResult) → GoesOut c n (StaysBehind n (command_line n at q a) w) x [] (cuts.joining_course c n x at q a d r)
  joining_kept at q d join.Joined =
      let z : UpNode = joining_so w d in
      behind z (command_line n at q a) (of_node n note.Saved ∷ []) (cuts.joined_course c n z (coordinator_of z)) refl refl (tt, tt) (joined_kept z (coordinator_of z) refl)
  joining_kept at q d (join.Late v) = λ so. behind w (command_line n at q a) [] (cuts.joined_course c n w (coordinator_of w)) refl refl tt (joined_kept w (coordinator_of w) refl)
  joining_kept at q d join.Fault = λ so. behind w (command_line n at q a) [] (cuts.joined_course c n w (coordinator_of w)) refl refl tt (joined_kept w (coordinator_of w) refl)

  progress_kept : (at : ℕ) (q : PrCommand) (p : Progress) → GoesOut c n (StaysBehind n (command_line n at q a) w) x [] (cuts.progress_course c n x at q a p)
  progress_kept at q GoesOn = λ so. behind w (command_line n at q a) [] Stops refl refl tt tt
  progress_kept at q (Seized d r) = λ so. behind w (command_line n at q a) [] (cuts.seized_course c n w d r (coordinator_of w)) refl refl tt (seized_kept d r (coordinator_of w))
  progress_kept at q (Joined d r) = joining_kept at q d r

  pub answer_kept : (d : ℕ) (q : PrCommand) → GoesOut c n (StaysBehind n (command_line n d q a) (answered_so x a)) x [] (cuts.answered_course c n x a (Some d) (Some q))
  answer_kept d q = progress_kept d q (progress_after x.tasks a)
