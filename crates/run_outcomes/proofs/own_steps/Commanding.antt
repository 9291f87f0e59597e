-- A coordinator whose attempt seizes devices has come to its tasks, where its own command at a device is answered.
use Rattle.std.specs.Prelude.{ℕ, ◌≡◌, ◌++◌, Bool, true, false, List, [], ◌∷◌, Option, None, Some}
use Rattle.std.proofs.Common.{refl, sym, ap, subst, ◌∙◌, append-nil, inl, inr}
use Rattle.attempt_laws.proofs.Walk.{TellsResult}
use Rattle.cl_base.specs.Seizings.{SeizeResult}
use Rattle.cl_base.specs.declared.method.Outcome as method
use Rattle.cmm_attempt.proofs.Basics.{false_true, same_some}
use Rattle.cmm_attempt.specs.Attempts.{AttemptState}
use Rattle.cmm_attempt.specs.Calls.{Call, May, Own_ready, turn}
use Rattle.cmm_attempt.specs.declared.counting.BothVotes.{BothVotes}
use Rattle.device_queue.specs.Queue.{after_answer, due_device, next_of, progress_after}
use Rattle.device_queue.specs.declared.progress.Progress.{Progress}
use Rattle.device_queue.specs.declared.progress.Progress.TheVariants.{GoesOn, Joined, Seized}
use Rattle.device_queue.specs.declared.task.Task.{Task}
use Rattle.history.specs.Member.{in_collect}
use Rattle.history.specs.Moment.{Moment, Told}
use Rattle.history.specs.Queue.{is_write}
use Rattle.history.specs.Setting.{Setting}
use Rattle.node_model.specs.Attempts.{votes_in}
use Rattle.node_model.specs.Devices.{answer_told}
use Rattle.node_model.specs.Seats.{coordinator_of}
use Rattle.node_model.specs.Steps.{at_second}
use Rattle.node_model.specs.declared.cluster.Cluster.{Cluster}
use Rattle.node_model.specs.declared.input.Input.TheVariants.{Answered}
use Rattle.node_model.specs.declared.node.Node.TheVariants.{Up}
use Rattle.node_model.specs.declared.node.UpNode.{UpNode}
use Rattle.node_model.specs.declared.output.Output.{Output}
use Rattle.pgr_device.specs.declared.command.PrCommand.{PrCommand}
use Rattle.refinement.specs.Cuts as cuts
use Rattle.refinement.specs.Doings.{answered_so, command_line}
use Rattle.refinement.specs.Runs.{moved}
use Rattle.refinement.specs.Runs.Move.{Takes as Takes_in}
use Rattle.run_history.specs.Happenings.{given_by, taking}
use Rattle.run_history.specs.Scenes.{Scene, passing, telling}
use Rattle.seize.specs.Answers.{Answer}
use Rattle.seize.specs.declared.kind.JoinResult.{JoinResult}
use Rattle.status_report.specs.declared.device_entry.DeviceEntry.TheVariants as device_entry
use Rattle.status_report.specs.declared.entry.Entry.TheVariants as entry
use Rattle.run_outcomes.specs.phases.Kept.{In, IsOwnCall}
use Rattle.run_outcomes.specs.phases.Laws.{is_seizing}
use Rattle.run_outcomes.specs.tasks.Lasting.{lasts_open}
use Rattle.run_outcomes.specs.tasks.Laws.{own_result}
use Rattle.run_outcomes.specs.tasks.Onward.{AreStill, GoesOut}
use Rattle.run_outcomes.specs.tasks.Own.{IsOrdered, Leads, Owned, Owns}
use Rattle.run_outcomes.proofs.onward.Befores.{own_ready_same, seized_before}
use Rattle.run_outcomes.proofs.onward.Devices.{IsQuietly, OnwardFrom, answered_out, call_by}
use Rattle.run_outcomes.proofs.onward.Here.{taken_here}
use Rattle.run_outcomes.proofs.onward.Leads.{StepSo, by_may, by_votes, command_led}
use Rattle.run_outcomes.proofs.onward.Messages.{Took}
use Rattle.run_outcomes.proofs.onward.Passing.{Passed, still_passed}
use Rattle.run_outcomes.proofs.onward.Ticks.{idle_led}
use Rattle.run_outcomes.proofs.own_steps.Ending.{own_ended}
use Rattle.run_outcomes.proofs.own_steps.Past.{IsResting, seizing_chooses_not}
use Rattle.run_outcomes.proofs.own_steps.Steps.{Follows}
use Rattle.run_outcomes.proofs.own_tasks.Moving.{moved_never}
use Rattle.run_outcomes.proofs.phases.Leading.{Has}
use Rattle.run_outcomes.proofs.told_tasks.Closed.{closed_all, closed_before}
use Rattle.run_outcomes.proofs.told_tasks.Led.{LedOn}

-- ---- the call

-- by such a call an attempt does not come to ask for votes
call_rests : (p : Progress) (a : AttemptState) → IsResting a → IsResting (turn a (call_by p)).after
call_rests p a rests = by_seizing (is_seizing a.phase) refl
  where
    own : (g : Progress) → IsOwnCall (call_by g)
    own GoesOn = tt
    own (Seized d r) = tt
    own (Joined d r) = tt

    by_seizing : (t : Bool) → is_seizing a.phase ≡ t → IsResting (turn a (call_by p)).after
    by_seizing true is = seizing_chooses_not a (call_by p) (by_may p a) is
    by_seizing false is = (idle_led a (call_by p) (by_may p a) (own p) (is, rests)).1

-- The attempt took the call; or it is as it was, as it is after one that does nothing while it seizes devices.
followed : (S : Setting) (c : Cluster) (n : ℕ) (x : UpNode) (a : Answer) (k : Call) (b : AttemptState) (both : BothVotes) (ts : List Task) (ms : List Moment) → ((s : AttemptState) → May s k) → is_seizing b.phase ≡ true
    → ((s : AttemptState) (q : Call) → x.attempt ≡ Some s → Follows s q b → StepSo S c n x q b both ms) → Took c n (answered_so x a) k b ts → StepSo S c n x k b both ms
followed S c n x a k b both ts ms may seizing so (inl same) =
    let g : StepSo S c n x Own_ready b both ms = so b Own_ready same.0 (tt, inl (sym (own_ready_same b seizing))) in
    record {
      seizing = g.seizing;
      given = g.given;
      reached = g.reached;
      cluster = g.cluster;
      last = g.last;
      holds = g.holds;
      same = g.same;
      own = g.own;
      so = g.so;
      none = λ s at chooses d.
          absurd (false_true (sym (seizing_chooses_not s k (may s) (subst (λ (z : AttemptState). is_seizing z.phase ≡ true) (same_some b s (sym same.0 ∙ at)) seizing)) ∙ chooses));
    }
followed S c n x a k b both ts ms may seizing so (inr (s, at, inl r)) = so s k at (may s, inl r.1.is)
followed S c n x a k b both ts ms may seizing so (inr (s, at, inr r)) = so s k at (may s, inr (votes_in c (turn s k).after, r.0, r.1.is))

-- ---- what the node has come to

-- the attempt took the call, and no line behind that of the command changes its tasks
pub record AnsweredSo (c : Cluster) (n d now : ℕ) (ends : method.Outcome) (q : PrCommand) (a : Answer) (t : Scene) (x y : UpNode) (b : AttemptState) : Type 0 where
  pub took : Took c n (answered_so x a) (call_by (progress_after x.tasks a)) b y.tasks
  pub passed : Passed n (Told (entry.Device (device_entry.Command n d q (answer_told a))) ∷ t.moments) (taking c n now ends (Answered a) t).moments

pub answered_here : (c : Cluster) (n d now : ℕ) (ends : method.Outcome) (q : PrCommand) (a : Answer) (t : Scene) (x y : UpNode) (b : AttemptState) → in_collect n t.moments ≡ false → due_device x.tasks ≡ Some d
    → next_of x.tasks ≡ Some q → ((e : ℕ) (r : JoinResult) → progress_after x.tasks a ≡ Joined e r → Has IsQuietly x) → t.nodes.node n ≡ Up x
    → (taking c n now ends (Answered a) t).nodes.node n ≡ Up y → y.attempt ≡ Some b → is_seizing b.phase ≡ true → AnsweredSo c n d now ends q a t x y b
answered_here c n d now ends q a t x y b calm device next joins was up at seizing = record {
  took = h.3;
  passed =
      subst (λ os. Passed n (Told (entry.Device (device_entry.Command n d q (answer_told a))) ∷ t.moments) (passing n os w).moments) (sym h.1)
      (still_passed n h.0 (telling (entry.Device (device_entry.Command n d q (answer_told a))) w) calm h.2);
}
  where
    line : List Output
    line = command_line n d q a

    R : AttemptState → List Task → Type 0
    R = Took c n (answered_so x a) (call_by (progress_after x.tasks a))

    J : UpNode → List Output → Type 0
    J = OnwardFrom n line R

    all : List Output
    all = given_by c n now ends (Answered a) t.nodes

    w : Scene
    w = record t { nodes = moved c t.nodes (Takes_in n now ends (Answered a)) }

    h : (os : List Output) × (all ≡ line ++ os) × AreStill n os × R b y.tasks
    h =
        subst (In (λ s. is_seizing s.phase ≡ true → (os : List Output) × (all ≡ line ++ os) × AreStill n os × R s y.tasks)) at
        (taken_here c n now ends (Answered a) t J x y was up
        (λ so.
        subst (λ o. GoesOut c n J (at_second now x) [] (cuts.answered_course c n (at_second now x) a o (next_of x.tasks))) (sym device)
        (subst (λ o. GoesOut c n J (at_second now x) [] (cuts.answered_course c n (at_second now x) a (Some d) o)) (sym next) (answered_out c n (at_second now x) a d q joins)))) seizing

-- ---- its own tasks

-- while the attempt of the node seizes devices none of its tasks joins one
pub joins_quietly : (n : ℕ) (x : UpNode) (a : Answer) (e : ℕ) (r : JoinResult) → Leads n x → Owned n x → progress_after x.tasks a ≡ Joined e r → Has IsQuietly x
joins_quietly n x a e r leads owned is = by_attempt x.attempt leads owned
  where
    by_seizing : (s : AttemptState) → IsOrdered n s → Owns n x.tasks s → (b : Bool) → is_seizing s.phase ≡ b → b ≡ false
    by_seizing s ok own true at = absurd (moved_never s.plan.coordinator s.promises s.devices x.tasks a e r (own.seizes at ok) is)
    by_seizing s ok own false at = refl

    by_attempt : (o : Option AttemptState) → In (λ s. IsOrdered n s × (coordinator_of x ≡ Some n)) o → In (Owns n x.tasks) o → In IsQuietly o
    by_attempt None k h = tt
    by_attempt (Some s) k h = by_seizing s k.0 h (is_seizing s.phase) refl

-- the attempt seized already, and these are the tasks with what it asks for
record Behind (old ts : List Task) (s : AttemptState) : Type 0 where
  seizes : is_seizing s.phase ≡ true
  new : List Task
  tasks : ts ≡ old ++ new

pub answer_led : (S : Setting) (c : Cluster) (n d now : ℕ) (ends : method.Outcome) (q : PrCommand) (a : Answer) (ms : List Moment) (t : Scene) (x y : UpNode) (b : AttemptState) (both : BothVotes)
    → t.moments ≡ ms → in_collect n ms ≡ false → is_write q ≡ false → due_device x.tasks ≡ Some d → next_of x.tasks ≡ Some q → Leads n x → Owned n x → Has IsResting x → t.nodes.node n ≡ Up x
    → (taking c n now ends (Answered a) t).nodes.node n ≡ Up y → y.attempt ≡ Some b → is_seizing b.phase ≡ true → lasts_open S n (taking c n now ends (Answered a) t).moments ≡ false
    → ((s : AttemptState) (k : Call) → x.attempt ≡ Some s → lasts_open S n ms ≡ false → Follows s k b → StepSo S c n x k b both ms) → LedOn S n y b both (taking c n now ends (Answered a) t).moments
answer_led S c n d now ends q a ms t x y b both line calm plain device next leads owned rests was up at seizing closed so =
    command_led S c n d now ends q a ms t x y b both line calm plain device next joins was up at self
    (followed S c n x a (call_by p) b both y.tasks ms (by_may p) seizing (λ s k has. so s k has before) r.took)
  where
    p : Progress
    p = progress_after x.tasks a

    joins : (e : ℕ) (j : JoinResult) → progress_after x.tasks a ≡ Joined e j → Has IsQuietly x
    joins e j is = joins_quietly n x a e j leads owned is

    r : AnsweredSo c n d now ends q a t x y b
    r = answered_here c n d now ends q a t x y b (subst (λ z. in_collect n z ≡ false) (sym line) calm) device next joins was up at seizing

    before : lasts_open S n ms ≡ false
    before =
        subst (λ z. lasts_open S n z ≡ false) line
        (closed_before S n t.moments (Told (entry.Device (device_entry.Command n d q (answer_told a)))) refl
        (closed_all S n (Told (entry.Device (device_entry.Command n d q (answer_told a))) ∷ t.moments) r.passed.newer r.passed.quiet (subst (λ z. lasts_open S n z ≡ false) r.passed.parts closed)))

    now_seizes : (s z : AttemptState) → x.attempt ≡ Some s → x.attempt ≡ Some z → is_seizing z.phase ≡ true → is_seizing s.phase ≡ true
    now_seizes s z has there is = subst (λ (v : AttemptState). is_seizing v.phase ≡ true) (same_some z s (sym there ∙ has)) is

    by_took : (s : AttemptState) → x.attempt ≡ Some s → Took c n (answered_so x a) (call_by p) b y.tasks → Behind (after_answer x.tasks a) y.tasks s
    by_took s has (inl same) = record { seizes = now_seizes s b has same.0 seizing; new = []; tasks = same.1 ∙ sym (append-nil (after_answer x.tasks a)) }
    by_took s has (inr (z, there, inl k)) = record {
      seizes = now_seizes s z has there (seized_before z (call_by p) (by_votes p) (subst (λ (v : AttemptState). is_seizing v.phase ≡ true) k.1.is seizing));
      new = k.1.new;
      tasks = k.1.tasks;
    }
    by_took s has (inr (z, there, inr k)) = absurd (false_true (sym (call_rests p z (subst (In IsResting) there rests)) ∙ k.0))

    self : (s : AttemptState) → x.attempt ≡ Some s → (e k : ℕ) (j : SeizeResult) → TellsResult (call_by p) s e k j → own_result e y.tasks ≡ Some j
    self s has e k j tells =
        let z : Behind (after_answer x.tasks a) y.tasks s = by_took s has r.took in
        let ordered : IsOrdered n s × (coordinator_of x ≡ Some n) = subst (In (λ v. IsOrdered n v × (coordinator_of x ≡ Some n))) has leads in
        ap (λ ts. own_result e ts) z.tasks ∙ own_ended n x.tasks z.new s a ordered.0 (subst (In (Owns n x.tasks)) has owned) z.seizes e k j tells
