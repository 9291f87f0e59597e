-- A coordinator whose attempt seizes devices has come to its tasks so, where a packet came, or a command at a device is answered.
use Rattle.std.specs.Prelude.{ℕ, ◌≡◌, ◌++◌, true, false, List, [], ◌∷◌, None, Some}
use Rattle.std.proofs.Common.{sym, ap, subst, ◌∙◌}
use Rattle.attempt_laws.proofs.Walk.{TellsResult}
use Rattle.cl_base.specs.Seizings.{SeizeResult}
use Rattle.cl_base.specs.declared.method.Outcome as method
use Rattle.cmm_attempt.specs.Attempts.{AttemptState}
use Rattle.cmm_attempt.specs.Calls.{Call, IsReached, May, With_votes, turn}
use Rattle.cmm_attempt.specs.declared.counting.BothVotes.{BothVotes}
use Rattle.device_queue.specs.Queue.{due_device, next_of, progress_after}
use Rattle.device_queue.specs.declared.progress.Progress.{Progress}
use Rattle.device_queue.specs.declared.progress.Progress.TheVariants.{GoesOn, Joined, Seized}
use Rattle.device_queue.specs.declared.task.Task.{Task}
use Rattle.history.specs.Member.{attempt_of, in_collect}
use Rattle.history.specs.Moment.{Moment, Told}
use Rattle.history.specs.Queue as told
use Rattle.history.specs.Queue.{is_write}
use Rattle.history.specs.Setting.{Setting, coordinator}
use Rattle.history.specs.Trace.{delivered}
use Rattle.node_model.specs.Attempts.{is_choosing}
use Rattle.node_model.specs.Devices.{answer_told}
use Rattle.node_model.specs.Seats.{record_of}
use Rattle.node_model.specs.Steps.{at_second}
use Rattle.node_model.specs.declared.cluster.Cluster.{Cluster}
use Rattle.node_model.specs.declared.input.Input.TheVariants.{Answered}
use Rattle.node_model.specs.declared.node.Node.TheVariants.{Up}
use Rattle.node_model.specs.declared.node.UpNode.{UpNode}
use Rattle.node_model.specs.declared.output.Output.{Output}
use Rattle.pgr_device.specs.declared.command.PrCommand.{PrCommand}
use Rattle.refinement.specs.Cuts as cuts
use Rattle.refinement.specs.Doings.{answered_so, command_line}
use Rattle.refinement.specs.Runs.{moved}
use Rattle.refinement.specs.Runs.Move.{Takes as Takes_in}
use Rattle.run_devices.proofs.queues.Tasks.{same_taken}
use Rattle.run_devices.specs.queues.Laws.{Same}
use Rattle.run_history.specs.Happenings.{given_by, taking}
use Rattle.run_history.specs.Scenes.{Scene, passing, telling}
use Rattle.seize.specs.Answers.{Answer}
use Rattle.seize.specs.declared.kind.JoinResult.{JoinResult}
use Rattle.status_report.specs.declared.device_entry.DeviceEntry.TheVariants as device_entry
use Rattle.status_report.specs.declared.entry.Entry.TheVariants as entry
use Rattle.run_outcomes.specs.phases.Kept.{In}
use Rattle.run_outcomes.specs.phases.Laws.{is_seizing}
use Rattle.run_outcomes.specs.tasks.Entries.{EntriesSo}
use Rattle.run_outcomes.specs.tasks.Laws.{AsksTold, own_result}
use Rattle.run_outcomes.specs.tasks.Onward.{AreStill, GoesOut}
use Rattle.run_outcomes.specs.tasks.Quiet.{AreQuiet}
use Rattle.run_outcomes.proofs.phases.Leading.{Has}
use Rattle.run_outcomes.proofs.onward.Asked.{HoldsOwn}
use Rattle.run_outcomes.proofs.onward.Comes.{took_led}
use Rattle.run_outcomes.proofs.onward.Devices.{IsQuietly, OnwardFrom, answered_out, call_by}
use Rattle.run_outcomes.proofs.onward.Here.{taken_here}
use Rattle.run_outcomes.proofs.onward.Marks.{command_asks, command_own, delivered_asks}
use Rattle.run_outcomes.proofs.onward.Messages.{Took}
use Rattle.run_outcomes.proofs.onward.Passing.{Passed, still_passed}
use Rattle.run_outcomes.proofs.told_tasks.Led.{LedOn}

-- what is known of the node before the step, and of its attempt after it
pub record StepSo (S : Setting) (c : Cluster) (n : ℕ) (x : UpNode) (k : Call) (b : AttemptState) (both : BothVotes) (before : List Moment) : Type 0 where
  pub seizing : is_seizing b.phase ≡ true
  pub given : b.votes ≡ Some both
  pub reached : IsReached b
  pub cluster : c.id ≡ S.header.cluster
  pub last : attempt_of n before ≡ Some b.plan.epoch
  pub holds : HoldsOwn b (record_of x).valid
  pub same : Same x.tasks (told.tasks_of S n before)
  pub own : (a : AttemptState) → x.attempt ≡ Some a → (coordinator a.plan.epoch ≡ n) × (a.plan.coordinator ≡ n)
  pub so : (a : AttemptState) → x.attempt ≡ Some a → is_seizing a.phase ≡ true → EntriesSo a × AsksTold a before
  pub none : (a : AttemptState) → x.attempt ≡ Some a → is_choosing (turn a k).after.phase ≡ true → (d : ℕ) → told.asked_last a.plan.epoch d before ≡ None

-- ---- a packet

-- What the call tells of seizings: the lines show it of another member, and the tasks of the coordinator itself.
abbrev pub TellsSo : Call → AttemptState → List Task → List Moment → Type 0
TellsSo k a tasks moments = (d from : ℕ) (r : SeizeResult) → TellsResult k a d from r
    → (told.seized_by a.plan.epoch d from moments ≡ Some r) × (from ≡ a.plan.coordinator → own_result d tasks ≡ Some r)

-- by its line `history` adds what it has of its own, and nothing else; and what the node gives changes nothing
pub packet_led : (S : Setting) (c : Cluster) (n number from : ℕ) (k : Call) (ms moments : List Moment) (x y : UpNode) (b : AttemptState) (both : BothVotes) → Passed n (delivered number from n ∷ ms) moments
    → told.tasks_of S n (delivered number from n ∷ ms) ≡ told.with_own S n (Some b.plan.epoch) (delivered number from n ∷ ms) (told.tasks_of S n ms)
    → ((v : BothVotes) → k ≡ With_votes v → ⊥) → ((a : AttemptState) → May a k)
    → ((a : AttemptState) → x.attempt ≡ Some a → is_seizing a.phase ≡ true → TellsSo k a y.tasks (delivered number from n ∷ ms))
    → StepSo S c n x k b both ms → Took c n x k b y.tasks → LedOn S n y b both moments
packet_led S c n number from k ms moments x y b both z told_so none_given may tells g took =
    took_led S c n x k y b both moments
    (record {
      seizing = g.seizing;
      given = g.given;
      reached = g.reached;
      cluster = g.cluster;
      marked = delivered number from n ∷ ms;
      newer = z.newer;
      parts = z.parts;
      quiet = z.quiet;
      had = told.tasks_of S n ms;
      same = g.same;
      told_so = told_so;
    })
    none_given may g.holds (λ a has is. ((g.so a has is).0, delivered_asks a number from n ms (g.so a has is).1))
    (λ a has is. record {
      entries = (g.so a has is).0;
      asks = delivered_asks a number from n ms (g.so a has is).1;
      told_other = λ d j r says other. (tells a has is d j r says).0;
      told_own = λ d j r says own. (tells a has is d j r says).1 own;
    }) (λ a has chooses d. g.none a has chooses d) took

-- ---- a command at a device

pub by_may : (p : Progress) (a : AttemptState) → May a (call_by p)
by_may GoesOn a = tt
by_may (Seized d r) a = tt
by_may (Joined d r) a = tt

pub by_votes : (p : Progress) (v : BothVotes) → call_by p ≡ With_votes v → ⊥
by_votes GoesOn v e = cc
by_votes (Seized d r) v e = cc
by_votes (Joined d r) v e = cc

by_other : (p : Progress) (a : AttemptState) (d k : ℕ) (r : SeizeResult) → TellsResult (call_by p) a d k r → k ≡ a.plan.coordinator
by_other GoesOn a d k r tells = absurd tells
by_other (Seized e q) a d k r tells = tells.2
by_other (Joined e q) a d k r tells = absurd tells

pub command_led : (S : Setting) (c : Cluster) (n d now : ℕ) (ends : method.Outcome) (q : PrCommand) (a : Answer) (ms : List Moment) (t : Scene) (x y : UpNode) (b : AttemptState) (both : BothVotes)
    → t.moments ≡ ms → in_collect n ms ≡ false → is_write q ≡ false → due_device x.tasks ≡ Some d → next_of x.tasks ≡ Some q
    → ((e : ℕ) (r : JoinResult) → progress_after x.tasks a ≡ Joined e r → Has IsQuietly x) → t.nodes.node n ≡ Up x → (taking c n now ends (Answered a) t).nodes.node n ≡ Up y → y.attempt ≡ Some b
    → ((s : AttemptState) → x.attempt ≡ Some s → (e k : ℕ) (r : SeizeResult) → TellsResult (call_by (progress_after x.tasks a)) s e k r → own_result e y.tasks ≡ Some r)
    → StepSo S c n x (call_by (progress_after x.tasks a)) b both ms → LedOn S n y b both (taking c n now ends (Answered a) t).moments
command_led S c n d now ends q a ms t x y b both line calm plain device next joins was up at self g =
    took_led S c n (answered_so x a) k y b both (taking c n now ends (Answered a) t).moments
    (record {
      seizing = g.seizing;
      given = g.given;
      reached = g.reached;
      cluster = g.cluster;
      marked = mark ∷ ms;
      newer = z.newer;
      parts = z.parts ∙ ap (λ r. z.newer ++ (mark ∷ r)) line;
      quiet = subst (λ r. AreQuiet n (mark ∷ r) z.newer) line z.quiet;
      had = told.moved a (told.tasks_of S n ms);
      same = same_taken x.tasks (told.tasks_of S n ms) a g.same;
      told_so = command_own S n d b.plan.epoch q a ms plain g.last;
    })
    (by_votes (progress_after x.tasks a)) (by_may (progress_after x.tasks a)) g.holds (λ s has is. ((g.so s has is).0, command_asks s n d q a ms (g.so s has is).1))
    (λ s has is. record {
      entries = (g.so s has is).0;
      asks = command_asks s n d q a ms (g.so s has is).1;
      told_other = λ e j r tells other. absurd (other (by_other (progress_after x.tasks a) s e j r tells));
      told_own = λ e j r tells own. self s has e j r tells;
    }) (λ s has chooses e. g.none s has chooses e) h.3
  where
    k : Call
    k = call_by (progress_after x.tasks a)

    mark : Moment
    mark = Told (entry.Device (device_entry.Command n d q (answer_told a)))

    R : AttemptState → List Task → Type 0
    R = Took c n (answered_so x a) k

    all : List Output
    all = given_by c n now ends (Answered a) t.nodes

    h : (os : List Output) × (all ≡ command_line n d q a ++ os) × AreStill n os × R b y.tasks
    h =
        subst (In (λ s. is_seizing s.phase ≡ true → (os : List Output) × (all ≡ command_line n d q a ++ os) × AreStill n os × R s y.tasks)) at
        (taken_here c n now ends (Answered a) t (OnwardFrom n (command_line n d q a) R) x y was up
        (λ so.
        subst (λ o. GoesOut c n (OnwardFrom n (command_line n d q a) R) (at_second now x) [] (cuts.answered_course c n (at_second now x) a o (next_of x.tasks))) (sym device)
        (subst (λ o. GoesOut c n (OnwardFrom n (command_line n d q a) R) (at_second now x) [] (cuts.answered_course c n (at_second now x) a (Some d) o)) (sym next)
        (answered_out c n (at_second now x) a d q joins)))) g.seizing

    w : Scene
    w = record t { nodes = moved c t.nodes (Takes_in n now ends (Answered a)) }

    z : Passed n (mark ∷ t.moments) (taking c n now ends (Answered a) t).moments
    z =
        subst (λ os. Passed n (mark ∷ t.moments) (passing n os w).moments) (sym h.1)
        (still_passed n h.0 (telling (entry.Device (device_entry.Command n d q (answer_told a))) w) (subst (λ r. in_collect n r ≡ false) (sym line) calm) h.2)
