-- What a command of a coordinator at a device makes of its attempt and its tasks: its own task moves on, and no line behind that of the command changes these.
use Rattle.std.specs.Prelude.{ℕ, ◌≡◌, ◌++◌, ◌==◌, ◌&&◌, map, true, false, List, [], ◌∷◌, Option, None, Some}
use Rattle.std.proofs.Common.{refl, sym, subst, ◌∙◌}
use Rattle.cl_base.specs.Seizings.{SeizeResult}
use Rattle.cmm_attempt.proofs.Basics.{false_true, if_either}
use Rattle.cmm_attempt.specs.Attempts.{AttemptState, Turn, all_ready, own_readying, own_readying_in, starting, waits, with_steps}
use Rattle.cmm_attempt.specs.Installs.{send_start}
use Rattle.cmm_attempt.specs.Plans.{others_of}
use Rattle.cmm_attempt.specs.declared.step.Step.TheVariants.{StartHere}
use Rattle.cmm_attempt.specs.Calls.{Call, Own_ready, Own_seized, turn}
use Rattle.cmm_attempt.specs.declared.phase.Phase.{Phase}
use Rattle.cmm_attempt.specs.declared.phase.Phase.TheVariants.{Choosing, Collecting, Installing, Over, SeizingOthers, SeizingVotes}
use Rattle.device_queue.specs.Queue.{joins, progress_after}
use Rattle.device_queue.specs.declared.progress.Progress.{Progress}
use Rattle.device_queue.specs.declared.progress.Progress.TheVariants.{GoesOn, Joined, Seized}
use Rattle.device_queue.specs.declared.task.Task.{Task}
use Rattle.node_model.specs.Devices.{joining_so}
use Rattle.node_model.specs.Members.{ready_of}
use Rattle.node_model.specs.Seats.{coordinator_of, session_of}
use Rattle.node_model.specs.declared.cluster.Cluster.{Cluster}
use Rattle.node_model.specs.declared.node.UpNode.{UpNode}
use Rattle.node_model.specs.declared.output.Output.{Output}
use Rattle.node_model.specs.declared.output.Output.TheVariants.{Sends}
use Rattle.pgr_device.specs.declared.command.PrCommand.{PrCommand}
use Rattle.refinement.specs.Courses.Course.{Stops}
use Rattle.refinement.specs.Cuts as cuts
use Rattle.refinement.specs.Cuts.{writing}
use Rattle.refinement.specs.Doings.{answered_so, command_line}
use Rattle.seize.specs.Answers.{Answer}
use Rattle.seize.specs.declared.kind.JoinResult.{JoinResult}
use Rattle.seize.specs.declared.kind.JoinResult.TheVariants as join
use Rattle.wire.specs.declared.message.Body.TheVariants as body
use Rattle.run_outcomes.specs.phases.Kept.{In}
use Rattle.run_outcomes.specs.phases.Laws.{is_seizing}
use Rattle.run_outcomes.specs.saves.Courses.{LeadsTo}
use Rattle.run_outcomes.specs.tasks.Onward.{AreStill, GoesOut, Onward, OnwardOf}
use Rattle.run_outcomes.proofs.phases.Leading.{Has, turned_all_has}
use Rattle.run_outcomes.proofs.onward.Given.{Behind, out_behind, out_by, out_leads}
use Rattle.run_outcomes.proofs.onward.Messages.{Took, call_out, onward_start}

-- as `Onward`, with what was given behind these
abbrev pub OnwardFrom : ℕ → List Output → (AttemptState → List Task → Type 0) → UpNode → List Output → Type 0
OnwardFrom n before R y all = In (λ b. is_seizing b.phase ≡ true → (os : List Output) × (all ≡ before ++ os) × AreStill n os × R b y.tasks) y.attempt

pub from_behind : (n : ℕ) (before : List Output) (R : AttemptState → List Task → Type 0) (y : UpNode) (all : List Output) → Behind before (Onward n R) y all → OnwardFrom n before R y all
from_behind n before R y all h = by_attempt y.attempt h.2
  where
    by_attempt : (o : Option AttemptState) → In (OnwardOf n R y.tasks h.0) o → In (λ b. is_seizing b.phase ≡ true → (os : List Output) × (all ≡ before ++ os) × AreStill n os × R b y.tasks) o
    by_attempt None k = tt
    by_attempt (Some b) k = λ is. let z : AreStill n h.0 × R b y.tasks = k is in (h.0, h.1, z.0, z.1)

-- ---- an attempt that seizes no devices

abbrev pub IsQuietly : AttemptState → Type 0
IsQuietly a = is_seizing a.phase ≡ false

pub quietly_from : (n : ℕ) (before : List Output) (R : AttemptState → List Task → Type 0) (y : UpNode) (all : List Output) → Has IsQuietly y → OnwardFrom n before R y all
quietly_from n before R y all h = by_attempt y.attempt h
  where
    by_attempt : (o : Option AttemptState) → In IsQuietly o → In (λ b. is_seizing b.phase ≡ true → (os : List Output) × (all ≡ before ++ os) × AreStill n os × R b y.tasks) o
    by_attempt None k = tt
    by_attempt (Some b) k = λ is. absurd (false_true (sym k ∙ is))

starting_quietly : (s : AttemptState) → IsQuietly s → IsQuietly (starting s).after
unfolding starting
starting_quietly s h =
    if_either (λ (t : Turn). IsQuietly t.after) (s.own_ready && all_ready s) (with_steps (record s { phase = Over }) (StartHere ∷ map (send_start s.plan) (others_of s.plan))) (waits s) refl h

ready_quietly : (s : AttemptState) (p : Phase) → s.phase ≡ p → IsQuietly s → IsQuietly (own_readying_in s p).after
ready_quietly s Installing at h = starting_quietly (record s { own_ready = true }) h
ready_quietly s Collecting at h = h
ready_quietly s Choosing at h = h
ready_quietly s SeizingVotes at h = h
ready_quietly s SeizingOthers at h = h
ready_quietly s Over at h = h

own_ready_quietly : (s : AttemptState) → IsQuietly s → IsQuietly (turn s Own_ready).after
unfolding own_readying
own_ready_quietly s h = ready_quietly s s.phase refl h

readied_quietly : (c : Cluster) (n : ℕ) (x : UpNode) (o : Option AttemptState) → In IsQuietly o → Has IsQuietly x → LeadsTo c n (Has IsQuietly) x (cuts.readied_course c n x o)
readied_quietly c n x None here h = h
readied_quietly c n x (Some a) here h = turned_all_has IsQuietly c n x a Own_ready (own_ready_quietly a here)

joined_quietly : (c : Cluster) (n : ℕ) (x : UpNode) (o : Option ℕ) → Has IsQuietly x → LeadsTo c n (Has IsQuietly) x (cuts.joined_course c n x o)
joined_quietly c n x None h = h
joined_quietly c n x (Some k) h =
    if_either (LeadsTo c n (Has IsQuietly) x) (k == n) (cuts.own_ready_course c n x) (cuts.readying_course c x k)
    (if_either (LeadsTo c n (Has IsQuietly) x) (joins x.tasks) Stops (cuts.readied_course c n x x.attempt) h (readied_quietly c n x x.attempt h h))
    (if_either (LeadsTo c n (Has IsQuietly) x) (joins x.tasks) Stops (writing k (ready_of c x)) h h)

joining_quietly : (c : Cluster) (n : ℕ) (x : UpNode) (at : ℕ) (k : PrCommand) (a : Answer) (d : ℕ) (r : JoinResult) → Has IsQuietly x → LeadsTo c n (Has IsQuietly) x (cuts.joining_course c n x at k a d r)
joining_quietly c n x at k a d join.Joined h = let y : UpNode = joining_so (answered_so x a) d in joined_quietly c n y (coordinator_of y) h
joining_quietly c n x at k a d (join.Late w) h = let y : UpNode = answered_so x a in joined_quietly c n y (coordinator_of y) h
joining_quietly c n x at k a d join.Fault h = let y : UpNode = answered_so x a in joined_quietly c n y (coordinator_of y) h

-- ---- a command

-- the call that the attempt takes
abbrev pub call_by : Progress → Call
call_by GoesOn = Own_ready
call_by (Seized d r) = Own_seized d r
call_by (Joined d r) = Own_ready

module _ (c : Cluster) (n : ℕ) (y : UpNode) (k : Call) where
  own_out : (d : ℕ) (r : SeizeResult) (o : Option AttemptState) → y.attempt ≡ o → k ≡ Own_seized d r → GoesOut c n (Onward n (Took c n y k)) y [] (cuts.own_seized_course c n y d r o)
  own_out d r None at is = onward_start c n y k [] tt
  own_out d r (Some a) at is = subst (λ q. GoesOut c n (Onward n (Took c n y q)) y [] (cuts.going_course c n y a (Own_seized d r))) (sym is) (call_out c n y [] a (Own_seized d r) at tt)

  seized_out : (d : ℕ) (r : SeizeResult) (o : Option ℕ) → k ≡ Own_seized d r → GoesOut c n (Onward n (Took c n y k)) y [] (cuts.seized_course c n y d r o)
  seized_out d r None is = onward_start c n y k [] tt
  seized_out d r (Some m) is =
      if_either (GoesOut c n (Onward n (Took c n y k)) y []) (m == n) (cuts.own_seized_course c n y d r y.attempt) (writing m (body.Seized (session_of y) d r)) (own_out d r y.attempt refl is)
      (λ so. onward_start c n y k (Sends m (body.Seized (session_of y) d r) ∷ []) (tt, tt))

-- A task of a coordinator goes on, or ends; that of another's session, or of an install, is nothing to an attempt that seizes devices.
pub answered_out : (c : Cluster) (n : ℕ) (x : UpNode) (a : Answer) (d : ℕ) (q : PrCommand) → ((e : ℕ) (r : JoinResult) → progress_after x.tasks a ≡ Joined e r → Has IsQuietly x)
    → GoesOut c n (OnwardFrom n (command_line n d q a) (Took c n (answered_so x a) (call_by (progress_after x.tasks a)))) x [] (cuts.answered_course c n x a (Some d) (Some q))
answered_out c n x a d q joins_none = by_progress (progress_after x.tasks a) refl
  where
    y : UpNode
    y = answered_so x a

    line : List Output
    line = command_line n d q a

    by_progress : (p : Progress) → progress_after x.tasks a ≡ p → GoesOut c n (OnwardFrom n line (Took c n y (call_by p))) x [] (cuts.progress_course c n x d q a p)
    by_progress GoesOn is = λ so. from_behind n line (Took c n y Own_ready) y line ([], refl, onward_start c n y Own_ready [] tt)
    by_progress (Seized e r) is = λ so.
        let k : Call = Own_seized e r in
        out_by c n (Behind line (Onward n (Took c n y k))) (OnwardFrom n line (Took c n y k)) y line (cuts.seized_course c n y e r (coordinator_of y)) (λ z all h. from_behind n line (Took c n y k) z all h)
        (out_behind c n (Onward n (Took c n y k)) y line [] (cuts.seized_course c n y e r (coordinator_of y)) (seized_out c n y k e r (coordinator_of y) refl))
    by_progress (Joined e r) is =
        out_leads c n (Has IsQuietly) (OnwardFrom n line (Took c n y Own_ready)) x [] (cuts.joining_course c n x d q a e r) (λ z all h. quietly_from n line (Took c n y Own_ready) z all h)
        (joining_quietly c n x d q a e r (joins_none e r is))
