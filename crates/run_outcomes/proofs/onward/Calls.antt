-- A call that the attempt of a node takes: what it leaves of the attempt and of the tasks, and that no line changes these.
use Rattle.std.specs.Prelude.{ℕ, ◌≡◌, ◌++◌, Bool, true, false, List, [], ◌∷◌, Option, None, Some, if◌then◌else◌}
use Rattle.std.specs.List.{AllByRecursion}
use Rattle.std.specs.Option.{unwrap_or}
use Rattle.std.proofs.Common.{refl, sym, ap, subst, ◌∙◌, append_assoc, append-nil, inl, inr}
use Rattle.attempt_laws.specs.Staying.{IsFinal}
use Rattle.cl_base.specs.Sets.{has}
use Rattle.cmm_attempt.proofs.Basics.{if_either}
use Rattle.cmm_attempt.specs.Attempts.{AttemptState, newest_installed}
use Rattle.cmm_attempt.specs.Calls.{Call, With_votes, starts_in, turn}
use Rattle.cmm_attempt.specs.declared.step.AttemptEnd.{AttemptEnd}
use Rattle.cmm_attempt.specs.declared.step.Step.{Step}
use Rattle.cmm_attempt.specs.declared.step.Step.TheVariants as step
use Rattle.device_queue.specs.Queue.{after_seize, put_unless, seizure_of}
use Rattle.device_queue.specs.declared.task.Task.{Task}
use Rattle.device_queue.specs.declared.task.Work.TheVariants.{Seizing as Seizing_of}
use Rattle.node_model.specs.Attempts.{is_choosing, left_out_by, resting, votes_in}
use Rattle.node_model.specs.Seats.{record_of}
use Rattle.node_model.specs.declared.cluster.Cluster.{Cluster}
use Rattle.node_model.specs.declared.node.UpNode.{UpNode}
use Rattle.node_model.specs.declared.output.Output.{Output}
use Rattle.node_model.specs.declared.output.Output.TheVariants.{Sends}
use Rattle.node_model.specs.declared.presidency.Presidency.{Presidency}
use Rattle.node_model.specs.Deciding.{may_order}
use Rattle.refinement.specs.Courses.{Course, joined}
use Rattle.refinement.specs.Courses.Course.{Acts, Stops}
use Rattle.refinement.specs.Cuts as cuts
use Rattle.refinement.specs.Cuts.{deciding_course, if_installed, if_started, steps_course}
use Rattle.refinement.specs.Doings.{going}
use Rattle.refinement.specs.Doings.Act.{Goes_on}
use Rattle.run_history.proofs.Lists.{both}
use Rattle.run_history.specs.Guards.{IsStep}
use Rattle.seize.specs.Seizing as seizing
use Rattle.seize.specs.Seizing.{SeizeState}
use Rattle.seize.specs.declared.kind.SeizeKind.{SeizeKind}
use Rattle.run_downs.proofs.Courses.{by_test}
use Rattle.run_outcomes.specs.phases.Kept.{In}
use Rattle.run_outcomes.specs.saves.Courses.{LeadsTo}
use Rattle.run_outcomes.specs.tasks.Onward.{AreStill, ByEither, ByTurn, GoesOut, IsBegun, IsStill, Onward, OnwardOf}
use Rattle.run_outcomes.specs.tasks.Own.{IsFinalWhere}
use Rattle.run_outcomes.proofs.saves.Rests.{leads_joined}
use Rattle.run_outcomes.proofs.own_tasks.Beside.{AreLeft}
use Rattle.run_outcomes.proofs.phases.Leading.{Has, called_has, excluded_l, leaves_has, steps_has}
use Rattle.run_outcomes.proofs.onward.Beside.{left_out}
use Rattle.run_outcomes.proofs.onward.Finals.{Finished, final_seizes_not, final_where, finished_led}
use Rattle.run_outcomes.proofs.onward.Given.{out_by, out_joined, out_leads}

-- ---- an attempt that is over, or installs

abbrev Never : AttemptState → Type 0
Never a = ⊥

pub never_onward : (n : ℕ) (R : AttemptState → List Task → Type 0) (y : UpNode) (os : List Output) → Has Never y → Onward n R y os
never_onward n R y os h = by_attempt y.attempt h
  where
    by_attempt : (o : Option AttemptState) → In Never o → In (OnwardOf n R y.tasks os) o
    by_attempt None k = tt
    by_attempt (Some b) k = absurd k

pub finished_onward : (n : ℕ) (R : AttemptState → List Task → Type 0) (y : UpNode) (os : List Output) → Has Finished y → Onward n R y os
finished_onward n R y os h = by_attempt y.attempt h
  where
    by_attempt : (o : Option AttemptState) → In Finished o → In (OnwardOf n R y.tasks os) o
    by_attempt None k = tt
    by_attempt (Some b) k = λ is. absurd (final_seizes_not b.phase k is)

ended_leads : (c : Cluster) (me : ℕ) (x : UpNode) (e : AttemptEnd) (a : AttemptState) (steps : List Step) → LeadsTo c me (Has Never) x (joined c me x (cuts.ended_course me e (Some a)) (λ y. steps_course c me y steps))
ended_leads c me x e a steps =
    let out : Course = cuts.excluded_course me a.plan.epoch (unwrap_or (newest_installed a) 0) (left_out_by e) in
    leads_joined c me (Has Never) (Has Never) (resting x) out (λ y. steps_course c me y steps)
    (leaves_has Never c me (resting x) out (excluded_l me a.plan.epoch (unwrap_or (newest_installed a) 0) (left_out_by e)) tt) (λ y h. steps_has Never c me y steps h)

-- ---- the steps of a turn

-- one task more, or none
pub record PutSo (t : Task) (ts : List Task) (us : List Task) : Type 1 where
  pub new : List Task
  pub parts : us ≡ ts ++ new
  pub each : (P : Task → Type 0) → P t → AllByRecursion P new

put_so : (o : Option Task) (t : Task) (ts : List Task) → PutSo t ts (put_unless o t ts)
put_so None t ts = record { new = t ∷ []; parts = refl; each = λ P h. (h, tt) }
put_so (Some u) t ts = record { new = []; parts = sym (append-nil ts); each = λ P h. tt }

module _ (c : Cluster) (n valid : ℕ) (a : AttemptState) (k : Call) (old : List Task) where
  abbrev J : UpNode → List Output → Type 0
  J x os = Onward n (ByTurn c n valid a k old) x os

  pub record SoFar (x : UpNode) (os : List Output) : Type 0 where
    pub at : x.attempt ≡ Some (turn a k).after
    pub new : List Task
    pub tasks : x.tasks ≡ old ++ new
    pub valid_so : (record_of x).valid ≡ valid
    pub still : AreStill n os
    pub begun : AllByRecursion (IsBegun c n valid a k) new

  far_onward : (x : UpNode) (os : List Output) → SoFar x os → J x os
  far_onward x os h =
      subst (In (OnwardOf n (ByTurn c n valid a k old) x.tasks os)) (sym h.at) (λ is. (h.still, record { is = refl; new = h.new; tasks = h.tasks; begun = h.begun }))

  more_far : (x : UpNode) (os more : List Output) → AreStill n more → SoFar x os → SoFar x (os ++ more)
  more_far x os more still h = record { at = h.at; new = h.new; tasks = h.tasks; valid_so = h.valid_so; still = both (IsStill n) os more h.still still; begun = h.begun }

  seized_far : (x : UpNode) (os : List Output) (d : ℕ) (kind : SeizeKind) → IsStep (step.SeizeHere d kind) (turn a k).steps → SoFar x os
      → SoFar (record x { tasks = after_seize x.tasks d (seizing.begun kind (turn a k).after.plan.epoch (turn a k).after.plan.members n c.id (has (record_of x).valid d)) }) os
  seized_far x os d kind is h =
      let t : Task = record { device = d; work = Seizing_of (seizing.begun kind (turn a k).after.plan.epoch (turn a k).after.plan.members n c.id (has (record_of x).valid d)) } in
      let p : PutSo t x.tasks (put_unless (seizure_of x.tasks d) t x.tasks) = put_so (seizure_of x.tasks d) t x.tasks in
      record {
        at = h.at;
        new = h.new ++ p.new;
        tasks = p.parts ∙ (ap (λ ts. ts ++ p.new) h.tasks ∙ append_assoc old h.new p.new);
        valid_so = h.valid_so;
        still = h.still;
        begun = both (IsBegun c n valid a k) h.new p.new h.begun
            (p.each (IsBegun c n valid a k)
            (record {
              kind = kind;
              step = is;
              work = ap (λ v. Seizing_of (seizing.begun kind (turn a k).after.plan.epoch (turn a k).after.plan.members n c.id (has v d))) h.valid_so;
            }));
      }

  pub steps_out : (x : UpNode) (os : List Output) (steps : List Step) → ((s : Step) → IsStep s steps → IsStep s (turn a k).steps) → SoFar x os → GoesOut c n J x os (steps_course c n x steps)
  steps_out x os [] among h = far_onward x os h
  steps_out x os (step.Send to m ∷ steps) among h = λ so. steps_out x (os ++ Sends to m.body ∷ []) steps (λ s is. among s (inr is)) (more_far x os (Sends to m.body ∷ []) (tt, tt) h)
  steps_out x os (step.NeedVotes m ∷ steps) among h = steps_out x os steps (λ s is. among s (inr is)) h
  steps_out x os (step.InstallHere i ∷ steps) among h = steps_out x os steps (λ s is. among s (inr is)) h
  steps_out x os (step.StartHere ∷ steps) among h = steps_out x os steps (λ s is. among s (inr is)) h
  steps_out x os (step.Ended e ∷ steps) among h =
      subst (λ o. GoesOut c n J x os (joined c n x (cuts.ended_course n e o) (λ y. steps_course c n y steps))) (sym h.at)
      (out_leads c n (Has Never) J x os (joined c n x (cuts.ended_course n e (Some (turn a k).after)) (λ y. steps_course c n y steps)) (λ y more never. never_onward n (ByTurn c n valid a k old) y more never)
      (ended_leads c n x e (turn a k).after steps))
  steps_out x os (step.SeizeHere d kind ∷ steps) among h =
      subst (λ o. GoesOut c n J x os (joined c n x (cuts.queued_course d kind o) (λ y. steps_course c n y steps))) (sym h.at)
      (λ so.
      by_member (has (turn a k).after.plan.members n) (λ far. steps_out y (os ++ []) steps (λ s is. among s (inr is)) far) (λ far. steps_out x (os ++ []) steps (λ s is. among s (inr is)) far))
    where
      y : UpNode
      y = record x { tasks = after_seize x.tasks d (seizing.begun kind (turn a k).after.plan.epoch (turn a k).after.plan.members n c.id (has (record_of x).valid d)) }

      by_member : (b : Bool) → (SoFar y (os ++ []) → GoesOut c n J y (os ++ []) (steps_course c n y steps)) → (SoFar x (os ++ []) → GoesOut c n J x (os ++ []) (steps_course c n x steps))
          → GoesOut c n J (if b then y else x) (os ++ []) (steps_course c n (if b then y else x) steps)
      by_member true there here = there (more_far y os [] tt (seized_far x os d kind (among (step.SeizeHere d kind) (inl refl)) h))
      by_member false there here = here (more_far x os [] tt h)

-- ---- a turn

deciding_by_left : (c : Cluster) (me : ℕ) (x : UpNode) (o : Option Presidency) → AreLeft (cuts.deciding_by_course c me x o)
deciding_by_left c me x None = tt
deciding_by_left c me x (Some p) = if_either AreLeft (may_order p.groups) _ Stops (tt, (tt, tt)) tt

abbrev called_with : Cluster → ℕ → UpNode → AttemptState → Call → List Step → Course
called_with c me x a k steps = joined c me x (joined c me x (cuts.turned_by c me x a k steps) (if_started c me steps)) (if_installed c me steps)

pub called_out : (c : Cluster) (n valid : ℕ) (x : UpNode) (os : List Output) (a : AttemptState) (k : Call) → AreStill n os → (record_of x).valid ≡ valid → GoesOut c n (Onward n (ByTurn c n valid a k x.tasks)) x os (cuts.called c n x a k)
called_out c n valid x os a k still valid_so = by_steps (turn a k).steps (λ s is. is) (final_where a k) (λ final. finished final)
  where
    R : AttemptState → List Task → Type 0
    R = ByTurn c n valid a k x.tasks

    finished : IsFinal (turn a k).after.phase → GoesOut c n (Onward n R) x os (cuts.called c n x a k)
    finished final =
        out_leads c n (Has Finished) (Onward n R) x os (cuts.called c n x a k) (λ y more h. finished_onward n R y more h) (called_has Finished c n x a k finished_led final)

    gone : (steps : List Step) → ((s : Step) → IsStep s steps → IsStep s (turn a k).steps) → GoesOut c n (Onward n R) x os (joined c n x (joined c n x (cuts.gone_on c n x a k steps) (if_started c n steps)) (λ y. Stops))
    gone steps among =
        out_joined c n (Onward n R) (Onward n R) x os (joined c n x (cuts.gone_on c n x a k steps) (if_started c n steps)) (λ y. Stops)
        (out_joined c n (Onward n R) (Onward n R) x os (cuts.gone_on c n x a k steps) (if_started c n steps)
        (λ so. steps_out c n valid a k x.tasks (going x a k) (os ++ []) steps among
        (record { at = refl; new = []; tasks = sym (append-nil x.tasks); valid_so = valid_so; still = both (IsStill n) os [] still tt; begun = tt }))
        (λ y more h. if_either (GoesOut c n (Onward n R) y more) (starts_in steps) (deciding_course c n y) Stops (left_out c n R y more (deciding_course c n y) (deciding_by_left c n y y.presidency) h) h))
        (λ y more h. h)

    by_steps : (steps : List Step) → ((s : Step) → IsStep s steps → IsStep s (turn a k).steps) → IsFinalWhere steps (turn a k).after.phase
        → (IsFinal (turn a k).after.phase → GoesOut c n (Onward n R) x os (called_with c n x a k steps)) → GoesOut c n (Onward n R) x os (called_with c n x a k steps)
    by_steps [] among final h = gone [] among
    by_steps (step.InstallHere i ∷ rest) among final h = h final
    by_steps (step.StartHere ∷ rest) among final h = h final
    by_steps (step.Send to m ∷ rest) among final h = gone (step.Send to m ∷ rest) among
    by_steps (step.SeizeHere d kind ∷ rest) among final h = gone (step.SeizeHere d kind ∷ rest) among
    by_steps (step.NeedVotes m ∷ rest) among final h = gone (step.NeedVotes m ∷ rest) among
    by_steps (step.Ended e ∷ rest) among final h = gone (step.Ended e ∷ rest) among

pub onward_by : (n : ℕ) (R Q : AttemptState → List Task → Type 0) (y : UpNode) (os : List Output) → ((b : AttemptState) (ts : List Task) → R b ts → Q b ts) → Onward n R y os → Onward n Q y os
onward_by n R Q y os f h = by_attempt y.attempt h
  where
    by_attempt : (o : Option AttemptState) → In (OnwardOf n R y.tasks os) o → In (OnwardOf n Q y.tasks os) o
    by_attempt None k = tt
    by_attempt (Some b) k = λ is. let z : AreStill n os × R b y.tasks = k is in (z.0, f b y.tasks z.1)

pub going_out : (c : Cluster) (n : ℕ) (x : UpNode) (os : List Output) (a : AttemptState) (k : Call) → AreStill n os → GoesOut c n (Onward n (ByEither c n (record_of x).valid a k x.tasks)) x os (cuts.going_course c n x a k)
going_out c n x os a k still =
    let t : AttemptState = (turn a k).after in
    let votes : Call = With_votes (votes_in c t) in
    let v : ℕ = (record_of x).valid in
    let Q : AttemptState → List Task → Type 0 = ByEither c n v a k x.tasks in
    by_test (GoesOut c n (Onward n Q) x os) (is_choosing t.phase) (Acts (Goes_on a k) (cuts.called c n (going x a k) t votes)) (cuts.called c n x a k)
    (λ chooses so.
    out_by c n (Onward n (ByTurn c n v t votes x.tasks)) (Onward n Q) (going x a k) (os ++ []) (cuts.called c n (going x a k) t votes)
    (λ y more h. onward_by n (ByTurn c n v t votes x.tasks) Q y more (λ b ts r. inr (chooses, r)) h) (called_out c n v (going x a k) (os ++ []) t votes (both (IsStill n) os [] still tt) refl))
    (λ rests.
    out_by c n (Onward n (ByTurn c n v a k x.tasks)) (Onward n Q) x os (cuts.called c n x a k)
    (λ y more h. onward_by n (ByTurn c n v a k x.tasks) Q y more (λ b ts r. inl (rests, r)) h) (called_out c n v x os a k still refl))
