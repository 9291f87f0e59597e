-- What comes to a node beside messages, answers of devices and ticks leaves its tasks as those of the lines.
use Rattle.std.specs.Prelude.{ℕ, ◌≡◌, true, false, List, [], Some}
use Rattle.std.proofs.Common.{sym, ap, subst, ◌∙◌}
use Rattle.cl_base.specs.declared.method.Outcome as method
use Rattle.cmm_attempt.specs.Attempts.{AttemptState}
use Rattle.history.specs.Member.{in_collect}
use Rattle.history.specs.Queue as told
use Rattle.history.specs.Setting.{Setting}
use Rattle.machine_base.proofs.Puts.{put_here}
use Rattle.node_model.specs.Steps.{Outcome, stepped}
use Rattle.node_model.specs.declared.cluster.Cluster.{Cluster}
use Rattle.node_model.specs.declared.input.Input.{Input}
use Rattle.node_model.specs.declared.node.Node.{Node}
use Rattle.node_model.specs.declared.node.Node.TheVariants.{Up}
use Rattle.node_model.specs.declared.node.UpNode.{UpNode}
use Rattle.node_model.specs.declared.output.Output.{Output}
use Rattle.record_disk.specs.Disks.{DiskState}
use Rattle.refinement.specs.Cuts.{course_at}
use Rattle.refinement.specs.Runs.{moved}
use Rattle.refinement.specs.Runs.Move.{Takes as Takes_in}
use Rattle.refinement.specs.Steps.{disk_rules}
use Rattle.run_devices.specs.queues.Laws.{Same}
use Rattle.run_history.proofs.Idle.{passing_nodes}
use Rattle.run_history.specs.Happenings.{given_by, taking}
use Rattle.run_history.specs.Scenes.{Scene}
use Rattle.run_outcomes.specs.phases.Kept.{In}
use Rattle.run_outcomes.specs.phases.Laws.{is_seizing}
use Rattle.run_outcomes.specs.saves.Kept.{IsAt}
use Rattle.run_outcomes.specs.tasks.Onward.{AreStill, GoesOut, Onward, OnwardOf}
use Rattle.run_outcomes.proofs.onward.Given.{EndsOut, step_out}
use Rattle.run_outcomes.proofs.onward.Inputs.{IsBesides, IsSame, besides_out}
use Rattle.run_outcomes.proofs.onward.Passing.{Passed, still_passed}
use Rattle.run_outcomes.proofs.told_tasks.Closed.{closed_all}
use Rattle.run_outcomes.proofs.told_tasks.Quiet.{same_tasks}
use Rattle.run_outcomes.specs.tasks.Lasting.{lasts_open}

-- what holds along the course of the step holds of the node after it
pub taken_here : (c : Cluster) (n now : ℕ) (ends : method.Outcome) (i : Input) (t : Scene) (J : UpNode → List Output → Type 0) (x y : UpNode) → t.nodes.node n ≡ Up x → (taking c n now ends i t).nodes.node n ≡ Up y
    → GoesOut c n J x [] (course_at c n now ends x i) → J y (given_by c n now ends i t.nodes)
taken_here c n now ends i t J x y was up h = subst (IsAt (λ z. J z (given_by c n now ends i t.nodes))) node done
  where
    o : Outcome DiskState
    o = stepped disk_rules c n now ends (t.nodes.node n) (t.nodes.disk n) i

    done : IsAt (λ z. J z o.given) o.after
    done = subst (λ (w : Node). EndsOut J (stepped disk_rules c n now ends w (t.nodes.disk n) i)) (sym was) (step_out c n now ends J x i (t.nodes.disk n) h)

    node : o.after ≡ Up y
    node = sym (put_here t.nodes.node n o.after) ∙ (sym (ap (λ v. v.node n) (passing_nodes n (given_by c n now ends i t.nodes) (record t { nodes = moved c t.nodes (Takes_in n now ends i) }))) ∙ up)

-- nothing that was given changes the tasks, so none of its lines does
pub given_passed : (c : Cluster) (n now : ℕ) (ends : method.Outcome) (i : Input) (t : Scene) → in_collect n t.moments ≡ false → AreStill n (given_by c n now ends i t.nodes) → Passed n t.moments (taking c n now ends i t).moments
given_passed c n now ends i t calm still = still_passed n (given_by c n now ends i t.nodes) (record t { nodes = moved c t.nodes (Takes_in n now ends i) }) calm still

pub besides_same : (S : Setting) (c : Cluster) (n now : ℕ) (ends : method.Outcome) (i : Input) (t : Scene) (x y : UpNode) (b : AttemptState) → IsBesides i → in_collect n t.moments ≡ false
    → t.nodes.node n ≡ Up x → (taking c n now ends i t).nodes.node n ≡ Up y → y.attempt ≡ Some b → is_seizing b.phase ≡ true
    → lasts_open S n (taking c n now ends i t).moments ≡ false
    → (x.attempt ≡ Some b → lasts_open S n t.moments ≡ false → Same x.tasks (told.tasks_of S n t.moments)) → Same y.tasks (told.tasks_of S n (taking c n now ends i t).moments)
besides_same S c n now ends i t x y b is calm was up at seizing closed before =
    let h : AreStill n (given_by c n now ends i t.nodes) × IsSame x b y.tasks =
    subst (In (OnwardOf n (IsSame x) y.tasks (given_by c n now ends i t.nodes))) at (taken_here c n now ends i t (Onward n (IsSame x)) x y was up (besides_out c n now ends x i is)) seizing in
    let z : Passed n t.moments (taking c n now ends i t).moments = given_passed c n now ends i t calm h.0 in
    subst (λ ms. Same y.tasks (told.tasks_of S n ms)) (sym z.parts)
    (subst (Same y.tasks) (sym (same_tasks S n t.moments z.newer z.quiet))
    (subst (λ ts. Same ts (told.tasks_of S n t.moments)) (sym h.1.1) (before h.1.0 (closed_all S n t.moments z.newer z.quiet (subst (λ ms. lasts_open S n ms ≡ false) z.parts closed)))))
