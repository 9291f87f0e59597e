-- A node that does nothing stays tied, while others go on and attempts grow.
use Rattle.std.specs.Prelude.{ℕ, ◌≡◌, ◌<◌, List, [], ◌∷◌}
use Rattle.std.proofs.Common.{refl, sym, ap, subst, ◌∙◌}
use Rattle.std.specs.List.{AllByRecursion}
use Rattle.cl_base.specs.Seizings.{SeizeResult}
use Rattle.cl_base.specs.declared.seizing.SeizeEnd.TheVariants as end
use Rattle.cluster_machine.specs.Cluster.{Cluster as Whole}
use Rattle.device_machine.specs.Growth.{AttemptGrows}
use Rattle.device_machine.specs.Initiator.{Initiator}
use Rattle.device_machine.specs.Phase.{Phase}
use Rattle.device_machine.specs.Sharing.{Sharing}
use Rattle.device_queue.specs.declared.task.Task.{Task}
use Rattle.device_queue.specs.declared.task.Work.{Work}
use Rattle.device_queue.specs.declared.task.Work.TheVariants as work
use Rattle.device_ties.specs.Tasks as ties
use Rattle.device_ties.specs.Tasks.{AtDevice, JoiningTied, SeizingTied, ToldSo}
use Rattle.device_ties.proofs.Ties.{stays_at}
use Rattle.node_model.specs.declared.cluster.Cluster.{Cluster}
use Rattle.node_model.specs.declared.node.UpNode.{UpNode}
use Rattle.seize.specs.Joining.{JoinState}
use Rattle.seize.specs.Seizing.{SeizeState}
use Rattle.seize.specs.declared.step.JoinStep.{JoinStep}
use Rattle.seize.specs.declared.step.JoinStep.TheVariants as join
use Rattle.seize.specs.declared.step.SeizeStep.{SeizeStep}
use Rattle.seize.specs.declared.step.SeizeStep.TheVariants as seize
use Rattle.cluster_ties.specs.Ties.{AttemptAt, JoiningAt, SeizingAt, TaskAt, UpAt, WorkAt}

abbrev Grow : Sharing → Sharing → Type 0
Grow s u = (q : ℕ) → AttemptGrows (s.attempt q) (u.attempt q)

told_same : (s u : Sharing) (q n : ℕ) (r : SeizeResult) → u.node n ≡ s.node n → ToldSo s q n r → ToldSo u q n r
told_same s u q n (end.Held keys) e h = (ap (λ (v : Initiator). v.past.ended q) e ∙ h.0, ap (λ (v : Initiator). v.past.seized q) e ∙ h.1)
told_same s u q n (end.NotRegistered keys) e h = (ap (λ (v : Initiator). v.past.ended q) e ∙ h.0, ap (λ (v : Initiator). v.past.unregistered q) e ∙ h.1)
told_same s u q n (end.Greater w) e h = (ap (λ (v : Initiator). v.past.ended q) e ∙ h.0, tt)
told_same s u q n end.Expelled e h = (ap (λ (v : Initiator). v.past.ended q) e ∙ h.0, tt)
told_same s u q n (end.Contended key) e h = (ap (λ (v : Initiator). v.past.ended q) e ∙ h.0, tt)
told_same s u q n end.Fault e h = (ap (λ (v : Initiator). v.past.ended q) e ∙ h.0, tt)

tied_same : (cluster n : ℕ) (s u : Sharing) (t : SeizeState) → u.node n ≡ s.node n → Grow s u → SeizingTied cluster n s t → SeizingTied cluster n u t
tied_same cluster n s u t e g h =
    let at : AtDevice cluster n s (s.node n).valid (s.node n).joined (ties.Seizes t) = record { valid = refl; joined = refl; task = h } in
    (stays_at cluster n s u (s.node n).valid (s.node n).joined (ties.Seizes t) e g at).task

joins_same : (cluster n : ℕ) (s u : Sharing) (j : JoinState) → u.node n ≡ s.node n → Grow s u → JoiningTied cluster n s j → JoiningTied cluster n u j
joins_same cluster n s u j e g h =
    let at : AtDevice cluster n s (s.node n).valid (s.node n).joined (ties.Joins j) = record { valid = refl; joined = refl; task = h } in
    (stays_at cluster n s u (s.node n).valid (s.node n).joined (ties.Joins j) e g at).task

low_same : (n : ℕ) (s u : Sharing) → u.node n ≡ s.node n → (s.node n).installed < (s.node n).session → (u.node n).installed < (u.node n).session
low_same n s u e h = subst (λ (v : Initiator). v.installed < v.session) (sym e) h

seizing_same : (cluster n : ℕ) (s u : Sharing) (t : SeizeState) (step : SeizeStep) → u.node n ≡ s.node n → Grow s u → SeizingAt cluster n s t step → SeizingAt cluster n u t step
seizing_same cluster n s u t (seize.Ended r) e g h = (told_same s u t.epoch n r e h.0, ap (λ (v : Initiator). v.session) e ∙ h.1)
seizing_same cluster n s u t seize.Check e g h = (tied_same cluster n s u t e g h.0, low_same n s u e h.1)
seizing_same cluster n s u t seize.Register e g h = (tied_same cluster n s u t e g h.0, low_same n s u e h.1)
seizing_same cluster n s u t seize.ReadWord e g h = (tied_same cluster n s u t e g h.0, low_same n s u e h.1)
seizing_same cluster n s u t (seize.Swap expected) e g h = (tied_same cluster n s u t e g h.0, low_same n s u e h.1)
seizing_same cluster n s u t seize.Reserve e g h = (tied_same cluster n s u t e g h.0, low_same n s u e h.1)
seizing_same cluster n s u t (seize.ReadKeys reading) e g h = (tied_same cluster n s u t e g h.0, low_same n s u e h.1)
seizing_same cluster n s u t (seize.Preempt victim reading) e g h = (tied_same cluster n s u t e g h.0, low_same n s u e h.1)
seizing_same cluster n s u t (seize.Confirm keys) e g h = (tied_same cluster n s u t e g h.0, low_same n s u e h.1)

joining_same : (cluster n : ℕ) (s u : Sharing) (j : JoinState) (step : JoinStep) → u.node n ≡ s.node n → Grow s u → JoiningAt cluster n s j step → JoiningAt cluster n u j step
joining_same cluster n s u j (join.Ended r) e g h = tt
joining_same cluster n s u j join.Register e g h = joins_same cluster n s u j e g h
joining_same cluster n s u j join.ReadWord e g h = joins_same cluster n s u j e g h

work_same : (cluster n : ℕ) (s u : Sharing) (w : Work) → u.node n ≡ s.node n → Grow s u → WorkAt cluster n s w → WorkAt cluster n u w
work_same cluster n s u (work.Seizing t) e g h = seizing_same cluster n s u t t.step e g h
work_same cluster n s u (work.Joining j) e g h = joining_same cluster n s u j j.step e g h

tasks_same : (c : Cluster) (W V : Whole) (n : ℕ) (tasks : List Task) → ((d : ℕ) → (V.device d).node n ≡ (W.device d).node n) → ((d : ℕ) → Grow (W.device d) (V.device d))
    → AllByRecursion (TaskAt c W n) tasks → AllByRecursion (TaskAt c V n) tasks
tasks_same c W V n [] e g h = tt
tasks_same c W V n (t ∷ tasks) e g h = (work_same c.id n (W.device t.device) (V.device t.device) t.work (e t.device) (g t.device) h.0, tasks_same c W V n tasks e g h.1)

pub up_stays : (c : Cluster) (W V : Whole) (n : ℕ) (x : UpNode) → ((d : ℕ) → (V.device d).node n ≡ (W.device d).node n) → ((d : ℕ) → Grow (W.device d) (V.device d))
    → (AttemptAt W x.attempt → AttemptAt V x.attempt) → UpAt c W n x → UpAt c V n x
up_stays c W V n x e g attempts at = record {
  marks = λ d. record { valid = ap (λ (v : Initiator). v.valid) (e d) ∙ (at.marks d).valid; joined = ap (λ (v : Initiator). v.joined) (e d) ∙ (at.marks d).joined };
  tasks = tasks_same c W V n x.tasks e g at.tasks;
  once = at.once;
  idle = λ d none. subst (λ (v : Initiator). v.installed < v.session → v.phase ≡ Phase.Idle) (sym (e d)) (at.idle d none);
  attempt = attempts at.attempt;
}
