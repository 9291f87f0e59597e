-- How a seizing ended that is kept among a node's tasks is so at the device.
use Rattle.std.specs.Prelude.{ℕ, ◌≡◌, List, [], ◌∷◌, Some}
use Rattle.std.proofs.Common.{sym, subst, inl, inr}
use Rattle.std.specs.List.{AllByRecursion}
use Rattle.attempt_laws.specs.Asking.{EndedSo}
use Rattle.cl_base.specs.Seizings.{SeizeResult}
use Rattle.cl_base.specs.declared.seizing.SeizeEnd.TheVariants as end
use Rattle.cluster_machine.specs.Cluster.{Cluster as Whole}
use Rattle.cmm_attempt.proofs.Basics.{none_some, same_some}
use Rattle.device_machine.specs.Sharing.{Sharing}
use Rattle.device_queue.specs.Tasks.{result_in}
use Rattle.device_queue.specs.declared.task.Task.{Task}
use Rattle.device_queue.specs.declared.task.Work.{Work}
use Rattle.device_queue.specs.declared.task.Work.TheVariants as work
use Rattle.device_ties.specs.Tasks.{ToldSo}
use Rattle.node_model.specs.declared.cluster.Cluster.{Cluster}
use Rattle.seize.specs.Seizing as seizing
use Rattle.seize.specs.Seizing.{SeizeState}
use Rattle.seize.specs.declared.step.SeizeStep.{SeizeStep}
use Rattle.seize.specs.declared.step.SeizeStep.TheVariants as seize
use Rattle.cluster_ties.specs.Ties.{SeizingAt, TaskAt, WorkAt}
use Rattle.run_history.specs.Guards.{HasEnded}

ended_so : (s : Sharing) (q n : ℕ) (r : SeizeResult) → ToldSo s q n r → EndedSo s q n r
ended_so s q n (end.Held keys) h = h
ended_so s q n (end.NotRegistered keys) h = h
ended_so s q n (end.Greater w) h = h
ended_so s q n end.Expelled h = h
ended_so s q n (end.Contended key) h = h
ended_so s q n end.Fault h = h

ended_at : (cluster n : ℕ) (s : Sharing) (t : SeizeState) (step : SeizeStep) (r : SeizeResult) → seizing.result_at step ≡ Some r → SeizingAt cluster n s t step → EndedSo s (s.node n).session n r
ended_at cluster n s t (seize.Ended told) r is h =
    subst (λ z. EndedSo s (s.node n).session n z) (same_some told r is) (subst (λ q. EndedSo s q n told) (sym h.1) (ended_so s t.epoch n told h.0))
ended_at cluster n s t seize.Check r is h = absurd (none_some r is)
ended_at cluster n s t seize.Register r is h = absurd (none_some r is)
ended_at cluster n s t seize.ReadWord r is h = absurd (none_some r is)
ended_at cluster n s t (seize.Swap expected) r is h = absurd (none_some r is)
ended_at cluster n s t seize.Reserve r is h = absurd (none_some r is)
ended_at cluster n s t (seize.ReadKeys reading) r is h = absurd (none_some r is)
ended_at cluster n s t (seize.Preempt victim reading) r is h = absurd (none_some r is)
ended_at cluster n s t (seize.Confirm keys) r is h = absurd (none_some r is)

by_work : (cluster n : ℕ) (s : Sharing) (w : Work) (r : SeizeResult) → result_in w ≡ Some r → WorkAt cluster n s w → EndedSo s (s.node n).session n r
by_work cluster n s (work.Seizing t) r is h = ended_at cluster n s t t.step r is h
by_work cluster n s (work.Joining j) r is h = absurd (none_some r is)

pub ended_told : (c : Cluster) (W : Whole) (n d : ℕ) (r : SeizeResult) (tasks : List Task) → AllByRecursion (TaskAt c W n) tasks → HasEnded tasks d r
    → EndedSo (W.device d) ((W.device d).node n).session n r
ended_told c W n d r [] all h = absurd h
ended_told c W n d r (t ∷ tasks) all (inl e) = subst (λ k. EndedSo (W.device k) ((W.device k).node n).session n r) e.0 (by_work c.id n (W.device t.device) t.work r e.1 all.0)
ended_told c W n d r (t ∷ tasks) all (inr h) = ended_told c W n d r tasks all.1 h
