-- In each run a node's seizings have read at most as many keys as there are nodes.
use Rattle.std.specs.Prelude.{List, [], ◌∷◌}
use Rattle.std.specs.List.{AllByRecursion}
use Rattle.std.proofs.Common.{subst}
use Rattle.device_queue.specs.declared.task.Task.{Task}
use Rattle.node_model.specs.declared.cluster.Cluster.{Cluster}
use Rattle.run_packets.proofs.admitted.Runs.{scene_known}
use Rattle.run_packets.specs.admitted.Known.{NodeKnown, TasksKnown, WorkFew}
use Rattle.world_model.specs.First.{first_cluster}
use Rattle.run_outcomes.specs.reports.Laws.{ResultsAreFew}

few_of : (c : Cluster) (ts : List Task) → TasksKnown c ts → AllByRecursion (λ (t : Task). WorkFew t.work) ts
few_of c [] k = tt
few_of c (t ∷ ts) k = (k.0.1, few_of c ts k.1)

pub results_are_few : ResultsAreFew
results_are_few h cells hs last few small disks may shaped native n x at =
    few_of (first_cluster h) x.tasks (subst (NodeKnown (first_cluster h)) at ((scene_known h cells hs (record { few = few; small = small }) may).nodes.sites n).node_so).tasks_so
