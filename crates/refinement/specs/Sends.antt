-- In every run of all nodes a step of a node sends few messages.
use Rattle.std.specs.Prelude.{ℕ, ◌≤◌, List, length}
use Rattle.cl_base.specs.Limits.{most_devices}
use Rattle.cl_base.specs.declared.method.Outcome.{Outcome}
use Rattle.node_model.specs.declared.cluster.Cluster.{Cluster}
use Rattle.node_model.specs.declared.input.Input.{Input}
use Rattle.node_model.specs.Steps.{stepped}
use Rattle.refinement.specs.node_bounds.Sends.{most_sends, sends_of}
use Rattle.refinement.specs.Runs.{MayMove, Move, Moves, Nodes, first_nodes}
use Rattle.refinement.specs.Runs.Move.{Takes}
use Rattle.refinement.specs.Steps.{disk_rules}

-- whatever came before, and whatever happens to the node now
abbrev pub RunsSendFew : Type 0
RunsSendFew = (c : Cluster) (moves : List Move) (v : Nodes) (n now : ℕ) (ends : Outcome) (i : Input) → length c.attached ≤ most_devices → Moves c (first_nodes c) moves v → MayMove v (Takes n now ends i)
    → sends_of (stepped disk_rules c n now ends (v.node n) (v.disk n) i).given ≤ most_sends
