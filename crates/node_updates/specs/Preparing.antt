-- A president goes on where every member has prepared its update.
use Rattle.std.specs.Prelude.{ℕ, Bool, true, false}
use Rattle.node_model.specs.declared.cluster.Cluster.{Cluster}
use Rattle.node_model.specs.declared.node.UpNode.{UpNode}
use Rattle.node_model.specs.Plans.{Plan, and_then}
use Rattle.node_model.specs.Plans.Plan.{Stays}
use Rattle.node_model.specs.Presidents.{acknowledging, handling}

unfoldable pub goes_on : Cluster → ℕ → UpNode → Bool → Plan
goes_on c me x true = and_then (acknowledging c me x) (handling c me)
goes_on c me x false = Stays x
