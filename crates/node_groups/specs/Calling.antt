-- The call that an order asks for. It unfolds only where it is named.
use Rattle.std.specs.Prelude.{ℕ, Option}
use Rattle.rgm_member.specs.declared.due.Due.{Due}
use Rattle.wire.specs.declared.message.Order.{Order}
use Rattle.node_model.specs.declared.cluster.Cluster.{Cluster}
use Rattle.node_model.specs.declared.node.UpNode.{UpNode}
use Rattle.node_model.specs.Calls.{due_for}

unfoldable pub call_of : Cluster → ℕ → UpNode → Option Order → Option Due
call_of c now x found = due_for c now x found
