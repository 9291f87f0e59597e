-- A member keeps nothing of what its updates delete.
use Rattle.std.specs.Prelude.{ℕ}
use Rattle.wire.specs.declared.message.Body.TheVariants as body
use Rattle.node_model.specs.declared.cluster.Cluster.{Cluster}
use Rattle.node_model.specs.declared.node.UpNode.{UpNode}
use Rattle.node_model.specs.Entries.{answering, keeping}
use Rattle.node_model.specs.Plans.{Plan}
use Rattle.node_model.specs.Presidents.{tidied}

unfoldable pub kept_tidy : Cluster → UpNode → UpNode
kept_tidy c x = tidied c x

-- it saves what it has taken as pending, without what that deletes, and says so
unfoldable pub kept_next : Cluster → ℕ → ℕ → ℕ → ℕ → UpNode → Plan
kept_next c me from e place x = keeping me (kept_tidy c x) (answering from (body.Prepared e place) (kept_tidy c x))
