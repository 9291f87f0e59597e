-- The configurations that a node's record makes.
use Rattle.std.specs.Prelude.{ℕ}
use Rattle.ccr_commit.specs.Entries.{texts_of}
use Rattle.ccr_tables.specs.State.{ConfigState}
use Rattle.cl_base.specs.Limits.{most_nodes}
use Rattle.cl_base.specs.declared.header.Version.{Version}
use Rattle.cl_base.specs.declared.header.Version.TheVariants.{One, Two}
use Rattle.config_cache.specs.InForce.{config_under}
use Rattle.heartbeats.specs.Views.{set_where}
use Rattle.quorum_votes.specs.Tables.{VoteTable}
use Rattle.quorum_votes.specs.Votes.{is_configured}
use Rattle.node_model.specs.declared.cluster.Cluster.{Cluster}
use Rattle.node_model.specs.declared.node.UpNode.{UpNode}
use Rattle.node_model.specs.Seats.{record_of, version_of}

-- in force: the header's, changed by each committed update
abbrev pub in_force : Cluster → UpNode → ConfigState
in_force c x = config_under c.header (record_of x).entries.committed

-- a node's own: with the pending update, too
abbrev pub own_config : Cluster → UpNode → ConfigState
own_config c x = config_under c.header (texts_of (record_of x).entries)

-- the nodes that are configured where these are the votes
unfoldable pub configured_under : VoteTable → ℕ
configured_under v = set_where (is_configured v) most_nodes

-- the nodes that a node takes for configured: under version 1 all that there are, under version 2 those that its committed updates leave
abbrev pub configured_by : Version → Cluster → UpNode → ℕ
configured_by One c x = c.configured
configured_by Two c x = configured_under (in_force c x).votes

abbrev pub configured_at : Cluster → UpNode → ℕ
configured_at c x = configured_by (version_of c) c x
