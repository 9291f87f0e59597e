-- How many nodes there can be under each version of a cluster schedule.
use Rattle.std.specs.Prelude.{ℕ}
use Rattle.cl_base.specs.Limits.{most_nodes, most_nodes_at_first}
use Rattle.cl_base.specs.declared.header.Version.{Version}
use Rattle.cl_base.specs.declared.header.Version.TheVariants.{One, Two}

-- the greatest number of a node
abbrev pub most_nodes_of : Version → ℕ
most_nodes_of One = most_nodes_at_first
most_nodes_of Two = most_nodes
