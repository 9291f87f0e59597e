-- What is known of a cluster's configuration.
use Rattle.std.specs.Prelude.{ℕ, List, []}
use Rattle.cl_base.specs.Limits.{most_nodes}
use Rattle.cl_base.specs.Numbers.{numbers_to}
use Rattle.cl_base.specs.declared.header.Header.{Header}
use Rattle.quorum_votes.specs.Tables.{VoteTable}
use Rattle.quorum_votes.specs.Votes.{first_of}
use Rattle.rt_types.specs.Fields.{TypeFields}
use Rattle.load_limits.specs.declared.limits.Limit.{Limit}
use Rattle.rg_props.specs.Table.{GroupTable}
use Rattle.ccr_tables.specs.declared.address.Address.{Address}
use Rattle.ccr_tables.specs.declared.generations.Generations.{Generations}

-- The number of the header's nodes; the votes, which know the header's devices; the configured nodes in the order in which they
-- were configured; types, groups and resources (with the version), load limits and addresses, each in order of creation; and the
-- generation numbers of the tables.
pub record ConfigState : Type 0 where
  pub nodes : ℕ
  pub votes : VoteTable
  pub order : List ℕ
  pub types : List (List ℕ × TypeFields)
  pub groups : GroupTable
  pub limits : List Limit
  pub addresses : List (List ℕ × Address)
  pub generations : Generations

-- no table has been changed
abbrev pub no_generations : Generations
no_generations = record { infrastructure = 0; types = 0; groups = 0; resources = 0; addresses = 0 }

-- what the header says: its configured nodes, ascending, and its votes, and nothing else
abbrev pub first_config : Header → ConfigState
first_config h = record {
  nodes = h.nodes;
  votes = first_of h;
  order = numbers_to h.configured most_nodes;
  types = [];
  groups = record { version = h.version; groups = []; resources = [] };
  limits = [];
  addresses = [];
  generations = no_generations;
}
