-- What is known of the groups and resources of a cluster, each kind in order of creation.
use Rattle.std.specs.Prelude.{ℕ, List}
use Rattle.cl_base.specs.declared.header.Version.{Version}
use Rattle.rg_props.specs.declared.group.Group.{Group}
use Rattle.rg_props.specs.declared.group.Resource.{Resource}

pub record GroupTable : Type 0 where
  pub version : Version
  pub groups : List (List ℕ × Group)
  pub resources : List (List ℕ × Resource)
