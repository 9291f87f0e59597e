-- The properties of groups and resources: the words that name them, and what a new group or resource has.
use Rattle.std.specs.Prelude.{ℕ, Bool, true, false, if◌then◌else◌, List, [], Option, Some, None, codes}
use Rattle.std.specs.Str.{bytes_eq}
use Rattle.cl_base.specs.declared.history.FailoverMode.TheVariants as mode
use Rattle.cl_base.specs.declared.header.Version.{Version}
use Rattle.cl_base.specs.declared.header.Version.TheVariants.{One, Two}
use Rattle.rg_props.specs.declared.group.Group.{Group}
use Rattle.rg_props.specs.declared.group.Resource.{Resource}
use Rattle.rg_props.specs.declared.property.GroupProperty.{GroupProperty}
use Rattle.rg_props.specs.declared.property.GroupProperty.TheVariants as property
use Rattle.rg_props.specs.declared.property.ResourceProperty.{ResourceProperty}
use Rattle.rg_props.specs.declared.property.ResourceProperty.TheVariants as own

-- the property of groups that a word names
unfoldable pub group_property_named : List ℕ → Option GroupProperty
group_property_named word =
    if bytes_eq word (codes "Nodelist") then Some property.Nodelist
    else if bytes_eq word (codes "Maximum_primaries") then Some property.MaximumPrimaries
    else if bytes_eq word (codes "Desired_primaries") then Some property.DesiredPrimaries
    else if bytes_eq word (codes "RG_dependencies") then Some property.Dependencies
    else if bytes_eq word (codes "RG_affinities") then Some property.Affinities
    else if bytes_eq word (codes "Pingpong_interval") then Some property.PingpongInterval
    else if bytes_eq word (codes "Failback") then Some property.Failback
    else if bytes_eq word (codes "Load_factors") then Some property.LoadFactors
    else if bytes_eq word (codes "Priority") then Some property.Priority
    else None

-- load factors and priorities are there from the second version on
abbrev pub is_there : Version → GroupProperty → Bool
is_there One property.LoadFactors = false
is_there One property.Priority = false
is_there One _ = true
is_there Two _ = true

abbrev pub if_there : Version → Option GroupProperty → Option GroupProperty
if_there version None = None
if_there version (Some p) = if is_there version p then Some p else None

abbrev pub group_property_in : Version → List ℕ → Option GroupProperty
group_property_in version word = if_there version (group_property_named word)

-- the property of resources that a word names
unfoldable pub resource_property_in : List ℕ → Option ResourceProperty
resource_property_in word =
    if bytes_eq word (codes "Resource_dependencies") then Some own.Dependencies
    else if bytes_eq word (codes "Resource_dependencies_weak") then Some own.WeakDependencies
    else if bytes_eq word (codes "Resource_dependencies_offline_restart") then Some own.OfflineRestartDependencies
    else if bytes_eq word (codes "Failover_mode") then Some own.FailoverMode
    else if bytes_eq word (codes "Retry_count") then Some own.RetryCount
    else if bytes_eq word (codes "Retry_interval") then Some own.RetryInterval
    else None

-- a new group of these nodes
abbrev pub new_group : List ℕ → Group
new_group nodes = record {
  nodelist = nodes;
  maximum = 1;
  desired = 1;
  dependencies = [];
  affinities = [];
  pingpong = 3600;
  failback = false;
  factors = [];
  priority = 500;
  managed = false;
  wanted = false;
  suspended = false;
}

-- a new resource of this group and type
abbrev pub new_resource : List ℕ → List ℕ → Resource
new_resource group resource_type = record {
  group = group;
  resource_type = resource_type;
  enabled = true;
  monitored = true;
  strong = [];
  weak = [];
  offline_restart = [];
  mode = mode.None;
  retry_count = 2;
  retry_interval = 300;
}
