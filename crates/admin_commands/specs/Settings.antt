-- Which properties may not be set while a group is up, and which say what comes after what.
use Rattle.std.specs.Prelude.{Bool, true, false, Result, Ok, Err}
use Rattle.rg_props.specs.declared.setting.GroupSetting.{GroupSetting}
use Rattle.rg_props.specs.declared.setting.GroupSetting.TheVariants as its
use Rattle.rg_props.specs.declared.setting.ResourceSetting.{ResourceSetting}
use Rattle.rg_props.specs.declared.setting.ResourceSetting.TheVariants.{Strong, Weak, OfflineRestart, Mode, RetryCount, RetryInterval}
use Rattle.rg_props.specs.declared.setting.SetError.{SetError}

-- what is not set of a group while it is up
abbrev pub binds_group : Result GroupSetting SetError → Bool
binds_group (Ok (its.Nodelist nodes)) = true
binds_group (Ok (its.Maximum n)) = true
binds_group (Ok (its.Dependencies names)) = true
binds_group (Ok (its.Affinities affinities)) = true
binds_group (Ok (its.Desired n)) = false
binds_group (Ok (its.Pingpong n)) = false
binds_group (Ok (its.Failback choice)) = false
binds_group (Ok (its.Factors factors)) = false
binds_group (Ok (its.Priority n)) = false
binds_group (Err e) = false

-- the dependencies of a resource: they are not set while its group is up, and order resources
abbrev pub is_dependency : Result ResourceSetting SetError → Bool
is_dependency (Ok (Strong names)) = true
is_dependency (Ok (Weak names)) = true
is_dependency (Ok (OfflineRestart names)) = true
is_dependency (Ok (Mode mode)) = false
is_dependency (Ok (RetryCount n)) = false
is_dependency (Ok (RetryInterval n)) = false
is_dependency (Err e) = false

-- what orders groups: their dependencies and affinities
abbrev pub orders_groups : Result GroupSetting SetError → Bool
orders_groups (Ok (its.Dependencies names)) = true
orders_groups (Ok (its.Affinities affinities)) = true
orders_groups (Ok (its.Nodelist nodes)) = false
orders_groups (Ok (its.Maximum n)) = false
orders_groups (Ok (its.Desired n)) = false
orders_groups (Ok (its.Pingpong n)) = false
orders_groups (Ok (its.Failback choice)) = false
orders_groups (Ok (its.Factors factors)) = false
orders_groups (Ok (its.Priority n)) = false
orders_groups (Err e) = false
