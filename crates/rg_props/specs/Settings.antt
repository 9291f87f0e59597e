-- What a property and its value are read as, whether that is allowed, and what it makes of a group or a resource.
use Rattle.std.specs.Prelude.{ℕ, nat_le, Bool, true, not, ◌&&◌, List, length, Option, Some, None, Result, Ok, Err, if◌then◌else◌}
use Rattle.std.specs.List.{list_any, filter}
use Rattle.std.specs.Str.{bytes_eq}
use Rattle.cl_base.specs.declared.header.Version.{Version}
use Rattle.rg_props.specs.declared.affinity.Affine.{Affine}
use Rattle.rg_props.specs.declared.group.Group.{Group}
use Rattle.rg_props.specs.declared.group.Resource.{Resource}
use Rattle.rg_props.specs.declared.property.GroupProperty.{GroupProperty}
use Rattle.rg_props.specs.declared.property.GroupProperty.TheVariants as property
use Rattle.rg_props.specs.declared.property.ResourceProperty.{ResourceProperty}
use Rattle.rg_props.specs.declared.property.ResourceProperty.TheVariants as own
use Rattle.rg_props.specs.declared.setting.GroupSetting.{GroupSetting}
use Rattle.rg_props.specs.declared.setting.GroupSetting.TheVariants as to
use Rattle.rg_props.specs.declared.setting.ResourceSetting.{ResourceSetting}
use Rattle.rg_props.specs.declared.setting.ResourceSetting.TheVariants as its
use Rattle.rg_props.specs.declared.setting.SetError.{SetError}
use Rattle.rg_props.specs.declared.setting.SetError.TheVariants.{BadProperty, BadSetting}
use Rattle.rg_props.specs.Affinities.{is_best}
use Rattle.rg_props.specs.Properties.{group_property_in, resource_property_in}
use Rattle.rg_props.specs.Values.{most_of, nodes_in, names_in, affinities_in, factors_in}
use Rattle.rg_props.specs.Words.{number_in, choice_in, mode_in}

-- a value that is one of the property's, or a bad setting
abbrev pub read_as : {A B : Type 0} → (A → B) → Option A → Result B SetError
read_as make None = Err BadSetting
read_as make (Some x) = Ok (make x)

-- the value of each property of a group
abbrev pub group_value : Version → GroupProperty → List ℕ → Result GroupSetting SetError
group_value version property.Nodelist value = read_as to.Nodelist (nodes_in (most_of version) value)
group_value version property.MaximumPrimaries value = read_as to.Maximum (number_in 1 (most_of version) value)
group_value version property.DesiredPrimaries value = read_as to.Desired (number_in 0 (most_of version) value)
group_value version property.Dependencies value = read_as to.Dependencies (names_in value)
group_value version property.Affinities value = read_as to.Affinities (affinities_in value)
group_value version property.PingpongInterval value = read_as to.Pingpong (number_in 0 1000000 value)
group_value version property.Failback value = read_as to.Failback (choice_in value)
group_value version property.LoadFactors value = read_as to.Factors (factors_in value)
group_value version property.Priority value = read_as to.Priority (number_in 0 1000 value)

abbrev pub group_value_of : Version → Option GroupProperty → List ℕ → Result GroupSetting SetError
group_value_of version None value = Err BadProperty
group_value_of version (Some p) value = group_value version p value

-- what a word and a value say of a group under the version
unfoldable pub group_setting_in : Version → List ℕ → List ℕ → Result GroupSetting SetError
group_setting_in version word value = group_value_of version (group_property_in version word) value

-- the value of each property of a resource
abbrev pub resource_value : ResourceProperty → List ℕ → Result ResourceSetting SetError
resource_value own.Dependencies value = read_as its.Strong (names_in value)
resource_value own.WeakDependencies value = read_as its.Weak (names_in value)
resource_value own.OfflineRestartDependencies value = read_as its.OfflineRestart (names_in value)
resource_value own.FailoverMode value = read_as its.Mode (mode_in value)
resource_value own.RetryCount value = read_as its.RetryCount (number_in 0 1000 value)
resource_value own.RetryInterval value = read_as its.RetryInterval (number_in 0 1000000 value)

abbrev pub resource_value_of : Option ResourceProperty → List ℕ → Result ResourceSetting SetError
resource_value_of None value = Err BadProperty
resource_value_of (Some p) value = resource_value p value

-- what a word and a value say of a resource
unfoldable pub resource_setting_in : List ℕ → List ℕ → Result ResourceSetting SetError
resource_setting_in word value = resource_value_of (resource_property_in word) value

-- whether the list has the name
abbrev pub has_name : List ℕ → List (List ℕ) → Bool
has_name name names = list_any (λ n. bytes_eq n name) names

-- whether one of them is to the group itself
abbrev pub names_itself : List ℕ → List Affine → Bool
names_itself name affinities = list_any (λ a. bytes_eq a.group name) affinities

-- how many are of the kind that a group declares once at most
abbrev pub count_best : List Affine → ℕ
count_best affinities = length (filter (λ a. is_best a.affinity) affinities)

abbrev pub are_allowed : List ℕ → List Affine → Bool
are_allowed name affinities = not (names_itself name affinities) && nat_le (count_best affinities) 1

-- whether the group of this name may have it: it names itself nowhere, and never desires more primaries than it may have
abbrev pub is_allowed_group : List ℕ → GroupSetting → Group → Bool
is_allowed_group name (to.Nodelist nodes) group = true
is_allowed_group name (to.Maximum n) group = nat_le group.desired n
is_allowed_group name (to.Desired n) group = nat_le n group.maximum
is_allowed_group name (to.Dependencies names) group = not (has_name name names)
is_allowed_group name (to.Affinities affinities) group = are_allowed name affinities
is_allowed_group name (to.Pingpong n) group = true
is_allowed_group name (to.Failback choice) group = true
is_allowed_group name (to.Factors factors) group = true
is_allowed_group name (to.Priority n) group = true

-- whether the resource of this name may have it: it names itself nowhere
abbrev pub is_allowed_resource : List ℕ → ResourceSetting → Bool
is_allowed_resource name (its.Strong names) = not (has_name name names)
is_allowed_resource name (its.Weak names) = not (has_name name names)
is_allowed_resource name (its.OfflineRestart names) = not (has_name name names)
is_allowed_resource name (its.Mode mode) = true
is_allowed_resource name (its.RetryCount n) = true
is_allowed_resource name (its.RetryInterval n) = true

-- the group with it
abbrev pub changed_group : GroupSetting → Group → Group
changed_group (to.Nodelist nodes) group = record group { nodelist = nodes }
changed_group (to.Maximum n) group = record group { maximum = n }
changed_group (to.Desired n) group = record group { desired = n }
changed_group (to.Dependencies names) group = record group { dependencies = names }
changed_group (to.Affinities affinities) group = record group { affinities = affinities }
changed_group (to.Pingpong n) group = record group { pingpong = n }
changed_group (to.Failback choice) group = record group { failback = choice }
changed_group (to.Factors factors) group = record group { factors = factors }
changed_group (to.Priority n) group = record group { priority = n }

-- the resource with it
abbrev pub changed_resource : ResourceSetting → Resource → Resource
changed_resource (its.Strong names) resource = record resource { strong = names }
changed_resource (its.Weak names) resource = record resource { weak = names }
changed_resource (its.OfflineRestart names) resource = record resource { offline_restart = names }
changed_resource (its.Mode mode) resource = record resource { mode = mode }
changed_resource (its.RetryCount n) resource = record resource { retry_count = n }
changed_resource (its.RetryInterval n) resource = record resource { retry_interval = n }
