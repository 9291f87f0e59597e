-- Groups and resources by their names, and what commands make of them.
use Rattle.std.specs.Prelude.{◌≡◌, ℕ, Bool, false, ◌||◌, List, [], ◌∷◌, ◌++◌, Option, Some, None, IsSome, Result, Ok, Err, position, if◌then◌else◌}
use Rattle.std.specs.Map.{lookup, keys_of, set_value, remove_entry}
use Rattle.std.specs.Str.{bytes_eq}
use Rattle.rg_props.specs.declared.affinity.Affinity.{Affinity}
use Rattle.rg_props.specs.declared.group.Flag.{Flag}
use Rattle.rg_props.specs.declared.group.Flag.TheVariants.{Managed, Wanted, Suspended, Enabled, Monitored}
use Rattle.rg_props.specs.declared.group.Group.{Group}
use Rattle.rg_props.specs.declared.group.Resource.{Resource}
use Rattle.rg_props.specs.declared.group.Scope.{Scope}
use Rattle.rg_props.specs.declared.group.Scope.TheVariants.{SameNode, AnyMember}
use Rattle.rg_props.specs.declared.setting.GroupSetting.{GroupSetting}
use Rattle.rg_props.specs.declared.setting.ResourceSetting.{ResourceSetting}
use Rattle.rg_props.specs.declared.setting.SetError.{SetError}
use Rattle.rg_props.specs.declared.setting.SetError.TheVariants.{BadSetting}
use Rattle.rg_props.specs.Affinities.{first_affinity, declares_close}
use Rattle.rg_props.specs.Properties.{new_group, new_resource}
use Rattle.rg_props.specs.Settings.{group_setting_in, resource_setting_in, is_allowed_group, is_allowed_resource, changed_group, changed_resource}
use Rattle.rg_props.specs.Table.{GroupTable}

-- what is there of this name, among named things in order of creation
abbrev pub named : {X : Type 0} → List (List ℕ × X) → List ℕ → Option X
named things name = lookup (bytes_eq name) things

-- its place in that order
abbrev pub place_of : {X : Type 0} → List (List ℕ × X) → List ℕ → Option ℕ
place_of things name = position (bytes_eq name) (keys_of things)

-- the others, in their order
abbrev pub without : {X : Type 0} → List (List ℕ × X) → List ℕ → List (List ℕ × X)
without things name = remove_entry (bytes_eq name) things

-- this in the place of what is there of the name; the others and the order stay
abbrev pub with_named : {X : Type 0} → List (List ℕ × X) → List ℕ → X → List (List ℕ × X)
with_named things name x = set_value (bytes_eq name) things x

-- Looking a name up afterwards: at this name it gives `found`, at each other name what it gave before.
abbrev pub FindsAt : {X : Type 0} → List (List ℕ × X) → List ℕ → Option X → List (List ℕ × X) → Type 0
FindsAt old name found new = (other : List ℕ) → named new other ≡ (if bytes_eq name other then found else named old other)

-- one more group, of these nodes
abbrev pub with_new_group : GroupTable → List ℕ → List ℕ → GroupTable
with_new_group t name nodes = record t { groups = t.groups ++ (name, new_group nodes) ∷ [] }

-- one more resource, of this group and type
abbrev pub with_new_resource : GroupTable → List ℕ → List ℕ → List ℕ → GroupTable
with_new_resource t name group resource_type = record t { resources = t.resources ++ (name, new_resource group resource_type) ∷ [] }

abbrev pub without_group : GroupTable → List ℕ → GroupTable
without_group t name = record t { groups = without t.groups name }

abbrev pub without_resource : GroupTable → List ℕ → GroupTable
without_resource t name = record t { resources = without t.resources name }

-- the group of the name is this now
abbrev pub with_group : GroupTable → List ℕ → Group → GroupTable
with_group t name group = record t { groups = with_named t.groups name group }

-- the resource of the name is this now
abbrev pub with_resource : GroupTable → List ℕ → Resource → GroupTable
with_resource t name resource = record t { resources = with_named t.resources name resource }

-- flags are a group's or a resource's
abbrev pub flagged_group : Flag → Bool → Group → Group
flagged_group Managed on group = record group { managed = on }
flagged_group Wanted on group = record group { wanted = on }
flagged_group Suspended on group = record group { suspended = on }
flagged_group Enabled on group = group
flagged_group Monitored on group = group

abbrev pub flagged_resource : Flag → Bool → Resource → Resource
flagged_resource Enabled on resource = record resource { enabled = on }
flagged_resource Monitored on resource = record resource { monitored = on }
flagged_resource Managed on resource = resource
flagged_resource Wanted on resource = resource
flagged_resource Suspended on resource = resource

abbrev pub flag_group : GroupTable → List ℕ → Flag → Bool → Option Group → GroupTable
flag_group t name flag on None = t
flag_group t name flag on (Some group) = with_group t name (flagged_group flag on group)

abbrev pub flag_resource : GroupTable → List ℕ → Flag → Bool → Option Resource → GroupTable
flag_resource t name flag on None = t
flag_resource t name flag on (Some resource) = with_resource t name (flagged_resource flag on resource)

-- the flag of the group or the resource of this name is this now
abbrev pub with_flag : GroupTable → List ℕ → Flag → Bool → GroupTable
with_flag t name Managed on = flag_group t name Managed on (named t.groups name)
with_flag t name Wanted on = flag_group t name Wanted on (named t.groups name)
with_flag t name Suspended on = flag_group t name Suspended on (named t.groups name)
with_flag t name Enabled on = flag_resource t name Enabled on (named t.resources name)
with_flag t name Monitored on = flag_resource t name Monitored on (named t.resources name)

-- what has the flag is there
abbrev pub HasFlagged : GroupTable → List ℕ → Flag → Type 0
HasFlagged t name Managed = IsSome (named t.groups name)
HasFlagged t name Wanted = IsSome (named t.groups name)
HasFlagged t name Suspended = IsSome (named t.groups name)
HasFlagged t name Enabled = IsSome (named t.resources name)
HasFlagged t name Monitored = IsSome (named t.resources name)

-- whether a group which is there may have the setting
abbrev pub allows : List ℕ → GroupSetting → Option Group → Bool
allows name setting None = false
allows name setting (Some group) = is_allowed_group name setting group

abbrev pub group_allows : GroupTable → List ℕ → GroupSetting → Bool
group_allows t name setting = allows name setting (named t.groups name)

-- a group which is there has the setting now
abbrev pub change_group : GroupTable → List ℕ → GroupSetting → Option Group → GroupTable
change_group t name setting None = t
change_group t name setting (Some group) = with_group t name (changed_group setting group)

abbrev pub group_changed : GroupTable → List ℕ → GroupSetting → GroupTable
group_changed t name setting = change_group t name setting (named t.groups name)

-- what setting a property of a group comes to: it takes what was read, where it may have it
abbrev pub taken_by_group : GroupTable → List ℕ → Result GroupSetting SetError → Result GroupTable SetError
taken_by_group t name (Err error) = Err error
taken_by_group t name (Ok setting) = if group_allows t name setting then Ok (group_changed t name setting) else Err BadSetting

abbrev pub group_set : GroupTable → List ℕ → List ℕ → List ℕ → Result GroupTable SetError
group_set t name property value = taken_by_group t name (group_setting_in t.version property value)

-- a resource which is there has the setting now
abbrev pub change_resource : GroupTable → List ℕ → ResourceSetting → Option Resource → GroupTable
change_resource t name setting None = t
change_resource t name setting (Some resource) = with_resource t name (changed_resource setting resource)

abbrev pub resource_changed : GroupTable → List ℕ → ResourceSetting → GroupTable
resource_changed t name setting = change_resource t name setting (named t.resources name)

-- what setting a property of a resource comes to
abbrev pub taken_by_resource : GroupTable → List ℕ → Result ResourceSetting SetError → Result GroupTable SetError
taken_by_resource t name (Err error) = Err error
taken_by_resource t name (Ok setting) = if is_allowed_resource name setting then Ok (resource_changed t name setting) else Err BadSetting

abbrev pub resource_set : GroupTable → List ℕ → List ℕ → List ℕ → Result GroupTable SetError
resource_set t name property value = taken_by_resource t name (resource_setting_in property value)

-- the affinity that a group which is there declares to another first
abbrev pub affinity_from : Option Group → List ℕ → Option Affinity
affinity_from None to = None
affinity_from (Some group) to = first_affinity group.affinities to

abbrev pub affinity_between : GroupTable → List ℕ → List ℕ → Option Affinity
affinity_between t from to = affinity_from (named t.groups from) to

-- whether a group which is there is always where the other is
abbrev pub keeps_close : Option Group → List ℕ → Bool
keeps_close None to = false
keeps_close (Some group) to = declares_close group.affinities to

-- A dependency speaks of the same node where both resources are in one group, or the dependent's group is always where the target's is.
abbrev pub scope_between : GroupTable → List ℕ → List ℕ → Scope
scope_between t own other = if bytes_eq own other || keeps_close (named t.groups own) other then SameNode else AnyMember

abbrev pub scope_of_both : GroupTable → Option Resource → Option Resource → Scope
scope_of_both t (Some dependent) (Some target) = scope_between t dependent.group target.group
scope_of_both t (Some dependent) None = AnyMember
scope_of_both t None target = AnyMember

abbrev pub scope_of : GroupTable → List ℕ → List ℕ → Scope
scope_of t dependent target = scope_of_both t (named t.resources dependent) (named t.resources target)
