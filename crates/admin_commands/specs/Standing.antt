-- Refusals that rest on what is known of groups on nodes: whether a group is up, whether a
-- resource has a mark.
use Rattle.std.specs.Prelude.{ℕ, Bool, false, not, ◌&&◌, ◌||◌, List, Option, Some, None, if◌then◌else◌}
use Rattle.std.specs.List.{list_any}
use Rattle.std.specs.Str.{bytes_eq}
use Rattle.cl_base.specs.Sets.{has}
use Rattle.cl_base.specs.declared.refusal.Refusal.{Refusal}
use Rattle.cl_base.specs.declared.refusal.Refusal.TheVariants.{StillUp, NoMark}
use Rattle.rg_props.specs.declared.group.Resource.{Resource}
use Rattle.rg_props.specs.Lookups.{named}
use Rattle.rg_props.specs.Settings.{group_setting_in, resource_setting_in}
use Rattle.rg_props.specs.Table.{GroupTable}
use Rattle.rg_view.specs.declared.states.ResourceAt.{ResourceAt}
use Rattle.rg_view.specs.declared.view.GroupView.{GroupView}
use Rattle.rg_view.specs.States.{state_of}
use Rattle.ccr_tables.specs.declared.update.GroupChange.{GroupChange}
use Rattle.ccr_tables.specs.declared.update.GroupChange.TheVariants as to
use Rattle.ccr_tables.specs.declared.update.Update.{Update}
use Rattle.ccr_tables.specs.declared.update.Update.TheVariants.{SetGroup, ChangeGroup, SetResource}
use Rattle.ccr_tables.specs.State.{ConfigState}
use Rattle.admin_commands.specs.Cases.{where_so}
use Rattle.admin_commands.specs.Settings.{binds_group, is_dependency}

abbrev pub has_flag : ResourceAt → Bool
has_flag at = at.pre || at.run || at.mon

abbrev pub is_of_group : List ℕ → Option Resource → Bool
is_of_group group None = false
is_of_group group (Some r) = bytes_eq r.group group

-- it is a resource of the group, on a member, with a flag
abbrev pub is_up_at : GroupTable → ℕ → List ℕ → ResourceAt → Bool
is_up_at t members group at =
    has_flag at && has members at.node && is_of_group group (named t.resources at.resource)

-- the group is up on a member: a resource of it has a flag there
abbrev pub is_up : GroupTable → List ResourceAt → ℕ → List ℕ → Bool
is_up t states members group = list_any (is_up_at t members group) states

-- the name of a resource's group
abbrev pub own_group : Option Resource → Option (List ℕ)
own_group None = None
own_group (Some r) = Some r.group

abbrev pub group_down_for : GroupChange → List ℕ → Option (List ℕ)
group_down_for to.Unmanage name = Some name
group_down_for to.Manage name = None
group_down_for to.Online name = None
group_down_for to.Offline name = None
group_down_for to.Suspend name = None
group_down_for to.Resume name = None

-- the group that must not be up for the update
abbrev pub wants_down : ConfigState → Update → Option (List ℕ)
wants_down s (ChangeGroup name change) = group_down_for change name
wants_down s (SetGroup name property value) =
    if binds_group (group_setting_in s.groups.version property value) then Some name else None
wants_down s (SetResource name property value) =
    if is_dependency (resource_setting_in property value)
    then own_group (named s.groups.resources name) else None
wants_down s _ = None

abbrev pub up_of : GroupTable → GroupView → ℕ → Option (List ℕ) → Bool
up_of t v members None = false
up_of t v members (Some group) = is_up t v.resources members group

-- 17: the group is up on a member
abbrev pub still_up : ConfigState → GroupView → ℕ → Update → Option Refusal
still_up s v members u = where_so (up_of s.groups v members (wants_down s u)) StillUp

-- 20: the resource has no stop-failed mark on the node
abbrev pub no_mark : GroupView → List ℕ → ℕ → Option Refusal
no_mark v resource node = where_so (not (state_of v.resources resource node).stop_failed) NoMark
