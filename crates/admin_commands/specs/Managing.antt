-- Refusals that rest on what a group is: whether it is managed, its Nodelist, its
-- Maximum_primaries.
use Rattle.std.specs.Prelude.{ℕ, nat_lt, Bool, true, false, not, ◌&&◌, List, length, find, Option, Some, None}
use Rattle.std.specs.Option.{option_map}
use Rattle.cl_base.specs.declared.refusal.Refusal.{Refusal}
use Rattle.cl_base.specs.declared.refusal.Refusal.TheVariants.{Managed, Unmanaged, NotListed, TooMany}
use Rattle.rg_props.specs.declared.group.Group.{Group}
use Rattle.rg_props.specs.declared.group.Resource.{Resource}
use Rattle.rg_props.specs.Lookups.{named}
use Rattle.rg_props.specs.Table.{GroupTable}
use Rattle.ccr_tables.specs.declared.update.GroupChange.{GroupChange}
use Rattle.ccr_tables.specs.declared.update.GroupChange.TheVariants as to
use Rattle.ccr_tables.specs.declared.update.Update.{Update}
use Rattle.ccr_tables.specs.declared.update.Update.TheVariants.{DeleteGroup, ChangeGroup, SwitchGroup, DeleteResource}
use Rattle.ccr_tables.specs.Refusals.{nodelist_of}
use Rattle.ccr_tables.specs.State.{ConfigState}
use Rattle.ccr_tables.specs.Uses.{has_node}
use Rattle.admin_commands.specs.Cases.{where_so}

abbrev pub is_managed : Option Group → Bool
is_managed None = false
is_managed (Some g) = g.managed

abbrev pub is_unmanaged : Option Group → Bool
is_unmanaged None = false
is_unmanaged (Some g) = not g.managed

-- the group of a resource which is there
abbrev pub group_of : GroupTable → Option Resource → Option Group
group_of t None = None
group_of t (Some r) = named t.groups r.group

-- 10: the group that is to be deleted is managed, or the group of the resource that is
abbrev pub managed : ConfigState → Update → Option Refusal
managed s (DeleteGroup name) = where_so (is_managed (named s.groups.groups name)) Managed
managed s (DeleteResource name) =
    where_so (is_managed (group_of s.groups (named s.groups.resources name))) Managed
managed s _ = None

-- all but those that manage it and no longer manage it
abbrev pub wants_managed : GroupChange → Bool
wants_managed to.Manage = false
wants_managed to.Unmanage = false
wants_managed to.Online = true
wants_managed to.Offline = true
wants_managed to.Suspend = true
wants_managed to.Resume = true

-- 11: the group is not managed
abbrev pub unmanaged : ConfigState → Update → Option Refusal
unmanaged s (ChangeGroup name change) =
    where_so (wants_managed change && is_unmanaged (named s.groups.groups name)) Unmanaged
unmanaged s (SwitchGroup name nodes) = where_so (is_unmanaged (named s.groups.groups name)) Unmanaged
unmanaged s _ = None

-- the first of the nodes that the Nodelist lacks
abbrev pub first_outside : List ℕ → List ℕ → Option ℕ
first_outside nodelist nodes = find (λ n. not (has_node n nodelist)) nodes

-- 13: the group is to be on a node that its Nodelist lacks
abbrev pub not_listed : ConfigState → Update → Option Refusal
not_listed s (SwitchGroup name nodes) =
    option_map (λ n. NotListed n) (first_outside (nodelist_of (named s.groups.groups name)) nodes)
not_listed s _ = None

abbrev pub are_too_many : Option Group → List ℕ → Bool
are_too_many None nodes = false
are_too_many (Some g) nodes = nat_lt g.maximum (length nodes)

-- 14: the group is to be on more nodes than its Maximum_primaries
abbrev pub too_many : ConfigState → Update → Option Refusal
too_many s (SwitchGroup name nodes) = where_so (are_too_many (named s.groups.groups name) nodes) TooMany
too_many s _ = None
