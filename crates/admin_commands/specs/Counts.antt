-- How many groups and resources there are after an update, without making it.
use Rattle.std.specs.Prelude.{ℕ, ◌+◌, ◌-◌, Bool, true, false, length}
use Rattle.std.specs.Option.{is_some}
use Rattle.rg_props.specs.Lookups.{named}
use Rattle.ccr_tables.specs.declared.update.Update.{Update}
use Rattle.ccr_tables.specs.declared.update.Update.TheVariants.{CreateGroup, DeleteGroup, CreateResource, DeleteResource}
use Rattle.ccr_tables.specs.State.{ConfigState}

abbrev pub one_less_if : ℕ → Bool → ℕ
one_less_if count true = count - 1
one_less_if count false = count

abbrev pub groups_after : ConfigState → Update → ℕ
groups_after s (CreateGroup name nodes) = length s.groups.groups + 1
groups_after s (DeleteGroup name) =
    one_less_if (length s.groups.groups) (is_some (named s.groups.groups name))
groups_after s _ = length s.groups.groups

abbrev pub resources_after : ConfigState → Update → ℕ
resources_after s (CreateResource name of_group of_type) = length s.groups.resources + 1
resources_after s (DeleteResource name) =
    one_less_if (length s.groups.resources) (is_some (named s.groups.resources name))
resources_after s _ = length s.groups.resources
