-- Refusals of what may not be together: things in a cycle, two resources of a type that allows one.
use Rattle.std.specs.Prelude.{ℕ, Bool, false, ◌&&◌, List, Option, Some, None, if◌then◌else◌}
use Rattle.std.specs.List.{list_any}
use Rattle.std.specs.Option.{option_map}
use Rattle.cl_base.specs.declared.refusal.Refusal.{Refusal}
use Rattle.cl_base.specs.declared.refusal.Refusal.TheVariants.{Cycle, Single}
use Rattle.rt_types.specs.Fields.{TypeFields}
use Rattle.rt_types.specs.Types.{type_of}
use Rattle.rg_props.specs.Settings.{group_setting_in, resource_setting_in}
use Rattle.rg_props.specs.Table.{GroupTable}
use Rattle.rg_deps.specs.Orderings.{first_cycle}
use Rattle.ccr_tables.specs.declared.update.Update.{Update}
use Rattle.ccr_tables.specs.declared.update.Update.TheVariants.{SetGroup, CreateResource, SetResource}
use Rattle.ccr_tables.specs.Changes.{changed}
use Rattle.ccr_tables.specs.State.{ConfigState}
use Rattle.ccr_tables.specs.Uses.{is_of_type}
use Rattle.admin_commands.specs.Cases.{where_so}
use Rattle.admin_commands.specs.Settings.{is_dependency, orders_groups}

-- only updates that set dependencies or affinities say what comes after what
abbrev pub makes_order : ConfigState → Update → Bool
makes_order s (SetGroup name property value) =
    orders_groups (group_setting_in s.groups.version property value)
makes_order s (SetResource name property value) = is_dependency (resource_setting_in property value)
makes_order s _ = false

-- the refusal that names the cycle of these groups and resources, if there is one
unfoldable pub cycle_of : GroupTable → Option Refusal
cycle_of t = option_map (λ names. Cycle names) (first_cycle t)

-- 18: the groups and resources, as the update leaves them, have a cycle
abbrev pub cycle : ConfigState → Update → Option Refusal
cycle s u = if makes_order s u then cycle_of (changed s u).groups else None

abbrev pub is_single : Option TypeFields → Bool
is_single None = false
is_single (Some t) = t.single

-- whether there is a resource of the type
abbrev pub has_resource : ConfigState → List ℕ → Bool
has_resource s of_type = list_any (λ p. is_of_type of_type p.1) s.groups.resources

-- 19: the type allows one resource alone, and there is one
abbrev pub single : ConfigState → Update → Option Refusal
single s (CreateResource name of_group of_type) =
    where_so (is_single (type_of s.types of_type) && has_resource s of_type) Single
single s _ = None
