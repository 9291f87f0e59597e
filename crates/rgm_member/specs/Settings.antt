-- What the configuration says of a resource that is named. One that it lacks has no type and no group, and its Failover_mode is NONE.
use Rattle.std.specs.Prelude.{ℕ, Bool, false, List, Option, None, Some, find}
use Rattle.std.specs.Option.{option_map, option_map_or, unwrap_or}
use Rattle.cl_base.specs.Methods.{has_method}
use Rattle.cl_base.specs.declared.history.FailoverMode.{FailoverMode}
use Rattle.cl_base.specs.declared.history.FailoverMode.TheVariants as mode
use Rattle.cl_base.specs.declared.method.Method.TheVariants.{PostnetStop}
use Rattle.rt_types.specs.Fields.{TypeFields}
use Rattle.rt_types.specs.Types.{type_of}
use Rattle.rg_props.specs.Affinities.{is_best}
use Rattle.rg_props.specs.Lookups.{named}
use Rattle.rg_props.specs.declared.affinity.Affine.{Affine}
use Rattle.rg_props.specs.declared.group.Group.{Group}
use Rattle.rg_props.specs.declared.group.Resource.{Resource}
use Rattle.ccr_tables.specs.State.{ConfigState}

-- its type
abbrev pub type_in : ConfigState → Option Resource → Option TypeFields
type_in c None = None
type_in c (Some x) = type_of c.types x.resource_type

abbrev pub type_named : ConfigState → List ℕ → Option TypeFields
type_named c r = type_in c (named c.groups.resources r)

-- the name of the agent that carries out its methods
abbrev pub agent_of : ConfigState → List ℕ → Option (List ℕ)
agent_of c r = option_map (λ t. t.agent) (type_named c r)

-- whether its type has POSTNET_STOP
abbrev pub has_postnet_stop : ConfigState → List ℕ → Bool
has_postnet_stop c r = option_map_or (λ t. has_method t.methods PostnetStop) (type_named c r) false

abbrev pub mode_in : Option Resource → FailoverMode
mode_in None = mode.None
mode_in (Some x) = x.mode

-- its Failover_mode
abbrev pub mode_of : ConfigState → List ℕ → FailoverMode
mode_of c r = mode_in (named c.groups.resources r)

abbrev pub suspends : Option Group → Bool
suspends None = false
suspends (Some g) = g.suspended

abbrev pub suspended_in : ConfigState → Option Resource → Bool
suspended_in c None = false
suspended_in c (Some x) = suspends (named c.groups.groups x.group)

-- whether its group is suspended
abbrev pub is_suspended : ConfigState → List ℕ → Bool
is_suspended c r = suspended_in c (named c.groups.resources r)

-- The group that a group's start failures and moves are charged to: the one that it declares `+++` to, and else itself.
abbrev pub best_of : List Affine → Option (List ℕ)
best_of affinities = option_map (λ a. a.group) (find (λ a. is_best a.affinity) affinities)

abbrev pub charged_by : List ℕ → Option Group → List ℕ
charged_by own None = own
charged_by own (Some g) = unwrap_or (best_of g.affinities) own

abbrev pub charged_in : ConfigState → Option Resource → Option (List ℕ)
charged_in c None = None
charged_in c (Some x) = Some (charged_by x.group (named c.groups.groups x.group))

-- the group that the resource's start failures and moves are charged to
abbrev pub charged : ConfigState → List ℕ → Option (List ℕ)
charged c r = charged_in c (named c.groups.resources r)
