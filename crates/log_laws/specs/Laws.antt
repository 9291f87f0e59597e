-- What is true of the configuration that a list of updates makes of a header's.
use Rattle.std.specs.Prelude.{◌≡◌, ℕ, List, None, Some, Ok, IsSome}
use Rattle.std.specs.List.{AllByRecursion, IsDistinct}
use Rattle.std.specs.Map.{keys_of}
use Rattle.std.specs.Str.{bytes_eq}
use Rattle.cl_base.specs.declared.header.Header.{Header}
use Rattle.rg_deps.specs.Orderings.{first_cycle}
use Rattle.rg_props.specs.declared.group.Group.{Group}
use Rattle.rg_props.specs.declared.group.Resource.{Resource}
use Rattle.rg_props.specs.Lookups.{named}
use Rattle.rg_view.specs.declared.view.GroupView.{GroupView}
use Rattle.ccr_tables.specs.declared.command.AdminCommand.TheVariants.{Change}
use Rattle.ccr_tables.specs.declared.update.Update.{Update}
use Rattle.ccr_tables.specs.Changes.{applied}
use Rattle.ccr_tables.specs.State.{ConfigState}
use Rattle.admin_commands.specs.declared.accepted.Accepted.TheVariants as accepted
use Rattle.admin_commands.specs.Answers.{answer_to}
use Rattle.update_log.specs.Logs.{config_after}

-- among these things is one of this name
abbrev pub IsThere : {X : Type 0} → List (List ℕ × X) → List ℕ → Type 0
IsThere things name = IsSome (named things name)

-- it is so of each resource that this one depends on
abbrev pub OfNeeded : (List ℕ → Type 0) → Resource → Type 0
OfNeeded P r = AllByRecursion P r.strong × AllByRecursion P r.weak × AllByRecursion P r.offline_restart

-- the groups that a group depends on are there, and those that it declares affinities to
abbrev pub GroupNamesGroups : List (List ℕ × Group) → Group → Type 0
GroupNamesGroups groups g = AllByRecursion (IsThere groups) g.dependencies × AllByRecursion (λ a. IsThere groups a.group) g.affinities

-- a resource's group is there, its type, and the resources that it depends on
abbrev pub ResourceNames : ConfigState → Resource → Type 0
ResourceNames s r = IsThere s.groups.groups r.group × IsThere s.types r.resource_type × OfNeeded (IsThere s.groups.resources) r

-- the types, groups and resources that something names are there, and no two things of a kind have the same name
pub record NamesAreThere (s : ConfigState) : Type 0 where
  pub groups : AllByRecursion (λ e. GroupNamesGroups s.groups.groups e.1) s.groups.groups
  pub resources : AllByRecursion (λ e. ResourceNames s e.1) s.groups.resources
  pub addresses : AllByRecursion (λ e. IsThere s.groups.groups e.1.group) s.addresses
  pub types_once : IsDistinct bytes_eq (keys_of s.types)
  pub groups_once : IsDistinct bytes_eq (keys_of s.groups.groups)
  pub resources_once : IsDistinct bytes_eq (keys_of s.groups.resources)
  pub addresses_once : IsDistinct bytes_eq (keys_of s.addresses)

-- In what a list of updates makes of the header's configuration, the types, groups and resources that something names are there.
abbrev pub LogsNameWhatIsThere : Type 0
LogsNameWhatIsThere = (h : Header) (texts : List (List ℕ)) (s : ConfigState) → config_after h texts ≡ Some s → NamesAreThere s

-- It has no cycle, of groups or of resources.
abbrev pub LogsHaveNoCycle : Type 0
LogsHaveNoCycle = (h : Header) (texts : List (List ℕ)) (s : ConfigState) → config_after h texts ≡ Some s → first_cycle s.groups ≡ None

-- Nor has it one after an update that is accepted over it, with whatever is known of groups, in any membership.
abbrev pub AcceptedUpdatesLeaveNoCycle : Type 0
AcceptedUpdatesLeaveNoCycle =
    (h : Header) (texts : List (List ℕ)) (s : ConfigState) → config_after h texts ≡ Some s
    → (v : GroupView) (members held length : ℕ) (u : Update) → answer_to s v members held length (Change u) ≡ Ok (accepted.Change u)
    → first_cycle (applied s u).groups ≡ None
