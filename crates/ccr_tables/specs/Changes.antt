-- What an update makes of a configuration.
use Rattle.std.specs.Prelude.{ℕ, ◌==◌, Bool, true, false, not, List, [], ◌∷◌, ◌++◌, Option, Some, None, Result, Ok, Err}
use Rattle.std.specs.List.{filter, fold}
use Rattle.cl_base.specs.declared.command.Policy.{Policy}
use Rattle.quorum_votes.specs.Tables.{VoteTable}
use Rattle.quorum_votes.specs.Changes as votes
use Rattle.quorum_votes.specs.declared.change.VoteChange.{VoteChange}
use Rattle.quorum_votes.specs.declared.change.VoteChange.TheVariants as vote
use Rattle.quorum_votes.specs.declared.state.DevState.{DevState}
use Rattle.quorum_votes.specs.declared.state.DevState.TheVariants as state
use Rattle.rt_types.specs.Types.{types_without}
use Rattle.load_limits.specs.Loads.{limits_of_others, limits_without}
use Rattle.rg_props.specs.declared.group.Flag.{Flag}
use Rattle.rg_props.specs.declared.group.Flag.TheVariants.{Managed, Wanted, Suspended, Enabled, Monitored}
use Rattle.rg_props.specs.Lookups.{group_set, named, resource_set, with_flag, with_named, with_new_group, with_new_resource, without, without_group, without_resource}
use Rattle.cl_base.specs.declared.header.Header.{Header}
use Rattle.cl_base.specs.declared.refusal.Refusal.{Refusal}
use Rattle.ccr_tables.specs.declared.address.Address.{Address}
use Rattle.ccr_tables.specs.declared.address.Weight.{Weight}
use Rattle.ccr_tables.specs.declared.update.DeviceChange.{DeviceChange}
use Rattle.ccr_tables.specs.declared.update.DeviceChange.TheVariants as device
use Rattle.ccr_tables.specs.declared.update.GroupChange.{GroupChange}
use Rattle.ccr_tables.specs.declared.update.GroupChange.TheVariants as group
use Rattle.ccr_tables.specs.declared.update.ResourceChange.{ResourceChange}
use Rattle.ccr_tables.specs.declared.update.ResourceChange.TheVariants as resource
use Rattle.ccr_tables.specs.declared.update.Update.{Update}
use Rattle.ccr_tables.specs.declared.update.Update.TheVariants.{RegisterType, UnregisterType, CreateGroup, DeleteGroup, SetGroup, ChangeGroup, SwitchGroup, CreateResource, DeleteResource, SetResource, ChangeResource, Device, NodeVote, AddNode, RemoveNode, CreateLimit, DeleteLimit, CreateAddress, DeleteAddress, SetWeights}
use Rattle.ccr_tables.specs.Refusals.{refusal_of, vote_number}
use Rattle.ccr_tables.specs.State.{ConfigState, first_config}
use Rattle.ccr_tables.specs.Updates.{counted, table_of}

-- a new address names no weights
abbrev pub new_address : List ℕ → Policy → Address
new_address of_group policy = record { group = of_group; policy = policy; weights = [] }

-- the address of the name has these weights now
abbrev pub weighted : List (List ℕ × Address) → List ℕ → List Weight → Option Address → List (List ℕ × Address)
weighted addresses name weights None = addresses
weighted addresses name weights (Some a) = with_named addresses name (record a { weights = weights })

-- what came of it, or what was there
abbrev pub or_same : {X E : Type 0} → Result X E → X → X
or_same (Ok new) old = new
or_same (Err e) old = old

-- the votes with the change
abbrev pub voted : VoteTable → VoteChange → VoteTable
voted v c = or_same (votes.changed v c) v

-- what a device is after the command
abbrev pub state_after : DeviceChange → DevState
state_after device.Add = state.Enabled
state_after device.Remove = state.Absent
state_after device.Enable = state.Enabled
state_after device.Disable = state.Disabled

-- the flag of a command, and whether it sets or clears it
abbrev pub group_flag : GroupChange → Flag
group_flag group.Manage = Managed
group_flag group.Unmanage = Managed
group_flag group.Online = Wanted
group_flag group.Offline = Wanted
group_flag group.Suspend = Suspended
group_flag group.Resume = Suspended

abbrev pub sets_group : GroupChange → Bool
sets_group group.Manage = true
sets_group group.Unmanage = false
sets_group group.Online = true
sets_group group.Offline = false
sets_group group.Suspend = true
sets_group group.Resume = false

abbrev pub resource_flag : ResourceChange → Flag
resource_flag resource.Enable = Enabled
resource_flag resource.Disable = Enabled
resource_flag resource.Monitor = Monitored
resource_flag resource.Unmonitor = Monitored

abbrev pub sets_resource : ResourceChange → Bool
sets_resource resource.Enable = true
sets_resource resource.Disable = false
sets_resource resource.Monitor = true
sets_resource resource.Unmonitor = false

-- what each update changes: all else stays
abbrev pub changed : ConfigState → Update → ConfigState
changed s (RegisterType name agent methods single failover) = record s { types = s.types ++ (name, record { agent = agent; methods = methods; single = single; failover = failover }) ∷ [] }
changed s (UnregisterType name) = record s { types = types_without s.types name }
changed s (CreateGroup name nodes) = record s { groups = with_new_group s.groups name nodes }
changed s (DeleteGroup name) = record s { groups = without_group s.groups name }
changed s (SetGroup name property value) = record s { groups = or_same (group_set s.groups name property value) s.groups }
changed s (ChangeGroup name change) = record s { groups = with_flag s.groups name (group_flag change) (sets_group change) }
changed s (SwitchGroup name nodes) = record s { groups = with_flag s.groups name Wanted true }
changed s (CreateResource name of_group of_type) = record s { groups = with_new_resource s.groups name of_group of_type }
changed s (DeleteResource name) = record s { groups = without_resource s.groups name }
changed s (SetResource name property value) = record s { groups = or_same (resource_set s.groups name property value) s.groups }
changed s (ChangeResource name change) = record s { groups = with_flag s.groups name (resource_flag change) (sets_resource change) }
changed s (Device d change) = record s { votes = voted s.votes (vote.Device d (state_after change)) }
changed s (NodeVote n has) = record s { votes = voted s.votes (vote.NodeVote n (vote_number has)) }
changed s (AddNode n) = record s { votes = voted s.votes (vote.Configure n); order = s.order ++ n ∷ [] }
changed s (RemoveNode n) = record s { votes = voted s.votes (vote.Remove n); order = filter (λ m. not (m == n)) s.order; limits = limits_of_others s.limits n }
changed s (CreateLimit n limit soft hard) = record s { limits = s.limits ++ record { node = n; name = limit; soft = soft; hard = hard } ∷ [] }
changed s (DeleteLimit n limit) = record s { limits = limits_without s.limits n limit }
changed s (CreateAddress name of_group policy) = record s { addresses = s.addresses ++ (name, new_address of_group policy) ∷ [] }
changed s (DeleteAddress name) = record s { addresses = without s.addresses name }
changed s (SetWeights name weights) = record s { addresses = weighted s.addresses name weights (named s.addresses name) }

-- the configuration with the update, which its table counts
abbrev pub updated : ConfigState → Update → ConfigState
updated s u = record (changed s u) { generations = counted s.generations (table_of u) }

abbrev pub unless_refused : ConfigState → Update → Option Refusal → ConfigState
unless_refused s u None = updated s u
unless_refused s u (Some r) = s

-- a refused update changes nothing
abbrev pub applied : ConfigState → Update → ConfigState
applied s u = unless_refused s u (refusal_of s u)

-- the header's configuration, changed by each update in order
abbrev pub config_of : Header → List Update → ConfigState
config_of h updates = fold applied (first_config h) updates
