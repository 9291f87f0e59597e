-- Why an update is refused over a configuration: each kind of refusal by itself, and then the first that fits.
use Rattle.std.specs.Prelude.{ℕ, ◌==◌, nat_le, nat_lt, Bool, true, false, not, ◌&&◌, ◌||◌, List, [], Option, Some, None, Result, Ok, Err, find, if◌then◌else◌}
use Rattle.std.specs.List.{list_all}
use Rattle.std.specs.Option.{option_map, is_some}
use Rattle.cl_base.specs.Methods.{has_method}
use Rattle.cl_base.specs.declared.method.Method.TheVariants.{Start, Stop, MonitorStart, MonitorStop}
use Rattle.cl_base.specs.declared.refusal.Refusal.{Refusal}
use Rattle.cl_base.specs.declared.refusal.Refusal.TheVariants.{Unknown, Exists, InUse, SameValue, BadProperty, BadSetting}
use Rattle.cl_base.specs.declared.refusal.Thing.{Thing}
use Rattle.cl_base.specs.declared.refusal.Thing.TheVariants.{Named, Numbered}
use Rattle.quorum_votes.specs.Changes.{same_state}
use Rattle.quorum_votes.specs.Votes.{device_at, is_configured, state_of, vote_of}
use Rattle.quorum_votes.specs.declared.state.DevState.{DevState}
use Rattle.quorum_votes.specs.declared.state.DevState.TheVariants as state
use Rattle.rt_types.specs.Fields.{TypeFields}
use Rattle.rt_types.specs.Types.{type_of}
use Rattle.load_limits.specs.Loads.{limit_of}
use Rattle.rg_props.specs.declared.affinity.Affine.{Affine}
use Rattle.rg_props.specs.declared.group.Group.{Group}
use Rattle.rg_props.specs.declared.group.Resource.{Resource}
use Rattle.rg_props.specs.declared.setting.GroupSetting.{GroupSetting}
use Rattle.rg_props.specs.declared.setting.GroupSetting.TheVariants as to
use Rattle.rg_props.specs.declared.setting.ResourceSetting.{ResourceSetting}
use Rattle.rg_props.specs.declared.setting.ResourceSetting.TheVariants as its
use Rattle.rg_props.specs.declared.setting.SetError.{SetError}
use Rattle.rg_props.specs.declared.setting.SetError.TheVariants as set
use Rattle.rg_props.specs.Lookups.{named}
use Rattle.rg_props.specs.Settings.{group_setting_in, resource_setting_in, is_allowed_group, is_allowed_resource}
use Rattle.rg_props.specs.Values.{are_distinct, or_else}
use Rattle.ccr_tables.specs.declared.address.Address.{Address}
use Rattle.ccr_tables.specs.declared.address.Weight.{Weight}
use Rattle.ccr_tables.specs.declared.update.DeviceChange.{DeviceChange}
use Rattle.ccr_tables.specs.declared.update.DeviceChange.TheVariants as device
use Rattle.ccr_tables.specs.declared.update.GroupChange.{GroupChange}
use Rattle.ccr_tables.specs.declared.update.GroupChange.TheVariants as group
use Rattle.ccr_tables.specs.declared.update.ResourceChange.{ResourceChange}
use Rattle.ccr_tables.specs.declared.update.ResourceChange.TheVariants as resource
use Rattle.ccr_tables.specs.declared.update.Update.{Update}
use Rattle.ccr_tables.specs.declared.update.Update.TheVariants.{RegisterType, UnregisterType, CreateGroup, DeleteGroup, SetGroup, ChangeGroup, SwitchGroup, CreateResource, DeleteResource, SetResource, ChangeResource, Device, NodeVote, AddNode, RemoveNode, CreateLimit, DeleteLimit, CreateAddress, DeleteAddress, SetWeights}
use Rattle.ccr_tables.specs.State.{ConfigState}
use Rattle.ccr_tables.specs.Uses.{has_failover, has_node, user_of_group, user_of_node, user_of_resource, user_of_type}

-- the thing, where nothing is found
abbrev pub missing : {X : Type 0} → Option X → Thing → Option Thing
missing None thing = Some thing
missing (Some x) thing = None

-- the thing, where it is not there
abbrev pub unless : Bool → Thing → Option Thing
unless true thing = None
unless false thing = Some thing

-- the first of the nodes that is not configured
abbrev pub first_unconfigured : ConfigState → List ℕ → Option Thing
first_unconfigured s nodes = option_map (λ n. Numbered n) (find (λ n. not (is_configured s.votes n)) nodes)

abbrev pub first_unconfigured_weight : ConfigState → List Weight → Option Thing
first_unconfigured_weight s weights = option_map (λ w. Numbered w.node) (find (λ w. not (is_configured s.votes w.node)) weights)

-- the first of the names of which there is nothing
abbrev pub first_missing : {X : Type 0} → List (List ℕ × X) → List (List ℕ) → Option Thing
first_missing things names = option_map (λ name. Named name) (find (λ name. not (is_some (named things name))) names)

-- the first of the affinities of whose group there is nothing
abbrev pub first_missing_affine : ConfigState → List Affine → Option Thing
first_missing_affine s affinities = option_map (λ a. Named a.group) (find (λ a. not (is_some (named s.groups.groups a.group))) affinities)

-- the first thing that a value names and that is not there
abbrev pub unknown_in_group_setting : ConfigState → GroupSetting → Option Thing
unknown_in_group_setting s (to.Nodelist nodes) = first_unconfigured s nodes
unknown_in_group_setting s (to.Dependencies names) = first_missing s.groups.groups names
unknown_in_group_setting s (to.Affinities affinities) = first_missing_affine s affinities
unknown_in_group_setting s (to.Maximum n) = None
unknown_in_group_setting s (to.Desired n) = None
unknown_in_group_setting s (to.Pingpong n) = None
unknown_in_group_setting s (to.Failback choice) = None
unknown_in_group_setting s (to.Factors factors) = None
unknown_in_group_setting s (to.Priority n) = None

abbrev pub unknown_in_resource_setting : ConfigState → ResourceSetting → Option Thing
unknown_in_resource_setting s (its.Strong names) = first_missing s.groups.resources names
unknown_in_resource_setting s (its.Weak names) = first_missing s.groups.resources names
unknown_in_resource_setting s (its.OfflineRestart names) = first_missing s.groups.resources names
unknown_in_resource_setting s (its.Mode mode) = None
unknown_in_resource_setting s (its.RetryCount n) = None
unknown_in_resource_setting s (its.RetryInterval n) = None

-- the group itself, or what its new value names, where that has the form of a value
abbrev pub unknown_in_group_set : ConfigState → List ℕ → Option Group → Result GroupSetting SetError → Option Thing
unknown_in_group_set s name None read = Some (Named name)
unknown_in_group_set s name (Some g) (Ok setting) = unknown_in_group_setting s setting
unknown_in_group_set s name (Some g) (Err e) = None

abbrev pub unknown_in_resource_set : ConfigState → List ℕ → Option Resource → Result ResourceSetting SetError → Option Thing
unknown_in_resource_set s name None read = Some (Named name)
unknown_in_resource_set s name (Some r) (Ok setting) = unknown_in_resource_setting s setting
unknown_in_resource_set s name (Some r) (Err e) = None

-- what the header lacks
abbrev pub has_device : ConfigState → ℕ → Bool
has_device s d = is_some (device_at s.votes d)

abbrev pub device_state : ConfigState → ℕ → DevState
device_state s d = state_of (device_at s.votes d)

abbrev pub is_quorum_device : ConfigState → ℕ → Bool
is_quorum_device s d = not (same_state (device_state s d) state.Absent)

-- a device to be added is one of the header's; the other commands speak of a quorum device
abbrev pub is_known_device : ConfigState → ℕ → DeviceChange → Bool
is_known_device s d device.Add = has_device s d
is_known_device s d device.Remove = is_quorum_device s d
is_known_device s d device.Enable = is_quorum_device s d
is_known_device s d device.Disable = is_quorum_device s d

-- 7: what the update names and what is not there, the first in the order of its words
abbrev pub unknown_in : ConfigState → Update → Option Thing
unknown_in s (RegisterType name agent methods single failover) = None
unknown_in s (UnregisterType name) = missing (type_of s.types name) (Named name)
unknown_in s (CreateGroup name nodes) = first_unconfigured s nodes
unknown_in s (DeleteGroup name) = missing (named s.groups.groups name) (Named name)
unknown_in s (SetGroup name property value) = unknown_in_group_set s name (named s.groups.groups name) (group_setting_in s.groups.version property value)
unknown_in s (ChangeGroup name change) = missing (named s.groups.groups name) (Named name)
unknown_in s (SwitchGroup name nodes) = or_else (missing (named s.groups.groups name) (Named name)) (first_unconfigured s nodes)
unknown_in s (CreateResource name of_group of_type) = or_else (missing (named s.groups.groups of_group) (Named of_group)) (missing (type_of s.types of_type) (Named of_type))
unknown_in s (DeleteResource name) = missing (named s.groups.resources name) (Named name)
unknown_in s (SetResource name property value) = unknown_in_resource_set s name (named s.groups.resources name) (resource_setting_in property value)
unknown_in s (ChangeResource name change) = missing (named s.groups.resources name) (Named name)
unknown_in s (Device d change) = unless (is_known_device s d change) (Numbered d)
unknown_in s (NodeVote n vote) = unless (is_configured s.votes n) (Numbered n)
unknown_in s (AddNode n) = unless (nat_le n s.nodes) (Numbered n)
unknown_in s (RemoveNode n) = unless (is_configured s.votes n) (Numbered n)
unknown_in s (CreateLimit n limit soft hard) = unless (is_configured s.votes n) (Numbered n)
unknown_in s (DeleteLimit n limit) = or_else (unless (is_configured s.votes n) (Numbered n)) (missing (limit_of s.limits n limit) (Named limit))
unknown_in s (CreateAddress name of_group policy) = missing (named s.groups.groups of_group) (Named of_group)
unknown_in s (DeleteAddress name) = missing (named s.addresses name) (Named name)
unknown_in s (SetWeights name weights) = or_else (missing (named s.addresses name) (Named name)) (first_unconfigured_weight s weights)

-- only `add` makes something of a device
abbrev pub is_added_device : ConfigState → ℕ → DeviceChange → Bool
is_added_device s d device.Add = is_quorum_device s d
is_added_device s d device.Remove = false
is_added_device s d device.Enable = false
is_added_device s d device.Disable = false

-- 8: what is to be made is there already
abbrev pub exists_in : ConfigState → Update → Bool
exists_in s (RegisterType name agent methods single failover) = is_some (type_of s.types name)
exists_in s (CreateGroup name nodes) = is_some (named s.groups.groups name)
exists_in s (CreateResource name of_group of_type) = is_some (named s.groups.resources name)
exists_in s (Device d change) = is_added_device s d change
exists_in s (AddNode n) = is_configured s.votes n
exists_in s (CreateLimit n limit soft hard) = is_some (limit_of s.limits n limit)
exists_in s (CreateAddress name of_group policy) = is_some (named s.addresses name)
exists_in s _ = false

-- 9: what names the thing that is to be deleted
abbrev pub user_in : ConfigState → Update → Option (List ℕ)
user_in s (UnregisterType name) = user_of_type s name
user_in s (DeleteGroup name) = user_of_group s name
user_in s (DeleteResource name) = user_of_resource s name
user_in s (RemoveNode n) = user_of_node s n
user_in s _ = None

abbrev pub is_same_group : Option Group → GroupChange → Bool
is_same_group None change = false
is_same_group (Some g) group.Manage = g.managed
is_same_group (Some g) group.Unmanage = not g.managed
is_same_group (Some g) group.Online = false
is_same_group (Some g) group.Offline = false
is_same_group (Some g) group.Suspend = g.suspended
is_same_group (Some g) group.Resume = not g.suspended

abbrev pub is_same_resource : Option Resource → ResourceChange → Bool
is_same_resource None change = false
is_same_resource (Some r) resource.Enable = r.enabled
is_same_resource (Some r) resource.Disable = not r.enabled
is_same_resource (Some r) resource.Monitor = r.monitored
is_same_resource (Some r) resource.Unmonitor = not r.monitored

abbrev pub is_same_device : ConfigState → ℕ → DeviceChange → Bool
is_same_device s d device.Add = false
is_same_device s d device.Remove = false
is_same_device s d device.Enable = same_state (device_state s d) state.Enabled
is_same_device s d device.Disable = same_state (device_state s d) state.Disabled

-- a node with a vote has vote 1
abbrev pub vote_number : Bool → ℕ
vote_number true = 1
vote_number false = 0

-- 12: nothing would change; `online` and `offline` may be given again
abbrev pub is_same_in : ConfigState → Update → Bool
is_same_in s (ChangeGroup name change) = is_same_group (named s.groups.groups name) change
is_same_in s (ChangeResource name change) = is_same_resource (named s.groups.resources name) change
is_same_in s (Device d change) = is_same_device s d change
is_same_in s (NodeVote n vote) = vote_of s.votes n == vote_number vote
is_same_in s _ = false

abbrev pub is_bad_property : {X : Type 0} → Result X SetError → Bool
is_bad_property (Err set.BadProperty) = true
is_bad_property (Err set.BadSetting) = false
is_bad_property (Err set.NoMemory) = false
is_bad_property (Ok x) = false

-- 15: there is no such property
abbrev pub is_bad_property_in : ConfigState → Update → Bool
is_bad_property_in s (SetGroup name property value) = is_bad_property (group_setting_in s.groups.version property value)
is_bad_property_in s (SetResource name property value) = is_bad_property (resource_setting_in property value)
is_bad_property_in s _ = false

-- above 1 for a group with a resource of a failover type
abbrev pub passes_failover : ConfigState → List ℕ → GroupSetting → Bool
passes_failover s name (to.Maximum n) = nat_lt 1 n && has_failover s name
passes_failover s name (to.Nodelist nodes) = false
passes_failover s name (to.Desired n) = false
passes_failover s name (to.Dependencies names) = false
passes_failover s name (to.Affinities affinities) = false
passes_failover s name (to.Pingpong n) = false
passes_failover s name (to.Failback choice) = false
passes_failover s name (to.Factors factors) = false
passes_failover s name (to.Priority n) = false

-- the value has not its form, or the group may not have it
abbrev pub is_bad_group_set : ConfigState → List ℕ → Option Group → Result GroupSetting SetError → Bool
is_bad_group_set s name None read = false
is_bad_group_set s name (Some g) (Ok setting) = not (is_allowed_group name setting g) || passes_failover s name setting
is_bad_group_set s name (Some g) (Err set.BadSetting) = true
is_bad_group_set s name (Some g) (Err set.BadProperty) = false
is_bad_group_set s name (Some g) (Err set.NoMemory) = false

abbrev pub is_bad_resource_set : List ℕ → Option Resource → Result ResourceSetting SetError → Bool
is_bad_resource_set name None read = false
is_bad_resource_set name (Some r) (Ok setting) = not (is_allowed_resource name setting)
is_bad_resource_set name (Some r) (Err set.BadSetting) = true
is_bad_resource_set name (Some r) (Err set.BadProperty) = false
is_bad_resource_set name (Some r) (Err set.NoMemory) = false

-- a failover type in a group that may be online on more nodes than one
abbrev pub is_bad_resource : Option Group → Option TypeFields → Bool
is_bad_resource None of_type = false
is_bad_resource (Some g) None = false
is_bad_resource (Some g) (Some t) = t.failover && nat_lt 1 g.maximum

abbrev pub both_or_neither : Bool → Bool → Bool
both_or_neither true true = true
both_or_neither false false = true
both_or_neither true false = false
both_or_neither false true = false

-- methods that make a type
abbrev pub is_complete : ℕ → Bool
is_complete methods = has_method methods Start && has_method methods Stop && both_or_neither (has_method methods MonitorStart) (has_method methods MonitorStop)

abbrev pub nodelist_of : Option Group → List ℕ
nodelist_of None = []
nodelist_of (Some g) = g.nodelist

abbrev pub same_node : Weight → Weight → Bool
same_node v w = v.node == w.node

abbrev pub are_listed : List ℕ → List Weight → Bool
are_listed nodes weights = list_all (λ w. has_node w.node nodes) weights

-- a node outside the Nodelist, or a node twice
abbrev pub is_bad_weights : ConfigState → Option Address → List Weight → Bool
is_bad_weights s None weights = false
is_bad_weights s (Some a) weights = not (are_listed (nodelist_of (named s.groups.groups a.group)) weights) || not (are_distinct same_node weights)

-- 16: a value that the property, or what is made, may not have. So are, too, methods that make no type and a limit above 1,000,000,
-- which no command's words spell.
abbrev pub is_bad_setting_in : ConfigState → Update → Bool
is_bad_setting_in s (RegisterType name agent methods single failover) = not (is_complete methods)
is_bad_setting_in s (SetGroup name property value) = is_bad_group_set s name (named s.groups.groups name) (group_setting_in s.groups.version property value)
is_bad_setting_in s (SetResource name property value) = is_bad_resource_set name (named s.groups.resources name) (resource_setting_in property value)
is_bad_setting_in s (CreateResource name of_group of_type) = is_bad_resource (named s.groups.groups of_group) (type_of s.types of_type)
is_bad_setting_in s (CreateLimit n limit soft hard) = nat_lt hard soft || nat_lt 1000000 hard
is_bad_setting_in s (SetWeights name weights) = is_bad_weights s (named s.addresses name) weights
is_bad_setting_in s _ = false

-- the first that fits, in this order: unknown, exists, in use, same value, bad property, bad setting
abbrev pub first_fit : Option Thing → Bool → Option (List ℕ) → Bool → Bool → Bool → Option Refusal
first_fit (Some thing) exists user same property setting = Some (Unknown thing)
first_fit None true user same property setting = Some Exists
first_fit None false (Some name) same property setting = Some (InUse name)
first_fit None false None true property setting = Some SameValue
first_fit None false None false true setting = Some BadProperty
first_fit None false None false false true = Some BadSetting
first_fit None false None false false false = None

abbrev pub refusal_of : ConfigState → Update → Option Refusal
refusal_of s u = first_fit (unknown_in s u) (exists_in s u) (user_in s u) (is_same_in s u) (is_bad_property_in s u) (is_bad_setting_in s u)
