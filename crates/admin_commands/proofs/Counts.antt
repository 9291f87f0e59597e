-- An update that makes or deletes nothing leaves the numbers of groups and resources.
use Rattle.std.proofs.Common.{◌≡◌, ℕ, ◌+◌, Bool, true, false, cond, List, [], ◌∷◌, length, Option, Some, None, Result, Ok, Err, arith, refl}
use Rattle.std.specs.Option.{is_some}
use Rattle.std.specs.Map.{lookup, remove_entry}
use Rattle.std.specs.Str.{bytes_eq}
use Rattle.std.proofs.lemmas.List.{length_push}
use Rattle.std.proofs.lemmas.Map.{length-set_value}
use Rattle.rg_props.specs.declared.group.Flag.{Flag}
use Rattle.rg_props.specs.declared.group.Flag.TheVariants.{Managed, Wanted, Suspended, Enabled, Monitored}
use Rattle.rg_props.specs.declared.group.Group.{Group}
use Rattle.rg_props.specs.declared.group.Resource.{Resource}
use Rattle.rg_props.specs.declared.setting.GroupSetting.{GroupSetting}
use Rattle.rg_props.specs.declared.setting.ResourceSetting.{ResourceSetting}
use Rattle.rg_props.specs.declared.setting.SetError.{SetError}
use Rattle.rg_props.specs.declared.setting.SetError.TheVariants.{BadSetting}
use Rattle.rg_props.specs.Lookups.{change_group, change_resource, flag_group, flag_resource, flagged_group, flagged_resource, group_allows, group_changed, named, resource_changed, taken_by_group, taken_by_resource, with_flag, without}
use Rattle.rg_props.specs.Settings.{changed_group, changed_resource, group_setting_in, is_allowed_resource, resource_setting_in}
use Rattle.rg_props.specs.Table.{GroupTable}
use Rattle.ccr_tables.specs.declared.update.Update.{Update}
use Rattle.ccr_tables.specs.declared.update.Update.TheVariants.{RegisterType, UnregisterType, CreateGroup, DeleteGroup, SetGroup, ChangeGroup, SwitchGroup, CreateResource, DeleteResource, SetResource, ChangeResource, Device, NodeVote, AddNode, RemoveNode, CreateLimit, DeleteLimit, CreateAddress, DeleteAddress, SetWeights}
use Rattle.ccr_tables.specs.Changes.{changed, group_flag, or_same, resource_flag, sets_group, sets_resource}
use Rattle.ccr_tables.specs.State.{ConfigState}
use Rattle.admin_commands.specs.Counts.{groups_after, one_less_if, resources_after}

taken_out : {X : Type 0} (test : List ℕ → Bool) (es : List (List ℕ × X)) → length (remove_entry test es) + cond (is_some (lookup test es)) 1 0 ≡ length es
taken_out test [] = refl
taken_out {X} test (e ∷ es) = by (test e.0) refl (taken_out test es)
  where
    by : (b : Bool) → test e.0 ≡ b → length (remove_entry test es) + cond (is_some (lookup test es)) 1 0 ≡ length es → length (remove_entry test (e ∷ es)) + cond (is_some (lookup test (e ∷ es))) 1 0 ≡ length (e ∷ es)
    by true p ih = rw p (omega arith)
    by false p ih = rw p (omega (arith, ih))

one_less : (n m : ℕ) (b : Bool) → m + cond b 1 0 ≡ n → m ≡ one_less_if n b
one_less n m true h = omega (arith, h)
one_less n m false h = omega (arith, h)

removed : {X : Type 0} (things : List (List ℕ × X)) (name : List ℕ) → length (without things name) ≡ one_less_if (length things) (is_some (named things name))
removed things name = one_less (length things) (length (without things name)) (is_some (named things name)) (taken_out (bytes_eq name) things)

module _ (t : GroupTable) (name : List ℕ) where
  set_groups : (r : Result GroupSetting SetError) → length (or_same (taken_by_group t name r) t).groups ≡ length t.groups
  set_groups (Err e) = refl
  set_groups (Ok setting) = by (group_allows t name setting)
    where
      found : (g : Option Group) → length (change_group t name setting g).groups ≡ length t.groups
      found None = refl
      found (Some g) = length-set_value (bytes_eq name) t.groups (changed_group setting g)

      by : (b : Bool) → length (or_same (cond b (Ok (group_changed t name setting)) (Err BadSetting)) t).groups ≡ length t.groups
      by true = found (named t.groups name)
      by false = refl

  set_beside_groups : (r : Result ResourceSetting SetError) → length (or_same (taken_by_resource t name r) t).groups ≡ length t.groups
  set_beside_groups (Err e) = refl
  set_beside_groups (Ok setting) = by (is_allowed_resource name setting)
    where
      found : (x : Option Resource) → length (change_resource t name setting x).groups ≡ length t.groups
      found None = refl
      found (Some x) = refl

      by : (b : Bool) → length (or_same (cond b (Ok (resource_changed t name setting)) (Err BadSetting)) t).groups ≡ length t.groups
      by true = found (named t.resources name)
      by false = refl

  set_resources : (r : Result ResourceSetting SetError) → length (or_same (taken_by_resource t name r) t).resources ≡ length t.resources
  set_resources (Err e) = refl
  set_resources (Ok setting) = by (is_allowed_resource name setting)
    where
      found : (x : Option Resource) → length (change_resource t name setting x).resources ≡ length t.resources
      found None = refl
      found (Some x) = length-set_value (bytes_eq name) t.resources (changed_resource setting x)

      by : (b : Bool) → length (or_same (cond b (Ok (resource_changed t name setting)) (Err BadSetting)) t).resources ≡ length t.resources
      by true = found (named t.resources name)
      by false = refl

  set_beside_resources : (r : Result GroupSetting SetError) → length (or_same (taken_by_group t name r) t).resources ≡ length t.resources
  set_beside_resources (Err e) = refl
  set_beside_resources (Ok setting) = by (group_allows t name setting)
    where
      found : (g : Option Group) → length (change_group t name setting g).resources ≡ length t.resources
      found None = refl
      found (Some g) = refl

      by : (b : Bool) → length (or_same (cond b (Ok (group_changed t name setting)) (Err BadSetting)) t).resources ≡ length t.resources
      by true = found (named t.groups name)
      by false = refl

  module _ (flag : Flag) (on : Bool) where
    of_group : (g : Option Group) → length (flag_group t name flag on g).groups ≡ length t.groups
    of_group None = refl
    of_group (Some g) = length-set_value (bytes_eq name) t.groups (flagged_group flag on g)

    beside_group : (g : Option Group) → length (flag_group t name flag on g).resources ≡ length t.resources
    beside_group None = refl
    beside_group (Some g) = refl

    of_resource : (x : Option Resource) → length (flag_resource t name flag on x).resources ≡ length t.resources
    of_resource None = refl
    of_resource (Some x) = length-set_value (bytes_eq name) t.resources (flagged_resource flag on x)

    beside_resource : (x : Option Resource) → length (flag_resource t name flag on x).groups ≡ length t.groups
    beside_resource None = refl
    beside_resource (Some x) = refl

  flagged_groups : (flag : Flag) (on : Bool) → length (with_flag t name flag on).groups ≡ length t.groups
  flagged_groups Managed on = of_group Managed on (named t.groups name)
  flagged_groups Wanted on = of_group Wanted on (named t.groups name)
  flagged_groups Suspended on = of_group Suspended on (named t.groups name)
  flagged_groups Enabled on = beside_resource Enabled on (named t.resources name)
  flagged_groups Monitored on = beside_resource Monitored on (named t.resources name)

  flagged_resources : (flag : Flag) (on : Bool) → length (with_flag t name flag on).resources ≡ length t.resources
  flagged_resources Managed on = beside_group Managed on (named t.groups name)
  flagged_resources Wanted on = beside_group Wanted on (named t.groups name)
  flagged_resources Suspended on = beside_group Suspended on (named t.groups name)
  flagged_resources Enabled on = of_resource Enabled on (named t.resources name)
  flagged_resources Monitored on = of_resource Monitored on (named t.resources name)

pub groups_counted : (s : ConfigState) (u : Update) → length (changed s u).groups.groups ≡ groups_after s u
groups_counted s (RegisterType name agent methods single failover) = refl
groups_counted s (UnregisterType name) = refl
groups_counted s (CreateGroup name nodes) = length_push s.groups.groups _
groups_counted s (DeleteGroup name) = removed s.groups.groups name
groups_counted s (SetGroup name property value) = set_groups s.groups name (group_setting_in s.groups.version property value)
groups_counted s (ChangeGroup name change) = flagged_groups s.groups name (group_flag change) (sets_group change)
groups_counted s (SwitchGroup name nodes) = flagged_groups s.groups name Wanted true
groups_counted s (CreateResource name of_group of_type) = refl
groups_counted s (DeleteResource name) = refl
groups_counted s (SetResource name property value) = set_beside_groups s.groups name (resource_setting_in property value)
groups_counted s (ChangeResource name change) = flagged_groups s.groups name (resource_flag change) (sets_resource change)
groups_counted s (Device d change) = refl
groups_counted s (NodeVote n vote) = refl
groups_counted s (AddNode n) = refl
groups_counted s (RemoveNode n) = refl
groups_counted s (CreateLimit n limit soft hard) = refl
groups_counted s (DeleteLimit n limit) = refl
groups_counted s (CreateAddress name of_group policy) = refl
groups_counted s (DeleteAddress name) = refl
groups_counted s (SetWeights name weights) = refl

pub resources_counted : (s : ConfigState) (u : Update) → length (changed s u).groups.resources ≡ resources_after s u
resources_counted s (RegisterType name agent methods single failover) = refl
resources_counted s (UnregisterType name) = refl
resources_counted s (CreateGroup name nodes) = refl
resources_counted s (DeleteGroup name) = refl
resources_counted s (SetGroup name property value) = set_beside_resources s.groups name (group_setting_in s.groups.version property value)
resources_counted s (ChangeGroup name change) = flagged_resources s.groups name (group_flag change) (sets_group change)
resources_counted s (SwitchGroup name nodes) = flagged_resources s.groups name Wanted true
resources_counted s (CreateResource name of_group of_type) = length_push s.groups.resources _
resources_counted s (DeleteResource name) = removed s.groups.resources name
resources_counted s (SetResource name property value) = set_resources s.groups name (resource_setting_in property value)
resources_counted s (ChangeResource name change) = flagged_resources s.groups name (resource_flag change) (sets_resource change)
resources_counted s (Device d change) = refl
resources_counted s (NodeVote n vote) = refl
resources_counted s (AddNode n) = refl
resources_counted s (RemoveNode n) = refl
resources_counted s (CreateLimit n limit soft hard) = refl
resources_counted s (DeleteLimit n limit) = refl
resources_counted s (CreateAddress name of_group policy) = refl
resources_counted s (DeleteAddress name) = refl
resources_counted s (SetWeights name weights) = refl
