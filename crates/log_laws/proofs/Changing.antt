-- Flags and most properties change no name that stands in a group or a resource.
use Rattle.std.proofs.Common.{◌≡◌, ℕ, Bool, true, false, cond, Option, None, Some, List, Result, Ok, Err, refl}
use Rattle.rg_props.specs.declared.group.Flag.{Flag}
use Rattle.rg_props.specs.declared.group.Flag.TheVariants.{Managed, Wanted, Suspended, Enabled, Monitored}
use Rattle.rg_props.specs.declared.group.Group.{Group}
use Rattle.rg_props.specs.declared.group.Resource.{Resource}
use Rattle.rg_props.specs.declared.setting.GroupSetting.{GroupSetting}
use Rattle.rg_props.specs.declared.setting.GroupSetting.TheVariants as to
use Rattle.rg_props.specs.declared.setting.ResourceSetting.{ResourceSetting}
use Rattle.rg_props.specs.declared.setting.ResourceSetting.TheVariants as its
use Rattle.rg_props.specs.declared.setting.SetError.{SetError}
use Rattle.rg_props.specs.declared.setting.SetError.TheVariants.{BadSetting}
use Rattle.rg_props.specs.Lookups.{change_group, change_resource, flag_group, flag_resource, flagged_group, flagged_resource, group_allows, group_changed, named, resource_changed, taken_by_group, taken_by_resource, with_flag, with_group, with_resource}
use Rattle.rg_props.specs.Settings.{changed_group, changed_resource, is_allowed_resource}
use Rattle.rg_props.specs.Table.{GroupTable}
use Rattle.ccr_tables.specs.Changes.{or_same}
use Rattle.admin_commands.specs.Settings.{is_dependency, orders_groups}

-- the names that stand in a group are the same
pub record SameGroup (g h : Group) : Type 0 where
  pub dependencies : g.dependencies ≡ h.dependencies
  pub affinities : g.affinities ≡ h.affinities

-- and those in a resource
pub record SameResource (r q : Resource) : Type 0 where
  pub group : r.group ≡ q.group
  pub resource_type : r.resource_type ≡ q.resource_type
  pub strong : r.strong ≡ q.strong
  pub weak : r.weak ≡ q.weak
  pub offline_restart : r.offline_restart ≡ q.offline_restart

same_flagged_group : (flag : Flag) (on : Bool) (g : Group) → SameGroup g (flagged_group flag on g)
same_flagged_group Managed on g = record { dependencies = refl; affinities = refl }
same_flagged_group Wanted on g = record { dependencies = refl; affinities = refl }
same_flagged_group Suspended on g = record { dependencies = refl; affinities = refl }
same_flagged_group Enabled on g = record { dependencies = refl; affinities = refl }
same_flagged_group Monitored on g = record { dependencies = refl; affinities = refl }

same_flagged_resource : (flag : Flag) (on : Bool) (r : Resource) → SameResource r (flagged_resource flag on r)
same_flagged_resource Enabled on r = record { group = refl; resource_type = refl; strong = refl; weak = refl; offline_restart = refl }
same_flagged_resource Monitored on r = record { group = refl; resource_type = refl; strong = refl; weak = refl; offline_restart = refl }
same_flagged_resource Managed on r = record { group = refl; resource_type = refl; strong = refl; weak = refl; offline_restart = refl }
same_flagged_resource Wanted on r = record { group = refl; resource_type = refl; strong = refl; weak = refl; offline_restart = refl }
same_flagged_resource Suspended on r = record { group = refl; resource_type = refl; strong = refl; weak = refl; offline_restart = refl }

same_changed_group : (setting : GroupSetting) (g : Group) → orders_groups (Ok setting) ≡ false → SameGroup g (changed_group setting g)
same_changed_group (to.Nodelist nodes) g h = record { dependencies = refl; affinities = refl }
same_changed_group (to.Maximum n) g h = record { dependencies = refl; affinities = refl }
same_changed_group (to.Desired n) g h = record { dependencies = refl; affinities = refl }
same_changed_group (to.Dependencies names) g h = cc h
same_changed_group (to.Affinities affinities) g h = cc h
same_changed_group (to.Pingpong n) g h = record { dependencies = refl; affinities = refl }
same_changed_group (to.Failback choice) g h = record { dependencies = refl; affinities = refl }
same_changed_group (to.Factors factors) g h = record { dependencies = refl; affinities = refl }
same_changed_group (to.Priority n) g h = record { dependencies = refl; affinities = refl }

same_changed_resource : (setting : ResourceSetting) (r : Resource) → is_dependency (Ok setting) ≡ false → SameResource r (changed_resource setting r)
same_changed_resource (its.Strong names) r h = cc h
same_changed_resource (its.Weak names) r h = cc h
same_changed_resource (its.OfflineRestart names) r h = cc h
same_changed_resource (its.Mode mode) r h = record { group = refl; resource_type = refl; strong = refl; weak = refl; offline_restart = refl }
same_changed_resource (its.RetryCount n) r h = record { group = refl; resource_type = refl; strong = refl; weak = refl; offline_restart = refl }
same_changed_resource (its.RetryInterval n) r h = record { group = refl; resource_type = refl; strong = refl; weak = refl; offline_restart = refl }

-- what is so of a table, and of it with a changed group or resource that is there
module _ (Q : GroupTable → Type 0) (t : GroupTable) (own : Q t) where
  -- a setting is taken, or all is as it was
  pub group_set_to : (name : List ℕ) (setting : GroupSetting) → ((g : Group) → named t.groups name ≡ Some g → Q (with_group t name (changed_group setting g)))
      → Q (or_same (taken_by_group t name (Ok setting)) t)
  group_set_to name setting change = by (group_allows t name setting)
    where
      there : (o : Option Group) → named t.groups name ≡ o → Q (change_group t name setting o)
      there None is = own
      there (Some g) is = change g is

      by : (b : Bool) → Q (or_same (cond b (Ok (group_changed t name setting)) (Err BadSetting)) t)
      by true = there (named t.groups name) refl
      by false = own

  pub resource_set_to : (name : List ℕ) (setting : ResourceSetting) → ((r : Resource) → named t.resources name ≡ Some r → Q (with_resource t name (changed_resource setting r)))
      → Q (or_same (taken_by_resource t name (Ok setting)) t)
  resource_set_to name setting change = by (is_allowed_resource name setting)
    where
      there : (o : Option Resource) → named t.resources name ≡ o → Q (change_resource t name setting o)
      there None is = own
      there (Some r) is = change r is

      by : (b : Bool) → Q (or_same (cond b (Ok (resource_changed t name setting)) (Err BadSetting)) t)
      by true = there (named t.resources name) refl
      by false = own

  module _ (on_group : (name : List ℕ) (g h : Group) → named t.groups name ≡ Some g → SameGroup g h → Q (with_group t name h))
      (on_resource : (name : List ℕ) (r q : Resource) → named t.resources name ≡ Some r → SameResource r q → Q (with_resource t name q)) where
    pub flagged : (name : List ℕ) (flag : Flag) (on : Bool) → Q (with_flag t name flag on)
    flagged name flag on = by flag
      where
        of_group : (f : Flag) (o : Option Group) → named t.groups name ≡ o → Q (flag_group t name f on o)
        of_group f None is = own
        of_group f (Some g) is = on_group name g (flagged_group f on g) is (same_flagged_group f on g)

        of_resource : (f : Flag) (o : Option Resource) → named t.resources name ≡ o → Q (flag_resource t name f on o)
        of_resource f None is = own
        of_resource f (Some r) is = on_resource name r (flagged_resource f on r) is (same_flagged_resource f on r)

        by : (f : Flag) → Q (with_flag t name f on)
        by Managed = of_group Managed (named t.groups name) refl
        by Wanted = of_group Wanted (named t.groups name) refl
        by Suspended = of_group Suspended (named t.groups name) refl
        by Enabled = of_resource Enabled (named t.resources name) refl
        by Monitored = of_resource Monitored (named t.resources name) refl

    pub group_set_without_order : (name : List ℕ) (read : Result GroupSetting SetError) → orders_groups read ≡ false → Q (or_same (taken_by_group t name read) t)
    group_set_without_order name (Err error) h = own
    group_set_without_order name (Ok setting) h = group_set_to name setting (λ g is. on_group name g (changed_group setting g) is (same_changed_group setting g h))

    pub resource_set_without_order : (name : List ℕ) (read : Result ResourceSetting SetError) → is_dependency read ≡ false → Q (or_same (taken_by_resource t name read) t)
    resource_set_without_order name (Err error) h = own
    resource_set_without_order name (Ok setting) h = resource_set_to name setting (λ r is. on_resource name r (changed_resource setting r) is (same_changed_resource setting r h))
