-- An update leaves members and orders as they are.
use Rattle.std.proofs.Common.{◌≡◌, ℕ, ◌<◌, ◌^◌, List, Option, None, Some, length, refl, sym, ap, subst, ◌∙◌}
use Rattle.std.proofs.lemmas.Option.{none-some}
use Rattle.rg_props.specs.declared.group.Group.{Group}
use Rattle.rg_props.specs.Lookups.{named}
use Rattle.rg_view.specs.declared.orders.Outstanding.{Outstanding}
use Rattle.rg_view.specs.declared.view.GroupView.{GroupView}
use Rattle.rg_view.specs.Orders.{order_of}
use Rattle.ccr_tables.specs.declared.update.GroupChange.{GroupChange}
use Rattle.ccr_tables.specs.declared.update.GroupChange.TheVariants as group
use Rattle.ccr_tables.specs.declared.update.ResourceChange.{ResourceChange}
use Rattle.ccr_tables.specs.declared.update.ResourceChange.TheVariants as resource
use Rattle.ccr_tables.specs.declared.update.Update.{Update}
use Rattle.ccr_tables.specs.declared.update.Update.TheVariants.{RegisterType, UnregisterType, CreateGroup, DeleteGroup, SetGroup, ChangeGroup, SwitchGroup, CreateResource, DeleteResource, SetResource, ChangeResource, Device, NodeVote, AddNode, RemoveNode, CreateLimit, DeleteLimit, CreateAddress, DeleteAddress, SetWeights}
use Rattle.ccr_tables.specs.State.{ConfigState}
use Rattle.rgm_state.specs.Changes.{after_update, group_changed, put_online, resource_changed}
use Rattle.decision_laws.specs.Safe.{AreOwn, UpdatesStaySafe}

record KeepsSeats (v w : GroupView) : Type 0 where
  members : w.members ≡ v.members
  orders : w.outstanding ≡ v.outstanding

module _ (c : ConfigState) (v : GroupView) where
  online_keeps : (name : List ℕ) (g : Option Group) → KeepsSeats v (put_online name v g)
  online_keeps name None = record { members = refl; orders = refl }
  online_keeps name (Some g) = record { members = refl; orders = refl }

  group_keeps : (name : List ℕ) (change : GroupChange) → KeepsSeats v (group_changed c name v change)
  group_keeps name group.Online = online_keeps name (named c.groups.groups name)
  group_keeps name group.Manage = record { members = refl; orders = refl }
  group_keeps name group.Unmanage = record { members = refl; orders = refl }
  group_keeps name group.Offline = record { members = refl; orders = refl }
  group_keeps name group.Suspend = record { members = refl; orders = refl }
  group_keeps name group.Resume = record { members = refl; orders = refl }

  resource_keeps : (name : List ℕ) (change : ResourceChange) → KeepsSeats v (resource_changed name v change)
  resource_keeps name resource.Disable = record { members = refl; orders = refl }
  resource_keeps name resource.Enable = record { members = refl; orders = refl }
  resource_keeps name resource.Monitor = record { members = refl; orders = refl }
  resource_keeps name resource.Unmonitor = record { members = refl; orders = refl }

  update_keeps : (u : Update) → KeepsSeats v (after_update c u v)
  update_keeps (ChangeGroup name change) = group_keeps name change
  update_keeps (SwitchGroup name nodes) = record { members = refl; orders = refl }
  update_keeps (DeleteGroup name) = record { members = refl; orders = refl }
  update_keeps (ChangeResource name change) = resource_keeps name change
  update_keeps (DeleteResource name) = record { members = refl; orders = refl }
  update_keeps (RegisterType name agent methods single failover) = record { members = refl; orders = refl }
  update_keeps (UnregisterType name) = record { members = refl; orders = refl }
  update_keeps (CreateGroup name nodes) = record { members = refl; orders = refl }
  update_keeps (SetGroup name property value) = record { members = refl; orders = refl }
  update_keeps (CreateResource name of_group of_type) = record { members = refl; orders = refl }
  update_keeps (SetResource name property value) = record { members = refl; orders = refl }
  update_keeps (Device d change) = record { members = refl; orders = refl }
  update_keeps (NodeVote n vote) = record { members = refl; orders = refl }
  update_keeps (AddNode n) = record { members = refl; orders = refl }
  update_keeps (RemoveNode n) = record { members = refl; orders = refl }
  update_keeps (CreateLimit n limit soft hard) = record { members = refl; orders = refl }
  update_keeps (DeleteLimit n limit) = record { members = refl; orders = refl }
  update_keeps (CreateAddress name of_group policy) = record { members = refl; orders = refl }
  update_keeps (DeleteAddress name) = record { members = refl; orders = refl }
  update_keeps (SetWeights name weights) = record { members = refl; orders = refl }

pub updates_stay_safe : UpdatesStaySafe
updates_stay_safe c new u p nothing h =
    let keeps : KeepsSeats p.view (after_update new u p.view) = update_keeps new p.view u in
    record {
      members = subst (λ (s : ℕ). s < 2 ^ 32) (sym keeps.members) h.members;
      places = ap (λ (l : List (Option Outstanding)). length l) keeps.orders ∙ h.places;
      own = subst AreOwn (sym keeps.orders) h.own;
      safe = λ n o m map member is method stands waits. absurd (none-some o (sym (nothing n) ∙ ap (λ (l : List (Option Outstanding)). order_of l n) (sym keeps.orders) ∙ is));
    }
