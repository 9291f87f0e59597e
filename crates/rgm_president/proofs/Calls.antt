-- Which calls are allowed does not depend on the second.
use Rattle.std.proofs.Common.{◌≡◌, ℕ, List, refl, ap, ◌∙◌}
use Rattle.cl_base.specs.declared.method.Method.{Method}
use Rattle.load_limits.specs.declared.limits.Limit.{Limit}
use Rattle.placement.specs.Resources.{is_stop_failed}
use Rattle.rg_props.specs.Table.{GroupTable}
use Rattle.rg_props.specs.declared.group.Resource.{Resource}
use Rattle.rg_view.specs.declared.view.GroupView.{GroupView}
use Rattle.rt_types.specs.Fields.{TypeFields}
use Rattle.sequencer.specs.declared.direction.Direction.{Direction}
use Rattle.sequencer.specs.declared.direction.Direction.TheVariants.{Down, Up}
use Rattle.rg_view.specs.declared.name_at.NameAt.{NameAt}
use Rattle.sequencer.specs.Allowed.{is_allowed, is_callable}
use Rattle.sequencer.specs.Fields.{OutlookFields}
use Rattle.sequencer.specs.Leaving.{has_lost, has_reason, going_of}
use Rattle.sequencer.specs.Loads.{is_too_much, others_load}
use Rattle.sequencer.specs.Next.{next_call_of}
use Rattle.sequencer.specs.Outlooks.{outlook_of}
use Rattle.sequencer.specs.Standing.{has_missing, is_group_online, is_group_up, is_online, is_ordered, is_up}
use Rattle.sequencer.specs.Starting.{are_suited, has_groups, has_room, is_avoided, is_supported, may_begin, waits}
use Rattle.ccr_tables.specs.State.{ConfigState}
use Rattle.rgm_president.specs.Decisions.{call_on, outlook_over}
use Rattle.sequencer.specs.Stopping.{has_follower, is_awaited, is_held}

-- the view at another second
abbrev pub later : ℕ → GroupView → GroupView
later n v = record v { now = n }

module _ (t : GroupTable) (types : List (List ℕ × TypeFields)) (limits : List Limit) (v : GroupView) (a : ℕ) where
  reason_same : (d : Direction) (members : List ℕ) (going : List NameAt) (name : List ℕ) (r : Resource) (n : ℕ)
      → has_reason d t (later a v) members going name r n ≡ has_reason d t v members going name r n
  unfolding has_reason has_lost is_online is_ordered
  reason_same Down members going name r n = refl
  reason_same Up members going name r n = refl

  allowed_same : (o : OutlookFields) (n : ℕ) (name : List ℕ) (m : Method)
      → is_allowed t types limits (later a v) o n name m ≡ is_allowed t types limits v o n name m
  unfolding is_allowed is_callable has_reason has_lost is_online is_ordered is_stop_failed is_too_much others_load has_missing is_group_online is_group_up is_up are_suited has_groups has_room is_avoided is_supported may_begin waits has_follower is_awaited is_held
  allowed_same o n name m = refl

  outlook_same : (order : List (List ℕ)) → outlook_of t types limits (later a v) order ≡ outlook_of t types limits v order
  unfolding outlook_of going_of is_allowed is_callable has_reason has_lost is_online is_ordered is_stop_failed is_too_much others_load has_missing is_group_online is_group_up is_up are_suited has_groups has_room is_avoided is_supported may_begin waits has_follower is_awaited is_held
  outlook_same order = refl

  next_same : (o : OutlookFields) (order : List (List ℕ)) (n : ℕ) → next_call_of t types limits (later a v) o order n ≡ next_call_of t types limits v o order n
  unfolding next_call_of is_allowed is_callable has_reason has_lost is_online is_ordered is_stop_failed is_too_much others_load has_missing is_group_online is_group_up is_up are_suited has_groups has_room is_avoided is_supported may_begin waits has_follower is_awaited is_held
  next_same o order n = refl

-- the first allowed call on a node
pub call_same : (c : ConfigState) (resources : List (List ℕ)) (a : ℕ) (v : GroupView) (n : ℕ) → call_on c resources (later a v) n ≡ call_on c resources v n
call_same c resources a v n =
    next_same c.groups c.types c.limits v a (outlook_over c resources (later a v)) resources n
    ∙ ap (λ o. next_call_of c.groups c.types c.limits v o resources n) (outlook_same c.groups c.types c.limits v a resources)
