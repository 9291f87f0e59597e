-- Up calls: PRENET_START, then START, then MONITOR_START.
use Rattle.std.specs.Prelude.{ℕ, ◌==◌, nat_lt, Bool, true, false, not, ◌&&◌, ◌||◌, List, length, Option, None, Some}
use Rattle.std.specs.List.{filter, list_all, list_any}
use Rattle.cl_base.specs.Sets.{has}
use Rattle.load_limits.specs.declared.limits.Limit.{Limit}
use Rattle.rg_props.specs.declared.affinity.Affinity.{Affinity}
use Rattle.rg_props.specs.declared.affinity.Affinity.TheVariants.{PlusPlus, Plus, Minus, MinusMinus, PlusPlusPlus}
use Rattle.rg_props.specs.declared.affinity.Affine.{Affine}
use Rattle.rg_props.specs.declared.group.Group.{Group}
use Rattle.rg_props.specs.declared.group.Resource.{Resource}
use Rattle.rg_props.specs.Affinities.{declares}
use Rattle.rg_props.specs.Lookups.{named}
use Rattle.rg_props.specs.Table.{GroupTable}
use Rattle.rg_view.specs.declared.name_at.NameAt.{NameAt}
use Rattle.rg_view.specs.declared.states.ResourceAt.{ResourceAt}
use Rattle.rg_view.specs.declared.view.GroupView.{GroupView}
use Rattle.rg_view.specs.Goals.{goal_of}
use Rattle.rg_view.specs.Marks.{is_marked}
use Rattle.sequencer.specs.declared.direction.Direction.TheVariants.{Up}
use Rattle.sequencer.specs.Fields.{OutlookFields}
use Rattle.sequencer.specs.Leaving.{has_reason}
use Rattle.sequencer.specs.Loads.{is_too_much}
use Rattle.sequencer.specs.Scopes.{any_in_scope}
use Rattle.sequencer.specs.Standing.{is_group_online, is_group_up, is_online, is_ordered}

-- The node has room: it is of the Nodelist and the goal, the group is up on fewer than Maximum_primaries other members, and no hard limit would be passed.

abbrev pub is_up_elsewhere : GroupTable → GroupView → List ℕ → ℕ → ℕ → Bool
is_up_elsewhere t v group n m = not (m == n) && is_group_up t v group m

abbrev pub others_up : GroupTable → GroupView → List ℕ → List ℕ → ℕ → ℕ
others_up t v members group n = length (filter (is_up_elsewhere t v group n) members)

abbrev pub is_listed : List ℕ → ℕ → Bool
is_listed nodelist n = list_any (λ m. m == n) nodelist

unfoldable pub has_room : GroupTable → List Limit → GroupView → List ℕ → List ℕ → Group → ℕ → Bool
has_room t limits v members group g n =
    is_listed g.nodelist n && has (goal_of v.goals group) n && nat_lt (others_up t v members group n) g.maximum
    && not (is_too_much t limits v group g.factors n)

-- Each strong target is online in scope.

abbrev pub is_there : GroupTable → GroupView → List ℕ → List ℕ → ℕ → List ℕ → Bool
is_there t v members group n target = any_in_scope t members group n target (is_online v target)

unfoldable pub is_supported : GroupTable → GroupView → List ℕ → Resource → ℕ → Bool
is_supported t v members r n = list_all (is_there t v members r.group n) r.strong && list_all (is_there t v members r.group n) r.offline_restart

-- Each group that this one depends on is online on some member.

abbrev pub is_group_there : GroupTable → GroupView → List ℕ → List ℕ → Bool
is_group_there t v members group = list_any (is_group_online t v group) members

unfoldable pub has_groups : GroupTable → GroupView → List ℕ → Group → Bool
has_groups t v members g = list_all (is_group_there t v members) g.dependencies

-- Affinities, declared by this group and to it.

abbrev pub suits : Affinity → Bool → Bool → Bool
suits PlusPlus online up = online
suits PlusPlusPlus online up = online
suits MinusMinus online up = not up
suits Plus online up = true
suits Minus online up = true

abbrev pub is_suited : GroupTable → GroupView → ℕ → Affine → Bool
is_suited t v n a = suits a.affinity (is_group_online t v a.group n) (is_group_up t v a.group n)

unfoldable pub are_suited : GroupTable → GroupView → Group → ℕ → Bool
are_suited t v g n = list_all (is_suited t v n) g.affinities

abbrev pub avoids_up : GroupTable → GroupView → List ℕ → ℕ → List ℕ × Group → Bool
avoids_up t v group n e = declares e.1.affinities group MinusMinus && is_group_up t v e.0 n

unfoldable pub is_avoided : GroupTable → GroupView → List ℕ → ℕ → Bool
is_avoided t v group n = list_any (avoids_up t v group n) t.groups

-- Weak targets: it waits while one in scope has an order or an allowed up call.

abbrev pub is_on_its_way : GroupView → List NameAt → List ℕ → ℕ → Bool
is_on_its_way v rising target m = is_ordered v target m || is_marked rising target m

abbrev pub is_coming : GroupTable → GroupView → OutlookFields → List ℕ → ℕ → List ℕ → Bool
is_coming t v o group n target = any_in_scope t o.members group n target (is_on_its_way v o.rising target)

unfoldable pub waits : GroupTable → GroupView → OutlookFields → Resource → ℕ → Bool
waits t v o r n = list_any (is_coming t v o r.group n) r.weak

-- It shall run: it is enabled and not faulted, and none of the six reasons to go down holds.
abbrev pub is_wanted : GroupTable → GroupView → OutlookFields → List ℕ → Resource → ℕ → ResourceAt → Bool
is_wanted t v o name r n s = r.enabled && not s.faulted && not (has_reason Up t v o.members o.for_up name r n)

-- what PRENET_START and START need alike
abbrev pub may_begin_in : GroupTable → List Limit → GroupView → OutlookFields → List ℕ → Resource → ℕ → ResourceAt → Option Group → Bool
may_begin_in t limits v o name r n s None = false
may_begin_in t limits v o name r n s (Some g) =
    is_wanted t v o name r n s && has_room t limits v o.members r.group g n && is_supported t v o.members r n
    && has_groups t v o.members g && are_suited t v g n && not (is_avoided t v r.group n) && not (waits t v o r n)

unfoldable pub may_begin : GroupTable → List Limit → GroupView → OutlookFields → List ℕ → Resource → ℕ → ResourceAt → Bool
may_begin t limits v o name r n s = may_begin_in t limits v o name r n s (named t.groups r.group)

-- PRENET_START: it has not come before
abbrev pub may_start_net : GroupTable → List Limit → GroupView → OutlookFields → List ℕ → Resource → ℕ → ResourceAt → Bool
may_start_net t limits v o name r n s = not s.pre && not s.run && may_begin t limits v o name r n s

-- START: what comes before it is done, where the type has it
abbrev pub may_start : GroupTable → List Limit → GroupView → OutlookFields → List ℕ → Resource → ℕ → ResourceAt → Bool → Bool
may_start t limits v o name r n s net = not s.run && (s.pre || not net) && may_begin t limits v o name r n s

-- MONITOR_START: it runs without its monitor, which could be started so far, and none of the six reasons to go down holds
abbrev pub may_start_monitor : GroupTable → GroupView → OutlookFields → List ℕ → Resource → ℕ → ResourceAt → Bool
may_start_monitor t v o name r n s =
    s.run && not s.mon && r.monitored && not s.monitor_failed && not (has_reason Up t v o.members o.for_up name r n)
