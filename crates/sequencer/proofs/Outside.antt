-- Outside the goal of its group no up call of a resource is allowed.
use Rattle.std.proofs.Common.{◌≡◌, ℕ, Bool, true, false, not, ◌&&◌, ◌||◌, List, Option, Some, None, refl}
use Rattle.cl_base.specs.Sets.{has}
use Rattle.cl_base.specs.declared.method.Method.{Method}
use Rattle.cl_base.specs.declared.method.Method.TheVariants.{MonitorStart, PrenetStart, Start}
use Rattle.load_limits.specs.declared.limits.Limit.{Limit}
use Rattle.placement.specs.Resources.{is_stop_failed}
use Rattle.rg_props.specs.declared.group.Group.{Group}
use Rattle.rg_props.specs.declared.group.Resource.{Resource}
use Rattle.rg_props.specs.Lookups.{named}
use Rattle.rg_props.specs.Table.{GroupTable}
use Rattle.rg_view.specs.declared.states.ResourceAt.{ResourceAt}
use Rattle.rg_view.specs.declared.view.GroupView.{GroupView}
use Rattle.rg_view.specs.States.{state_of}
use Rattle.rt_types.specs.Fields.{TypeFields}
use Rattle.rt_types.specs.Types.{type_of}
use Rattle.sequencer.specs.declared.direction.Direction.TheVariants.{Up}
use Rattle.sequencer.specs.Allowed.{has_up_call, is_allowed, is_callable, is_callable_in, may_call, offers}
use Rattle.sequencer.specs.Fields.{OutlookFields}
use Rattle.sequencer.specs.Kept.{goal_for}
use Rattle.sequencer.specs.Leaving.{has_reason}
use Rattle.sequencer.specs.Starting.{is_wanted, may_begin, may_begin_in, may_start, may_start_monitor, may_start_net}

third_false : (a b c : Bool) → c ≡ false → (a && b && c) ≡ false
third_false true true c f = f
third_false true false c f = refl
third_false false b c f = refl

fourth_false : (a b c d : Bool) → d ≡ false → (a && b && c && d) ≡ false
fourth_false true true true d f = f
fourth_false true true false d f = refl
fourth_false true false c d f = refl
fourth_false false b c d f = refl

fifth_false : (a b c d e : Bool) → e ≡ false → (a && b && c && d && e) ≡ false
fifth_false true true true true e f = f
fifth_false true true true false e f = refl
fifth_false true true false d e f = refl
fifth_false true false c d e f = refl
fifth_false false b c d e f = refl

none_of_three : (a b c : Bool) → a ≡ false → b ≡ false → c ≡ false → (a || b || c) ≡ false
none_of_three a b c e f g = rw (e, f, g) refl

module _ (t : GroupTable) (types : List (List ℕ × TypeFields)) (limits : List Limit) (v : GroupView) (o : OutlookFields) (n : ℕ) (name : List ℕ) where
  module _ (r : Resource) (out : has (goal_for v (Some r)) n ≡ false) where
    settled : not (has_reason Up t v o.members o.for_up name r n) ≡ false
    unfolding has_reason
    settled = rw out refl

    none_wanted : (s : ResourceAt) → is_wanted t v o name r n s ≡ false
    none_wanted s = third_false r.enabled (not s.faulted) (not (has_reason Up t v o.members o.for_up name r n)) settled

    none_begins_in : (s : ResourceAt) (g : Option Group) → may_begin_in t limits v o name r n s g ≡ false
    none_begins_in s None = refl
    none_begins_in s (Some g) = rw (none_wanted s) refl

    none_begins : (s : ResourceAt) → may_begin t limits v o name r n s ≡ false
    unfolding may_begin
    none_begins s = none_begins_in s (named t.groups r.group)

    callable : (m : Method) → may_call t limits v o name r n (state_of v.resources name n) (offers (type_of types r.resource_type) PrenetStart) m ≡ false → is_callable t types limits v o n name r m ≡ false
    unfolding is_callable
    callable m none =
        fourth_false (has v.members n) (offers (type_of types r.resource_type) m) (not (is_stop_failed t v r.group))
        (may_call t limits v o name r n (state_of v.resources name n) (offers (type_of types r.resource_type) PrenetStart) m) none

    no_net : is_callable t types limits v o n name r PrenetStart ≡ false
    no_net =
        let s : ResourceAt = state_of v.resources name n in
        callable PrenetStart (third_false (not s.pre) (not s.run) (may_begin t limits v o name r n s) (none_begins s))

    no_start : is_callable t types limits v o n name r Start ≡ false
    no_start =
        let s : ResourceAt = state_of v.resources name n in
        let net : Bool = offers (type_of types r.resource_type) PrenetStart in
        callable Start (third_false (not s.run) (s.pre || not net) (may_begin t limits v o name r n s) (none_begins s))

    no_monitor : is_callable t types limits v o n name r MonitorStart ≡ false
    no_monitor =
        let s : ResourceAt = state_of v.resources name n in
        callable MonitorStart (fifth_false s.run (not s.mon) r.monitored (not s.monitor_failed) (not (has_reason Up t v o.members o.for_up name r n)) settled)

  in_none : (found : Option Resource) → has (goal_for v found) n ≡ false
      → (is_callable_in t types limits v o n name PrenetStart found || is_callable_in t types limits v o n name Start found || is_callable_in t types limits v o n name MonitorStart found) ≡ false
  in_none None out = refl
  in_none (Some r) out =
      none_of_three (is_callable t types limits v o n name r PrenetStart) (is_callable t types limits v o n name r Start)
      (is_callable t types limits v o n name r MonitorStart) (no_net r out) (no_start r out) (no_monitor r out)

  pub none_outside : has (goal_for v (named t.resources name)) n ≡ false → has_up_call t types limits v o n name ≡ false
  unfolding is_allowed
  none_outside out = in_none (named t.resources name) out
