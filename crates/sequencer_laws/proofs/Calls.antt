-- A call that is allowed under a view is an allowed call over each map that the view may stand for.
use Rattle.std.proofs.Common.{◌≡◌, ℕ, ◌⊎◌, inl, inr, Bool, true, false, cond, not, ◌||◌, List, [], ◌∷◌, Option, None, Some, fold, refl, sym, ap, subst, ◌∙◌}
use Rattle.std.proofs.lemmas.Bool.{and_parts, not-true, or_cases}
use Rattle.cl_base.specs.declared.method.Method.{Method}
use Rattle.cl_base.specs.declared.method.Method.TheVariants.{PrenetStart, Start, MonitorStart, MonitorCheck, MonitorStop, Stop, PostnetStop, Validate, Init, Fini, Boot, Update}
use Rattle.cl_base.specs.Sets.{has}
use Rattle.load_limits.specs.declared.limits.Limit.{Limit}
use Rattle.placement.specs.Resources.{is_stop_failed}
use Rattle.rg_props.specs.declared.group.Resource.{Resource}
use Rattle.rg_props.specs.Lookups.{named}
use Rattle.rg_props.specs.Table.{GroupTable}
use Rattle.rg_view.specs.declared.states.ResourceAt.{ResourceAt}
use Rattle.rg_view.specs.declared.view.GroupView.{GroupView}
use Rattle.rg_view.specs.Marks.{is_marked, marks_with}
use Rattle.rg_view.specs.States.{state_of}
use Rattle.rt_types.specs.Fields.{TypeFields}
use Rattle.rt_types.specs.Types.{type_of}
use Rattle.sequencer.specs.Allowed.{has_up_call, is_allowed, is_callable, is_callable_in, may_call, offers}
use Rattle.sequencer.specs.declared.direction.Direction.TheVariants.{Up}
use Rattle.sequencer.specs.Fields.{OutlookFields}
use Rattle.sequencer.specs.Leaving.{has_reason}
use Rattle.sequencer.specs.Outlooks.{members_of, outlook_of, with_rising, with_risings, without_risings}
use Rattle.sequencer.specs.Standing.{is_order_for, is_ordered}
use Rattle.sequencer.specs.Starting.{may_begin}
use Rattle.sequencer.specs.Stopping.{has_follower, is_awaited, is_held}
use Rattle.sequencer_laws.specs.AllowedCall.{IsAllowedCall, MayCall}
use Rattle.sequencer_laws.specs.Flags.{FlagMap, Flags}
use Rattle.sequencer_laws.specs.Laws.{AreSafeWhere, GoalsAreManaged, IsIdle, situation}
use Rattle.sequencer_laws.specs.Situations.{Situation, type_has}
use Rattle.sequencer_laws.specs.Views.{MayStandFor, flags_of}
use Rattle.sequencer_laws.proofs.Lists.{five, four, six, three}
use Rattle.sequencer_laws.proofs.Maps.{unordered}
use Rattle.sequencer_laws.proofs.Starts.{begins}
use Rattle.sequencer_laws.proofs.Stops.{none_rests, none_stays}

-- The members of an outlook are those of the view.

module _ (t : GroupTable) (types : List (List ℕ × TypeFields)) (limits : List Limit) (v : GroupView) where
  rising_keeps : (name : List ℕ) (o : OutlookFields) (n : ℕ) → (with_rising t types limits v name o n).members ≡ o.members
  rising_keeps name o n = by (has_up_call t types limits v o n name)
    where
      by : (b : Bool) → (cond b (record o { rising = marks_with o.rising name n }) o).members ≡ o.members
      by true = refl
      by false = refl

  risings_keep : (name : List ℕ) (o : OutlookFields) (nodes : List ℕ) → (fold (with_rising t types limits v name) o nodes).members ≡ o.members
  risings_keep name o [] = refl
  risings_keep name o (n ∷ nodes) = risings_keep name (with_rising t types limits v name o n) nodes ∙ rising_keeps name o n

  all_keep : (o : OutlookFields) (order : List (List ℕ)) → (fold (with_risings t types limits v) o order).members ≡ o.members
  all_keep o [] = refl
  all_keep o (name ∷ order) = all_keep (with_risings t types limits v o name) order ∙ risings_keep name o o.members

  pub members_kept : (order : List (List ℕ)) → (outlook_of t types limits v order).members ≡ members_of v
  unfolding outlook_of
  members_kept order = all_keep (without_risings t v order) order

offered_same : (m : Method) (o : Option TypeFields) → offers o m ≡ type_has m o
offered_same m None = refl
offered_same m (Some t) = refl

idle_orders_none : (v : GroupView) (name : List ℕ) (n : ℕ) → IsIdle v n → is_ordered v name n ≡ false
unfolding is_ordered
idle_orders_none v name n idle = ap (is_order_for name) idle

module _ (t : GroupTable) (types : List (List ℕ × TypeFields)) (limits : List Limit) (v : GroupView) (map : FlagMap) (stands : MayStandFor t types v map) (managed : GoalsAreManaged t v)
    (o : OutlookFields) (same : o.members ≡ members_of v) (n : ℕ) (idle : IsIdle v n) (member : has v.members n ≡ true) (name : List ℕ) where
  abbrev s : Situation
  s = situation t types limits v map

  abbrev st : ResourceAt
  st = state_of v.resources name n

  as_seen : map name n ≡ flags_of st
  as_seen = unordered t types limits v map stands name n member (idle_orders_none v name n idle)

  pre_as_seen : (map name n).pre ≡ st.pre
  pre_as_seen = ap (λ (f : Flags). f.pre) as_seen

  run_as_seen : (map name n).run ≡ st.run
  run_as_seen = ap (λ (f : Flags). f.run) as_seen

  mon_as_seen : (map name n).mon ≡ st.mon
  mon_as_seen = ap (λ (f : Flags). f.mon) as_seen

  may_be_called : (r : Resource) (m : Method) → may_call t limits v o name r n st (offers (type_of types r.resource_type) PrenetStart) m ≡ true → MayCall s n name r m
  may_be_called r PrenetStart h =
      let facts : _ = three (not st.pre) (not st.run) (may_begin t limits v o name r n st) h in
      begins t types limits v map stands n member o name r st same managed facts.2
  may_be_called r Start h =
      let facts : _ = three (not st.run) (st.pre || not (offers (type_of types r.resource_type) PrenetStart)) (may_begin t limits v o name r n st) h in (
        begins t types limits v map stands n member o name r st same managed facts.2,
        λ has_it. pre_as_seen ∙ first_done (or_cases st.pre (not (offers (type_of types r.resource_type) PrenetStart)) facts.1) (offered_same PrenetStart (type_of types r.resource_type) ∙ has_it),
      )
    where
      first_done : (st.pre ≡ true) ⊎ (not (offers (type_of types r.resource_type) PrenetStart) ≡ true) → offers (type_of types r.resource_type) PrenetStart ≡ true → st.pre ≡ true
      first_done (inl is) there = is
      first_done (inr lacks) there = absurd (let bad : true ≡ false = sym there ∙ not-true (offers (type_of types r.resource_type) PrenetStart) lacks in cc)
  may_be_called r MonitorStart h =
      let facts : _ = five st.run (not st.mon) r.monitored (not st.monitor_failed) (not (has_reason Up t v o.members o.for_up name r n)) h in
      (run_as_seen ∙ facts.0, mon_as_seen ∙ not-true st.mon facts.1)
  may_be_called r MonitorStop h = mon_as_seen ∙ (and_parts st.mon (is_marked o.for_down name n || not r.monitored) h).0
  may_be_called r Stop h =
      let facts : _ =
      six st.run (not st.mon) (is_marked o.for_down name n) (not (is_held t v o.members name n)) (not (has_follower t v r.group n)) (not (is_awaited t v o.members r.group n)) h in
      record {
        runs = run_as_seen ∙ facts.0;
        unmonitored = mon_as_seen ∙ not-true st.mon facts.1;
        alone = none_stays t types limits v map stands r.group n member (not-true (has_follower t v r.group n) facts.4);
        free = none_rests t types limits v map stands name n (subst (λ (ms : List ℕ). is_held t v ms name n ≡ false) same (not-true (is_held t v o.members name n) facts.3));
      }
  may_be_called r PostnetStop h =
      let facts : _ = four st.pre (not st.run) (not st.mon) (is_marked o.for_down name n) h in
      (pre_as_seen ∙ facts.0, run_as_seen ∙ not-true st.run facts.1)
  may_be_called r MonitorCheck h = absurd (let bad : false ≡ true = h in cc)
  may_be_called r Validate h = absurd (let bad : false ≡ true = h in cc)
  may_be_called r Init h = absurd (let bad : false ≡ true = h in cc)
  may_be_called r Fini h = absurd (let bad : false ≡ true = h in cc)
  may_be_called r Boot h = absurd (let bad : false ≡ true = h in cc)
  may_be_called r Update h = absurd (let bad : false ≡ true = h in cc)

-- the whole call
module _ (t : GroupTable) (types : List (List ℕ × TypeFields)) (limits : List Limit) (v : GroupView) (map : FlagMap) (stands : MayStandFor t types v map) (managed : GoalsAreManaged t v)
    (o : OutlookFields) (same : o.members ≡ members_of v) (n : ℕ) (idle : IsIdle v n) (name : List ℕ) (m : Method) where
  callable : (r : Resource) → named t.resources name ≡ Some r → is_callable t types limits v o n name r m ≡ true → IsAllowedCall (situation t types limits v map) n name m
  unfolding is_callable
  callable r there h =
      let facts : _ =
      four (has v.members n) (offers (type_of types r.resource_type) m) (not (is_stop_failed t v r.group))
      (may_call t limits v o name r n (state_of v.resources name n) (offers (type_of types r.resource_type) PrenetStart) m) h in
      record {
        member = facts.0;
        resource = r;
        there = there;
        offered = sym (offered_same m (type_of types r.resource_type)) ∙ facts.1;
        may = may_be_called t types limits v map stands managed o same n idle facts.0 name r m facts.3;
      }

  pub safe : is_allowed t types limits v o n name m ≡ true → IsAllowedCall (situation t types limits v map) n name m
  unfolding is_allowed
  safe h = by (named t.resources name) refl h
    where
      by : (found : Option Resource) → found ≡ named t.resources name → is_callable_in t types limits v o n name m found ≡ true → IsAllowedCall (situation t types limits v map) n name m
      by None is h = absurd (let bad : false ≡ true = h in cc)
      by (Some r) is h = callable r (sym is) h

pub allowed_calls_are_safe : AreSafeWhere (λ t types v n map. IsIdle v n × GoalsAreManaged t v × MayStandFor t types v map)
allowed_calls_are_safe t types limits v order n name m map premise h =
    safe t types limits v map premise.2 premise.1 (outlook_of t types limits v order) (members_kept t types limits v order) n premise.0 name m h
