-- An allowed call that is ordered is safe, and it leaves the outstanding orders of other nodes safe.
use Rattle.std.proofs.Common.{◌≡◌, ℕ, ◌^◌, ◌<◌, ◌≤◌, ◌==◌, nat_lt, ◌⊎◌, inl, inr, Bool, true, false, cond, not, ◌&&◌, ◌||◌, Option, None, Some, List, [], ◌++◌, refl, sym, ap, subst, ◌∙◌, arith}
use Rattle.std.specs.List.{flat_map, list_all, list_any}
use Rattle.std.specs.Str.{bytes_eq}
use Rattle.std.specs.Cmp.Lexicographic.{same_text}
use Rattle.std.proofs.lemmas.Bool.{and_from, and_left, and_parts, and_right, eqb-true, eq-eqb, false_from_ne_true, ltb-true, ne_eqb, not-true, not_from_false, not_from_true, or_cases, or_right, true_from_ne_false}
use Rattle.std.proofs.lemmas.List.Folds.{list_any-append}
use Rattle.cl_base.specs.declared.method.Method.{Method}
use Rattle.cl_base.specs.declared.method.Method.TheVariants.{PrenetStart, Start, MonitorStart, MonitorCheck, MonitorStop, Stop, PostnetStop, Validate, Init, Fini, Boot, Update}
use Rattle.cl_base.specs.Limits.{most_nodes}
use Rattle.cl_base.specs.Numbers.{numbers_to}
use Rattle.cl_base.specs.Sets.{has}
use Rattle.cl_base.proofs.NameLemmas.{texts_pass}
use Rattle.load_limits.specs.declared.limits.Factor.{Factor}
use Rattle.load_limits.specs.declared.limits.Limit.{Limit}
use Rattle.load_limits.specs.Loads.{load}
use Rattle.placement.specs.Resources.{has_enabled, is_enabled_in}
use Rattle.rg_props.specs.declared.group.Group.{Group}
use Rattle.rg_props.specs.declared.group.Resource.{Resource}
use Rattle.rg_props.specs.declared.group.Scope.{Scope}
use Rattle.rg_props.specs.declared.group.Scope.TheVariants.{SameNode, AnyMember}
use Rattle.rg_props.specs.declared.affinity.Affinity.TheVariants.{MinusMinus}
use Rattle.rg_props.specs.declared.affinity.Affine.{Affine}
use Rattle.rg_props.specs.Affinities.{declares, declares_close, is_close, same_affinity}
use Rattle.rg_props.specs.Lookups.{named}
use Rattle.rg_props.specs.Settings.{has_name}
use Rattle.rg_props.specs.Table.{GroupTable}
use Rattle.rg_view.specs.declared.states.ResourceAt.{ResourceAt}
use Rattle.rg_view.specs.declared.view.GroupView.{GroupView}
use Rattle.rg_view.specs.Goals.{goal_of}
use Rattle.rg_view.specs.Marks.{is_marked}
use Rattle.rg_view.specs.States.{state_of}
use Rattle.rt_types.specs.Fields.{TypeFields}
use Rattle.sequencer.specs.Allowed.{may_call}
use Rattle.sequencer.specs.declared.direction.Direction.TheVariants.{Up}
use Rattle.sequencer.specs.Fields.{OutlookFields}
use Rattle.sequencer.specs.Leaving.{has_reason}
use Rattle.sequencer.specs.Loads.{is_too_much}
use Rattle.sequencer.specs.Outlooks.{members_of}
use Rattle.sequencer.specs.Scopes.{any_in_scope, in_scope, is_tied}
use Rattle.sequencer.specs.Standing.{is_group_online, is_group_up, has_flag, is_online, is_ordered, is_up, is_up_in}
use Rattle.sequencer.specs.Starting.{are_suited, has_groups, has_room, is_avoided, is_listed, is_supported, is_there, is_up_elsewhere, is_wanted, may_begin, may_begin_in, others_up, waits}
use Rattle.sequencer.specs.Stopping.{has_start, is_awaited, is_group_elsewhere, is_held, is_holding, is_online_elsewhere, is_start, starts_dependent}
use Rattle.sequencer.specs.Stopping as view
use Rattle.sequencer_laws.specs.AllowedCall.{MayBegin, MayBeginIn, MayCall, MayStop, is_met, needs, others, rests_on}
use Rattle.sequencer_laws.specs.Flags.{FlagMap, Flags, after_success, has_any}
use Rattle.sequencer_laws.specs.Laws.{situation}
use Rattle.sequencer_laws.specs.Orders.{AreApart}
use Rattle.sequencer_laws.specs.Situations.{Situation, has_online, has_up, holds_up, reaches, runs_if_enabled, scope_on, some_member}
use Rattle.sequencer_laws.specs.Views.{MayStandFor, flags_of, seen}
use Rattle.sequencer_laws.proofs.Counts.{all_among, all_or, any_member, any_or, each_found, each_named, no_more, none_among, none_named, passes_named, some_named, within_most}
use Rattle.sequencer_laws.proofs.Lists.{any_among, are_members, count_among, five, four, seven, six, three}
use Rattle.sequencer_laws.proofs.Maps.{flagged_is_up, group_online, group_up, online_runs, same_reach}

-- a dependency that reaches another node reaches each
reaches_all : (scope : Scope) (n m : ℕ) → (m == n) ≡ false → reaches scope n m ≡ true → (from to : ℕ) → reaches scope from to ≡ true
reaches_all SameNode n m other h from to = absurd (let bad : true ≡ false = sym h ∙ other in cc)
reaches_all AnyMember n m other h from to = refl

-- Two maps that differ at one place alone, where a call that is allowed under the view succeeds.
module _ (t : GroupTable) (types : List (List ℕ × TypeFields)) (limits : List Limit) (v : GroupView) (small : v.members < 2 ^ 32) (apart : AreApart t)
    (o : OutlookFields) (same : o.members ≡ members_of v) (n : ℕ) (name : List ℕ) (r : Resource) (m : Method) (found : named t.resources name ≡ Some r) (net postnet : Bool)
    (allowed : may_call t limits v o name r n (state_of v.resources name n) net m ≡ true)
    (old new : FlagMap) (stands : MayStandFor t types v old)
    (here_old : old name n ≡ seen v name n) (here_new : new name n ≡ after_success postnet m (seen v name n))
    (elsewhere : (x : List ℕ) (k : ℕ) → (bytes_eq x name && (k == n)) ≡ false → new x k ≡ old x k) where
  abbrev s0 : Situation
  s0 = situation t types limits v old

  abbrev s1 : Situation
  s1 = situation t types limits v new

  abbrev nodes : List ℕ
  nodes = numbers_to v.members most_nodes

  -- at the other nodes nothing changes

  same_flags : (k : ℕ) → (k == n) ≡ false → (x : List ℕ) → new x k ≡ old x k
  same_flags k other x = elsewhere x k (and_right (bytes_eq x name) (k == n) other)

  same_up : (k : ℕ) → (k == n) ≡ false → (group : List ℕ) → has_up s1 group k ≡ has_up s0 group k
  unfolding has_up
  same_up k other group i = list_any (λ (e : List ℕ × Resource). bytes_eq e.1.group group && has_any (same_flags k other e.0 i)) t.resources

  same_online : (k : ℕ) → (k == n) ≡ false → (group : List ℕ) → has_online s1 group k ≡ has_online s0 group k
  unfolding has_online
  same_online k other group i = has_enabled t group && list_all (λ (e : List ℕ × Resource). not (is_enabled_in group e.1) || (same_flags k other e.0 i).run) t.resources

  -- what a place loses and gains

  record IsStopped (x : List ℕ) (k : ℕ) : Type 0 where
    of : x ≡ name
    at : k ≡ n
    free : is_held t v nodes name n ≡ false
    awaited : is_awaited t v nodes r.group n ≡ false

  record IsBegun (x : List ℕ) (k : ℕ) : Type 0 where
    of : x ≡ name
    at : k ≡ n
    began : may_begin t limits v o name r n (state_of v.resources name n) ≡ true
    keeps : (y : List ℕ) (j : ℕ) → (old y j).run ≡ true → (new y j).run ≡ true

  place : (x : List ℕ) (k : ℕ) → (bytes_eq x name && (k == n)) ≡ true → (x ≡ name) × (k ≡ n)
  place x k is =
      let parts : _ = and_parts (bytes_eq x name) (k == n) is in
      (same_text x name (sym parts.0), eqb-true k n parts.1)

  abbrev st : ResourceAt
  st = state_of v.resources name n

  stopped_here : may_call t limits v o name r n st net Stop ≡ true → (is_held t v nodes name n ≡ false) × (is_awaited t v nodes r.group n ≡ false)
  stopped_here h =
      let facts : _ =
      six st.run (not st.mon) (is_marked o.for_down name n) (not (is_held t v o.members name n)) (not (view.has_follower t v r.group n)) (not (is_awaited t v o.members r.group n)) h in (
        subst (λ (ms : List ℕ). is_held t v ms name n ≡ false) same (not-true (is_held t v o.members name n) facts.3),
        subst (λ (ms : List ℕ). is_awaited t v ms r.group n ≡ false) same (not-true (is_awaited t v o.members r.group n) facts.5),
      )

  loses : (x : List ℕ) (k : ℕ) → (old x k).run ≡ true → ((new x k).run ≡ true) ⊎ IsStopped x k
  loses x k h = by (bytes_eq x name && (k == n)) refl
    where
      at_place : (k' : Method) → k' ≡ m → st.run ≡ true → ((after_success postnet k' (flags_of st)).run ≡ true) ⊎ IsStopped name n
      at_place PrenetStart is run = inl run
      at_place Start is run = inl refl
      at_place MonitorStart is run = inl run
      at_place MonitorCheck is run = inl run
      at_place MonitorStop is run = inl run
      at_place Stop is run =
          let facts : _ = stopped_here (subst (λ (k : Method). may_call t limits v o name r n st net k ≡ true) (sym is) allowed) in
          inr (record { of = refl; at = refl; free = facts.0; awaited = facts.1 })
      at_place PostnetStop is run = inl run
      at_place Validate is run = inl run
      at_place Init is run = inl run
      at_place Fini is run = inl run
      at_place Boot is run = inl run
      at_place Update is run = inl run

      moved : (x ≡ name) × (k ≡ n) → ((after_success postnet m (flags_of st)).run ≡ true) ⊎ IsStopped name n → ((new x k).run ≡ true) ⊎ IsStopped x k
      moved p (inl is) = inl (ap (λ (f : Flags). f.run) ((λ i. new (p.0 i) (p.1 i)) ∙ here_new) ∙ is)
      moved p (inr is) = inr (record { of = p.0; at = p.1; free = is.free; awaited = is.awaited })

      by : (b : Bool) → b ≡ (bytes_eq x name && (k == n)) → ((new x k).run ≡ true) ⊎ IsStopped x k
      by true is =
          let p : _ = place x k (sym is) in
          moved p (at_place m refl (sym (ap (λ (f : Flags). f.run) ((λ i. old (p.0 i) (p.1 i)) ∙ here_old)) ∙ h))
      by false is = inl (ap (λ (f : Flags). f.run) (elsewhere x k (sym is)) ∙ h)

  keeps_by : ((f : Flags) → f.run ≡ true → (after_success postnet m f).run ≡ true) → (y : List ℕ) (j : ℕ) → (old y j).run ≡ true → (new y j).run ≡ true
  keeps_by keeps y j h = by (bytes_eq y name && (j == n)) refl
    where
      by : (b : Bool) → b ≡ (bytes_eq y name && (j == n)) → (new y j).run ≡ true
      by true is =
          let p : _ = place y j (sym is) in
          ap (λ (f : Flags). f.run) ((λ i. new (p.0 i) (p.1 i)) ∙ here_new) ∙ keeps (flags_of st) (sym (ap (λ (f : Flags). f.run) ((λ i. old (p.0 i) (p.1 i)) ∙ here_old)) ∙ h)
      by false is = ap (λ (f : Flags). f.run) (elsewhere y j (sym is)) ∙ h

  -- three flags, one of which a down call takes away
  without_mon : (pre run mon : Bool) → (pre || run || false) ≡ true → (pre || run || mon) ≡ true
  without_mon true run mon h = refl
  without_mon false true mon h = refl
  without_mon false false mon h = absurd (let bad : false ≡ true = h in cc)

  without_run : (pre run mon kept : Bool) → ((pre && kept) || false || mon) ≡ true → (pre || run || mon) ≡ true
  without_run true run mon kept h = refl
  without_run false true mon kept h = refl
  without_run false false mon kept h = h

  without_pre : (pre run mon : Bool) → (false || run || mon) ≡ true → (pre || run || mon) ≡ true
  without_pre true run mon h = refl
  without_pre false run mon h = h

  with_run : (pre run mon : Bool) → run ≡ true → (pre || run || mon) ≡ true
  with_run true run mon h = refl
  with_run false true mon h = refl
  with_run false false mon h = absurd (let bad : false ≡ true = h in cc)

  gains : (x : List ℕ) (k : ℕ) → has_any (new x k) ≡ true → (has_any (old x k) ≡ true) ⊎ IsBegun x k
  gains x k h = by (bytes_eq x name && (k == n)) refl
    where
      begun : (k' : Method) → k' ≡ m → ((f : Flags) → f.run ≡ true → (after_success postnet k' f).run ≡ true) → may_begin t limits v o name r n st ≡ true → IsBegun name n
      begun k' is keeps began =
          record { of = refl; at = refl; began = began; keeps = keeps_by (subst (λ (k : Method). (f : Flags) → f.run ≡ true → (after_success postnet k f).run ≡ true) is keeps) }

      under : (k' : Method) → k' ≡ m → may_call t limits v o name r n st net k' ≡ true
      under k' is = subst (λ (k : Method). may_call t limits v o name r n st net k ≡ true) (sym is) allowed

      at_place : (k' : Method) → k' ≡ m → has_any (after_success postnet k' (flags_of st)) ≡ true → (has_any (flags_of st) ≡ true) ⊎ IsBegun name n
      at_place PrenetStart is some = inr (begun PrenetStart is (λ f run. run) (three (not st.pre) (not st.run) (may_begin t limits v o name r n st) (under PrenetStart is)).2)
      at_place Start is some = inr (begun Start is (λ f run. refl) (three (not st.run) (st.pre || not net) (may_begin t limits v o name r n st) (under Start is)).2)
      at_place MonitorStart is some = inl (with_run st.pre st.run st.mon (five st.run (not st.mon) r.monitored (not st.monitor_failed) (not (has_reason Up t v o.members o.for_up name r n)) (under MonitorStart is)).0)
      at_place MonitorCheck is some = inl some
      at_place MonitorStop is some = inl (without_mon st.pre st.run st.mon some)
      at_place Stop is some = inl (without_run st.pre st.run st.mon postnet some)
      at_place PostnetStop is some = inl (without_pre st.pre st.run st.mon some)
      at_place Validate is some = inl some
      at_place Init is some = inl some
      at_place Fini is some = inl some
      at_place Boot is some = inl some
      at_place Update is some = inl some

      moved : (x ≡ name) × (k ≡ n) → (has_any (flags_of st) ≡ true) ⊎ IsBegun name n → (has_any (old x k) ≡ true) ⊎ IsBegun x k
      moved p (inl is) = inl (ap has_any ((λ i. old (p.0 i) (p.1 i)) ∙ here_old) ∙ is)
      moved p (inr is) = inr (record { of = p.0; at = p.1; began = is.began; keeps = is.keeps })

      by : (b : Bool) → b ≡ (bytes_eq x name && (k == n)) → (has_any (old x k) ≡ true) ⊎ IsBegun x k
      by true is =
          let p : _ = place x k (sym is) in
          moved p (at_place m refl (sym (ap has_any ((λ i. new (p.0 i) (p.1 i)) ∙ here_new)) ∙ h))
      by false is = inl (sym (ap has_any (elsewhere x k (sym is))) ∙ h)

  supported : may_begin t limits v o name r n st ≡ true → is_supported t v nodes r n ≡ true
  unfolding may_begin
  supported began = by (named t.groups r.group) began
    where
      by : (g : Option Group) → may_begin_in t limits v o name r n st g ≡ true → is_supported t v nodes r n ≡ true
      by None h = absurd (let bad : false ≡ true = h in cc)
      by (Some g) h =
          let facts : _ =
          seven (is_wanted t v o name r n st) (has_room t limits v o.members r.group g n) (is_supported t v o.members r n) (has_groups t v o.members g) (are_suited t v g n)
          (not (is_avoided t v r.group n)) (not (waits t v o r n)) h in
          subst (λ (ms : List ℕ). is_supported t v ms r n ≡ true) same facts.2

  -- Another node has an order for resource x0.
  module _ (k0 : ℕ) (member0 : has v.members k0 ≡ true) (other : (k0 == n) ≡ false) (x0 : List ℕ) (r0 : Resource) (found0 : named t.resources x0 ≡ Some r0) (ordered : is_ordered v x0 k0 ≡ true) where
    back : (n == k0) ≡ false
    back = ne_eqb n k0 (λ e. let bad : true ≡ false = sym (eq-eqb k0 n (sym e)) ∙ other in absurd cc)

    far : (d : Resource) (target : List ℕ) → reaches (scope_on s1 d target) k0 n ≡ true → (from to : ℕ) → reaches (scope_on s1 d target) from to ≡ true
    far d target h = reaches_all (scope_on s1 d target) k0 n back h

    up0 : is_up v x0 k0 ≡ true
    unfolding is_up
    up0 = or_right (has_flag (state_of v.resources x0 k0)) (is_ordered v x0 k0) ordered

    not_online0 : (j : ℕ) → is_online v x0 j ≡ true → (j == k0) ≡ false
    unfolding is_online
    not_online0 j h = false_from_ne_true (j == k0) (λ e.
        let free : _ = and_parts (state_of v.resources x0 j).run (not (is_ordered v x0 j)) h in
        let bad : true ≡ false = sym (subst (λ k. is_ordered v x0 k ≡ true) (sym (eqb-true j k0 e)) ordered) ∙ not-true (is_ordered v x0 j) free.1 in absurd cc)

    -- where a resource needs the one that is stopped at n and is up in its scope, that one is online elsewhere
    elsewhere_online : (d : List ℕ × Resource) → is_holding t v nodes name n d ≡ false → needs d.1 name ≡ true → any_in_scope t nodes d.1.group n name (is_up v d.0) ≡ true
        → any_in_scope t nodes d.1.group n name (is_online_elsewhere v name n) ≡ true
    elsewhere_online d not_held strong up = true_from_ne_false (any_in_scope t nodes d.1.group n name (is_online_elsewhere v name n)) (λ none.
        let needed : view.needs name d.1 ≡ true = sym (list_any-append (λ x. bytes_eq x name) d.1.strong d.1.offline_restart) ∙ strong in
        let bad : true ≡ false =
        sym (and_from (view.needs name d.1 && any_in_scope t nodes d.1.group n name (is_up v d.0)) (not (any_in_scope t nodes d.1.group n name (is_online_elsewhere v name n)))
        (and_from (view.needs name d.1) (any_in_scope t nodes d.1.group n name (is_up v d.0)) needed up) (not_from_false (any_in_scope t nodes d.1.group n name (is_online_elsewhere v name n)) none))
        ∙ not_held in absurd cc)

    up_in_scope : reaches (scope_on s1 r0 name) k0 n ≡ true → any_in_scope t nodes r0.group n name (is_up v x0) ≡ true
    up_in_scope reach =
        any_member v.members most_nodes k0 (λ j. in_scope (is_tied t r0.group name) n j && is_up v x0 j) (within_most v.members k0 small member0) member0
        (and_from (in_scope (is_tied t r0.group name) n k0) (is_up v x0 k0) (same_reach t types limits v old stands r0 name n k0 ∙ far r0 name reach n k0) up0)

    -- and there it runs still
    runs_still : (j : ℕ) → has v.members j ≡ true → is_online_elsewhere v name n j ≡ true → (new name j).run ≡ true
    runs_still j member h =
        let parts : _ = and_parts (not (j == n)) (is_online v name j) h in
        ap (λ (f : Flags). f.run) (same_flags j (not-true (j == n) parts.0) name) ∙ online_runs t types limits v old stands name j member parts.1

    holds_not : is_held t v nodes name n ≡ false → is_holding t v nodes name n (x0, r0) ≡ false
    unfolding is_held
    holds_not h = none_named (is_holding t v nodes name n) x0 r0 t.resources found0 h

    -- strong dependencies of r0

    met_elsewhere : needs r0 name ≡ true → reaches (scope_on s1 r0 name) k0 n ≡ true → is_held t v nodes name n ≡ false → is_met s1 r0 k0 name ≡ true
    met_elsewhere strong reach free =
        any_among (λ j. has v.members j ≡ true) (λ j. in_scope (is_tied t r0.group name) n j && is_online_elsewhere v name n j) (λ j. reaches (scope_on s1 r0 name) k0 j && (new name j).run)
        (λ j member both. and_from (reaches (scope_on s1 r0 name) k0 j) (new name j).run (far r0 name reach k0 j) (runs_still j member (and_parts (in_scope (is_tied t r0.group name) n j) (is_online_elsewhere v name n j) both).1))
        nodes (are_members v.members most_nodes) (elsewhere_online (x0, r0) (holds_not free) strong (up_in_scope reach))

    record IsLost (x : List ℕ) : Type 0 where
      of : x ≡ name
      reach : reaches (scope_on s1 r0 x) k0 n ≡ true
      free : is_held t v nodes name n ≡ false

    strong_still : list_all (is_met s0 r0 k0) (r0.strong ++ r0.offline_restart) ≡ true → list_all (is_met s1 r0 k0) (r0.strong ++ r0.offline_restart) ≡ true
    strong_still h =
        all_among (λ x. has_name x (r0.strong ++ r0.offline_restart) ≡ true) (is_met s0 r0 k0) (is_met s1 r0 k0) one (r0.strong ++ r0.offline_restart) (each_named (r0.strong ++ r0.offline_restart)) h
      where
        one : (x : List ℕ) → has_name x (r0.strong ++ r0.offline_restart) ≡ true → is_met s0 r0 k0 x ≡ true → is_met s1 r0 k0 x ≡ true
        one x strong met =
            by (any_or (λ k. has v.members k ≡ true) (λ k. reaches (scope_on s1 r0 x) k0 k && (old x k).run) (λ k. reaches (scope_on s1 r0 x) k0 k && (new x k).run) (IsLost x) more nodes
            (are_members v.members most_nodes) met)
          where
            lost : (k : ℕ) → reaches (scope_on s1 r0 x) k0 k ≡ true → ((new x k).run ≡ true) ⊎ IsStopped x k → ((reaches (scope_on s1 r0 x) k0 k && (new x k).run) ≡ true) ⊎ IsLost x
            lost k reach (inl run) = inl (and_from (reaches (scope_on s1 r0 x) k0 k) (new x k).run reach run)
            lost k reach (inr is) = inr (record { of = is.of; reach = subst (λ j. reaches (scope_on s1 r0 x) k0 j ≡ true) is.at reach; free = is.free })

            more : (k : ℕ) → has v.members k ≡ true → (reaches (scope_on s1 r0 x) k0 k && (old x k).run) ≡ true → ((reaches (scope_on s1 r0 x) k0 k && (new x k).run) ≡ true) ⊎ IsLost x
            more k member both =
                let parts : _ = and_parts (reaches (scope_on s1 r0 x) k0 k) (old x k).run both in
                lost k parts.0 (loses x k parts.1)

            by : (is_met s1 r0 k0 x ≡ true) ⊎ IsLost x → is_met s1 r0 k0 x ≡ true
            by (inl met) = met
            by (inr is) =
                subst (λ y. is_met s1 r0 k0 y ≡ true) (sym is.of)
                (met_elsewhere (subst (λ y. needs r0 y ≡ true) is.of strong) (subst (λ y. reaches (scope_on s1 r0 y) k0 n ≡ true) is.of is.reach) is.free)

    -- groups that the group of r0 depends on

    groups_still : (g0 : Group) → ((x : List ℕ) → has_name x g0.dependencies ≡ true → has_start t v nodes x ≡ true)
        → list_all (λ x. some_member s0 (has_online s0 x)) g0.dependencies ≡ true → list_all (λ x. some_member s1 (has_online s1 x)) g0.dependencies ≡ true
    unfolding has_online is_awaited
    groups_still g0 started h =
        all_among (λ x. has_name x g0.dependencies ≡ true) (λ x. some_member s0 (has_online s0 x)) (λ x. some_member s1 (has_online s1 x)) one g0.dependencies (each_named g0.dependencies) h
      where
        one : (x : List ℕ) → has_name x g0.dependencies ≡ true → some_member s0 (has_online s0 x) ≡ true → some_member s1 (has_online s1 x) ≡ true
        one x among there =
            by (any_or (λ k. has v.members k ≡ true) (has_online s0 x) (has_online s1 x) (is_awaited t v nodes x n ≡ false) more nodes (are_members v.members most_nodes) there)
          where
            awaited : (e : List ℕ × Resource) (k : ℕ) → named t.resources e.0 ≡ Some e.1 → is_enabled_in x e.1 ≡ true → IsStopped e.0 k → is_awaited t v nodes x n ≡ false
            awaited e k is enabled stopped =
                let both : Some e.1 ≡ Some r = sym is ∙ ap (named t.resources) stopped.of ∙ found in
                let it : e.1 ≡ r = cc in
                let of : e.1.group ≡ x = same_text e.1.group x (sym (and_parts (bytes_eq e.1.group x) e.1.enabled enabled).0) in
                let own : r.group ≡ x = sym (ap (λ (d : Resource). d.group) it) ∙ of in
                subst (λ y. is_awaited t v nodes y n ≡ false) own stopped.awaited

            runs : (k : ℕ) (e : List ℕ × Resource) → named t.resources e.0 ≡ Some e.1 → runs_if_enabled s0 x k e ≡ true → (runs_if_enabled s1 x k e ≡ true) ⊎ (is_awaited t v nodes x n ≡ false)
            runs k e is h = by_enabled (is_enabled_in x e.1) refl h
              where
                last : is_enabled_in x e.1 ≡ true → ((new e.0 k).run ≡ true) ⊎ IsStopped e.0 k → ((new e.0 k).run ≡ true) ⊎ (is_awaited t v nodes x n ≡ false)
                last enabled (inl run) = inl run
                last enabled (inr stopped) = inr (awaited e k is enabled stopped)

                by_enabled : (b : Bool) → b ≡ is_enabled_in x e.1 → (not b || (old e.0 k).run) ≡ true → ((not b || (new e.0 k).run) ≡ true) ⊎ (is_awaited t v nodes x n ≡ false)
                by_enabled false is_off h = inl refl
                by_enabled true is_on h = last (sym is_on) (loses e.0 k h)

            more : (k : ℕ) → has v.members k ≡ true → has_online s0 x k ≡ true → (has_online s1 x k ≡ true) ⊎ (is_awaited t v nodes x n ≡ false)
            more k member h =
                let parts : _ = and_parts (has_enabled t x) (list_all (runs_if_enabled s0 x k) t.resources) h in
                joined parts.0 (all_or (λ (e : List ℕ × Resource). named t.resources e.0 ≡ Some e.1) (runs_if_enabled s0 x k) (runs_if_enabled s1 x k) (is_awaited t v nodes x n ≡ false) (runs k) t.resources
                (each_found t.resources apart) parts.1)
              where
                joined : has_enabled t x ≡ true → (list_all (runs_if_enabled s1 x k) t.resources ≡ true) ⊎ (is_awaited t v nodes x n ≡ false)
                    → ((has_enabled t x && list_all (runs_if_enabled s1 x k) t.resources) ≡ true) ⊎ (is_awaited t v nodes x n ≡ false)
                joined some (inl all) = inl (and_from (has_enabled t x) (list_all (runs_if_enabled s1 x k) t.resources) some all)
                joined some (inr e) = inr e

            kept : (j : ℕ) → has v.members j ≡ true → (not (j == n) && is_group_online t v x j) ≡ true → has_online s1 x j ≡ true
            kept j member both =
                let parts : _ = and_parts (not (j == n)) (is_group_online t v x j) both in
                same_online j (not-true (j == n) parts.0) x ∙ group_online t types limits v old stands x j member parts.1

            there_still : is_awaited t v nodes x n ≡ false → some_member s1 (has_online s1 x) ≡ true
            there_still h =
                let elsewhere_up : is_group_elsewhere t v nodes x n ≡ true = true_from_ne_false (is_group_elsewhere t v nodes x n) (λ none.
                let bad : true ≡ false = sym (and_from (has_start t v nodes x) (not (is_group_elsewhere t v nodes x n)) (started x among) (not_from_false (is_group_elsewhere t v nodes x n) none)) ∙ h in absurd cc) in
                any_among (λ j. has v.members j ≡ true) (λ j. not (j == n) && is_group_online t v x j) (has_online s1 x) kept nodes (are_members v.members most_nodes) elsewhere_up

            by : (some_member s1 (has_online s1 x) ≡ true) ⊎ (is_awaited t v nodes x n ≡ false) → some_member s1 (has_online s1 x) ≡ true
            by (inl is) = is
            by (inr is) = there_still is

    -- Maximum_primaries

    group_up0 : is_group_up t v r0.group k0 ≡ true
    unfolding is_group_up
    group_up0 = some_named (is_up_in v r0.group k0) x0 r0 t.resources found0 (and_from (bytes_eq r0.group r0.group) (is_up v x0 k0) (texts_pass r0.group r0.group refl) up0)

    up_gained : (group : List ℕ) → has_up s1 group n ≡ true → (has_up s0 group n ≡ true) ⊎ ((r.group ≡ group) × (may_begin t limits v o name r n st ≡ true))
    unfolding has_up
    up_gained group h =
        any_or (λ (e : List ℕ × Resource). named t.resources e.0 ≡ Some e.1) (holds_up s1 group n) (holds_up s0 group n) ((r.group ≡ group) × (may_begin t limits v o name r n st ≡ true)) more t.resources
        (each_found t.resources apart) h
      where
        either : (e : List ℕ × Resource) → named t.resources e.0 ≡ Some e.1 → bytes_eq e.1.group group ≡ true → (has_any (old e.0 n) ≡ true) ⊎ IsBegun e.0 n
            → (holds_up s0 group n e ≡ true) ⊎ ((r.group ≡ group) × (may_begin t limits v o name r n st ≡ true))
        either e is of (inl flagged) = inl (and_from (bytes_eq e.1.group group) (has_any (old e.0 n)) of flagged)
        either e is of (inr begun) =
            let both : Some e.1 ≡ Some r = sym is ∙ ap (named t.resources) begun.of ∙ found in
            let it : e.1 ≡ r = cc in
            inr (sym (ap (λ (d : Resource). d.group) it) ∙ same_text e.1.group group (sym of), begun.began)

        more : (e : List ℕ × Resource) → named t.resources e.0 ≡ Some e.1 → holds_up s1 group n e ≡ true → (holds_up s0 group n e ≡ true) ⊎ ((r.group ≡ group) × (may_begin t limits v o name r n st ≡ true))
        more e is both =
            let parts : _ = and_parts (bytes_eq e.1.group group) (has_any (new e.0 n)) both in
            either e is parts.0 (gains e.0 n parts.1)

    primaries_still : (g0 : Group) → named t.groups r0.group ≡ Some g0 → others s0 r0.group k0 < g0.maximum → others s1 r0.group k0 < g0.maximum
    unfolding may_begin has_room
    primaries_still g0 found_g h = by (has_up s1 r0.group n) refl
      where
        -- at n it is up only where it was
        no_gain : (has_up s1 r0.group n ≡ true → has_up s0 r0.group n ≡ true) → others s1 r0.group k0 < g0.maximum
        no_gain was = omega (arith, h, count_among (λ k. has v.members k ≡ true) (λ k. not (k == k0) && has_up s1 r0.group k) (λ k. not (k == k0) && has_up s0 r0.group k) one nodes (are_members v.members most_nodes))
          where
            either : (k : ℕ) → not (k == k0) ≡ true → has_up s1 r0.group k ≡ true → (b : Bool) → b ≡ (k == n) → (not (k == k0) && has_up s0 r0.group k) ≡ true
            either k away up true is =
                let at : k ≡ n = eqb-true k n (sym is) in
                and_from (not (k == k0)) (has_up s0 r0.group k) away (subst (λ j. has_up s0 r0.group j ≡ true) (sym at) (was (subst (λ j. has_up s1 r0.group j ≡ true) at up)))
            either k away up false is = and_from (not (k == k0)) (has_up s0 r0.group k) away (sym (same_up k (sym is) r0.group) ∙ up)

            one : (k : ℕ) → has v.members k ≡ true → (not (k == k0) && has_up s1 r0.group k) ≡ true → (not (k == k0) && has_up s0 r0.group k) ≡ true
            one k member both =
                let parts : _ = and_parts (not (k == k0)) (has_up s1 r0.group k) both in
                either k parts.0 parts.1 (k == n) refl

        -- it comes up at n, where k0 was counted
        room : r.group ≡ r0.group → may_begin t limits v o name r n st ≡ true → nat_lt (others_up t v nodes r0.group n) g0.maximum ≡ true
        room of began = by_group (named t.groups r.group) (ap (named t.groups) of ∙ found_g) began
          where
            by_group : (found : Option Group) → found ≡ Some g0 → may_begin_in t limits v o name r n st found ≡ true → nat_lt (others_up t v nodes r0.group n) g0.maximum ≡ true
            by_group None is h = absurd (cc)
            by_group (Some g) is h =
                let it : g ≡ g0 = cc in
                let facts : _ =
                seven (is_wanted t v o name r n st) (has_room t limits v o.members r.group g n) (is_supported t v o.members r n) (has_groups t v o.members g) (are_suited t v g n)
                (not (is_avoided t v r.group n)) (not (waits t v o r n)) h in
                let roomy : _ =
                four (is_listed g.nodelist n) (has (goal_of v.goals r.group) n) (nat_lt (others_up t v o.members r.group n) g.maximum) (not (is_too_much t limits v r.group g.factors n)) facts.1 in
                subst (λ (h : Group). nat_lt (others_up t v nodes r0.group n) h.maximum ≡ true) it
                (subst (λ (ms : List ℕ). nat_lt (others_up t v ms r0.group n) g.maximum ≡ true) same (subst (λ x. nat_lt (others_up t v o.members x n) g.maximum ≡ true) of roomy.2))

        gain : r.group ≡ r0.group → may_begin t limits v o name r n st ≡ true → others s1 r0.group k0 < g0.maximum
        gain of began =
            omega (
              arith,
              ltb-true (others_up t v nodes r0.group n) g0.maximum (room of began),
              no_more v.members most_nodes (λ k. not (k == k0) && has_up s1 r0.group k) (is_up_elsewhere t v r0.group n) n k0 one (within_most v.members k0 small member0) member0
                  (and_left (not (k0 == k0)) (has_up s1 r0.group k0) (not_from_true (k0 == k0) (eq-eqb k0 k0 refl))) (and_from (not (k0 == n)) (is_group_up t v r0.group k0) (not_from_false (k0 == n) other) group_up0),
            )
          where
            one : (k : ℕ) → has v.members k ≡ true → (k == n) ≡ false → (not (k == k0) && has_up s1 r0.group k) ≡ true → is_up_elsewhere t v r0.group n k ≡ true
            one k member away both =
                let parts : _ = and_parts (not (k == k0)) (has_up s1 r0.group k) both in
                and_from (not (k == n)) (is_group_up t v r0.group k) (not_from_false (k == n) away)
                (group_up t types limits v old stands r0.group k member (sym (same_up k away r0.group) ∙ parts.1))

        gained : (has_up s0 r0.group n ≡ true) ⊎ ((r.group ≡ r0.group) × (may_begin t limits v o name r n st ≡ true)) → others s1 r0.group k0 < g0.maximum
        gained (inl was) = no_gain (λ _. was)
        gained (inr (of, began)) = gain of began

        by : (b : Bool) → b ≡ has_up s1 r0.group n → others s1 r0.group k0 < g0.maximum
        by true is = gained (up_gained r0.group (sym is))
        by false is = no_gain (λ up. let bad : false ≡ true = is ∙ up in absurd cc)

    -- what rests on r0

    rests_still : list_any (rests_on s0 x0 k0) t.resources ≡ false → list_any (rests_on s1 x0 k0) t.resources ≡ false
    unfolding is_held is_supported
    rests_still h =
        none_among (λ (e : List ℕ × Resource). named t.resources e.0 ≡ Some e.1) (rests_on s1 x0 k0) (rests_on s0 x0 k0) one t.resources (each_found t.resources apart) h
      where
        one : (e : List ℕ × Resource) → named t.resources e.0 ≡ Some e.1 → rests_on s0 x0 k0 e ≡ false → rests_on s1 x0 k0 e ≡ true → ⊥
        one e is before after = by (any_or (λ k. has v.members k ≡ true) (flagged new) (flagged old) Comes more nodes (are_members v.members most_nodes) facts.1)
          where
            flagged : FlagMap → ℕ → Bool
            flagged map k = reaches (scope_on s1 e.1 x0) k0 k && has_any (map e.0 k)

            running : FlagMap → ℕ → Bool
            running map k = reaches (scope_on s1 e.1 x0) k0 k && (not (k == k0) && (map x0 k).run)

            facts : (needs e.1 x0 ≡ true) × (list_any (flagged new) nodes ≡ true) × (not (list_any (running new) nodes) ≡ true)
            facts = three (needs e.1 x0) (list_any (flagged new) nodes) (not (list_any (running new) nodes)) after

            Comes : Type 0
            Comes = (reaches (scope_on s1 e.1 x0) k0 n ≡ true) × IsBegun e.0 n

            runs_not : list_any (running new) nodes ≡ true → ⊥
            runs_not runs = let bad : true ≡ false = sym runs ∙ not-true (list_any (running new) nodes) facts.2 in absurd cc

            kept : (k : ℕ) → reaches (scope_on s1 e.1 x0) k0 k ≡ true → (has_any (old e.0 k) ≡ true) ⊎ IsBegun e.0 k → (flagged old k ≡ true) ⊎ Comes
            kept k reach (inl was) = inl (and_from (reaches (scope_on s1 e.1 x0) k0 k) (has_any (old e.0 k)) reach was)
            kept k reach (inr begun) =
                inr (subst (λ j. reaches (scope_on s1 e.1 x0) k0 j ≡ true) begun.at reach, subst (λ j. IsBegun e.0 j) begun.at begun)

            more : (k : ℕ) → has v.members k ≡ true → flagged new k ≡ true → (flagged old k ≡ true) ⊎ Comes
            more k member both =
                let parts : _ = and_parts (reaches (scope_on s1 e.1 x0) k0 k) (has_any (new e.0 k)) both in
                kept k parts.0 (gains e.0 k parts.1)

            -- it had a flag before, so r0 ran elsewhere: where it is stopped there, it is online at a third node
            Stops : Type 0
            Stops = (x0 ≡ name) × (reaches (scope_on s1 e.1 x0) k0 n ≡ true) × (is_held t v nodes name n ≡ false)

            ran : list_any (flagged old) nodes ≡ true → list_any (running old) nodes ≡ true
            ran flag = true_from_ne_false (list_any (running old) nodes) (λ none.
                let bad : true ≡ false = sym (and_from (needs e.1 x0 && list_any (flagged old) nodes) (not (list_any (running old) nodes)) (and_from (needs e.1 x0) (list_any (flagged old) nodes) facts.0 flag) (not_from_false (list_any (running old) nodes) none))
                ∙ before in absurd cc)

            third : x0 ≡ name → reaches (scope_on s1 e.1 x0) k0 n ≡ true → is_held t v nodes name n ≡ false → list_any (flagged old) nodes ≡ true → ⊥
            third of reach free flag =
                runs_not (any_among (λ j. has v.members j ≡ true) (λ j. in_scope (is_tied t e.1.group name) n j && is_online_elsewhere v name n j) (running new) there nodes (are_members v.members most_nodes)
                (elsewhere_online e not_held (subst (λ x. needs e.1 x ≡ true) of facts.0) up))
              where
                near : reaches (scope_on s1 e.1 name) k0 n ≡ true
                near = subst (λ x. reaches (scope_on s1 e.1 x) k0 n ≡ true) of reach

                not_held : is_holding t v nodes name n e ≡ false
                not_held = none_named (is_holding t v nodes name n) e.0 e.1 t.resources is free

                counted : (j : ℕ) → has v.members j ≡ true → flagged old j ≡ true → (in_scope (is_tied t e.1.group name) n j && is_up v e.0 j) ≡ true
                counted j member both =
                    and_from (in_scope (is_tied t e.1.group name) n j) (is_up v e.0 j) (same_reach t types limits v old stands e.1 name n j ∙ far e.1 name near n j)
                    (flagged_is_up t types limits v old stands e.0 j member (and_parts (reaches (scope_on s1 e.1 x0) k0 j) (has_any (old e.0 j)) both).1)

                up : any_in_scope t nodes e.1.group n name (is_up v e.0) ≡ true
                up = any_among (λ j. has v.members j ≡ true) (flagged old) (λ j. in_scope (is_tied t e.1.group name) n j && is_up v e.0 j) counted nodes (are_members v.members most_nodes) flag

                there : (j : ℕ) → has v.members j ≡ true → (in_scope (is_tied t e.1.group name) n j && is_online_elsewhere v name n j) ≡ true → running new j ≡ true
                there j member both =
                    let away : is_online_elsewhere v name n j ≡ true = (and_parts (in_scope (is_tied t e.1.group name) n j) (is_online_elsewhere v name n j) both).1 in
                    let online : is_online v x0 j ≡ true = subst (λ x. is_online v x j ≡ true) (sym of) (and_parts (not (j == n)) (is_online v name j) away).1 in
                    and_from (reaches (scope_on s1 e.1 x0) k0 j) (not (j == k0) && (new x0 j).run) (far e.1 x0 reach k0 j)
                    (and_from (not (j == k0)) (new x0 j).run (not_from_false (j == k0) (not_online0 j online)) (subst (λ x. (new x j).run ≡ true) (sym of) (runs_still j member away)))

            stays : (k : ℕ) → has v.members k ≡ true → running old k ≡ true → (running new k ≡ true) ⊎ Stops
            stays k member both =
                let parts : _ = and_parts (reaches (scope_on s1 e.1 x0) k0 k) (not (k == k0) && (old x0 k).run) both in
                let more : _ = and_parts (not (k == k0)) (old x0 k).run parts.1 in
                either parts.0 more.0 (loses x0 k more.1)
              where
                either : reaches (scope_on s1 e.1 x0) k0 k ≡ true → not (k == k0) ≡ true → ((new x0 k).run ≡ true) ⊎ IsStopped x0 k → (running new k ≡ true) ⊎ Stops
                either reach away (inl run) = inl (and_from (reaches (scope_on s1 e.1 x0) k0 k) (not (k == k0) && (new x0 k).run) reach (and_from (not (k == k0)) (new x0 k).run away run))
                either reach away (inr is) = inr (is.of, subst (λ j. reaches (scope_on s1 e.1 x0) k0 j ≡ true) is.at reach, is.free)

            -- it comes up now, so r0 is online elsewhere
            begun_there : reaches (scope_on s1 e.1 x0) k0 n ≡ true → IsBegun e.0 n → ⊥
            begun_there reach begun =
                runs_not (any_among (λ j. has v.members j ≡ true) (λ j. in_scope (is_tied t r.group x0) n j && is_online v x0 j) (running new) there nodes (are_members v.members most_nodes)
                (target_online (supported begun.began)))
              where
                it : e.1 ≡ r
                it = let both : Some e.1 ≡ Some r = sym is ∙ ap (named t.resources) begun.of ∙ found in cc

                target_online : is_supported t v nodes r n ≡ true → is_there t v nodes r.group n x0 ≡ true
                target_online h =
                    let parts : _ = and_parts (list_all (is_there t v nodes r.group n) r.strong) (list_all (is_there t v nodes r.group n) r.offline_restart) h in
                    by_kind parts.0 parts.1 (or_cases (has_name x0 r.strong) (has_name x0 r.offline_restart)
                    (sym (list_any-append (λ x. bytes_eq x x0) r.strong r.offline_restart) ∙ subst (λ (d : Resource). needs d x0 ≡ true) it facts.0))
                  where
                    by_kind : list_all (is_there t v nodes r.group n) r.strong ≡ true → list_all (is_there t v nodes r.group n) r.offline_restart ≡ true
                        → (has_name x0 r.strong ≡ true) ⊎ (has_name x0 r.offline_restart ≡ true) → is_there t v nodes r.group n x0 ≡ true
                    by_kind strong restart (inl among) = passes_named (is_there t v nodes r.group n) r.strong x0 among strong
                    by_kind strong restart (inr among) = passes_named (is_there t v nodes r.group n) r.offline_restart x0 among restart

                there : (j : ℕ) → has v.members j ≡ true → (in_scope (is_tied t r.group x0) n j && is_online v x0 j) ≡ true → running new j ≡ true
                there j member both =
                    let online : is_online v x0 j ≡ true = (and_parts (in_scope (is_tied t r.group x0) n j) (is_online v x0 j) both).1 in
                    and_from (reaches (scope_on s1 e.1 x0) k0 j) (not (j == k0) && (new x0 j).run) (far e.1 x0 reach k0 j)
                    (and_from (not (j == k0)) (new x0 j).run (not_from_false (j == k0) (not_online0 j online)) (begun.keeps x0 j (online_runs t types limits v old stands x0 j member online)))

            by_stay : list_any (flagged old) nodes ≡ true → (list_any (running new) nodes ≡ true) ⊎ Stops → ⊥
            by_stay flag (inl runs) = runs_not runs
            by_stay flag (inr (of, reach, free)) = third of reach free flag

            by : (list_any (flagged old) nodes ≡ true) ⊎ Comes → ⊥
            by (inl flag) = by_stay flag (any_or (λ k. has v.members k ≡ true) (running old) (running new) Stops stays nodes (are_members v.members most_nodes) (ran flag))
            by (inr (reach, begun)) = begun_there reach begun

    -- Each method.

    same0 : (x : List ℕ) → new x k0 ≡ old x k0
    same0 = same_flags k0 other

    begins_still : (g0 : Group) → named t.groups r0.group ≡ Some g0 → ((x : List ℕ) → has_name x g0.dependencies ≡ true → has_start t v nodes x ≡ true) → MayBegin s0 k0 r0 g0 → MayBegin s1 k0 r0 g0
    begins_still g0 found_g started was = record {
      listed = was.listed;
      managed = was.managed;
      enabled = was.enabled;
      primaries = primaries_still g0 found_g was.primaries;
      strong = strong_still was.strong;
      groups = groups_still g0 started was.groups;
      close = (λ i. list_all (λ (a : Affine). not (is_close a.affinity) || same_online k0 other a.group i) g0.affinities) ∙ was.close;
      apart = (λ i. list_any (λ (a : Affine). same_affinity a.affinity MinusMinus && same_up k0 other a.group i) g0.affinities) ∙ was.apart;
      avoided = (λ i. list_any (λ (e : List ℕ × Group). declares e.1.affinities r0.group MinusMinus && same_up k0 other e.0 i) t.groups) ∙ was.avoided;
      within = λ l among at some. subst (λ (fs : List Factor). load l.name (g0.factors ++ fs) ≤ l.hard)
          (λ i. flat_map (λ (e : List ℕ × Group). cond (not (bytes_eq e.0 r0.group) && sym (same_up k0 other e.0) i) e.1.factors []) t.groups) (was.within l among at some);
    }

    begins_in_still : ((g0 : Group) → named t.groups r0.group ≡ Some g0 → (x : List ℕ) → has_name x g0.dependencies ≡ true → has_start t v nodes x ≡ true)
        → MayBeginIn s0 k0 r0 (named t.groups r0.group) → MayBeginIn s1 k0 r0 (named t.groups r0.group)
    begins_in_still started was = by (named t.groups r0.group) refl was
      where
        by : (g : Option Group) → g ≡ named t.groups r0.group → MayBeginIn s0 k0 r0 g → MayBeginIn s1 k0 r0 g
        by None is was = was
        by (Some g0) is was = begins_still g0 (sym is) (started g0 (sym is)) was

    stops_still : MayStop s0 k0 x0 r0 → MayStop s1 k0 x0 r0
    stops_still was = record {
      runs = ap (λ (f : Flags). f.run) (same0 x0) ∙ was.runs;
      unmonitored = ap (λ (f : Flags). f.mon) (same0 x0) ∙ was.unmonitored;
      alone = (λ i. list_any (λ (e : List ℕ × Group). declares_close e.1.affinities r0.group && same_up k0 other e.0 i) t.groups) ∙ was.alone;
      free = rests_still was.free;
    }

    pub may_still : (m0 : Method) → (is_start m0 ≡ true → (g0 : Group) → named t.groups r0.group ≡ Some g0 → (x : List ℕ) → has_name x g0.dependencies ≡ true → has_start t v nodes x ≡ true)
        → MayCall s0 k0 x0 r0 m0 → MayCall s1 k0 x0 r0 m0
    may_still PrenetStart started was = begins_in_still (started refl) was
    may_still Start started was = (begins_in_still (started refl) was.0, λ has_it. ap (λ (f : Flags). f.pre) (same0 x0) ∙ was.1 has_it)
    may_still MonitorStart started was = (ap (λ (f : Flags). f.run) (same0 x0) ∙ was.0, ap (λ (f : Flags). f.mon) (same0 x0) ∙ was.1)
    may_still MonitorStop started was = ap (λ (f : Flags). f.mon) (same0 x0) ∙ was
    may_still Stop started was = stops_still was
    may_still PostnetStop started was = (ap (λ (f : Flags). f.pre) (same0 x0) ∙ was.0, ap (λ (f : Flags). f.run) (same0 x0) ∙ was.1)
    may_still MonitorCheck started was = was
    may_still Validate started was = was
    may_still Init started was = was
    may_still Fini started was = was
    may_still Boot started was = was
    may_still Update started was = was
