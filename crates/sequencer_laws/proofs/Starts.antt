-- What a start needs under a view is what it needs over each map that the view may stand for.
use Rattle.std.proofs.Common.{◌≡◌, ℕ, ◌==◌, ◌<◌, nat_lt, Bool, true, false, not, ◌&&◌, ◌||◌, List, ◌++◌, Option, None, Some, refl, sym, subst, ◌∙◌, arith}
use Rattle.std.specs.List.{list_all, list_any}
use Rattle.std.proofs.lemmas.Bool.{and_from, and_parts, false_from_ne_true, ltb-true, not-true}
use Rattle.std.proofs.lemmas.List.Folds.{list_all-append}
use Rattle.cl_base.specs.Limits.{most_nodes}
use Rattle.cl_base.specs.Numbers.{numbers_to}
use Rattle.cl_base.specs.Sets.{has}
use Rattle.load_limits.specs.declared.limits.Limit.{Limit}
use Rattle.rg_props.specs.declared.affinity.Affinity.{Affinity}
use Rattle.rg_props.specs.declared.affinity.Affinity.TheVariants.{PlusPlus, Plus, Minus, MinusMinus, PlusPlusPlus}
use Rattle.rg_props.specs.declared.group.Group.{Group}
use Rattle.rg_props.specs.declared.group.Resource.{Resource}
use Rattle.rg_props.specs.Affinities.{declares, is_close, same_affinity}
use Rattle.rg_props.specs.Lookups.{named}
use Rattle.rg_props.specs.Table.{GroupTable}
use Rattle.rg_view.specs.declared.states.ResourceAt.{ResourceAt}
use Rattle.rg_view.specs.declared.view.GroupView.{GroupView}
use Rattle.rg_view.specs.Goals.{goal_of}
use Rattle.rt_types.specs.Fields.{TypeFields}
use Rattle.sequencer.specs.declared.direction.Direction.TheVariants.{Up}
use Rattle.sequencer.specs.Fields.{OutlookFields}
use Rattle.sequencer.specs.Leaving.{has_reason}
use Rattle.sequencer.specs.Loads.{is_too_much}
use Rattle.sequencer.specs.Standing.{is_group_online, is_group_up, is_online}
use Rattle.sequencer.specs.Starting.{are_suited, avoids_up, has_groups, has_room, is_avoided, is_group_there, is_listed, is_suited, is_supported, is_there, is_up_elsewhere, is_wanted, may_begin, may_begin_in, others_up, suits, waits}
use Rattle.sequencer_laws.specs.AllowedCall.{MayBegin, MayBeginIn, is_close_by, is_in_the_way, is_met, keeps_away, others}
use Rattle.sequencer_laws.specs.Flags.{FlagMap}
use Rattle.sequencer_laws.specs.Laws.{GoalsAreManaged, situation}
use Rattle.sequencer_laws.specs.Situations.{Situation, has_online, has_up, some_member}
use Rattle.sequencer_laws.specs.Views.{MayStandFor}
use Rattle.sequencer_laws.proofs.Lists.{all_more, any_among, are_members, count_among, four, none_but, none_more, seven, three}
use Rattle.sequencer_laws.proofs.Loads.{stays_within}
use Rattle.sequencer_laws.proofs.Maps.{group_online, group_up, online_runs, scope_shown}

-- what suits an affinity under the view
close_suits : (x : Affinity) (online up runs : Bool) → (online ≡ true → runs ≡ true) → suits x online up ≡ true → (not (is_close x) || runs) ≡ true
close_suits PlusPlus online up runs shown h = shown h
close_suits Plus online up runs shown h = refl
close_suits Minus online up runs shown h = refl
close_suits MinusMinus online up runs shown h = refl
close_suits PlusPlusPlus online up runs shown h = shown h

apart_suits : (x : Affinity) (online up there : Bool) → (there ≡ true → up ≡ true) → suits x online up ≡ true → (same_affinity x MinusMinus && there) ≡ false
apart_suits PlusPlus online up there counted h = refl
apart_suits Plus online up there counted h = refl
apart_suits Minus online up there counted h = refl
apart_suits MinusMinus online up there counted h = false_from_ne_true there (λ is. let bad : true ≡ false = sym (counted is) ∙ not-true up h in absurd cc)
apart_suits PlusPlusPlus online up there counted h = refl

module _ (t : GroupTable) (types : List (List ℕ × TypeFields)) (limits : List Limit) (v : GroupView) (map : FlagMap) (stands : MayStandFor t types v map) where
  abbrev s : Situation
  s = situation t types limits v map

  abbrev nodes : List ℕ
  nodes = numbers_to v.members most_nodes

  fewer_primaries : (group : List ℕ) (n k : ℕ) → nat_lt (others_up t v nodes group n) k ≡ true → others s group n < k
  fewer_primaries group n k h =
      omega (arith, ltb-true (others_up t v nodes group n) k h, count_among (λ m. has v.members m ≡ true) (λ m. not (m == n) && has_up s group m) (is_up_elsewhere t v group n) one nodes (are_members v.members most_nodes))
    where
      one : (m : ℕ) → has v.members m ≡ true → (not (m == n) && has_up s group m) ≡ true → is_up_elsewhere t v group n m ≡ true
      one m member both =
          let parts : _ = and_parts (not (m == n)) (has_up s group m) both in
          and_from (not (m == n)) (is_group_up t v group m) parts.0 (group_up t types limits v map stands group m member parts.1)

  target_runs : (r : Resource) (n : ℕ) (target : List ℕ) → is_there t v nodes r.group n target ≡ true → is_met s r n target ≡ true
  target_runs r n target h =
      scope_shown t types limits v map stands r target n (is_online v target) (λ m. (map target m).run) (λ m member. online_runs t types limits v map stands target m member) h

  targets_run : (r : Resource) (n : ℕ) → is_supported t v nodes r n ≡ true → list_all (is_met s r n) (r.strong ++ r.offline_restart) ≡ true
  unfolding is_supported
  targets_run r n h =
      let parts : _ = and_parts (list_all (is_there t v nodes r.group n) r.strong) (list_all (is_there t v nodes r.group n) r.offline_restart) h in
      list_all-append (is_met s r n) r.strong r.offline_restart
      ∙ and_from (list_all (is_met s r n) r.strong) (list_all (is_met s r n) r.offline_restart)
      (all_more (is_there t v nodes r.group n) (is_met s r n) r.strong (target_runs r n) parts.0)
      (all_more (is_there t v nodes r.group n) (is_met s r n) r.offline_restart (target_runs r n) parts.1)

  groups_run : (g : Group) → has_groups t v nodes g ≡ true → list_all (λ group. some_member s (has_online s group)) g.dependencies ≡ true
  unfolding has_groups
  groups_run g h = all_more (is_group_there t v nodes) (λ group. some_member s (has_online s group)) g.dependencies one h
    where
      one : (group : List ℕ) → is_group_there t v nodes group ≡ true → some_member s (has_online s group) ≡ true
      one group there =
          any_among (λ m. has v.members m ≡ true) (is_group_online t v group) (has_online s group) (λ m member. group_online t types limits v map stands group m member) nodes
          (are_members v.members most_nodes) there

  module _ (n : ℕ) (member : has v.members n ≡ true) where
    close_by : (g : Group) → are_suited t v g n ≡ true → list_all (is_close_by s n) g.affinities ≡ true
    unfolding are_suited
    close_by g h =
        all_more (is_suited t v n) (is_close_by s n) g.affinities
        (λ a is. close_suits a.affinity (is_group_online t v a.group n) (is_group_up t v a.group n) (has_online s a.group n) (group_online t types limits v map stands a.group n member) is) h

    none_in_the_way : (g : Group) → are_suited t v g n ≡ true → list_any (is_in_the_way s n) g.affinities ≡ false
    unfolding are_suited
    none_in_the_way g h =
        none_but (is_suited t v n) (is_in_the_way s n) g.affinities
        (λ a is. apart_suits a.affinity (is_group_online t v a.group n) (is_group_up t v a.group n) (has_up s a.group n) (group_up t types limits v map stands a.group n member) is) h

    none_keeps_away : (group : List ℕ) → is_avoided t v group n ≡ false → list_any (keeps_away s group n) t.groups ≡ false
    unfolding is_avoided
    none_keeps_away group h = none_more (keeps_away s group n) (avoids_up t v group n) t.groups one h
      where
        one : (e : List ℕ × Group) → keeps_away s group n e ≡ true → avoids_up t v group n e ≡ true
        one e both =
            let parts : _ = and_parts (declares e.1.affinities group MinusMinus) (has_up s e.0 n) both in
            and_from (declares e.1.affinities group MinusMinus) (is_group_up t v e.0 n) parts.0 (group_up t types limits v map stands e.0 n member parts.1)

    begins_in : (o : OutlookFields) (name : List ℕ) (r : Resource) (st : ResourceAt) (g : Group) → o.members ≡ nodes → GoalsAreManaged t v → named t.groups r.group ≡ Some g
        → may_begin_in t limits v o name r n st (Some g) ≡ true → MayBegin s n r g
    unfolding has_room
    begins_in o name r st g same managed is h =
        let facts : _ =
        seven (is_wanted t v o name r n st) (has_room t limits v o.members r.group g n) (is_supported t v o.members r n) (has_groups t v o.members g) (are_suited t v g n)
        (not (is_avoided t v r.group n)) (not (waits t v o r n)) h in
        let room : _ =
        four (is_listed g.nodelist n) (has (goal_of v.goals r.group) n) (nat_lt (others_up t v o.members r.group n) g.maximum) (not (is_too_much t limits v r.group g.factors n)) facts.1 in
        let wanted : _ = three r.enabled (not st.faulted) (not (has_reason Up t v o.members o.for_up name r n)) facts.0 in
        record {
          listed = room.0;
          managed = managed r.group g n is room.1;
          enabled = wanted.0;
          primaries = fewer_primaries r.group n g.maximum (subst (λ (ms : List ℕ). nat_lt (others_up t v ms r.group n) g.maximum ≡ true) same room.2);
          strong = targets_run r n (subst (λ (ms : List ℕ). is_supported t v ms r n ≡ true) same facts.2);
          groups = groups_run g (subst (λ (ms : List ℕ). has_groups t v ms g ≡ true) same facts.3);
          close = close_by g facts.4;
          apart = none_in_the_way g facts.4;
          avoided = none_keeps_away r.group (not-true (is_avoided t v r.group n) facts.5);
          within = stays_within t types limits v map stands r.group g.factors n member (not-true (is_too_much t limits v r.group g.factors n) room.3);
        }

    pub begins : (o : OutlookFields) (name : List ℕ) (r : Resource) (st : ResourceAt) → o.members ≡ nodes → GoalsAreManaged t v
        → may_begin t limits v o name r n st ≡ true → MayBeginIn s n r (named t.groups r.group)
    unfolding may_begin
    begins o name r st same managed h = by (named t.groups r.group) refl h
      where
        by : (found : Option Group) → found ≡ named t.groups r.group → may_begin_in t limits v o name r n st found ≡ true → MayBeginIn s n r found
        by None is h = absurd (let bad : false ≡ true = h in cc)
        by (Some g) is h = begins_in o name r st g same managed (sym is) h
