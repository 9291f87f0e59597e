-- What STOP needs under a view is what it needs over each map that the view may stand for.
use Rattle.std.proofs.Common.{◌≡◌, ℕ, ◌==◌, true, false, not, ◌&&◌, List, sym, ◌∙◌}
use Rattle.std.specs.List.{list_any}
use Rattle.std.specs.Str.{bytes_eq}
use Rattle.std.proofs.lemmas.Bool.{and_from, and_parts, false_from_ne_true, not-true, not_from_false}
use Rattle.std.proofs.lemmas.List.Folds.{list_any-append}
use Rattle.cl_base.specs.Limits.{most_nodes}
use Rattle.cl_base.specs.Numbers.{numbers_to}
use Rattle.cl_base.specs.Sets.{has}
use Rattle.load_limits.specs.declared.limits.Limit.{Limit}
use Rattle.rg_props.specs.declared.group.Group.{Group}
use Rattle.rg_props.specs.declared.group.Resource.{Resource}
use Rattle.rg_props.specs.Affinities.{declares_close}
use Rattle.rg_props.specs.Table.{GroupTable}
use Rattle.rg_view.specs.declared.view.GroupView.{GroupView}
use Rattle.rt_types.specs.Fields.{TypeFields}
use Rattle.sequencer.specs.Scopes.{any_in_scope}
use Rattle.sequencer.specs.Standing.{is_group_up, is_online, is_up}
use Rattle.sequencer.specs.Stopping.{follows_up, has_follower, is_held, is_holding, is_online_elsewhere}
use Rattle.sequencer.specs.Stopping as view
use Rattle.sequencer_laws.specs.AllowedCall.{needs, rests_on, stays_with}
use Rattle.sequencer_laws.specs.Flags.{FlagMap, has_any}
use Rattle.sequencer_laws.specs.Laws.{situation}
use Rattle.sequencer_laws.specs.Situations.{Situation, has_up, some_in_scope}
use Rattle.sequencer_laws.specs.Views.{MayStandFor}
use Rattle.sequencer_laws.proofs.Lists.{none_more, three}
use Rattle.sequencer_laws.proofs.Maps.{flagged_is_up, group_up, online_runs, scope_seen, scope_shown}

module _ (t : GroupTable) (types : List (List ℕ × TypeFields)) (limits : List Limit) (v : GroupView) (map : FlagMap) (stands : MayStandFor t types v map) where
  abbrev s : Situation
  s = situation t types limits v map

  abbrev nodes : List ℕ
  nodes = numbers_to v.members most_nodes

  pub none_stays : (group : List ℕ) (n : ℕ) → has v.members n ≡ true → has_follower t v group n ≡ false → list_any (stays_with s group n) t.groups ≡ false
  unfolding has_follower
  none_stays group n member h = none_more (stays_with s group n) (follows_up t v group n) t.groups one h
    where
      one : (e : List ℕ × Group) → stays_with s group n e ≡ true → follows_up t v group n e ≡ true
      one e both =
          let parts : _ = and_parts (declares_close e.1.affinities group) (has_up s e.0 n) both in
          and_from (declares_close e.1.affinities group) (is_group_up t v e.0 n) parts.0 (group_up t types limits v map stands e.0 n member parts.1)

  -- where it is online elsewhere under the view, it runs elsewhere
  elsewhere : (name : List ℕ) (n : ℕ) (r : Resource) → any_in_scope t nodes r.group n name (is_online_elsewhere v name n) ≡ true
      → some_in_scope s r name n (λ m. not (m == n) && (map name m).run) ≡ true
  elsewhere name n r h = scope_shown t types limits v map stands r name n (is_online_elsewhere v name n) (λ m. not (m == n) && (map name m).run) one h
    where
      one : (m : ℕ) → has v.members m ≡ true → is_online_elsewhere v name n m ≡ true → (not (m == n) && (map name m).run) ≡ true
      one m member both =
          let parts : _ = and_parts (not (m == n)) (is_online v name m) both in
          and_from (not (m == n)) (map name m).run parts.0 (online_runs t types limits v map stands name m member parts.1)

  pub none_rests : (name : List ℕ) (n : ℕ) → is_held t v nodes name n ≡ false → list_any (rests_on s name n) t.resources ≡ false
  unfolding is_held
  none_rests name n h = none_more (rests_on s name n) (is_holding t v nodes name n) t.resources one h
    where
      one : (e : List ℕ × Resource) → rests_on s name n e ≡ true → is_holding t v nodes name n e ≡ true
      one e all =
          let facts : _ =
          three (needs e.1 name) (some_in_scope s e.1 name n (λ m. has_any (map e.0 m))) (not (some_in_scope s e.1 name n (λ m. not (m == n) && (map name m).run))) all in
          let strong : view.needs name e.1 ≡ true = sym (list_any-append (λ x. bytes_eq x name) e.1.strong e.1.offline_restart) ∙ facts.0 in
          let up : any_in_scope t nodes e.1.group n name (is_up v e.0) ≡ true =
          scope_seen t types limits v map stands e.1 name n (λ m. has_any (map e.0 m)) (is_up v e.0) (λ m member. flagged_is_up t types limits v map stands e.0 m member) facts.1 in
          let nowhere : any_in_scope t nodes e.1.group n name (is_online_elsewhere v name n) ≡ false =
          false_from_ne_true (any_in_scope t nodes e.1.group n name (is_online_elsewhere v name n))
          (λ there. let bad : true ≡ false = sym (elsewhere name n e.1 there) ∙ not-true (some_in_scope s e.1 name n (λ m. not (m == n) && (map name m).run)) facts.2 in absurd cc) in
          and_from (view.needs name e.1 && any_in_scope t nodes e.1.group n name (is_up v e.0)) (not (any_in_scope t nodes e.1.group n name (is_online_elsewhere v name n)))
          (and_from (view.needs name e.1) (any_in_scope t nodes e.1.group n name (is_up v e.0)) strong up) (not_from_false (any_in_scope t nodes e.1.group n name (is_online_elsewhere v name n)) nowhere)
