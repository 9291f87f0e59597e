-- What a view says of each map that it may stand for: what counts as online runs there, and what has a flag there counts as up.
use Rattle.std.proofs.Common.{◌≡◌, ℕ, ◌==◌, ◌⊎◌, inl, inr, Bool, true, false, cond, not, ◌&&◌, ◌||◌, List, Option, None, Some, refl, sym, ap, ◌∙◌}
use Rattle.std.specs.List.{list_all, list_any}
use Rattle.std.specs.Str.{bytes_eq}
use Rattle.std.proofs.lemmas.Bool.{and_cases, and_from, and_parts, not-true, not-false, not_from_false, or_left, or_right}
use Rattle.cl_base.specs.Limits.{most_nodes}
use Rattle.cl_base.specs.Numbers.{numbers_to}
use Rattle.cl_base.specs.Sets.{has}
use Rattle.load_limits.specs.declared.limits.Limit.{Limit}
use Rattle.placement.specs.Resources.{has_enabled, is_enabled_in}
use Rattle.rg_props.specs.declared.group.Resource.{Resource}
use Rattle.rg_props.specs.declared.group.Scope.TheVariants.{SameNode, AnyMember}
use Rattle.rg_props.specs.Lookups.{keeps_close, named, scope_of_both}
use Rattle.rg_props.specs.Table.{GroupTable}
use Rattle.rg_view.specs.declared.orders.Outstanding.{Outstanding}
use Rattle.rg_view.specs.declared.view.GroupView.{GroupView}
use Rattle.rg_view.specs.Orders.{order_of}
use Rattle.rg_view.specs.States.{state_of}
use Rattle.rt_types.specs.Fields.{TypeFields}
use Rattle.sequencer.specs.Scopes.{any_in_scope, in_scope, is_tied, is_tied_to}
use Rattle.sequencer.specs.Standing.{has_flag, has_missing, is_group_online, is_group_up, is_missing_in, is_online, is_order_for, is_ordered, is_up, is_up_in}
use Rattle.sequencer_laws.specs.Flags.{FlagMap, Flags, has_any}
use Rattle.sequencer_laws.specs.Laws.{situation}
use Rattle.sequencer_laws.specs.Situations.{Situation, has_online, has_up, holds_up, reaches, runs_if_enabled, scope_on, some_in_scope}
use Rattle.sequencer_laws.specs.Views.{MayStandFor, after_order, seen}
use Rattle.sequencer_laws.proofs.Lists.{all_but, any_among, any_more, are_members}

-- an order for another resource leaves this one's flags
not_for_it : (t : GroupTable) (types : List (List ℕ × TypeFields)) (name : List ℕ) (o : Option Outstanding) (f : Flags) → is_order_for name o ≡ false → after_order t types name o f ≡ f
not_for_it t types name None f h = refl
not_for_it t types name (Some o) f h = rw h refl

module _ (t : GroupTable) (types : List (List ℕ × TypeFields)) (limits : List Limit) (v : GroupView) (map : FlagMap) (stands : MayStandFor t types v map) where
  abbrev s : Situation
  s = situation t types limits v map

  pub unordered : (name : List ℕ) (n : ℕ) → has v.members n ≡ true → is_ordered v name n ≡ false → map name n ≡ seen v name n
  unfolding is_ordered
  unordered name n member free = by (stands name n member)
    where
      by : (map name n ≡ seen v name n) ⊎ (map name n ≡ after_order t types name (order_of v.outstanding n) (seen v name n)) → map name n ≡ seen v name n
      by (inl e) = e
      by (inr e) = e ∙ not_for_it t types name (order_of v.outstanding n) (seen v name n) free

  pub online_runs : (name : List ℕ) (n : ℕ) → has v.members n ≡ true → is_online v name n ≡ true → (map name n).run ≡ true
  unfolding is_online
  online_runs name n member h =
      let parts : _ = and_parts (state_of v.resources name n).run (not (is_ordered v name n)) h in
      ap (λ (f : Flags). f.run) (unordered name n member (not-true (is_ordered v name n) parts.1)) ∙ parts.0

  pub flagged_is_up : (name : List ℕ) (n : ℕ) → has v.members n ≡ true → has_any (map name n) ≡ true → is_up v name n ≡ true
  unfolding is_up
  flagged_is_up name n member h = by (is_ordered v name n) refl
    where
      by : (b : Bool) → b ≡ is_ordered v name n → (has_flag (state_of v.resources name n) || b) ≡ true
      by true is = or_right (has_flag (state_of v.resources name n)) true refl
      by false is = or_left (has_flag (state_of v.resources name n)) false (sym (ap has_any (unordered name n member (sym is))) ∙ h)

  pub group_up : (group : List ℕ) (n : ℕ) → has v.members n ≡ true → has_up s group n ≡ true → is_group_up t v group n ≡ true
  unfolding has_up is_group_up
  group_up group n member h = any_more (holds_up s group n) (is_up_in v group n) t.resources one h
    where
      one : (e : List ℕ × Resource) → holds_up s group n e ≡ true → is_up_in v group n e ≡ true
      one e both =
          let parts : _ = and_parts (bytes_eq e.1.group group) (has_any (map e.0 n)) both in
          and_from (bytes_eq e.1.group group) (is_up v e.0 n) parts.0 (flagged_is_up e.0 n member parts.1)

  pub group_online : (group : List ℕ) (n : ℕ) → has v.members n ≡ true → is_group_online t v group n ≡ true → has_online s group n ≡ true
  unfolding is_group_online has_missing has_online
  group_online group n member h =
      let parts : _ = and_parts (has_enabled t group) (not (list_any (is_missing_in v group n) t.resources)) h in
      and_from (has_enabled t group) (list_all (runs_if_enabled s group n) t.resources) parts.0
      (all_but (is_missing_in v group n) (runs_if_enabled s group n) t.resources one (not-true (list_any (is_missing_in v group n) t.resources) parts.1))
    where
      either : (e : List ℕ × Resource) → (is_enabled_in group e.1 ≡ false) ⊎ (not (is_online v e.0 n) ≡ false) → runs_if_enabled s group n e ≡ true
      either e (inl disabled) = or_left (not (is_enabled_in group e.1)) (map e.0 n).run (not_from_false (is_enabled_in group e.1) disabled)
      either e (inr online) = or_right (not (is_enabled_in group e.1)) (map e.0 n).run (online_runs e.0 n member (not-false (is_online v e.0 n) online))

      one : (e : List ℕ × Resource) → is_missing_in v group n e ≡ false → runs_if_enabled s group n e ≡ true
      one e h = either e (and_cases (is_enabled_in group e.1) (not (is_online v e.0 n)) h)

  pub same_reach : (r : Resource) (target : List ℕ) (n m : ℕ) → in_scope (is_tied t r.group target) n m ≡ reaches (scope_on s r target) n m
  unfolding is_tied
  same_reach r target n m = by (named t.resources target)
    where
      tied : (b : Bool) → (not b || (m == n)) ≡ reaches (cond b SameNode AnyMember) n m
      tied true = refl
      tied false = refl

      by : (o : Option Resource) → in_scope (is_tied_to t r.group o) n m ≡ reaches (scope_of_both t (Some r) o) n m
      by None = refl
      by (Some target) = tied (bytes_eq r.group target.group || keeps_close (named t.groups r.group) target.group)

  -- what passes in scope under the view passes in scope over the map, and the other way about
  pub scope_shown : (r : Resource) (target : List ℕ) (n : ℕ) (p q : ℕ → Bool) → ((m : ℕ) → has v.members m ≡ true → p m ≡ true → q m ≡ true)
      → any_in_scope t (numbers_to v.members most_nodes) r.group n target p ≡ true → some_in_scope s r target n q ≡ true
  scope_shown r target n p q more h =
      any_among (λ m. has v.members m ≡ true) (λ m. in_scope (is_tied t r.group target) n m && p m) (λ m. reaches (scope_on s r target) n m && q m) one
      (numbers_to v.members most_nodes) (are_members v.members most_nodes) h
    where
      one : (m : ℕ) → has v.members m ≡ true → (in_scope (is_tied t r.group target) n m && p m) ≡ true → (reaches (scope_on s r target) n m && q m) ≡ true
      one m member both =
          let parts : _ = and_parts (in_scope (is_tied t r.group target) n m) (p m) both in
          and_from (reaches (scope_on s r target) n m) (q m) (sym (same_reach r target n m) ∙ parts.0) (more m member parts.1)

  pub scope_seen : (r : Resource) (target : List ℕ) (n : ℕ) (p q : ℕ → Bool) → ((m : ℕ) → has v.members m ≡ true → p m ≡ true → q m ≡ true)
      → some_in_scope s r target n p ≡ true → any_in_scope t (numbers_to v.members most_nodes) r.group n target q ≡ true
  scope_seen r target n p q more h =
      any_among (λ m. has v.members m ≡ true) (λ m. reaches (scope_on s r target) n m && p m) (λ m. in_scope (is_tied t r.group target) n m && q m) one
      (numbers_to v.members most_nodes) (are_members v.members most_nodes) h
    where
      one : (m : ℕ) → has v.members m ≡ true → (reaches (scope_on s r target) n m && p m) ≡ true → (in_scope (is_tied t r.group target) n m && q m) ≡ true
      one m member both =
          let parts : _ = and_parts (reaches (scope_on s r target) n m) (p m) both in
          and_from (in_scope (is_tied t r.group target) n m) (q m) (same_reach r target n m ∙ parts.0) (more m member parts.1)
