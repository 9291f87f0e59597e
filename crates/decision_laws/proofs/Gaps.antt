-- After a decision a node outside a goal that is too small has a reason.
use Rattle.std.proofs.Common.{◌≡◌, ℕ, ◌≤◌, ◌<◌, ◌^◌, Bool, true, false, cond, not, List, [], ◌∷◌, ◌++◌, Option, None, Some, is_some, fold, refl, sym, ap, subst, ◌∙◌, arith}
use Rattle.std.proofs.lemmas.Bool.{lt-ltb}
use Rattle.std.proofs.lemmas.List.Sums.{fold-append}
use Rattle.std.specs.Option.{IsSome}
use Rattle.std.specs.Result.{result_err, result_ok}
use Rattle.cl_base.specs.declared.reason.Reason.{Reason}
use Rattle.cl_base.specs.declared.reason.Reason.TheVariants as reason
use Rattle.cl_base.specs.Limits.{most_nodes}
use Rattle.cl_base.specs.Numbers.{numbers_to}
use Rattle.cl_base.specs.Sets.{count_to, has}
use Rattle.placement.specs.Best.{IsPlaced, is_listed, scores_of}
use Rattle.placement.specs.Decisions.{decided, with_fixed, with_other}
use Rattle.placement.specs.Eligibility.{eligibility_in, eligibility_of, group_reason, node_reason, reason_of, score_of, unless}
use Rattle.placement.specs.Goals.{goal_by_rule}
use Rattle.placement.specs.Resources.{has_enabled, is_stop_failed, is_stop_mark}
use Rattle.placement.proofs.Reasons.{goal_best}
use Rattle.rg_deps.specs.Laws.{AnOrderIsFound, ChosenIsOrder}
use Rattle.rg_props.specs.declared.group.Group.{Group}
use Rattle.rg_props.specs.Lookups.{named}
use Rattle.rg_props.specs.Table.{GroupTable}
use Rattle.rg_props.specs.Values.{or_else}
use Rattle.rg_view.specs.declared.orders.Outstanding.{Outstanding}
use Rattle.rg_view.specs.declared.view.GroupView.{GroupView}
use Rattle.rg_view.specs.Goals.{goal_of}
use Rattle.ccr_tables.specs.State.{ConfigState}
use Rattle.wire.specs.declared.message.Order.{Order}
use Rattle.rgm_president.specs.Decisions.{decision, goals_set, turns_unless, with_goals_of}
use Rattle.rgm_president.specs.Goals.{listed, with_decided, with_ended, with_goals, with_listed}
use Rattle.rgm_president.specs.Sequence.{groups_in_order, sequence}
use Rattle.rgm_president.specs.State.{PresidentState, with_order}
use Rattle.rgm_president.specs.Status.{reason_for, reason_outside}
use Rattle.president_laws.specs.Laws.{MayAllBeGiven}
use Rattle.president_laws.proofs.Decisions.{orders_are_allowed}
use Rattle.president_laws.proofs.Goals.{goals_follow_the_rule, others_keep}
use Rattle.decision_laws.specs.Quiet.{GapsHaveReasons, GroupsAreApart}
use Rattle.decision_laws.proofs.Before.{HasTurn, IsTarget, affinity_is, dependency_is, has_turn, offline_is, strong_is}
use Rattle.decision_laws.proofs.Counted.{IsSplit, listed_split, same_load, split_fixed, split_other}
use Rattle.decision_laws.proofs.Cycles.{orders_are_there}
use Rattle.decision_laws.proofs.Grounds.{SharesGround, SharesTargets, same_reason}
use Rattle.decision_laws.proofs.Ordering.{HaveOrders, IsFoundAt, found_at}
use Rattle.decision_laws.proofs.States.{any_ended}

-- Orders change nothing of a view but what is outstanding.
pub same_but_orders : (c : ConfigState) (es : List (ℕ × Order)) (last : ℕ) (p new : PresidentState) → MayAllBeGiven c last p es new → new.view ≡ record p.view { outstanding = new.view.outstanding }
same_but_orders c [] last p new same = subst (λ (q : PresidentState). q.view ≡ record p.view { outstanding = q.view.outstanding }) (sym same) refl
same_but_orders c (e ∷ es) last p new (up, may, rest) = same_but_orders c es e.0 (with_order p e.0 e.1.resource e.1.method) new rest

module _ (c : ConfigState) (now : ℕ) (p : PresidentState) (orders : List (Option Outstanding)) where
  -- what goals are decided over, and what is known then
  abbrev pub first : GroupView
  first = with_listed (groups_in_order c.groups) now p.view

  abbrev pub last : GroupView
  last = record (with_goals_of c now p).view { outstanding = orders }

  pub ground : SharesGround c.groups first last
  unfolding goals_set with_goals with_ended with_decided with_listed is_stop_failed
  ground = record {
    members = refl;
    now = refl;
    groups = refl;
    evacuated = refl;
    leaving = refl;
    failed = λ x. any_ended (is_stop_mark c.groups first x) (λ s. refl) c.groups (with_decided c (groups_in_order c.groups) first).goals (numbers_to p.view.members most_nodes)
        (sequence c.groups) p.view.resources;
  }

  pub goals_are : last.goals ≡ decided c.groups c.limits first (groups_in_order c.groups)
  unfolding goals_set with_goals with_ended with_decided
  goals_are = refl

  pub listed_are : first.goals ≡ listed p.view.goals (groups_in_order c.groups)
  unfolding with_listed
  listed_are = refl

  pub members_are : first.members ≡ p.view.members
  unfolding with_listed
  members_are = refl

-- no reason at all, part by part
none_of : {A : Type 0} (a b : Option A) → or_else a b ≡ None → (a ≡ None) × (b ≡ None)
none_of None b h = (refl, h)
none_of (Some x) b h = cc h

record IsFree (g : Group) : Type 0 where
  managed : g.managed ≡ true
  wanted : g.wanted ≡ true
  free : g.suspended ≡ false

no_group_reason : (t : GroupTable) (name : List ℕ) (g : Group) → group_reason t name g ≡ None → IsFree g
unfolding group_reason
no_group_reason t name g h = by g.managed refl g.wanted refl g.suspended refl h
  where
    by : (m : Bool) → g.managed ≡ m → (w : Bool) → g.wanted ≡ w → (s : Bool) → g.suspended ≡ s
        → cond (not m) (Some reason.Unmanaged) (cond (not w) (Some reason.Offline) (cond s (Some reason.Suspended) (cond (not (has_enabled t name)) (Some reason.Empty) None))) ≡ None → IsFree g
    by false em w ew s es h = cc h
    by true em false ew s es h = cc h
    by true em true ew true es h = cc h
    by true em true ew false es h = record { managed = em; wanted = ew; free = es }

no_node_reason : (t : GroupTable) (v : GroupView) (name : List ℕ) (g : Group) (n : ℕ) → node_reason t v name g n ≡ None → is_stop_failed t v name ≡ false
unfolding node_reason
no_node_reason t v name g n h = by (has v.members n) (is_stop_failed t v name) _ h
  where
    by : (m f : Bool) (rest : Option Reason) → cond (not m) (Some reason.NotMember) (cond f (Some reason.StopFailed) rest) ≡ None → f ≡ false
    by false f rest h = cc h
    by true true rest h = cc h
    by true false rest h = refl

module _ (law : ChosenIsOrder) (c : ConfigState) (now : ℕ) (p : PresidentState) (outstanding : List (Option Outstanding)) (orders : HaveOrders c.groups) (apart : GroupsAreApart c.groups)
    (small : p.view.members < 2 ^ 32) (name : List ℕ) (g : Group) (n : ℕ) (there : named c.groups.groups name ≡ Some g) where
  abbrev v : GroupView
  v = first c now p outstanding

  abbrev w : GroupView
  w = last c now p outstanding

  at : IsFoundAt c.groups.groups name g
  at = found_at c.groups.groups name g there

  turn : HasTurn c.groups at.place name
  turn = has_turn c.groups orders law apart at.place name g at.found

  abbrev order : List (List ℕ)
  order = turn.before ++ name ∷ turn.behind

  abbrev so_far : List (List ℕ × ℕ)
  so_far = fold (with_other c.groups c.limits v) (fold (with_fixed c.groups c.limits v) v.goals order) turn.before

  -- what is known at the group's turn
  abbrev at_turn : GroupView
  at_turn = record v { goals = so_far }

  then_decided : w.goals ≡ fold (with_other c.groups c.limits v) so_far (name ∷ turn.behind)
  unfolding decided
  then_decided =
      goals_are c now p outstanding ∙ ap (decided c.groups c.limits v) turn.whole
      ∙ fold-append (with_other c.groups c.limits v) (fold (with_fixed c.groups c.limits v) v.goals order) turn.before (name ∷ turn.behind)

  split : IsSplit (name ∷ turn.behind) name so_far
  split =
      split_other c.groups c.limits v (name ∷ turn.behind) name turn.before (fold (with_fixed c.groups c.limits v) v.goals order)
      (split_fixed c.groups c.limits v (name ∷ turn.behind) name order v.goals
      (subst (IsSplit (name ∷ turn.behind) name) (sym (listed_are c now p outstanding ∙ ap (listed p.view.goals) turn.whole)) (listed_split p.view.goals turn.before name turn.behind turn.lacks_later)))

  ground_at_turn : SharesGround c.groups at_turn w
  unfolding is_stop_failed
  ground_at_turn =
      let base : SharesGround c.groups v w = ground c now p outstanding in
      record { members = base.members; now = base.now; groups = base.groups; evacuated = base.evacuated; leaving = base.leaving; failed = base.failed }

  target_keeps : (x : List ℕ) → IsTarget c.groups apart at.place name g at.found x → goal_of w.goals x ≡ goal_of so_far x
  target_keeps x target = ap (λ (l : List (List ℕ × ℕ)). goal_of l x) then_decided ∙ others_keep c.groups c.limits v (name ∷ turn.behind) x so_far (turn.early x target)

  targets : SharesTargets c.groups at_turn w name g
  targets = record {
    affinities = λ i a is strong. target_keeps a.group (affinity_is c.groups apart at.place name g at.found i a is strong);
    dependencies = λ i d is. target_keeps d (dependency_is c.groups apart at.place name g at.found i d is);
    strong = λ k e found own i x r is is_r other. target_keeps r.group (strong_is c.groups apart at.place name g at.found k e found own i x r is is_r other);
    offline = λ k e found own i x r is is_r other. target_keeps r.group (offline_is c.groups apart at.place name g at.found k e found own i x r is is_r other);
  }

  as_at_turn : reason_of c.groups c.limits w name g n ≡ reason_of c.groups c.limits at_turn name g n
  as_at_turn = same_reason c.groups c.limits at_turn w name g n ground_at_turn targets (same_load c.groups c.limits v w name g n so_far turn.behind split (ground c now p outstanding) then_decided)

  goal_is : goal_of w.goals name ≡ goal_by_rule c.groups c.limits at_turn name (goal_of v.goals name)
  goal_is =
      ap (λ (l : List (List ℕ × ℕ)). goal_of l name) (goals_are c now p outstanding ∙ ap (decided c.groups c.limits v) turn.whole)
      ∙ goals_follow_the_rule c.groups c.limits v turn.before name turn.behind turn.lacks_before turn.lacks_behind

  -- a node without a reason would have been taken
  taken : is_listed g.nodelist n ≡ true → has (goal_of w.goals name) n ≡ false → reason_of c.groups c.limits w name g n ≡ None → g.desired ≤ count_to (goal_of w.goals name) most_nodes
  unfolding reason_of
  taken listed_n outside none =
      let parts : _ = none_of (group_reason c.groups name g) _ none in
      let node : _ = none_of (node_reason c.groups w name g n) _ parts.1 in
      let own : IsFree g = no_group_reason c.groups name g parts.0 in
      let running : is_stop_failed c.groups at_turn name ≡ false = sym (ground_at_turn.failed name) ∙ no_node_reason c.groups w name g n node.0 in
      let placed : IsPlaced c.groups at_turn name g = record {
        there = there;
        managed = own.managed;
        wanted = own.wanted;
        running = running;
        free = own.free;
        members = subst (λ (s : ℕ). s < 2 ^ 32) (sym (members_are c now p outstanding)) small;
      } in
      let best : _ = goal_best c.groups c.limits at_turn name g (goal_of v.goals name) placed in
      let none_then : reason_of c.groups c.limits at_turn name g n ≡ None = sym as_at_turn ∙ none in
      let score : _ = score_of c.groups c.limits at_turn name g n in
      let scored : scores_of c.groups c.limits at_turn name g n ≡ Some score = ap (λ (o : Option Reason). result_ok (unless o score)) none_then in
      subst (λ (s : ℕ). g.desired ≤ count_to s most_nodes) (sym goal_is)
      (best.enough (record { node = n; score = score }) (record { listed = listed_n; scored = scored }) (ap (λ (s : ℕ). has s n) (sym goal_is) ∙ outside))

  gap_has_reason : is_listed g.nodelist n ≡ true → has (goal_of w.goals name) n ≡ false → count_to (goal_of w.goals name) most_nodes < g.desired → IsSome (reason_for c w name n)
  unfolding eligibility_of
  gap_has_reason listed_n outside few =
      ap (λ (o : Option Reason). is_some o) told ∙ by (reason_of c.groups c.limits w name g n) refl
    where
      told : reason_for c w name n ≡ result_err (unless (reason_of c.groups c.limits w name g n) (score_of c.groups c.limits w name g n))
      told =
          rw outside (ap (reason_outside c w name n) there ∙ rw (lt-ltb (count_to (goal_of w.goals name) most_nodes) g.desired few) (ap (λ (o : Option Group). result_err (eligibility_in c.groups c.limits w name n o)) there))

      by : (o : Option Reason) → reason_of c.groups c.limits w name g n ≡ o → is_some (result_err (unless o (score_of c.groups c.limits w name g n))) ≡ true
      by (Some r) is = refl
      by None is = let enough : g.desired ≤ count_to (goal_of w.goals name) most_nodes = taken listed_n outside is in absurd (omega (arith, enough, few))

pub gaps_have_reasons : ChosenIsOrder → AnOrderIsFound → GapsHaveReasons
unfolding turns_unless
gaps_have_reasons law found c now true p none apart small name g n there listed_n outside few =
    gap_has_reason law c now p (with_goals_of c now p).view.outstanding (orders_are_there law found c.groups none) apart small name g n there listed_n outside few
gaps_have_reasons law found c now false p none apart small name g n there listed_n outside few =
    let decided_view : GroupView = (decision c now false p).president.view in
    let same : decided_view ≡ last c now p decided_view.outstanding = same_but_orders c (decision c now false p).orders 0 (with_goals_of c now p) (decision c now false p).president (orders_are_allowed c now p) in
    subst (λ (u : GroupView). IsSome (reason_for c u name n)) (sym same)
    (gap_has_reason law c now p decided_view.outstanding (orders_are_there law found c.groups none) apart small name g n there listed_n
    (ap (λ (u : GroupView). has (goal_of u.goals name) n) (sym same) ∙ outside)
    (subst (λ (u : GroupView). count_to (goal_of u.goals name) most_nodes < g.desired) same few))
