-- Decided goals are within hard limits.
use Rattle.std.proofs.Common.{◌≡◌, ◌⊎◌, inl, inr, ℕ, nat_eq, ◌<◌, ◌≤◌, ◌^◌, Bool, true, false, List, [], ◌∷◌, ◌++◌, Option, None, Some, fold, refl, sym, ap, subst, ◌∙◌, append_assoc, append-nil}
use Rattle.std.proofs.lemmas.Bool.{eq-eqb, or_right, or_left}
use Rattle.std.proofs.lemmas.List.Folds.{list_any-append}
use Rattle.std.specs.List.{AllByRecursion, Contains, IsDistinct, cons_option, flat_map, slice_get}
use Rattle.std.specs.Map.{keys_of}
use Rattle.std.specs.Option.{option_map}
use Rattle.std.specs.Str.{bytes_eq}
use Rattle.cl_base.proofs.NameLemmas.{texts_pass}
use Rattle.load_limits.specs.declared.limits.Limit.{Limit}
use Rattle.load_limits.specs.Loads.{load}
use Rattle.placement.specs.Decisions.{AreFixed, decided}
use Rattle.placement.specs.Loads.{brought}
use Rattle.placement.proofs.Within.{within_limits}
use Rattle.rg_deps.specs.declared.graph.Edge.{Edge}
use Rattle.rg_deps.specs.Edges.{group_edges}
use Rattle.rg_deps.specs.Laws.{AnOrderIsFound, ChosenIsOrder, Follow}
use Rattle.rg_deps.specs.Order.{ordered, stands}
use Rattle.rg_deps.specs.Things.{group_things, names_at}
use Rattle.rg_props.specs.declared.group.Group.{Group}
use Rattle.rg_props.specs.Table.{GroupTable}
use Rattle.rg_view.specs.declared.orders.Outstanding.{Outstanding}
use Rattle.rg_view.specs.declared.view.GroupView.{GroupView}
use Rattle.rg_view.specs.Goals.{goal_of, goals_with}
use Rattle.ccr_tables.specs.State.{ConfigState}
use Rattle.rgm_president.specs.Decisions.{decision, turns_unless, with_goals_of}
use Rattle.rgm_president.specs.Goals.{with_previous}
use Rattle.rgm_president.specs.Sequence.{groups_in_order}
use Rattle.rgm_president.specs.State.{PresidentState}
use Rattle.president_laws.specs.Laws.{Lacks}
use Rattle.president_laws.proofs.Decisions.{orders_are_allowed}
use Rattle.decision_laws.specs.Quiet.{GroupsAreApart}
use Rattle.decision_laws.specs.Limits.{DecidedWithinLimits, IsWithin}
use Rattle.decision_laws.proofs.Before.{each_lacks, not_again}
use Rattle.decision_laws.proofs.Counted.{pass, same_fixed}
use Rattle.decision_laws.proofs.Cycles.{orders_are_there}
use Rattle.decision_laws.proofs.Gaps.{first, goals_are, ground, last, listed_are, members_are, same_but_orders}
use Rattle.decision_laws.proofs.Ordering.{HaveOrders, groups_arranged, place_is}

-- No group comes twice in the order of groups.
module _ (t : GroupTable) (apart : GroupsAreApart t) where
  abbrev edges : List Edge
  edges = group_edges t

  names_distinct : (done ps : List ℕ) → Follow edges done ps → IsDistinct bytes_eq (names_at t.groups ps)
  unfolding IsDistinct
  names_distinct done [] h = tt
  names_distinct done (p ∷ ps) h = by (slice_get t.groups p) refl (names_distinct (done ++ p ∷ []) ps h.2)
    where
      not_later : stands ps p ≡ false
      not_later = not_again edges (done ++ p ∷ []) ps p h.2 (list_any-append (nat_eq p) done (p ∷ []) ∙ or_right _ _ (or_left (nat_eq p p) false (eq-eqb p p refl)))

      other : (e : List ℕ × Group) → slice_get t.groups p ≡ Some e → (r : ℕ) (x : List ℕ × Group) → stands ps r ≡ true → slice_get t.groups r ≡ Some x → (b : Bool) → bytes_eq e.0 x.0 ≡ b → b ≡ false
      other e is r x later at false same = refl
      other e is r x later at true same =
          let one : Some p ≡ Some r = sym (place_is t.groups x.0 p e apart is same) ∙ place_is t.groups x.0 r x apart at (texts_pass x.0 x.0 refl) in
          let place : p ≡ r = cc in
          let bad : true ≡ false = sym later ∙ ap (stands ps) (sym place) ∙ not_later in
          absurd (cc)

      by : (o : Option (List ℕ × Group)) → slice_get t.groups p ≡ o → IsDistinct bytes_eq (names_at t.groups ps) → IsDistinct bytes_eq (cons_option (option_map (λ e. e.0) o) (names_at t.groups ps))
      by None is rest = rest
      by (Some e) is rest = (each_lacks t apart p e.0 e.1 is (λ y. bytes_eq e.0 y ≡ false) ps (λ r x later at. other e is r x later at (bytes_eq e.0 x.0) refl), rest)

  order_distinct : HaveOrders t → ChosenIsOrder → IsDistinct bytes_eq (groups_in_order t)
  unfolding groups_in_order
  order_distinct orders law =
      subst (IsDistinct bytes_eq) (sym (groups_arranged t orders law).names) (names_distinct [] (ordered (group_things t) edges) (groups_arranged t orders law).order.follow)

-- So each is listed once, in that order.
module _ (previous : List (List ℕ × ℕ)) where
  abbrev Goals : Type 0
  Goals = List (List ℕ × ℕ)

  keys_end : (goals : Goals) (x : List ℕ) (set : ℕ) → keys_of (goals ++ (x, set) ∷ []) ≡ keys_of goals ++ x ∷ []
  keys_end [] x set = refl
  keys_end (e ∷ es) x set = ap (λ (l : List (List ℕ)). e.0 ∷ l) (keys_end es x set)

  lacks_end : (ks : List (List ℕ)) (x y : List ℕ) → Lacks ks y → bytes_eq x y ≡ false → Lacks (ks ++ x ∷ []) y
  lacks_end [] x y h other = (other, tt)
  lacks_end (k ∷ ks) x y h other = (h.0, lacks_end ks x y h.1 other)

  all_end : (ks : List (List ℕ)) (x : List ℕ) (ys : List (List ℕ)) → AllByRecursion (Lacks ks) ys → AllByRecursion (λ y. bytes_eq x y ≡ false) ys → AllByRecursion (Lacks (ks ++ x ∷ [])) ys
  all_end ks x [] h other = tt
  all_end ks x (y ∷ ys) h other = (lacks_end ks x y h.0 other.0, all_end ks x ys h.1 other.1)

  keys_listed : (names : List (List ℕ)) (goals : Goals) → AllByRecursion (Lacks (keys_of goals)) names → IsDistinct bytes_eq names
      → keys_of (fold (with_previous previous) goals names) ≡ keys_of goals ++ names
  unfolding IsDistinct
  keys_listed [] goals new apart = sym (append-nil (keys_of goals))
  keys_listed (x ∷ xs) goals new apart =
      keys_listed xs (with_previous previous goals x) (subst (λ (ks : List (List ℕ)). AllByRecursion (Lacks ks) xs) (sym keys) (all_end (keys_of goals) x xs new.1 apart.0)) apart.1
      ∙ ap (λ (ks : List (List ℕ)). ks ++ xs) keys ∙ append_assoc (keys_of goals) (x ∷ []) xs
    where
      keys : keys_of (with_previous previous goals x) ≡ keys_of goals ++ x ∷ []
      keys =
          ap (λ (l : Goals). keys_of (goals_with l x (goal_of previous x))) (sym (append-nil goals)) ∙ ap keys_of (pass goals [] x (goal_of previous x) new.0) ∙ keys_end goals x (goal_of previous x)

  all_new : (names : List (List ℕ)) → AllByRecursion (Lacks []) names
  all_new [] = tt
  all_new (x ∷ xs) = (tt, all_new xs)

module _ (law : ChosenIsOrder) (c : ConfigState) (now : ℕ) (p : PresidentState) (outstanding : List (Option Outstanding)) (orders : HaveOrders c.groups) (apart : GroupsAreApart c.groups)
    (small : p.view.members < 2 ^ 32) (l : Limit) (among : Contains c.limits l) where
  abbrev v : GroupView
  v = first c now p outstanding

  abbrev w : GroupView
  w = last c now p outstanding

  distinct : IsDistinct bytes_eq (groups_in_order c.groups)
  distinct = order_distinct c.groups apart orders law

  keys : keys_of v.goals ≡ groups_in_order c.groups
  keys = ap keys_of (listed_are c now p outstanding) ∙ keys_listed p.view.goals (groups_in_order c.groups) [] (all_new p.view.goals (groups_in_order c.groups)) distinct

  limited : IsWithin c w l
  limited = by (within_limits c.groups c.limits v (groups_in_order c.groups) (subst (λ (s : ℕ). s < 2 ^ 32) (sym (members_are c now p outstanding)) small)
      (subst (IsDistinct bytes_eq) (sym keys) distinct) keys l among)
    where
      by : (load l.name (flat_map (brought c.groups l.node) (decided c.groups c.limits v (groups_in_order c.groups))) ≤ l.hard) ⊎ AreFixed c.groups v l.node l.name (decided c.groups c.limits v (groups_in_order c.groups)) → IsWithin c w l
      by (inl le) = inl (subst (λ (goals : List (List ℕ × ℕ)). load l.name (flat_map (brought c.groups l.node) goals) ≤ l.hard) (sym (goals_are c now p outstanding)) le)
      by (inr all) = inr (subst (AreFixed c.groups w l.node l.name) (sym (goals_are c now p outstanding)) (λ k d low has brings. same_fixed c.groups v w l.node (ground c now p outstanding) _ ∙ all k d low has brings))

pub decided_within_limits : ChosenIsOrder → AnOrderIsFound → DecidedWithinLimits
unfolding turns_unless
decided_within_limits law found c now true p none apart small l among =
    limited law c now p (with_goals_of c now p).view.outstanding (orders_are_there law found c.groups none) apart small l among
decided_within_limits law found c now false p none apart small l among =
    let decided_view : GroupView = (decision c now false p).president.view in
    let same : decided_view ≡ last c now p decided_view.outstanding = same_but_orders c (decision c now false p).orders 0 (with_goals_of c now p) (decision c now false p).president (orders_are_allowed c now p) in
    subst (λ (u : GroupView). IsWithin c u l) (sym same) (limited law c now p decided_view.outstanding (orders_are_there law found c.groups none) apart small l among)
