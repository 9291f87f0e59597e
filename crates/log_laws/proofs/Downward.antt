-- Where names fall, there is no cycle.
use Rattle.std.proofs.Common.{◌≡◌, ℕ, ◌<◌, Bool, true, false, cond, Option, None, Some, IfSome, List, length, refl, sym, ap, subst, ◌∙◌, arith, slice_get, option_map, option_and_then}
use Rattle.std.specs.List.{AllByRecursion, IsDistinct}
use Rattle.std.specs.Map.{keys_of}
use Rattle.std.specs.Str.{bytes_eq}
use Rattle.rg_props.specs.declared.affinity.Affine.{Affine}
use Rattle.rg_props.specs.declared.group.Group.{Group}
use Rattle.rg_props.specs.declared.group.Resource.{Resource}
use Rattle.rg_props.specs.Lookups.{place_of}
use Rattle.rg_props.specs.Table.{GroupTable}
use Rattle.rg_deps.specs.declared.graph.Edge.{Edge}
use Rattle.rg_deps.specs.Edges.{crossing, crossing_edges, crossing_edges_at, crossings, edge, edge_of_affinity, edge_to_group, edges_of_group, group_edges, if_member, inner_edges_at, inner_edges_to, is_strong, member_place, other_group, resource_edges}
use Rattle.rg_deps.specs.Laws.{CycleIsClosed, CycleIsThere}
use Rattle.rg_deps.specs.Orderings.{first_cycle, or_else, resource_cycle}
use Rattle.rg_deps.specs.Things.{group_things, resource_things}
use Rattle.order_laws.specs.Laws.{TargetsAreThere}
use Rattle.log_laws.specs.Laws.{OfNeeded}
use Rattle.log_laws.proofs.Alls.{both, each, element, given, of_places}
use Rattle.log_laws.proofs.Falling.{crossing_is, group_of, GroupFalls, IsAbove, member_is, NamesFall, ResourceFalls}
use Rattle.log_laws.proofs.Named.{named_is, stands_at}
use Rattle.log_laws.proofs.Ranks.{Falls, no_cycle}

module _ {X : Type 0} (things : List (List ℕ × X)) (rank : List ℕ → ℕ) where
  -- the rank of what stands at a place
  abbrev pub rank_of : Option (List ℕ × X) → ℕ
  rank_of None = 0
  rank_of (Some e) = rank e.0

  abbrev pub rank_at : ℕ → ℕ
  rank_at p = rank_of (slice_get things p)

  abbrev pub Down : Edge → Type 0
  Down e = rank_at e.to < rank_at e.from

  -- an edge to a lower name leads down
  pub down_to : (p : ℕ) (own : List ℕ) → rank_at p ≡ rank own → (name : List ℕ) → rank name < rank own → IfSome (edge p (place_of things name)) Down
  down_to p own at name low = by (place_of things name) refl
    where
      by : (o : Option ℕ) → place_of things name ≡ o → IfSome (edge p o) Down
      by None is = tt
      by (Some q) is = let there : rank_at q ≡ rank name = ap rank_of (stands_at things name q is).place in omega (arith, at, there, low)

  pub at_own_place : (own : List ℕ) (p : ℕ) → place_of things own ≡ Some p → rank_at p ≡ rank own
  at_own_place own p is = ap rank_of (stands_at things own p is).place

module _ (t : GroupTable) (resources_once : IsDistinct bytes_eq (keys_of t.resources)) (k : NamesFall t) where
  abbrev GroupDown : Edge → Type 0
  GroupDown = Down t.groups k.group_rank

  abbrev ResourceDown : Edge → Type 0
  ResourceDown = Down t.resources k.rank

  own_edges : (p : ℕ) (o : Option (List ℕ × Group)) → slice_get t.groups p ≡ o → AllByRecursion GroupDown (edges_of_group t p o)
  own_edges p None at = tt
  own_edges p (Some e) at =
      both GroupDown _ _
      (given GroupDown (edge_to_group t p) e.1.dependencies (each _ _ (λ d low. down_to t.groups k.group_rank p e.0 own d low) e.1.dependencies falls.0))
      (given GroupDown (edge_of_affinity t p) e.1.affinities (each _ _ (λ a low. strong a (is_strong a.affinity) refl low) e.1.affinities falls.1))
    where
      own : rank_at t.groups k.group_rank p ≡ k.group_rank e.0
      own = ap (rank_of t.groups k.group_rank) at

      falls : GroupFalls k.group_rank e
      falls = element (GroupFalls k.group_rank) t.groups k.groups p e at

      strong : (a : Affine) (b : Bool) → is_strong a.affinity ≡ b → (is_strong a.affinity ≡ true → k.group_rank a.group < k.group_rank e.0)
          → IfSome (edge p (cond b (place_of t.groups a.group) None)) GroupDown
      strong a true is low = down_to t.groups k.group_rank p e.0 own a.group (low is)
      strong a false is low = tt

  module _ (e : List ℕ × Resource) where
    abbrev Above : List ℕ → Type 0
    Above d = IfSome (group_of t.resources d) (IsAbove k.group_rank k.rank e d)

    above : (d : List ℕ) (q : ℕ) (r : Resource) → slice_get t.resources q ≡ Some (d, r) → Above d → IsAbove k.group_rank k.rank e d r.group
    above d q r stands h = subst (λ (o : Option Resource). IfSome (option_map (λ (x : Resource). x.group) o) (IsAbove k.group_rank k.rank e d)) (named_is t.resources resources_once d r q stands) h

    cross : (m : ℕ) → place_of t.groups e.1.group ≡ Some m → (d : List ℕ) → Above d → IfSome (edge m (crossing t e.1.group d)) GroupDown
    cross m at d h = by (place_of t.resources d) refl
      where
        other : (r : Resource) (b : Bool) → bytes_eq r.group e.1.group ≡ b → IsAbove k.group_rank k.rank e d r.group → IfSome (edge m (option_and_then (place_of t.groups) (cond b None (Some r.group)))) GroupDown
        other r true is a = tt
        other r false is a = down_to t.groups k.group_rank m e.1.group (at_own_place t.groups k.group_rank e.1.group m at) r.group (a.0 is)

        by : (o : Option ℕ) → place_of t.resources d ≡ o → IfSome (edge m (crossing t e.1.group d)) GroupDown
        by None is = subst (λ (o : Option ℕ). IfSome (edge m (option_and_then (place_of t.groups) (option_and_then (other_group e.1.group) (option_and_then (slice_get t.resources) o)))) GroupDown) (sym is) tt
        by (Some q) is =
            let s = stands_at t.resources d q is in
            subst (λ (o : Option ℕ). IfSome (edge m o) GroupDown) (sym (crossing_is t e.1.group d q s.value is s.place))
            (other s.value (bytes_eq s.value.group e.1.group) refl (above d q s.value s.place h))

    inner : (p : ℕ) → rank_at t.resources k.rank p ≡ k.rank e.0 → (d : List ℕ) → Above d → IfSome (edge p (member_place t e.1.group d)) ResourceDown
    inner p at d h = by (place_of t.resources d) refl
      where
        same : (q : ℕ) (r : Resource) (b : Bool) → bytes_eq r.group e.1.group ≡ b → rank_at t.resources k.rank q ≡ k.rank d → IsAbove k.group_rank k.rank e d r.group → IfSome (edge p (cond b (Some q) None)) ResourceDown
        same q r true is there a = omega (arith, at, there, a.1 is)
        same q r false is there a = tt

        by : (o : Option ℕ) → place_of t.resources d ≡ o → IfSome (edge p (member_place t e.1.group d)) ResourceDown
        by None is = subst (λ (o : Option ℕ). IfSome (edge p (option_and_then (λ q. if_member t e.1.group q (slice_get t.resources q)) o)) ResourceDown) (sym is) tt
        by (Some q) is =
            let s = stands_at t.resources d q is in
            subst (λ (o : Option ℕ). IfSome (edge p o) ResourceDown) (sym (member_is t e.1.group d q s.value is s.place))
            (same q s.value (bytes_eq s.value.group e.1.group) refl (at_own_place t.resources k.rank d q is) (above d q s.value s.place h))

    crossing_falls : OfNeeded Above e.1 → (o : Option ℕ) → place_of t.groups e.1.group ≡ o → AllByRecursion GroupDown (crossing_edges t e.1 o)
    crossing_falls h None at = tt
    crossing_falls h (Some m) at = both GroupDown _ _ (both GroupDown _ _ (of e.1.strong h.0) (of e.1.weak h.1)) (of e.1.offline_restart h.2)
      where
        of : (names : List (List ℕ)) → AllByRecursion Above names → AllByRecursion GroupDown (crossings t e.1.group m names)
        of names a = given GroupDown (λ name. edge m (crossing t e.1.group name)) names (each _ _ (cross m at) names a)

  falls_at : (p : ℕ) (e : List ℕ × Resource) → slice_get t.resources p ≡ Some e → OfNeeded (Above e) e.1
  falls_at p e at = element (ResourceFalls k.group_rank k.rank t.resources) t.resources k.resources p e at

  crossing_at : (p : ℕ) (o : Option (List ℕ × Resource)) → slice_get t.resources p ≡ o → AllByRecursion GroupDown (crossing_edges_at t o)
  crossing_at p None at = tt
  crossing_at p (Some e) at = crossing_falls e (falls_at p e at) (place_of t.groups e.1.group) refl

  inner_at : (p : ℕ) (o : Option (List ℕ × Resource)) → slice_get t.resources p ≡ o → AllByRecursion ResourceDown (inner_edges_at t p o)
  inner_at p None at = tt
  inner_at p (Some e) at = both ResourceDown _ _ (both ResourceDown _ _ (of e.1.strong h.0) (of e.1.weak h.1)) (of e.1.offline_restart h.2)
    where
      h : OfNeeded (Above e) e.1
      h = falls_at p e at

      of : (names : List (List ℕ)) → AllByRecursion (Above e) names → AllByRecursion ResourceDown (inner_edges_to t e.1.group p names)
      of names a = given ResourceDown (λ name. edge p (member_place t e.1.group name)) names (each _ _ (inner e p (ap (rank_of t.resources k.rank) at)) names a)

  groups_fall : Falls (rank_at t.groups k.group_rank) (group_edges t)
  groups_fall =
      both GroupDown _ _
      (of_places GroupDown (λ p. edges_of_group t p (slice_get t.groups p)) (length t.groups) (λ p lt. own_edges p (slice_get t.groups p) refl))
      (of_places GroupDown (λ p. crossing_edges_at t (slice_get t.resources p)) (length t.resources) (λ p lt. crossing_at p (slice_get t.resources p) refl))

  resources_fall : Falls (rank_at t.resources k.rank) (resource_edges t)
  resources_fall = of_places ResourceDown (λ p. inner_edges_at t p (slice_get t.resources p)) (length t.resources) (λ p lt. inner_at p (slice_get t.resources p) refl)

  pub none_where_names_fall : TargetsAreThere t → CycleIsThere → CycleIsClosed → first_cycle t ≡ None
  none_where_names_fall among are_there are_closed =
      ap (λ (o : Option (List (List ℕ))). or_else o (resource_cycle t)) (no_cycle are_there are_closed (group_things t) (group_edges t) among.groups t.groups (rank_at t.groups k.group_rank) groups_fall)
      ∙ no_cycle are_there are_closed (resource_things t) (resource_edges t) among.resources t.resources (rank_at t.resources k.rank) resources_fall
