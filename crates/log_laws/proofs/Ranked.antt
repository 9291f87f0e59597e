-- Where there is no cycle, and each name is there, names fall.
use Rattle.std.proofs.Common.{◌≡◌, ℕ, zero, suc, add-one, ◌<◌, ◌≤◌, ◌||◌, ◌⊎◌, inl, inr, nat_eq, Bool, true, false, cond, Option, None, Some, IfSome, IsSome, List, ◌++◌, length, refl, sym, ap, subst, ◌∙◌, arith, slice_get, option_map, option_and_then, filter_map}
use Rattle.std.proofs.lemmas.Bool.{cases_lt, eq-eqb, or_left, or_right}
use Rattle.std.proofs.lemmas.List.Folds.{list_any-append}
use Rattle.std.proofs.lemmas.Option.{slice_get_cases}
use Rattle.std.specs.List.{AllByRecursion, IsDistinct}
use Rattle.std.specs.Map.{keys_of}
use Rattle.std.specs.Str.{bytes_eq}
use Rattle.rg_props.specs.declared.affinity.Affine.{Affine}
use Rattle.rg_props.specs.declared.group.Group.{Group}
use Rattle.rg_props.specs.declared.group.Resource.{Resource}
use Rattle.rg_props.specs.Lookups.{named, place_of}
use Rattle.rg_props.specs.Table.{GroupTable}
use Rattle.rg_deps.specs.declared.graph.Edge.{Edge}
use Rattle.rg_deps.specs.declared.graph.Thing.{Thing}
use Rattle.rg_deps.specs.Cycles.{arrangement}
use Rattle.rg_deps.specs.Edges.{crossing, crossing_edges, crossing_edges_at, crossings, edge, edge_of_affinity, edge_to_group, edges_of_group, group_edges, inner_edges_at, inner_edges_to, is_strong, member_place, resource_edges, strong_target}
use Rattle.rg_deps.specs.Laws.{is_thing, ChosenIsOrder}
use Rattle.rg_deps.specs.Orderings.{cycle_in, first_cycle, or_else, resource_cycle}
use Rattle.rg_deps.specs.Things.{collected, group_things, resource_things, thing_of_group, thing_of_resource}
use Rattle.log_laws.specs.Laws.{GroupNamesGroups, IsThere, OfNeeded}
use Rattle.log_laws.proofs.Alls.{at_place, each_of_both, each_of_three, element, elements, given_of, parts}
use Rattle.log_laws.proofs.Falling.{crossing_is, group_of, GroupFalls, IsAbove, member_is, NamesFall, ResourceFalls}
use Rattle.log_laws.proofs.Named.{found, place_is}
use Rattle.log_laws.proofs.Ranks.{chosen_rank, things_fall}

-- what a place below n gives is among all
held : (f : ℕ → List Thing) (n q : ℕ) → q < n → is_thing (f q) q ≡ true → is_thing (collected f n) q ≡ true
held f zero q lt is = absurd (omega (arith, lt))
held f (suc n) q lt is = list_any-append (λ t. nat_eq q t.place) (collected f n) (f n) ∙ by (cases_lt q n) (λ low. held f n q low is)
  where
    by : ((q < n) ⊎ (n ≤ q)) → (q < n → is_thing (collected f n) q ≡ true) → (is_thing (collected f n) q || is_thing (f n) q) ≡ true
    by (inl low) ih = or_left _ _ (ih low)
    by (inr high) ih =
        let same : q ≡ n = omega (arith, lt, high, add-one n) in
        or_right _ _ (subst (λ (k : ℕ). is_thing (f k) q ≡ true) same is)

-- what stands at a place stands below the length
below : {X : Type 0} (xs : List X) (q : ℕ) (x : X) → slice_get xs q ≡ Some x → q < length xs
below xs q x is = elim (slice_get_cases xs q).1 [
  | inl there ↦ there.1
  | inr past ↦ cc (sym is ∙ past.1)
]

group_is_thing : (t : GroupTable) (q : ℕ) (e : List ℕ × Group) → slice_get t.groups q ≡ Some e → is_thing (group_things t) q ≡ true
group_is_thing t q e is =
    held (λ p. thing_of_group t.version p (slice_get t.groups p)) (length t.groups) q (below t.groups q e is)
    (subst (λ (o : Option (List ℕ × Group)). is_thing (thing_of_group t.version q o) q ≡ true) (sym is) (or_left _ _ (eq-eqb q q refl)))

resource_is_thing : (t : GroupTable) (q : ℕ) (e : List ℕ × Resource) → slice_get t.resources q ≡ Some e → is_thing (resource_things t) q ≡ true
resource_is_thing t q e is =
    held (λ p. thing_of_resource p (slice_get t.resources p)) (length t.resources) q (below t.resources q e is)
    (subst (λ (o : Option (List ℕ × Resource)). is_thing (thing_of_resource q o) q ≡ true) (sym is) (or_left _ _ (eq-eqb q q refl)))

module _ {X : Type 0} (things : List (List ℕ × X)) (once : IsDistinct bytes_eq (keys_of things)) (place_rank : ℕ → ℕ) where
  -- the rank of the place of a name
  abbrev pub of_place : Option ℕ → ℕ
  of_place None = 0
  of_place (Some q) = place_rank q

  abbrev pub name_rank : List ℕ → ℕ
  name_rank name = of_place (place_of things name)

  -- each edge of a thing leads down
  abbrev pub FallsFrom : ℕ → Option ℕ → Type 0
  FallsFrom p to = IfSome to (λ q. place_rank q < place_rank p)

  -- what is there is below what has an edge to it
  pub below_own : (p : ℕ) (name : List ℕ) → IsThere things name → FallsFrom p (place_of things name) → name_rank name < place_rank p
  below_own p name there h = by (named things name) refl there
    where
      by : (o : Option X) → named things name ≡ o → IsSome o → name_rank name < place_rank p
      by None is there = cc there
      by (Some x) is there =
          let f = found things name x is in
          let place : place_of things name ≡ Some f.at = place_is things once name x f.at f.place in
          let low : place_rank f.at < place_rank p = subst (λ (o : Option ℕ). FallsFrom p o) place h in
          omega (arith, low, ap of_place place)

  pub own_rank : (p : ℕ) (name : List ℕ) (x : X) → slice_get things p ≡ Some (name, x) → name_rank name ≡ place_rank p
  own_rank p name x at = ap of_place (place_is things once name x p at)

-- an edge of a thing leads down
falls_from : (things : List Thing) (rank : ℕ → ℕ) (p : ℕ) → is_thing things p ≡ true → (to : Option ℕ)
    → IfSome (edge p to) (λ e. is_thing things e.from ≡ true → rank e.to < rank e.from) → IfSome to (λ q. rank q < rank p)
falls_from things rank p own None h = tt
falls_from things rank p own (Some q) h = h own

pub record Kept (t : GroupTable) : Type 0 where
  pub groups : AllByRecursion (λ e. GroupNamesGroups t.groups e.1) t.groups
  pub of_group : AllByRecursion (λ e. IsThere t.groups e.1.group) t.resources
  pub groups_once : IsDistinct bytes_eq (keys_of t.groups)
  pub resources_once : IsDistinct bytes_eq (keys_of t.resources)
  pub needed : AllByRecursion (λ e. OfNeeded (IsThere t.resources) e.1) t.resources

module _ (t : GroupTable) (names : Kept t) (group_place_rank resource_place_rank : ℕ → ℕ) where
  abbrev GroupDown : Edge → Type 0
  GroupDown e = is_thing (group_things t) e.from ≡ true → group_place_rank e.to < group_place_rank e.from

  abbrev ResourceDown : Edge → Type 0
  ResourceDown e = is_thing (resource_things t) e.from ≡ true → resource_place_rank e.to < resource_place_rank e.from

  abbrev group_rank : List ℕ → ℕ
  group_rank = name_rank t.groups names.groups_once group_place_rank

  abbrev rank : List ℕ → ℕ
  rank = name_rank t.resources names.resources_once resource_place_rank

  module _ (groups_fall : AllByRecursion GroupDown (group_edges t)) (resources_fall : AllByRecursion ResourceDown (resource_edges t)) where
    -- a group at its place
    group_falls : (p : ℕ) (e : List ℕ × Group) → slice_get t.groups p ≡ Some e → GroupFalls group_rank e
    group_falls p e at = (
      each_of_both _ _ _ (λ d there h. low d there (falls_from (group_things t) group_place_rank p own (place_of t.groups d) h)) e.1.dependencies all.0 (given_of GroupDown (edge_to_group t p) e.1.dependencies two.0),
      each_of_both _ _ _ (λ a there h. strong a there (is_strong a.affinity) refl (falls_from (group_things t) group_place_rank p own (strong_target t a) h)) e.1.affinities all.1 (given_of GroupDown (edge_of_affinity t p) e.1.affinities two.1),
    )
      where
        own : is_thing (group_things t) p ≡ true
        own = group_is_thing t p e at

        all : GroupNamesGroups t.groups e.1
        all = element (λ (x : List ℕ × Group). GroupNamesGroups t.groups x.1) t.groups names.groups p e at

        edges : AllByRecursion GroupDown (edges_of_group t p (Some e))
        edges = subst (λ (o : Option (List ℕ × Group)). AllByRecursion GroupDown (edges_of_group t p o)) at
            (at_place GroupDown (λ q. edges_of_group t q (slice_get t.groups q)) (length t.groups) (parts GroupDown _ _ groups_fall).0 p (below t.groups p e at))

        two : AllByRecursion GroupDown (filter_map (edge_to_group t p) e.1.dependencies) × AllByRecursion GroupDown (filter_map (edge_of_affinity t p) e.1.affinities)
        two = parts GroupDown (filter_map (edge_to_group t p) e.1.dependencies) (filter_map (edge_of_affinity t p) e.1.affinities) edges

        low : (d : List ℕ) → IsThere t.groups d → IfSome (place_of t.groups d) (λ q. group_place_rank q < group_place_rank p) → group_rank d < group_rank e.0
        low d there h =
            omega (arith, below_own t.groups names.groups_once group_place_rank p d there h, own_rank t.groups names.groups_once group_place_rank p e.0 e.1 at)

        strong : (a : Affine) → IsThere t.groups a.group → (b : Bool) → is_strong a.affinity ≡ b → IfSome (cond b (place_of t.groups a.group) None) (λ q. group_place_rank q < group_place_rank p)
            → is_strong a.affinity ≡ true → group_rank a.group < group_rank e.0
        strong a there true is h so = low a.group there h
        strong a there false is h so = let never : true ≡ false = sym so ∙ is in cc never

    module _ (p : ℕ) (e : List ℕ × Resource) (at : slice_get t.resources p ≡ Some e) (m : ℕ) (group_at : place_of t.groups e.1.group ≡ Some m) (its_group : Group) (stands : slice_get t.groups m ≡ Some (e.1.group, its_group)) where
      own_low : (d : List ℕ) → IsThere t.resources d → IfSome (place_of t.resources d) (λ q. resource_place_rank q < resource_place_rank p) → rank d < rank e.0
      own_low d there h =
          omega (arith, below_own t.resources names.resources_once resource_place_rank p d there h, own_rank t.resources names.resources_once resource_place_rank p e.0 e.1 at)

      group_low : (group : List ℕ) → IsThere t.groups group → IfSome (edge m (place_of t.groups group)) GroupDown → group_rank group < group_rank e.1.group
      group_low group there h =
          omega (
            arith,
            below_own t.groups names.groups_once group_place_rank m group there (falls_from (group_things t) group_place_rank m (group_is_thing t m (e.1.group, its_group) stands) (place_of t.groups group) h),
            own_rank t.groups names.groups_once group_place_rank m e.1.group its_group stands,
          )

      -- one that the resource depends on
      is_above : (d : List ℕ) → IsThere t.resources d → IfSome (edge m (crossing t e.1.group d)) GroupDown → IfSome (edge p (member_place t e.1.group d)) ResourceDown
          → IfSome (group_of t.resources d) (IsAbove group_rank rank e d)
      is_above d there cross inner = by (named t.resources d) refl
        where
          by : (o : Option Resource) → named t.resources d ≡ o → IfSome (option_map (λ (r : Resource). r.group) o) (IsAbove group_rank rank e d)
          by None is = tt
          by (Some r) is =
              let f = found t.resources d r is in
              let place : place_of t.resources d ≡ Some f.at = place_is t.resources names.resources_once d r f.at f.place in
              let crosses = subst (λ (o : Option ℕ). IfSome (edge m o) GroupDown) (crossing_is t e.1.group d f.at r place f.place) cross in
              let inside = subst (λ (o : Option ℕ). IfSome (edge p o) ResourceDown) (member_is t e.1.group d f.at r place f.place) inner in (
                λ other. group_low r.group (element (λ (x : List ℕ × Resource). IsThere t.groups x.1.group) t.resources names.of_group f.at (d, r) f.place)
                    (subst (λ (b : Bool). IfSome (edge m (option_and_then (place_of t.groups) (cond b None (Some r.group)))) GroupDown) other crosses),
                λ same. own_low d there (subst (λ (o : Option ℕ). IfSome o (λ q. resource_place_rank q < resource_place_rank p)) (sym place)
                    (falls_from (resource_things t) resource_place_rank p (resource_is_thing t p e at) (Some f.at)
                    (subst (λ (b : Bool). IfSome (edge p (cond b (Some f.at) None)) ResourceDown) same inside))),
              )

      of_list : (needed : List (List ℕ)) → AllByRecursion (IsThere t.resources) needed → AllByRecursion GroupDown (crossings t e.1.group m needed) → AllByRecursion ResourceDown (inner_edges_to t e.1.group p needed)
          → AllByRecursion (λ d. IfSome (group_of t.resources d) (IsAbove group_rank rank e d)) needed
      of_list needed there crosses inside =
          each_of_three _ _ _ _ is_above needed there (given_of GroupDown (λ name. edge m (crossing t e.1.group name)) needed crosses)
          (given_of ResourceDown (λ name. edge p (member_place t e.1.group name)) needed inside)

      needed_fall : OfNeeded (IsThere t.resources) e.1 → AllByRecursion GroupDown (crossing_edges t e.1 (Some m)) → AllByRecursion ResourceDown (inner_edges_at t p (Some e)) → ResourceFalls group_rank rank t.resources e
      needed_fall there crosses inside =
          let across : List (List ℕ) → List Edge = crossings t e.1.group m in
          let within : List (List ℕ) → List Edge = inner_edges_to t e.1.group p in
          let c = parts GroupDown (across e.1.strong ++ across e.1.weak) (across e.1.offline_restart) crosses in
          let d = parts GroupDown (across e.1.strong) (across e.1.weak) c.0 in
          let f = parts ResourceDown (within e.1.strong ++ within e.1.weak) (within e.1.offline_restart) inside in
          let g = parts ResourceDown (within e.1.strong) (within e.1.weak) f.0 in
          (of_list e.1.strong there.0 d.0 g.0, of_list e.1.weak there.1 d.1 g.1, of_list e.1.offline_restart there.2 c.1 f.1)

    resource_falls : (p : ℕ) (e : List ℕ × Resource) → slice_get t.resources p ≡ Some e → ResourceFalls group_rank rank t.resources e
    resource_falls p e at = by (named t.groups e.1.group) refl (element (λ (x : List ℕ × Resource). IsThere t.groups x.1.group) t.resources names.of_group p e at)
      where
        by : (o : Option Group) → named t.groups e.1.group ≡ o → IsSome o → ResourceFalls group_rank rank t.resources e
        by None is there = cc there
        by (Some g) is there =
            let f = found t.groups e.1.group g is in
            let place : place_of t.groups e.1.group ≡ Some f.at = place_is t.groups names.groups_once e.1.group g f.at f.place in
            let low : p < length t.resources = below t.resources p e at in
            needed_fall p e at f.at place g f.place (element (λ (x : List ℕ × Resource). OfNeeded (IsThere t.resources) x.1) t.resources names.needed p e at)
            (subst (λ (to : Option ℕ). AllByRecursion GroupDown (crossing_edges t e.1 to)) place
            (subst (λ (x : Option (List ℕ × Resource)). AllByRecursion GroupDown (crossing_edges_at t x)) at
            (at_place GroupDown (λ q. crossing_edges_at t (slice_get t.resources q)) (length t.resources)
            (parts GroupDown (collected (λ q. edges_of_group t q (slice_get t.groups q)) (length t.groups)) (collected (λ q. crossing_edges_at t (slice_get t.resources q)) (length t.resources)) groups_fall).1 p low)))
            (subst (λ (x : Option (List ℕ × Resource)). AllByRecursion ResourceDown (inner_edges_at t p x)) at
            (at_place ResourceDown (λ q. inner_edges_at t q (slice_get t.resources q)) (length t.resources) resources_fall p low))

    all_fall : NamesFall t
    all_fall = record {
      group_rank = group_rank;
      rank = rank;
      groups = elements (GroupFalls group_rank) t.groups group_falls;
      resources = elements (ResourceFalls group_rank rank t.resources) t.resources resource_falls;
    }

neither : {X : Type 0} (a b : Option X) → or_else a b ≡ None → (a ≡ None) × (b ≡ None)
neither None b none = (refl, none)
neither (Some x) b none = cc none

pub names_fall : (t : GroupTable) → Kept t → ChosenIsOrder → first_cycle t ≡ None → NamesFall t
names_fall t names is_order none =
    let n = neither (cycle_in t.groups (arrangement (group_things t) (group_edges t))) (resource_cycle t) none in
    all_fall t names (chosen_rank (group_things t) (group_edges t)) (chosen_rank (resource_things t) (resource_edges t))
    (things_fall (group_things t) (group_edges t) t.groups is_order n.0) (things_fall (resource_things t) (resource_edges t) t.resources is_order n.1)
