-- The targets of groups and of resources are places of the table, and each place of it is a thing.
use Rattle.std.proofs.Common.{◌≡◌, ℕ, zero, suc, add-one, ◌+◌, ◌<◌, ◌≤◌, ◌==◌, nat_eq, Bool, true, false, cond, ◌&&◌, ◌||◌, ◌⊎◌, inl, inr, Option, None, Some, IfSome, List, [], ◌∷◌, ◌++◌, length, map, position, get_or, refl, sym, ap, subst, ◌∙◌, arith}
use Rattle.std.proofs.lemmas.Bool.{and_parts, cases_lt, eqb-true, eq-eqb, or_left, or_right}
use Rattle.std.proofs.lemmas.List.Folds.{list_any-append}
use Rattle.std.proofs.lemmas.List.Quantifiers.{position-Some}
use Rattle.std.proofs.lemmas.Map.Entries.{length-keys_of}
use Rattle.std.proofs.lemmas.Option.{slice_get_cases}
use Rattle.std.specs.List.{AllByRecursion, cons_option, filter_map, list_any, slice_get}
use Rattle.std.specs.Map.{keys_of}
use Rattle.std.specs.Option.{option_and_then}
use Rattle.std.specs.Str.{bytes_eq}
use Rattle.cl_base.specs.declared.header.Version.{Version}
use Rattle.rg_props.specs.declared.affinity.Affine.{Affine}
use Rattle.rg_props.specs.declared.group.Group.{Group}
use Rattle.rg_props.specs.declared.group.Resource.{Resource}
use Rattle.rg_props.specs.Lookups.{place_of}
use Rattle.rg_props.specs.Table.{GroupTable}
use Rattle.rg_deps.specs.declared.graph.Edge.{Edge}
use Rattle.rg_deps.specs.declared.graph.Thing.{Thing}
use Rattle.rg_deps.specs.Edges.{crossing, crossing_edges, crossing_edges_at, crossings, edge, edge_of_affinity, edge_to_group, edges_of_group, group_edges, if_member, inner_edges, inner_edges_at, inner_edges_to, is_strong, member_place, other_group, resource_edges, strong_target}
use Rattle.rg_deps.specs.Laws.{has_target, is_thing, HasThingsAsTargets}
use Rattle.rg_deps.specs.Things.{collected, group_things, resource_things, thing_of_group, thing_of_resource}
use Rattle.order_laws.specs.Laws.{TargetsAreThere}

-- each of the edges ends below n
abbrev pub EndBelow : ℕ → List Edge → Type 0
EndBelow n edges = AllByRecursion (λ e. e.to < n) edges

module _ (n : ℕ) where
  both : (xs ys : List Edge) → EndBelow n xs → EndBelow n ys → EndBelow n (xs ++ ys)
  both [] ys h k = k
  both (x ∷ xs) ys h k = (h.0, both xs ys h.1 k)

  all : (f : ℕ → List Edge) → ((p : ℕ) → EndBelow n (f p)) → (k : ℕ) → EndBelow n (collected f k)
  all f h zero = tt
  all f h (suc k) = both (collected f k) (f k) (all f h k) (h k)

  some : {A : Type 0} (f : A → Option Edge) → ((x : A) → IfSome (f x) (λ e. e.to < n)) → (xs : List A) → EndBelow n (filter_map f xs)
  some f h [] = tt
  some {A} f h (x ∷ xs) = by (f x) (h x) (some f h xs)
    where
      by : (o : Option Edge) → IfSome o (λ e. e.to < n) → EndBelow n (filter_map f xs) → EndBelow n (cons_option o (filter_map f xs))
      by None at ih = ih
      by (Some e) at ih = (at, ih)

  to_place : (p : ℕ) (to : Option ℕ) → IfSome to (λ q. q < n) → IfSome (edge p to) (λ e. e.to < n)
  to_place p None h = tt
  to_place p (Some q) h = h

  -- where a thing has a target, it is below n
  pub target_below : (edges : List Edge) → EndBelow n edges → (p q : ℕ) → has_target edges p q ≡ true → q < n
  target_below [] h p q is = cc is
  target_below (e ∷ es) h p q is = by (nat_eq p e.from && nat_eq q e.to) refl (target_below es h.1 p q)
    where
      by : (b : Bool) → (nat_eq p e.from && nat_eq q e.to) ≡ b → (has_target es p q ≡ true → q < n) → q < n
      by true here ih = let same : q ≡ e.to = eqb-true q e.to (and_parts (nat_eq p e.from) (nat_eq q e.to) here).1 in omega (arith, same, h.0)
      by false off ih = ih (rw off at is)

-- the place of a name is one of the things'
place_below : {X : Type 0} (things : List (List ℕ × X)) (name : List ℕ) → IfSome (place_of things name) (λ q. q < length things)
place_below things name = by (place_of things name) refl
  where
    by : (o : Option ℕ) → place_of things name ≡ o → IfSome o (λ q. q < length things)
    by None is = tt
    by (Some q) is = omega (arith, (position-Some (bytes_eq name) (keys_of things) q [] is).0, length-keys_of things)

module _ (t : GroupTable) where
  strong_below : (a : Affine) → IfSome (strong_target t a) (λ q. q < length t.groups)
  strong_below a = by (is_strong a.affinity)
    where
      by : (b : Bool) → IfSome (cond b (place_of t.groups a.group) None) (λ q. q < length t.groups)
      by true = place_below t.groups a.group
      by false = tt

  crossing_below : (found : Option (List ℕ)) → IfSome (option_and_then (place_of t.groups) found) (λ q. q < length t.groups)
  crossing_below None = tt
  crossing_below (Some group) = place_below t.groups group

  own_edges : (p : ℕ) (e : Option (List ℕ × Group)) → EndBelow (length t.groups) (edges_of_group t p e)
  own_edges p None = tt
  own_edges p (Some e) =
      both (length t.groups) _ _
      (some (length t.groups) (edge_to_group t p) (λ name. to_place (length t.groups) p (place_of t.groups name) (place_below t.groups name)) e.1.dependencies)
      (some (length t.groups) (edge_of_affinity t p) (λ a. to_place (length t.groups) p (strong_target t a) (strong_below a)) e.1.affinities)

  cross : (group : List ℕ) (p : ℕ) (names : List (List ℕ)) → EndBelow (length t.groups) (crossings t group p names)
  cross group p names = some (length t.groups) (λ name. edge p (crossing t group name)) (λ name. to_place (length t.groups) p (crossing t group name) (crossing_below _)) names

  crossing_edges_below : (r : Resource) (p : Option ℕ) → EndBelow (length t.groups) (crossing_edges t r p)
  crossing_edges_below r None = tt
  crossing_edges_below r (Some p) =
      both (length t.groups) _ _ (both (length t.groups) _ _ (cross r.group p r.strong) (cross r.group p r.weak)) (cross r.group p r.offline_restart)

  crossing_edges_of : (e : Option (List ℕ × Resource)) → EndBelow (length t.groups) (crossing_edges_at t e)
  crossing_edges_of None = tt
  crossing_edges_of (Some e) = crossing_edges_below e.1 (place_of t.groups e.1.group)

  pub group_targets : EndBelow (length t.groups) (group_edges t)
  group_targets =
      both (length t.groups) _ _
      (all (length t.groups) (λ p. edges_of_group t p (slice_get t.groups p)) (λ p. own_edges p (slice_get t.groups p)) (length t.groups))
      (all (length t.groups) (λ p. crossing_edges_at t (slice_get t.resources p)) (λ p. crossing_edges_of (slice_get t.resources p)) (length t.resources))

  member_below : (group name : List ℕ) → IfSome (member_place t group name) (λ q. q < length t.resources)
  member_below group name = by (place_of t.resources name) (place_below t.resources name)
    where
      within : (q : ℕ) → q < length t.resources → (e : Option (List ℕ × Resource)) → IfSome (if_member t group q e) (λ r. r < length t.resources)
      within q lt None = tt
      within q lt (Some e) = one (bytes_eq e.1.group group)
        where
          one : (b : Bool) → IfSome (cond b (Some q) None) (λ r. r < length t.resources)
          one true = lt
          one false = tt

      by : (o : Option ℕ) → IfSome o (λ q. q < length t.resources) → IfSome (option_and_then (λ p. if_member t group p (slice_get t.resources p)) o) (λ q. q < length t.resources)
      by None lt = tt
      by (Some q) lt = within q lt (slice_get t.resources q)

  inner : (group : List ℕ) (p : ℕ) (names : List (List ℕ)) → EndBelow (length t.resources) (inner_edges_to t group p names)
  inner group p names = some (length t.resources) (λ name. edge p (member_place t group name)) (λ name. to_place (length t.resources) p (member_place t group name) (member_below group name)) names

  inner_edges_below : (p : ℕ) (e : Option (List ℕ × Resource)) → EndBelow (length t.resources) (inner_edges_at t p e)
  inner_edges_below p None = tt
  inner_edges_below p (Some e) =
      both (length t.resources) _ _ (both (length t.resources) _ _ (inner e.1.group p e.1.strong) (inner e.1.group p e.1.weak)) (inner e.1.group p e.1.offline_restart)

  pub resource_targets : EndBelow (length t.resources) (resource_edges t)
  resource_targets = all (length t.resources) (λ p. inner_edges_at t p (slice_get t.resources p)) (λ p. inner_edges_below p (slice_get t.resources p)) (length t.resources)

-- at each place of a list there is something
pub is_within : {X : Type 0} (xs : List X) (q : ℕ) → q < length xs → slice_get xs q ≡ None → ⊥
is_within xs q lt is = elim (slice_get_cases xs q).1 [
  | inl there ↦ cc (sym is ∙ there.2)
  | inr past ↦ omega (arith, lt, past.0)
]

-- what a place below n gives is among all
held : (f : ℕ → List Thing) (n q : ℕ) → q < n → is_thing (f q) q ≡ true → is_thing (collected f n) q ≡ true
held f zero q lt is = absurd (omega (arith, lt))
held f (suc n) q lt is = list_any-append (λ t. nat_eq q t.place) (collected f n) (f n) ∙ by (cases_lt q n) (λ low. held f n q low is)
  where
    by : ((q < n) ⊎ (n ≤ q)) → (q < n → is_thing (collected f n) q ≡ true) → (is_thing (collected f n) q || is_thing (f n) q) ≡ true
    by (inl low) ih = or_left _ _ (ih low)
    by (inr high) ih =
        let same : q ≡ n = omega (arith, lt, high, add-one n) in
        or_right _ _ (subst (λ (k : ℕ). is_thing (f k) q ≡ true) same is)

module _ (t : GroupTable) where
  is_group : (q : ℕ) → q < length t.groups → is_thing (group_things t) q ≡ true
  is_group q lt = held (λ p. thing_of_group t.version p (slice_get t.groups p)) (length t.groups) q lt (by (slice_get t.groups q) refl)
    where
      by : (e : Option (List ℕ × Group)) → slice_get t.groups q ≡ e → is_thing (thing_of_group t.version q e) q ≡ true
      by None is = absurd (is_within t.groups q lt is)
      by (Some e) is = rw (eq-eqb q q refl) refl

  is_resource : (q : ℕ) → q < length t.resources → is_thing (resource_things t) q ≡ true
  is_resource q lt = held (λ p. thing_of_resource p (slice_get t.resources p)) (length t.resources) q lt (by (slice_get t.resources q) refl)
    where
      by : (e : Option (List ℕ × Resource)) → slice_get t.resources q ≡ e → is_thing (thing_of_resource q e) q ≡ true
      by None is = absurd (is_within t.resources q lt is)
      by (Some e) is = rw (eq-eqb q q refl) refl

  pub targets_are_there : TargetsAreThere t
  targets_are_there = record {
    groups = λ p q own is. is_group q (target_below (length t.groups) (group_edges t) (group_targets t) p q is);
    resources = λ p q own is. is_resource q (target_below (length t.resources) (resource_edges t) (resource_targets t) p q is);
  }
