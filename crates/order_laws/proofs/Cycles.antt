-- A cycle that is told leads back to its first place, which is a place of the table and so has a name.
use Rattle.std.proofs.Common.{◌≡◌, ◌≢◌, ℕ, ◌<◌, Bool, true, Option, None, Some, List, [], ◌∷◌, length, refl, sym, ap, ◌∙◌, arith}
use Rattle.std.specs.List.{cons_option, filter_map, slice_get}
use Rattle.std.specs.Option.{option_map}
use Rattle.rg_props.specs.Table.{GroupTable}
use Rattle.rg_deps.specs.declared.graph.Edge.{Edge}
use Rattle.rg_deps.specs.declared.graph.Thing.{Thing}
use Rattle.rg_deps.specs.Cycles.{arrangement, arranged, cycle}
use Rattle.rg_deps.specs.Edges.{group_edges, resource_edges}
use Rattle.rg_deps.specs.Laws.{has_target, CycleIsClosed, CycleIsThere, HasThingsAsTargets, IsClosed, Lead}
use Rattle.rg_deps.specs.Order.{first_left, ordered, stands}
use Rattle.rg_deps.specs.Orderings.{cycle_in, first_cycle, or_else, resource_cycle}
use Rattle.rg_deps.specs.Things.{group_things, names_at, resource_things}
use Rattle.order_laws.proofs.Targets.{EndBelow, group_targets, is_within, resource_targets, target_below, targets_are_there}

-- what a path leads to is the target of a place
record Leads (edges : List Edge) (q : ℕ) : Type 0 where
  from : ℕ
  is : has_target edges from q ≡ true

last_leads : (edges : List Edge) (p : ℕ) (ps : List ℕ) (q : ℕ) → Lead edges (p ∷ ps) q → Leads edges q
last_leads edges p [] q h = record { from = p; is = h }
last_leads edges p (r ∷ ps) q h = last_leads edges r ps q h.1

module _ {X : Type 0} (things : List (List ℕ × X)) (edges : List Edge) (below : EndBelow (length things) edges) where
  some_name : (places : List ℕ) → IsClosed edges places → places ≢ [] → names_at things places ≢ []
  some_name [] closed there none = there refl
  some_name (p ∷ ps) closed there none =
      let l = last_leads edges p ps p closed in
      let lt : p < length things = target_below (length things) edges below l.from p l.is in
      by (slice_get things p) refl lt none
    where
      by : (e : Option (List ℕ × X)) → slice_get things p ≡ e → p < length things → cons_option (option_map (λ (x : List ℕ × X). x.0) e) (names_at things ps) ≢ []
      by None is lt empty = is_within things p lt is
      by (Some e) is lt empty = cc empty

  module _ (own : List Thing) (among : HasThingsAsTargets own edges) (are_there : CycleIsThere) (are_closed : CycleIsClosed) where
    named : (names : List (List ℕ)) → cycle_in things (arrangement own edges) ≡ Some names → names ≢ []
    named names is = by (first_left own (stands (ordered own edges))) refl is
      where
        standing : ℕ → Bool
        standing = stands (ordered own edges)

        by : (o : Option ℕ) → first_left own standing ≡ o → cycle_in things (arranged own edges (ordered own edges) o) ≡ Some names → names ≢ []
        by None left is none = cc is
        by (Some p) left is none =
            some_name (cycle own edges standing) (are_closed own edges standing) (are_there own edges among p left) (some_is is ∙ none)
          where
            some_is : Some (names_at things (cycle own edges standing)) ≡ Some names → names_at things (cycle own edges standing) ≡ names
            some_is e = grind (arith, e)

pub told_have_names : CycleIsThere → CycleIsClosed → (t : GroupTable) (names : List (List ℕ)) → first_cycle t ≡ Some names → names ≢ []
told_have_names are_there are_closed t names is = by (cycle_in t.groups (arrangement (group_things t) (group_edges t))) refl is
  where
    by : (o : Option (List (List ℕ))) → cycle_in t.groups (arrangement (group_things t) (group_edges t)) ≡ o → or_else o (resource_cycle t) ≡ Some names → names ≢ []
    by None none is = named t.resources (resource_edges t) (resource_targets t) (resource_things t) (targets_are_there t).resources are_there are_closed names is
    by (Some told) some is = named t.groups (group_edges t) (group_targets t) (group_things t) (targets_are_there t).groups are_there are_closed names (some ∙ is)
