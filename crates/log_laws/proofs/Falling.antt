-- Ranks of names: each thing is above those that it comes after.
use Rattle.std.proofs.Common.{◌≡◌, ℕ, ◌<◌, true, false, Option, Some, IfSome, List, ap, ◌∙◌, slice_get, option_map, option_and_then}
use Rattle.std.specs.List.{AllByRecursion}
use Rattle.std.specs.Str.{bytes_eq}
use Rattle.rg_props.specs.declared.group.Group.{Group}
use Rattle.rg_props.specs.declared.group.Resource.{Resource}
use Rattle.rg_props.specs.Lookups.{named, place_of}
use Rattle.rg_props.specs.Table.{GroupTable}
use Rattle.rg_deps.specs.Edges.{crossing, if_member, is_strong, member_place, other_group}
use Rattle.log_laws.specs.Laws.{OfNeeded}
use Rattle.log_laws.proofs.Alls.{each_of_both}

-- a group is above those that it depends on, and above those that it declares a strong affinity to
abbrev pub GroupFalls : (List ℕ → ℕ) → List ℕ × Group → Type 0
GroupFalls rank e = AllByRecursion (λ d. rank d < rank e.0) e.1.dependencies × AllByRecursion (λ a. is_strong a.affinity ≡ true → rank a.group < rank e.0) e.1.affinities

-- the group of the resource of this name
abbrev pub group_of : List (List ℕ × Resource) → List ℕ → Option (List ℕ)
group_of resources name = option_map (λ r. r.group) (named resources name)

-- a resource is above one of its group, and its group above another
abbrev pub IsAbove : (List ℕ → ℕ) → (List ℕ → ℕ) → List ℕ × Resource → List ℕ → List ℕ → Type 0
IsAbove group_rank rank e name group = (bytes_eq group e.1.group ≡ false → group_rank group < group_rank e.1.group) × (bytes_eq group e.1.group ≡ true → rank name < rank e.0)

-- so it is with each that it depends on
abbrev pub ResourceFalls : (List ℕ → ℕ) → (List ℕ → ℕ) → List (List ℕ × Resource) → List ℕ × Resource → Type 0
ResourceFalls group_rank rank resources e = OfNeeded (λ d. IfSome (group_of resources d) (IsAbove group_rank rank e d)) e.1

pub record NamesFall (t : GroupTable) : Type 0 where
  pub group_rank : List ℕ → ℕ
  pub rank : List ℕ → ℕ
  pub groups : AllByRecursion (GroupFalls group_rank) t.groups
  pub resources : AllByRecursion (ResourceFalls group_rank rank t.resources) t.resources

-- what is so of each that a resource depends on
pub needed_of_both : (P Q R : List ℕ → Type 0) → ((d : List ℕ) → P d → Q d → R d) → (r : Resource) → OfNeeded P r → OfNeeded Q r → OfNeeded R r
needed_of_both P Q R f r h k = (each_of_both P Q R f r.strong h.0 k.0, each_of_both P Q R f r.weak h.1 k.1, each_of_both P Q R f r.offline_restart h.2 k.2)

-- where a name's resource is known, so is what an edge to it leads to
module _ (t : GroupTable) (group d : List ℕ) (q : ℕ) (r : Resource) (place : place_of t.resources d ≡ Some q) (stands : slice_get t.resources q ≡ Some (d, r)) where
  pub crossing_is : crossing t group d ≡ option_and_then (place_of t.groups) (other_group group (d, r))
  crossing_is = ap (λ (o : Option (List ℕ × Resource)). option_and_then (place_of t.groups) (option_and_then (other_group group) o)) (ap (λ (o : Option ℕ). option_and_then (slice_get t.resources) o) place ∙ stands)

  pub member_is : member_place t group d ≡ if_member t group q (Some (d, r))
  member_is = ap (λ (o : Option ℕ). option_and_then (λ p. if_member t group p (slice_get t.resources p)) o) place ∙ ap (λ (o : Option (List ℕ × Resource)). if_member t group q o) stands
