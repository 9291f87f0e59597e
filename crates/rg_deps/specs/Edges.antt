-- Which groups and resources come after which.
use Rattle.std.specs.Prelude.{ℕ, Bool, true, false, List, [], ◌++◌, length, Option, None, Some, slice_get, if◌then◌else◌}
use Rattle.std.specs.List.{filter_map}
use Rattle.std.specs.Option.{option_map, option_and_then}
use Rattle.std.specs.Str.{bytes_eq}
use Rattle.rg_props.specs.declared.affinity.Affinity.{Affinity}
use Rattle.rg_props.specs.declared.affinity.Affinity.TheVariants.{PlusPlus, Plus, Minus, MinusMinus, PlusPlusPlus}
use Rattle.rg_props.specs.declared.affinity.Affine.{Affine}
use Rattle.rg_props.specs.declared.group.Group.{Group}
use Rattle.rg_props.specs.declared.group.Resource.{Resource}
use Rattle.rg_props.specs.Lookups.{place_of}
use Rattle.rg_props.specs.Table.{GroupTable}
use Rattle.rg_deps.specs.declared.graph.Edge.{Edge}
use Rattle.rg_deps.specs.Things.{collected}

-- the affinities that order groups
abbrev pub is_strong : Affinity → Bool
is_strong PlusPlus = true
is_strong Plus = false
is_strong Minus = false
is_strong MinusMinus = true
is_strong PlusPlusPlus = true

-- to the place of a target, where it is there
abbrev pub edge : ℕ → Option ℕ → Option Edge
edge p to = option_map (λ q. record { from = p; to = q }) to

abbrev pub edge_to_group : GroupTable → ℕ → List ℕ → Option Edge
edge_to_group t p name = edge p (place_of t.groups name)

-- the place of the group that a strong affinity is declared to
abbrev pub strong_target : GroupTable → Affine → Option ℕ
strong_target t a = if is_strong a.affinity then place_of t.groups a.group else None

abbrev pub edge_of_affinity : GroupTable → ℕ → Affine → Option Edge
edge_of_affinity t p a = edge p (strong_target t a)

-- a group comes after those that it depends on, and those that it declares a strong affinity to
abbrev pub edges_of_group : GroupTable → ℕ → Option (List ℕ × Group) → List Edge
edges_of_group t p None = []
edges_of_group t p (Some e) = filter_map (edge_to_group t p) e.1.dependencies ++ filter_map (edge_of_affinity t p) e.1.affinities

-- the group of the resource at a place, where it is another than this
abbrev pub other_group : List ℕ → List ℕ × Resource → Option (List ℕ)
other_group group e = if bytes_eq e.1.group group then None else Some e.1.group

-- the place of the other group that a resource of this group depends on
abbrev pub crossing : GroupTable → List ℕ → List ℕ → Option ℕ
crossing t group name =
    option_and_then (place_of t.groups) (option_and_then (other_group group) (option_and_then (slice_get t.resources) (place_of t.resources name)))

abbrev pub crossings : GroupTable → List ℕ → ℕ → List (List ℕ) → List Edge
crossings t group p names = filter_map (λ name. edge p (crossing t group name)) names

-- a resource's group comes after the groups of the resources that the resource depends on
abbrev pub crossing_edges : GroupTable → Resource → Option ℕ → List Edge
crossing_edges t r None = []
crossing_edges t r (Some p) = crossings t r.group p r.strong ++ crossings t r.group p r.weak ++ crossings t r.group p r.offline_restart

abbrev pub crossing_edges_at : GroupTable → Option (List ℕ × Resource) → List Edge
crossing_edges_at t None = []
crossing_edges_at t (Some e) = crossing_edges t e.1 (place_of t.groups e.1.group)

-- which groups come after which
abbrev pub group_edges : GroupTable → List Edge
group_edges t =
    collected (λ p. edges_of_group t p (slice_get t.groups p)) (length t.groups) ++ collected (λ p. crossing_edges_at t (slice_get t.resources p)) (length t.resources)

-- this place, where the resource at it is of this group
abbrev pub if_member : GroupTable → List ℕ → ℕ → Option (List ℕ × Resource) → Option ℕ
if_member t group p None = None
if_member t group p (Some e) = if bytes_eq e.1.group group then Some p else None

-- the place of a resource of this group
abbrev pub member_place : GroupTable → List ℕ → List ℕ → Option ℕ
member_place t group name = option_and_then (λ p. if_member t group p (slice_get t.resources p)) (place_of t.resources name)

abbrev pub inner_edges_to : GroupTable → List ℕ → ℕ → List (List ℕ) → List Edge
inner_edges_to t group p names = filter_map (λ name. edge p (member_place t group name)) names

-- a resource comes after those of its group that it depends on
abbrev pub inner_edges : GroupTable → ℕ → Resource → List Edge
inner_edges t p r = inner_edges_to t r.group p r.strong ++ inner_edges_to t r.group p r.weak ++ inner_edges_to t r.group p r.offline_restart

abbrev pub inner_edges_at : GroupTable → ℕ → Option (List ℕ × Resource) → List Edge
inner_edges_at t p None = []
inner_edges_at t p (Some e) = inner_edges t p e.1

-- which resources come after which, in all groups
abbrev pub resource_edges : GroupTable → List Edge
resource_edges t = collected (λ p. inner_edges_at t p (slice_get t.resources p)) (length t.resources)

abbrev pub member_edges_at : GroupTable → List ℕ → ℕ → Option (List ℕ × Resource) → List Edge
member_edges_at t group p None = []
member_edges_at t group p (Some e) = if bytes_eq e.1.group group then inner_edges t p e.1 else []

-- which of one group
abbrev pub member_edges : GroupTable → List ℕ → List Edge
member_edges t group = collected (λ p. member_edges_at t group p (slice_get t.resources p)) (length t.resources)
