-- Groups and resources as things that are to be ordered.
use Rattle.std.specs.Prelude.{ℕ, zero, suc, List, [], ◌∷◌, ◌++◌, length, Option, None, Some, slice_get, if◌then◌else◌}
use Rattle.std.specs.List.{filter_map}
use Rattle.std.specs.Option.{option_map}
use Rattle.std.specs.Str.{bytes_eq}
use Rattle.cl_base.specs.declared.header.Version.{Version}
use Rattle.cl_base.specs.declared.header.Version.TheVariants.{One, Two}
use Rattle.rg_props.specs.declared.group.Group.{Group}
use Rattle.rg_props.specs.declared.group.Resource.{Resource}
use Rattle.rg_props.specs.Table.{GroupTable}
use Rattle.rg_deps.specs.declared.graph.Thing.{Thing}

-- what f gives of the places 0 to n - 1
abbrev pub collected : {X : Type 0} → (ℕ → List X) → ℕ → List X
collected f zero = []
collected f (suc n) = collected f n ++ f n

-- priorities count from the second version on
abbrev pub rank : Version → Group → ℕ
rank One group = 0
rank Two group = group.priority

abbrev pub thing_of_group : Version → ℕ → Option (List ℕ × Group) → List Thing
thing_of_group version p None = []
thing_of_group version p (Some e) = record { place = p; priority = rank version e.1 } ∷ []

abbrev pub group_things : GroupTable → List Thing
group_things t = collected (λ p. thing_of_group t.version p (slice_get t.groups p)) (length t.groups)

abbrev pub thing_of_resource : ℕ → Option (List ℕ × Resource) → List Thing
thing_of_resource p None = []
thing_of_resource p (Some e) = record { place = p; priority = 0 } ∷ []

-- the resources of all groups
abbrev pub resource_things : GroupTable → List Thing
resource_things t = collected (λ p. thing_of_resource p (slice_get t.resources p)) (length t.resources)

abbrev pub thing_of_member : List ℕ → ℕ → Option (List ℕ × Resource) → List Thing
thing_of_member group p None = []
thing_of_member group p (Some e) = if bytes_eq e.1.group group then record { place = p; priority = 0 } ∷ [] else []

-- the resources of one group
abbrev pub member_things : GroupTable → List ℕ → List Thing
member_things t group = collected (λ p. thing_of_member group p (slice_get t.resources p)) (length t.resources)

-- the names at places, of groups or of resources
abbrev pub names_at : {X : Type 0} → List (List ℕ × X) → List ℕ → List (List ℕ)
names_at things places = filter_map (λ p. option_map (λ e. e.0) (slice_get things p)) places
