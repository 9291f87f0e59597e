-- Which nodes may serve the clients of a shared address.
use Rattle.std.specs.Prelude.{ℕ, ◌==◌, nat_le, ◌&&◌, Bool, List, [], ◌∷◌, if◌then◌else◌}
use Rattle.std.specs.List.{find, flat_map}
use Rattle.std.specs.Option.{option_map_or}
use Rattle.ccr_tables.specs.State.{ConfigState}
use Rattle.ccr_tables.specs.declared.address.Address.{Address}
use Rattle.ccr_tables.specs.declared.address.Weight.{Weight}
use Rattle.cl_base.specs.Limits.{most_nodes}
use Rattle.cl_base.specs.Numbers.{numbers_to}
use Rattle.placement.specs.Resources.{is_online}
use Rattle.rg_view.specs.declared.view.GroupView.{GroupView}
use Rattle.shared_address.specs.declared.choice.Target.{Target}

-- the weight that was set for the node, and 1 for a node that was not named
abbrev pub weight_of : List Weight → ℕ → ℕ
weight_of weights n = option_map_or (λ w. w.weight) (find (λ w. w.node == n) weights) 1

-- a weight with which a node is chosen; none that can be set is greater
abbrev pub is_chosen : ℕ → Bool
is_chosen weight = nat_le 1 weight && nat_le weight 1000

-- the address's group is online on the node by what the president knows, and the node's weight is positive
abbrev pub is_target : ConfigState → GroupView → Address → ℕ → Bool
is_target c v a n = is_online c.groups v a.group n && is_chosen (weight_of a.weights n)

abbrev pub target_on : ConfigState → GroupView → Address → ℕ → List Target
target_on c v a n = if is_target c v a n then record { node = n; weight = weight_of a.weights n } ∷ [] else []

-- the targets among the members, ascending
unfoldable pub targets_of : ConfigState → GroupView → Address → List Target
targets_of c v a = flat_map (target_on c v a) (numbers_to v.members most_nodes)
