-- What a group wants of the groups and resources that it declares affinities to or depends on.
use Rattle.std.specs.Prelude.{ℕ, ◌==◌, Bool, true, false, not, ◌&&◌, ◌||◌, List, [], ◌∷◌, Option, None, Some, bit_and, if◌then◌else◌}
use Rattle.std.specs.List.{find}
use Rattle.std.specs.Option.{option_map}
use Rattle.std.specs.Str.{bytes_eq}
use Rattle.cl_base.specs.Sets.{has}
use Rattle.rg_props.specs.declared.affinity.Affinity.{Affinity}
use Rattle.rg_props.specs.declared.affinity.Affinity.TheVariants.{PlusPlus, Plus, Minus, MinusMinus, PlusPlusPlus}
use Rattle.rg_props.specs.declared.affinity.Affine.{Affine}
use Rattle.rg_props.specs.declared.group.Group.{Group}
use Rattle.rg_props.specs.declared.group.Resource.{Resource}
use Rattle.rg_props.specs.Affinities.{declares_close}
use Rattle.rg_props.specs.Lookups.{named}
use Rattle.rg_props.specs.Table.{GroupTable}
use Rattle.rg_props.specs.Values.{or_else}
use Rattle.rg_view.specs.declared.view.GroupView.{GroupView}
use Rattle.rg_view.specs.Goals.{goal_of}

-- Affinities.

-- whether the affinity forbids a node which the target's goal has, or has not
abbrev pub forbids : Affinity → Bool → Bool
forbids PlusPlus there = not there
forbids PlusPlusPlus there = not there
forbids MinusMinus there = there
forbids Plus there = false
forbids Minus there = false

abbrev pub forbids_node : GroupView → ℕ → Affine → Bool
forbids_node v n a = forbids a.affinity (has (goal_of v.goals a.group) n)

-- the first target whose affinity forbids the node
unfoldable pub forbidding : GroupView → Group → ℕ → Option (List ℕ)
forbidding v g n = option_map (λ a. a.group) (find (forbids_node v n) g.affinities)

-- Dependencies on groups.

-- the first group that this one depends on and whose goal is empty
unfoldable pub without_goal : GroupView → Group → Option (List ℕ)
without_goal v g = find (λ d. goal_of v.goals d == 0) g.dependencies

-- Dependencies on resources.

-- whether some node is in both sets
abbrev pub have_common : ℕ → ℕ → Bool
have_common a b = not (bit_and a b == 0)

-- Whether a goal has a node in scope: the node itself where the dependent's group is always where the target's is, or else any member.
abbrev pub in_scope : GroupView → Bool → ℕ → ℕ → Bool
in_scope v true n goal = has goal n
in_scope v false n goal = have_common goal v.members

-- whether a target is out of reach: it is not there or disabled, or it is another group's, and this group's goal has no node in scope
abbrev pub is_lacking : GroupView → List ℕ → Group → ℕ → Option Resource → Bool
is_lacking v name g n None = true
is_lacking v name g n (Some r) =
    not r.enabled || (not (bytes_eq r.group name) && not (in_scope v (declares_close g.affinities r.group) n (goal_of v.goals r.group)))

abbrev pub lacks : GroupTable → GroupView → List ℕ → Group → ℕ → List ℕ → Bool
lacks t v name g n target = is_lacking v name g n (named t.resources target)

-- the first strong target that a resource of the group lacks
abbrev pub lacked_by : GroupTable → GroupView → List ℕ → Group → ℕ → List ℕ × Resource → Option (List ℕ)
lacked_by t v name g n e =
    if bytes_eq e.1.group name
    then or_else (find (lacks t v name g n) e.1.strong) (find (lacks t v name g n) e.1.offline_restart)
    else None

-- what the first item gives that gives something
abbrev pub first_some : {A B : Type 0} → (A → Option B) → List A → Option B
first_some f [] = None
first_some f (x ∷ xs) = or_else (f x) (first_some f xs)

-- the first of all resources, in order of creation
unfoldable pub lacking : GroupTable → GroupView → List ℕ → Group → ℕ → Option (List ℕ)
lacking t v name g n = first_some (lacked_by t v name g n) t.resources
