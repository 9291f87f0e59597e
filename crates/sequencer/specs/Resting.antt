-- On what it rests whether a resource must go down, besides its own group: on its strong and offline-restart targets, and on the resources of the groups that
-- its group follows.
use Rattle.std.specs.Prelude.{ℕ, Bool, true, false, not, ◌&&◌, ◌||◌, List, [], ◌∷◌, Option, None, Some}
use Rattle.std.specs.List.{list_any}
use Rattle.std.specs.Str.{bytes_eq}
use Rattle.rg_props.specs.declared.affinity.Affine.{Affine}
use Rattle.rg_props.specs.declared.group.Group.{Group}
use Rattle.rg_props.specs.declared.group.Resource.{Resource}
use Rattle.rg_props.specs.Affinities.{is_close}
use Rattle.rg_props.specs.Lookups.{named}
use Rattle.rg_props.specs.Settings.{has_name}
use Rattle.rg_props.specs.Table.{GroupTable}

-- a target is one of these resources
abbrev pub targets_one : List (List ℕ) → List (List ℕ) → Bool
targets_one names targets = list_any (λ target. has_name target names) targets

-- a resource of the group is one of them
abbrev pub is_one_in : List (List ℕ) → List ℕ → List ℕ × Resource → Bool
is_one_in names group e = bytes_eq e.1.group group && has_name e.0 names

unfoldable pub has_one : GroupTable → List (List ℕ) → List ℕ → Bool
has_one t names group = list_any (is_one_in names group) t.resources

-- a group that this one follows has one of them
abbrev pub leads_there : GroupTable → List (List ℕ) → Affine → Bool
leads_there t names a = is_close a.affinity && has_one t names a.group

abbrev pub follows_one : GroupTable → List (List ℕ) → Option Group → Bool
follows_one t names None = false
follows_one t names (Some g) = list_any (leads_there t names) g.affinities

-- The resource rests on one of these.
unfoldable pub rests_on : GroupTable → List (List ℕ) → Resource → Bool
rests_on t names r = targets_one names r.strong || targets_one names r.offline_restart || follows_one t names (named t.groups r.group)

abbrev pub is_resting : GroupTable → List (List ℕ) → Option Resource → Bool
is_resting t names None = false
is_resting t names (Some r) = rests_on t names r

-- Each of these resources comes once, and after what it rests on.
abbrev pub is_in_order : GroupTable → List (List ℕ) → Bool
is_in_order t [] = true
is_in_order t (name ∷ rest) = not (has_name name rest) && not (is_resting t (name ∷ rest) (named t.resources name)) && is_in_order t rest
