-- On which members a group is up, as it is found in one pass over the resources.
use Rattle.std.specs.Prelude.{ℕ, ◌==◌, ◌&&◌, Bool, List}
use Rattle.std.specs.List.{list_any}
use Rattle.std.specs.Str.{bytes_eq}
use Rattle.rg_props.specs.declared.group.Resource.{Resource}
use Rattle.rg_view.specs.declared.view.GroupView.{GroupView}
use Rattle.sequencer.specs.Standing.{is_up}

-- n is m, and the resource is up there
abbrev pub is_up_at : GroupView → List ℕ → ℕ → ℕ → Bool
is_up_at v name m n = (m == n) && is_up v name n

-- m is among the members, and the resource is up there
abbrev pub is_up_among : GroupView → List ℕ → List ℕ → ℕ → Bool
is_up_among v members name m = list_any (is_up_at v name m) members

-- .. and the resource is of the group
abbrev pub is_up_by : GroupView → List ℕ → List ℕ → ℕ → List ℕ × Resource → Bool
is_up_by v members group m e = bytes_eq e.1.group group && is_up_among v members e.0 m
