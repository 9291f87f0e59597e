-- How the places that must go down are brought up to date: resource by resource, where a resource rests on one of which something changed.
use Rattle.std.specs.Prelude.{ℕ, Bool, true, false, List, [], ◌∷◌, ◌++◌, Option, None, Some, fold, if◌then◌else◌}
use Rattle.rg_props.specs.declared.group.Resource.{Resource}
use Rattle.rg_props.specs.Lookups.{named}
use Rattle.rg_props.specs.Table.{GroupTable}
use Rattle.rg_view.specs.declared.name_at.NameAt.{NameAt}
use Rattle.rg_view.specs.declared.view.GroupView.{GroupView}
use Rattle.rg_view.specs.Marks.{is_marked, marks_with, marks_without}
use Rattle.sequencer.specs.declared.direction.Direction.{Direction}
use Rattle.sequencer.specs.Leaving.{must_go}
use Rattle.sequencer.specs.Resting.{rests_on}

-- the places so far, and whether one of this resource changed
pub record Turning : Type 0 where
  pub going : List NameAt
  pub turned : Bool

-- a place that was marked or not, and is to be
abbrev pub put : Turning → List ℕ → ℕ → Bool → Bool → Turning
put s name n true true = s
put s name n false false = s
put s name n false true = record { going = marks_with s.going name n; turned = true }
put s name n true false = record { going = marks_without s.going name n; turned = true }

abbrev pub with_place_anew : Direction → GroupTable → GroupView → List ℕ → List ℕ → Resource → Turning → ℕ → Turning
with_place_anew d t v members name r s n = put s name n (is_marked s.going name n) (must_go d t v members s.going name r n)

abbrev pub turning : Direction → GroupTable → GroupView → List ℕ → List ℕ → Resource → List NameAt → Turning
turning d t v members name r going = fold (with_place_anew d t v members name r) (record { going = going; turned = false }) members

-- the places so far, and the resources of which something changed
pub record Course : Type 0 where
  pub going : List NameAt
  pub changed : List (List ℕ)

abbrev pub with_turned : List (List ℕ) → List ℕ → Turning → Course
with_turned changed name s = record { going = s.going; changed = if s.turned then changed ++ name ∷ [] else changed }

abbrev pub with_resource_anew : Direction → GroupTable → GroupView → List ℕ → Course → List ℕ → Resource → Course
with_resource_anew d t v members s name r = if rests_on t s.changed r then with_turned s.changed name (turning d t v members name r s.going) else s

abbrev pub anew_of : Direction → GroupTable → GroupView → List ℕ → Course → List ℕ → Option Resource → Course
anew_of d t v members s name None = s
anew_of d t v members s name (Some r) = with_resource_anew d t v members s name r

abbrev pub with_anew : Direction → GroupTable → GroupView → List ℕ → Course → List ℕ → Course
with_anew d t v members s name = anew_of d t v members s name (named t.resources name)

-- the places that must go down, after something changed of the resource of this name
abbrev pub renewed : Direction → GroupTable → GroupView → List ℕ → List (List ℕ) → List ℕ → List NameAt → List NameAt
renewed d t v members order name going = (fold (with_anew d t v members) (record { going = going; changed = name ∷ [] }) order).going
