-- What a start accounts for, by what stood before it.
use Rattle.std.specs.Prelude.{ℕ, ◌≡◌, ◌==◌, ◌||◌, Bool, true, List, length}
use Rattle.std.specs.List.{list_all}
use Rattle.cl_base.specs.Sets.{has}
use Rattle.history.specs.Attempts.{attached_members, is_not_held}
use Rattle.history.specs.Moment.{Moment}
use Rattle.history.specs.Setting.{Setting, all_to}
use Rattle.history.specs.Starts.{Start}

-- as `is_accounted` of `history` has it
abbrev pub is_accounted_by : Setting → Start → List (List ℕ) → List Moment → ℕ → Bool
is_accounted_by S s updates before d = has s.held d || (length (attached_members S.header d s.members) == 0) || is_not_held S s.epoch d updates before

abbrev pub AreAccounted : Setting → Start → List (List ℕ) → List Moment → Type 0
AreAccounted S s updates before = list_all (is_accounted_by S s updates before) (all_to (length S.header.devices)) ≡ true
