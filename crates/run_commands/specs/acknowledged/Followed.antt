-- What follows a command whose words are none: its answer, an error.
use Rattle.std.specs.Prelude.{◌≡◌, ◌⊎◌, true, List, ◌∷◌, is_some}
use Rattle.status_report.specs.declared.command_entry.Answer.TheVariants as answer
use Rattle.history.specs.Moment.{Moment}
use Rattle.history.specs.Order.{Always}
use Rattle.history.specs.Requests.{command_before}
use Rattle.history.specs.Setting.{Setting}
use Rattle.history.specs.Trace.{answered, asked}

-- the command that was just asked has canonical words
abbrev pub IsWorded : Setting → List Moment → Type 0
IsWorded S (asked n q ∷ before) = is_some (command_before S before) ≡ true
IsWorded S _ = Unit {0}

-- it is the answer to that command, and not `ok`
abbrev pub IsError : List Moment → Moment → Type 0
IsError (asked n q ∷ before) (answered m r reply) = (m ≡ n) × (r ≡ q) × (reply ≡ answer.Ok → ⊥)
IsError _ _ = ⊥

-- behind a command that has none stands its answer
abbrev pub IsFollowed : Setting → List Moment → Moment → Type 0
IsFollowed S before x = IsWorded S before ⊎ IsError before x

abbrev pub AreFollowed : Setting → List Moment → Type 0
AreFollowed S moments = Always (IsFollowed S) moments

-- .. and none is left without it
pub record FollowedSo (S : Setting) (moments : List Moment) : Type 0 where
  pub worded : IsWorded S moments
  pub followed : AreFollowed S moments
