-- An open queue, as it lasts until the tasks are dropped, through the membership that starts, too.
use Rattle.std.specs.Prelude.{ℕ, ◌==◌, ◌&&◌, ◌||◌, not, Bool, false, List, [], ◌∷◌}
use Rattle.history.specs.Member.{attempt_of, in_collect}
use Rattle.history.specs.Moment.{Moment}
use Rattle.history.specs.Queue.{is_untold}
use Rattle.history.specs.Setting.{Setting, coordinator}
use Rattle.history.specs.Trace.{up, down, saved, installed, attempt, ended_votes, ended_excluded, ended_foreign}

-- with this moment the tasks of n are dropped, or are others
abbrev pub drops : ℕ → List Moment → Moment → Bool
drops n before (up m) = m == n
drops n before (down m why) = m == n
drops n before (saved m) = (m == n) && in_collect n before
drops n before (attempt e members) = coordinator e == n
drops n before (ended_votes e have need lacking) = coordinator e == n
drops n before (ended_excluded e m) = coordinator e == n
drops n before (ended_foreign e m) = coordinator e == n
drops n before (installed m e) = m == n
drops n before _ = false

-- from what is untold on, until they are dropped
abbrev pub lasts_open : Setting → ℕ → List Moment → Bool
lasts_open S n [] = false
lasts_open S n (x ∷ before) = is_untold S n (attempt_of n (x ∷ before)) (x ∷ before) || (lasts_open S n before && not (drops n before x))
