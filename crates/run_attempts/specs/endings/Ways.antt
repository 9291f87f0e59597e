-- Which attempt of a node is under way, as a function of the lines.
use Rattle.std.specs.Prelude.{ℕ, ◌≡◌, ◌==◌, List, [], ◌∷◌, Option, None, Some, if◌then◌else◌}
use Rattle.history.specs.Moment.{Moment}
use Rattle.history.specs.Seizing.{is_number}
use Rattle.history.specs.Setting.{coordinator}
use Rattle.history.specs.Trace.{attempt, down, ended_excluded, ended_foreign, ended_silent, ended_superseded, ended_votes, start}

-- e is over
abbrev pub without : ℕ → Option ℕ → Option ℕ
without e o = if is_number e o then None else o

abbrev pub way_of : ℕ → List Moment → Option ℕ
way_of n [] = None
way_of n (attempt e members ∷ before) = if coordinator e == n then Some e else way_of n before
way_of n (ended_votes e have need lacking ∷ before) = without e (way_of n before)
way_of n (ended_superseded e q ∷ before) = without e (way_of n before)
way_of n (ended_silent e m ∷ before) = without e (way_of n before)
way_of n (ended_excluded e m ∷ before) = without e (way_of n before)
way_of n (ended_foreign e m ∷ before) = without e (way_of n before)
way_of n (start e members held count ∷ before) = without e (way_of n before)
way_of n (down m why ∷ before) = if m == n then None else way_of n before
way_of n (_ ∷ before) = way_of n before

-- it is an attempt of n
abbrev pub IsOwn : ℕ → Option ℕ → Type 0
IsOwn n None = Unit {0}
IsOwn n (Some e) = coordinator e ≡ n
