-- An attempt is under way until it ends.
use Rattle.std.specs.Prelude.{ℕ, ◌==◌, ◌&&◌, not, Bool, false, List}
use Rattle.std.specs.List.{list_any}
use Rattle.history.specs.Moment.{Moment}
use Rattle.history.specs.Trace.{down, start, ended_votes, ended_superseded, ended_silent, ended_excluded, ended_foreign}
use Rattle.history.specs.Order.{since}
use Rattle.history.specs.Setting.{coordinator}
use Rattle.history.specs.Member.{attempt_of}
use Rattle.history.specs.Seizing.{is_attempt, is_number}

-- with this the attempt e is over: it ended or started, or its coordinator went down
abbrev pub is_over : ℕ → Moment → Bool
is_over e (ended_votes f have need lacking) = f == e
is_over e (ended_superseded f q) = f == e
is_over e (ended_silent f m) = f == e
is_over e (ended_excluded f m) = f == e
is_over e (ended_foreign f m) = f == e
is_over e (start f members held count) = f == e
is_over e (down n why) = n == coordinator e
is_over e _ = false

-- e is the last attempt of its coordinator, and it is not over
abbrev pub is_under_way : ℕ → List Moment → Bool
is_under_way e before = is_number e (attempt_of (coordinator e) before) && not (list_any (is_over e) (since (is_attempt e) before))
