-- Goals: the nodes that a membership wants its groups on, after the decisions of its president so far. `decided_goals` of `placement` is one
-- decision: it keeps each eligible node and adds the best ones.
use Rattle.std.specs.Prelude.{ℕ, List}
use Rattle.rg_view.specs.Goals.{goal_of}
use Rattle.history.specs.Moment.{Moment}
use Rattle.group_history.specs.Setting.{Groups}
use Rattle.group_history.specs.KnownMap.{known_of}

-- the goal of the group in e, as a set of nodes
abbrev pub goal_in : Groups → ℕ → List ℕ → List Moment → ℕ
goal_in S e group moments = goal_of (known_of S e moments).goals group
