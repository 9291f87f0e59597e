-- What carries the proofs, of a command at a device: what the lines tell of the queue of the node where it goes down in a save.
use Rattle.std.specs.Prelude.{ℕ, ◌≡◌, false, List, [], ◌∷◌}
use Rattle.std.specs.List.{list_any}
use Rattle.history.specs.Moment.{Moment}
use Rattle.history.specs.Order.{Always, so_far}
use Rattle.history.specs.Queue.{has_work, queue_is_open, tasks_of}
use Rattle.history.specs.Saves.{has_joined, is_command_of}
use Rattle.history.specs.Setting.{Setting}
use Rattle.node_model.specs.declared.cluster.Cluster.{Cluster}
use Rattle.refinement.specs.Doings.Change.{Counts, Starts}
use Rattle.refinement.specs.Doings.Doing.{Forgets, Loses}
use Rattle.refinement.specs.Doings.{Change, Doing, Site, effect, gives}
use Rattle.run_history.specs.Scenes.{Scene, passing}
use Rattle.run_outcomes.specs.stops.AtDevices.{DiskStops}
use Rattle.std.specs.Prelude.{true}

abbrev pub AllDisk : Setting → List Moment → Type 0
AllDisk S moments = Always (DiskStops S) moments

-- node n has done a command in the event under way
abbrev pub HasCommand : ℕ → List Moment → Type 0
HasCommand n ms = list_any (is_command_of n) (so_far ms) ≡ true

-- where the lines tell its queue, it has no work
abbrev pub IsIdle : Setting → ℕ → List Moment → Type 0
IsIdle S n ms = queue_is_open S n ms ≡ false → has_work S n ms ≡ false

-- .. and a joining of its is over, with the device joined
abbrev pub HasJoined : Setting → ℕ → List Moment → Type 0
HasJoined S n ms = queue_is_open S n ms ≡ false → list_any has_joined (tasks_of S n ms) ≡ true

-- where the change that is lost is an install or a start of its own attempt
abbrev pub LostIdle : Setting → ℕ → Change → List Moment → Type 0
LostIdle S n (Counts a k s i) ms = IsIdle S n ms
LostIdle S n (Starts a k s) ms = IsIdle S n ms
LostIdle S n _ ms = Unit {0}

abbrev pub IdleAt : Setting → ℕ → Doing → List Moment → Type 0
IdleAt S n (Loses change why) ms = LostIdle S n change ms
IdleAt S n (Forgets change why) ms = LostIdle S n change ms
IdleAt S n _ ms = Unit {0}

-- of each small step, of the lines up to there
abbrev pub AllIdle : Setting → Cluster → ℕ → Site → List Doing → Scene → Type 0
AllIdle S c n x [] s = Unit {0}
AllIdle S c n x (d ∷ ds) s = IdleAt S n d s.moments × AllIdle S c n (effect c n x d) ds (passing n (gives c n x d) s)
