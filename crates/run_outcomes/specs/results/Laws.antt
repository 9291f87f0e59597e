-- What is proved of each run of the world, as things that happen: which results of seizings an attempt names, where it ends for want of votes.
use Rattle.std.specs.Prelude.{ℕ, ◌<◌, ◌≤◌, ◌^◌, List, length}
use Rattle.cl_base.specs.Limits.{most_devices}
use Rattle.cl_base.specs.declared.header.Header.{Header}
use Rattle.history.specs.Attempts.{IsShort}
use Rattle.history.specs.Moment.{Moment}
use Rattle.history.specs.Order.{Always}
use Rattle.history.specs.Setting.{Setting}
use Rattle.history.specs.Trace.{ended_votes}
use Rattle.history_setting.specs.Settings.{setting_of}
use Rattle.run_history.specs.Happenings.{Happening, MayAllHappen, all_happened}
use Rattle.run_history.specs.Scenes.{first_scene}
use Rattle.run_history.specs.Shapes.{IsShaped}
use Rattle.run_history.specs.WorldLines.{AreDisks}
use Rattle.world_model.specs.First.{first_cluster}

-- An attempt that ends for want of votes ends as `history` has it: once each other member has promised, with fewer votes than are needed, which are counted by the newest record in hand; and
-- what it names as lacking is shown, of each device: that no member has a path to it, or how its seizing ended; and where no registered member was found, that each attached one may
-- not seize it.
abbrev pub EndsAsShort : Setting → List Moment → Moment → Type 0
EndsAsShort S before (ended_votes e have need lacking) = IsShort S before e have need lacking
EndsAsShort S before _ = Unit {0}

abbrev pub ResultsOfEachRun : Type 0
ResultsOfEachRun = (h : Header) (cells : ℕ) (hs : List Happening) → length h.devices ≤ most_devices → h.cluster < 2 ^ 32 → AreDisks h → MayAllHappen (first_cluster h) (first_scene h cells) hs
    → IsShaped (first_cluster h) (first_scene h cells) hs → Always (EndsAsShort (setting_of h)) (all_happened (first_cluster h) (first_scene h cells) hs).moments
