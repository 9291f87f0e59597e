-- What is proved of each run of the world, as things that happen: for which devices a start accounts.
use Rattle.std.specs.Prelude.{ℕ, ◌<◌, ◌≤◌, ◌^◌, List, length}
use Rattle.cl_base.specs.Limits.{most_devices}
use Rattle.cl_base.specs.declared.header.Header.{Header}
use Rattle.history.specs.Attempts.{AllAccounted}
use Rattle.history_setting.specs.Settings.{setting_of}
use Rattle.run_history.specs.Happenings.{Happening, MayAllHappen, all_happened}
use Rattle.run_history.specs.Scenes.{first_scene}
use Rattle.run_history.specs.Shapes.{IsShaped}
use Rattle.run_history.specs.WorldLines.{AreDisks}
use Rattle.world_model.specs.First.{first_cluster}

-- Each start accounts for each device of the header, as `history` has it: the device is held, or no member is attached to it, or it is shown why it is not held.
abbrev pub AllAccountedInEachRun : Type 0
AllAccountedInEachRun = (h : Header) (cells : ℕ) (hs : List Happening) → length h.devices ≤ most_devices → h.cluster < 2 ^ 32 → AreDisks h → MayAllHappen (first_cluster h) (first_scene h cells) hs
    → IsShaped (first_cluster h) (first_scene h cells) hs → AllAccounted (setting_of h) (all_happened (first_cluster h) (first_scene h cells) hs).moments
