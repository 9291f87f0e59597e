-- What is proved of each run of the world, as things that happen: that commands are taken, and clients' requests answered.
use Rattle.std.specs.Prelude.{ℕ, ◌<◌, ◌≤◌, ◌^◌, List, length}
use Rattle.cl_base.specs.Limits.{most_devices}
use Rattle.cl_base.specs.declared.header.Header.{Header}
use Rattle.schedule_text.specs.declared.event.Event.TheVariants as event
use Rattle.schedule_text.specs.declared.line.Line.TheVariants as line
use Rattle.history.specs.Commands.{CommandsAreTaken}
use Rattle.history.specs.Lines.{HasAnswer}
use Rattle.history.specs.Moment.{Moment, Said, lines_of}
use Rattle.history.specs.Order.{EachEvent}
use Rattle.history.specs.Setting.{Setting}
use Rattle.history_setting.specs.Settings.{setting_of}
use Rattle.world_model.specs.First.{first_cluster}
use Rattle.run_history.specs.Happenings.{Happening, MayAllHappen, all_happened}
use Rattle.run_history.specs.Scenes.{first_scene}
use Rattle.run_history.specs.Shapes.{IsShaped}

-- P holds of the setting of a header and of what was said and told in each run of whole lines from its first scene on
abbrev pub OfEachWholeRun : (Setting → List Moment → Type 0) → Type 0
OfEachWholeRun P = (h : Header) (cells : ℕ) (hs : List Happening) → length h.devices ≤ most_devices → h.cluster < 2 ^ 32
    → MayAllHappen (first_cluster h) (first_scene h cells) hs → IsShaped (first_cluster h) (first_scene h cells) hs
    → P (setting_of h) (all_happened (first_cluster h) (first_scene h cells) hs).moments

-- While fewer than 2^63 lines are said, which number the commands: each command is numbered, and answered by its node or taken, as `history` has it.
abbrev pub CommandsAreTakenInEachRun : Type 0
CommandsAreTakenInEachRun = OfEachWholeRun (λ S moments. length (lines_of moments) < 2 ^ 63 → CommandsAreTaken S moments)

-- a client's request has its entries, or is skipped for its cause, as `history` has it
abbrev pub ClientIsAnswered : Setting → List Moment → Moment → List Moment → Type 0
ClientIsAnswered S before (Said (line.Event (event.Client n address client port))) entries =
    HasAnswer S before (Said (line.Event (event.Client n address client port))) entries
ClientIsAnswered S before _ entries = Unit {0}

abbrev pub ClientsAreAnsweredInEachRun : Type 0
ClientsAreAnsweredInEachRun = OfEachWholeRun (λ S moments. EachEvent (ClientIsAnswered S) moments)
