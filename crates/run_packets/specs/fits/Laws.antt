-- What is proved of each run of the world, as things that happen: each record that a node saves fits its disk, so that no disk fails but by a stop.
use Rattle.std.specs.Prelude.{ℕ, ◌≤◌, ◌<◌, ◌^◌, List, length}
use Rattle.std.specs.List.{AllByRecursion}
use Rattle.cl_base.specs.Limits.{most_devices, most_nodes}
use Rattle.cl_base.specs.declared.header.Header.{Header}
use Rattle.history.specs.Moment.{Moment, lines_of}
use Rattle.history.specs.Order.{Always}
use Rattle.history.specs.Trace.{disk_failed}
use Rattle.run_history.specs.Happenings.{Happening, MayAllHappen, all_happened}
use Rattle.run_history.specs.Scenes.{first_scene}
use Rattle.run_history.specs.Shapes.{IsShaped}
use Rattle.run_history.specs.Telling.{IsInHeader}
use Rattle.run_packets.specs.native.Laws.{BootsInHeader}
use Rattle.schedule_text.specs.declared.line.Line.{Line}
use Rattle.schedule_text.specs.declared.line.Line.TheVariants as line
use Rattle.world_model.specs.First.{first_cluster}

-- no line of a schedule makes a local disk fail but by a stop (`Downs` of `history`)
abbrev pub NoDiskFails : List Moment → Moment → Type 0
NoDiskFails before (disk_failed n) = ⊥
NoDiskFails before _ = Unit {0}

-- The number of saves, which a record tells, has 19 digits at most where no more moments are told than this.
abbrev pub IsShort : List Moment → Type 0
IsShort moments = length moments < 2 ^ 63

-- So it is in each run that is not too long, and in which nodes of the header alone boot.
abbrev pub NoDiskFailsInEachRun : Type 0
NoDiskFailsInEachRun = (h : Header) (cells : ℕ) (hs : List Happening) → h.nodes ≤ most_nodes → length h.devices ≤ most_devices → h.cluster < 2 ^ 32
    → MayAllHappen (first_cluster h) (first_scene h cells) hs → AllByRecursion (BootsInHeader h) hs
    → IsShort (all_happened (first_cluster h) (first_scene h cells) hs).moments
    → Always NoDiskFails (all_happened (first_cluster h) (first_scene h cells) hs).moments

-- a line names a node of the header, where it boots one
abbrev pub IsOfHeader : Header → Line → Type 0
IsOfHeader h (line.Event e) = IsInHeader h e
IsOfHeader h _ = Unit {0}

-- And so it is where all lines do, and what happens is what is due.
abbrev pub NoDiskFailsByLines : Type 0
NoDiskFailsByLines = (h : Header) (cells : ℕ) (hs : List Happening) → h.nodes ≤ most_nodes → length h.devices ≤ most_devices → h.cluster < 2 ^ 32
    → MayAllHappen (first_cluster h) (first_scene h cells) hs → IsShaped (first_cluster h) (first_scene h cells) hs
    → AllByRecursion (IsOfHeader h) (lines_of (all_happened (first_cluster h) (first_scene h cells) hs).moments)
    → IsShort (all_happened (first_cluster h) (first_scene h cells) hs).moments
    → Always NoDiskFails (all_happened (first_cluster h) (first_scene h cells) hs).moments
