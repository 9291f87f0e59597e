-- What is proved of each run of the world, as things that happen: each line, and each part of a round, is answered as `history` has it.
use Rattle.std.specs.Prelude.{ℕ, ◌≡◌, ◌<◌, ◌≤◌, ◌^◌, List, length}
use Rattle.std.specs.List.{AllByRecursion}
use Rattle.cl_base.specs.Limits.{most_devices, most_nodes}
use Rattle.cl_base.specs.declared.header.Header.{Header}
use Rattle.history.specs.Lines.{LinesAnswered}
use Rattle.history.specs.Moment.{lines_of}
use Rattle.history_setting.specs.Settings.{setting_of}
use Rattle.run_history.specs.Happenings.{Happening, MayAllHappen, all_happened}
use Rattle.run_history.specs.Scenes.{first_scene}
use Rattle.run_history.specs.Shapes.{IsShaped}
use Rattle.run_history.specs.Telling.{IsInHeader}
use Rattle.run_history.specs.WorldLines.{AreDisks}
use Rattle.run_packets.specs.fits.Laws.{IsShort}
use Rattle.run_packets.specs.views.Laws.{NoneForeign}
use Rattle.schedule_text.specs.declared.event.Event.TheVariants as event
use Rattle.schedule_text.specs.declared.line.Line.{Line}
use Rattle.schedule_text.specs.declared.line.Line.TheVariants as line
use Rattle.world_model.specs.First.{first_cluster}

-- a line names a node of the header, where it boots one, and a device by a number from 1 on, where it writes
abbrev pub IsFitting : Header → Line → Type 0
IsFitting h (line.Event (event.Write n d value)) = 1 ≤ d
IsFitting h (line.Event e) = IsInHeader h e
IsFitting h _ = Unit {0}

-- Each line has the entries that `history` says, or is skipped for the cause that is due, and so has each part of a round. No packet is foreign to its
-- receiver, links have as many cells as the setting says, and fewer than 2^63 moments are told: then a packet number is left, and no local disk fails.
abbrev pub LinesAreAnswered : Type 0
LinesAreAnswered = (h : Header) (cells : ℕ) (hs : List Happening) → h.nodes ≤ most_nodes → length h.devices ≤ most_devices → h.cluster < 2 ^ 32 → AreDisks h
    → (setting_of h).cells ≡ cells → MayAllHappen (first_cluster h) (first_scene h cells) hs → IsShaped (first_cluster h) (first_scene h cells) hs
    → NoneForeign (first_cluster h) (first_scene h cells) hs → AllByRecursion (IsFitting h) (lines_of (all_happened (first_cluster h) (first_scene h cells) hs).moments)
    → IsShort (all_happened (first_cluster h) (first_scene h cells) hs).moments → LinesAnswered (setting_of h) (all_happened (first_cluster h) (first_scene h cells) hs).moments
