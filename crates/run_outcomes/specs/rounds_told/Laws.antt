-- What is proved of each run of the world, as things that happen: its rounds.
use Rattle.std.specs.Prelude.{ℕ, ◌≡◌, ◌<◌, ◌≤◌, ◌^◌, List, None, length}
use Rattle.std.specs.List.{AllByRecursion}
use Rattle.cl_base.specs.Limits.{most_devices, most_nodes}
use Rattle.cl_base.specs.declared.header.Header.{Header}
use Rattle.history.specs.Moment.{Moment}
use Rattle.history.specs.Round.{Rounds, progress_of}
use Rattle.history.specs.Setting.{Setting}
use Rattle.history_setting.specs.Settings.{setting_of}
use Rattle.run_history.specs.Happenings.{Happening, MayAllHappen, all_happened}
use Rattle.run_history.specs.Scenes.{first_scene}
use Rattle.run_history.specs.Shapes.{IsShaped}
use Rattle.run_history.specs.WorldLines.{AreDisks}
use Rattle.run_lines.specs.rounds.Laws.{AllAskSome}
use Rattle.run_packets.specs.fits.Laws.{IsShort}
use Rattle.run_packets.specs.native.Laws.{BootsInHeader}
use Rattle.run_packets.specs.views.Laws.{NoneForeign}
use Rattle.world_model.specs.First.{first_cluster}

-- P of the lines of each run of whole lines, each of which asks for one round at least. No packet is foreign to its receiver, nodes of the header alone boot, and links have as many
-- cells as the setting says. It is supposed that fewer than 2^63 moments are told, so that a packet number is left.
abbrev pub OfWholeRuns : (Setting → List Moment → Type 0) → Type 0
OfWholeRuns P = (h : Header) (cells : ℕ) (hs : List Happening) → h.nodes ≤ most_nodes → length h.devices ≤ most_devices → h.cluster < 2 ^ 32 → AreDisks h → (setting_of h).cells ≡ cells
    → MayAllHappen (first_cluster h) (first_scene h cells) hs → IsShaped (first_cluster h) (first_scene h cells) hs → NoneForeign (first_cluster h) (first_scene h cells) hs
    → AllByRecursion (BootsInHeader h) hs → AllAskSome (all_happened (first_cluster h) (first_scene h cells) hs).moments → IsShort (all_happened (first_cluster h) (first_scene h cells) hs).moments
    → P (setting_of h) (all_happened (first_cluster h) (first_scene h cells) hs).moments

-- Each part of a round is the one that is due by what the lines tell, a line comes only outside of rounds, and `rounds done` where no part is left.
abbrev pub RoundsAreTold : Type 0
RoundsAreTold = OfWholeRuns Rounds

-- At the end no round is left open.
abbrev pub NoRoundIsLeft : Type 0
NoRoundIsLeft = OfWholeRuns (λ S moments. progress_of S moments ≡ None)
