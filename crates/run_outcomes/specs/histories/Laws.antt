-- What is proved of each run of the world, as things that happen: it is a history.
use Rattle.std.specs.Prelude.{ℕ, ◌≡◌, ◌<◌, ◌≤◌, ◌^◌, List, length}
use Rattle.std.specs.List.{AllByRecursion}
use Rattle.cl_base.specs.Limits.{most_devices, most_nodes}
use Rattle.cl_base.specs.declared.header.Header.{Header}
use Rattle.history.specs.History.{History}
use Rattle.history.specs.Moment.{Moment, lines_of}
use Rattle.history_setting.specs.Settings.{setting_of}
use Rattle.run_history.specs.Happenings.{Happening, MayAllHappen, all_happened}
use Rattle.run_history.specs.Scenes.{first_scene}
use Rattle.run_history.specs.Shapes.{IsShaped}
use Rattle.run_history.specs.WorldLines.{AreDisks}
use Rattle.run_lines.specs.rounds.Laws.{AllAskSome}
use Rattle.run_packets.specs.waiting.Laws.{CommandsAreShort}
use Rattle.run_packets.specs.fits.Laws.{IsShort}
use Rattle.run_packets.specs.views.Laws.{NoneForeign}
use Rattle.world_model.specs.First.{first_cluster}
use Rattle.run_outcomes.specs.lines.Laws.{IsFitting}

-- The lines name nodes of the header where they boot one, and devices by numbers from 1 on where they write, ask for one round at least, and give commands of 4,096 bytes at most.
-- Fewer than 2^63 are said, which number the commands, and fewer than 2^63 moments are told, which number the packets and the saves of a record.
pub record IsOrdinary (h : Header) (moments : List Moment) : Type 0 where
  pub fit : AllByRecursion (IsFitting h) (lines_of moments)
  pub ask : AllAskSome moments
  pub short : CommandsAreShort moments
  pub few_lines : length (lines_of moments) < 2 ^ 63
  pub few : IsShort moments

-- Each run of such lines that comes to its end is a history. No packet is foreign to its receiver there, and links have as many cells as the setting says.
abbrev pub HistoriesOfEachRun : Type 0
HistoriesOfEachRun = (h : Header) (cells : ℕ) (hs : List Happening) → h.nodes ≤ most_nodes → length h.devices ≤ most_devices → h.cluster < 2 ^ 32 → AreDisks h
    → (setting_of h).cells ≡ cells → MayAllHappen (first_cluster h) (first_scene h cells) hs → IsShaped (first_cluster h) (first_scene h cells) hs
    → NoneForeign (first_cluster h) (first_scene h cells) hs → IsOrdinary h (all_happened (first_cluster h) (first_scene h cells) hs).moments
    → History (setting_of h) (all_happened (first_cluster h) (first_scene h cells) hs).moments
