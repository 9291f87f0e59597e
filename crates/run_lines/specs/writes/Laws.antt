-- What is proved of each run of the world, as things that happen: what a write comes to.
use Rattle.std.specs.Prelude.{ℕ, ◌<◌, ◌≤◌, ◌≡◌, ◌^◌, true, List, length}
use Rattle.cl_base.specs.Limits.{most_devices}
use Rattle.cl_base.specs.declared.header.Header.{Header}
use Rattle.schedule_text.specs.declared.event.Event.{Event}
use Rattle.schedule_text.specs.declared.event.Event.TheVariants as event
use Rattle.schedule_text.specs.declared.line.Line.TheVariants as line
use Rattle.history.specs.Lines.{write_entries}
use Rattle.history.specs.Member.{is_up}
use Rattle.history.specs.Moment.{Moment, Said, Part}
use Rattle.history.specs.Order.{EachEvent}
use Rattle.history.specs.Setting.{Setting}
use Rattle.world_model.specs.First.{first_cluster}
use Rattle.run_history.specs.Happenings.{Happening, MayAllHappen, all_happened}
use Rattle.run_history.specs.Scenes.{first_scene}
use Rattle.run_history.specs.Shapes.{IsShaped}
use Rattle.run_history.specs.WorldLines.{AreDisks}

-- a write of a node that is up has the entries that `history` says; devices are numbered from 1, as each line that is read has them
abbrev pub WriteSo : Setting → List Moment → Event → List Moment → Type 0
WriteSo S before (event.Write n d value) entries = 1 ≤ d → is_up n before ≡ true → entries ≡ write_entries S before n d value
WriteSo S before _ entries = Unit {0}

-- it stands in a line; a part of a round is none
abbrev pub IsWritten : Setting → List Moment → Moment → List Moment → Type 0
IsWritten S before (Said (line.Event what)) entries = WriteSo S before what entries
IsWritten S before (Part what) entries = WriteSo S before what entries
IsWritten S before _ entries = Unit {0}

-- each run from the first scene of a header without servers on
abbrev pub WritesOfEachRun : Type 0
WritesOfEachRun = (h : Header) (cells : ℕ) (hs : List Happening) (S : Setting) → length h.devices ≤ most_devices → h.cluster < 2 ^ 32 → S.header ≡ h → AreDisks h
    → MayAllHappen (first_cluster h) (first_scene h cells) hs → IsShaped (first_cluster h) (first_scene h cells) hs
    → EachEvent (IsWritten S) (all_happened (first_cluster h) (first_scene h cells) hs).moments
