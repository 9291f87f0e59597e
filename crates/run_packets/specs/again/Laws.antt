-- What is proved of each run of the world, as things that happen: which Requests go again.
use Rattle.std.specs.Prelude.{ℕ, ◌<◌, ◌≤◌, ◌≡◌, ◌^◌, List, ◌∷◌, length}
use Rattle.cl_base.specs.Limits.{most_devices}
use Rattle.cl_base.specs.declared.header.Header.{Header}
use Rattle.history.specs.Messages.{RequestsAgain, onto}
use Rattle.history.specs.Moment.{Moment, event_of, lines_of}
use Rattle.history.specs.Order.{EachEvent}
use Rattle.history.specs.Setting.{Setting}
use Rattle.world_model.specs.First.{first_cluster}
use Rattle.run_history.specs.Happenings.{Happening, MayAllHappen, all_happened}
use Rattle.run_history.specs.Scenes.{first_scene}
use Rattle.run_history.specs.Shapes.{IsShaped}
use Rattle.run_lines.specs.Laws.{NumberIsLeft}

-- where a packet number is left behind the entries, a Request that lacks its Answer goes again at the fourth tick, as `history` has it
abbrev pub HasRequestsAgain : Setting → List Moment → Moment → List Moment → Type 0
HasRequestsAgain S before x entries = NumberIsLeft S (onto (x ∷ before) entries) → RequestsAgain before (event_of x) entries

-- So it is while fewer than 2^63 lines are said, which number the commands.
abbrev pub RequestsAgainOfEachRun : Type 0
RequestsAgainOfEachRun = (h : Header) (cells : ℕ) (hs : List Happening) (S : Setting) → length h.devices ≤ most_devices → h.cluster < 2 ^ 32 → S.cells ≡ cells
    → MayAllHappen (first_cluster h) (first_scene h cells) hs → IsShaped (first_cluster h) (first_scene h cells) hs
    → length (lines_of (all_happened (first_cluster h) (first_scene h cells) hs).moments) < 2 ^ 63
    → EachEvent (HasRequestsAgain S) (all_happened (first_cluster h) (first_scene h cells) hs).moments
