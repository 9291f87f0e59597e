-- What is proved of each run of the world, as things that happen: which Requests are owed.
use Rattle.std.specs.Prelude.{ℕ, ◌<◌, ◌≤◌, ◌≡◌, ◌^◌, IfSome, List, ◌∷◌, length}
use Rattle.cl_base.specs.Limits.{most_devices}
use Rattle.cl_base.specs.declared.header.Header.{Header}
use Rattle.history.specs.Messages.{EachRequest, onto}
use Rattle.history.specs.Moment.{Moment, lines_of}
use Rattle.history.specs.Order.{Always, EachEvent}
use Rattle.history.specs.Setting.{Setting}
use Rattle.history.specs.Trace.{gives}
use Rattle.history_setting.specs.Settings.{setting_of}
use Rattle.world_model.specs.First.{first_cluster}
use Rattle.run_history.specs.Happenings.{Happening, MayAllHappen, all_happened}
use Rattle.run_history.specs.Scenes.{first_scene}
use Rattle.run_history.specs.Shapes.{IsShaped}
use Rattle.run_lines.specs.Laws.{NumberIsLeft}

-- each command has 4,096 bytes at most, as each line of a schedule has
abbrev pub CommandIsShort : List Moment → Moment → Type 0
CommandIsShort before (gives n words) = length words ≤ 4096
CommandIsShort before _ = Unit {0}

abbrev pub CommandsAreShort : List Moment → Type 0
CommandsAreShort moments = Always CommandIsShort moments

-- where a packet number is left behind the entries, a command that becomes the oldest in this event has its Request, as `history` has it
abbrev pub HasRequests : Setting → List Moment → Moment → List Moment → Type 0
HasRequests S before x entries = NumberIsLeft S (onto (x ∷ before) entries) → EachRequest before entries (onto (x ∷ before) entries) entries

-- So it is while fewer than 2^63 lines are said, which number the commands, and each command is short.
abbrev pub RequestsOfEachRun : Type 0
RequestsOfEachRun = (h : Header) (cells : ℕ) (hs : List Happening) (S : Setting) → length h.devices ≤ most_devices → h.cluster < 2 ^ 32 → S.cells ≡ cells
    → MayAllHappen (first_cluster h) (first_scene h cells) hs → IsShaped (first_cluster h) (first_scene h cells) hs
    → length (lines_of (all_happened (first_cluster h) (first_scene h cells) hs).moments) < 2 ^ 63
    → CommandsAreShort (all_happened (first_cluster h) (first_scene h cells) hs).moments
    → EachEvent (HasRequests S) (all_happened (first_cluster h) (first_scene h cells) hs).moments

-- So short a command has canonical words that its Request can carry.
abbrev pub CanonicalWordsAreShort : Type 0
CanonicalWordsAreShort = (h : Header) (words : List ℕ) → length words ≤ 4096 → IfSome ((setting_of h).canonical words) (λ text. length text ≤ 65536)
