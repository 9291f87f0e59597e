-- What is proved of each run of the world, as things that happen: an Install goes to each other member as its coordinator installs, and where there is
-- no other member the membership starts.
use Rattle.std.specs.Prelude.{ℕ, ◌≡◌, ◌<◌, ◌≤◌, ◌^◌, ◌==◌, ◌||◌, not, Bool, true, List, [], ◌∷◌, length}
use Rattle.std.specs.List.{AllByRecursion, list_all, list_any}
use Rattle.cl_base.specs.Limits.{most_devices, most_nodes}
use Rattle.cl_base.specs.declared.header.Header.{Header}
use Rattle.history.specs.Contact.{others}
use Rattle.history.specs.Letters.{sends}
use Rattle.history.specs.Member.{members_of}
use Rattle.history.specs.Messages.{EachInstall, onto}
use Rattle.history.specs.Moment.{Moment}
use Rattle.history.specs.Names as name
use Rattle.history.specs.Order.{EachEvent}
use Rattle.history.specs.Setting.{Setting, coordinator}
use Rattle.history.specs.Trace.{installed}
use Rattle.world_model.specs.First.{first_cluster}
use Rattle.run_history.specs.Happenings.{Happening, MayAllHappen, all_happened}
use Rattle.run_history.specs.Scenes.{first_scene}
use Rattle.run_history.specs.Shapes.{IsShaped}
use Rattle.run_lines.specs.Laws.{NumberIsLeft}
use Rattle.run_packets.specs.native.Laws.{BootsInHeader}
use Rattle.run_packets.specs.replies.Laws.{OfEachEventTold}

-- n sends an Install to each of these nodes
abbrev pub goes_to : ℕ → List ℕ → List Moment → Bool
goes_to n nodes entries = list_all (λ m. list_any (sends n m name.Install) entries) nodes

-- each coordinator that installs sends its Install to each other member (`EachInstall` of `history`, where there is one)
abbrev pub EachGoesOut : List Moment → List Moment → List Moment → Type 0
EachGoesOut before entries [] = Unit {0}
EachGoesOut before entries (installed n e ∷ later) =
    ((not (n == coordinator e) || goes_to n (others e (members_of e before)) entries) ≡ true) × EachGoesOut before entries later
EachGoesOut before entries (x ∷ later) = EachGoesOut before entries later

-- where a packet number is left behind the entries
abbrev pub HasInstalls : Setting → List Moment → Moment → List Moment → Type 0
HasInstalls S before x entries = NumberIsLeft S (onto (x ∷ before) entries) → EachGoesOut before entries entries

abbrev pub InstallsOfEachRun : Type 0
InstallsOfEachRun = OfEachEventTold HasInstalls

-- where a packet number is left behind the entries, each coordinator that installs goes on, as `history` has it
abbrev pub GoesOnAtOnce : Setting → List Moment → Moment → List Moment → Type 0
GoesOnAtOnce S before x entries = NumberIsLeft S (onto (x ∷ before) entries) → EachInstall before entries entries

-- So it is while fewer than 2^63 moments are told, so that no local disk fails but by a stop.
abbrev pub EachInstallOfEachRun : Type 0
EachInstallOfEachRun = (h : Header) (cells : ℕ) (hs : List Happening) (S : Setting) → h.nodes ≤ most_nodes → length h.devices ≤ most_devices → h.cluster < 2 ^ 32 → S.cells ≡ cells
    → MayAllHappen (first_cluster h) (first_scene h cells) hs → IsShaped (first_cluster h) (first_scene h cells) hs → AllByRecursion (BootsInHeader h) hs
    → length (all_happened (first_cluster h) (first_scene h cells) hs).moments < 2 ^ 63
    → EachEvent (GoesOnAtOnce S) (all_happened (first_cluster h) (first_scene h cells) hs).moments
