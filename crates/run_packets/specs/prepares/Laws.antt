-- What is proved of each run of the world, as things that happen: who tells the entries of an event, and that each proposal has its Prepares.
use Rattle.std.specs.Prelude.{ℕ, ◌<◌, ◌≤◌, ◌≡◌, ◌^◌, true, List, ◌∷◌, length, None}
use Rattle.cl_base.specs.Limits.{most_devices}
use Rattle.cl_base.specs.declared.header.Header.{Header}
use Rattle.history.specs.Messages.{EachProposal, are_of_one, onto}
use Rattle.history.specs.Moment.{Moment}
use Rattle.history.specs.Order.{EachEvent}
use Rattle.history.specs.Setting.{Setting}
use Rattle.world_model.specs.First.{first_cluster}
use Rattle.run_history.specs.Happenings.{Happening, MayAllHappen, all_happened}
use Rattle.run_history.specs.Scenes.{first_scene}
use Rattle.run_history.specs.Shapes.{IsShaped}
use Rattle.run_lines.specs.Laws.{NumberIsLeft}

-- all entries are one node's, or nobody's
abbrev pub IsOfOne : List Moment → Moment → List Moment → Type 0
IsOfOne before x entries = are_of_one None entries ≡ true

abbrev pub OneNodeOfEachRun : Type 0
OneNodeOfEachRun = (h : Header) (cells : ℕ) (hs : List Happening) → length h.devices ≤ most_devices → h.cluster < 2 ^ 32
    → MayAllHappen (first_cluster h) (first_scene h cells) hs → IsShaped (first_cluster h) (first_scene h cells) hs
    → EachEvent IsOfOne (all_happened (first_cluster h) (first_scene h cells) hs).moments

-- where a packet number is left behind the entries, each proposal among them has its Prepares
abbrev pub HasPrepares : Setting → List Moment → Moment → List Moment → Type 0
HasPrepares S before x entries = NumberIsLeft S (onto (x ∷ before) entries) → EachProposal before entries entries

abbrev pub PreparesOfEachRun : Type 0
PreparesOfEachRun = (h : Header) (cells : ℕ) (hs : List Happening) (S : Setting) → length h.devices ≤ most_devices → h.cluster < 2 ^ 32 → S.cells ≡ cells
    → MayAllHappen (first_cluster h) (first_scene h cells) hs → IsShaped (first_cluster h) (first_scene h cells) hs
    → EachEvent (HasPrepares S) (all_happened (first_cluster h) (first_scene h cells) hs).moments
