-- What is proved of each run of the world, as things that happen: which messages are answered.
use Rattle.std.specs.Prelude.{ℕ, ◌<◌, ◌≤◌, ◌≡◌, ◌^◌, true, List, ◌∷◌, Some, length}
use Rattle.std.specs.List.{AllByRecursion}
use Rattle.cl_base.specs.Limits.{most_devices, most_nodes}
use Rattle.cl_base.specs.declared.header.Header.{Header}
use Rattle.history.specs.Letters.{Letter, letter_of}
use Rattle.history.specs.Messages.{onto, replies}
use Rattle.history.specs.Moment.{Moment}
use Rattle.history.specs.Names as name
use Rattle.history.specs.Order.{EachEvent}
use Rattle.history.specs.Setting.{Setting}
use Rattle.history.specs.Trace.{delivered}
use Rattle.world_model.specs.First.{first_cluster}
use Rattle.run_history.specs.Happenings.{Happening, MayAllHappen, all_happened}
use Rattle.run_history.specs.Scenes.{first_scene}
use Rattle.run_history.specs.Shapes.{IsShaped}
use Rattle.run_lines.specs.Laws.{NumberIsLeft}
use Rattle.run_packets.specs.native.Laws.{BootsInHeader}

-- what an Order calls for that is delivered, as `history` has it
abbrev pub OrderReplies : Setting → List Moment → Moment → List Moment → Type 0
OrderReplies S before x (delivered p a n ∷ later) =
    (l : Letter) (k : ℕ) → letter_of p before ≡ Some l → l.name ≡ name.Order k → replies S n l (name.Order k) before (delivered p a n ∷ later) (onto (x ∷ before) (delivered p a n ∷ later)) ≡ true
OrderReplies S before x _ = Unit {0}

-- where a packet number is left behind the entries
abbrev pub HasDone : Setting → List Moment → Moment → List Moment → Type 0
HasDone S before x entries = NumberIsLeft S (onto (x ∷ before) entries) → OrderReplies S before x entries

abbrev pub OrdersAreAnsweredInEachRun : Type 0
OrdersAreAnsweredInEachRun = (h : Header) (cells : ℕ) (hs : List Happening) (S : Setting) → length h.devices ≤ most_devices → h.cluster < 2 ^ 32 → S.cells ≡ cells
    → MayAllHappen (first_cluster h) (first_scene h cells) hs → IsShaped (first_cluster h) (first_scene h cells) hs
    → EachEvent (HasDone S) (all_happened (first_cluster h) (first_scene h cells) hs).moments

-- P holds of each event of a run, where the nodes that boot are those of the header
abbrev pub OfEachEventTold : (Setting → List Moment → Moment → List Moment → Type 0) → Type 0
OfEachEventTold P = (h : Header) (cells : ℕ) (hs : List Happening) (S : Setting) → h.nodes ≤ most_nodes → length h.devices ≤ most_devices → h.cluster < 2 ^ 32 → S.cells ≡ cells
    → MayAllHappen (first_cluster h) (first_scene h cells) hs → IsShaped (first_cluster h) (first_scene h cells) hs → AllByRecursion (BootsInHeader h) hs
    → EachEvent (P S) (all_happened (first_cluster h) (first_scene h cells) hs).moments

-- what a Collect calls for that is delivered, as `history` has it
abbrev pub CollectReplies : Setting → List Moment → Moment → List Moment → Type 0
CollectReplies S before x (delivered p a n ∷ later) =
    (l : Letter) → letter_of p before ≡ Some l → l.name ≡ name.Collect → replies S n l name.Collect before (delivered p a n ∷ later) (onto (x ∷ before) (delivered p a n ∷ later)) ≡ true
CollectReplies S before x _ = Unit {0}

-- where a packet number is left behind the entries
abbrev pub HasPromiseOrNack : Setting → List Moment → Moment → List Moment → Type 0
HasPromiseOrNack S before x entries = NumberIsLeft S (onto (x ∷ before) entries) → CollectReplies S before x entries

abbrev pub CollectsAreAnsweredInEachRun : Type 0
CollectsAreAnsweredInEachRun = OfEachEventTold HasPromiseOrNack

-- what a Prepare calls for that is delivered, as `history` has it
abbrev pub PrepareReplies : Setting → List Moment → Moment → List Moment → Type 0
PrepareReplies S before x (delivered p a n ∷ later) =
    (l : Letter) (v : ℕ) → letter_of p before ≡ Some l → l.name ≡ name.Prepare v → replies S n l (name.Prepare v) before (delivered p a n ∷ later) (onto (x ∷ before) (delivered p a n ∷ later)) ≡ true
PrepareReplies S before x _ = Unit {0}

-- where a packet number is left behind the entries
abbrev pub HasPrepared : Setting → List Moment → Moment → List Moment → Type 0
HasPrepared S before x entries = NumberIsLeft S (onto (x ∷ before) entries) → PrepareReplies S before x entries

abbrev pub PreparesAreAnsweredInEachRun : Type 0
PreparesAreAnsweredInEachRun = (h : Header) (cells : ℕ) (hs : List Happening) (S : Setting) → length h.devices ≤ most_devices → h.cluster < 2 ^ 32 → S.cells ≡ cells
    → MayAllHappen (first_cluster h) (first_scene h cells) hs → IsShaped (first_cluster h) (first_scene h cells) hs
    → EachEvent (HasPrepared S) (all_happened (first_cluster h) (first_scene h cells) hs).moments
