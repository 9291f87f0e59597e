-- What is proved of each run of the world, as things that happen: the order of the parts of its rounds.
use Rattle.std.specs.Prelude.{ℕ, suc, ◌==◌, ◌≡◌, ◌≤◌, ◌<◌, ◌^◌, false, if◌then◌else◌, List, [], ◌∷◌, None, Some, length, is_some, ◌↔◌}
use Rattle.std.specs.List.{AllByRecursion}
use Rattle.cl_base.specs.Limits.{most_devices}
use Rattle.cl_base.specs.declared.header.Header.{Header}
use Rattle.schedule_text.specs.declared.event.Event.TheVariants as event
use Rattle.schedule_text.specs.declared.line.Line.{Line}
use Rattle.schedule_text.specs.declared.line.Line.TheVariants as line
use Rattle.status_report.specs.declared.schedule_entry.ScheduleEntry.TheVariants.{RoundsDone}
use Rattle.history.specs.Moment.{Moment, Part, Told, lines_of}
use Rattle.history.specs.Order.{Always}
use Rattle.history.specs.Queue.{has_work, queue_is_open}
use Rattle.history.specs.Round.{Rounds, progress_of, works}
use Rattle.history.specs.Setting.{Setting}
use Rattle.node_model.specs.declared.cluster.Cluster.{Cluster}
use Rattle.world_model.specs.Devices.{due_at}
use Rattle.world_model.specs.First.{first_cluster}
use Rattle.run_history.specs.Happenings.{Happening, IsUp, MayAllHappen, all_happened, happened}
use Rattle.run_history.specs.Happenings.Happening.{Begins, Notes}
use Rattle.run_history.specs.Rounds.{most_commands}
use Rattle.run_history.specs.Scenes.{Scene, first_scene}
use Rattle.run_history.specs.Shapes.{IsShaped}
use Rattle.run_lines.specs.rounds.Parts.{PartsInOrder, shown}

-- a line that asks for rounds asks for one at least: the grammar has no other
abbrev pub AsksSome : Line → Type 0
AsksSome (line.Event (event.Rounds count nodes)) = 1 ≤ count
AsksSome _ = Unit {0}

abbrev pub AllAskSome : List Moment → Type 0
AllAskSome moments = AllByRecursion AsksSome (lines_of moments)

-- Each part is the one that is due, where the part that comes shows whether a node has work.
abbrev pub PartsOfEachRun : Type 0
PartsOfEachRun = (h : Header) (cells : ℕ) (hs : List Happening) (S : Setting) → length h.devices ≤ most_devices → S.cells ≡ cells
    → MayAllHappen (first_cluster h) (first_scene h cells) hs → IsShaped (first_cluster h) (first_scene h cells) hs
    → AllAskSome (all_happened (first_cluster h) (first_scene h cells) hs).moments
    → PartsInOrder S shown (all_happened (first_cluster h) (first_scene h cells) hs).moments

-- ---- where the lines tell the queues

-- of each node that is up, and whose queue is not open, the lines tell whether a command is due
abbrev pub QueuesTold : Setting → Scene → Type 0
QueuesTold S s = (n : ℕ) → IsUp (s.nodes.node n) → queue_is_open S n s.moments ≡ false → has_work S n s.moments ≡ is_some (due_at (Some (s.nodes.node n)))

-- P of each scene in which a part, or `rounds done`, comes
abbrev pub AtPart : (Scene → Type 0) → Scene → Happening → Type 0
AtPart P s (Begins e) = P s
AtPart P s (Notes RoundsDone) = P s
AtPart P s _ = Unit {0}

abbrev pub AtEachPart : (Scene → Type 0) → Cluster → Scene → List Happening → Type 0
AtEachPart P c s [] = Unit {0}
AtEachPart P c s (h ∷ hs) = AtPart P s h × AtEachPart P c (happened c s h) hs

abbrev pub QueuesAreTold : Setting → Cluster → Scene → List Happening → Type 0
QueuesAreTold S c s hs = AtEachPart (QueuesTold S) c s hs

-- how many commands n did last, one after another
abbrev pub in_a_row : ℕ → List Moment → ℕ
in_a_row n [] = 0
in_a_row n (Part (event.Disk m) ∷ before) = if m == n then suc (in_a_row n before) else 0
in_a_row n (Told entry ∷ before) = in_a_row n before
in_a_row n (_ ∷ before) = 0

-- no node does so many in one round as the world lets it do at most
abbrev pub IsFew : List Moment → Moment → Type 0
IsFew before x = (n : ℕ) → in_a_row n (x ∷ before) < most_commands

abbrev pub FewCommands : List Moment → Type 0
FewCommands moments = Always IsFew moments

-- P of the lines of a run of whole lines, where they tell the queues
abbrev pub WhereTold : (Setting → List Moment → Type 0) → Type 0
WhereTold P = (h : Header) (cells : ℕ) (hs : List Happening) (S : Setting) → length h.devices ≤ most_devices → h.cluster < 2 ^ 32 → S.cells ≡ cells
    → MayAllHappen (first_cluster h) (first_scene h cells) hs → IsShaped (first_cluster h) (first_scene h cells) hs
    → AllAskSome (all_happened (first_cluster h) (first_scene h cells) hs).moments
    → QueuesAreTold S (first_cluster h) (first_scene h cells) hs
    → P S (all_happened (first_cluster h) (first_scene h cells) hs).moments

-- Then rounds are as `history` has them ..
abbrev pub PartsByQueues : Type 0
PartsByQueues = WhereTold Rounds

-- .. and at its end no round is left open.
abbrev pub NoneLeftByQueues : Type 0
NoneLeftByQueues = WhereTold (λ S moments. progress_of S moments ≡ None)

-- `history`'s own way to tell which nodes have work makes of the parts its rounds.
abbrev pub PartsAreRounds : Type 0
PartsAreRounds = (S : Setting) (moments : List Moment) → PartsInOrder S (works S) moments ↔ Rounds S moments
