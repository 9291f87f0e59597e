-- What is proved of each run of the world, as things that happen: requests to seize and Installs are answered, and what is owed after the last device command of a task.
use Rattle.std.specs.Prelude.{ℕ, ◌%◌, ◌<◌, ◌≡◌, ◌≢◌, ◌≤◌, ◌^◌, false, true, List, ◌∷◌, Some, length}
use Rattle.std.specs.List.{AllByRecursion}
use Rattle.cl_base.specs.Limits.{most_devices, most_nodes}
use Rattle.cl_base.specs.declared.header.Header.{Header}
use Rattle.device_queue.specs.declared.task.Task.{Task}
use Rattle.node_model.specs.Members.{ready_of}
use Rattle.node_model.specs.declared.node.UpNode.{UpNode}
use Rattle.run_outcomes.specs.tasks.Laws.{OfEachPoint}
use Rattle.run_packets.specs.prepares.Proposals.{IsShort}
use Rattle.run_packets.specs.admitted.Known.{WorkFew}
use Rattle.history.specs.Letters.{Letter, letter_of, reached_since}
use Rattle.history.specs.Member.{attempt_of}
use Rattle.history.specs.Messages.{ReportsDisk, is_install_of, onto, replies}
use Rattle.history.specs.Moment.{Moment, event_of}
use Rattle.history.specs.Names as name
use Rattle.history.specs.Names.{Name, named}
use Rattle.history.specs.Order.{Always, EachEvent}
use Rattle.history.specs.Seizing.{is_boot}
use Rattle.history.specs.Setting.{Setting}
use Rattle.history.specs.Trace.{delivered, sent}
use Rattle.history_setting.specs.Settings.{setting_of}
use Rattle.node_model.specs.Seats.{installed_of, is_member, session_of}
use Rattle.node_model.specs.declared.node.Node.TheVariants.{Up}
use Rattle.run_history.specs.ContactRuns.{OfEachRun}
use Rattle.run_history.specs.Happenings.{Happening, MayAllHappen, all_happened}
use Rattle.run_history.specs.Scenes.{first_scene}
use Rattle.run_history.specs.Shapes.{IsShaped}
use Rattle.run_history.specs.WorldLines.{AreDisks}
use Rattle.run_lines.specs.Laws.{NumberIsLeft}
use Rattle.run_packets.specs.native.Laws.{BootsInHeader}
use Rattle.run_packets.specs.views.Laws.{NoneForeign}
use Rattle.wire.specs.Reads.{whole_of}
use Rattle.wire.specs.declared.message.Body.{Body}
use Rattle.wire.specs.declared.message.Body.TheVariants as body
use Rattle.wire.specs.declared.message.Message.{Message}
use Rattle.world_model.specs.First.{first_cluster}

-- P of each event of a run of whole lines behind which a packet number is left. No packet is foreign to its receiver, nodes of the header alone boot, and links have as many cells as the setting says.
abbrev pub OfEachEvent : (Setting → List Moment → Moment → List Moment → Type 0) → Type 0
OfEachEvent P = (h : Header) (cells : ℕ) (hs : List Happening) → h.nodes ≤ most_nodes → length h.devices ≤ most_devices → h.cluster < 2 ^ 32 → AreDisks h → (setting_of h).cells ≡ cells
    → MayAllHappen (first_cluster h) (first_scene h cells) hs → IsShaped (first_cluster h) (first_scene h cells) hs → NoneForeign (first_cluster h) (first_scene h cells) hs
    → AllByRecursion (BootsInHeader h) hs → EachEvent (λ before x entries. NumberIsLeft (setting_of h) (onto (x ∷ before) entries) → P (setting_of h) before x entries) (all_happened (first_cluster h) (first_scene h cells) hs).moments

-- a request to seize a device, or an Install
abbrev pub AsksTask : Name → Type 0
AsksTask (name.SeizeQuorum d) = Unit {0}
AsksTask (name.SeizeData d) = Unit {0}
AsksTask name.Install = Unit {0}
AsksTask _ = ⊥

-- what it calls for where it is delivered, as `history` has it
abbrev pub TaskReplies : Setting → List Moment → Moment → List Moment → Type 0
TaskReplies S before x (delivered p a n ∷ later) =
    (l : Letter) → letter_of p before ≡ Some l → AsksTask l.name → replies S n l l.name before (delivered p a n ∷ later) (onto (x ∷ before) (delivered p a n ∷ later)) ≡ true
TaskReplies S before x _ = Unit {0}

abbrev pub TasksAreAnsweredInEachRun : Type 0
TasksAreAnsweredInEachRun = OfEachEvent TaskReplies

-- what is owed after the last device command of a task, as `history` has it
abbrev pub ReportsOfEachRun : Type 0
ReportsOfEachRun = OfEachEvent (λ S before x entries. ReportsDisk S before x (event_of x) entries)

-- ---- what they say

-- it goes to another node
abbrev pub IsToOther : ℕ → ℕ → Name → Type 0
IsToOther n to name.Collect = to ≢ n
IsToOther n to (name.SeizeQuorum d) = to ≢ n
IsToOther n to (name.SeizeData d) = to ≢ n
IsToOther n to name.Install = to ≢ n
IsToOther n to _ = Unit {0}

-- a request to seize is of the last attempt of its sender; an Install is so by `Caused` of run_history
abbrev pub AsksFor : List Moment → ℕ → Body → Type 0
AsksFor before n (body.SeizeQuorum e members d) = attempt_of n before ≡ Some e
AsksFor before n (body.SeizeData e members d) = attempt_of n before ≡ Some e
AsksFor before n _ = Unit {0}

abbrev pub AsksSo : List Moment → Moment → Type 0
AsksSo before (sent p n to called bytes) = IsToOther n to (named called) × ((m : Message) → whole_of bytes ≡ Some m → AsksFor before n m.body)
AsksSo before _ = Unit {0}

-- each request to seize, each Collect, and each Install, goes to another node; and a request is of the last attempt of its sender
abbrev pub RequestsAreOfAttempts : Type 0
RequestsAreOfAttempts = OfEachRun (Always AsksSo)

-- ---- how long they are

-- each seizing of a node read at most as many keys as there are nodes
abbrev pub ResultsAreFew : Type 0
ResultsAreFew = OfEachPoint (λ h s. (n : ℕ) (x : UpNode) → s.nodes.node n ≡ Up x → AllByRecursion (λ (t : Task). WorkFew t.work) x.tasks)

-- a node's Ready, with its report, fits a packet
abbrev pub ReadiesAreShort : Type 0
ReadiesAreShort = OfEachPoint (λ h s. (n : ℕ) (x : UpNode) → s.nodes.node n ≡ Up x → IsShort n (ready_of (first_cluster h) x))

-- ---- Installs

-- In a session of another's, before it is a member, a node has installed it exactly where an Install of it came since the node went up.
abbrev pub InstallsHaveCome : Type 0
InstallsHaveCome = OfEachPoint (λ h s. (n : ℕ) (x : UpNode) → s.nodes.node n ≡ Up x → is_member x.seat ≡ false → 0 < session_of x → session_of x % 64 ≢ n
    → (reached_since (is_boot n) (is_install_of n s.moments) s.moments ≡ true → installed_of x ≡ session_of x)
    × (installed_of x ≡ session_of x → reached_since (is_boot n) (is_install_of n s.moments) s.moments ≡ true))
