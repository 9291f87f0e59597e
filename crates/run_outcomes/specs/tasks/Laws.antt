-- What is proved of each run of the world, as things that happen: the tasks of coordinators at shared devices, and with them the device queue of each node.
use Rattle.std.specs.Prelude.{ℕ, ◌%◌, ◌≡◌, ◌≢◌, ◌<◌, ◌≤◌, ◌^◌, ◌==◌, ◌&&◌, not, nat_lt, Bool, true, false, List, filter, length, map, Option, None, Some, if◌then◌else◌}
use Rattle.std.specs.List.{AllByRecursion, find, list_any}
use Rattle.std.specs.Option.{option_and_then}
use Rattle.attempt_laws.specs.Asking.{entry_of}
use Rattle.attempt_laws.specs.Staying.{IsBefore}
use Rattle.cl_base.specs.Limits.{most_devices, most_nodes}
use Rattle.cl_base.specs.Seizings.{SeizeResult}
use Rattle.cl_base.specs.Sets.{has}
use Rattle.cl_base.specs.declared.header.Header.{Header}
use Rattle.cl_base.specs.declared.seizing.SeizeEnd.TheVariants.{NotRegistered}
use Rattle.cmm_attempt.specs.Attempts.{AttemptState}
use Rattle.cmm_attempt.specs.Promises.{holds_valid}
use Rattle.cmm_attempt.specs.declared.phase.Phase.TheVariants.{Collecting}
use Rattle.cmm_attempt.specs.declared.seizing.Seizing.{Seizing}
use Rattle.device_queue.specs.Tasks.{is_queued, result_in}
use Rattle.device_queue.specs.declared.task.Task.{Task}
use Rattle.device_queue.specs.declared.task.Work.{Work}
use Rattle.device_queue.specs.declared.task.Work.TheVariants.{Joining as Joins, Seizing as Seizes}
use Rattle.history.specs.Letters.{Letter, says, sends}
use Rattle.history.specs.Moment.{Moment}
use Rattle.history.specs.Names as name
use Rattle.history.specs.Order.{since}
use Rattle.history.specs.Queue as told
use Rattle.history.specs.Records.{promises}
use Rattle.history.specs.Seizing.{is_attempt}
use Rattle.history_setting.specs.Settings.{setting_of}
use Rattle.interconnect.specs.Links.{Packet}
use Rattle.node_model.specs.Seats.{installed_of, record_of, session_of}
use Rattle.node_model.specs.declared.node.Node.{Node}
use Rattle.node_model.specs.declared.node.Node.TheVariants.{Down, Up}
use Rattle.node_model.specs.declared.node.UpNode.{UpNode}
use Rattle.run_devices.specs.queues.Laws.{Same}
use Rattle.run_history.specs.Happenings.{Happening, MayAllHappen, all_happened}
use Rattle.run_history.specs.Scenes.{Scene, first_scene}
use Rattle.run_history.specs.Shapes.{Due, ShapedFrom, nothing}
use Rattle.run_history.specs.WorldLines.{AreDisks, IsDevice}
use Rattle.run_outcomes.specs.phases.Laws.{HasAttempt, is_other, is_seizing}
use Rattle.run_packets.specs.native.Laws.{BootsInHeader}
use Rattle.run_packets.specs.views.Laws.{NoneForeign}
use Rattle.seize.specs.declared.kind.SeizeKind.{SeizeKind}
use Rattle.seize.specs.declared.kind.SeizeKind.TheVariants.{Plain, Vote}
use Rattle.wire.specs.Reads.{whole_of}
use Rattle.wire.specs.declared.message.Body.{Body}
use Rattle.wire.specs.declared.message.Body.TheVariants as body
use Rattle.wire.specs.declared.message.Message.{Message}
use Rattle.world_model.specs.First.{first_cluster}

-- P of each point of a run whose lines have their entries. No packet is foreign to its receiver.
abbrev pub OfEachPoint : (Header → Scene → Type 0) → Type 0
OfEachPoint P = (h : Header) (cells : ℕ) (hs : List Happening) (last : Due) → length h.devices ≤ most_devices → h.cluster < 2 ^ 32 → AreDisks h
    → MayAllHappen (first_cluster h) (first_scene h cells) hs → ShapedFrom (first_cluster h) (first_scene h cells) nothing hs last
    → NoneForeign (first_cluster h) (first_scene h cells) hs → P h (all_happened (first_cluster h) (first_scene h cells) hs)

-- .. where a packet number is left, and nodes of the header alone boot
abbrev pub OfEachLeft : (Header → Scene → Type 0) → Type 0
OfEachLeft P = (h : Header) (cells : ℕ) (hs : List Happening) (last : Due) → h.nodes ≤ most_nodes → length h.devices ≤ most_devices → h.cluster < 2 ^ 32 → AreDisks h
    → MayAllHappen (first_cluster h) (first_scene h cells) hs → ShapedFrom (first_cluster h) (first_scene h cells) nothing hs last
    → NoneForeign (first_cluster h) (first_scene h cells) hs → AllByRecursion (BootsInHeader h) hs
    → nat_lt (all_happened (first_cluster h) (first_scene h cells) hs).links.next (2 ^ 63) ≡ true → P h (all_happened (first_cluster h) (first_scene h cells) hs)

-- P of each attempt that a node has there, and of the lines up to there
abbrev pub OfEachInHand : (AttemptState → List Moment → Type 0) → Type 0
OfEachInHand P = OfEachPoint (λ h s. (n : ℕ) (a : AttemptState) → HasAttempt s n a → P a s.moments)

-- ---- whom an attempt asks

abbrev pub is_vote : SeizeKind → Bool
is_vote Vote = true
is_vote Plain = false

-- another member than the coordinator
abbrev pub but : ℕ → Option ℕ → Option ℕ
but c None = None
but c (Some m) = if m == c then None else Some m

-- the other member that the attempt asked last to seize a quorum device
abbrev pub other_seizer : AttemptState → Seizing → Option ℕ
other_seizer a e = if is_vote e.kind then but a.plan.coordinator e.seizer else None

-- .. and whether it asked this one
abbrev pub has_asked : AttemptState → ℕ → Option Seizing → Bool
has_asked a m None = false
has_asked a m (Some e) = is_vote e.kind && not (m == a.plan.coordinator) && has e.asked m

-- By its lines a coordinator asked those other members to seize a quorum device that its attempt has asked, and last the one whose answer the attempt has, or waits for.
pub record AsksTold (a : AttemptState) (moments : List Moment) : Type 0 where
  pub last : (d : ℕ) → told.asked_last a.plan.epoch d moments ≡ option_and_then (other_seizer a) (entry_of a.devices d)
  pub asked : (d m : ℕ) → list_any (sends a.plan.coordinator m (name.SeizeQuorum d)) (since (is_attempt a.plan.epoch) moments) ≡ has_asked a m (entry_of a.devices d)

-- So it is while a packet number is left: behind the last one no message is sent any more, and no line tells it.
abbrev pub AsksAreTold : Type 0
AsksAreTold = OfEachPoint (λ h s. nat_lt s.links.next (2 ^ 63) ≡ true → (n : ℕ) (a : AttemptState) → HasAttempt s n a → AsksTold a s.moments)

-- ---- what they answer

-- Before an attempt installs, the answer that it has of another member which it asked last is that of the member's last Seized, and it has none where none came.
abbrev pub SeizedsTold : AttemptState → List Moment → Type 0
SeizedsTold a moments = IsBefore a.phase → (d m : ℕ) (e : Seizing) → entry_of a.devices d ≡ Some e → e.seizer ≡ Some m → m ≢ a.plan.coordinator
    → told.seized_by a.plan.epoch d m moments ≡ e.result

abbrev pub SeizedsAreTold : Type 0
SeizedsAreTold = OfEachInHand SeizedsTold

-- ---- what Promises show

-- a Promise of m, delivered since the attempt began, shows d as valid
abbrev pub shows_valid : ℕ → List Moment → ℕ → ℕ → Bool
shows_valid e moments d m = list_any (λ (l : Letter). (l.from == m) && has (told.valid_in (says l.bytes)) d) (promises e moments)

-- before the attempt installs, it does exactly where the Promise that the attempt took shows it
abbrev pub ShowsTold : AttemptState → List Moment → Type 0
ShowsTold a moments = IsBefore a.phase → (d m : ℕ) → 1 ≤ d → d ≤ 32 → is_other a moments m ≡ true → shows_valid a.plan.epoch moments d m ≡ holds_valid a.promises d m

abbrev pub ShowsAreTold : Type 0
ShowsAreTold = OfEachInHand ShowsTold

abbrev pub is_plain : SeizeKind → Bool
is_plain Plain = true
is_plain Vote = false

abbrev pub is_plain_in : Work → Bool
is_plain_in (Seizes s) = is_plain s.kind
is_plain_in (Joins j) = false

-- one of the tasks is to seize the device as one without votes: before it registers there the record says that it is not valid
abbrev pub seizes_plainly : ℕ → List Task → Bool
seizes_plainly d tasks = list_any (λ (t : Task). (t.device == d) && is_plain_in t.work) tasks

-- In a session of another's that a node has not installed, its last Promise shows the devices that its record holds valid, but for those that it seizes without
-- votes. Nodes of the header alone boot, and a packet number is left: else a Promise may not be sent.
abbrev pub ShownValid : Type 0
ShownValid = (h : Header) (cells : ℕ) (hs : List Happening) → h.nodes ≤ most_nodes → length h.devices ≤ most_devices → h.cluster < 2 ^ 32
    → MayAllHappen (first_cluster h) (first_scene h cells) hs → AllByRecursion (BootsInHeader h) hs
    → nat_lt (all_happened (first_cluster h) (first_scene h cells) hs).links.next (2 ^ 63) ≡ true
    → (n : ℕ) (x : UpNode) → (all_happened (first_cluster h) (first_scene h cells) hs).nodes.node n ≡ Up x → 0 < session_of x → installed_of x ≢ session_of x → session_of x % 64 ≢ n
    → (d : ℕ) → IsDevice h d → seizes_plainly d x.tasks ≡ false → has (told.shown_valid n (all_happened (first_cluster h) (first_scene h cells) hs).moments) d ≡ has (record_of x).valid d

-- a request to seize a quorum device, to a node in the session of the attempt that has not installed it: the device is valid to the node
abbrev pub MaySeize : Node → Body → Type 0
MaySeize (Up x) (body.SeizeQuorum e members d) = session_of x ≡ e → installed_of x ≢ session_of x → has (record_of x).valid d ≡ true
MaySeize _ _ = Unit {0}

abbrev pub AskedMaySeize : Type 0
AskedMaySeize = OfEachPoint (λ h s. AllByRecursion (λ (p : Packet). (m : Message) → whole_of p.bytes ≡ Some m → MaySeize (s.nodes.node p.to) m.body) s.links.packets)

-- ---- a coordinator's own tasks

-- how the task at this device ended
abbrev pub own_result : ℕ → List Task → Option SeizeResult
own_result d tasks = option_and_then (λ (t : Task). result_in t.work) (find (λ (t : Task). t.device == d) tasks)

abbrev pub IsUnregistered : Option SeizeResult → Type 0
IsUnregistered (Some (NotRegistered keys)) = Unit {0}
IsUnregistered _ = ⊥

-- The coordinator is the least member. While its attempt collects it has no task; while it seizes it has one for each device that it was asked to seize itself, in the order of
-- the attempt's. Where it was asked last, the task's result is the attempt's; where another was asked since, it was not registered.
pub record OwnSo (x : UpNode) (a : AttemptState) : Type 0 where
  pub least : AllByRecursion (λ m. a.plan.coordinator ≤ m) a.plan.nodes
  pub idle : a.phase ≡ Collecting → length x.tasks ≡ 0
  pub devices : is_seizing a.phase ≡ true
      → map (λ (t : Task). t.device) x.tasks ≡ map (λ (e : Seizing). e.attached.device) (filter (λ (e : Seizing). has e.asked a.plan.coordinator) a.devices)
  pub last : is_seizing a.phase ≡ true → (d : ℕ) (e : Seizing) → entry_of a.devices d ≡ Some e → e.seizer ≡ Some a.plan.coordinator → own_result d x.tasks ≡ e.result
  pub earlier : is_seizing a.phase ≡ true → (d : ℕ) (e : Seizing) → entry_of a.devices d ≡ Some e → has e.asked a.plan.coordinator ≡ true
      → e.seizer ≢ Some a.plan.coordinator → IsUnregistered (own_result d x.tasks)

abbrev pub OwnTasksAreAsked : Type 0
OwnTasksAreAsked = OfEachPoint (λ h s. (n : ℕ) (x : UpNode) (a : AttemptState) → s.nodes.node n ≡ Up x → x.attempt ≡ Some a → OwnSo x a)

-- ---- the queue of each node

abbrev pub NodeQueue : Node → List told.Task → Type 0
NodeQueue Down tasks = Unit {0}
NodeQueue (Up x) tasks = Same (filter is_queued x.tasks) tasks

-- While a packet number is left, the tasks that a node has queued are those of `history`, on their devices and as far, in order, but where that leaves them open.
abbrev pub QueuesAreTold : Type 0
QueuesAreTold = OfEachLeft (λ h s. (n : ℕ) → told.queue_is_open (setting_of h) n s.moments ≡ false → NodeQueue (s.nodes.node n) (told.queued_of (setting_of h) n s.moments))
