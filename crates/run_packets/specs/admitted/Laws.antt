-- What is proved of each run of the world, as things that happen: no packet that comes is foreign to its receiver, and so each attempt has the nodes
-- that its coordinator sees.
use Rattle.std.specs.Prelude.{ℕ, ◌≡◌, ◌≤◌, ◌<◌, ◌^◌, Bool, true, false, List, length, IfSome}
use Rattle.std.specs.List.{AllByRecursion}
use Rattle.cl_base.specs.Limits.{most_devices, most_nodes}
use Rattle.cl_base.specs.declared.header.Header.{Header}
use Rattle.history.specs.Attempts.{IsWanted, before_tick, configured_for, view_of}
use Rattle.history.specs.Moment.{Moment}
use Rattle.history.specs.Order.{Always}
use Rattle.history.specs.Setting.{Setting, coordinator, nodes_of}
use Rattle.history.specs.Trace.{attempt}
use Rattle.history_setting.specs.Settings.{setting_of}
use Rattle.node_model.specs.declared.cluster.Cluster.{Cluster}
use Rattle.node_model.specs.declared.node.Node.{Node}
use Rattle.run_history.specs.Happenings.{Happening, MayAllHappen, all_happened}
use Rattle.run_history.specs.Scenes.{first_scene}
use Rattle.run_packets.specs.native.Laws.{BootsInHeader, OfEachPacket}
use Rattle.run_packets.specs.views.Laws.{NoneForeign, is_foreign_to}
use Rattle.wire.specs.declared.message.Body.{Body}
use Rattle.wire.specs.declared.message.Body.TheVariants as body
use Rattle.world_model.specs.First.{first_cluster}

-- a packet of this kind is foreign to no node
abbrev pub IsNativeAs : (Body → Bool) → Cluster → ℕ → Node → Body → Type 0
IsNativeAs kind c n node b = kind b ≡ true → is_foreign_to c n node b ≡ false

-- ---- kinds of packets

abbrev pub is_seized : Body → Bool
is_seized (body.Seized e d outcome) = true
is_seized _ = false

abbrev pub is_ready : Body → Bool
is_ready (body.Ready e joined report) = true
is_ready _ = false

abbrev pub is_promise : Body → Bool
is_promise (body.Promise e installed members valid flagged committed pending) = true
is_promise _ = false

abbrev pub is_install : Body → Bool
is_install (body.Install i) = true
is_install _ = false

abbrev pub is_prepare : Body → Bool
is_prepare (body.Prepare e place text) = true
is_prepare _ = false

abbrev pub is_request : Body → Bool
is_request (body.Request e number text) = true
is_request _ = false

abbrev pub is_answer : Body → Bool
is_answer (body.Answer e number text) = true
is_answer _ = false

-- ---- each kind

-- A Seized tells of a device of the header, and has at most as many keys as there are nodes.
abbrev pub SeizedsAreNative : Type 0
SeizedsAreNative = OfEachPacket (IsNativeAs is_seized)

-- The devices that a Ready tells are devices of the header.
abbrev pub ReadiesAreNative : Type 0
ReadiesAreNative = OfEachPacket (IsNativeAs is_ready)

-- The valid devices that a Promise shows are devices of the header, its members nodes of it, and its list of updates is not bad.
abbrev pub PromisesAreNative : Type 0
PromisesAreNative = OfEachPacket (IsNativeAs is_promise)

-- An Install comes to a member; it reads devices of the header, each by a member, its members are nodes of the header, and its list of updates is not bad.
abbrev pub InstallsAreNative : Type 0
InstallsAreNative = OfEachPacket (IsNativeAs is_install)

-- The text of a Prepare is an update; where it is the next one of its receiver, the receiver's updates with it are a list that is not bad.
abbrev pub PreparesAreNative : Type 0
PreparesAreNative = OfEachPacket (IsNativeAs is_prepare)

-- The text of a Request is read as a request.
abbrev pub RequestsAreNative : Type 0
RequestsAreNative = OfEachPacket (IsNativeAs is_request)

-- The text of an Answer is read as an answer.
abbrev pub AnswersAreNative : Type 0
AnswersAreNative = OfEachPacket (IsNativeAs is_answer)

-- ---- all kinds

-- No packet that comes in a run is foreign to its receiver.
abbrev pub NoneIsForeignInEachRun : Type 0
NoneIsForeignInEachRun = (h : Header) (cells : ℕ) (hs : List Happening) → h.nodes ≤ most_nodes → length h.devices ≤ most_devices → h.cluster < 2 ^ 32
    → MayAllHappen (first_cluster h) (first_scene h cells) hs → AllByRecursion (BootsInHeader h) hs → NoneForeign (first_cluster h) (first_scene h cells) hs

-- ---- with whom an attempt begins

-- each member is a node of the header
abbrev pub IsOfHeader : Setting → List Moment → Moment → Type 0
IsOfHeader S before (attempt e members) = AllByRecursion (λ m. m ≤ S.header.nodes) (nodes_of members)
IsOfHeader S before _ = Unit {0}

-- The members are the nodes of the header that its coordinator sees, every packet counted. What is configured is read where the tick begins.
abbrev pub HeaderViewIs : Setting → List Moment → Moment → Type 0
HeaderViewIs S before (attempt e members) =
    IfSome (configured_for S (coordinator e) (before_tick (coordinator e) before)) (λ configured. nodes_of members ≡ view_of S.header.nodes configured (coordinator e) before)
HeaderViewIs S before _ = Unit {0}

-- P holds of all that a run tells, where the nodes that boot are those of the header
abbrev pub OfEachTold : (Setting → List Moment → Moment → Type 0) → Type 0
OfEachTold P = (h : Header) (cells : ℕ) (hs : List Happening) → h.nodes ≤ most_nodes → length h.devices ≤ most_devices → h.cluster < 2 ^ 32
    → MayAllHappen (first_cluster h) (first_scene h cells) hs → AllByRecursion (BootsInHeader h) hs
    → Always (P (setting_of h)) (all_happened (first_cluster h) (first_scene h cells) hs).moments

abbrev pub AttemptsAreOfTheHeader : Type 0
AttemptsAreOfTheHeader = OfEachTold IsOfHeader

abbrev pub ViewsAreToldInEachRun : Type 0
ViewsAreToldInEachRun = OfEachTold HeaderViewIs

-- All that history asks of an attempt that begins.
abbrev pub BeginsAsHistory : Setting → List Moment → Moment → Type 0
BeginsAsHistory S before (attempt e members) = IsWanted S before e members
BeginsAsHistory S before _ = Unit {0}

abbrev pub AttemptsBeginAsWanted : Type 0
AttemptsBeginAsWanted = OfEachTold BeginsAsHistory
