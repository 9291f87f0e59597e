-- What is proved of each run of the world, as things that happen: of which packets none that comes is foreign to its receiver, and what no packet brings.
use Rattle.std.specs.Prelude.{ℕ, ◌≡◌, ◌≤◌, ◌<◌, ◌^◌, Bool, false, true, List, [], ◌∷◌, length, Option, None, Some, IfSome}
use Rattle.std.specs.List.{AllByRecursion}
use Rattle.cl_base.specs.Limits.{most_devices, most_nodes}
use Rattle.cl_base.specs.declared.header.Header.{Header}
use Rattle.node_model.specs.Members.{is_bad_log, is_strange}
use Rattle.node_model.specs.declared.cluster.Cluster.{Cluster}
use Rattle.node_model.specs.declared.input.Input.TheVariants as input
use Rattle.node_model.specs.declared.node.Node.{Node}
use Rattle.run_history.specs.Happenings.{Arrives, Happening, MayAllHappen, Speaks, Takes, happened}
use Rattle.run_history.specs.Scenes.{Scene, first_scene}
use Rattle.run_history.specs.Shapes.{IsShaped}
use Rattle.run_history.specs.Telling.{IsInHeader}
use Rattle.run_packets.specs.views.Laws.{is_foreign_to}
use Rattle.wire.specs.declared.message.Body.{Body}
use Rattle.wire.specs.declared.message.Body.TheVariants as body
use Rattle.world_model.specs.First.{first_cluster}

-- ---- in each run

-- P holds of a packet that comes, and of its receiver as it is then
abbrev pub ComesSo : (Cluster → ℕ → Node → Body → Type 0) → Cluster → Scene → Happening → Type 0
ComesSo P c s (Arrives number x m now ends) = P c x.to (s.nodes.node x.to) m.body
ComesSo P c s h = Unit {0}

abbrev pub AllComeSo : (Cluster → ℕ → Node → Body → Type 0) → Cluster → Scene → List Happening → Type 0
AllComeSo P c s [] = Unit {0}
AllComeSo P c s (h ∷ hs) = ComesSo P c s h × AllComeSo P c (happened c s h) hs

-- a node that boots is one of the header
abbrev pub BootsInHeader : Header → Happening → Type 0
BootsInHeader h (Takes n now ends input.Boot) = n ≤ h.nodes
BootsInHeader h x = Unit {0}

abbrev pub OfEachPacket : (Cluster → ℕ → Node → Body → Type 0) → Type 0
OfEachPacket P = (h : Header) (cells : ℕ) (hs : List Happening) → h.nodes ≤ most_nodes → length h.devices ≤ most_devices → h.cluster < 2 ^ 32
    → MayAllHappen (first_cluster h) (first_scene h cells) hs → AllByRecursion (BootsInHeader h) hs → AllComeSo P (first_cluster h) (first_scene h cells) hs

-- a line names a node of the header, where it boots one
abbrev pub SpeaksInHeader : Header → Happening → Type 0
SpeaksInHeader h (Speaks e) = IsInHeader h e
SpeaksInHeader h x = Unit {0}

-- .. and where all lines do, each node that boots is one, since what happens is what is due
abbrev pub BootsAreOfTheHeader : Type 0
BootsAreOfTheHeader = (h : Header) (cells : ℕ) (hs : List Happening) → IsShaped (first_cluster h) (first_scene h cells) hs → AllByRecursion (SpeaksInHeader h) hs
    → AllByRecursion (BootsInHeader h) hs

-- ---- kinds of packets

-- what is not to name a device, nor to bring a text
abbrev pub is_plain_kind : Body → Bool
is_plain_kind (body.Heartbeat promised session member) = true
is_plain_kind (body.Collect e members) = true
is_plain_kind (body.Nack e promised) = true
is_plain_kind (body.Start e) = true
is_plain_kind (body.Prepared e place) = true
is_plain_kind (body.Commit e place) = true
is_plain_kind (body.Order o) = true
is_plain_kind (body.Done e number outcome) = true
is_plain_kind (body.Excluded e newest) = true
is_plain_kind _ = false

abbrev pub IsNative : Cluster → ℕ → Node → Body → Type 0
IsNative c n node b = is_plain_kind b ≡ true → is_foreign_to c n node b ≡ false

-- A Heartbeat, Collect, Nack, Start, Prepared, Commit, Order, Done or Excluded is foreign to no node.
abbrev pub PlainKindsAreNative : Type 0
PlainKindsAreNative = OfEachPacket IsNative

-- ---- requests to seize

abbrev pub is_seize : Body → Bool
is_seize (body.SeizeQuorum e members d) = true
is_seize (body.SeizeData e members d) = true
is_seize _ = false

abbrev pub IsSeizeNative : Cluster → ℕ → Node → Body → Type 0
IsSeizeNative c n node b = is_seize b ≡ true → is_foreign_to c n node b ≡ false

-- No request to seize is foreign to its receiver: it is a member itself, all members are nodes of the header, and the device is one of it.
abbrev pub SeizesAreNative : Type 0
SeizesAreNative = OfEachPacket IsSeizeNative

-- ---- members

abbrev pub members_in : Body → Option ℕ
members_in (body.Collect e members) = Some members
members_in (body.Promise e installed members valid flagged committed pending) = Some members
members_in (body.SeizeQuorum e members d) = Some members
members_in (body.SeizeData e members d) = Some members
members_in (body.Install i) = Some i.members
members_in _ = None

abbrev pub NamesNoStranger : Cluster → ℕ → Node → Body → Type 0
NamesNoStranger c n node b = IfSome (members_in b) (λ members. is_strange c members ≡ false)

-- each member that a packet names is a node of the header
abbrev pub MembersAreOfHeader : Type 0
MembersAreOfHeader = OfEachPacket NamesNoStranger

-- ---- updates

abbrev pub BringsNoBadLog : Cluster → ℕ → Node → Body → Type 0
BringsNoBadLog c n node (body.Promise e installed members valid flagged committed pending) = is_bad_log c committed pending ≡ false
BringsNoBadLog c n node (body.Install i) = is_bad_log c i.committed i.pending ≡ false
BringsNoBadLog c n node b = Unit {0}

-- no list of updates that a Promise shows, or an Install brings, is bad
abbrev pub NoLogIsBad : Type 0
NoLogIsBad = OfEachPacket BringsNoBadLog
