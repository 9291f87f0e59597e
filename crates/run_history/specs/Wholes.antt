-- Every run of the world is one of the abstract machine of the whole cluster with its devices.
use Rattle.std.specs.Prelude.{ℕ, zero, suc, ◌-◌, ◌≡◌, ◌≤◌, ◌<◌, ◌^◌, Bool, true, false, List, [], ◌∷◌, Option, None, Some, length, slice_get, slice_index_or}
use Rattle.std.specs.List.{AllByRecursion}
use Rattle.cl_base.specs.Limits.{most_devices}
use Rattle.cl_base.specs.Sets.{has}
use Rattle.cl_base.specs.declared.header.DeviceKind.TheVariants.{Data}
use Rattle.cl_base.specs.declared.header.HeaderDevice.{HeaderDevice}
use Rattle.cl_base.specs.declared.header.Header.{Header}
use Rattle.cl_base.specs.declared.method.Outcome as method
use Rattle.cluster_machine.specs.Cluster.{Cluster as Whole, Event, Run}
use Rattle.cluster_machine.specs.Parts.{AttemptsDiffer, AttemptsMeet, OutsidersHold, PromisesHold, RecordsAgree, ReservationsHold, TasksHold, ValidNodesHold, WordsHold, WriteIsSafe}
use Rattle.membership_machine.specs.Votes.{Setting}
use Rattle.cluster_ties.specs.Laws.{IsSafe, registered_by}
use Rattle.cluster_ties.specs.Moves.{IsReached, first_whole}
use Rattle.history.specs.History.{Repository}
use Rattle.node_model.specs.Clusters.{first_valid_of}
use Rattle.run_history.specs.Runs.{ComesTo, CutsOf, IsRun, moments_of}
use Rattle.cluster_ties.specs.Ties.{DevicesTied}
use Rattle.cluster_ties.specs.Told.{ToldOf}
use Rattle.interconnect.specs.Links.{Packet}
use Rattle.node_model.specs.declared.cluster.Cluster.{Cluster}
use Rattle.pgr_device.specs.Device.{Device, fresh}
use Rattle.pgr_device.specs.Spc as spc
use Rattle.pgr_device.specs.declared.command.PrAnswer.TheVariants as given
use Rattle.pgr_device.specs.declared.command.PrCommand.TheVariants as command
use Rattle.refinement.specs.Doings.{site}
use Rattle.refinement.specs.Runs.{Letter}
use Rattle.refinement.specs.Ties.{MessageTold, setting_of}
use Rattle.refinement.specs.Widths.{RunFits}
use Rattle.refinement.specs.Worlds.{DeviceFits}
use Rattle.wire.specs.Reads.{whole_of}
use Rattle.wire.specs.declared.message.Message.{Message}
use Rattle.world_model.specs.First.{first_cluster}
use Rattle.run_history.specs.Happenings.{Happening, MayHappen, Writes, all_happened}
use Rattle.run_history.specs.Scenes.{Scene, fault_in, first_scene}
use Rattle.run_history.specs.Sites.{IsCluster, SiteAt}

-- the device of each number; one that is not there is as no command has come to it
abbrev pub no_device : Device
no_device = fresh 0

abbrev pub device_at : List Device → ℕ → Device
device_at devices zero = no_device
device_at devices (suc k) = slice_index_or devices k no_device

-- a packet in flight tells of devices what is so, to the node that it goes to
abbrev pub PacketTold : Whole → Packet → Type 0
PacketTold W x = (m : Message) → whole_of x.bytes ≡ Some m → ToldOf W x.from x.to m.body

-- The machine of the whole comes to a state in which each device is tied and each node with its disk, in the machine
-- of memberships and at each device; all that was ever sent is true there, and so is all in flight of devices.
pub record IsWhole (c : Cluster) (s : Scene) : Type 0 where
  pub cluster : IsCluster c
  pub machine : Whole
  pub reached : IsReached (setting_of c) machine
  pub devices_so : DevicesTied c (device_at s.devices) machine
  pub sites : (n : ℕ) → SiteAt c machine n (site (s.nodes.node n) (s.nodes.disk n).kept)
  pub sent : AllByRecursion (λ (l : Letter). MessageTold machine.memberships l.from l.body) s.nodes.sent
  pub flying : AllByRecursion (PacketTold machine) s.links.packets
  pub fits : RunFits c s.nodes
  pub device_fits : (d : ℕ) (device : Device) → slice_get s.devices d ≡ Some device → DeviceFits device

-- The machine's first state: on each quorum device the configured nodes with a path to it are registered, and the record
-- of each of these calls the device valid.

abbrev pub registered_in : Header → List HeaderDevice → ℕ → ℕ → Bool
registered_in h [] k n = registered_by Data 0 0 n
registered_in h (d ∷ devices) zero n = registered_by d.kind d.attached h.configured n
registered_in h (d ∷ devices) (suc k) n = registered_in h devices k n

abbrev pub registered_at : Header → ℕ → ℕ → Bool
registered_at h zero n = registered_by Data 0 0 n
registered_at h (suc k) n = registered_in h h.devices k n

abbrev pub valid_at : Header → ℕ → ℕ → Bool
valid_at h d n = has (first_valid_of (first_cluster h) n) d

abbrev pub first_state : Header → Whole
first_state h = first_whole (registered_at h) (valid_at h)

-- Things that happen from the first scene of a header on, whose steps are cut so, are a run of the machine of the
-- whole from its first state: the scene that they come to is one of the state that it comes to. Of memberships it is
-- the run of the small steps, in their order.
pub record IsRunOfWhole (h : Header) (cells : ℕ) (hs : List Happening) (cuts : CutsOf h cells hs) : Type 0 where
  pub scene : IsWhole (first_cluster h) (all_happened (first_cluster h) (first_scene h cells) hs)
  pub events : List Event
  pub run : Run (setting_of (first_cluster h)) (first_state h) events scene.machine
  pub memberships : ComesTo h cells hs cuts scene.machine.memberships

-- Each run of the world, as things that happen, is one of that machine ..
abbrev pub RunsAreWhole : Type 0
RunsAreWhole = (h : Header) (cells : ℕ) (hs : List Happening) (cuts : CutsOf h cells hs)
    → length h.devices ≤ most_devices → h.cluster < 2 ^ 32 → IsRun h cells hs
    → IsRunOfWhole h cells hs cuts

-- .. so what is so of each state that this machine comes to is so of it: attempts meet at devices, Lineage, Kept, and
-- no attempt that counted with a device held is above the session of a node that joined the device and may write
-- there.
abbrev pub WholeRunsAreSafe : Type 0
WholeRunsAreSafe = (c : Cluster) (s : Scene) (w : IsWhole c s) → IsSafe (setting_of c) w.machine

-- The nine parts on which these rest: promises, attempts, epoch words, reservations, tasks, outsiders and valid nodes, where attempts meet, records.
pub record IsInOrder (S : Setting) (W : Whole) : Type 0 where
  pub promises : PromisesHold S W
  pub attempts : AttemptsDiffer S W
  pub words : WordsHold S W
  pub reservations : ReservationsHold S W
  pub tasks : TasksHold W
  pub outsiders : OutsidersHold W
  pub valid_nodes : ValidNodesHold W
  pub meetings : AttemptsMeet S W
  pub records : RecordsAgree W

-- They hold wherever a run is.
abbrev pub WholeRunsAreInOrder : Type 0
WholeRunsAreInOrder = (c : Cluster) (s : Scene) (w : IsWhole c s) → IsInOrder (setting_of c) w.machine

-- The device takes the write, and says so, unless a fault hides its answer.
abbrev pub TakesAt : Option Device → Option Bool → ℕ → ℕ → Type 0
TakesAt None fault n value = ⊥
TakesAt (Some device) (Some false) n value = ⊥
TakesAt (Some device) (Some true) n value = (spc.step device n (command.Write value)).answer ≡ given.Good
TakesAt (Some device) None n value = (spc.step device n (command.Write value)).answer ≡ given.Good

abbrev pub TakesWrite : Scene → ℕ → ℕ → ℕ → Type 0
TakesWrite s n d value = TakesAt (slice_get s.devices (d - 1)) (fault_in s n d) n value

-- Each write that a device takes obeys the disk rule.
abbrev pub RunsWriteSafely : Type 0
RunsWriteSafely = (c : Cluster) (s : Scene) (w : IsWhole c s) (n d value now : ℕ) (ends : method.Outcome)
    → MayHappen c s (Writes n d value now ends) → TakesWrite s n d value
    → WriteIsSafe w.machine d n

-- Of each run the repository is kept: Lineage, whenever a deed has come, places, and each acknowledged update in the
-- base of every greater membership.
abbrev pub RepositoriesAreKept : Type 0
RepositoriesAreKept = (h : Header) (cells : ℕ) (hs : List Happening)
    → length h.devices ≤ most_devices → h.cluster < 2 ^ 32 → IsRun h cells hs → Repository (moments_of h cells hs)
