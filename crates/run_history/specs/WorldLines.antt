-- What each run of the world tells of links and devices.
use Rattle.std.specs.Prelude.{ℕ, ◌-◌, ◌≡◌, ◌≤◌, true, List, None, Some, length, slice_get}
use Rattle.std.specs.List.{AllByRecursion}
use Rattle.cl_base.specs.Limits.{most_devices}
use Rattle.cl_base.specs.declared.header.DeviceKind.{DeviceKind}
use Rattle.cl_base.specs.declared.header.DeviceKind.TheVariants.{Data, Quorum, Server}
use Rattle.cl_base.specs.declared.header.Header.{Header}
use Rattle.cl_base.specs.declared.header.HeaderDevice.{HeaderDevice}
use Rattle.cl_base.specs.declared.method.Outcome.{Outcome}
use Rattle.history.specs.DeviceRun.{DeviceRun, armed_fault, state_of}
use Rattle.history.specs.DiskRule.{DiskRule, IsMembersOwn, takes}
use Rattle.history.specs.Links.{Links, drop_due, links_after}
use Rattle.world_model.specs.First.{first_cluster}
use Rattle.run_history.specs.Happenings.{Happening, MayAllHappen, MayHappen, Writes, all_happened}
use Rattle.run_history.specs.Scenes.{Scene, fault_in, first_scene}

-- Each packet line is the next one, or of a packet in flight; the links are those that the lines leave, and no drop is due.
pub record IsLinked (cells : ℕ) (s : Scene) : Type 0 where
  pub links : s.links ≡ links_after cells s.moments
  pub due : drop_due cells s.moments ≡ None
  pub run : Links cells s.moments

abbrev pub LinksOfEachRun : Type 0
LinksOfEachRun = (h : Header) (cells : ℕ) (hs : List Happening) → MayAllHappen (first_cluster h) (first_scene h cells) hs
    → IsLinked cells (all_happened (first_cluster h) (first_scene h cells) hs)

-- the number of a device of the header
abbrev pub IsDevice : Header → ℕ → Type 0
IsDevice h d = (1 ≤ d) × (d ≤ length h.devices)

-- Each device line has the device's answer; the state of each device and the faults that are armed are those that the lines leave.
pub record IsAtDevices (h : Header) (s : Scene) : Type 0 where
  pub count : length s.devices ≡ length h.devices
  pub states : (d : ℕ) → IsDevice h d → slice_get s.devices (d - 1) ≡ Some (state_of h d s.moments)
  pub armed : (n d : ℕ) → 1 ≤ n → IsDevice h d → fault_in s n d ≡ armed_fault n d s.moments
  pub run : DeviceRun h s.moments

-- no server is among the devices: the program refuses a header that has one
abbrev pub IsDisk : DeviceKind → Type 0
IsDisk Data = Unit {0}
IsDisk Quorum = Unit {0}
IsDisk Server = ⊥

abbrev pub AreDisks : Header → Type 0
AreDisks h = AllByRecursion (λ (d : HeaderDevice). IsDisk d.kind) h.devices

abbrev pub DevicesOfEachRun : Type 0
DevicesOfEachRun = (h : Header) (cells : ℕ) (hs : List Happening) → length h.devices ≤ most_devices → AreDisks h → MayAllHappen (first_cluster h) (first_scene h cells) hs
    → IsAtDevices h (all_happened (first_cluster h) (first_scene h cells) hs)

-- Where this node may write to this device, and the device takes the write, the node is a member of a membership that holds the device.
abbrev pub WritesAreOwn : Header → Scene → Type 0
WritesAreOwn h s = (n d value now : ℕ) (ends : Outcome) → MayHappen (first_cluster h) s (Writes n d value now ends) → takes h s.moments n d value ≡ true
    → IsMembersOwn s.moments n d

-- so it is whatever happened before
abbrev pub AllWritesAreOwn : Header → ℕ → Type 0
AllWritesAreOwn h cells = (hs : List Happening) → MayAllHappen (first_cluster h) (first_scene h cells) hs → WritesAreOwn h (all_happened (first_cluster h) (first_scene h cells) hs)

-- then each run obeys the disk rule
abbrev pub DiskRuleByWrites : Type 0
DiskRuleByWrites = (h : Header) (cells : ℕ) (hs : List Happening) → AllWritesAreOwn h cells → MayAllHappen (first_cluster h) (first_scene h cells) hs
    → DiskRule h (all_happened (first_cluster h) (first_scene h cells) hs).moments
