-- How each seizing of an attempt ended, as the device lines show it: what attempts and messages have, against what the lines tell.
use Rattle.std.specs.Prelude.{ℕ, ◌==◌, ◌≡◌, ◌<◌, ◌⊎◌, true, List, [], ◌∷◌, Option, None, Some}
use Rattle.std.specs.List.{AllByRecursion, list_any}
use Rattle.attempt_laws.proofs.Walk.{IsSeizing}
use Rattle.attempt_laws.specs.Asking.{entry_numbers, numbers_of}
use Rattle.cl_base.specs.Seizings.{SeizeResult}
use Rattle.cl_base.specs.declared.header.Header.{Header}
use Rattle.cmm_attempt.specs.Attempts.{AttemptState, install_in}
use Rattle.cmm_attempt.specs.declared.phase.Phase.TheVariants.{Installing}
use Rattle.cmm_attempt.specs.declared.plan.Plan.{Plan}
use Rattle.cmm_attempt.specs.declared.seizing.Seizing.{Seizing}
use Rattle.cmm_member.specs.Nodes.{AreOfDevices, NodeState}
use Rattle.history.specs.Letters.{says}
use Rattle.history.specs.Moment.{Moment}
use Rattle.history.specs.Seizing.{keys_seized, seizing_of}
use Rattle.history.specs.Setting.{coordinator}
use Rattle.history.specs.Trace.{saved, sent}
use Rattle.interconnect.specs.Links.{Packet}
use Rattle.membership_machine.specs.State.{Memberships}
use Rattle.node_model.specs.declared.cluster.Cluster.{Cluster}
use Rattle.node_model.specs.declared.node.Node.{Node}
use Rattle.node_model.specs.declared.node.Node.TheVariants.{Down, Up}
use Rattle.refinement.specs.Doings.{Doing, Site, effect, gives}
use Rattle.refinement.specs.Doings.Change.{Counts, Installs}
use Rattle.refinement.specs.Doings.Doing.{Saves}
use Rattle.run_history.specs.Scenes.{Scene, passing}
use Rattle.wire.specs.Reads.{whole_of}
use Rattle.wire.specs.declared.lists.Reading.{Reading}
use Rattle.wire.specs.declared.message.Body.{Body}
use Rattle.wire.specs.declared.message.Body.TheVariants as body
use Rattle.wire.specs.declared.message.Install.{Install}
use Rattle.wire.specs.declared.message.Message.{Message}
use Rattle.run_devices.specs.readings.Laws.{WasRead, held_keys, told_in}
use Rattle.run_seizings.specs.Seized.{has_installed}

-- ---- what the lines show

-- of a node, an epoch and a device: the keys that the node read last as it seized the device for that epoch, where it did
abbrev pub Shown : Type 0
Shown = ℕ → ℕ → ℕ → Option (List ℕ)

abbrev pub shown_in : Header → List Moment → Shown
shown_in h moments k e d = keys_seized h k e d moments

-- ---- attempts

-- the seizing of a device for e by node k ended so
abbrev pub EndedAs : Shown → ℕ → ℕ → ℕ → SeizeResult → Type 0
EndedAs K e d k r = K k e d ≡ held_keys (Some r)

abbrev pub EntryShown : Shown → ℕ → Seizing → Type 0
EntryShown K e s = (k : ℕ) (r : SeizeResult) → s.seizer ≡ Some k → s.result ≡ Some r → EndedAs K e s.attached.device k r

-- each device that is to be seized is one of the plan
abbrev pub AreOfPlan : Plan → List Seizing → Type 0
AreOfPlan plan es = (d : ℕ) → list_any (λ x. x == d) (entry_numbers es) ≡ true → list_any (λ x. x == d) (numbers_of plan.attached) ≡ true

-- each reading is of a device below those of the readings behind it
abbrev pub ReadInOrder : List Reading → Type 0
ReadInOrder [] = Unit {0}
ReadInOrder (r ∷ readings) = AllByRecursion (λ (other : Reading). r.device < other.device) readings × ReadInOrder readings

-- whoever seized a device for e is told by these readings
abbrev pub AllAreTold : Shown → ℕ → List Reading → Type 0
AllAreTold K e readings = (k d : ℕ) (keys : List ℕ) → K k e d ≡ Some keys → told_in readings d ≡ Some (record { seizer = k; keys = keys })

-- each seizing that has a result ended so; and what it installs tells each seizing
pub record AttemptShown (K : Shown) (a : AttemptState) : Type 0 where
  pub seizing : IsSeizing a.phase → AllByRecursion (EntryShown K a.plan.epoch) a.devices × AreOfPlan a.plan a.devices
  pub installing : a.phase ≡ Installing → AllAreTold K a.plan.epoch (install_in a).readings

abbrev pub AttemptIn : Shown → Option AttemptState → Type 0
AttemptIn K None = Unit {0}
AttemptIn K (Some a) = AttemptShown K a

abbrev pub NodeIn : Shown → Node → Type 0
NodeIn K Down = Unit {0}
NodeIn K (Up x) = AttemptIn K x.attempt

-- ---- messages

-- the attempt was counted, so that no result for it is asked any more
abbrev pub IsCounted : Memberships → List Moment → ℕ → Type 0
IsCounted M moments e = (has_installed (coordinator e) e moments ≡ true) ⊎ ((M.epoch e).counted ≡ true)

-- A Seized tells how the seizing ended, as the lines show it, unless its attempt was counted; an Install tells each seizing, and of devices
-- apart, in the order of their numbers.
abbrev pub BodyShown : Shown → Memberships → List Moment → ℕ → Body → Type 0
BodyShown K M moments from (body.Seized e d r) = IsCounted M moments e ⊎ EndedAs K e d from r
BodyShown K M moments from (body.Install i) = AllAreTold K i.epoch i.readings × AreOfDevices i.readings × ReadInOrder i.readings
BodyShown K M moments from _ = Unit {0}

abbrev pub PacketShown : Shown → Memberships → List Moment → Packet → Type 0
PacketShown K M moments x = (m : Message) → whole_of x.bytes ≡ Some m → BodyShown K M moments x.from m.body

-- ---- lines

-- an Install that is sent tells each seizing that the lines show by then
abbrev pub BroughtIn : Header → List Moment → Option Body → Type 0
BroughtIn h before (Some (body.Install i)) = AllAreTold (shown_in h before) i.epoch i.readings
BroughtIn h before _ = Unit {0}

abbrev pub Brings : Header → List Moment → Moment → Type 0
Brings h before (sent p n to called bytes) = BroughtIn h before (says bytes)
Brings h before _ = Unit {0}

-- ---- installs

-- node n installs this, in this state: of each device it tells the seizing that the history has, with the keys that the seizer read
pub record InstallSo (h : Header) (moments : List Moment) (n : ℕ) (r : NodeState) (i : Install) : Type 0 where
  pub told : (d : ℕ) → told_in i.readings d ≡ seizing_of h i.epoch d moments
  pub read : AllByRecursion (WasRead h moments i.epoch) i.readings
  pub apart : AreOfDevices i.readings
  pub order : ReadInOrder i.readings
  pub me : r.me ≡ n

-- once it is saved
abbrev pub DoingInstalls : Header → ℕ → List Moment → Doing → Type 0
DoingInstalls h n moments (Saves (Counts a q r i)) = InstallSo h (saved n ∷ moments) n r i
DoingInstalls h n moments (Saves (Installs r i)) = InstallSo h (saved n ∷ moments) n r i
DoingInstalls h n moments _ = Unit {0}

-- each of these small steps does so
abbrev pub AllInstall : Header → Cluster → ℕ → Site → List Doing → Scene → Type 0
AllInstall h c n x [] s = Unit {0}
AllInstall h c n x (d ∷ small) s = DoingInstalls h n s.moments d × AllInstall h c n (effect c n x d) small (passing n (gives c n x d) s)
