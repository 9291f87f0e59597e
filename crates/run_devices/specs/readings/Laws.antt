-- Of each run of the world: the keys that were read on seized devices, as tasks, messages and attempts have them, are those that device lines tell.
use Rattle.std.specs.Prelude.{ℕ, ◌≡◌, ◌<◌, ◌≤◌, ◌^◌, ◌⊎◌, ◌==◌, Bool, true, false, List, [], ◌∷◌, length, Option, None, Some, if◌then◌else◌}
use Rattle.std.specs.List.{AllByRecursion, list_any}
use Rattle.cl_base.specs.Limits.{most_devices}
use Rattle.cl_base.specs.Seizings.{SeizeResult}
use Rattle.cl_base.specs.Sets.{has}
use Rattle.cl_base.specs.declared.header.Header.{Header}
use Rattle.cl_base.specs.declared.seizing.SeizeEnd.TheVariants.{Held}
use Rattle.cmm_attempt.specs.Attempts.{AttemptState}
use Rattle.cmm_attempt.specs.declared.seizing.Seizing.{Seizing}
use Rattle.cmm_member.specs.Nodes.{AreOfDevices, NodeState, devices_after}
use Rattle.device_queue.specs.Queue.{kept_of}
use Rattle.wire.specs.declared.lists.Reading.{Reading}
use Rattle.wire.specs.declared.message.Body.{Body}
use Rattle.wire.specs.declared.message.Body.TheVariants as body
use Rattle.wire.specs.declared.message.Install.{Install}
use Rattle.history.specs.Letters.{says}
use Rattle.history.specs.Moment.{Moment}
use Rattle.history.specs.Order.{Always}
use Rattle.history.specs.Seizing.{Seizing as Told, is_install, keys_seized}
use Rattle.history.specs.Setting.{coordinator}
use Rattle.history.specs.Trace.{sent}
use Rattle.history.specs.Validated.{Validity, Valid, Lapsed, Open, at_install}
use Rattle.node_model.specs.Seats.{session_of}
use Rattle.node_model.specs.declared.node.Node.{Node}
use Rattle.node_model.specs.declared.node.Node.TheVariants.{Down, Up}
use Rattle.world_model.specs.First.{first_cluster}
use Rattle.run_history.specs.Happenings.{Happening, MayAllHappen, all_happened}
use Rattle.run_history.specs.Scenes.{Scene, first_scene}

-- P holds of each scene of a run from the first scene of a header on
abbrev pub OfEachScene : (Header → Scene → Type 0) → Type 0
OfEachScene P = (h : Header) (cells : ℕ) (hs : List Happening) → length h.devices ≤ most_devices → h.cluster < 2 ^ 32
    → MayAllHappen (first_cluster h) (first_scene h cells) hs → P h (all_happened (first_cluster h) (first_scene h cells) hs)

-- ---- lines

-- Where n seized device d for e, the keys that it read last are told once and for all.
abbrev pub WhatWasReadStays : Type 0
WhatWasReadStays = (h : Header) (n e d : ℕ) (x : Moment) (before : List Moment) (keys : List ℕ)
    → keys_seized h n e d before ≡ Some keys → keys_seized h n e d (x ∷ before) ≡ Some keys

-- ---- tasks

-- the keys that were read last, of a seizing that ended held
abbrev pub held_keys : Option SeizeResult → Option (List ℕ)
held_keys (Some (Held keys)) = Some keys
held_keys _ = None

-- In a session that it has not installed, a node has seized those devices whose seizings ended held, with their keys, and no others.
abbrev pub HasSeizedSo : Header → List Moment → ℕ → Node → Type 0
HasSeizedSo h moments n Down = Unit {0}
HasSeizedSo h moments n (Up x) = 0 < session_of x → list_any (is_install n (session_of x)) moments ≡ false
    → (d : ℕ) → keys_seized h n (session_of x) d moments ≡ held_keys (kept_of x.tasks d)

abbrev pub TasksThatSeizedAreTold : Type 0
TasksThatSeizedAreTold = OfEachScene (λ h s. (n : ℕ) → HasSeizedSo h s.moments n (s.nodes.node n))

-- ---- messages

-- A Seized says held with the keys that its sender read; once its attempt is installed, nothing is asked of it any more.
abbrev pub SeizedIn : Header → List Moment → ℕ → Option Body → Type 0
SeizedIn h before n (Some (body.Seized e d (Held keys))) =
    (list_any (is_install (coordinator e) e) before ≡ true) ⊎ (keys_seized h n e d before ≡ Some keys)
SeizedIn h before n _ = Unit {0}

abbrev pub SaysWhatWasRead : Header → List Moment → Moment → Type 0
SaysWhatWasRead h before (sent p n to called bytes) = SeizedIn h before n (says bytes)
SaysWhatWasRead h before _ = Unit {0}

abbrev pub SeizedsSayWhatWasRead : Type 0
SeizedsSayWhatWasRead = OfEachScene (λ h s. Always (SaysWhatWasRead h) s.moments)

-- a reading of a device has the keys that its seizer read there as it seized it for e
abbrev pub WasRead : Header → List Moment → ℕ → Reading → Type 0
WasRead h before e r = keys_seized h r.seizer e r.device before ≡ Some r.keys

abbrev pub BroughtIn : Header → List Moment → Option Body → Type 0
BroughtIn h before (Some (body.Install i)) = AllByRecursion (WasRead h before i.epoch) i.readings
BroughtIn h before _ = Unit {0}

-- each that an Install brings is so
abbrev pub BringsWhatWasRead : Header → List Moment → Moment → Type 0
BringsWhatWasRead h before (sent p n to called bytes) = BroughtIn h before (says bytes)
BringsWhatWasRead h before _ = Unit {0}

abbrev pub ReadingsAreOfSeizers : Type 0
ReadingsAreOfSeizers = OfEachScene (λ h s. Always (BringsWhatWasRead h) s.moments)

-- ---- attempts

-- what an attempt has of a device that it holds: who seized it, and the keys that this one read
abbrev pub HeldAsRead : Header → List Moment → ℕ → Seizing → Type 0
HeldAsRead h moments e s = (k : ℕ) (keys : List ℕ) → s.seizer ≡ Some k → s.result ≡ Some (Held keys)
    → keys_seized h k e s.attached.device moments ≡ Some keys

abbrev pub AttemptAsRead : Header → List Moment → Option AttemptState → Type 0
AttemptAsRead h moments None = Unit {0}
AttemptAsRead h moments (Some a) = AllByRecursion (HeldAsRead h moments a.plan.epoch) a.devices

abbrev pub AttemptsIn : Header → List Moment → Node → Type 0
AttemptsIn h moments Down = Unit {0}
AttemptsIn h moments (Up x) = AttemptAsRead h moments x.attempt

abbrev pub AttemptsHoldWhatWasRead : Type 0
AttemptsHoldWhatWasRead = OfEachScene (λ h s. (n : ℕ) → AttemptsIn h s.moments (s.nodes.node n))

-- ---- installs

-- the seizing that a reading tells, and that of device d among these, if there is one
abbrev pub seizing_in : Reading → Told
seizing_in r = record { seizer = r.seizer; keys = r.keys }

abbrev pub told_in : List Reading → ℕ → Option Told
told_in [] d = None
told_in (r ∷ readings) d = if r.device == d then Some (seizing_in r) else told_in readings d

-- whether the device is among the valid ones agrees with what is told
abbrev pub IsSo : Validity → Bool → Type 0
IsSo Valid held = held ≡ true
IsSo Lapsed held = held ≡ false
IsSo Open held = Unit {0}

-- Of each device an install whose readings are so makes what the lines say that it makes of the seizing that is told.
abbrev pub InstallsAsRead : Type 0
InstallsAsRead = (h : Header) (before : List Moment) (s : NodeState) (i : Install) (d : ℕ) (old : Validity) → s.saved.valid < 2 ^ 16 → AreOfDevices i.readings → s.me ≤ 32
    → AllByRecursion (WasRead h before i.epoch) i.readings → IsSo old (has s.saved.valid d)
    → IsSo (at_install h s.me (told_in i.readings d) old) (has (devices_after s i).valid d)
