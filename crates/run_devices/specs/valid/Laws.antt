-- What is proved of each run of the world, as things that happen: who seized a device for a membership, by its device lines.
use Rattle.std.specs.Prelude.{ℕ, ◌≡◌, ◌<◌, ◌≤◌, ◌^◌, List, length, Option, None, Some}
use Rattle.attempt_laws.specs.Asking.{entry_of}
use Rattle.attempt_laws.specs.Staying.{IsBefore}
use Rattle.cl_base.specs.Limits.{most_devices}
use Rattle.cl_base.specs.declared.header.Header.{Header}
use Rattle.cl_base.specs.declared.seizing.SeizeEnd.TheVariants.{NotRegistered}
use Rattle.cmm_attempt.specs.Attempts.{AttemptState}
use Rattle.cmm_attempt.specs.declared.seizing.Seizing.{Seizing}
use Rattle.wire.specs.declared.message.Body.{Body}
use Rattle.wire.specs.declared.message.Body.TheVariants as body
use Rattle.history.specs.Letters.{says}
use Rattle.history.specs.Moment.{Moment}
use Rattle.history.specs.Order.{Always}
use Rattle.history.specs.Seizing.{Seizing as Told, keys_seized, seizing_of}
use Rattle.history.specs.Trace.{sent}
use Rattle.node_model.specs.declared.node.Node.{Node}
use Rattle.node_model.specs.declared.node.Node.TheVariants.{Down, Up}
use Rattle.world_model.specs.First.{first_cluster}
use Rattle.run_history.specs.Happenings.{Happening, MayAllHappen, all_happened}
use Rattle.run_history.specs.Scenes.{first_scene}
use Rattle.run_devices.specs.readings.Laws.{OfEachScene, told_in}

-- ---- lines

-- what holds of the header and of what was said and told in each run
abbrev pub OfHeaderAndRun : (Header → List Moment → Type 0) → Type 0
OfHeaderAndRun P = (h : Header) (cells : ℕ) (hs : List Happening) → length h.devices ≤ most_devices → h.cluster < 2 ^ 32
    → MayAllHappen (first_cluster h) (first_scene h cells) hs
    → P h (all_happened (first_cluster h) (first_scene h cells) hs).moments

-- no two nodes seized a device for the same membership
abbrev pub OneSeizer : Header → List Moment → Type 0
OneSeizer h moments = (m k e d : ℕ) (one other : List ℕ) → keys_seized h m e d moments ≡ Some one → keys_seized h k e d moments ≡ Some other → m ≡ k

abbrev pub OneSeizerInEachRun : Type 0
OneSeizerInEachRun = OfHeaderAndRun OneSeizer

-- whoever seized a device for e is the seizer that the history has of it, with the keys that it read last
abbrev pub SeizersAreTold : Header → List Moment → Type 0
SeizersAreTold h moments = (n e d : ℕ) (keys : List ℕ) → keys_seized h n e d moments ≡ Some keys
    → seizing_of h e d moments ≡ Some (record { seizer = n; keys = keys })

abbrev pub SeizersAreToldInEachRun : Type 0
SeizersAreToldInEachRun = OfHeaderAndRun SeizersAreTold

-- ---- what an Install brings

abbrev pub ReadIn : Header → List Moment → Option Body → Type 0
ReadIn h before (Some (body.Install i)) = (d : ℕ) (s : Told) → told_in i.readings d ≡ Some s → seizing_of h i.epoch d before ≡ Some s
ReadIn h before _ = Unit {0}

-- the seizing that an Install tells of a device is the one of the history
abbrev pub TellsSeizings : Header → List Moment → Moment → Type 0
TellsSeizings h before (sent p n to called bytes) = ReadIn h before (says bytes)
TellsSeizings h before _ = Unit {0}

abbrev pub InstallsTellSeizings : Type 0
InstallsTellSeizings = OfHeaderAndRun (λ h moments. Always (TellsSeizings h) moments)

-- ---- attempts

-- the attempt asked k last to seize device d, and k has not answered that it is not registered
pub record AskedLast (a : AttemptState) (d k : ℕ) : Type 0 where
  pub entry : Seizing
  pub there : entry_of a.devices d ≡ Some entry
  pub seizer : entry.seizer ≡ Some k
  pub registered : (keys : List ℕ) → entry.result ≡ Some (NotRegistered keys) → ⊥

-- before an attempt installs, whoever seized a device for it is the one that it asked last there
abbrev pub AskedBy : Header → List Moment → Option AttemptState → Type 0
AskedBy h moments None = Unit {0}
AskedBy h moments (Some a) = IsBefore a.phase → (k d : ℕ) (keys : List ℕ) → keys_seized h k a.plan.epoch d moments ≡ Some keys → AskedLast a d k

abbrev pub AskedIn : Header → List Moment → Node → Type 0
AskedIn h moments Down = Unit {0}
AskedIn h moments (Up x) = AskedBy h moments x.attempt

abbrev pub SeizersAreAsked : Type 0
SeizersAreAsked = OfEachScene (λ h s. (n : ℕ) → AskedIn h s.moments (s.nodes.node n))
