-- What is proved of each run of the world, as things that happen: which devices the record of a node holds valid, as the lines tell it.
use Rattle.std.specs.Prelude.{ℕ, ◌≡◌, ◌<◌, ◌≤◌, ◌^◌, Bool, true, false, List, ◌∷◌, length, Option, Some}
use Rattle.cl_base.specs.Limits.{most_devices}
use Rattle.cl_base.specs.Sets.{has}
use Rattle.cl_base.specs.declared.header.Header.{Header}
use Rattle.wire.specs.declared.message.Body.{Body}
use Rattle.wire.specs.declared.message.Body.TheVariants as body
use Rattle.history.specs.Letters.{says}
use Rattle.history.specs.Moment.{Moment}
use Rattle.history.specs.Order.{Always}
use Rattle.history.specs.Trace.{sent}
use Rattle.history.specs.Validated.{Validity, Valid, Lapsed, Open, validity}
use Rattle.node_model.specs.Seats.{record_of}
use Rattle.node_model.specs.declared.node.Node.{Node}
use Rattle.node_model.specs.declared.node.Node.TheVariants.{Down, Up}
use Rattle.world_model.specs.First.{first_cluster}
use Rattle.run_history.specs.Happenings.{Happening, MayAllHappen, all_happened}
use Rattle.run_history.specs.Scenes.{Scene, first_scene}
use Rattle.run_history.specs.Shapes.{Due, IsShaped, ShapedFrom, Want, nothing}
use Rattle.run_history.specs.Shapes as want
use Rattle.run_history.specs.WorldLines.{AreDisks, IsDevice}

-- ---- records

-- whether the device is among the valid ones agrees with what is told
abbrev pub Agrees : Validity → Bool → Type 0
Agrees Valid held = held ≡ true
Agrees Lapsed held = held ≡ false
Agrees Open held = Unit {0}

abbrev pub InMemory : Validity → ℕ → Node → Type 0
InMemory told d Down = Unit {0}
InMemory told d (Up x) = Agrees told (has (record_of x).valid d)

-- the record of node n has device d among its valid ones as `history` says: on its disk, and in memory while it is up
pub record IsTold (h : Header) (s : Scene) (n d : ℕ) : Type 0 where
  pub disk : Agrees (validity h n d s.moments) (has (s.nodes.disk n).kept.valid d)
  pub memory : InMemory (validity h n d s.moments) d (s.nodes.node n)

-- The node has readied itself for its command at a device, which is due: before an `ignore` it has saved that the device is not valid.
abbrev pub IsReadied : ℕ → List Want → Type 0
IsReadied n (want.Command m ∷ wants) = m ≡ n
IsReadied n _ = ⊥

-- At each point of a run, save between the save before an `ignore` and that command, this is so of the record.
abbrev pub ValidityOfEachRun : Type 0
ValidityOfEachRun = (h : Header) (cells : ℕ) (hs : List Happening) (last : Due) → length h.devices ≤ most_devices → h.cluster < 2 ^ 32 → AreDisks h
    → MayAllHappen (first_cluster h) (first_scene h cells) hs → ShapedFrom (first_cluster h) (first_scene h cells) nothing hs last
    → (n d : ℕ) → IsDevice h d → (IsReadied n last.wants → ⊥) → IsTold h (all_happened (first_cluster h) (first_scene h cells) hs) n d

-- ---- Promises

abbrev pub ShowsIn : Header → List Moment → ℕ → Option Body → Type 0
ShowsIn h before n (Some (body.Promise epoch newest members valid flagged committed pending)) = (d : ℕ) → IsDevice h d → Agrees (validity h n d before) (has valid d)
ShowsIn h before n _ = Unit {0}

-- a Promise shows which devices are valid to its sender, as `history` says
abbrev pub ShowsValidity : Header → List Moment → Moment → Type 0
ShowsValidity h before (sent p n to called bytes) = ShowsIn h before n (says bytes)
ShowsValidity h before _ = Unit {0}

abbrev pub PromisesShowValidity : Type 0
PromisesShowValidity = (h : Header) (cells : ℕ) (hs : List Happening) → length h.devices ≤ most_devices → h.cluster < 2 ^ 32 → AreDisks h
    → MayAllHappen (first_cluster h) (first_scene h cells) hs
    → IsShaped (first_cluster h) (first_scene h cells) hs → Always (ShowsValidity h) (all_happened (first_cluster h) (first_scene h cells) hs).moments
