-- Each run of the world is things that happen, one after another.
use Rattle.std.specs.Prelude.{ℕ, ◌≡◌, ◌≤◌, ◌<◌, ◌^◌, ◌++◌, List, [], ◌∷◌, length}
use Rattle.std.specs.List.{AllByRecursion}
use Rattle.agents.specs.Calls.{AgentState}
use Rattle.cl_base.specs.Limits.{most_devices, most_nodes}
use Rattle.cl_base.specs.declared.header.Header.{Header}
use Rattle.schedule_text.specs.declared.event.Event.{Event}
use Rattle.schedule_text.specs.declared.event.Event.TheVariants as event
use Rattle.schedule_text.specs.declared.line.Line.{Line}
use Rattle.schedule_text.specs.declared.line.Line.TheVariants as line
use Rattle.history.specs.Moment.{lines_of}
use Rattle.world_model.specs.First.{first_cluster, first_world}
use Rattle.world_model.specs.Worlds.{Play, WorldState, play}
use Rattle.node_model.specs.declared.cluster.Cluster.{Cluster}
use Rattle.refinement.specs.Worlds.{IsNamed, Shows, lines_on}
use Rattle.run_history.specs.Happenings.{Happening, IsKept, MayAllHappen, all_happened}
use Rattle.run_history.specs.Scenes.{Scene, first_scene, text_of}
use Rattle.run_history.specs.Shapes.{IsShaped}

-- a boot is of a node of the header, and a fault of a node and a device
abbrev pub IsInHeader : Header → Event → Type 0
IsInHeader h (event.Boot n) = n ≤ h.nodes
IsInHeader h (event.Fault n d done) = (1 ≤ n) × (n ≤ h.nodes) × (1 ≤ d) × (d ≤ length h.devices)
IsInHeader h e = Unit {0}

-- the world is that of the scene
pub record IsSeen (c : Cluster) (w : WorldState) (s : Scene) : Type 0 where
  pub nodes : Shows c w s.nodes
  pub devices : w.devices ≡ s.devices
  pub faults : w.faults ≡ s.faults
  pub links : w.links ≡ s.links

-- the lines of these events, newest first, once these stood
abbrev pub lines_upon : List Line → List Event → List Line
lines_upon before [] = before
lines_upon before (e ∷ events) = lines_upon (line.Event e ∷ before) events

-- The lines lead to this play by things that happen, each of which is due when it comes: the world is that of the scene, exactly these lines were said, and
-- what was told is what is printed after the text that stood before.
pub record IsTold (h : Header) (cells : ℕ) (before : List ℕ) (events : List Event) (p : Play) : Type 0 where
  pub happenings : List Happening
  pub may : MayAllHappen (first_cluster h) (first_scene h cells) happenings
  pub shaped : IsShaped (first_cluster h) (first_scene h cells) happenings
  pub seen : IsSeen (first_cluster h) p.world (all_happened (first_cluster h) (first_scene h cells) happenings)
  pub said : lines_of (all_happened (first_cluster h) (first_scene h cells) happenings).moments ≡ lines_upon [] events
  pub text : p.text ≡ before ++ text_of (all_happened (first_cluster h) (first_scene h cells) happenings).moments

abbrev pub WorldsAreTold : Type 0
WorldsAreTold = (h : Header) (cells : ℕ) (agents : List AgentState) (text : List ℕ) (events : List Event) → h.nodes ≤ most_nodes → length h.devices ≤ most_devices → h.cluster < 2 ^ 32
    → AllByRecursion IsNamed events → AllByRecursion (IsInHeader h) events → IsTold h cells text events (lines_on events (play (first_world h cells agents) text))

-- What each thing that happens keeps, and holds at first, holds after all of them.
abbrev pub KeptHolds : Type 1
KeptHolds = (c : Cluster) (P : Scene → Type 0) → IsKept c P → (s : Scene) (hs : List Happening) → MayAllHappen c s hs → P s → P (all_happened c s hs)
