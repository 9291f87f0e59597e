-- The events of the machine of memberships that a run is: each step of a node is cut into small steps, and each of these is events.
use Rattle.std.specs.Prelude.{ℕ, List, [], ◌∷◌, ◌++◌}
use Rattle.cl_base.specs.declared.method.Outcome.{Outcome}
use Rattle.pgr_device.specs.declared.command.PrCommand.TheVariants as command
use Rattle.membership_machine.specs.Events.{Event}
use Rattle.node_model.specs.declared.cluster.Cluster.{Cluster}
use Rattle.node_model.specs.declared.input.Input.{Input}
use Rattle.node_model.specs.declared.input.Input.TheVariants as input
use Rattle.node_model.specs.Steps.{stepped}
use Rattle.refinement.specs.Cuts.{doings}
use Rattle.refinement.specs.Events.{of_doings}
use Rattle.refinement.specs.Runs.{Nodes}
use Rattle.refinement.specs.Steps.{IsCut, disk_rules}
use Rattle.run_history.specs.Happenings.{Happening, commanded, happened}
use Rattle.run_history.specs.Happenings.Happening.{Arrives, Begins, Commands, Loses, Misses, Notes, Refuses, Repeats, Speaks, Strays, Takes, Writes}
use Rattle.run_history.specs.Scenes.{Scene}

-- how the step of a node is cut: what its disk replies to each save
abbrev pub StepCut : Cluster → ℕ → ℕ → Outcome → Nodes → Input → Type 0
StepCut c n now ends v i = IsCut disk_rules c n now ends (v.node n) (v.disk n) i [] (stepped disk_rules c n now ends (v.node n) (v.disk n) i)

abbrev pub step_events : (c : Cluster) (n now : ℕ) (ends : Outcome) (v : Nodes) (i : Input) → StepCut c n now ends v i → List Event
step_events c n now ends v i cut = of_doings n (doings c n now ends cut.replies i (v.node n))

-- of what happens
abbrev pub Cut : Cluster → Scene → Happening → Type 0
Cut c s (Speaks e) = Unit {0}
Cut c s (Begins e) = Unit {0}
Cut c s (Notes e) = Unit {0}
Cut c s (Takes n now ends i) = StepCut c n now ends s.nodes i
Cut c s (Arrives number x m now ends) = StepCut c x.to now ends s.nodes (input.Packet x.from m)
Cut c s (Strays number x) = Unit {0}
Cut c s (Misses number x) = Unit {0}
Cut c s (Loses number x) = Unit {0}
Cut c s (Repeats number x) = Unit {0}
Cut c s (Commands n d k now ends) = StepCut c n now ends s.nodes (input.Answered (commanded s n d k).answer)
Cut c s (Writes n d value now ends) = StepCut c n now ends s.nodes (input.Wrote d value (commanded s n d (command.Write value)).answer)
Cut c s (Refuses n d value cause) = Unit {0}

abbrev pub events_of : (c : Cluster) (s : Scene) (h : Happening) → Cut c s h → List Event
events_of c s (Speaks e) cut = []
events_of c s (Begins e) cut = []
events_of c s (Notes e) cut = []
events_of c s (Takes n now ends i) cut = step_events c n now ends s.nodes i cut
events_of c s (Arrives number x m now ends) cut = step_events c x.to now ends s.nodes (input.Packet x.from m) cut
events_of c s (Strays number x) cut = []
events_of c s (Misses number x) cut = []
events_of c s (Loses number x) cut = []
events_of c s (Repeats number x) cut = []
events_of c s (Commands n d k now ends) cut = step_events c n now ends s.nodes (input.Answered (commanded s n d k).answer) cut
events_of c s (Writes n d value now ends) cut =
    step_events c n now ends s.nodes (input.Wrote d value (commanded s n d (command.Write value)).answer) cut
events_of c s (Refuses n d value cause) cut = []

-- of a run
abbrev pub Cuts : Cluster → Scene → List Happening → Type 0
Cuts c s [] = Unit {0}
Cuts c s (h ∷ hs) = Cut c s h × Cuts c (happened c s h) hs

abbrev pub all_events : (c : Cluster) (s : Scene) (hs : List Happening) → Cuts c s hs → List Event
all_events c s [] cuts = []
all_events c s (h ∷ hs) cuts = events_of c s h cuts.0 ++ all_events c (happened c s h) hs cuts.1
