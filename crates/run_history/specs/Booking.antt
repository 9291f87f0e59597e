-- A scene that is booked in a state of the machine of memberships.
use Rattle.std.specs.Prelude.{ℕ, List}
use Rattle.std.specs.List.{AllByRecursion}
use Rattle.history.specs.Deeds.{Deed, deeds}
use Rattle.membership_machine.specs.Events.{Event, Run}
use Rattle.membership_machine.specs.Invariant.{Holds}
use Rattle.membership_machine.specs.State.{Memberships}
use Rattle.node_model.specs.declared.cluster.Cluster.{Cluster}
use Rattle.node_model.specs.declared.output.Output.{Output}
use Rattle.refinement.specs.Doings.{Site}
use Rattle.refinement.specs.Runs.{Letter}
use Rattle.refinement.specs.Ties.{GoesOn, MessageTold, setting_of}
use Rattle.refinement.specs.Whole.{Stands}
use Rattle.run_history.specs.Scenes.{Scene}
use Rattle.run_history.specs.Book.{Ledger}
use Rattle.run_history.specs.DeedLines.{Closed}

-- each node with its disk is tied, all that was ever sent is true, no `base` line is due, and the lines of memberships tell of the state
pub record Booking (c : Cluster) (s : Scene) (M : Memberships) : Type 0 where
  pub holds : Holds (setting_of c) M
  pub stands : (n : ℕ) → Stands c M n (s.nodes.node n) (s.nodes.disk n).kept
  pub sent : AllByRecursion (λ (l : Letter). MessageTold M l.from l.body) s.nodes.sent
  pub closed : Closed s.moments
  pub ledger : Ledger (setting_of c) M (deeds s.moments)

-- by these events the machine comes to a state in which the scene is booked
pub record Books (c : Cluster) (t : Scene) (M : Memberships) (events : List Event) : Type 0 where
  pub machine : Memberships
  pub run : Run (setting_of c) M events machine
  pub booking : Booking c t machine

-- small steps of a node go on in the machine, and these deeds tell of the state then
pub record Keeps (c : Cluster) (M : Memberships) (n : ℕ) (y : Site) (os : List Output) (events : List Event) (ds : List Deed) : Type 0 where
  pub goes : GoesOn c M n y os events
  pub ledger : Ledger (setting_of c) goes.machine ds
