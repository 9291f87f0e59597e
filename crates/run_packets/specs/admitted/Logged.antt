-- What was sent of updates, against the machine of memberships: the log of the membership up to that update is not bad.
use Rattle.std.specs.Prelude.{ℕ, ◌≡◌, ◌≤◌, true, List, length, take, is_some}
use Rattle.std.specs.List.{AllByRecursion}
use Rattle.membership_machine.specs.Invariant.{Holds}
use Rattle.membership_machine.specs.State.{Memberships}
use Rattle.node_model.specs.declared.cluster.Cluster.{Cluster}
use Rattle.node_model.specs.declared.output.Output.{Output}
use Rattle.node_model.specs.declared.output.Output.TheVariants.{Sends, Tells}
use Rattle.refinement.specs.Doings.{site}
use Rattle.refinement.specs.Runs.{Letter, Nodes}
use Rattle.refinement.specs.Ties.{MessageTold, SiteTied, setting_of}
use Rattle.update_log.specs.Logs.{config_after}
use Rattle.wire.specs.declared.message.Body.{Body}
use Rattle.wire.specs.declared.message.Body.TheVariants as body

-- a Prepare is of a place of the log, and the updates up to it make a configuration
abbrev pub PlaceLogged : Cluster → Memberships → ℕ → ℕ → Type 0
PlaceLogged c M e place = (1 ≤ place) × (place ≤ length (M.epoch e).log) × (is_some (config_after c.header (take place (M.epoch e).log)) ≡ true)

abbrev pub BodyLogged : Cluster → Memberships → Body → Type 0
BodyLogged c M (body.Prepare e place text) = PlaceLogged c M e place
BodyLogged c M _ = Unit {0}

abbrev pub OutputLogged : Cluster → Memberships → Output → Type 0
OutputLogged c M (Tells e) = Unit {0}
OutputLogged c M (Sends to b) = BodyLogged c M b

abbrev pub AllLogged : Cluster → Memberships → List Output → Type 0
AllLogged c M os = AllByRecursion (OutputLogged c M) os

abbrev pub LetterLogged : Cluster → Memberships → Letter → Type 0
LetterLogged c M l = MessageTold M l.from l.body × BodyLogged c M l.body

-- there is a machine in which all nodes with their disks are tied, and all that was ever sent is so
pub record RunLogged (c : Cluster) (v : Nodes) : Type 0 where
  pub machine : Memberships
  pub holds : Holds (setting_of c) machine
  pub tied : (n : ℕ) → SiteTied c machine n (site (v.node n) (v.disk n).kept)
  pub sent : AllByRecursion (LetterLogged c machine) v.sent
