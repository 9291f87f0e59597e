-- Courses that do nothing at devices: their outputs are quiet, and the devices that they name are known.
use Rattle.std.specs.Prelude.{ℕ, ◌≡◌, true}
use Rattle.std.specs.List.{AllByRecursion}
use Rattle.cl_base.specs.Sets.{has}
use Rattle.cl_base.specs.declared.panic.Panic.TheVariants as panic
use Rattle.cmm_attempt.specs.Calls.{turn}
use Rattle.status_report.specs.declared.entry.Entry.{Entry}
use Rattle.status_report.specs.declared.entry.Entry.TheVariants as entry
use Rattle.status_report.specs.declared.node_entry.DownCause.{DownCause}
use Rattle.status_report.specs.declared.node_entry.DownCause.TheVariants as down
use Rattle.node_model.specs.declared.cluster.Cluster.{Cluster}
use Rattle.node_model.specs.declared.output.Output.{Output}
use Rattle.node_model.specs.declared.output.Output.TheVariants.{Tells, Sends}
use Rattle.refinement.specs.Courses.{Course}
use Rattle.refinement.specs.Courses.Course.{Acts, Falls, Keeps, Stops}
use Rattle.refinement.specs.Doings.{Act, Change}
use Rattle.refinement.specs.Doings.Act.{Accepts, Gives, Goes_on, Makes, Queues, Stores, Takes}
use Rattle.refinement.specs.Doings.Change.{Admits, Counts, Sits, Starts}
use Rattle.run_history.specs.Names.{AttachedOf, AttemptNames}

-- what D holds of has a number that the cluster knows, or a node is attached to it
pub record Knows (c : Cluster) (D : ℕ → Type 0) : Type 0 where
  pub listed : (d : ℕ) → has c.devices d ≡ true → D d
  pub attached : AllByRecursion (AttachedOf D) c.attached

-- answers, lines of queries, calls of methods, and clients of addresses
abbrev pub IsAside : Entry → Type 0
IsAside (entry.Command e) = Unit {0}
IsAside (entry.Status e) = Unit {0}
IsAside (entry.Call e) = Unit {0}
IsAside (entry.Address e) = Unit {0}
IsAside _ = ⊥

abbrev pub GivesAside : Output → Type 0
GivesAside (Tells e) = IsAside e
GivesAside (Sends to b) = Unit {0}

abbrev pub ChangesSo : (ℕ → Type 0) → Change → Type 0
ChangesSo D (Admits at command a d) = ⊥
ChangesSo D (Counts a k s i) = AttemptNames D a
ChangesSo D (Starts a k s) = s.session ≡ (turn a k).after.plan.epoch
ChangesSo D (Sits s e) = s.session ≡ e
ChangesSo D _ = Unit {0}

abbrev pub ActsSo : (ℕ → Type 0) → Act → Type 0
ActsSo D (Takes at command a) = ⊥
ActsSo D (Stores d value a) = ⊥
ActsSo D (Goes_on a k) = AttemptNames D a
ActsSo D (Queues a d kind) = D d
ActsSo D (Accepts kind e members d) = D d
ActsSo D (Makes change) = ChangesSo D change
ActsSo D (Gives os) = AllByRecursion GivesAside os
ActsSo D _ = Unit {0}

-- a node falls by its own step where an attempt excludes it, or where a method of its own must stop it
abbrev pub IsOwnFall : DownCause → Type 0
IsOwnFall (down.Panic (panic.Excluded f)) = Unit {0}
IsOwnFall (down.Panic (panic.Stop resource)) = Unit {0}
IsOwnFall _ = ⊥

abbrev pub IsOrdinary : (ℕ → Type 0) → Course → Type 0
IsOrdinary D Stops = Unit {0}
IsOrdinary D (Acts a rest) = ActsSo D a × IsOrdinary D rest
IsOrdinary D (Keeps change rest) = ChangesSo D change × IsOrdinary D rest
IsOrdinary D (Falls why) = IsOwnFall why
