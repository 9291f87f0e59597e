-- What is so of all nodes, of all that was sent, and of the starts, in each scene of a run.
use Rattle.std.specs.Prelude.{ℕ, ◌≡◌, true}
use Rattle.std.specs.List.{AllByRecursion}
use Rattle.attempt_laws.specs.Machine.{is_member}
use Rattle.history.specs.Deeds.{Deed, Started, deeds}
use Rattle.membership_machine.specs.State.{Memberships}
use Rattle.node_model.specs.declared.cluster.Cluster.{Cluster}
use Rattle.refinement.specs.Runs.{Letter, Nodes}
use Rattle.run_history.proofs.StartAttempts.{NodeHolds}
use Rattle.run_history.specs.DeedLines.{Closed}
use Rattle.run_history.specs.Scenes.{Scene}
use Rattle.run_history.specs.Stages.{site_of}
use Rattle.run_lines.specs.writes.Covers.{LetterCovers, NodeApart}
use Rattle.run_lines.specs.writes.Joins.{NodeJoins, SiteDone}
use Rattle.run_lines.specs.writes.Sites.{NodeReady, Ready, TellsReady}

-- the nodes that are ready
abbrev pub DoneIn : Nodes → Ready
DoneIn v n p = SiteDone (site_of v n) p

-- each member of a start is ready
abbrev pub DeedDone : Ready → Deed → Type 0
DeedDone K (Started s updates) = (m : ℕ) → is_member s.members m ≡ true → K m s.epoch
DeedDone K d = Unit {0}

pub record Settled (c : Cluster) (M : Memberships) (s : Scene) : Type 0 where
  pub closed : Closed s.moments
  pub holds : (n : ℕ) → NodeHolds M (s.nodes.node n)
  pub apart : (n : ℕ) → NodeApart (s.nodes.node n)
  pub joins : (n : ℕ) → NodeJoins c M s.moments n (s.nodes.node n)
  pub ready : (n : ℕ) → NodeReady (DoneIn s.nodes) (s.nodes.node n)
  pub covers : AllByRecursion (LetterCovers M) s.nodes.sent
  pub tells : AllByRecursion (λ (l : Letter). TellsReady (DoneIn s.nodes) l.from l.body) s.nodes.sent
  pub deeds_so : AllByRecursion (DeedDone (DoneIn s.nodes)) (deeds s.moments)
