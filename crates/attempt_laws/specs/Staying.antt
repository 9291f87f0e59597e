-- What stays of an attempt from one call to the next.
use Rattle.std.specs.Prelude.{ℕ, ◌≡◌, ◌⊎◌, List, Some}
use Rattle.cl_base.specs.Limits.{most_nodes}
use Rattle.cl_base.specs.Numbers.{numbers_to}
use Rattle.wire.specs.declared.message.Install.{Install}
use Rattle.wire.specs.declared.message.Message.{Message}
use Rattle.cmm_attempt.specs.declared.attached.AttachedDevice.{AttachedDevice}
use Rattle.cmm_attempt.specs.declared.phase.Phase.{Phase}
use Rattle.cmm_attempt.specs.declared.phase.Phase.TheVariants.{Collecting, Choosing, SeizingVotes, SeizingOthers, Installing, Over}
use Rattle.cmm_attempt.specs.Attempts.{AttemptState, beginning, install_in}
use Rattle.cmm_attempt.specs.Calls.{Call, turn, May, IsReached, installs_in}

-- before the phase of installing
abbrev pub IsBefore : Phase → Type 0
IsBefore Collecting = Unit {0}
IsBefore Choosing = Unit {0}
IsBefore SeizingVotes = Unit {0}
IsBefore SeizingOthers = Unit {0}
IsBefore Installing = ⊥
IsBefore Over = ⊥

-- the newest record is chosen
abbrev pub IsKnown : Phase → Type 0
IsKnown Collecting = ⊥
IsKnown Choosing = Unit {0}
IsKnown SeizingVotes = Unit {0}
IsKnown SeizingOthers = Unit {0}
IsKnown Installing = Unit {0}
IsKnown Over = Unit {0}

-- the votes were given
abbrev pub IsPast : Phase → Type 0
IsPast Collecting = ⊥
IsPast Choosing = ⊥
IsPast SeizingVotes = Unit {0}
IsPast SeizingOthers = Unit {0}
IsPast Installing = Unit {0}
IsPast Over = Unit {0}

-- it installs, or is over
abbrev pub IsFinal : Phase → Type 0
IsFinal Collecting = ⊥
IsFinal Choosing = ⊥
IsFinal SeizingVotes = ⊥
IsFinal SeizingOthers = ⊥
IsFinal Installing = Unit {0}
IsFinal Over = Unit {0}

-- what an attempt is of
pub record IsOf (s : AttemptState) (p members : ℕ) (own : Message) (attached : List AttachedDevice) (cluster : ℕ) : Type 0 where
  pub of_epoch : s.plan.epoch ≡ p
  pub of_coordinator : s.plan.coordinator ≡ own.sender
  pub of_members : s.plan.members ≡ members
  pub of_nodes : s.plan.nodes ≡ numbers_to members most_nodes
  pub of_attached : s.plan.attached ≡ attached
  pub of_cluster : s.plan.cluster ≡ cluster

-- The laws.

abbrev pub PlanBegins : Type 0
PlanBegins = (p members : ℕ) (own : Message) (attached : List AttachedDevice) (cluster : ℕ)
    → IsOf (beginning p members own attached cluster).after p members own attached cluster

abbrev pub PlanStays : Type 0
PlanStays = (s : AttemptState) (c : Call) → May s c → (turn s c).after.plan ≡ s.plan

-- the newest record, and the Promises, once all have promised
abbrev pub NewestStays : Type 0
NewestStays = (s : AttemptState) (c : Call) → May s c → IsKnown s.phase → ((turn s c).after.newest ≡ s.newest) × ((turn s c).after.promises ≡ s.promises)

abbrev pub VotesStay : Type 0
VotesStay = (s : AttemptState) (c : Call) → May s c → IsPast s.phase → (turn s c).after.votes ≡ s.votes

-- past the votes it never goes back
abbrev pub PastStays : Type 0
PastStays = (s : AttemptState) (c : Call) → May s c → IsPast s.phase → IsPast (turn s c).after.phase

abbrev pub InstallsComeBefore : Type 0
InstallsComeBefore = (s : AttemptState) (c : Call) (i : Install) → IsReached s → May s c → installs_in (turn s c).steps ≡ Some i → IsBefore s.phase

-- from then on the phase stays, until the attempt is over, and what the install carries stays
abbrev pub FinalStays : Type 0
FinalStays = (s : AttemptState) (c : Call) → May s c → s.phase ≡ Installing → ((turn s c).after.phase ≡ Installing) ⊎ ((turn s c).after.phase ≡ Over)

abbrev pub GrantedStays : Type 0
GrantedStays = (s : AttemptState) (c : Call) → May s c → s.phase ≡ Installing → install_in (turn s c).after ≡ install_in s
