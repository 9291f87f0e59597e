-- When a node's task on a device, and what its record says of the device, are those of the initiator of the abstract machine.
use Rattle.std.specs.Prelude.{ℕ, ◌≡◌, ◌<◌, ◌⊎◌, nat_le, ◌&&◌, Bool, true, false}
use Rattle.cl_base.specs.Sets.{has}
use Rattle.seize.specs.declared.kind.SeizeKind.{SeizeKind}
use Rattle.seize.specs.declared.kind.SeizeKind.TheVariants.{Vote, Plain}
use Rattle.cl_base.specs.Seizings.{SeizeResult}
use Rattle.cl_base.specs.declared.seizing.SeizeEnd.TheVariants.{Held, NotRegistered}
use Rattle.seize.specs.declared.kind.JoinResult.TheVariants.{Joined}
use Rattle.seize.specs.declared.step.SeizeStep.{SeizeStep}
use Rattle.seize.specs.declared.step.SeizeStep.TheVariants.{Check, Register, ReadWord, Swap, Reserve, ReadKeys, Preempt, Confirm, Ended}
use Rattle.seize.specs.declared.step.JoinStep.{JoinStep}
use Rattle.seize.specs.declared.step.JoinStep.TheVariants as join
use Rattle.cl_base.specs.Keys.{key_of}
use Rattle.seize.specs.Seizing.{SeizeState}
use Rattle.seize.specs.Joining.{JoinState}
use Rattle.seize.specs.Shows.{is_vote}
use Rattle.device_machine.specs.Phase.{Phase}
use Rattle.device_machine.specs.Initiator.{Initiator}
use Rattle.device_machine.specs.Sharing.{Sharing}

-- whether a set of an attempt's members has node n; nodes have numbers up to 32
abbrev pub is_member : ℕ → ℕ → Bool
is_member members n = nat_le n 32 && has members n

-- How a seizing ended, in the history of its node too: of all the ways in which it may end the machine tells two from the others.
abbrev pub EndedTied : SeizeResult → Initiator → Type 0
EndedTied (Held keys) v = (v.phase ≡ Phase.Seized) × (v.past.ended v.session ≡ true) × (v.past.seized v.session ≡ true)
EndedTied (NotRegistered keys) v = (v.phase ≡ Phase.Over) × (v.past.ended v.session ≡ true) × (v.past.unregistered v.session ≡ true)
EndedTied result v = (v.phase ≡ Phase.Over) × (v.past.ended v.session ≡ true) × Unit {0}

-- What is told of how the seizing of node n for attempt q ended is so in the machine, and stays so.
abbrev pub ToldSo : Sharing → ℕ → ℕ → SeizeResult → Type 0
ToldSo s q n (Held keys) = ((s.node n).past.ended q ≡ true) × ((s.node n).past.seized q ≡ true)
ToldSo s q n (NotRegistered keys) = ((s.node n).past.ended q ≡ true) × ((s.node n).past.unregistered q ≡ true)
ToldSo s q n result = ((s.node n).past.ended q ≡ true) × Unit {0}

-- How far a seizing has come. Before it registers there is a save, by which the record calls the key not validated, so the initiator stands
-- before that save or after it. A key that is to be preempted is one of the cluster's nodes.
abbrev pub StepTied : SeizeKind → ℕ → SeizeStep → Initiator → Type 0
StepTied kind cluster Check v = (v.phase ≡ Phase.Asked) × (kind ≡ Vote)
StepTied kind cluster Register v = ((v.phase ≡ Phase.Asked) ⊎ ((v.phase ≡ Phase.Untrusted) × (v.valid ≡ false))) × (kind ≡ Plain)
StepTied kind cluster ReadWord v = v.phase ≡ Phase.Keyed
StepTied kind cluster (Swap expected) v = (v.phase ≡ Phase.Swapping) × (v.expected ≡ expected)
StepTied kind cluster Reserve v = v.phase ≡ Phase.Marked
StepTied kind cluster (ReadKeys reading) v = v.phase ≡ Phase.Reserved
StepTied kind cluster (Preempt victim reading) v = (v.phase ≡ Phase.Preempting) × (victim ≡ key_of cluster v.target)
StepTied kind cluster (Confirm keys) v = v.phase ≡ Phase.Cleared
StepTied kind cluster (Ended result) v = EndedTied result v

-- the seizing of node n, of this cluster
pub record SeizingTied (cluster n : ℕ) (s : Sharing) (t : SeizeState) : Type 0 where
  pub me : t.me ≡ n
  pub of_cluster : t.cluster ≡ cluster
  pub session : (s.node n).session ≡ t.epoch
  pub kind : (s.node n).quorum ≡ is_vote t.kind
  pub valid : t.kind ≡ Vote → (s.node n).valid ≡ t.valid
  pub collected : (s.attempt t.epoch).collected ≡ true
  pub members : (m : ℕ) → (s.attempt t.epoch).members m ≡ is_member t.members m
  pub step : StepTied t.kind t.cluster t.step (s.node n)

-- Where the next command registers the key, the record says that it is not validated.
abbrev pub IsSaved : SeizeStep → Bool → Type 0
IsSaved Register validated = validated ≡ false
IsSaved step validated = Unit {0}

abbrev pub JoinStepTied : JoinStep → Initiator → Type 0
JoinStepTied join.Register v = v.phase ≡ Phase.Joining
JoinStepTied join.ReadWord v = v.phase ≡ Phase.Entered
JoinStepTied (join.Ended result) v = v.phase ≡ Phase.Over

-- the joining of node n, of this cluster
pub record JoiningTied (cluster n : ℕ) (s : Sharing) (j : JoinState) : Type 0 where
  pub me : j.me ≡ n
  pub of_cluster : j.cluster ≡ cluster
  pub session : (s.node n).session ≡ j.epoch
  pub step : JoinStepTied j.step (s.node n)

-- A mark of the node, its key validated or the device joined, stands where its joining ended joined, and else where it stood before.
abbrev pub mark_after : JoinStep → Bool → Bool
mark_after (join.Ended Joined) b = true
mark_after step b = b

-- what a node has to do on a device, or has done, in its session
pub data Task : Type 0 where
  Idle : Task
  Seizes : (t : SeizeState) → Task
  Joins : (j : JoinState) → Task

-- With no task nothing was begun, as long as the attempt is not installed.
abbrev pub TaskTied : ℕ → ℕ → Sharing → Task → Type 0
TaskTied cluster n s Idle = (s.node n).installed < (s.node n).session → (s.node n).phase ≡ Phase.Idle
TaskTied cluster n s (Seizes t) = SeizingTied cluster n s t
TaskTied cluster n s (Joins j) = JoiningTied cluster n s j

-- Node n at the device: whether its record calls its key there validated, whether it has joined, and its task.
pub record AtDevice (cluster n : ℕ) (s : Sharing) (validated has_joined : Bool) (has_to : Task) : Type 0 where
  pub valid : (s.node n).valid ≡ validated
  pub joined : (s.node n).joined ≡ has_joined
  pub task : TaskTied cluster n s has_to
