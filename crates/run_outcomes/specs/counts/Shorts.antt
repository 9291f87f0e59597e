-- Why an attempt ends for want of votes: before anything was seized, or once each quorum device that a member reaches was tried.
use Rattle.std.specs.Prelude.{ℕ, ◌≡◌, ◌≤◌, ◌⊎◌, ◌&&◌, Bool, true, List, [], filter, length, map, Option, None, Some}
use Rattle.cl_base.specs.declared.header.Header.{Header}
use Rattle.cmm_attempt.specs.Attempts.{AttemptState}
use Rattle.cmm_attempt.specs.Counts.{first_short, is_enabled, is_quorum, reached_set, votes_end}
use Rattle.cmm_attempt.specs.Plans.{is_reachable}
use Rattle.cmm_attempt.specs.Seizings.{all_settled, held_set}
use Rattle.cmm_attempt.specs.declared.attached.AttachedDevice.{AttachedDevice}
use Rattle.cmm_attempt.specs.declared.counting.BothVotes.{BothVotes}
use Rattle.cmm_attempt.specs.declared.plan.Plan.{Plan}
use Rattle.cmm_attempt.specs.declared.seizing.Seizing.{Seizing}
use Rattle.cmm_attempt.specs.declared.step.AttemptEnd.{AttemptEnd}
use Rattle.node_model.specs.declared.cluster.Cluster.{Cluster}
use Rattle.node_model.specs.declared.node.Node.{Node}
use Rattle.node_model.specs.declared.node.Node.TheVariants.{Down, Up}
use Rattle.quorum_votes.specs.Tables.{VoteTable}

-- the devices that are to be seized for their votes
abbrev pub is_sought : Plan → BothVotes → AttachedDevice → Bool
is_sought plan both a = is_quorum both a.device && is_reachable plan a

abbrev pub attached_of : List Seizing → List AttachedDevice
attached_of ds = map (λ (e : Seizing). e.attached) ds

-- nothing was seized: each device that a member reaches counts
abbrev pub IsPossible : AttemptState → ℕ → Type 0
IsPossible s set = (set ≡ reached_set s.plan) × (s.devices ≡ [])

-- each seizing has ended: those that are held count
abbrev pub IsSettled : AttemptState → BothVotes → ℕ → Type 0
IsSettled s both set = (set ≡ held_set s.devices) × (all_settled s.devices ≡ true) × (attached_of s.devices ≡ filter (is_sought s.plan both) s.plan.attached)

-- the end tells what is lacking, with these devices, of the first votes that are too few
pub record ShortBy (s : AttemptState) (why : AttemptEnd) : Type 0 where
  pub both : BothVotes
  pub given : s.votes ≡ Some both
  pub set : ℕ
  pub v : VoteTable
  pub short : first_short both s.plan.members set ≡ Some v
  pub is : why ≡ votes_end s.plan s.devices set v
  pub stage : IsPossible s set ⊎ IsSettled s both set

-- ---- the devices

-- a device that is enabled under these votes is one of the header
abbrev pub IsPlaced : Header → VoteTable → Type 0
IsPlaced h v = (d : ℕ) → 1 ≤ d → is_enabled v d ≡ true → d ≤ length h.devices

-- the attempt of a node is over the devices of the cluster
abbrev pub AttemptPlanned : Cluster → Option AttemptState → Type 0
AttemptPlanned c None = Unit {0}
AttemptPlanned c (Some a) = a.plan.attached ≡ c.attached

abbrev pub NodePlanned : Cluster → Node → Type 0
NodePlanned c Down = Unit {0}
NodePlanned c (Up x) = AttemptPlanned c x.attempt
