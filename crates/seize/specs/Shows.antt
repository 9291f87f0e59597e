-- How a task shows as the task of an initiator of the abstract device, and what each answer makes of that one.
use Rattle.std.specs.Prelude.{◌≡◌, Bool, true, false, Ok}
use Rattle.pgr_device.specs.declared.command.PrAnswer.TheVariants as answer
use Rattle.device_machine.specs.Phase.{Phase}
use Rattle.device_machine.specs.Initiator.{Initiator, to_phase, unvalidated, expecting, marking, marking_lost, aiming, holding, rejecting, ending, admitted}
use Rattle.seize.specs.declared.kind.SeizeKind.{SeizeKind}
use Rattle.seize.specs.declared.kind.SeizeKind.TheVariants.{Vote, Plain}
use Rattle.cl_base.specs.declared.seizing.SeizeEnd.TheVariants.{Held, NotRegistered}
use Rattle.seize.specs.declared.kind.JoinResult.TheVariants.{Joined}
use Rattle.seize.specs.declared.step.SeizeStep.{SeizeStep}
use Rattle.seize.specs.declared.step.SeizeStep.TheVariants.{Check, Register, ReadWord, Swap, Reserve, ReadKeys, Preempt, Confirm, Ended}
use Rattle.seize.specs.declared.step.JoinStep.{JoinStep}
use Rattle.seize.specs.declared.step.JoinStep.TheVariants as join
use Rattle.seize.specs.Answers.{Answer}
use Rattle.seize.specs.Keys.{node_of}
use Rattle.seize.specs.Seizing.{SeizeState, next_step}
use Rattle.seize.specs.Joining as Joining

abbrev pub is_vote : SeizeKind → Bool
is_vote Vote = true
is_vote Plain = false

-- Before its first command a seizing without votes shows as Asked: that the record calls the key not validated comes in the event of that
-- command. A key to preempt that no node of the cluster has shows as the target of a number that no node has.
abbrev pub ShowsStep : SeizeState → SeizeStep → Initiator → Type 0
ShowsStep s Check v = v.phase ≡ Phase.Asked
ShowsStep s Register v = v.phase ≡ Phase.Asked
ShowsStep s ReadWord v = v.phase ≡ Phase.Keyed
ShowsStep s (Swap expected) v = (v.phase ≡ Phase.Swapping) × (v.expected ≡ expected)
ShowsStep s Reserve v = v.phase ≡ Phase.Marked
ShowsStep s (ReadKeys reading) v = v.phase ≡ Phase.Reserved
ShowsStep s (Preempt victim reading) v = (v.phase ≡ Phase.Preempting) × (v.target ≡ node_of s.cluster victim)
ShowsStep s (Confirm keys) v = v.phase ≡ Phase.Cleared
ShowsStep s (Ended (Held keys)) v = v.phase ≡ Phase.Seized
ShowsStep s (Ended result) v = v.phase ≡ Phase.Over

pub record Shows (s : SeizeState) (v : Initiator) : Type 0 where
  pub session : v.session ≡ s.epoch
  pub quorum : v.quorum ≡ is_vote s.kind
  pub valid : s.kind ≡ Vote → v.valid ≡ s.valid
  pub step : ShowsStep s s.step v

-- what the initiator is when the seizing comes to a step; no answer leads to the first one
abbrev pub arrived : SeizeState → SeizeStep → Initiator → Initiator
arrived s Check v = to_phase v Phase.Asked
arrived s Register v = to_phase v Phase.Asked
arrived s ReadWord v = to_phase v Phase.Keyed
arrived s (Swap expected) v = expecting v expected
arrived s Reserve v = to_phase v Phase.Marked
arrived s (ReadKeys reading) v = to_phase v Phase.Reserved
arrived s (Preempt victim reading) v = aiming v (node_of s.cluster victim)
arrived s (Confirm keys) v = to_phase v Phase.Cleared
arrived s (Ended (Held keys)) v = holding v
arrived s (Ended (NotRegistered keys)) v = rejecting v
arrived s (Ended result) v = ending v

-- What an answer makes of the initiator. The record calls the key not validated before it is registered, and a good swap is known to be
-- the own one.
abbrev pub answered : SeizeState → SeizeStep → Answer → Initiator → Initiator
answered s Register a v = arrived s (next_step s Register a) (unvalidated v)
answered s (Swap expected) (Ok answer.Good) v = marking v
answered s step a v = arrived s (next_step s step a) v

-- what a failure makes of it where the command was done
abbrev pub lost : SeizeStep → Initiator → Initiator
lost Register v = ending (unvalidated v)
lost (Swap expected) v = marking_lost v
lost step v = ending v

abbrev pub ShowsJoinStep : JoinStep → Initiator → Type 0
ShowsJoinStep join.Register v = v.phase ≡ Phase.Joining
ShowsJoinStep join.ReadWord v = v.phase ≡ Phase.Entered
ShowsJoinStep (join.Ended Joined) v = (v.phase ≡ Phase.Over) × (v.joined ≡ true) × (v.valid ≡ true)
ShowsJoinStep (join.Ended result) v = v.phase ≡ Phase.Over

pub record ShowsJoin (s : Joining.JoinState) (v : Initiator) : Type 0 where
  pub session : v.session ≡ s.epoch
  pub step : ShowsJoinStep s.step v

-- what the initiator is when the joining comes to a step. A key that was registered while the answer was lost makes no difference to it.
abbrev pub join_arrived : JoinStep → Initiator → Initiator
join_arrived join.Register v = to_phase v Phase.Joining
join_arrived join.ReadWord v = to_phase v Phase.Entered
join_arrived (join.Ended Joined) v = admitted v
join_arrived (join.Ended result) v = to_phase v Phase.Over
