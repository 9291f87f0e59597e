-- What messages tell of devices, as laws: it stays so, it is what a call takes, and what an attempt and a node send is so.
use Rattle.std.specs.Prelude.{ℕ, ◌≡◌, ◌≤◌, true, Some}
use Rattle.attempt_laws.specs.Asking.{AsksAt, EndedSo, IsToldAt}
use Rattle.attempt_laws.specs.Machine.{MachineHas}
use Rattle.cluster_machine.specs.Cluster.{Cluster as Whole}
use Rattle.cl_base.specs.Seizings.{SeizeResult}
use Rattle.cmm_attempt.specs.declared.step.Step.TheVariants as step
use Rattle.cmm_attempt.specs.Attempts.{AttemptState}
use Rattle.cmm_attempt.specs.Calls.{Take}
use Rattle.device_queue.specs.Queue.{kept_of}
use Rattle.membership_machine.specs.Votes.{Setting}
use Rattle.node_model.specs.declared.cluster.Cluster.{Cluster}
use Rattle.node_model.specs.declared.node.UpNode.{UpNode}
use Rattle.node_model.specs.Attempts.{promise_of}
use Rattle.seize.specs.declared.kind.SeizeKind.{SeizeKind}
use Rattle.seize.specs.declared.kind.SeizeKind.TheVariants.{Vote, Plain}
use Rattle.wire.specs.declared.message.Body.{Body}
use Rattle.wire.specs.declared.message.Body.TheVariants as body
use Rattle.wire.specs.declared.message.Message.{Message}
use Rattle.cluster_ties.specs.Ties.{UpAt}
use Rattle.cluster_ties.specs.Moves.{IsReached, Moves}
use Rattle.cluster_ties.specs.Laws.{AreRead, IsAskedTo}

-- What a message of node `from` to node `to` tells: a Promise, that its sender promised the number, at each device; a Seized, how the sender's seizing
-- ended; a request, that the machine has its receiver as asked; an Install, what was read on the devices that are held.
abbrev pub ToldOf : Whole → ℕ → ℕ → Body → Type 0
ToldOf W from to (body.Promise epoch installed members valid flagged committed pending) = (d : ℕ) → epoch ≤ ((W.device d).node from).promised
ToldOf W from to (body.Seized epoch d outcome) = EndedSo (W.device d) epoch from outcome
ToldOf W from to (body.SeizeQuorum epoch members d) = IsAskedTo (W.device d) epoch members to Vote
ToldOf W from to (body.SeizeData epoch members d) = IsAskedTo (W.device d) epoch members to Plain
ToldOf W from to (body.Install i) = ((d : ℕ) → ((W.device d).attempt i.epoch).counted ≡ true) × AreRead W i.epoch i.readings
ToldOf W from to _ = Unit {0}

abbrev pub ToldOfStays : Type 0
ToldOfStays = (S : Setting) (W V : Whole) (n from to : ℕ) (b : Body) → IsReached S W → Moves S W n V → ToldOf W from to b → ToldOf V from to b

-- A call that takes the message is told what is so.
abbrev pub TakesAreTold : Type 0
TakesAreTold = (W : Whole) (a : AttemptState) (from to d : ℕ) (m : Message) → ToldOf W from to m.body → IsToldAt (W.device d) a d (Take from m)

-- A request that an attempt sends, or has for its own node, is so, where the machine has the attempt with all that its steps ask for.
abbrev pub IsRequest : Body → Type 0
IsRequest (body.SeizeQuorum epoch members d) = Unit {0}
IsRequest (body.SeizeData epoch members d) = Unit {0}
IsRequest _ = ⊥

abbrev pub RequestsAreTold : Type 0
RequestsAreTold = (S : Setting) (W : Whole) (t : AttemptState) (from to : ℕ) (m : Message) → IsReached S W → MachineHas W.memberships t
    → ((d : ℕ) → AsksAt (W.device d) t.plan d (step.Send to m)) → IsRequest m.body → ToldOf W from to m.body

abbrev pub OwnRequestsAreTold : Type 0
OwnRequestsAreTold = (S : Setting) (W : Whole) (t : AttemptState) (d : ℕ) (kind : SeizeKind) → IsReached S W → MachineHas W.memberships t
    → AsksAt (W.device d) t.plan d (step.SeizeHere d kind) → IsAskedTo (W.device d) t.plan.epoch t.plan.members t.plan.coordinator kind

-- A Promise of a number that the node has promised, or a smaller one, and how a seizing of its session ended are so.
abbrev pub PromisesAreTold : Type 0
PromisesAreTold = (S : Setting) (W : Whole) (n to p : ℕ) (x : UpNode) → IsReached S W → p ≤ (W.memberships.node n).promised → ToldOf W n to (promise_of x p)

abbrev pub ResultsAreTold : Type 0
ResultsAreTold = (c : Cluster) (W : Whole) (n d : ℕ) (x : UpNode) (r : SeizeResult) → UpAt c W n x → kept_of x.tasks d ≡ Some r → EndedSo (W.device d) ((W.device d).node n).session n r
